-- Masks of lanes that are below a byte, or not.
use Rattle.std.proofs.Common.{◌≡◌, ℕ, zero, suc, ◌<◌, ◌≤◌, ◌%◌, Bool, true, false, cond, List, [], ◌∷◌, length, get_or, map, w8, refl, ap, ◌∙◌, arith}
use Rattle.std.specs.Int.{bit_at}
use Rattle.std.specs.Simd.Lanes.{mask_l, zip2, top}
use Rattle.std.proofs.lemmas.Simd.{bit_mask_l, tops_compared, mask_l-mod, get_or-zip2}
use Rattle.std.proofs.lemmas.List.{get_or-map}

pub lane_bit : (f : ℕ → Bool) (bytes : List ℕ) (k : ℕ) → k < length bytes → bit_at (mask_l (map f bytes)) k ≡ cond (f (get_or bytes k 0)) 1 0
lane_bit f bytes k l = bit_mask_l (map f bytes) k ∙ ap (λ (b : Bool). cond b 1 0) (get_or-map f bytes k 0 false l)

pub lane_set : (f : ℕ → Bool) (bytes : List ℕ) (k : ℕ) → k < length bytes → f (get_or bytes k 0) ≡ true → bit_at (mask_l (map f bytes)) k ≡ 1
lane_set f bytes k l e = lane_bit f bytes k l ∙ ap (λ (b : Bool). cond b 1 0) e

pub lane_clear : (f : ℕ → Bool) (bytes : List ℕ) (k : ℕ) → k < length bytes → f (get_or bytes k 0) ≡ false → bit_at (mask_l (map f bytes)) k ≡ 0
lane_clear f bytes k l e = lane_bit f bytes k l ∙ ap (λ (b : Bool). cond b 1 0) e

-- the bit of a byte in the mask of two vectors
module _ (t : ℕ → ℕ → Bool) (xs ys : List ℕ) (long : length (zip2 t xs ys) ≤ 64) (k : ℕ) (inside : k < length xs) (inside' : k < length ys) where
  abbrev mask : ℕ
  mask = mask_l (map (top 7) (zip2 (λ (a b : ℕ). cond (t a b) 255 0) xs ys)) % 18446744073709551616

  both_bit : bit_at mask k ≡ cond (t (get_or xs k 0) (get_or ys k 0)) 1 0
  both_bit = ap (λ n. bit_at n k) (ap (λ ms. mask_l ms % 18446744073709551616) (tops_compared w8 t xs ys) ∙ mask_l-mod (zip2 t xs ys) 64 long)
      ∙ (bit_mask_l (zip2 t xs ys) k ∙ ap (λ (b : Bool). cond b 1 0) (get_or-zip2 t xs ys k 0 0 false inside inside'))

  pub both_set : t (get_or xs k 0) (get_or ys k 0) ≡ true → bit_at mask k ≡ 1
  both_set e = both_bit ∙ ap (λ (b : Bool). cond b 1 0) e

  pub both_clear : t (get_or xs k 0) (get_or ys k 0) ≡ false → bit_at mask k ≡ 0
  both_clear e = both_bit ∙ ap (λ (b : Bool). cond b 1 0) e

pub same_byte : (b k : ℕ) → k < 8 → get_or (b ∷ b ∷ b ∷ b ∷ b ∷ b ∷ b ∷ b ∷ []) k 0 ≡ b
same_byte b zero l = refl
same_byte b (suc zero) l = refl
same_byte b (suc (suc zero)) l = refl
same_byte b (suc (suc (suc zero))) l = refl
same_byte b (suc (suc (suc (suc zero)))) l = refl
same_byte b (suc (suc (suc (suc (suc zero))))) l = refl
same_byte b (suc (suc (suc (suc (suc (suc zero)))))) l = refl
same_byte b (suc (suc (suc (suc (suc (suc (suc zero))))))) l = refl
same_byte b (suc (suc (suc (suc (suc (suc (suc (suc k)))))))) l = absurd (omega (arith, l))
