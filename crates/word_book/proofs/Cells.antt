-- The numbers of all words, in the book's invariant: words join, and with each comes the right to make it. Assumes `Logic`.
use Rattle.std.proofs.Common.{◌≡◌, ◌⊎◌, ℕ, zero, suc, ◌+◌, ◌-◌, ◌<◌, List, [], ◌∷◌, ◌++◌, length, subst, sym, inl, inr, arith}
use lib.ListN.{replicate}
use seplogic.Ra.Ura.{Ura}
use base.Fraction.{full_share}
use base.Share.{quarter}
use base.Stored.{Gv, coded_ℕ}
use base.Logic.{SProp, ent, sep, upd, upd_i, id⊢}
use base.Fml.{Fml}
use types.Logic.{Logic, sem}
use types.Keyed.{entries_take}
use types.Kit.{‵, raw, ◌⊛◌, ◌$◌, ◌∵◌, !, qed, move, split, fjoin, fpick, fpack, suffices, settle, done, use1}
use denote.Steps.{nothing}
use Rattle.atomic_table.specs.Seated.{halved, seen, unused}
use Rattle.atomic_table.proofs.Roster.{resets}
use Rattle.word_book.specs.inner.Owned.{part, numbers, pens_own}

module _ {M : Type 1} {𝓤 : Ura M} (𝓛 : Logic 𝓤) (δ : ℕ) where
  abbrev code : ℕ → Gv
  code = coded_ℕ.code

  -- what the book keeps of the word k
  abbrev kept : ℕ → ℕ → Fml
  kept k n = seen code δ k quarter n

  abbrev both : ℕ → List ℕ → ℕ → ℕ → SProp 𝓤
  both k ns j n = sep 𝓤 (sem 𝓛 (numbers δ k ns)) (sem 𝓛 (pens_own δ j n))

  -- n words, where there was none from the key k on
  pub first_words : (n k : ℕ) → ent 𝓤 (sem 𝓛 (numbers δ k [])) (upd 𝓤 (both k (replicate n 0) k n))
  first_words zero k = qed 𝓛 (‵ (numbers δ k []) ∷ []) ∵ suffices ! _ (upd_i 𝓤 (both k [] k zero)) $ nothing ! $ move ! (1 ∷ 0 ∷ []) $ done !
  first_words (suc n) k =
      let rest : List ℕ = replicate n 0 in let Z : SProp 𝓤 = both k (0 ∷ rest) k (suc n) in
      qed 𝓛 (‵ (numbers δ k []) ∷ []) ∵ fpick ! (λ d.
      use1 𝓛 (‵ (seen code δ k full_share d) ⊛ ‵ (unused code δ (suc k) d)) (entries_take halved 𝓛 δ k (λ _. (full_share, code d))) $ split ! $
      use1 𝓛 (raw (upd 𝓤 (sep 𝓤 (sem 𝓛 (kept k 0)) (sem 𝓛 (part δ k 0))))) (resets 𝓛 coded_ℕ δ k d 0) $ settle 𝓛 Z (‵ (kept k 0) ⊛ ‵ (part δ k 0)) $ split ! $
      move ! (2 ∷ []) $ fpack ! ℕ (unused code δ (suc k)) d $
      use1 𝓛 (raw (upd 𝓤 (both (suc k) rest (suc k) n))) (first_words n (suc k)) $ settle 𝓛 Z (‵ (numbers δ (suc k) rest) ⊛ ‵ (pens_own δ (suc k) n)) $ split ! $
      -- [the other words; their rights; the book's part; the right's]
      suffices ! _ (upd_i 𝓤 Z) $ move ! (2 ∷ 0 ∷ []) $ fjoin ! $ move ! (0 ∷ 2 ∷ 1 ∷ []) $ done !)

  -- n words more
  pub more_words : (ns : List ℕ) (n k j : ℕ) → j ≡ k + length ns → ent 𝓤 (sem 𝓛 (numbers δ k ns)) (upd 𝓤 (both k (ns ++ replicate n 0) j n))
  more_words [] n k j e = subst (λ (i : ℕ). ent 𝓤 (sem 𝓛 (numbers δ k [])) (upd 𝓤 (both k (replicate n 0) i n))) (let same : k ≡ j = omega arith in same) (first_words n k)
  more_words (m ∷ ns) n k j e =
      let longer : List ℕ = ns ++ replicate n 0 in let Z : SProp 𝓤 = both k (m ∷ longer) j n in
      qed 𝓛 (‵ (kept k m) ∷ ‵ (numbers δ (suc k) ns) ∷ []) ∵ move ! (1 ∷ []) $
      use1 𝓛 (raw (upd 𝓤 (both (suc k) longer j n))) (more_words ns n (suc k) j (omega arith)) $ settle 𝓛 Z (‵ (numbers δ (suc k) longer) ⊛ ‵ (pens_own δ j n)) $ split ! $
      suffices ! _ (upd_i 𝓤 Z) $ move ! (2 ∷ 0 ∷ []) $ fjoin ! $ done !

  -- no right at all is one to any words
  pub rights_at : (n j i : ℕ) → (n ≡ 0) ⊎ (i ≡ j) → ent 𝓤 (sem 𝓛 (pens_own δ j n)) (sem 𝓛 (pens_own δ i n))
  rights_at n j i (inl e) = subst (λ (m : ℕ). ent 𝓤 (sem 𝓛 (pens_own δ j m)) (sem 𝓛 (pens_own δ i m))) (sym e) (id⊢ 𝓤 _)
  rights_at n j i (inr e) = subst (λ (k : ℕ). ent 𝓤 (sem 𝓛 (pens_own δ j n)) (sem 𝓛 (pens_own δ k n))) (sym e) (id⊢ 𝓤 _)

  -- the first right and the others
  pub one_right : (k n : ℕ) → 0 < n → ent 𝓤 (sem 𝓛 (pens_own δ k n)) (sep 𝓤 (sem 𝓛 (part δ k 0)) (sem 𝓛 (pens_own δ (k + 1) (n - 1))))
  one_right k zero some = absurd (omega arith)
  one_right k (suc n) some =
      let on : suc k ≡ k + 1 = omega arith in let less : n ≡ suc n - 1 = omega arith in
      subst (λ (t : ℕ × ℕ). ent 𝓤 (sem 𝓛 (pens_own δ k (suc n))) (sep 𝓤 (sem 𝓛 (part δ k 0)) (sem 𝓛 (pens_own δ t.0 t.1)))) (λ i. (on i, less i)) (id⊢ 𝓤 _)
