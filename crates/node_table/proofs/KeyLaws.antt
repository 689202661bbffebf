-- Facts on prefixes and the numbers below them.
use Rattle.std.proofs.Common.{◌≡◌, ℕ, zero, suc, ◌+◌, ◌-◌, ◌*◌, ◌<◌, ◌≤◌, ◌⊎◌, List, [], ◌∷◌, ◌++◌, length, get_or, take, drop, refl, ap, sym, subst, ◌∙◌, arith, inl, inr, length-append, append_assoc}
use Rattle.std.proofs.Math.Seq.{take-append_seam, take-append-add}
use Rattle.std.proofs.lemmas.List.{append-nil}
use Rattle.std.proofs.lemmas.Bool.{cases_order, cases_lt}
use Rattle.std.proofs.Math.Nat.{mul-le-mul_right}
use Rattle.std.specs.Int.{from_be_bytes}
use Rattle.std.proofs.Common.{w64}
use Rattle.std.proofs.lemmas.List.{get_or_append_left}
use Rattle.node_table.proofs.BeginLaws.{after, begins_by}
use Rattle.spec_node.specs.Key.{span, least, room, AreBytes, low, high, key_number, Begins, IsFirstDifference}

-- b < d puts a whole span between them
pub between_spans : (b d s : ℕ) → b < d → b * s + s ≤ d * s
between_spans b d s h = let k = mul-le-mul_right s h in omega (arith, k)

pub span-positive : (r : ℕ) → 0 < span r
span-positive zero = omega arith
span-positive (suc r) = omega (arith, span-positive r)

pub room-positive : (r : ℕ) (p : List ℕ) → 0 < room r p
room-positive r [] = span-positive r
room-positive zero (b ∷ p) = omega arith
room-positive (suc r) (b ∷ p) = room-positive r p

-- the numbers below a prefix fit in the whole span
pub least-bound : (r : ℕ) (p : List ℕ) → AreBytes p → length p ≤ r → least r p + room r p ≤ span r
least-bound r [] h l = omega arith
least-bound zero (b ∷ p) h l = absurd (omega arith)
least-bound (suc r) (b ∷ p) h l =
    let rest = least-bound r p h.1 (omega arith) in
    let k = between_spans b 256 (span r) h.0 in
    omega (arith, rest, k)

-- the numbers below a longer prefix are among those below a shorter one
pub least-append : (r : ℕ) (p q : List ℕ) → AreBytes q → length p + length q ≤ r → least r p ≤ least r (p ++ q)
least-append r [] q h l = omega arith
least-append zero (b ∷ p) q h l = absurd (omega arith)
least-append (suc r) (b ∷ p) q h l = omega (arith, least-append r p q h (omega arith))

pub high-append : (r : ℕ) (p q : List ℕ) → AreBytes q → length p + length q ≤ r → least r (p ++ q) + room r (p ++ q) ≤ least r p + room r p
high-append r [] q h l = omega (arith, least-bound r q h (omega arith))
high-append zero (b ∷ p) q h l = absurd (omega arith)
high-append (suc r) (b ∷ p) q h l = omega (arith, high-append r p q h (omega arith))

-- below one prefix, the numbers under a smaller byte come before those under a larger one
pub byte_order : (r : ℕ) (p : List ℕ) (b d : ℕ) → b < d → length p < r → least r (p ++ b ∷ []) + room r (p ++ b ∷ []) ≤ least r (p ++ d ∷ [])
byte_order zero p b d h l = absurd (omega arith)
byte_order (suc r) [] b d h l = omega (arith, between_spans b d (span r) h)
byte_order (suc r) (c ∷ p) b d h l = omega (arith, byte_order r p b d h (omega arith))

-- what every item of a list of bytes is
pub AreBytes-from_items : (p : List ℕ) → ((k : ℕ) → k < length p → get_or p k 0 < 256) → AreBytes p
AreBytes-from_items [] h = tt
AreBytes-from_items (b ∷ p) h = (h 0 (omega arith), AreBytes-from_items p (λ k l. h (suc k) (omega arith)))

pub AreBytes-append_left : (p q : List ℕ) → AreBytes (p ++ q) → AreBytes p
AreBytes-append_left [] q h = tt
AreBytes-append_left (b ∷ p) q h = (h.0, AreBytes-append_left p q h.1)

pub AreBytes-append_right : (p q : List ℕ) → AreBytes (p ++ q) → AreBytes q
AreBytes-append_right [] q h = h
AreBytes-append_right (b ∷ p) q h = AreBytes-append_right p q h.1

pub AreBytes-append : (p q : List ℕ) → AreBytes p → AreBytes q → AreBytes (p ++ q)
AreBytes-append [] q h k = k
AreBytes-append (b ∷ p) q h k = (h.0, AreBytes-append p q h.1 k)

-- a list at a place
pub split_at : (p : List ℕ) (i : ℕ) → i < length p → p ≡ take i p ++ get_or p i 0 ∷ drop (suc i) p
split_at [] i l = absurd (omega arith)
split_at (b ∷ p) zero l = refl
split_at (b ∷ p) (suc i) l = ap (λ t. b ∷ t) (split_at p i (omega arith))

pub low-begins : (p q : List ℕ) → Begins p q → AreBytes q → length q ≤ 8 → low p ≤ low q
low-begins p q g bytes short =
    let h = after g in
    let b : AreBytes h.rest = AreBytes-append_right p h.rest (subst AreBytes h.is bytes) in
    let l : length q ≡ length p + length h.rest = simp (length-append) at (ap length h.is) in
    rw h.is (least-append 8 p h.rest b (omega arith))

pub high-begins : (p q : List ℕ) → Begins p q → AreBytes q → length q ≤ 8 → high q ≤ high p
high-begins p q g bytes short =
    let h = after g in
    let b : AreBytes h.rest = AreBytes-append_right p h.rest (subst AreBytes h.is bytes) in
    let l : length q ≡ length p + length h.rest = simp (length-append) at (ap length h.is) in
    rw h.is (high-append 8 p h.rest b (omega arith))

pub Begins-snoc : (p : List ℕ) (b : ℕ) (r q : List ℕ) → q ≡ p ++ b ∷ r → Begins (p ++ b ∷ []) q
Begins-snoc p b r q e = begins_by (p ++ b ∷ []) r q (e ∙ sym (append_assoc p (b ∷ []) r))

-- two lists that part, the smaller byte in the first, have their numbers in that order
pub apart : (p q c : List ℕ) (a b : ℕ) (p' q' : List ℕ) → p ≡ c ++ a ∷ p' → q ≡ c ++ b ∷ q' → a < b → AreBytes p → AreBytes q → length p ≤ 8 → length q ≤ 8 → high p ≤ low q
apart p q c a b p' q' e f less hp hq lp lq =
    let l : length q ≡ length c + suc (length q') = simp (length-append) at (ap length f) in
    let x = high-begins (c ++ a ∷ []) p (Begins-snoc c a p' p e) hp lp in
    let y = low-begins (c ++ b ∷ []) q (Begins-snoc c b q' q f) hq lq in
    let z = byte_order 8 c a b less (omega arith) in
    omega arith

-- a key is all of the numbers that begin with it
pub high-key : (r : ℕ) (key : List ℕ) → length key ≡ r → room r key ≡ 1
high-key zero [] l = refl
high-key zero (b ∷ key) l = refl
high-key (suc r) [] l = absurd (omega arith)
high-key (suc r) (b ∷ key) l = high-key r key (omega arith)

-- a key that differs from a prefix isn't among the keys below it
pub off_prefix : (p key : List ℕ) (i : ℕ) → IsFirstDifference p key i → AreBytes p → AreBytes key → length p ≤ 7 → length key ≡ 8 → (high p ≤ key_number key) ⊎ (key_number key < low p)
off_prefix p key i d hp hk short full =
    let e = split_at p i d.inside in
    let f : key ≡ take i p ++ get_or key i 0 ∷ drop (suc i) key = rw d.same_before (split_at key i (omega (arith, d.inside))) in
    let one = high-key 8 key full in
    elim (cases_order (get_or p i 0) (get_or key i 0)) [
      | inl same ↦ absurd (d.differ same)
      | inr (inl less) ↦ inl (apart p key _ _ _ _ _ e f less hp hk (omega arith) (omega arith))
      | inr (inr more) ↦ inr (let a = apart key p _ _ _ _ _ f e more hk hp (omega arith) (omega arith) in omega arith)
    ]

-- a key below a prefix of seven bytes at most goes on with a byte
pub record GoesOn (p key : List ℕ) (b : ℕ) : Type 0 where
  pub begins : Begins (p ++ b ∷ []) key
  pub at_least : low (p ++ b ∷ []) ≤ key_number key
  pub below : key_number key < high (p ++ b ∷ [])
  pub byte : b < 256

pub goes_on : (p key : List ℕ) → Begins p key → AreBytes key → length p ≤ 7 → length key ≡ 8 → GoesOn p key (get_or key (length p) 0)
goes_on p key h bytes short full =
    let s = split_at key (length p) (omega arith) in
    let t : take (length p) key ≡ p = let x = after h in rw x.is (take-append_seam p x.rest) in
    let f : key ≡ p ++ get_or key (length p) 0 ∷ drop (suc (length p)) key = s ∙ ap (λ x. x ++ get_or key (length p) 0 ∷ drop (suc (length p)) key) t in
    let b = Begins-snoc p _ _ key f in
    let one = high-key 8 key full in
    let x = low-begins _ key b bytes (omega arith) in
    let y = high-begins _ key b bytes (omega arith) in
    let all = AreBytes-append_right p _ (subst AreBytes f bytes) in
    record { begins = b; at_least = x; below = omega arith; byte = all.0 }

-- below seven bytes there is one key for each byte
pub key_number_at : (p key : List ℕ) (b : ℕ) → Begins (p ++ b ∷ []) key → length p ≡ 7 → length key ≡ 8 → key ≡ p ++ b ∷ []
key_number_at p key b g seven full =
    let h = after g in
    let l : length key ≡ length p + 1 + length h.rest = simp (length-append) at (ap length h.is) in
    h.is ∙ ap (λ r. (p ++ b ∷ []) ++ r) (empty h.rest (omega arith)) ∙ append-nil (p ++ b ∷ [])
  where
    empty : (r : List ℕ) → length r ≡ 0 → r ≡ []
    empty [] e = refl
    empty (x ∷ r) e = absurd (omega arith)

-- a common beginning ends before the first difference
pub length-common : (p key q : List ℕ) (i : ℕ) → IsFirstDifference p key i → Begins q p → Begins q key → length q ≤ i
length-common p key q i d h k =
    elim (cases_lt i (length q)) [
      | inl less ↦
          let x = after h in
          let y = after k in
          absurd (d.differ (rw (x.is, y.is) (get_or_append_left q x.rest 0 i less ∙ sym (get_or_append_left q y.rest 0 i less))))
      | inr more ↦ more
    ]

pub Begins-take : (p q : List ℕ) (i : ℕ) → Begins q p → length q ≤ i → Begins q (take i p)
Begins-take p q i h l =
    let x = after h in
    begins_by q (take (i - length q) x.rest) (take i p) (ap (λ r. take i r) x.is ∙ subst (λ n. take n (q ++ x.rest) ≡ q ++ take (i - length q) x.rest) {x = length q + (i - length q)} (omega arith) (take-append-add q x.rest (i - length q)))

-- the bytes up to the first difference, and the one there
pub Begins-at_difference_left : (p key : List ℕ) (i : ℕ) → IsFirstDifference p key i → Begins (take i p ++ get_or p i 0 ∷ []) p
Begins-at_difference_left p key i d = Begins-snoc (take i p) _ _ p (split_at p i d.inside)

pub Begins-at_difference_right : (p key : List ℕ) (i : ℕ) → IsFirstDifference p key i → i < length key → Begins (take i p ++ get_or key i 0 ∷ []) key
Begins-at_difference_right p key i d l = Begins-snoc (take i p) _ (drop (suc i) key) key (rw d.same_before (split_at key i l))

-- the number of a key is that of std's big-endian bytes
pub key_number-be_bytes : (key : List ℕ) → length key ≡ 8 → key_number key ≡ from_be_bytes w64 key
key_number-be_bytes (a ∷ b ∷ c ∷ d ∷ e ∷ f ∷ g ∷ h ∷ []) l = omega arith
key_number-be_bytes _ l = absurd (omega arith)
