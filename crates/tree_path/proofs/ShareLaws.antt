-- The pairs that share a key's first seven bytes, as the children of one node.
use Rattle.std.proofs.Common.{◌≡◌, ℕ, ◌+◌, ◌*◌, ◌/◌, ◌≤◌, List, [], ◌∷◌, ◌++◌, length, take, refl, ap, sym, subst, ◌∙◌, arith, inl, inr, append-nil}
use Rattle.std.proofs.lemmas.Bool.{lt-leb, eq-eqb, ne_eqb, cases_order}
use Rattle.std.proofs.lemmas.List.Elements.{filter-append}
use Rattle.std.proofs.lemmas.Nat.{div-mul-add}
use Rattle.spec_map.specs.Map.{Pairs, lookup, between, Rises}
use Rattle.spec_map.specs.Refusal.{leaf_pairs}
use Rattle.spec_node.specs.Key.{low, high, least, room, key_number, AreBytes}
use Rattle.node_table.specs.Table.{NodeTable, pairs_of, pairs_at, AreChildren, IsTree}
use Rattle.spec_node.specs.TableNode.{Child}
use Rattle.spec_node.specs.declared.child.Child.TheVariants.{Payload, Node}
use Rattle.spec_map.proofs.MapLaws.{lookup-below}
use Rattle.spec_map.proofs.RangeLaws.{between-above}
use Rattle.node_table.proofs.KeyLaws.{byte_order, room-positive}
use Rattle.node_table.proofs.ChildrenLaws as laws
use Rattle.node_table.proofs.NodesLaws.{none_below_seven}

module _ {V : Type 0} where
  pub between-append : (xs ys : List (ℕ × V)) (a b : ℕ) → between (xs ++ ys) a b ≡ between xs a b ++ between ys a b
  between-append xs ys a b = filter-append _ xs ys

  -- nothing below
  pub between-below : (c d a b : ℕ) (es : List (ℕ × V)) → Rises c d es → d ≤ a → between es a b ≡ []
  between-below c d a b [] h l = refl
  between-below c d a b (x ∷ xs) h l = rw (lt-leb a x.0 (omega arith)) (between-below (x.0 + 1) d a b xs h.2 l)

module _ {C P : Type 0} (under : ℕ → C → List (ℕ × P)) (p : List ℕ) where
  -- a range below one byte is one of the child there
  pub between-pairs_of : (d : ℕ) (es : List (ℕ × C)) (b x y : ℕ) → length p ≤ 7 → Rises d 256 es → laws.AllRise under p es → low (p ++ b ∷ []) ≤ x → y ≤ high (p ++ b ∷ [])
      → between (laws.pairs_of under p es) x y ≡ between (laws.pairs_at under p b (lookup es b)) x y
  between-pairs_of d [] b x y short o h at_least below = refl
  between-pairs_of d (e ∷ es) b x y short o h at_least below =
      let here = h.0 in
      let rest = laws.rest_rises under p e es d short o h.1 in
      let parts = between-append (under e.0 e.1) (laws.pairs_of under p es) x y in
      elim (cases_order e.0 b) [
        | inl same ↦
            let none : between (laws.pairs_of under p es) x y ≡ [] = between-above (high (p ++ e.0 ∷ [])) (high p) x y (laws.pairs_of under p es) rest (rw same below) in
            rw (eq-eqb e.0 b same) (subst (λ c. between (under e.0 e.1 ++ laws.pairs_of under p es) x y ≡ between (under c e.1) x y) same
            (parts ∙ ap (λ t. between (under e.0 e.1) x y ++ t) none ∙ append-nil (between (under e.0 e.1) x y)))
        | inr (inl less) ↦
            let apart = byte_order 8 p e.0 b less (omega arith) in
            let none = between-below _ _ x y (under e.0 e.1) here (omega arith) in
            rw (ne_eqb e.0 b (omega arith)) (parts ∙ ap (λ t. t ++ between (laws.pairs_of under p es) x y) none ∙ between-pairs_of (e.0 + 1) es b x y short o.2 h.1 at_least below)
        | inr (inr more) ↦
            let apart = byte_order 8 p b e.0 more (omega arith) in
            let absent = lookup-below (e.0 + 1) 256 es b o.2 (omega arith) in
            let none = between-above _ _ x y (under e.0 e.1) here (omega arith) in
            let r = room-positive 8 (p ++ e.0 ∷ []) in
            let none' : between (laws.pairs_of under p es) x y ≡ [] = between-above (high (p ++ e.0 ∷ [])) (high p) x y (laws.pairs_of under p es) rest (omega arith) in
            rw (ne_eqb e.0 b (omega arith), absent) (parts ∙ ap (λ t. t ++ between (laws.pairs_of under p es) x y) none ∙ none')
      ]

-- the keys with the same first seven bytes
seven_low : (key : List ℕ) → AreBytes key → length key ≡ 8 → low (take 7 key) ≡ key_number key / 256 * 256
seven_low (a ∷ b ∷ c ∷ d ∷ e ∷ f ∷ g ∷ h ∷ []) bytes l =
    let n = a * 281474976710656 + b * 1099511627776 + c * 4294967296 + d * 16777216 + e * 65536 + f * 256 + g in
    let whole : n * 256 + h ≡ least 8 (a ∷ b ∷ c ∷ d ∷ e ∷ f ∷ g ∷ h ∷ []) = omega arith in
    let part : least 8 (a ∷ b ∷ c ∷ d ∷ e ∷ f ∷ g ∷ []) ≡ n * 256 = omega arith in
    let div : (n * 256 + h) / 256 ≡ n = div-mul-add n 256 h bytes.1.1.1.1.1.1.1.0 in
    part ∙ ap (λ x. x * 256) (sym div ∙ ap (λ x. x / 256) whole)
seven_low _ bytes l = absurd (omega arith)

seven_room : (key : List ℕ) → length key ≡ 8 → room 8 (take 7 key) ≡ 256
seven_room (a ∷ b ∷ c ∷ d ∷ e ∷ f ∷ g ∷ h ∷ []) l = refl
seven_room _ l = absurd (omega arith)

module _ {P : Type 0} where
  pub sharing_is : (m : Pairs P) (key : List ℕ) → AreBytes key → length key ≡ 8 → leaf_pairs m (key_number key) ≡ between m (low (take 7 key)) (high (take 7 key))
  sharing_is m key bytes full = rw (seven_room key full, seven_low key bytes full) refl

  -- below seven bytes, each child is a payload
  pub leaf_length : (s : NodeTable P) (levels : ℕ) (p : List ℕ) (es : List (ℕ × Child P)) → length p ≡ 7 → AreChildren (λ r j. IsTree s levels r j) p es → length (pairs_of (λ j. pairs_at s levels j) p es) ≡ length es
  leaf_length s levels p [] seven h = refl
  leaf_length s levels p ((b, Payload v) ∷ es) seven h = omega (arith, leaf_length s levels p es seven h.1)
  leaf_length s levels p ((b, Node j) ∷ es) seven h = absurd (none_below_seven s levels p b j seven h.0)
