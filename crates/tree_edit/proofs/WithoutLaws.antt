-- What taking out a child of the node in a slot does to its subtree.
use Rattle.std.proofs.Common.{◌≡◌, ℕ, ◌+◌, ◌<◌, ◌≤◌, List, [], ◌∷◌, ◌++◌, length, Some, refl, ap, sym, subst, ◌∙◌, arith, inl, inr}
use Rattle.std.proofs.lemmas.Bool.{eq-eqb, ne_eqb, cases_order, cases_eq}
use Rattle.spec_map.specs.Map.{lookup, without, Rises}
use Rattle.spec_node.specs.Key.{low, high}
use Rattle.node_table.proofs.KeyLaws.{byte_order}
use Rattle.spec_map.proofs.MapLaws.{lookup-below, without-absent, Rises-without}
use Rattle.spec_map.proofs.LocalLaws.{IsLocal}
use Rattle.node_table.proofs.ChildrenLaws as laws
use Rattle.node_table.proofs.SoundLaws.{sound_from}
use Rattle.node_table.specs.Table.{IsSound}
use Rattle.spec_node.specs.TableNode.{TableNode, Child}
use Rattle.node_table.specs.Table.{AreChildren}

module _ {V : Type 0} where
  without-append_left : (b c : ℕ) (xs ys : List (ℕ × V)) (k : ℕ) → Rises b c ys → k < b → without (xs ++ ys) k ≡ without xs k ++ ys
  without-append_left b c [] ys k h l = without-absent ys k (lookup-below b c ys k h l)
  without-append_left b c (x ∷ xs) ys k h l =
      elim (cases_eq x.0 k) [
        | inl same ↦ rw (eq-eqb x.0 k same) refl
        | inr other ↦ rw (ne_eqb x.0 k other) (ap (λ t. x ∷ t) (without-append_left b c xs ys k h l))
      ]

  without-append_right : (a b : ℕ) (xs ys : List (ℕ × V)) (k : ℕ) → Rises a b xs → b ≤ k → without (xs ++ ys) k ≡ xs ++ without ys k
  without-append_right a b [] ys k h l = refl
  without-append_right a b (x ∷ xs) ys k h l = rw (ne_eqb x.0 k (omega (arith, h.1))) (ap (λ t. x ∷ t) (without-append_right (x.0 + 1) b xs ys k h.2 l))

  pub without_local : (k : ℕ) → IsLocal {P = V} k (λ es. without es k)
  without_local k = record {
    left = λ b c xs ys r l. without-append_left b c xs ys k r l;
    right = λ a b xs ys r l. without-append_right a b xs ys k r l;
  }

module _ {C P : Type 0} (at_byte : ℕ → C → List (ℕ × P)) (p : List ℕ) where
  -- a child that has nothing but the key is taken out
  pub pairs_of-without : (d : ℕ) (es : List (ℕ × C)) (b k : ℕ) (c : C) → length p ≤ 7 → Rises d 256 es → laws.AllRise at_byte p es → low (p ++ b ∷ []) ≤ k → k < high (p ++ b ∷ [])
      → lookup es b ≡ Some c → without (at_byte b c) k ≡ [] → laws.pairs_of at_byte p (without es b) ≡ without (laws.pairs_of at_byte p es) k
  pairs_of-without d [] b k c short o h at_least below found is = absurd (cc)
  pairs_of-without d (e ∷ es) b k c short o h at_least below found is =
      elim (cases_order e.0 b) [
        | inl same ↦
            let found' : Some e.1 ≡ Some c = rw (eq-eqb e.0 b same) at found in
            let is_c : e.1 ≡ c = cc in
            let gone : without (at_byte e.0 e.1) k ≡ [] = subst (λ x. without (at_byte x e.1) k ≡ []) (sym same) (subst (λ x. without (at_byte b x) k ≡ []) (sym is_c) is) in
            let rest = laws.rest_rises at_byte p e es d short o h.1 in
            rw (eq-eqb e.0 b same)
            (sym (without-append_left (high (p ++ e.0 ∷ [])) (high p) (at_byte e.0 e.1) (laws.pairs_of at_byte p es) k rest (rw same below) ∙ ap (λ x. x ++ laws.pairs_of at_byte p es) gone))
        | inr (inl less) ↦
            let apart = byte_order 8 p e.0 b less (omega arith) in
            let found' = rw (ne_eqb e.0 b (omega arith)) at found in
            rw (ne_eqb e.0 b (omega arith))
            (ap (λ x. at_byte e.0 e.1 ++ x) (pairs_of-without (e.0 + 1) es b k c short o.2 h.1 at_least below found' is)
            ∙ sym (without-append_right (low (p ++ e.0 ∷ [])) (high (p ++ e.0 ∷ [])) (at_byte e.0 e.1) (laws.pairs_of at_byte p es) k h.0 (omega arith)))
        | inr (inr more) ↦
            absurd (let found' = rw (ne_eqb e.0 b (omega arith), lookup-below (e.0 + 1) 256 es b o.2 (omega arith)) at found in cc)
      ]

module _ {P : Type 0} where
  pub AreChildren-without : (below : List ℕ → ℕ → Type 0) (p : List ℕ) (es : List (ℕ × Child P)) (b : ℕ) → AreChildren below p es → AreChildren below p (without es b)
  AreChildren-without below p [] b h = tt
  AreChildren-without below p (e ∷ es) b h =
      elim (cases_eq e.0 b) [
        | inl same ↦ rw (eq-eqb e.0 b same) h.1
        | inr other ↦ rw (ne_eqb e.0 b other) (h.0, AreChildren-without below p es b h.1)
      ]

  -- with one child taken out
  pub sound-without : (n m : TableNode P) (b : ℕ) → IsSound n → m.prefix ≡ n.prefix → m.children ≡ without n.children b → IsSound m
  sound-without n m b h e f = sound_from m n.prefix (without n.children b) e f h.bytes h.short (Rises-without 0 256 n.children b h.ordered)
