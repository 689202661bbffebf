-- The slots on a key's path, remembered in a list during the descent.
use Rattle.std.proofs.Common.{◌≡◌, ℕ, zero, suc, ◌+◌, ◌-◌, ◌<◌, List, length, get_or, set, sym, subst, ◌∙◌, arith, inl, inr}
use Rattle.std.proofs.lemmas.Bool.{cases_eq}
use Rattle.std.proofs.lemmas.List.{get_or-set_same, get_or-set_other}
use Rattle.node_table.specs.Table.{NodeTable}
use Rattle.tree_path.specs.inner.Descent.{LeadsTo, IsTrail}

module _ {P : Type 0} (s : NodeTable P) (root : ℕ) (key : List ℕ) where
  -- above the root there is no node
  leads_root : (slot parent other : ℕ) → LeadsTo s root key zero slot parent → LeadsTo s root key zero slot other
  leads_root slot parent other w = record { levels = w.levels; q = w.q; path = w.path; up = tt; tree = w.tree; begins = w.begins; deep = w.deep; sum = w.sum }

  -- the node above is the last one in the list
  leads_last : (n slot parent last : ℕ) → LeadsTo s root key n slot parent → (0 < n → last ≡ parent) → LeadsTo s root key n slot last
  leads_last zero slot parent last w is = leads_root slot parent last w
  leads_last (suc n) slot parent last w is = subst (λ p. LeadsTo s root key (suc n) slot p) (sym (is (omega arith))) w

  -- ONE SLOT MORE
  pub trail_more : (trail : List ℕ) (n slot parent : ℕ) → n < length trail → IsTrail s root key trail n → LeadsTo s root key n slot parent → (0 < n → get_or trail (n - 1) 0 ≡ parent) → IsTrail s root key (set trail n slot) (n + 1)
  trail_more trail n slot parent room t w last = record {
    at = λ i less.
        elim (cases_eq i n) [
          | inl same ↦
              let here : get_or (set trail n slot) n 0 ≡ slot = get_or-set_same trail n slot 0 room in
              let up : (0 < n) → get_or (set trail n slot) (n - 1) 0 ≡ parent = λ some. get_or-set_other trail n (n - 1) slot 0 (omega (arith, some)) ∙ last some in
              let at_n : LeadsTo s root key n (get_or (set trail n slot) n 0) (get_or (set trail n slot) (n - 1) 0) =
              subst (λ x. LeadsTo s root key n x (get_or (set trail n slot) (n - 1) 0)) (sym here) (leads_last n slot parent (get_or (set trail n slot) (n - 1) 0) w up) in
              subst (λ j. LeadsTo s root key j (get_or (set trail n slot) j 0) (get_or (set trail n slot) (j - 1) 0)) (sym same) at_n
          | inr other ↦
              let before : i < n = omega (arith, less, other) in
              let a : get_or (set trail n slot) i 0 ≡ get_or trail i 0 = get_or-set_other trail n i slot 0 (omega (arith, before)) in
              let b : get_or (set trail n slot) (i - 1) 0 ≡ get_or trail (i - 1) 0 = get_or-set_other trail n (i - 1) slot 0 (omega (arith, before)) in
              subst (λ x. LeadsTo s root key i x (get_or (set trail n slot) (i - 1) 0)) (sym a) (subst (λ y. LeadsTo s root key i (get_or trail i 0) y) (sym b) (t.at i before))
        ];
  }

  pub trail_none : (trail : List ℕ) → IsTrail s root key trail 0
  trail_none trail = record { at = λ i less. absurd (omega (arith, less)) }
