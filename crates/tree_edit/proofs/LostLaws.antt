-- What happens to a node's subtree when all below one of its bytes is removed, where that was the key's pair alone.
use Rattle.std.proofs.Common.{◌≡◌, ◌≢◌, ℕ, suc, ◌+◌, ◌<◌, ◌≤◌, List, [], ◌∷◌, ◌++◌, length, Some, None, IsSome, refl, ap, sym, subst, ◌∙◌, arith, inl, inr, append_assoc, append-nil, length-append}
use Rattle.std.proofs.lemmas.Bool.{eq-eqb, ne_eqb, cases_order, cases_eq}
use Rattle.spec_map.specs.Map.{lookup, without, Rises}
use Rattle.spec_node.specs.Key.{low, high, Begins}
use Rattle.spec_node.specs.TableNode.{TableNode, Child}
use Rattle.node_table.specs.Table.{NodeTable, NodeInfo, node_at, node_info, pairs_of, pairs_at, nodes_under, nodes_of, nodes_at, AreChildren, IsTree}
use Rattle.node_table.specs.Shape.{AreUnder}
use Rattle.spec_node.specs.declared.child.Child.TheVariants.{Payload, Node}
use Rattle.node_table.proofs.BeginLaws.{after, begins_append}
use Rattle.spec_map.proofs.MapLaws.{lookup-below, lookup-without_same}
use Rattle.spec_map.proofs.ByteMapLaws.{length-without_present}
use Rattle.node_table.proofs.TableLaws.{under, tree_rises, all_rise, same_pairs}
use Rattle.node_table.proofs.DownLaws.{KeepsBelow, KeepsOthers, Kept, frame, Begins-trans, one_byte}
use Rattle.node_table.proofs.WriteLaws.{Are-same, pairs-same}
use Rattle.node_table.proofs.NodesLaws.{below, frame_nodes, under_begin, AreUnder-from, AreUnder-append, all_greater}
use Rattle.tree_edit.specs.inner.Rise.{KeepsOff}
use Rattle.tree_edit.proofs.InfoLaws.{nodes-same}
use Rattle.tree_edit.proofs.WithoutLaws.{pairs_of-without, AreChildren-without, sound-without}

module _ {P : Type 0} where
  -- the child under one byte, among the nodes below the others
  pub record TakeAmong (s : NodeTable P) (levels : ℕ) (p : List ℕ) (es : List (ℕ × Child P)) (b : ℕ) (c : Child P) : Type 0 where
    pub left : List NodeInfo
    pub right : List NodeInfo
    pub smaller : AreUnder (λ x. x < b) p left
    pub greater : AreUnder (λ x. b < x) p right
    pub was : nodes_of (below s levels) p es ≡ left ++ (nodes_under (below s levels) p b c ++ right)
    pub is : nodes_of (below s levels) p (without es b) ≡ left ++ right

  take_among : (s : NodeTable P) (levels : ℕ) (p : List ℕ) (d : ℕ) (es : List (ℕ × Child P)) (b : ℕ) (c : Child P) → Rises d 256 es → AreChildren (λ r i. IsTree s levels r i) p es → lookup es b ≡ Some c → TakeAmong s levels p es b c
  take_among s levels p d [] b c o h found = absurd (cc)
  take_among s levels p d (e ∷ es) b c o h found =
      elim (cases_order e.0 b) [
        | inl same ↦
            let found' : Some e.1 ≡ Some c = rw (eq-eqb e.0 b same) at found in
            let is : e.1 ≡ c = cc in
            let without_is : without (e ∷ es) b ≡ es = rw (eq-eqb e.0 b same) refl in
            record {
              left = [];
              right = nodes_of (below s levels) p es;
              smaller = tt;
              greater = all_greater s levels p b (e.0 + 1) es (omega arith) o.2 h.1;
              was = ap (λ z. nodes_under (below s levels) p e.0 z ++ nodes_of (below s levels) p es) is ∙ ap (λ x. nodes_under (below s levels) p x c ++ nodes_of (below s levels) p es) same;
              is = ap (λ x. nodes_of (below s levels) p x) without_is;
            }
        | inr (inl less) ↦
            let found' = rw (ne_eqb e.0 b (omega arith)) at found in
            let r = take_among s levels p (e.0 + 1) es b c o.2 h.1 found' in
            let here = nodes_under (below s levels) p e.0 e.1 in
            let without_is : without (e ∷ es) b ≡ e ∷ without es b = rw (ne_eqb e.0 b (omega arith)) refl in
            record {
              left = here ++ r.left;
              right = r.right;
              smaller = AreUnder-append (λ x. x < b) p here r.left (AreUnder-from (λ x. x < b) p e.0 here less (under_begin s levels p e.0 e.1 h.0)) r.smaller;
              greater = r.greater;
              was = ap (λ x. here ++ x) r.was ∙ sym (append_assoc here r.left (nodes_under (below s levels) p b c ++ r.right));
              is = ap (λ x. nodes_of (below s levels) p x) without_is ∙ ap (λ x. here ++ x) r.is ∙ sym (append_assoc here r.left r.right);
            }
        | inr (inr more) ↦
            let found' = rw (ne_eqb e.0 b (omega arith), lookup-below (e.0 + 1) 256 es b o.2 (omega arith)) at found in absurd (cc)
      ]

  module _ (s t : NodeTable P) (levels slot b : ℕ) (n : TableNode P) (here : node_at s slot ≡ Some n) (keeps : KeepsOff slot (n.prefix ++ b ∷ []) s t) where
    keeps_beside : (c : ℕ) → c ≢ b → KeepsBelow (n.prefix ++ c ∷ []) s t
    keeps_beside c other i m there begins =
        keeps i m
        (λ same.
        let both : Some n ≡ Some m = sym here ∙ subst (λ x. node_at s x ≡ Some m) same there in
        let is : n ≡ m = cc in
        let g : Begins (n.prefix ++ c ∷ []) n.prefix = subst (λ (x : TableNode P). Begins (n.prefix ++ c ∷ []) x.prefix) (sym is) begins in
        let k = simp (length-append, length-append) at (ap length (after g).is) in omega arith)
        (λ also. other (one_byte n.prefix m.prefix c b begins also))
        there

    abbrev Beside : List (ℕ × Child P) → Type 0
    Beside es = Kept s t levels n.prefix es × (nodes_of (below t levels) n.prefix es ≡ nodes_of (below s levels) n.prefix es)

    kept_beside : (es : List (ℕ × Child P)) → lookup es b ≡ None → AreChildren (λ r i. IsTree s levels r i) n.prefix es → Beside es
    kept_beside [] none h = ((tt, refl), refl)
    kept_beside ((c, Payload v) ∷ es) none h =
        elim (cases_eq c b) [
          | inl same ↦ absurd (let none' = rw (eq-eqb c b same) at none in cc)
          | inr other ↦
              let none' = rw (ne_eqb c b other) at none in
              let r = kept_beside es none' h.1 in
              (((h.0, r.0.0), ap (λ x. (low (n.prefix ++ c ∷ []), v) ∷ x) r.0.1), r.1)
        ]
    kept_beside ((c, Node i) ∷ es) none h =
        elim (cases_eq c b) [
          | inl same ↦ absurd (let none' = rw (eq-eqb c b same) at none in cc)
          | inr other ↦
              let none' = rw (ne_eqb c b other) at none in
              let r = kept_beside es none' h.1 in
              let f = frame s t levels (n.prefix ++ c ∷ []) i h.0 (keeps_beside c other) in
              let g = frame_nodes s t levels (n.prefix ++ c ∷ []) i h.0 (keeps_beside c other) in (
                ((f.tree, r.0.0), ap (λ x. x ++ pairs_of (λ o. pairs_at t levels o) n.prefix es) f.pairs ∙ ap (λ x. pairs_at s levels i ++ x) r.0.1),
                ap (λ x. x ++ nodes_of (below t levels) n.prefix es) g ∙ ap (λ x. nodes_at s levels (n.prefix ++ c ∷ []) i ++ x) r.1,
              )
        ]

  -- THE NODE HAS LOST the child under one byte, which had the key's pair alone, and may have another form
  pub record Lost (s t : NodeTable P) (levels : ℕ) (q : List ℕ) (slot b k : ℕ) (n m : TableNode P) (c : Child P) : Type 0 where
    pub tree : IsTree t (suc levels) q slot
    pub pairs : pairs_at t (suc levels) slot ≡ without (pairs_at s (suc levels) slot) k
    pub others : KeepsOthers q s t
    pub among : TakeAmong s levels n.prefix n.children b c
    pub was : nodes_at s (suc levels) q slot ≡ node_info q n ∷ (among.left ++ (nodes_under (below s levels) n.prefix b c ++ among.right))
    pub is : nodes_at t (suc levels) q slot ≡ node_info q m ∷ (among.left ++ among.right)

  pub lost : (s t : NodeTable P) (levels : ℕ) (q : List ℕ) (slot b k : ℕ) (c : Child P) (m : TableNode P) (h : IsTree s (suc levels) q slot)
      → KeepsOff slot (h.node.prefix ++ b ∷ []) s t → node_at t slot ≡ Some m → m.prefix ≡ h.node.prefix → m.children ≡ without h.node.children b
      → lookup h.node.children b ≡ Some c → without (under s levels h.node.prefix b c) k ≡ []
      → low (h.node.prefix ++ b ∷ []) ≤ k → k < high (h.node.prefix ++ b ∷ [])
      → Lost s t levels q slot b k h.node m c
  lost s t levels q slot b k c m h keeps there same without_is found gone at_least under_high =
      let n = h.node in
      let p = n.prefix in
      let few = AreChildren-without (λ r i. IsTree s levels r i) p n.children b h.children in
      let kept = kept_beside s t levels slot b n h.here keeps (without n.children b) (lookup-without_same 0 256 n.children b h.sound.ordered) few in
      let rise = all_rise s levels (tree_rises s levels) p n.children h.children in
      let new = pairs_of-without (under s levels p) p 0 n.children b k c h.sound.short h.sound.ordered rise at_least under_high found gone in
      let list = pairs-same (λ i. pairs_at t levels i) m.prefix p m.children (without n.children b) same without_is
      ∙ kept.0.1 ∙ same_pairs s levels p (without n.children b) ∙ new ∙ ap (λ x. without x k) (sym (same_pairs s levels p n.children)) in
      let among = take_among s levels p 0 n.children b c h.sound.ordered h.children found in
      record {
        tree = record {
          node = m;
          here = there;
          begins = subst (λ x. Begins q x) (sym same) h.begins;
          sound = sound-without n m b h.sound same without_is;
          children = Are-same (λ r i. IsTree t levels r i) m.prefix p m.children (without n.children b) same without_is kept.0.0;
        };
        pairs = rw (there, h.here) list;
        others = λ i x at not_below. keeps i x
            (λ e. let both : Some n ≡ Some x = sym h.here ∙ subst (λ o. node_at s o ≡ Some x) e at in let is : n ≡ x = cc in not_below (subst (λ (o : TableNode P). Begins q o.prefix) is h.begins))
            (λ under_b. not_below (Begins-trans q p x.prefix h.begins (Begins-trans p (p ++ b ∷ []) x.prefix (begins_append p (b ∷ [])) under_b)))
            at;
        among = among;
        was = rw h.here (ap (λ x. node_info q n ∷ x) among.was);
        is = rw there (ap (λ x. node_info q m ∷ x) (nodes-same (below t levels) m.prefix p m.children (without n.children b) same without_is ∙ kept.1 ∙ among.is));
      }

-- a list of one child that has the byte is that child
pub single : {V : Type 0} → (es : List (ℕ × V)) (b : ℕ) (c : V) → length es ≡ 1 → lookup es b ≡ Some c → es ≡ (b, c) ∷ []
single [] b c one found = absurd (cc)
single (e ∷ []) b c one found =
    elim (cases_eq e.0 b) [
      | inl same ↦
          let found' : Some e.1 ≡ Some c = rw (eq-eqb e.0 b same) at found in
          let is : e.1 ≡ c = cc in
          ap (λ x. (x, e.1) ∷ []) same ∙ ap (λ x. (b, x) ∷ []) is
      | inr other ↦ absurd (let found' = rw (ne_eqb e.0 b other) at found in cc)
    ]
single (e ∷ f ∷ es) b c one found = absurd (omega (arith, one))

module _ {P : Type 0} where
  -- A NODE THAT HAS NOTHING LEFT: it had that child alone
  pub record WasAlone (s : NodeTable P) (levels : ℕ) (q : List ℕ) (slot b k : ℕ) (n : TableNode P) (c : Child P) : Type 0 where
    pub one : length n.children ≡ 1
    pub nodes : nodes_at s (suc levels) q slot ≡ node_info q n ∷ nodes_under (below s levels) n.prefix b c
    pub pairs : without (pairs_at s (suc levels) slot) k ≡ []

  pub was_alone : (s : NodeTable P) (levels : ℕ) (q : List ℕ) (slot b k : ℕ) (c : Child P) (h : IsTree s (suc levels) q slot)
      → length (without h.node.children b) ≡ 0 → lookup h.node.children b ≡ Some c → without (under s levels h.node.prefix b c) k ≡ []
      → WasAlone s levels q slot b k h.node c
  was_alone s levels q slot b k c h none found gone =
      let n = h.node in
      let p = n.prefix in
      let some : IsSome (lookup n.children b) = rw found refl in
      let one : length n.children ≡ 1 = omega (arith, length-without_present 0 256 n.children b h.sound.ordered some, none) in
      let is = single n.children b c one found in
      record {
        one = one;
        nodes = rw h.here (ap (λ x. node_info q n ∷ x) (ap (λ es. nodes_of (below s levels) p es) is ∙ append-nil (nodes_under (below s levels) p b c)));
        pairs = rw h.here (ap (λ es. without (pairs_of (λ j. pairs_at s levels j) p es) k) is ∙ ap (λ x. without x k) (append-nil (under s levels p b c)) ∙ gone);
      }
