-- Which nodes a key's path has.
use Rattle.std.proofs.Common.{◌≡◌, ◌≢◌, ℕ, zero, suc, ◌+◌, ◌≤◌, false, List, [], ◌∷◌, ◌++◌, length, Option, Some, None, refl, ap, sym, subst, ◌∙◌, arith, inl, inr, append_assoc}
use Rattle.std.proofs.lemmas.Bool.{eq-eqb, ne_eqb, cases_eq, cases_Bool}
use Rattle.spec_map.specs.Map.{lookup, Rises}
use Rattle.spec_node.specs.Key.{Begins, AreBytes, IsFirstDifference}
use Rattle.node_table.specs.Table.{NodeTable, NodeInfo, nodes_under, nodes_of, nodes_at, IsChild, AreChildren, IsTree}
use Rattle.spec_node.specs.TableNode.{Child}
use Rattle.spec_node.specs.declared.child.Child.TheVariants.{Payload, Node}
use Rattle.spec_map.proofs.MapLaws.{lookup-below}
use Rattle.node_table.proofs.KeyLaws.{goes_on, length-common}
use Rattle.node_table.proofs.DownLaws.{Begins-trans}
use Rattle.node_table.specs.Shape.{AllBegin}
use Rattle.node_table.proofs.NodesLaws.{below, nodes_begin, all_below}
use Rattle.spec_node.specs.Key.{begins}
use Rattle.node_table.proofs.BeginLaws.{after, begins_itself, begins_other, begins_longer}
use Rattle.tree_path.specs.Path.{on_path}
use Rattle.spec_node.specs.Key.{next_byte}
use Rattle.tree_path.specs.inner.Descent.{PathTo, FindsEnd, EndsAt, End, Differs, Absent, Present, EndPlace}
use Rattle.tree_path.specs.inner.Root.{depth}
use Rattle.tree_path.proofs.PathEndLaws.{ends_in, leads_short}

-- no node below bytes that the key leaves is on its path
on_path-off : (q : List ℕ) (ns : List NodeInfo) (key : List ℕ) → AllBegin q ns → begins q key ≡ false → on_path ns key ≡ 0
on_path-off q [] key h f = refl
on_path-off q (n ∷ ns) key h f =
    let g : begins n.edge key ≡ false = let x = after h.0 in rw x.is (begins_longer q x.rest key f) in
    rw g (omega (arith, on_path-off q ns key h.1 f))

on_path-append : (xs ys : List NodeInfo) (key : List ℕ) → on_path (xs ++ ys) key ≡ on_path xs key + on_path ys key
on_path-append [] ys key = omega arith
on_path-append (x ∷ xs) ys key = omega (arith, on_path-append xs ys key)

differs_begins : (p key : List ℕ) (i : ℕ) → IsFirstDifference p key i → begins p key ≡ false
differs_begins p key i d = elim (cases_Bool (begins p key)) [
  | inl t ↦ absurd (let l = length-common p key p i d (begins_itself p) (record { holds = t }) in omega (arith, d.inside))
  | inr t ↦ t
]

module _ {P : Type 0} (s : NodeTable P) where
  under_begin : (levels : ℕ) (p : List ℕ) (b : ℕ) (c : Child P) → IsChild (λ r j. IsTree s levels r j) p b c → AllBegin (p ++ b ∷ []) (nodes_under (below s levels) p b c)
  under_begin levels p b (Payload v) h = tt
  under_begin levels p b (Node j) h = nodes_begin s levels (p ++ b ∷ []) j h

  abbrev nodes_opt : ℕ → List ℕ → ℕ → Option (Child P) → List NodeInfo
  nodes_opt levels p b None = []
  nodes_opt levels p b (Some c) = nodes_under (below s levels) p b c

  -- the path continues only in the child under the key's byte
  on_path-nodes_of : (levels : ℕ) (p : List ℕ) (d : ℕ) (es : List (ℕ × Child P)) (b : ℕ) (key : List ℕ) → Rises d 256 es → AreChildren (λ r j. IsTree s levels r j) p es → ((c : ℕ) → c ≢ b → begins (p ++ c ∷ []) key ≡ false)
      → on_path (nodes_of (below s levels) p es) key ≡ on_path (nodes_opt levels p b (lookup es b)) key
  on_path-nodes_of levels p d [] b key o h others = refl
  on_path-nodes_of levels p d (e ∷ es) b key o h others =
      let split = on_path-append (nodes_under (below s levels) p e.0 e.1) (nodes_of (below s levels) p es) key in
      let rest = on_path-nodes_of levels p (e.0 + 1) es b key o.2 h.1 others in
      elim (cases_eq e.0 b) [
        | inl same ↦
            let none = lookup-below (e.0 + 1) 256 es b o.2 (omega arith) in
            let rest' = rw none at rest in
            rw (eq-eqb e.0 b same) (split ∙ (subst (λ x. on_path (nodes_under (below s levels) p e.0 e.1) key + on_path (nodes_of (below s levels) p es) key ≡ on_path (nodes_under (below s levels) p x e.1) key) same (omega (arith, rest'))))
        | inr other ↦
            let zero_here = on_path-off (p ++ e.0 ∷ []) (nodes_under (below s levels) p e.0 e.1) key (under_begin levels p e.0 e.1 h.0) (others e.0 other) in
            rw (ne_eqb e.0 b other) (split ∙ omega (arith, zero_here, rest))
      ]

  module _ (root : ℕ) (key : List ℕ) (bytes : AreBytes key) (full : length key ≡ 8) where
    -- a node on the path, and what is below it
    at_node : (levels : ℕ) (q : List ℕ) (slot : ℕ) (h : IsTree s (suc levels) q slot) → Begins h.node.prefix key
        → on_path (nodes_at s (suc levels) q slot) key ≡ 1 + on_path (nodes_opt levels h.node.prefix (next_byte h.node.prefix key) (lookup h.node.children (next_byte h.node.prefix key))) key
    at_node levels q slot h goes =
        let p = h.node.prefix in
        let b = next_byte p key in
        let on = goes_on p key goes bytes h.sound.short full in
        let others : (c : ℕ) → c ≢ b → begins (p ++ c ∷ []) key ≡ false =
        λ c d. let x = after on.begins in rw (x.is, append_assoc p (b ∷ []) x.rest) (begins_other p c b [] x.rest d) in
        let rest = on_path-nodes_of levels p 0 h.node.children b key h.sound.ordered h.children others in
        let here = Begins-trans q p key h.begins goes in
        rw (h.here, here.holds) (ap (λ x. 1 + x) rest)

    along : (above levels slot : ℕ) (q : List ℕ) → PathTo s root key above levels q slot → on_path (nodes_at s depth [] root) key ≡ above + on_path (nodes_at s levels q slot) key
    along zero levels slot q path =
        let e : on_path (nodes_at s depth [] root) key ≡ on_path (nodes_at s levels q slot) key = rw (path.0, path.1, path.2) refl in
        omega (arith, e)
    along (suc above) levels slot q path =
        let h = path.tree in
        let p = h.node.prefix in
        let b = next_byte p key in
        let ih = along above (suc levels) path.parent path.parent_q path.path in
        let one = at_node levels path.parent_q path.parent h path.begins in
        let one' = rw path.found at one in
        let same : on_path (nodes_at s levels (p ++ b ∷ []) slot) key ≡ on_path (nodes_at s levels q slot) key = ap (λ r. on_path (nodes_at s levels r slot) key) (sym path.is) in
        omega (arith, ih, one', same)

    last : (levels slot : ℕ) (q : List ℕ) (h : IsTree s (suc levels) q slot) (e : End P) → Begins q key → FindsEnd key h.node e → on_path (nodes_at s (suc levels) q slot) key ≡ 1
    last levels slot q h (Differs at) goes d =
        let none = on_path-off h.node.prefix (nodes_of (below s levels) h.node.prefix h.node.children) key (all_below s levels h.node.prefix h.node.children h.children) (differs_begins h.node.prefix key at d) in
        rw (h.here, goes.holds) (ap (λ x. 1 + x) none)
    last levels slot q h (Absent b) goes d =
        let none : lookup h.node.children (next_byte h.node.prefix key) ≡ None = subst (λ x. lookup h.node.children x ≡ None) d.0 d.2 in
        let one = at_node levels q slot h d.1 in
        let one' = rw none at one in
        omega (arith, one')
    last levels slot q h (Present b w) goes d =
        let found : lookup h.node.children (next_byte h.node.prefix key) ≡ Some (Payload w.now) = subst (λ x. lookup h.node.children x ≡ Some (Payload w.now)) d.0 d.2 in
        let one = at_node levels q slot h d.1 in
        let one' = rw found at one in
        omega (arith, one')

    -- the nodes on the key's path are the last one and those above it
    pub path_length : (place : EndPlace P) → EndsAt s root key place → on_path (nodes_at s depth [] root) key ≡ place.above + 1
    path_length place a =
        let o = ends_in s root key place a place.end refl in
        let x = along place.above (suc o.levels) place.slot o.q o.path in
        let y = last o.levels place.slot o.q o.tree place.end o.begins o.end in
        omega (arith, x, y)

    pub path_short : (place : EndPlace P) → EndsAt s root key place → on_path (nodes_at s depth [] root) key ≤ 8
    path_short place a = let l = path_length place a in let m = leads_short s root key place.above place.slot place.parent a.leads in omega (arith, l, m)
