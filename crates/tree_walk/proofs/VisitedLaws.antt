-- Counting the nodes of a subtree, child by child.
use Rattle.std.proofs.Common.{◌≡◌, ℕ, zero, suc, ◌+◌, ◌-◌, ◌<◌, ◌^◌, nat_le, nat_lt, ◌&&◌, Bool, true, false, List, [], ◌∷◌, ◌++◌, length, map, filter, Some, refl, ap, sym, subst, ◌∙◌, arith, append_assoc, append-nil}
use Rattle.std.specs.List.{sum_by}
use Rattle.std.proofs.lemmas.List.{length-map}
use Rattle.std.proofs.lemmas.List.Sums.{sum_by-cons}
use Rattle.node_stats.specs.LevelCounts.{capped}
use Rattle.spec_map.specs.Map.{between, Rises}
use Rattle.node_table.specs.Shape.{AreUnder}
use Rattle.node_stats.specs.Stats.{Visit, visit, IsTally}
use Rattle.node_stats.specs.StatsText.{all_nodes, all_entries}
use Rattle.node_table.specs.Table.{NodeTable, NodeInfo, node_at, node_info, nodes_under, nodes_of, nodes_at, IsChild, AreChildren, IsTree, IsSubtree}
use Rattle.spec_node.specs.TableNode.{TableNode, Child}
use Rattle.node_stats.specs.Visits.{nodes_above, visits_below}
use Rattle.node_base.specs.declared.base_node.NodeType.{NodeType}
use Rattle.spec_node.specs.declared.child.Child.TheVariants.{Node}
use Rattle.node_stats.specs.declared.levels.LevelStats.{LevelStats}
use Rattle.spec_map.proofs.MapLaws.{Rises-between}
use Rattle.spec_map.proofs.RangeLaws.{between-all}
use Rattle.node_table.proofs.NodesLaws.{below, under_begin, all_greater, leaf_nodes, AreUnder-from, AreUnder-append}
use Rattle.node_table.proofs.TableLaws.{open_subtree}
use Rattle.node_stats.proofs.TallySums.{nodes_told, entries_told}
use Rattle.node_stats.specs.Stays.{NoCountSaturates}
use Rattle.node_stats.proofs.VisitLaws.{visits-node, visits-append}
use Rattle.tree_walk.specs.inner.Count.{AddsVisits, AddsSubtree}
use Rattle.tree_path.specs.inner.Root.{depth}
use Rattle.tree_path.proofs.PathEndLaws.{depth_is}

adds-more : (xs ys : List Visit) (old mid new : List LevelStats) → AddsVisits xs old mid → AddsVisits ys mid new → AddsVisits (xs ++ ys) old new
adds-more xs ys old mid new first second nodes tally = subst (λ vs. IsTally vs new) (append_assoc nodes xs ys) (second (nodes ++ xs) (first nodes tally))

pub counted_node : {P : Type 0} (above : ℕ) (n : TableNode P) (form : NodeType) (entries : ℕ) (old now : List LevelStats) → form ≡ n.form → entries ≡ length n.children
    → AddsVisits (visit above form entries ∷ []) old now → AddsVisits (visit above n.form (length n.children) ∷ []) old now
counted_node above n form entries old now same as_many adds = subst (λ k. AddsVisits (visit above n.form k ∷ []) old now) as_many (subst (λ f. AddsVisits (visit above f entries ∷ []) old now) same adds)

pub byte_fits : {P : Type 0} (n : TableNode P) (from b : ℕ) (c : Child P) (rest : List (ℕ × Child P)) → Rises 0 256 n.children → between n.children from 256 ≡ (b, c) ∷ rest → b < 256
byte_fits n from b c rest rises found = let r = subst (λ es. Rises 0 256 es) found (Rises-between 0 256 from 256 n.children rises) in r.1

module _ {P : Type 0} (s : NodeTable P) where
  abbrev pub visits_under : ℕ → List ℕ → List (ℕ × Child P) → List Visit
  visits_under above p es = visits_below above (nodes_of (λ e j. nodes_at s (depth - above) e j) p es)

  -- a node is counted, and all under its children below a byte
  pub record Counting (above : ℕ) (n : TableNode P) (from : ℕ) (old now : List LevelStats) : Type 0 where
    pub done : List Visit
    pub adds : AddsVisits done old now
    pub left : done ++ visits_under (above + 1) n.prefix (between n.children from 256) ≡ visit above n.form (length n.children) ∷ visits_under (above + 1) n.prefix n.children

module _ {P : Type 0} (s : NodeTable P) where
  all_under : (levels : ℕ) (p : List ℕ) (es : List (ℕ × Child P)) → AreChildren (λ r j. IsTree s levels r j) p es → AreUnder (λ _. Unit {0}) p (nodes_of (below s levels) p es)
  all_under levels p [] h = tt
  all_under levels p ((b, c) ∷ es) h =
      AreUnder-append (λ _. Unit {0}) p (nodes_under (below s levels) p b c) (nodes_of (below s levels) p es)
      (AreUnder-from (λ _. Unit {0}) p b (nodes_under (below s levels) p b c) tt (under_begin s levels p b c h.0)) (all_under levels p es h.1)

  -- a node, and those under its children a level deeper
  visits_at : (levels above : ℕ) (q : List ℕ) (slot : ℕ) (h : IsTree s (suc levels) q slot)
      → visits_below above (nodes_at s (suc levels) q slot)
      ≡ visit above h.node.form (length h.node.children) ∷ visits_below (above + 1) (nodes_of (below s levels) h.node.prefix h.node.children)
  visits_at levels above q slot h =
      rw h.here (visits-node above (node_info q h.node) (nodes_of (below s levels) h.node.prefix h.node.children) h.begins (all_under levels h.node.prefix h.node.children h.children))

  kept_first : (under : List ℕ → ℕ → Type 0) (p : List ℕ) (keep : ℕ × Child P → Bool) (e : ℕ × Child P) (es : List (ℕ × Child P)) (b : Bool) → keep e ≡ b → IsChild under p e.0 e.1
      → AreChildren under p (filter keep es) → AreChildren under p (filter keep (e ∷ es))
  kept_first under p keep e es true is first rest = rw is (first, rest)
  kept_first under p keep e es false is first rest = rw is rest

  are_kept : (under : List ℕ → ℕ → Type 0) (p : List ℕ) (keep : ℕ × Child P → Bool) (es : List (ℕ × Child P)) → AreChildren under p es → AreChildren under p (filter keep es)
  are_kept under p keep [] h = tt
  are_kept under p keep (e ∷ es) h = kept_first under p keep e es (keep e) refl h.0 (are_kept under p keep es h.1)

  -- the levels of a tree's node are those of the nodes under it and one more
  not_last : (levels above : ℕ) (q : List ℕ) (slot : ℕ) → levels ≡ depth - above → IsTree s levels q slot → suc (depth - (above + 1)) ≡ levels
  not_last zero above q slot is h = absurd h
  not_last (suc levels) above q slot is h = omega (arith, is)

  pub not_deep : (above slot : ℕ) → IsSubtree s (depth - above) slot → above < 8
  not_deep above slot h = let one = not_last (depth - above) above h.above slot refl h.tree in omega (arith, one, depth_is)

  pub count_start : (above : ℕ) (n : TableNode P) (old now : List LevelStats) → Rises 0 256 n.children → AddsVisits (visit above n.form (length n.children) ∷ []) old now → Counting s above n 0 old now
  count_start above n old now rises adds = record {
    done = visit above n.form (length n.children) ∷ [];
    adds = adds;
    left = ap (λ es. visit above n.form (length n.children) ∷ visits_under s (above + 1) n.prefix es) (between-all 0 256 0 256 n.children rises (omega arith) (omega arith));
  }

  pub child_is : (above slot : ℕ) (n : TableNode P) (from b : ℕ) (c : Child P) → IsSubtree s (depth - above) slot → node_at s slot ≡ Some n
      → between n.children from 256 ≡ (b, c) ∷ between n.children (b + 1) 256 → IsChild (λ r i. IsTree s (depth - (above + 1)) r i) n.prefix b c
  child_is above slot n from b c h here found =
      let o = open_subtree s (depth - above) slot n h (sym here) in
      let less : o.less ≡ depth - (above + 1) = omega (arith, o.is, not_last (depth - above) above h.above slot refl h.tree) in
      let all = are_kept (λ r i. IsTree s o.less r i) n.prefix (λ e. nat_le from e.0 && nat_lt e.0 256) n.children o.children in
      subst (λ m. IsChild (λ r i. IsTree s m r i) n.prefix b c) less (subst (λ es. AreChildren (λ r i. IsTree s o.less r i) n.prefix es) found all).0

  pub count_child : (above slot : ℕ) (n : TableNode P) (from b j : ℕ) (old mid now : List LevelStats) → IsSubtree s (depth - above) slot → node_at s slot ≡ Some n
      → between n.children from 256 ≡ (b, Node j) ∷ between n.children (b + 1) 256 → Counting s above n from old mid → AddsSubtree s (above + 1) j mid now
      → Counting s above n (b + 1) old now
  count_child above slot n from b j old mid now h here found before more =
      let o = open_subtree s (depth - above) slot n h (sym here) in
      let L : ℕ = depth - (above + 1) in
      let p : List ℕ = n.prefix in
      let rest : List (ℕ × Child P) = between n.children (b + 1) 256 in
      let less : o.less ≡ L = omega (arith, o.is, not_last (depth - above) above h.above slot refl h.tree) in
      let children : AreChildren (λ r i. IsTree s L r i) p n.children = subst (λ m. AreChildren (λ r i. IsTree s m r i) p n.children) less o.children in
      let some = subst (λ es. AreChildren (λ r i. IsTree s L r i) p es) found (are_kept (λ r i. IsTree s L r i) p (λ e. nat_le from e.0 && nat_lt e.0 256) n.children children) in
      let rises = subst (λ es. Rises 0 256 es) found (Rises-between 0 256 from 256 n.children o.sound.ordered) in
      let child : IsTree s L (p ++ b ∷ []) j = some.0 in
      let first : List Visit = visits_below (above + 1) (nodes_at s L (p ++ b ∷ []) j) in
      let split : visits_under s (above + 1) p (between n.children from 256) ≡ first ++ visits_under s (above + 1) p rest
      = ap (λ es. visits_under s (above + 1) p es) found
      ∙ visits-append (above + 1) p b (nodes_at s L (p ++ b ∷ []) j) (nodes_of (below s L) p rest) (under_begin s L p b (Node j) child) (all_greater s L p b (b + 1) rest (omega arith) rises.2 some.1)
      in
      record {
        done = before.done ++ first;
        adds = adds-more before.done first old mid now before.adds (more (p ++ b ∷ []) child);
        left = append_assoc before.done first (visits_under s (above + 1) p rest) ∙ sym (ap (λ vs. before.done ++ vs) split) ∙ before.left;
      }

  whole : (above slot : ℕ) (n : TableNode P) (old now : List LevelStats) → node_at s slot ≡ Some n → AddsVisits (visit above n.form (length n.children) ∷ visits_under s (above + 1) n.prefix n.children) old now
      → AddsSubtree s above slot old now
  whole above slot n old now here adds q h =
      let is = not_last (depth - above) above q slot refl h in
      let at : (t : IsTree s (suc (depth - (above + 1))) q slot) → AddsVisits (visits_below above (nodes_at s (suc (depth - (above + 1))) q slot)) old now
      = λ t.
      let both : Some n ≡ Some t.node = sym here ∙ t.here in
      let same : n ≡ t.node = cc in
      subst (λ vs. AddsVisits vs old now) (sym (visits_at (depth - (above + 1)) above q slot t))
      (subst (λ (m : TableNode P). AddsVisits (visit above m.form (length m.children) ∷ visits_under s (above + 1) m.prefix m.children) old now) same adds)
      in
      subst (λ m. IsTree s m q slot → AddsVisits (visits_below above (nodes_at s m q slot)) old now) is at h

  pub count_end : (above slot : ℕ) (n : TableNode P) (from : ℕ) (old now : List LevelStats) → node_at s slot ≡ Some n → between n.children from 256 ≡ [] → Counting s above n from old now
      → AddsSubtree s above slot old now
  count_end above slot n from old now here none counted =
      let all : counted.done ≡ visit above n.form (length n.children) ∷ visits_under s (above + 1) n.prefix n.children
      = sym (append-nil counted.done) ∙ sym (ap (λ es. counted.done ++ visits_under s (above + 1) n.prefix es) none) ∙ counted.left
      in
      whole above slot n old now here (subst (λ vs. AddsVisits vs old now) all counted.adds)

  pub count_leaf : (above slot : ℕ) (n : TableNode P) (old now : List LevelStats) → IsSubtree s (depth - above) slot → node_at s slot ≡ Some n → length n.prefix ≡ 7
      → AddsVisits (visit above n.form (length n.children) ∷ []) old now → AddsSubtree s above slot old now
  count_leaf above slot n old now h here seven adds =
      let o = open_subtree s (depth - above) slot n h (sym here) in
      let less : o.less ≡ depth - (above + 1) = omega (arith, o.is, not_last (depth - above) above h.above slot refl h.tree) in
      let children : AreChildren (λ r i. IsTree s (depth - (above + 1)) r i) n.prefix n.children = subst (λ m. AreChildren (λ r i. IsTree s m r i) n.prefix n.children) less o.children in
      let none : visits_under s (above + 1) n.prefix n.children ≡ [] = ap (λ ns. visits_below (above + 1) ns) (leaf_nodes s (depth - (above + 1)) n.prefix n.children seven children) in
      whole above slot n old now here (subst (λ vs. AddsVisits (visit above n.form (length n.children) ∷ vs) old now) (sym none) adds)

  pub count_root : (root : ℕ) (old new : List LevelStats) → IsTree s depth [] root → IsTally [] old → AddsSubtree s 0 root old new → IsTally (visits_below 0 (nodes_at s depth [] root)) new
  count_root root old new tree none adds =
      let all : depth - 0 ≡ depth = omega arith in
      subst (λ m. IsTree s m [] root → AddsVisits (visits_below 0 (nodes_at s m [] root)) old new) all (adds []) tree [] none

-- What the sums of a whole tree come to.

entries_of_visits : (above : ℕ) (all nodes : List NodeInfo) → sum_by (λ v. v.entries) (map (λ n. visit (above + nodes_above all n) n.form n.count) nodes) ≡ sum_by (λ n. n.count) nodes
entries_of_visits above all [] = refl
entries_of_visits above all (n ∷ nodes) =
    sum_by-cons (λ v. v.entries) (visit (above + nodes_above all n) n.form n.count) (map (λ m. visit (above + nodes_above all m) m.form m.count) nodes)
    ∙ ap (λ k. n.count + k) (entries_of_visits above all nodes)
    ∙ sym (sum_by-cons (λ m. m.count) n nodes)

pub whole_sums : (pairs kv : ℕ) (nodes : List NodeInfo) (levels : List LevelStats) → IsTally (visits_below 0 nodes) levels → sum_by (λ n. n.count) nodes + 1 ≡ pairs + length nodes → kv ≡ capped pairs
    → NoCountSaturates (visits_below 0 nodes) → pairs < 2 ^ 64 → all_entries levels + 1 ≡ kv + all_nodes levels
whole_sums pairs kv nodes levels tally counted cut stays few =
    let sum = entries_of_visits 0 nodes nodes in
    let as_many : length (visits_below 0 nodes) ≡ length nodes = length-map nodes (λ n. visit (0 + nodes_above nodes n) n.form n.count) in
    let entries = entries_told (visits_below 0 nodes) levels tally stays in
    let all = nodes_told (visits_below 0 nodes) levels tally stays in
    omega (arith, sum, as_many, entries, all, counted, cut, few)
