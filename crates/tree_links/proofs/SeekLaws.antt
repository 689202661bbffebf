-- Where a descent ends, seen in the table of nodes.
use Rattle.std.proofs.Common.{◌≡◌, ◌≢◌, ℕ, zero, suc, ◌+◌, ◌-◌, ◌<◌, ◌≤◌, List, [], ◌∷◌, ◌++◌, length, map, take, drop, set, get_or, IsSome, Some, None, refl, ap, sym, subst, ◌∙◌, arith}
use Rattle.std.proofs.lemmas.List.{get_or-take, get_or-set_same, length-drop, length-map, map-set, take-append-drop, take-take, take_all}
use Rattle.spec_map.specs.Map.{lookup}
use Rattle.spec_node.specs.Key.{AreBytes, Begins, IsFirstDifference, next_byte}
use Rattle.node_table.specs.Table.{NodeTable, node_at, nodes_at, IsTree}
use Rattle.spec_node.specs.TableNode.{TableNode}
use Rattle.spec_node.specs.declared.child.Child.TheVariants as children
use Rattle.node_table.proofs.BeginLaws.{begins_by, taken}
use Rattle.node_table.proofs.DownLaws.{Begins-trans}
use Rattle.node_table.proofs.KeyLaws.{goes_on}
use Rattle.node_table.proofs.TableLaws.{open_subtree, IsChild-found}
use Rattle.tree_path.specs.Path.{on_path}
use Rattle.tree_path.specs.declared.descent.Stop.TheVariants as seen
use Rattle.tree_path.specs.inner.Descent.{LeadsTo, IsTrail, SeeksTo}
use Rattle.tree_path.specs.inner.Root.{depth}
use Rattle.tree_path.proofs.PathEndLaws.{ended, leads_there, leads_short}
use Rattle.tree_path.proofs.PathLaws.{path_length, path_short}
use Rattle.tree_path.proofs.TrailLaws.{trail_more}
use Rattle.tree_links.specs.LinkNode.{LinkNode}
use Rattle.tree_links.specs.Seeks.{pairs_met, seen_at, KnowsPairAt, MeetsPair}
use Rattle.tree_links.specs.SeenTable.{LinkTable, name_of, name_under, key_under, link_at, leaf_of, seen_node, seen_table}
use Rattle.tree_links.specs.declared.descent.LinkStop.{LinkStop}
use Rattle.tree_links.specs.declared.descent.LinkStop.TheVariants.{Differs, Absent, Leaf, Pair, PairBeside, PairDiffers}
use Rattle.tree_links.specs.declared.link.Link.TheVariants as links
use Rattle.tree_links.specs.inner.Steps.{IsAtPair, Halts}
use Rattle.tree_links.proofs.FindLaws.{ends, there, seen_at as seen_under, leaf_there, long_key, seven_bytes, at_pair, below}
use Rattle.tree_links.proofs.CallLaws.{has_node}
use Rattle.tree_links.proofs.KeyLaws.{whole_key}

-- the keys that begin with the same byte
record BothBegin (other rest key : List ℕ) : Type 0 where
  first : ℕ
  other_is : other ≡ first ∷ rest
  key_is : key ≡ first ∷ drop 1 key

both_begin : (p : List ℕ) (b : ℕ) (rest key : List ℕ) → Begins (p ++ b ∷ []) key → BothBegin (key_under p b rest) rest key
both_begin [] b rest key begins = record { first = b; other_is = refl; key_is = sym (whole_key [] b key begins) }
both_begin (c ∷ p) b rest key begins = record { first = c; other_is = refl; key_is = sym (whole_key (c ∷ p) b key begins) }

-- a place in the rest is the next one in the key
whole_differs : (other rest key : List ℕ) → BothBegin other rest key → (i : ℕ) → i < 6 → length (take 7 other) ≡ 7 → IsFirstDifference rest (drop 1 key) i → IsFirstDifference (take 7 other) key (i + 1)
whole_differs other rest key b i less seven d =
    let more : i + 1 ≡ suc i = omega arith in
    let same : take i (take 6 rest) ≡ take i (drop 1 key) = take-take i 6 rest (omega (arith, less)) ∙ d.same_before in
    let here : get_or (take 6 rest) i 0 ≡ get_or rest i 0 = get_or-take 6 rest i 0 less in
    record {
      inside = omega (arith, seven, less);
      same_before = rw more (ap (λ o. take (suc i) (take 7 o)) b.other_is ∙ ap (λ x. b.first ∷ x) same ∙ sym (ap (λ k. take (suc i) k) b.key_is));
      differ = λ e. d.differ (sym here ∙ sym (ap (λ o. get_or (take 7 o) (suc i) 0) b.other_is) ∙ subst (λ j. get_or (take 7 other) j 0 ≡ get_or key j 0) more e ∙ ap (λ k. get_or k (suc i) 0) b.key_is);
    }

module _ {P : Type 0} (t : LinkTable P) (root : ℕ) (key : List ℕ) (all_bytes : AreBytes key) (full : length key ≡ 8) (above parent i : ℕ) (n : LinkNode P)
    (leads : LeadsTo (seen_table t) (name_of root) key above (name_of i) (name_of parent)) (at : link_at t i ≡ Some n) where
  abbrev s : NodeTable P
  s = seen_table t

  -- THE END, the nodes that were read, and what is known of a pair
  pub record Sought (stop : LinkStop) : Type 0 where
    pub ends : SeeksTo s (name_of root) key (seen_at key i parent above stop)
    pub pair : KnowsPairAt key s i stop
    pub reads : on_path (nodes_at s depth [] (name_of root)) key ≡ above + 1 + pairs_met stop
    pub few : on_path (nodes_at s depth [] (name_of root)) key ≤ 8

  sought_by : (stop : LinkStop) → SeeksTo s (name_of root) key (seen_at key i parent above stop) → (seen_at key i parent above stop).above ≡ above + pairs_met stop → KnowsPairAt key s i stop → Sought stop
  sought_by stop w more pair =
      let e = (ended s (name_of root) key _ w).ends in
      let l = path_length s (name_of root) key all_bytes full _ e in
      record { ends = w; pair = pair; reads = l ∙ omega (arith, more); few = path_short s (name_of root) key all_bytes full _ e }

  at_node : node_at s (name_of i) ≡ Some (seen_node i n)
  at_node = there t root key all_bytes full above (name_of parent) i n leads at

  module _ (stop : LinkStop) (h : IsAtPair key n stop) where
    abbrev b : ℕ
    b = next_byte n.prefix key

    abbrev other : List ℕ
    other = key_under n.prefix b h.rest

    leaf_is : node_at s (name_under i b) ≡ Some (leaf_of other h.payload)
    leaf_is = leaf_there t root key all_bytes full above (name_of parent) i n leads at h.rest h.payload h.begins h.inner h.found h.long

    long : length other ≡ 8
    long = long_key t root key all_bytes full above (name_of parent) i n leads at h.rest h.payload h.begins h.inner h.found h.long

    seven : length (take 7 other) ≡ 7
    seven = seven_bytes t root key all_bytes full above (name_of parent) i n leads at h.rest h.payload h.begins h.inner h.found h.long

    both : BothBegin other h.rest key
    both =
        let on = goes_on n.prefix key h.begins all_bytes (omega (arith, h.inner)) full in
        both_begin n.prefix b h.rest key on.begins

    -- in the tree the leaf is below the node
    leaf_begins : Begins (n.prefix ++ b ∷ []) other
    leaf_begins =
        let o = open_subtree s leads.levels (name_of i) (seen_node i n) (record { above = leads.q; tree = leads.tree }) (sym at_node) in
        let found = seen_under t root key all_bytes full above (name_of parent) i n leads at (Some (links.Pair h.rest h.payload)) h.found in
        let child = IsChild-found s o.less n.prefix (seen_node i n).children b (children.Node (name_under i b)) o.children found in
        Begins-trans (n.prefix ++ b ∷ []) (take 7 other) other (in_leaf o.less child) (begins_by (take 7 other) (drop 7 other) other (sym (take-append-drop 7 other)))
      where
        in_leaf : (levels : ℕ) → IsTree s levels (n.prefix ++ b ∷ []) (name_under i b) → Begins (n.prefix ++ b ∷ []) (take 7 other)
        in_leaf zero h = absurd h
        in_leaf (suc levels) c =
            let both : Some c.node ≡ Some (leaf_of other h.payload) = sym c.here ∙ leaf_is in
            let is : c.node ≡ leaf_of other h.payload = cc in
            subst (λ (m : TableNode P). Begins (n.prefix ++ b ∷ []) m.prefix) is c.begins

    meets : MeetsPair key s i b
    meets = record {
      leaf = record {
        below = record {
          node = seen_node i n;
          here = at_node;
          inner = h.inner;
          found = seen_under t root key all_bytes full above (name_of parent) i n leads at (Some (links.Pair h.rest h.payload)) h.found;
        };
        key = other;
        payload = h.payload;
        full = long;
        begins = leaf_begins;
        is = leaf_is;
      };
      begins = h.begins;
      byte = refl;
    }

    in_leaf_of : Begins (take 7 other) key → SeeksTo s (name_of root) key (record { slot = name_under i b; parent = name_of i; above = above + 1; stop = seen.Leaf (get_or key 7 0) })
    in_leaf_of goes = at_pair t root key all_bytes full above (name_of parent) i n leads at h.rest h.payload h.begins h.inner h.found h.long goes

  pub sought : (stop : LinkStop) → Halts key n stop → Sought stop
  unfolding meets
  sought (Differs d) h = sought_by (Differs d) (ends t root key all_bytes full above (name_of i) (name_of parent) (seen_node i n) (seen.Differs d) leads at_node h) (omega arith) tt
  sought (Absent c) h =
      let none = seen_under t root key all_bytes full above (name_of parent) i n leads at None (subst (λ x. lookup n.links x ≡ None) h.0 h.2) in
      sought_by (Absent c) (ends t root key all_bytes full above (name_of i) (name_of parent) (seen_node i n) (seen.Absent c) leads at_node
      (h.0, h.1, subst (λ x. lookup (seen_node i n).children x ≡ None) (sym h.0) none, h.3)) (omega arith) tt
  sought (Leaf c) h = sought_by (Leaf c) (ends t root key all_bytes full above (name_of i) (name_of parent) (seen_node i n) (seen.Leaf c) leads at_node h) (omega arith) tt
  sought (Pair c) h =
      let on = goes_on n.prefix key h.begins all_bytes (omega (arith, h.inner)) full in
      let is : other (Pair c) h ≡ key = ap (λ r. key_under n.prefix (b (Pair c) h) r) h.compares.1 ∙ whole_key n.prefix (b (Pair c) h) key on.begins in
      let goes : Begins (take 7 (other (Pair c) h)) key = begins_by (take 7 (other (Pair c) h)) (drop 7 (other (Pair c) h)) key (sym is ∙ sym (take-append-drop 7 (other (Pair c) h))) in
      subst (λ x. Sought (Pair x)) (sym h.compares.0) (sought_by (Pair (b (Pair c) h)) (in_leaf_of (Pair c) h goes) (omega arith) (meets (Pair c) h, is))
  sought (PairBeside c) h =
      let d = h.compares.1 in
      let two = both (PairBeside c) h in
      let seven_same : take 7 (other (PairBeside c) h) ≡ take 7 key = ap (λ o. take 7 o) two.other_is ∙ ap (λ x. two.first ∷ x) d.same_before ∙ sym (ap (λ k. take 7 k) two.key_is) in
      let goes : Begins (take 7 (other (PairBeside c) h)) key = begins_by (take 7 (other (PairBeside c) h)) (drop 7 key) key (sym (take-append-drop 7 key) ∙ ap (λ x. x ++ drop 7 key) (sym seven_same)) in
      let last : get_or (other (PairBeside c) h) 7 0 ≢ get_or key 7 0 = λ e. d.differ (sym (ap (λ o. get_or o 7 0) two.other_is) ∙ e ∙ ap (λ k. get_or k 7 0) two.key_is) in
      subst (λ x. Sought (PairBeside x)) (sym h.compares.0) (sought_by (PairBeside (b (PairBeside c) h)) (in_leaf_of (PairBeside c) h goes) (omega arith) (meets (PairBeside c) h, seven_same, last))
  sought (PairDiffers c d) h =
      let far = h.compares.1 in
      let differs : IsFirstDifference (take 7 (other (PairDiffers c d) h)) key (far.0 + 1) = whole_differs (other (PairDiffers c d) h) h.rest key (both (PairDiffers c d) h) far.0 far.1 (seven (PairDiffers c d) h) far.3 in
      let down = below t root key all_bytes full above (name_of parent) i n leads at h.rest h.payload h.begins h.inner h.found h.long in
      subst (λ x. Sought (PairDiffers c x)) (sym far.2)
      (subst (λ x. Sought (PairDiffers x (far.0 + 1))) (sym h.compares.0)
      (sought_by (PairDiffers (b (PairDiffers c d) h) (far.0 + 1))
      (ends t root key all_bytes full (above + 1) (name_under i (b (PairDiffers c d) h)) (name_of i) (leaf_of (other (PairDiffers c d) h) h.payload) (seen.Differs (far.0 + 1)) down (leaf_is (PairDiffers c d) h) differs)
      (omega arith) (meets (PairDiffers c d) h, differs)))

-- on the way
module _ {P : Type 0} (t : LinkTable P) (root : ℕ) (key : List ℕ) (above i parent : ℕ) (leads : LeadsTo (seen_table t) (name_of root) key above (name_of i) parent) where
  pub leads_to_node : IsSome (link_at t i)
  leads_to_node = has_node t i (leads_there (seen_table t) (name_of root) key above (name_of i) parent leads)

  pub leads_few : above < 8
  leads_few = leads_short (seen_table t) (name_of root) key above (name_of i) parent leads

-- the slots on the path, remembered
pub names_more : {P : Type 0} (t : LinkTable P) (root : ℕ) (key trail : List ℕ) (n i parent : ℕ) → n < length trail → IsTrail (seen_table t) (name_of root) key (map name_of trail) n
    → LeadsTo (seen_table t) (name_of root) key n (name_of i) parent → (0 < n → get_or (map name_of trail) (n - 1) 0 ≡ parent) → IsTrail (seen_table t) (name_of root) key (map name_of (set trail n i)) (n + 1)
names_more t root key trail n i parent room h leads last =
    let long : n < length (map name_of trail) = rw (length-map trail name_of) room in
    subst (λ x. IsTrail (seen_table t) (name_of root) key x (n + 1)) (sym (map-set name_of trail n i)) (trail_more (seen_table t) (name_of root) key (map name_of trail) n (name_of i) parent long h leads last)

pub name_last : (trail : List ℕ) (n i : ℕ) → n < length trail → get_or (map name_of (set trail n i)) (n + 1 - 1) 0 ≡ name_of i
name_last trail n i room =
    let same : n + 1 - 1 ≡ n = omega arith in
    let long : n < length (map name_of trail) = rw (length-map trail name_of) room in
    rw same (ap (λ x. get_or x n 0) (map-set name_of trail n i) ∙ get_or-set_same (map name_of trail) n (name_of i) 0 long)

-- a rest that isn't the key's differs from it at a place
pub no_rest : (key rest : List ℕ) → length key ≡ 8 → length rest ≡ 7 → (rest ≡ drop 1 key → ⊥) → Begins rest (take 7 (drop 1 key)) → ⊥
no_rest key rest full seven differ begins =
    let all : take 7 (take 7 (drop 1 key)) ≡ drop 1 key = take-take 7 7 (drop 1 key) (omega arith) ∙ take_all 7 (drop 1 key) (omega (arith, length-drop 1 key, full)) in
    differ (sym (taken rest (take 7 (drop 1 key)) begins) ∙ ap (λ k. take k (take 7 (drop 1 key))) seven ∙ all)
