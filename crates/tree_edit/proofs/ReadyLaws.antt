-- What is ready for a new key's pair, at each end of a descent.
use Rattle.std.proofs.Common.{◌≡◌, ℕ, zero, suc, ◌+◌, ◌-◌, ◌<◌, List, [], ◌∷◌, ◌++◌, length, get_or, Option, Some, None, refl, ap, sym, subst, ◌∙◌, arith}
use Rattle.std.specs.Global.{Vec}
use Rattle.spec_map.specs.Map.{lookup}
use Rattle.node_base.specs.declared.base_node.NodeType.TheVariants.{N4}
use Rattle.spec_node.specs.Key.{AreBytes, Begins, next_byte}
use Rattle.spec_node.specs.TableNode.{TableNode, Child}
use Rattle.node_table.specs.Table.{NodeTable, node_at, nodes_at, IsTree}
use Rattle.spec_node.specs.declared.child.Child.TheVariants.{Payload, Node}
use Rattle.node_table.proofs.KeyLaws.{goes_on}
use Rattle.node_table.proofs.TableLaws.{open_subtree}
use Rattle.tree_path.specs.inner.Descent.{Absent, Differs, EndsAt, Halts, LeadsTo, PathTo, SeeksTo}
use Rattle.tree_path.specs.inner.Root.{depth, HasRoot, HasTree}
use Rattle.tree_path.specs.inner.Supply.{with_form, CountsGrown, IsCounted, IsCountedAt}
use Rattle.tree_path.specs.declared.descent.PathEnd.{PathEnd}
use Rattle.tree_path.specs.declared.descent.Stop.TheVariants as stops
use Rattle.tree_path.specs.declared.supply.FormCounts.{FormCounts}
use Rattle.tree_path.proofs.PathEndLaws.{place_of}
use Rattle.tree_edit.specs.inner.Writes.{MakesRoom, SameElsewhere, Splits}
use Rattle.tree_edit.proofs.ChargeLaws.{add_counted, split_counted}
use Rattle.tree_edit.proofs.SpotLaws.{counted_there, fill_inserts, put_inserts}
use Rattle.tree_edit.proofs.WholeLaws.{IsInsertion, add_inserts, split_inserts, parts_high}
use Rattle.tree_links.specs.MovesNode.{MovesNode}
use Rattle.tree_links.specs.PairCalls.{IsOpenFor}
use Rattle.tree_links.specs.SameTree.{GoesOnAt, SameTree}
use Rattle.tree_links.specs.SeenTable.{leaf_of, name_of, name_under}
use Rattle.tree_links.specs.Seeks.{seen_at, seen_end, MeetsPair}
use Rattle.tree_links.specs.SplitsChild.{upper_of}
use Rattle.tree_links.specs.SplitsTree.{SplitsInPlace, SplitsTree}
use Rattle.tree_links.specs.declared.descent.LinkEnd.{LinkEnd}
use Rattle.tree_links.specs.declared.descent.LinkStop.{LinkStop}
use Rattle.tree_links.specs.declared.descent.LinkStop.TheVariants as ends
use Rattle.tree_links.specs.declared.place.Place.{Place}
use Rattle.tree_links.proofs.TreeLaws.{moves_on_path}
use Rattle.tree_edit.specs.declared.insertion.Ready.TheVariants as ready
use Rattle.tree_edit.specs.inner.Gains.{GainsPair}
use Rattle.tree_edit.specs.inner.Ready.{IsReady, MayPart, PartsTree}
use Rattle.tree_edit.specs.inner.Spots.{EndsAbsent}
use Rattle.tree_edit.proofs.AloneLaws.{added}
use Rattle.tree_edit.proofs.LeafLaws.{pair_has, sets}
use Rattle.tree_edit.proofs.LeadLaws.{seeks_moved, step_above, StepAbove}
use Rattle.tree_edit.proofs.SameLaws.{gains_from, gains_then, same_root}

-- where a descent ended, by its parts
abbrev pub end_of : ℕ → ℕ → ℕ → LinkStop → LinkEnd
end_of i j above stop = record { slot = i; parent = j; above = above; stop = stop }

module _ {P : Type 0} (s : NodeTable P) (root : ℕ) (key : List ℕ) where
  whole_tree : (above levels slot : ℕ) (q : List ℕ) → PathTo s root key above levels q slot → IsTree s levels q slot → HasTree s root
  whole_tree zero levels slot q path tree = subst (λ i. IsTree s depth [] i) path.2 (subst (λ r. IsTree s depth r slot) path.1 (subst (λ l. IsTree s l q slot) path.0 tree))
  whole_tree (suc above) levels slot q path tree = whole_tree above (suc levels) path.parent path.parent_q path.path path.tree

  -- a path begins in a tree
  pub tree_there : (above slot parent : ℕ) → LeadsTo s root key above slot parent → HasTree s root
  tree_there above slot parent l = whole_tree above l.levels slot l.q l.path l.tree

  gains : (bytes : AreBytes key) (full : length key ≡ 8) (t : NodeTable P) (v : P) (forms : FormCounts) → IsInsertion s root key bytes full t v None → IsCounted forms (nodes_at t depth [] root) → GainsPair s t root key v forms
  gains bytes full t v forms x counted = record { tree = x.tree; rooted = x.root_stays; absent = sym x.was; pairs = x.pairs; shape = x.shape; counted = counted }

  -- THE KEY'S LEAF, which has room in g
  module _ (i j above b : ℕ) (forms : FormCounts) (h : EndsAbsent s key (end_of i j above (ends.Leaf b)) root forms) (g : NodeTable P) (room : MakesRoom s g (name_of i)) where
    pub leaf_ready : (new : FormCounts) → SameElsewhere (name_of i) s g → CountsGrown s (name_of i) forms new → IsReady s g root key (ready.Leaf i) new
    leaf_ready new same grown = λ t v x.
        let f = sets g t (name_of i) (get_or key 7 0) v None x in
        let y = put_inserts s root key (seen_at key i j above (ends.Leaf b)) h.ends h.bytes h.full forms h.counted h.rooted h.nothing g t v new (name_of i) (refl, same, room, grown) f.2 f.3 in
        gains h.bytes h.full t v new y.0 y.1

  -- A PLACE in the node above the leaves, which has room in g
  module _ (i j above b : ℕ) (forms : FormCounts) (h : EndsAbsent s key (end_of i j above (ends.Absent b)) root forms) (g : NodeTable P) (room : MakesRoom s g (name_of i)) where
    stop_absent : Halts key h.ends.node (stops.Absent b)
    stop_absent = h.ends.stop

    inner_there : (n : TableNode P) → node_at s (name_of i) ≡ Some n → length n.prefix < 7
    inner_there n here =
        let both : Some h.ends.node ≡ Some n = sym h.ends.here ∙ here in
        let same : h.ends.node ≡ n = cc in
        subst (λ (m : TableNode P). length m.prefix < 7) same stop_absent.3

    pub place_ready : (spare : Option (Vec (Place P))) (new : FormCounts) → SameElsewhere (name_of i) s g → CountsGrown s (name_of i) (with_form N4 forms) new → IsReady s g root key (ready.Place i b spare) new
    place_ready spare new same grown = λ t v x.
        let w = h.ends in
        let a : EndsAt s root key (place_of s root key (seen_at key i j above (ends.Absent b)) (Absent b)) = record { leads = w.leads; node = w.node; here = w.here; end = (stop_absent.0, stop_absent.1, stop_absent.2) } in
        let adds = added s g t (name_of i) b (name_under i b) key v same room inner_there x in
        gains h.bytes h.full t v new
        (add_inserts s root key h.bytes h.full h.rooted _ a t v b refl adds)
        (add_counted s root key _ a forms h.counted h.bytes h.full t v b new refl adds stop_absent.3 grown)

    pub place_may : IsOpenFor g (name_of i) b key
    place_may =
        let w = h.ends in
        let n = w.node in
        let y = room n w.here in
        let o = open_subtree s w.leads.levels (name_of i) n (record { above = w.leads.q; tree = w.leads.tree }) (sym w.here) in
        let on = goes_on n.prefix key stop_absent.1 h.bytes o.sound.short h.full in
        record {
          node = y.0;
          here = y.1;
          inner = subst (λ p. length p < 7) (sym y.2) stop_absent.3;
          begins = subst (λ p. Begins (p ++ b ∷ []) key) (sym y.2) (subst (λ c. Begins (n.prefix ++ c ∷ []) key) (sym stop_absent.0) on.begins);
          absent = ap (λ es. lookup es b) y.3 ∙ stop_absent.2;
          room = y.4;
        }

  -- THE LEAF OF A PAIR under a byte: the node above it
  module _ (i above b : ℕ) (bytes : AreBytes key) (full : length key ≡ 8) (lead : LeadsTo s root key (above + 1) (name_under i b) (name_of i)) where
    pub pair_step : StepAbove s root key bytes full above (name_under i b) (name_of i)
    pair_step =
        let more : above + 1 ≡ suc above = omega arith in
        step_above s root key bytes full above (name_under i b) (name_of i) (subst (λ a. LeadsTo s root key a (name_under i b) (name_of i)) more lead) (tree_there (above + 1) (name_under i b) (name_of i) lead)

    pub pair_goes : MeetsPair key s i b → GoesOnAt s root key (name_of i) b
    pair_goes x =
        let p = pair_step in
        let both : Some p.node ≡ Some x.leaf.below.node = sym p.here ∙ x.leaf.below.here in
        let same : p.node ≡ x.leaf.below.node = cc in
        let next : next_byte p.node.prefix key ≡ b = ap (λ (m : TableNode P). next_byte m.prefix key) same ∙ sym x.byte in
        subst (λ c. GoesOnAt s root key (name_of i) c) next p.goes

  -- A SECOND PAIR for the leaf of a pair, which has a slot in g
  module _ (i j above b k : ℕ) (forms : FormCounts) (h : EndsAbsent s key (end_of i j above (ends.PairBeside b)) root forms) (g : NodeTable P) (m : MovesNode s g (name_of i) b (name_under i b) (name_of k)) where
    abbrev last : ℕ
    last = get_or key 7 0

    same_tree : SameTree s g root
    same_tree = moves_on_path s g root (name_of i) b (name_under i b) (name_of k) key (pair_goes i above b h.bytes h.full h.ends.leads h.pair.0) m

    next_in : b ≡ next_byte m.node.prefix key
    next_in =
        let both : Some h.pair.0.leaf.below.node ≡ Some m.node = sym h.pair.0.leaf.below.here ∙ m.here in
        let same : h.pair.0.leaf.below.node ≡ m.node = cc in
        h.pair.0.byte ∙ ap (λ (n : TableNode P). next_byte n.prefix key) same

    pub beside_ready : IsReady s g root key (ready.Leaf k) forms
    beside_ready = λ t v x.
        let w = seeks_moved s root key h.bytes h.full g (name_of i) b (name_under i b) (name_of k) above (stops.Leaf last) h.ends same_tree.tree m next_in in
        let counted : IsCounted forms (nodes_at g depth [] root) = subst (IsCounted forms) (sym same_tree.nodes) h.counted in
        let rooted = same_root s g root same_tree (tree_there (above + 1) (name_under i b) (name_of i) h.ends.leads) h.rooted in
        let y = fill_inserts g root key _ w h.bytes h.full forms counted rooted t v (sets g t (name_of k) last v None x) in
        gains_from s g root same_tree t key v forms (gains_in g h.bytes h.full t v forms y.0 y.1)
      where
        gains_in : (g : NodeTable P) (bytes : AreBytes key) (full : length key ≡ 8) (t : NodeTable P) (v : P) (forms : FormCounts) → IsInsertion g root key bytes full t v None → IsCounted forms (nodes_at t depth [] root) → GainsPair g t root key v forms
        gains_in g bytes full t v forms x counted = record { tree = x.tree; rooted = x.root_stays; absent = sym x.was; pairs = x.pairs; shape = x.shape; counted = counted }

  -- A SPLIT, as the tree after one in place
  splits_of : (t : NodeTable P) (old at : ℕ) (v : P) → SplitsInPlace s t old key at v → Splits s t old key at v
  splits_of t old at v x = record {
    node = x.child;
    here = x.was;
    upper = upper_of x.child.prefix key at x.lower x.leaf;
    leaf = leaf_of key v;
    lower_slot = x.lower;
    leaf_slot = x.leaf;
    keeps = x.keeps;
    upper_there = x.upper_is;
    lower_there = x.lower_is;
    leaf_there = x.leaf_is;
    form_is = refl;
    prefix_is = refl;
    children_are = refl;
    is_leaf = record { prefix = refl; children = refl; form = refl };
  }

  split_gains : (spot : PathEnd) (at : ℕ) (w : SeeksTo s root key spot) → spot.stop ≡ stops.Differs at → HasRoot s root → AreBytes key → length key ≡ 8 → (forms new : FormCounts) → IsCounted forms (nodes_at s depth [] root)
      → new ≡ with_form N4 (with_form N4 forms) → (t : NodeTable P) (v : P) → SplitsTree s t root spot.slot key at v → GainsPair s t root key v new
  split_gains spot at w stop rooted bytes full forms new counted more t v x =
      let a : EndsAt s root key (place_of s root key spot (Differs at)) = record { leads = w.leads; node = w.node; here = w.here; end = subst (λ y. Halts key w.node y) stop w.stop } in
      let y = splits_of x.between spot.slot at v x.splits in
      let z = gains bytes full x.between v new (split_inserts s root key bytes full rooted _ a x.between v at refl y) (split_counted s root key _ a forms counted bytes full x.between v at new refl y more) in
      gains_then x.between t root (x.same z.tree) s key v new z

  differs_early : (spot : PathEnd) (at : ℕ) (w : SeeksTo s root key spot) → spot.stop ≡ stops.Differs at → at < 7
  differs_early spot at w stop = parts_high s root key (place_of s root key spot (Differs at)) (record { leads = w.leads; node = w.node; here = w.here; end = subst (λ y. Halts key w.node y) stop w.stop }) at refl

  -- above a pair
  module _ (i j above b at : ℕ) (forms : FormCounts) (h : EndsAbsent s key (end_of i j above (ends.PairDiffers b at)) root forms) (g : NodeTable P) (same : g ≡ s) where
    pub over_pair_ready : (new : FormCounts) → new ≡ with_form N4 (with_form N4 forms) → IsReady s g root key (ready.Beside i b at) new
    over_pair_ready new more = λ t v x.
        let y : PartsTree s t (name_of i) b (name_under i b) key at v = subst (λ z. PartsTree z t (name_of i) b (name_under i b) key at v) same x in
        split_gains (seen_at key i j above (ends.PairDiffers b at)) at h.ends refl h.rooted h.bytes h.full forms new h.counted more t v (y root (pair_goes i above b h.bytes h.full h.ends.leads h.pair.0))

  -- above a node
  module _ (i j above at : ℕ) (forms : FormCounts) (h : EndsAbsent s key (end_of i j above (ends.Differs at)) root forms) where
    below_root : 0 < above
    below_root = at_place above h.ends.leads.levels h.ends.leads.q h.ends.leads.path
      where
        at_place : (a levels : ℕ) (q : List ℕ) → PathTo s root key a levels q (name_of i) → 0 < a
        at_place zero levels q path =
            let both : Some h.ends.node ≡ Some h.rooted.node = sym h.ends.here ∙ ap (λ z. node_at s z) path.2 ∙ h.rooted.here in
            let is : h.ends.node ≡ h.rooted.node = cc in
            let none : length h.ends.node.prefix ≡ 0 = ap (λ (n : TableNode P). length n.prefix) is ∙ ap (λ (p : List ℕ). length p) h.rooted.prefix in
            let d : Halts key h.ends.node (stops.Differs at) = h.ends.stop in
            absurd (omega (arith, d.inside, none))
        at_place (suc a) levels q path = omega arith

    pub node_step : StepAbove s root key h.bytes h.full (above - 1) (name_of i) (name_of j)
    node_step =
        let more : above ≡ suc (above - 1) = omega (arith, below_root) in
        step_above s root key h.bytes h.full (above - 1) (name_of i) (name_of j) (subst (λ a. LeadsTo s root key a (name_of i) (name_of j)) more h.ends.leads) (tree_there above (name_of i) (name_of j) h.ends.leads)

    module _ (g : NodeTable P) (same : g ≡ s) where
      pub over_node_ready : (b : ℕ) → b ≡ next_byte node_step.node.prefix key → (new : FormCounts) → new ≡ with_form N4 (with_form N4 forms) → IsReady s g root key (ready.Above j b i at) new
      over_node_ready b byte new more = λ t v x.
          let y : PartsTree s t (name_of j) b (name_of i) key at v = subst (λ z. PartsTree z t (name_of j) b (name_of i) key at v) same x in
          split_gains (seen_at key i j above (ends.Differs at)) at h.ends refl h.rooted h.bytes h.full forms new h.counted more t v (y root (subst (λ c. GoesOnAt s root key (name_of j) c) (sym byte) node_step.goes))

      pub over_node_may : (b : ℕ) → b ≡ next_byte node_step.node.prefix key → (free : ℕ) → 1 < free → MayPart g free (name_of j) b (name_of i) key at
      over_node_may b byte free some =
          subst (λ z. MayPart z free (name_of j) b (name_of i) key at) (sym same) (record {
            below = record { node = node_step.node; here = node_step.here; inner = node_step.inner; found = subst (λ c. lookup node_step.node.children c ≡ Some (Node (name_of i))) (sym byte) node_step.found };
            apart = node_step.apart;
            parted = record { node = h.ends.node; here = h.ends.here; differs = h.ends.stop };
            early = differs_early (seen_at key i j above (ends.Differs at)) at h.ends refl;
            two = some;
          })

-- the end of a descent by how it stopped
pub at_stop : {P : Type 0} (s : NodeTable P) (key : List ℕ) (e : LinkEnd) (root : ℕ) (forms : FormCounts) (stop : LinkStop) → e.stop ≡ stop → EndsAbsent s key e root forms → EndsAbsent s key (end_of e.slot e.parent e.above stop) root forms
at_stop s key e root forms stop is h = subst (λ st. EndsAbsent s key (end_of e.slot e.parent e.above st) root forms) is h

-- its node is counted
pub counted_at : {P : Type 0} (s : NodeTable P) (root : ℕ) (key : List ℕ) (e : LinkEnd) (forms : FormCounts) → EndsAbsent s key e root forms → IsCountedAt s (seen_end key e).slot forms
counted_at s root key e forms h = counted_there s root key (seen_end key e) h.ends h.bytes h.full forms h.counted

-- where the key's pair is, it isn't absent
pub not_at_pair : {P : Type 0} (s : NodeTable P) (root : ℕ) (key : List ℕ) (i j above b : ℕ) (forms : FormCounts) → EndsAbsent s key (end_of i j above (ends.Pair b)) root forms → ⊥
not_at_pair {P} s root key i j above b forms h =
    let x = h.pair.0.leaf in
    let some = pair_has s (name_under i b) key x.key x.payload x.payload x.is h.pair.1 refl (leaf_of x.key x.payload) x.is in
    let none = h.nothing (leaf_of x.key x.payload) x.is in
    let clash : ◌≡◌ {A = Option (Child P)} None (Some (Payload x.payload)) = sym none ∙ some in cc

-- the byte of the node above
pub byte_above : {P : Type 0} (s : NodeTable P) (i : ℕ) (key p : List ℕ) (n m : TableNode P) → node_at s i ≡ Some n → node_at s i ≡ Some m → p ≡ n.prefix → get_or key (length p) 0 ≡ next_byte m.prefix key
byte_above {P} s i key p n m here there is =
    let both : Some n ≡ Some m = sym here ∙ there in
    let same : n ≡ m = cc in
    ap (λ q. get_or key (length q) 0) (is ∙ ap (λ (x : TableNode P). x.prefix) same)
