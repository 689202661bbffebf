-- What a call knows outlives the events of others.
use Rattle.std.proofs.Common.{◌≡◌, ℕ, ◌+◌, ◌<◌, ◌≤◌, max, Bool, List, [], ◌∷◌, length, Option, Some, None, IsTrue, ◌↔◌, inl, inr, refl, sym, subst, ap, ◌∙◌, arith}
use Rattle.node_base.specs.Form.{Fits}
use Rattle.spec_map.specs.Map.{lookup}
use Rattle.spec_node.specs.Key.{Begins, high, low, next_byte}
use Rattle.spec_node.specs.TableNode.{TableNode, Child}
use Rattle.spec_node.specs.declared.child.Child.TheVariants.{Payload, Node as below_at}
use Rattle.spec_olc.specs.Lock.{IsFree}
use Rattle.spec_olc.specs.Calls.{key_of}
use Rattle.spec_olc.specs.Lists.{is_in}
use Rattle.spec_olc.specs.Local.{payload_in}
use Rattle.spec_olc.specs.Reading.{IsReading, IsSeenOf, bound_at, child_for, first_from}
use Rattle.spec_olc.specs.declared.types.Seen.{Seen}
use Rattle.olc_state.specs.inner.Tables.{IsSafe, Known, IsThere, OnWay, While, LedTo, CameFrom, OnPath, TestOf, Guarantees, PrivateStays, Remains}
use Rattle.olc_state.specs.inner.TailFacts.{CaseFacts, IsConfirmed, IsPresent, LargeCase, MayStore, SmallCase, found, path_to, stands_at, AreHeld, AtNode, AtPair, Below, HasCopy, HasLeaf, HasMiddle, HasOwn, HasOwnLeaf, IsAbove, IsHeld, IsLarge, IsPrivateOf, IsOut, IsSmall, LargeWork, SmallWork, TailFacts, WritesAtKey, grown_by, is_for, leaf_of, middle_of}
use Rattle.olc_state.specs.inner.Tails.{both_slots, held_in, made_in, one_more}
use Rattle.olc_state.specs.inner.Tasks.{MaySee, Agrees, Saw, key_bytes}
use Rattle.olc_state.specs.inner.Facts.{FactsAt, Facts, Holding}
use Rattle.olc_state.specs.inner.Shown.{flight}
use Rattle.olc_state.specs.declared.cleanup.Cleanup.{Cleanup}
use Rattle.olc_state.specs.declared.cleanup.Seek.{Seek}
use Rattle.olc_state.specs.declared.cleanup.Seek.TheVariants as seek
use Rattle.olc_state.specs.declared.cleanup.Tidy.{Tidy}
use Rattle.olc_state.specs.declared.cleanup.Tidy.TheVariants as tidy
use Rattle.olc_state.specs.inner.CleanupFacts.{CleansAt, HasDepth, IsNearer, IsSeeking, IsWithin, LeadsTo, SeekFacts, TidyFacts, smaller_of}
use Rattle.olc_state.specs.inner.CleanupStages.{held_tidying, made_tidying}
use Rattle.olc_state.specs.inner.Scans.{GoesTo, IsAtNode, LeadsFirst, LooksAt, SawFirst, ScanFacts}
use Rattle.olc_state.specs.declared.scan.RangeProgress.{RangeProgress}
use Rattle.olc_state.specs.declared.scan.Scan.{Scan}
use Rattle.olc_state.specs.declared.scan.Scan.TheVariants as scan
use Rattle.olc_state.specs.inner.World.{PlacedNode, NodeMap}
use Rattle.olc_state.specs.declared.stage.Path.{Path}
use Rattle.olc_state.specs.declared.stage.Record.{Record}
use Rattle.olc_state.specs.declared.stage.Spot.{Spot}
use Rattle.olc_state.specs.declared.stage.Stage.{Stage}
use Rattle.olc_state.specs.declared.stage.Stage.TheVariants.{TakeRoot, Read, Check, TakeBelow, CheckAbove, Finish}
use Rattle.olc_state.specs.declared.stage.Stage.TheVariants as stage
use Rattle.olc_state.specs.declared.stage.Task.{Task}
use Rattle.olc_state.specs.declared.tail.Case.{Case}
use Rattle.olc_state.specs.declared.tail.Case.TheVariants as case
use Rattle.olc_state.specs.declared.tail.Large.{Large}
use Rattle.olc_state.specs.declared.tail.Large.TheVariants.{GrowLeaf, GrowInner, Split, Detach}
use Rattle.olc_state.specs.declared.tail.NodePair.{NodePair}
use Rattle.olc_state.specs.declared.tail.Small.{Small}
use Rattle.olc_state.specs.declared.tail.Small.TheVariants.{Entry, Leaf}
use Rattle.olc_state.specs.declared.tail.Tail.{Tail}
use Rattle.olc_state.specs.declared.tail.Tail.TheVariants.{Upgrade, Write, MakeLeaf, Link, Unlock, UpgradeAbove, UpgradeBelow, MakeLeafBelow, Grow, MakeMiddle, Replace, Insert, Obsolete, UnlockBelow}
use Rattle.olc_state.specs.declared.tail.Tail.TheVariants as tail
use Rattle.olc_state.proofs.Holding.{not_free_now}
use Rattle.olc_state.proofs.Options.{some_same}
use Rattle.olc_state.proofs.Members.{first_in, next_in}

module _ {M : Type 0} (t t' : NodeMap M) (Mine : ℕ → Type 0) (pin : ℕ) (g : Guarantees t t' Mine pin) where
  pub there_lasts : (slot : ℕ) → IsThere t pin slot → IsThere t' pin slot
  there_lasts slot f = let r : Remains t' Mine pin slot f.node = g slot f.node f.here f.safe in record { node = r.node; here = r.here; safe = r.kept.safe }

  pub known_lasts : (spot : Spot) → Known t pin spot → Known t' pin spot
  known_lasts spot kn =
      let r : Remains t' Mine pin spot.slot kn.node = g spot.slot kn.node kn.here kn.safe in
      record { node = r.node; here = r.here; safe = r.kept.safe; free = kn.free; word = omega (arith, r.kept.word, kn.word) }

  -- a fact of the prefix of a node that is safe
  prefix_lasts : (slot : ℕ) (Q : List ℕ → Type 0) (a : PlacedNode M) → t slot ≡ Some a → IsSafe pin a.lifetime → Q a.node.prefix → (b : PlacedNode M) → t' slot ≡ Some b → Q b.node.prefix
  prefix_lasts slot Q a at safe q b bt =
      let r : Remains t' Mine pin slot a = g slot a at safe in
      let same : r.node ≡ b = some_same r.node b (sym r.here ∙ bt) in
      subst (λ (z : PlacedNode M). Q z.node.prefix) same (subst Q (sym r.kept.prefix) q)

  pub way_lasts : (spot : Spot) (k : List ℕ) → Known t pin spot → OnWay t spot.slot k → OnWay t' spot.slot k
  way_lasts spot k kn f b bt = prefix_lasts spot.slot (λ z. Begins z k) kn.node kn.here kn.safe (f kn.node kn.here) b bt

  pub test_lasts : (spot : Spot) (k : List ℕ) (fits : Bool) → Known t pin spot → TestOf t spot.slot k fits → TestOf t' spot.slot k fits
  test_lasts spot k fits kn f b bt = prefix_lasts spot.slot (λ z. IsTrue fits ↔ Begins z k) kn.node kn.here kn.safe (f kn.node kn.here) b bt

  -- what holds of a node while its word is the remembered one
  pub while_lasts : (spot : Spot) (Q : TableNode M → Type 0) → Known t pin spot → ((a : PlacedNode M) → t spot.slot ≡ Some a → a.word ≡ spot.word → Q a.node)
      → (b : PlacedNode M) → t' spot.slot ≡ Some b → b.word ≡ spot.word → Q b.node
  while_lasts spot Q kn f b bt w =
      let r : Remains t' Mine pin spot.slot kn.node = g spot.slot kn.node kn.here kn.safe in
      let same : r.node ≡ b = some_same r.node b (sym r.here ∙ bt) in
      let word : r.node.word ≡ spot.word = ap (λ (z : PlacedNode M). z.word) same ∙ w in
      let was : kn.node.word ≡ spot.word = omega (arith, word, r.kept.word, kn.word) in
      let free : IsFree r.node.word = subst (λ z. IsFree z) (sym word) kn.free in
      let node : r.node.node ≡ kn.node.node = r.kept.same free (word ∙ sym was) in
      subst (λ (z : PlacedNode M). Q z.node) same (subst Q (sym node) (f kn.node kn.here was))

  pub led_lasts : (spot : Spot) (k : List ℕ) (slot : ℕ) → Known t pin spot → LedTo t spot k slot → LedTo t' spot k slot
  led_lasts spot k slot kn f = while_lasts spot (λ n. lookup n.children (next_byte n.prefix k) ≡ Some (below_at slot)) kn f

  came_lasts : (root : ℕ) (k : List ℕ) (above : Option Spot) (slot : ℕ) → CameFrom t root pin k above slot → CameFrom t' root pin k above slot
  came_lasts root k None slot f = f
  came_lasts root k (Some p) slot f = (known_lasts p f.0, way_lasts p k f.0 f.1, led_lasts p k slot f.0 f.2)

  pub path_lasts : (root : ℕ) (k : List ℕ) (path : Path) → OnPath t root pin k path → OnPath t' root pin k path
  path_lasts root k path f = record {
    above = came_lasts root k path.above path.here.slot f.above;
    here = known_lasts path.here f.here;
    way = way_lasts path.here k f.here f.way;
    apart = f.apart;
  }

  -- a fact of the prefix of a node that is known
  first_lasts : (spot : Spot) (Q : List ℕ → Type 0) → (kn : Known t pin spot) → ((a : PlacedNode M) → t spot.slot ≡ Some a → Q a.node.prefix) → (b : PlacedNode M) → t' spot.slot ≡ Some b → Q b.node.prefix
  first_lasts spot Q kn q b bt =
      let r : Remains t' Mine pin spot.slot kn.node = g spot.slot kn.node kn.here kn.safe in
      let same : r.node ≡ b = some_same r.node b (sym r.here ∙ bt) in
      subst (λ (z : PlacedNode M). Q z.node.prefix) same (subst Q (sym r.kept.prefix) (q kn.node kn.here))

  looks_lasts : (spot : Spot) (cursor reach : ℕ) → Known t pin spot → LooksAt t spot.slot cursor reach → LooksAt t' spot.slot cursor reach
  looks_lasts spot cursor reach kn f b bt = first_lasts spot (λ p. (reach ≡ max cursor (low p)) × (cursor < high p)) kn f b bt

  goes_lasts : (spot : Spot) (cursor : ℕ) (from : Option ℕ) → Known t pin spot → GoesTo t spot.slot cursor from → GoesTo t' spot.slot cursor from
  goes_lasts spot cursor (Some reach) kn f = (f.0, looks_lasts spot cursor reach kn f.1)
  goes_lasts spot cursor None kn f = λ b bt. first_lasts spot (λ p. high p ≤ cursor) kn f b bt

  is_at_lasts : (task : Task M) (course : RangeProgress) (spot : Spot) → IsAtNode t pin task course spot → IsAtNode t' pin task course spot
  is_at_lasts task course spot f = record { ranging = f.ranging; here = known_lasts spot f.here; looks = looks_lasts spot course.cursor course.reach f.here f.looks }

  leads_lasts : (spot : Spot) (cursor slot : ℕ) → Known t pin spot → LeadsFirst t spot cursor slot → LeadsFirst t' spot cursor slot
  leads_lasts spot cursor slot kn f = while_lasts spot (λ n. first_from (bound_at cursor n.prefix) n.children ≡ Some (below_at slot)) kn f

  saw_first_lasts : (task : Task M) (course : RangeProgress) (spot : Spot) → Known t pin spot → SawFirst t task course spot → SawFirst t' task course spot
  saw_first_lasts task course spot kn f = record {
    seen = f.seen;
    is = f.is;
    at_key = while_lasts spot (λ n. (f.seen.child ≡ first_from (bound_at course.cursor n.prefix) n.children) × (task.spare ≡ payload_in f.seen.child)) kn f.at_key;
  }

  -- what a range knows
  scan_lasts : (root : ℕ) (task : Task M) (course : RangeProgress) (s : Scan) → ScanFacts t root pin task course s → ScanFacts t' root pin task course s
  scan_lasts root task course scan.TakeRoot f = f
  scan_lasts root task course (scan.Read spot) f = is_at_lasts task course spot f
  scan_lasts root task course (scan.Check spot) f = (is_at_lasts task course spot f.0, saw_first_lasts task course spot f.0.here f.1)
  scan_lasts root task course (scan.TakeBelow spot slot) f = (
    is_at_lasts task course spot f.0,
    leads_lasts spot course.cursor slot f.0.here f.1,
    there_lasts slot f.2,
    f.3,
    f.4,
    f.5,
  )
  scan_lasts root task course (scan.CheckAbove spot below from) f = (
    is_at_lasts task course spot f.0,
    leads_lasts spot course.cursor below.slot f.0.here f.1,
    known_lasts below f.2,
    goes_lasts below course.cursor from f.2 f.3,
    f.4,
    f.5,
  )
  scan_lasts root task course scan.Finish f = f

  -- what a call that cleans up knows on its way down
  within_lasts : (spot : Spot) (k : List ℕ) (most : ℕ) → Known t pin spot → IsWithin t spot.slot k most → IsWithin t' spot.slot k most
  within_lasts spot k most kn f b bt = first_lasts spot (λ p. Begins p k × (length p ≤ most)) kn f b bt

  depth_lasts : (spot : Spot) (k : List ℕ) (depth : ℕ) → Known t pin spot → HasDepth t spot.slot k depth → HasDepth t' spot.slot k depth
  depth_lasts spot k depth kn f b bt = first_lasts spot (λ p. Begins p k × (length p ≡ depth)) kn f b bt

  nearer_lasts : (spot : Spot) (depth : ℕ) → Known t pin spot → IsNearer t spot.slot depth → IsNearer t' spot.slot depth
  nearer_lasts spot depth kn f b bt = first_lasts spot (λ p. length p < depth) kn f b bt

  leads_to_lasts : (spot : Spot) (k : List ℕ) (most : ℕ) (fits : Bool) → Known t pin spot → LeadsTo t spot.slot k most fits → LeadsTo t' spot.slot k most fits
  leads_to_lasts spot k most fits kn f b bt = first_lasts spot (λ p. IsTrue fits ↔ (Begins p k × (length p ≤ most))) kn f b bt

  seeking_lasts : (root : ℕ) (task : Task M) (c : Cleanup) (path : Path) → IsSeeking t root pin task c path → IsSeeking t' root pin task c path
  seeking_lasts root task c path f = record {
    cleans = f.cleans;
    on = path_lasts root (key_bytes task) path f.on;
    within = within_lasts path.here (key_bytes task) c.length f.on.here f.within;
  }

  seek_lasts : (Granted : Type 0) (root : ℕ) (task : Task M) (c : Cleanup) (s : Seek) → SeekFacts Granted t root pin task c s → SeekFacts Granted t' root pin task c s
  seek_lasts Granted root task c seek.TakeRoot f = f
  seek_lasts Granted root task c (seek.Read path) f = seeking_lasts root task c path f
  seek_lasts Granted root task c (seek.Check path) f = (
    seeking_lasts root task c path f.0,
    record {
      seen = f.1.seen;
      is = f.1.is;
      child = while_lasts path.here (λ n. IsSeenOf Granted (lookup n.children (next_byte n.prefix (key_bytes task))) f.1.seen.child) f.0.on.here f.1.child;
    },
  )
  seek_lasts Granted root task c (seek.TakeBelow path slot) f = (
    seeking_lasts root task c path f.0,
    led_lasts path.here (key_bytes task) slot f.0.on.here f.1,
    there_lasts slot f.2,
    f.3,
    f.4,
    f.5,
    nearer_lasts path.here c.length f.0.on.here f.6,
  )
  seek_lasts Granted root task c (seek.CheckAbove path spot fits) f = (
    seeking_lasts root task c path f.0,
    led_lasts path.here (key_bytes task) spot.slot f.0.on.here f.1,
    known_lasts spot f.2,
    leads_to_lasts spot (key_bytes task) c.length fits f.2 f.3,
    f.4,
    f.5,
    nearer_lasts path.here c.length f.0.on.here f.6,
  )

  -- an event of another call leaves what this one holds as it is
  stays : (slot : ℕ) (a : PlacedNode M) → t slot ≡ Some a → IsSafe pin a.lifetime → (IsFree a.word → ⊥) → (Mine slot → ⊥) → t' slot ≡ Some a
  stays slot a at safe locked off =
      let r : Remains t' Mine pin slot a = g slot a at safe in
      elim r.changed [
        | inl same ↦ subst (λ z. t' slot ≡ Some z) same r.here
        | inr (inl mine) ↦ absurd (off mine)
        | inr (inr free) ↦ absurd (locked free)
      ]

  held_stays : (spot : Spot) (h : IsHeld t spot) → (Mine spot.slot → ⊥) → t' spot.slot ≡ Some h.node
  held_stays spot h off =
      stays spot.slot h.node h.linked.here (subst (IsSafe pin) (sym h.linked.lifetime) tt) (not_free_now h.node.word spot.word h.word h.free) off

  out_stays : (spot : Spot) (h : IsOut t spot) → (Mine spot.slot → ⊥) → t' spot.slot ≡ Some h.node
  out_stays spot h off =
      stays spot.slot h.node h.here (subst (IsSafe pin) (sym h.lifetime) tt) (not_free_now h.node.word spot.word h.word h.free) off

  abbrev held_lasts : (spot : Spot) → IsHeld t spot → (Mine spot.slot → ⊥) → IsHeld t' spot
  held_lasts spot h off = record {
    node = h.node;
    linked = record { here = held_stays spot h off; lifetime = h.linked.lifetime };
    word = h.word;
    free = h.free;
    room = h.room;
  }

  out_lasts : (spot : Spot) → IsOut t spot → (Mine spot.slot → ⊥) → IsOut t' spot
  out_lasts spot h off = record { node = h.node; here = out_stays spot h off; lifetime = h.lifetime; word = h.word; free = h.free }

  -- the way of a node that is safe
  way_stays : (slot : ℕ) (k : List ℕ) → IsThere t pin slot → OnWay t slot k → OnWay t' slot k
  way_stays slot k there f b bt = prefix_lasts slot (λ z. Begins z k) there.node there.here there.safe (f there.node there.here) b bt

  held_there : (spot : Spot) → IsHeld t spot → IsThere t pin spot.slot
  held_there spot h = record { node = h.node; here = h.linked.here; safe = subst (IsSafe pin) (sym h.linked.lifetime) tt }

  known_there : (spot : Spot) → Known t pin spot → IsThere t pin spot.slot
  known_there spot kn = record { node = kn.node; here = kn.here; safe = kn.safe }

  above_lasts : (pair : NodePair) (k : List ℕ) → IsThere t pin pair.above.slot → IsAbove t pair k → IsAbove t' pair k
  above_lasts pair k there f = record { way = way_stays pair.above.slot k there f.way; apart = f.apart }

  abbrev both_last : (pair : NodePair) (k : List ℕ) → AreHeld t pair k → (Mine pair.here.slot → ⊥) → (Mine pair.above.slot → ⊥) → AreHeld t' pair k
  both_last pair k h off_here off_above = record {
    over = above_lasts pair k (held_there pair.above h.above) h.over;
    above = held_lasts pair.above h.above off_above;
    here = held_lasts pair.here h.here off_here;
    leads = h.leads;
  }

  -- a private node of the call
  module _ (privates : PrivateStays t t' Mine) where
    made_lasts : (slot : ℕ) (a : TableNode M) → (Mine slot → ⊥) → IsPrivateOf t slot a → IsPrivateOf t' slot a
    made_lasts slot a off h = record { node = h.node; here = privates slot h.node h.here h.lifetime off; lifetime = h.lifetime; word = h.word; is = h.is }

    leaf_lasts : (task : Task M) (leaf : ℕ) → (Mine leaf → ⊥) → HasLeaf t task leaf → HasLeaf t' task leaf
    leaf_lasts task leaf off h = record { value = h.value; stores = h.stores; made = made_lasts leaf (leaf_of (key_bytes task) h.value) off h.made }

    -- the leaf of a copy, where it has one
    abbrev AllOff : Option ℕ → Type 0
    AllOff leaf = (s : ℕ) → IsTrue (is_in s (one_more leaf)) → Mine s → ⊥

    own_leaf_lasts : (task : Task M) (leaf : Option ℕ) → AllOff leaf → HasOwnLeaf t task leaf → HasOwnLeaf t' task leaf
    own_leaf_lasts task None off h = h
    own_leaf_lasts task (Some leaf) off h = leaf_lasts task leaf (off leaf (first_in leaf [])) h

    own_lasts : (task : Task M) (leaf : Option ℕ) (child : Child M) → AllOff leaf → HasOwn t task leaf child → HasOwn t' task leaf child
    own_lasts task None child off h = h
    own_lasts task (Some leaf) child off h = (leaf_lasts task leaf (off leaf (first_in leaf [])) h.0, h.1)

    copy_lasts : (task : Task M) (a : PlacedNode M) (copy : ℕ) (leaf : Option ℕ) → (Mine copy → ⊥) → AllOff leaf → HasCopy t task a copy leaf → HasCopy t' task a copy leaf
    copy_lasts task a copy leaf off rest h = record {
      child = h.child;
      own = own_lasts task leaf h.child rest h.own;
      made = made_lasts copy (grown_by a (key_bytes task) h.child) off h.made;
    }

    middle_lasts : (task : Task M) (a : PlacedNode M) (slot middle leaf : ℕ) → (Mine middle → ⊥) → HasMiddle t task a slot middle leaf → HasMiddle t' task a slot middle leaf
    middle_lasts task a slot middle leaf off h = record {
      prefix = h.prefix;
      fork = h.fork;
      made = made_lasts middle (middle_of h.prefix a slot (key_bytes task) leaf) off h.made;
    }

    -- what a call that cleans up knows at the node
    abbrev cleans_at_lasts : (task : Task M) (c : Cleanup) (pair : NodePair) → ((s : ℕ) → IsTrue (is_in s (both_slots pair)) → Mine s → ⊥) → CleansAt t task c pair → CleansAt t' task c pair
    cleans_at_lasts task c pair off f = record {
      cleans = f.cleans;
      held = both_last pair (key_bytes task) f.held
          (off pair.here.slot (first_in pair.here.slot (pair.above.slot ∷ [])))
          (off pair.above.slot (next_in pair.here.slot pair.above.slot (pair.above.slot ∷ []) (first_in pair.above.slot [])));
      reaches = f.reaches;
    }

    tidy_lasts : (task : Task M) (c : Cleanup) (x : Tidy) → ((s : ℕ) → IsTrue (is_in s (held_tidying x)) → Mine s → ⊥) → ((s : ℕ) → IsTrue (is_in s (made_tidying x)) → Mine s → ⊥)
        → TidyFacts t pin task c x → TidyFacts t' pin task c x
    tidy_lasts task c (tidy.UpgradeAbove pair) held made f = (
      f.0,
      above_lasts pair (key_bytes task) (known_there pair.above f.2) f.1,
      known_lasts pair.above f.2,
      led_lasts pair.above (key_bytes task) pair.here.slot f.2 f.3,
      known_lasts pair.here f.4,
      depth_lasts pair.here (key_bytes task) c.length f.4 f.5,
    )
    tidy_lasts task c (tidy.UpgradeBelow pair) held made f = (
      f.0,
      above_lasts pair (key_bytes task) (held_there pair.above f.2.0) f.1,
      (held_lasts pair.above f.2.0 (held pair.above.slot (first_in pair.above.slot [])), f.2.1),
      known_lasts pair.here f.3,
      depth_lasts pair.here (key_bytes task) c.length f.3 f.4,
    )
    tidy_lasts task c (tidy.TakeAway pair) held made f = (cleans_at_lasts task c pair held f.0, f.1)
    tidy_lasts task c (tidy.MakeSmaller pair) held made f = (cleans_at_lasts task c pair held f.0, f.1)
    tidy_lasts task c (tidy.PutSmaller pair copy) held made f = (
      cleans_at_lasts task c pair held f.0,
      made_lasts copy (smaller_of f.0.held.here.node.node) (made copy (first_in copy [])) f.1,
      f.2,
    )
    tidy_lasts task c (tidy.UnlockBelow pair) held made f = (cleans_at_lasts task c pair held f.0, f.1)

  module _ (Granted : Type 0) (same : M → M → Bool) where
    -- what agrees with a node, by the node alone
    agreed : (task : Task M) (stage : Stage) (s : Seen M) (a b : PlacedNode M) → b.node ≡ a.node → Agrees Granted same task stage pin a s → Agrees Granted same task stage pin b s
    agreed task stage s a b e h = record {
      reading = subst (λ (n : TableNode M). IsReading (MaySee Granted same task) (flight pin (record { stage = stage; task = task })) n s) (sym e) h.reading;
      spare = h.spare;
      question = h.question;
      below = λ slot is. subst (λ (n : TableNode M). child_for task.outline (key_of task.outline) n ≡ Some (below_at slot)) (sym e) (h.below slot is);
    }

    -- what depends on the node alone outlives them, as long as the word is the remembered one
    node_lasts : (spot : Spot) (Q : PlacedNode M → Type 0) → ((a b : PlacedNode M) → b.node ≡ a.node → Q a → Q b) → Known t pin spot → While t spot Q → While t' spot Q
    node_lasts spot Q by kn f b bt w =
        let found : (a : PlacedNode M) × (a.node ≡ b.node) × Q a = while_lasts spot (λ n. (a : PlacedNode M) × (a.node ≡ n) × Q a) kn (λ a at e. (a, refl, f a at e)) b bt w in
        by found.0 b (sym found.1) found.2

    saw_lasts : (path : Path) (task : Task M) → Known t pin path.here → Saw Granted same t pin path task → Saw Granted same t' pin path task
    saw_lasts path task kn f = record {
      seen = f.seen;
      is = f.is;
      agrees = node_lasts path.here (λ a. Agrees Granted same task (Check path) pin a f.seen) (λ a b e h. agreed task (Check path) f.seen a b e h) kn f.agrees;
    }

    -- what is to be done at a node, by the node alone
    same_small : (small : Small) (a b : PlacedNode M) (k : List ℕ) → b.node ≡ a.node → IsSmall small a k → IsSmall small b k
    same_small Entry a b k e h =
        subst (λ (n : TableNode M). (length n.prefix ≡ 7) × (lookup n.children (next_byte n.prefix k) ≡ None → Fits n.form (length n.children + 1))) (sym e) h
    same_small Leaf a b k e h =
        subst (λ (n : TableNode M). (length n.prefix < 7) × (lookup n.children (next_byte n.prefix k) ≡ None) × Fits n.form (length n.children + 1)) (sym e) h

    same_large : (large : Large) (a b : PlacedNode M) (k : List ℕ) → b.node ≡ a.node → IsLarge large a k → IsLarge large b k
    same_large GrowLeaf a b k e h =
        subst (λ (n : TableNode M). Begins n.prefix k × (length n.prefix ≡ 7) × (lookup n.children (next_byte n.prefix k) ≡ None) × (Fits n.form (length n.children + 1) → ⊥)) (sym e) h
    same_large GrowInner a b k e h =
        subst (λ (n : TableNode M). Begins n.prefix k × (length n.prefix < 7) × (lookup n.children (next_byte n.prefix k) ≡ None) × (Fits n.form (length n.children + 1) → ⊥)) (sym e) h
    same_large Split a b k e h = subst (λ (n : TableNode M). Begins n.prefix k → ⊥) (sym e) h
    same_large Detach a b k e h =
        subst (λ (n : TableNode M). Begins n.prefix k × (length n.prefix ≡ 7) × ((v : M) × (lookup n.children (next_byte n.prefix k) ≡ Some (Payload v))) × (length n.children ≡ 1)) (sym e) h

    same_stands : (large : Large) (a b : PlacedNode M) (k : List ℕ) → b.node ≡ a.node → stands_at large a k ≡ stands_at large b k
    same_stands GrowLeaf a b k e = refl
    same_stands GrowInner a b k e = refl
    same_stands Split a b k e = refl
    same_stands Detach a b k e = ap (λ (n : TableNode M). payload_in (lookup n.children (next_byte n.prefix k))) (sym e)

    same_found : (a b : PlacedNode M) (k : List ℕ) → b.node ≡ a.node → found a k ≡ found b k
    same_found a b k e = ap (λ (n : TableNode M). lookup n.children (next_byte n.prefix k)) (sym e)

    small_same : (small : Small) (task : Task M) (a b : PlacedNode M) → b.node ≡ a.node → SmallWork Granted same small task a → SmallWork Granted same small task b
    small_same small task a b e h = record {
      writes = subst (λ (c : Option (Child M)). WritesAtKey Granted same task (payload_in c)) (same_found a b (key_bytes task) e) h.writes;
      is = same_small small a b (key_bytes task) e h.is;
      differs = λ old new there. h.differs old new (same_found a b (key_bytes task) e ∙ there);
    }

    large_same : (large : Large) (task : Task M) (a b : PlacedNode M) → b.node ≡ a.node → LargeWork Granted same large task a → LargeWork Granted same large task b
    large_same large task a b e h =
        let kept : (w : WritesAtKey Granted same task (stands_at large b (key_bytes task))) × MayStore large w.value =
        subst (λ (v : Option M). (w : WritesAtKey Granted same task v) × MayStore large w.value) (same_stands large a b (key_bytes task) e) (h.writes, h.may) in
        record { writes = kept.0; is = same_large large a b (key_bytes task) e h.is; may = kept.1 }

    small_lasts : (spot : Spot) (small : Small) (task : Task M) → Known t pin spot → While t spot (SmallWork Granted same small task) → While t' spot (SmallWork Granted same small task)
    small_lasts spot small task = node_lasts spot (SmallWork Granted same small task) (small_same small task)

    large_lasts : (spot : Spot) (large : Large) (task : Task M) → Known t pin spot → While t spot (LargeWork Granted same large task) → While t' spot (LargeWork Granted same large task)
    large_lasts spot large task = node_lasts spot (LargeWork Granted same large task) (large_same large task)

    -- what a closure is called with, and what its answer confirms
    present_same : (only : Bool) (task : Task M) (a b : PlacedNode M) → b.node ≡ a.node → IsPresent Granted same only task a → IsPresent Granted same only task b
    present_same only task a b e h = record {
      full = subst (λ (n : TableNode M). length n.prefix ≡ 7) (sym e) h.full;
      value = h.value;
      at_key = sym (same_found a b (key_bytes task) e) ∙ h.at_key;
      seen = h.seen;
      alone = λ o. subst (λ (n : TableNode M). length n.children ≡ 1) (sym e) (h.alone o);
    }

    confirmed_same : (task : Task M) (a b : PlacedNode M) → b.node ≡ a.node → IsConfirmed Granted same task a → IsConfirmed Granted same task b
    confirmed_same task a b e h = record {
      closure = h.closure;
      value = h.value;
      at_key = sym (same_found a b (key_bytes task) e) ∙ h.at_key;
      writes = h.writes;
      stays = h.stays;
    }

    case_lasts : (root : ℕ) (task : Task M) (c : Case) → CaseFacts Granted same t root pin task c → CaseFacts Granted same t' root pin task c
    case_lasts root task (case.Present pair only) f = (
      f.0,
      path_lasts root (key_bytes task) (path_to pair) f.1,
      node_lasts pair.here (IsPresent Granted same only task) (present_same only task) f.1.here f.2,
      f.3,
    )
    case_lasts root task (case.Small path small) f = (
      f.0,
      path_lasts root (key_bytes task) path f.1,
      node_lasts path.here (SmallCase Granted same small task) (λ a b e h. (sym (same_found a b (key_bytes task) e) ∙ h.0, same_small small a b (key_bytes task) e h.1)) f.1.here f.2,
    )
    case_lasts root task (case.Large pair large) f = (
      f.0,
      above_lasts pair (key_bytes task) (known_there pair.above f.4) f.1,
      known_lasts pair.here f.2,
      node_lasts pair.here (LargeCase Granted same large task) (λ a b e h. (sym (same_stands large a b (key_bytes task) e) ∙ h.0, same_large large a b (key_bytes task) e h.1)) f.2 f.3,
      known_lasts pair.above f.4,
      led_lasts pair.above (key_bytes task) pair.here.slot f.4 f.5,
    )

    below_lasts : (task : Task M) (pair : NodePair) (large : Large) → IsThere t pin pair.above.slot → Below Granted same t pin task pair large → Below Granted same t' pin task pair large
    below_lasts task pair large there f = record {
      opened = f.opened;
      writing = f.writing;
      over = above_lasts pair (key_bytes task) there f.over;
      here = known_lasts pair.here f.here;
      work = large_lasts pair.here large task f.here f.work;
    }

    at_node_lasts : (task : Task M) (spot : Spot) (small : Small) → (Mine spot.slot → ⊥) → AtNode Granted same t task spot small → AtNode Granted same t' task spot small
    at_node_lasts task spot small off f = record {
      way = way_stays spot.slot (key_bytes task) (held_there spot f.held) f.way;
      held = held_lasts spot f.held off;
      work = f.work;
    }

    abbrev at_pair_lasts : (task : Task M) (pair : NodePair) (large : Large) → ((s : ℕ) → IsTrue (is_in s (both_slots pair)) → Mine s → ⊥)
        → AtPair Granted same t task pair large → AtPair Granted same t' task pair large
    at_pair_lasts task pair large off f = record {
      held = both_last pair (key_bytes task) f.held
          (off pair.here.slot (first_in pair.here.slot (pair.above.slot ∷ [])))
          (off pair.above.slot (next_in pair.here.slot pair.above.slot (pair.above.slot ∷ []) (first_in pair.above.slot [])));
      work = f.work;
    }

    module _ (privates : PrivateStays t t' Mine) where
      tail_lasts : (root : ℕ) (task : Task M) (tail : Tail) → ((s : ℕ) → IsTrue (is_in s (held_in tail)) → Mine s → ⊥) → ((s : ℕ) → IsTrue (is_in s (made_in tail)) → Mine s → ⊥)
          → TailFacts Granted same t root pin task tail → TailFacts Granted same t' root pin task tail
      tail_lasts root task (Upgrade path small) held made f =
          (f.0, path_lasts root (key_bytes task) path f.1, small_lasts path.here small task f.1.here f.2, f.3)
      tail_lasts root task (Write spot) held made f = at_node_lasts task spot Entry (held spot.slot (first_in spot.slot [])) f
      tail_lasts root task (MakeLeaf spot) held made f = at_node_lasts task spot Leaf (held spot.slot (first_in spot.slot [])) f
      tail_lasts root task (Link spot leaf) held made f = (
        at_node_lasts task spot Leaf (held spot.slot (first_in spot.slot [])) f.0,
        leaf_lasts privates task leaf (made leaf (first_in leaf [])) f.1,
      )
      tail_lasts root task (Unlock spot left) held made f = (held_lasts spot f.0 (held spot.slot (first_in spot.slot [])), f.1)
      tail_lasts root task (UpgradeAbove pair large) held made f = (
        below_lasts task pair large (known_there pair.above f.1) f.0,
        known_lasts pair.above f.1,
        led_lasts pair.above (key_bytes task) pair.here.slot f.1 f.2,
      )
      tail_lasts root task (UpgradeBelow pair large) held made f = (
        below_lasts task pair large (held_there pair.above f.1) f.0,
        held_lasts pair.above f.1 (held pair.above.slot (first_in pair.above.slot [])),
        f.2,
      )
      tail_lasts root task (MakeLeafBelow pair large) held made f = (at_pair_lasts task pair large held f.0, f.1)
      tail_lasts root task (Grow pair leaf) held made f = (
        at_pair_lasts task pair (is_for leaf) held f.0,
        own_leaf_lasts privates task leaf made f.1,
      )
      tail_lasts root task (MakeMiddle pair leaf) held made f = (
        at_pair_lasts task pair Split held f.0,
        leaf_lasts privates task leaf (made leaf (first_in leaf [])) f.1,
      )
      tail_lasts root task (Replace pair copy leaf) held made f = (
        at_pair_lasts task pair (is_for leaf) held f.0,
        copy_lasts privates task f.0.held.here.node copy leaf (made copy (first_in copy (one_more leaf))) (λ s mine. made s (next_in copy s (one_more leaf) mine)) f.1,
      )
      tail_lasts root task (Insert pair middle leaf) held made f = (
        at_pair_lasts task pair Split held f.0,
        leaf_lasts privates task leaf (made leaf (next_in middle leaf (leaf ∷ []) (first_in leaf []))) f.1,
        middle_lasts privates task f.0.held.here.node pair.here.slot middle leaf (made middle (first_in middle (leaf ∷ []))) f.2,
      )
      tail_lasts root task (tail.Detach pair) held made f = at_pair_lasts task pair Detach held f
      tail_lasts root task (Obsolete pair left) held made f = (
        f.0,
        held_lasts pair.above f.1 (held pair.above.slot (next_in pair.here.slot pair.above.slot (pair.above.slot ∷ []) (first_in pair.above.slot []))),
        out_lasts pair.here f.2 (held pair.here.slot (first_in pair.here.slot (pair.above.slot ∷ []))),
        f.3,
      )
      tail_lasts root task (UnlockBelow pair) held made f = (
        f.0,
        held_lasts pair.above f.1 (held pair.above.slot (next_in pair.here.slot pair.above.slot (pair.above.slot ∷ []) (first_in pair.above.slot []))),
        held_lasts pair.here f.2 (held pair.here.slot (first_in pair.here.slot (pair.above.slot ∷ []))),
        f.3,
      )

      at_lasts : (root : ℕ) (task : Task M) (stage : Stage) → ((s : ℕ) → Holding stage s → Mine s → ⊥) → FactsAt Granted same t root pin task stage → FactsAt Granted same t' root pin task stage
      at_lasts root task TakeRoot off f = f
      at_lasts root task (Read path) off f = (f.0, path_lasts root (key_bytes task) path f.1)
      at_lasts root task (Check path) off f = (f.0, path_lasts root (key_bytes task) path f.1, saw_lasts path task f.1.here f.2)
      at_lasts root task (TakeBelow path slot) off f = (
        f.0,
        path_lasts root (key_bytes task) path f.1,
        led_lasts path.here (key_bytes task) slot f.1.here f.2,
        f.3,
        there_lasts slot f.4,
        f.5,
        f.6,
      )
      at_lasts root task (CheckAbove path spot fits) off f = (
        f.0,
        path_lasts root (key_bytes task) path f.1,
        led_lasts path.here (key_bytes task) spot.slot f.1.here f.2,
        f.3,
        known_lasts spot f.4,
        test_lasts spot (key_bytes task) fits f.4 f.5,
        f.6,
      )
      at_lasts root task (stage.Answer c) off f = case_lasts root task c f
      at_lasts root task (stage.Confirm spot) off f = (
        f.0,
        known_lasts spot f.1,
        way_stays spot.slot (key_bytes task) (known_there spot f.1) f.2,
        node_lasts spot (IsConfirmed Granted same task) (confirmed_same task) f.1 f.3,
      )
      at_lasts root task (stage.Tail tail) off f = tail_lasts root task tail (λ s h. off s (inl h)) (λ s h. off s (inr h)) f
      at_lasts root task (stage.Scan course s) off f = scan_lasts root task course s f
      at_lasts root task (stage.Seek c s) off f = seek_lasts Granted root task c s f
      at_lasts root task (stage.Tidy c x) off f = tidy_lasts privates task c x (λ s h. off s (inl h)) (λ s h. off s (inr h)) f
      at_lasts root task Finish off f = f

      -- the facts of a call last through any event that the call may rely on, if nothing that it holds is the other's
      pub facts_last : (root : ℕ) (r : Record M) → ((s : ℕ) → Holding r.stage s → Mine s → ⊥) → Facts Granted same t root pin r → Facts Granted same t' root pin r
      facts_last root r off f = record { small = f.small; at = at_lasts root r.task r.stage off f.at }
