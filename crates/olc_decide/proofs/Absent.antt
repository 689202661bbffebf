-- WHAT A CALL DOES if its key is absent: it changes nothing, has to write, or asks its closure.
use Rattle.std.proofs.Common.{◌≡◌, ℕ, ◌+◌, ◌-◌, ◌*◌, ◌<◌, ◌≤◌, Bool, true, false, List, length, Option, Some, None, IsSome, inl, inr, refl, sym, subst, ap, ◌∙◌, arith}
use Rattle.spec_node.specs.Key.{Begins}
use Rattle.spec_node.specs.TableNode.{Child}
use Rattle.spec_node.specs.declared.child.Child.TheVariants.{Payload, Node as below_at}
use Rattle.spec_olc.specs.Calls.{Outline, IsPoint, key_of, outline_of, stored}
use Rattle.spec_olc.specs.Content.{IsCurrent}
use Rattle.spec_olc.specs.Kinds.{report_of}
use Rattle.spec_olc.specs.Local.{payload_in, seen_payload}
use Rattle.spec_olc.specs.Meaning.{meant_reply}
use Rattle.spec_olc.specs.Reading.{KeyEnds}
use Rattle.spec_olc.specs.State.{State}
use Rattle.spec_olc.specs.declared.types.Asking.{Asking}
use Rattle.spec_olc.specs.declared.types.Asking.TheVariants.{Fresh}
use Rattle.spec_olc.specs.declared.types.Env.{Env}
use Rattle.spec_olc.specs.declared.types.Kind.TheVariants as kind
use Rattle.spec_olc.specs.declared.types.Op.{Op}
use Rattle.spec_olc.specs.declared.types.Op.TheVariants.{Get, Insert, Remove, ComputeIfPresent, ComputeOrInsert, CompareExchange, Range}
use Rattle.spec_olc.specs.declared.types.Outcome.TheVariants.{Ask, Going, Decided}
use Rattle.spec_olc.specs.declared.types.Progress.TheVariants as progress
use Rattle.olc_state.specs.declared.stage.Path.{Path}
use Rattle.olc_state.specs.declared.stage.Spot.{Spot}
use Rattle.olc_state.specs.declared.stage.Stage.TheVariants.{Answer, Check, CheckAbove, Tail, Finish}
use Rattle.olc_state.specs.declared.stage.Task.{Task}
use Rattle.olc_state.specs.declared.tail.Case.{Case}
use Rattle.olc_state.specs.declared.tail.Case.TheVariants as case
use Rattle.olc_state.specs.declared.tail.Large.{Large}
use Rattle.olc_state.specs.declared.tail.Large.TheVariants.{GrowLeaf, GrowInner, Split, Detach}
use Rattle.olc_state.specs.declared.tail.NodePair.{NodePair}
use Rattle.olc_state.specs.declared.tail.Small.{Small}
use Rattle.olc_state.specs.declared.tail.Small.TheVariants.{Entry, Leaf}
use Rattle.olc_state.specs.declared.tail.Tail.TheVariants.{Upgrade, UpgradeAbove}
use Rattle.olc_state.specs.inner.Effects.{HasClosure, IsChange, IsLeft, IsOrInsert}
use Rattle.olc_state.specs.inner.Facts.{Facts}
use Rattle.olc_state.specs.inner.Shown.{flight}
use Rattle.olc_state.specs.inner.Tables.{OnPath, IsPlaced}
use Rattle.olc_state.specs.inner.TailFacts.{IsLarge, IsSmall, LargeCase, LargeWork, SmallCase, SmallWork, WritesAtKey, found, path_to, stands_at, stores}
use Rattle.olc_state.specs.inner.Tails.{large_work, small_work}
use Rattle.olc_state.specs.inner.Tasks.{IsFreshly, IsOpen, MaySee, closed, key_bytes}
use Rattle.olc_state.specs.inner.Turns.{IsRead, ShowsNodes}
use Rattle.olc_state.specs.inner.World.{PlacedNode, NodeMap}
use Rattle.olc_state.proofs.Options.{none_some, some_same}
use Rattle.olc_state.proofs.Records.{at}
use Rattle.olc_state.proofs.Replies.{change_stored}
use Rattle.olc_descend.proofs.Checks.{above_absent, above_none, above_now, above_read, absent_now, absent_there, asking, asking_waits_for, asks_at, asks_inserts, ends_left, goes, has_read, inserts_asks, keeps_old, keeps_question, sees_none, way_ends_above, way_ends_here}
use Rattle.olc_descend.proofs.Courses.{descends}
use Rattle.olc_descend.proofs.Events.{test_false}
use Rattle.olc_descend.proofs.Spots.{above_known, here_known, step_down}
use Rattle.olc_decide.specs.declared.finding.Absence.TheVariants.{Leaves, Stores, Asks}
use Rattle.olc_decide.specs.inner.Met.{IsAbsence, IsAbsent, reply_absent, tail_for}

leaves_stores : Leaves ≡ Stores → ⊥
leaves_stores e = cc

leaves_asks : Leaves ≡ Asks → ⊥
leaves_asks e = cc

stores_asks : Stores ≡ Asks → ⊥
stores_asks e = cc

-- only a ComputeOrInsert asks its closure then
pub asks_insert : (o : Outline) → IsAbsence o Asks → IsOrInsert o
asks_insert (Insert k v) h = absurd (stores_asks (sym h))
asks_insert (ComputeOrInsert k v) h = tt
asks_insert o h = absurd (leaves_asks (sym h))

pub small_short : (small : Small) → small_work small ≤ 4
small_short Entry = omega arith
small_short Leaf = omega arith

pub large_short : (large : Large) → large_work large ≤ 6
large_short GrowLeaf = omega arith
large_short GrowInner = omega arith
large_short Split = omega arith
large_short Detach = omega arith

-- at a node on the key's path, a large change takes fewer events than are left
pub large_falls : {M : Type 0} (large : Large) (a : PlacedNode M) (k : List ℕ) → Begins a.node.prefix k → IsLarge large a k → 3 + large_work large < 4 * (7 - length a.node.prefix) + 9
large_falls GrowLeaf a k begins is = omega arith
large_falls GrowInner a k begins is = omega (arith, is.1)
large_falls Split a k begins is = absurd (is begins)
large_falls Detach a k begins is = omega arith

module _ {M : Type 0} (same : M → M → Bool) where
  left_by : (op : Op M) → IsPoint (outline_of op) → IsAbsence (outline_of op) Leaves → IsLeft same op None (reply_absent (outline_of op))
  left_by (Get k) point h = refl
  left_by (Insert k v) point h = absurd (leaves_stores h)
  left_by (Remove k) point h = refl
  left_by (ComputeIfPresent k) point h = refl
  left_by (ComputeOrInsert k v) point h = absurd (leaves_asks h)
  left_by (CompareExchange k old new) point h = refl
  left_by (Range a b n) point h = absurd point

  -- the reply of a call that changes nothing
  pub left_absent : (op : Op M) (o : Outline) → outline_of op ≡ o → IsPoint o → IsAbsence o Leaves → IsLeft same op None (reply_absent o)
  left_absent op o e point h =
      subst (λ (z : Outline). IsLeft same op None (reply_absent z)) e (left_by op (subst (λ (z : Outline). IsPoint z) (sym e) point) (subst (λ (z : Outline). IsAbsence z Leaves) (sym e) h))

  entered_by : (op : Op M) (asking : Asking M) → asking ≡ Fresh → IsAbsence (outline_of op) Stores → (v : M) × IsChange same op asking None (Some v)
  entered_by (Insert k v) asking fresh h = (v, (fresh, refl))
  entered_by (ComputeOrInsert k v) asking fresh h = absurd (stores_asks h)
  entered_by op asking fresh h = absurd (leaves_stores (sym h))

  -- a call that changes the content to `value` stores `value`
  pub writes_by : (Granted : Type 0) (task : Task M) (at_key value : Option M) (opened : IsOpen task) → IsChange same opened.op task.asking at_key value → (MaySee Granted same task → seen_payload task.last ≡ at_key) → IsSome task.last
      → (w : WritesAtKey Granted same task at_key) × (w.value ≡ value)
  writes_by Granted task at_key value opened change seen read = (
    record {
      opened = opened;
      value = value;
      stores = ap (λ (z : Option (Op M)). stored z task.asking) opened.op_is ∙ change_stored same opened.op task.asking at_key value change;
      change = change;
      read = read;
      seen = seen;
    },
    refl,
  )

  pub writes_new : (Granted : Type 0) (task : Task M) → IsFreshly task → IsAbsence task.outline Stores → seen_payload task.last ≡ None → IsSome task.last → WritesAtKey Granted same task None
  writes_new Granted task fresh h seen read =
      let entered = entered_by fresh.opened.op task.asking fresh.fresh (subst (λ (z : Outline). IsAbsence z Stores) (sym fresh.opened.outline) h) in
      (writes_by Granted task None (Some entered.0) fresh.opened entered.1 (λ sees. seen) read).0

module _ {M : Type 0} where
  pub stands_none : (large : Large) (a : PlacedNode M) (k : List ℕ) → found a k ≡ None → stands_at large a k ≡ None
  stands_none GrowLeaf a k e = refl
  stands_none GrowInner a k e = refl
  stands_none Split a k e = refl
  stands_none Detach a k e = ap payload_in e

  -- the work that an entry needs isn't the removal of a leaf
  pub work_of_large : (Granted : Type 0) (same : M → M → Bool) (large : Large) (task : Task M) (a : PlacedNode M) → stands_at large a (key_bytes task) ≡ None → IsLarge large a (key_bytes task) → WritesAtKey Granted same task None
      → LargeWork Granted same large task a
  work_of_large Granted same GrowLeaf task a none is w = record { writes = w; is = is; may = tt }
  work_of_large Granted same GrowInner task a none is w = record { writes = w; is = is; may = tt }
  work_of_large Granted same Split task a none is w = record { writes = w; is = is; may = tt }
  work_of_large Granted same Detach task a none is w = absurd (none_some is.2.0 (sym none ∙ ap payload_in is.2.1))

-- the reply contains no payload
pub absent_meant : {P M : Type 0} (meaning : P → M) (o : Outline) → meant_reply meaning (reply_absent o) ≡ reply_absent o
absent_meant meaning (Range a b n) = refl
absent_meant meaning o = refl

-- a property of the node in this slot holds for each node read from the slot
pub all_here : {M : Type 0} (t : NodeMap M) (spot : Spot) (a : PlacedNode M) → t spot.slot ≡ Some a → (Q : PlacedNode M → Type 0) → Q a → (b : PlacedNode M) → t spot.slot ≡ Some b → b.word ≡ spot.word → Q b
all_here t spot a here Q q b h e = subst Q (some_same a b (sym here ∙ h)) q

-- A CHECK AFTER WHICH THE CALL WRITES, by the work that it needs at the current node
module _ {M : Type 0} (Granted : Type 0) (same : M → M → Bool) (t : NodeMap M) (root pin : ℕ) (task : Task M) (env : Env M) (placed : IsPlaced t root) where
  pub goes_small : (path : Path) (a : PlacedNode M) → t path.here.slot ≡ Some a → a.word ≡ path.here.word → Facts Granted same t root pin (at (Check path) task) → (small : Small) → SmallWork Granted same small task a
      → IsRead Granted same t root pin (at (Check path) task) env (at (Tail (Upgrade path small)) task) (report_of kind.Check (Some path.here.slot) 0 true) Going
  goes_small path a here word facts small work =
      let fresh : IsFreshly task = facts.at.0 in
      goes Granted same t root pin task env placed path a here word (Check path) (Tail (Upgrade path small)) refl refl refl refl tt refl fresh (here_known path) (inl refl) (λ z w h. h)
      (record { small = facts.small; at = (fresh.opened, facts.at.1, all_here t path.here a here (SmallWork Granted same small task) work, (_, work.writes)) }) (λ z h. inr (inl h)) (λ z h. h) (λ served. omega (arith, small_short small))

  pub goes_large : (pair : NodePair) (a : PlacedNode M) → t pair.here.slot ≡ Some a → a.word ≡ pair.here.word → Facts Granted same t root pin (at (Check (path_to pair)) task) → (large : Large) → LargeWork Granted same large task a
      → IsRead Granted same t root pin (at (Check (path_to pair)) task) env (at (Tail (UpgradeAbove pair large)) task) (report_of kind.Check (Some pair.here.slot) 0 true) Going
  goes_large pair a here word facts large work =
      let fresh : IsFreshly task = facts.at.0 in
      let on : OnPath t root pin (key_bytes task) (path_to pair) = facts.at.1 in
      goes Granted same t root pin task env placed (path_to pair) a here word (Check (path_to pair)) (Tail (UpgradeAbove pair large)) refl refl refl refl tt refl fresh (here_known (path_to pair)) (inl refl) (λ z w h. h)
      (record {
        small = facts.small;
        at = (
          record {
            opened = fresh.opened;
            writing = (_, work.writes);
            over = record { way = on.above.1; apart = on.apart pair.above refl };
            here = on.here;
            work = all_here t pair.here a here (LargeWork Granted same large task) work;
          },
          on.above.0,
          on.above.2,
        );
      })
      (λ z h. inr (inl h)) (λ z h. h) (λ served. omega (arith, large_short large))

-- AT THE CURRENT NODE, whose word is the remembered one
module _ {M : Type 0} (Granted : Type 0) (same : M → M → Bool) (t : NodeMap M) (root pin : ℕ) (task : Task M) (env : Env M) (placed : IsPlaced t root) (point : IsPoint task.outline) where
  module _ (path : Path) (a : PlacedNode M) (here : t path.here.slot ≡ Some a) (word : a.word ≡ path.here.word) (facts : Facts Granted same t root pin (at (Check path) task))
      (none : found a (key_bytes task) ≡ None) where
    read_here : IsSome task.last
    read_here = has_read Granted same t root pin task env placed path a here word facts point

    ends_here : (s : State M) → ShowsNodes t root s → KeyEnds s (flight pin (at (Check path) task))
    ends_here s shows = way_ends_here Granted same t root pin task env placed path a here word facts point (λ slot there. none_some (below_at slot) (sym none ∙ there)) s

    seen_none : seen_payload task.last ≡ None
    seen_none = sees_none Granted same t root pin task env placed path a here word facts point none

    none_current : (old : Option M) → old ≡ None → (s : State M) → ShowsNodes t root s → IsCurrent s (key_of task.outline) old
    none_current old is s shows = subst (λ (v : Option M). IsCurrent s (key_of task.outline) v) (sym is) (absent_now Granted same t root pin task env placed path a here word facts point none s shows)

    pub leaves_here : IsAbsence task.outline Leaves
        → IsRead Granted same t root pin (at (Check path) task) env (at Finish (closed progress.Decided task)) (report_of kind.Check (Some path.here.slot) 0 true) (Decided (reply_absent task.outline))
    leaves_here leaves =
        let fresh : IsFreshly task = facts.at.0 in
        ends_left Granted same t root pin task env placed path a here word (Check path) refl refl tt facts.small (here_known path) (inl refl) (λ p. omega arith) read_here ends_here None (λ sees. seen_none)
        (absent_there Granted same t root pin task env placed path a here word facts point none) fresh (reply_absent task.outline)
        (left_absent same fresh.opened.op task.outline fresh.opened.outline point leaves)

    small_here : (small : Small) → IsSmall small a (key_bytes task) → IsAbsence task.outline Stores
        → IsRead Granted same t root pin (at (Check path) task) env (at (Tail (Upgrade path small)) task) (report_of kind.Check (Some path.here.slot) 0 true) Going
    small_here small is stores =
        let fresh : IsFreshly task = facts.at.0 in
        let w : WritesAtKey Granted same task None = writes_new same Granted task fresh stores seen_none read_here in
        goes_small Granted same t root pin task env placed path a here word facts small
        (record { writes = subst (λ (z : Option (Child M)). WritesAtKey Granted same task (payload_in z)) (sym none) w; is = is; differs = λ old new there e. absurd (none_some (Payload old) (sym none ∙ there)) })

    small_asks : (small : Small) → IsSmall small a (key_bytes task) → IsAbsence task.outline Asks → (old : Option M) → old ≡ seen_payload task.last
        → IsRead Granted same t root pin (at (Check path) task) env (at (Answer (case.Small path small)) (asking task old)) (report_of kind.Check (Some path.here.slot) 0 true) (Ask old)
    small_asks small is asks old old_is =
        let fresh : IsFreshly task = facts.at.0 in
        let inserts : IsOrInsert task.outline = asks_insert task.outline asks in
        asks_at Granted same t root pin task env placed path a here word (Check path) (case.Small path small) old refl refl tt fresh (here_known path) (inl refl) (λ z w h. h)
        (rw old_is (asks_inserts task.outline (seen_payload task.last) inserts))
        (record {
          small = facts.small;
          at = (
            asking_waits_for Granted same task old fresh read_here inserts old_is seen_none,
            facts.at.1,
            all_here t path.here a here (SmallCase Granted same small (asking task old)) (none, is),
          );
        })
        (λ z h. inr (inl h)) (λ served. omega (arith, small_short small)) (none_current old (old_is ∙ seen_none)) read_here ends_here

  module _ (pair : NodePair) (a : PlacedNode M) (here : t pair.here.slot ≡ Some a) (word : a.word ≡ pair.here.word) (facts : Facts Granted same t root pin (at (Check (path_to pair)) task))
      (none : found a (key_bytes task) ≡ None) where
    large_here : (large : Large) → IsLarge large a (key_bytes task) → IsAbsence task.outline Stores
        → IsRead Granted same t root pin (at (Check (path_to pair)) task) env (at (Tail (UpgradeAbove pair large)) task) (report_of kind.Check (Some pair.here.slot) 0 true) Going
    large_here large is stores =
        let fresh : IsFreshly task = facts.at.0 in
        let w : WritesAtKey Granted same task None = writes_new same Granted task fresh stores (seen_none (path_to pair) a here word facts none) (read_here (path_to pair) a here word facts none) in
        goes_large Granted same t root pin task env placed pair a here word facts large (work_of_large Granted same large task a (stands_none large a (key_bytes task) none) is w)

    large_asks : (large : Large) → IsLarge large a (key_bytes task) → IsAbsence task.outline Asks → (old : Option M) → old ≡ seen_payload task.last
        → IsRead Granted same t root pin (at (Check (path_to pair)) task) env (at (Answer (case.Large pair large)) (asking task old)) (report_of kind.Check (Some pair.here.slot) 0 true) (Ask old)
    large_asks large is asks old old_is =
        let fresh : IsFreshly task = facts.at.0 in
        let on : OnPath t root pin (key_bytes task) (path_to pair) = facts.at.1 in
        let inserts : IsOrInsert task.outline = asks_insert task.outline asks in
        asks_at Granted same t root pin task env placed (path_to pair) a here word (Check (path_to pair)) (case.Large pair large) old refl refl tt fresh (here_known (path_to pair)) (inl refl) (λ z w h. h)
        (rw old_is (asks_inserts task.outline (seen_payload task.last) inserts))
        (record {
          small = facts.small;
          at = (
            asking_waits_for Granted same task old fresh (read_here (path_to pair) a here word facts none) inserts old_is (seen_none (path_to pair) a here word facts none),
            record { way = on.above.1; apart = on.apart pair.above refl },
            on.here,
            all_here t pair.here a here (LargeCase Granted same large (asking task old)) (stands_none large a (key_bytes task) none, is),
            on.above.0,
            on.above.2,
          );
        })
        (λ z h. inr (inl h)) (λ served. rw here (large_falls large a (key_bytes task) (on.way a here) is)) (none_current (path_to pair) a here word facts none old (old_is ∙ seen_none (path_to pair) a here word facts none)) (read_here (path_to pair) a here word facts none) (ends_here (path_to pair) a here word facts none)

  -- what an entry needs there
  module _ (a : PlacedNode M) (none : found a (key_bytes task) ≡ None) where
    pub stores_here : (path : Path) (c : Case) → IsAbsent path a (key_bytes task) c → IsAbsence task.outline Stores → t path.here.slot ≡ Some a → a.word ≡ path.here.word
        → Facts Granted same t root pin (at (Check path) task)
        → IsRead Granted same t root pin (at (Check path) task) env (at (Tail (tail_for c)) task) (report_of kind.Check (Some path.here.slot) 0 true) Going
    stores_here path (case.Small on small) h stores here word facts =
        subst (λ (p : Path). IsRead Granted same t root pin (at (Check path) task) env (at (Tail (Upgrade p small)) task) (report_of kind.Check (Some path.here.slot) 0 true) Going) (sym h.0)
        (small_here path a here word facts none small h.1 stores)
    stores_here path (case.Large pair large) h stores here word facts =
        subst (λ (p : Path). t p.here.slot ≡ Some a → a.word ≡ p.here.word → Facts Granted same t root pin (at (Check p) task)
        → IsRead Granted same t root pin (at (Check p) task) env (at (Tail (UpgradeAbove pair large)) task) (report_of kind.Check (Some p.here.slot) 0 true) Going) h.0
        (λ at word facts. large_here pair a at word facts none large h.1 stores) here word facts
    stores_here path (case.Present pair only) h stores here word facts = absurd h

    pub asks_here : (path : Path) (c : Case) → IsAbsent path a (key_bytes task) c → IsAbsence task.outline Asks → (old : Option M) → old ≡ seen_payload task.last → t path.here.slot ≡ Some a → a.word ≡ path.here.word
        → Facts Granted same t root pin (at (Check path) task)
        → IsRead Granted same t root pin (at (Check path) task) env (at (Answer c) (asking task old)) (report_of kind.Check (Some path.here.slot) 0 true) (Ask old)
    asks_here path (case.Small on small) h asks old is here word facts =
        subst (λ (p : Path). IsRead Granted same t root pin (at (Check path) task) env (at (Answer (case.Small p small)) (asking task old)) (report_of kind.Check (Some path.here.slot) 0 true) (Ask old)) (sym h.0)
        (small_asks path a here word facts none small h.1 asks old is)
    asks_here path (case.Large pair large) h asks old is here word facts =
        subst (λ (p : Path). t p.here.slot ≡ Some a → a.word ≡ p.here.word → Facts Granted same t root pin (at (Check p) task)
        → IsRead Granted same t root pin (at (Check p) task) env (at (Answer (case.Large pair large)) (asking task old)) (report_of kind.Check (Some p.here.slot) 0 true) (Ask old)) h.0
        (λ at word facts. large_asks pair a at word facts none large h.1 asks old is) here word facts
    asks_here path (case.Present pair only) h asks old is here word facts = absurd h

    -- it asks with the shares that its last Read has kept
    pub asking_here : (path : Path) (c : Case) → IsAbsent path a (key_bytes task) c → IsAbsence task.outline Asks → (here : t path.here.slot ≡ Some a) (word : a.word ≡ path.here.word)
        → (facts : Facts Granted same t root pin (at (Check path) task))
        → IsRead Granted same t root pin (at (Check path) task) env (at (Answer c) (asking task task.spare)) (report_of kind.Check (Some path.here.slot) 0 true) (Ask task.question)
    asking_here path c h asks here word facts =
        let closure : HasClosure task.outline = inserts_asks task.outline (asks_insert task.outline asks) in
        let old : task.spare ≡ seen_payload task.last = keeps_old Granted same t root pin task env placed path a here word facts point closure in
        let question : task.question ≡ seen_payload task.last = keeps_question Granted same t root pin task env placed path a here word facts point closure in
        subst (λ (q : Option M). IsRead Granted same t root pin (at (Check path) task) env (at (Answer c) (asking task task.spare)) (report_of kind.Check (Some path.here.slot) 0 true) (Ask q)) (old ∙ sym question)
        (asks_here path c h asks task.spare old here word facts)

  -- AT THE PARENT of a node off the key's path
  module _ (path : Path) (a : PlacedNode M) (here : t path.here.slot ≡ Some a) (word : a.word ≡ path.here.word) (below : Spot) (facts : Facts Granted same t root pin (at (CheckAbove path below false) task)) where
    none_above : seen_payload task.last ≡ None
    none_above = above_none Granted same t root pin task env placed path a here word below facts

    read_above : IsSome task.last
    read_above = above_read Granted same t root pin task env placed path a here word below facts

    ends_above : (s : State M) → ShowsNodes t root s → KeyEnds s (flight pin (at (CheckAbove path below false) task))
    ends_above = way_ends_above Granted same t root pin task env placed path a here word below facts

    leaves_key : (b : PlacedNode M) → t below.slot ≡ Some b → Begins b.node.prefix (key_bytes task) → ⊥
    leaves_key b h begins = test_false false refl ((facts.at.5 b h).1 begins)

    pub leaves_above : IsAbsence task.outline Leaves
        → IsRead Granted same t root pin (at (CheckAbove path below false) task) env (at Finish (closed progress.Decided task)) (report_of kind.Check (Some path.here.slot) 0 true) (Decided (reply_absent task.outline))
    leaves_above leaves =
        let fresh : IsFreshly task = facts.at.0 in
        ends_left Granted same t root pin task env placed path a here word (CheckAbove path below false) refl refl tt facts.small (above_known path below facts.at.6) (inr (inl refl)) (λ p. omega arith) read_above ends_above None (λ sees. none_above)
        (above_absent Granted same t root pin task env placed path a here word below facts) fresh (reply_absent task.outline)
        (left_absent same fresh.opened.op task.outline fresh.opened.outline point leaves)

    pub stores_above : IsAbsence task.outline Stores
        → IsRead Granted same t root pin (at (CheckAbove path below false) task) env (at (Tail (UpgradeAbove (record { above = path.here; here = below }) Split)) task) (report_of kind.Check (Some path.here.slot) 0 true) Going
    stores_above stores =
        let fresh : IsFreshly task = facts.at.0 in
        let on : OnPath t root pin (key_bytes task) path = facts.at.1 in
        let w : WritesAtKey Granted same task None = writes_new same Granted task fresh stores none_above read_above in
        goes Granted same t root pin task env placed path a here word (CheckAbove path below false) (Tail (UpgradeAbove (record { above = path.here; here = below }) Split)) refl refl refl refl tt refl fresh (above_known path below facts.at.6) (inr (inl refl)) (step_down path below)
        (record {
          small = facts.small;
          at = (
            record {
              opened = fresh.opened;
              writing = (_, w);
              over = record { way = on.way; apart = λ e. facts.at.6 (sym e) };
              here = facts.at.4;
              work = λ b h e. record { writes = w; is = leaves_key b h; may = tt };
            },
            on.here,
            facts.at.2,
          );
        })
        (λ z h. elim h [ inl e ↦ inr (inl (inl e)) | inr more ↦ elim more [ inl e ↦ inr (inl (inr (inl e))) | inr never ↦ absurd never ] ])
        (λ z h. h) (λ served. omega (arith, descends t root placed pin (key_bytes task) path on below.slot facts.at.2 a here word))

    pub asks_above : IsAbsence task.outline Asks
        → IsRead Granted same t root pin (at (CheckAbove path below false) task) env (at (Answer (case.Large (record { above = path.here; here = below }) Split)) (asking task None)) (report_of kind.Check (Some path.here.slot) 0 true) (Ask None)
    asks_above asks =
        let fresh : IsFreshly task = facts.at.0 in
        let on : OnPath t root pin (key_bytes task) path = facts.at.1 in
        let inserts : IsOrInsert task.outline = asks_insert task.outline asks in
        asks_at Granted same t root pin task env placed path a here word (CheckAbove path below false) (case.Large (record { above = path.here; here = below }) Split) None refl refl tt fresh (above_known path below facts.at.6) (inr (inl refl)) (step_down path below)
        (rw (sym none_above) (asks_inserts task.outline (seen_payload task.last) inserts))
        (record {
          small = facts.small;
          at = (
            asking_waits_for Granted same task None fresh read_above inserts (sym none_above) none_above,
            record { way = on.way; apart = λ e. facts.at.6 (sym e) },
            facts.at.4,
            (λ b h e. (refl, leaves_key b h)),
            on.here,
            facts.at.2,
          );
        })
        (λ z h. elim h [ inl e ↦ inr (inl (inl e)) | inr more ↦ elim more [ inl e ↦ inr (inl (inr (inl e))) | inr never ↦ absurd never ] ])
        (λ served. omega (arith, descends t root placed pin (key_bytes task) path on below.slot facts.at.2 a here word)) (above_now Granted same t root pin task env placed path a here word below facts) read_above ends_above
