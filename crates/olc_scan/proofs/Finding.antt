-- WHAT A RANGE FINDS at a node whose word is the remembered one.
use Rattle.std.proofs.Common.{◌≡◌, ◌≢◌, ℕ, ◌+◌, ◌-◌, ◌<◌, ◌≤◌, ◌^◌, min, max, Bool, true, [], ◌∷◌, ◌++◌, length, Option, Some, None, IsSome, inl, inr, refl, sym, subst, ap, ◌∙◌, arith}
use Rattle.std.proofs.lemmas.Bool.{cases_lt}
use Rattle.spec_node.specs.Key.{high, low}
use Rattle.spec_node.specs.TableNode.{Child}
use Rattle.spec_node.specs.declared.child.Child.TheVariants.{Payload, Node as below_at}
use Rattle.node_table.proofs.KeyLaws.{byte_order, room-positive}
use Rattle.spec_olc.specs.Calls.{Outline}
use Rattle.spec_olc.specs.Content.{IsStoredAt}
use Rattle.spec_olc.specs.Kinds.{report_of}
use Rattle.spec_olc.specs.Local.{payload_in, seen_child, seen_payload}
use Rattle.spec_olc.specs.Reading.{ComesTo, HasAll, MayGive, NoneIsStored, bound_at, first_from}
use Rattle.spec_olc.specs.State.{CallState, State}
use Rattle.spec_map.proofs.MapLaws.{lookup-put_same}
use Rattle.spec_olc.specs.declared.types.Env.{Env}
use Rattle.spec_olc.specs.declared.types.Seen.{Seen}
use Rattle.spec_olc.specs.declared.types.Kind.TheVariants as kind
use Rattle.spec_olc.specs.declared.types.Outcome.TheVariants.{Going, Pair}
use Rattle.olc_state.specs.declared.stage.Spot.{Spot}
use Rattle.olc_state.specs.declared.stage.Task.{Task}
use Rattle.olc_state.specs.inner.Tables.{IsBelow, IsIn, IsLinked, IsPlaced, IsSafe, IsThere, Known}
use Rattle.olc_state.specs.inner.Tasks.{SawNode, restarted}
use Rattle.olc_state.specs.inner.Turns.{ShowsNodes}
use Rattle.olc_state.specs.inner.World.{PlacedNode, NodeLifetime, NodeMap}
use Rattle.olc_state.proofs.Options.{some_same}
use Rattle.olc_state.proofs.Reaching.{one, seen_at}
use Rattle.olc_state.proofs.Ways.{known_linked, longer-begins}
use Rattle.olc_state.specs.declared.scan.RangeProgress.{RangeProgress}
use Rattle.olc_state.specs.declared.scan.Scan.TheVariants.{TakeRoot, Read, Check, TakeBelow, CheckAbove, Finish}
use Rattle.olc_scan.specs.inner.Passed.{IsFirstChild}
use Rattle.olc_scan.specs.inner.Ranges.{GoesTo, LeadsFirst, IsAtNode, SawFirst, IsScanned, flight_on, past_pair, unreported}
use Rattle.olc_scan.proofs.Bounds.{high-last}
use Rattle.olc_scan.proofs.Passing.{first_low, within}
use Rattle.olc_scan.proofs.Checking.{none_below, pair_after, pair_stands, none_before, none_until, none_over}
use Rattle.olc_scan.proofs.Steps.{Leads, checked, spot_known, above_known, below_within, ranging_at, ends_at, gives_and_ends, gives_and_begins, gives_and_stays, goes_on}

-- a call that has read
pub has_read : {M : Type 0} {last : Option (Seen M)} (seen : Seen M) → last ≡ Some seen → IsSome last
has_read seen is = subst (λ (z : Option (Seen _)). IsSome z) (sym is) refl

module _ {M : Type 0} (Granted : Type 0) (same : M → M → Bool) (t : NodeMap M) (root pin : ℕ) (task : Task M) (course : RangeProgress) (env : Env M) (placed : IsPlaced t root) (spot : Spot) (a : PlacedNode M) (here : t spot.slot ≡ Some a) (word : a.word ≡ spot.word)
    (at : IsAtNode t pin task course spot) where
  linked : IsLinked t spot.slot a
  linked = known_linked t root [] placed pin spot a at.here here word

  small : course.cursor < 2 ^ 64
  small = omega (arith, at.ranging.order, at.ranging.small)

  under : course.cursor < high a.node.prefix
  under = (at.looks a here).1

  reach_is : course.reach ≡ max course.cursor (low a.node.prefix)
  reach_is = (at.looks a here).0

  short : length a.node.prefix ≤ 7
  short = placed.short spot.slot a linked

  -- keys that are passed up to one key are passed up to each smaller one
  down_to : (s : State M) (from top : ℕ) → from ≤ top → NoneIsStored s course.reach top → NoneIsStored s course.reach from
  down_to s from top le none key v low to at_key = none key v low (omega (arith, le, to)) at_key

  -- NO CHILD from its reach on
  pub nothing_here : (from : ℕ) → course.cursor ≤ from → from ≤ high a.node.prefix → first_from (bound_at course.cursor a.node.prefix) a.node.children ≡ None
      → (s : State M) → ShowsNodes t root s → NoneIsStored s course.reach from
  nothing_here from onward le none s shows =
      down_to s from (high a.node.prefix) le (none_below t root s placed shows spot.slot a linked course.cursor small under course.reach reach_is none)

  -- the key of a payload
  leaf : (y : ℕ) (u : M) → IsFirstChild (bound_at course.cursor a.node.prefix) a.node.children y (Payload u) → length a.node.prefix ≡ 7
  leaf y u first = placed.leaf spot.slot a linked y u first.here

  -- A NODE is first: it is there, and neither the root nor the node above it
  module _ (slot : ℕ) (led : first_from (bound_at course.cursor a.node.prefix) a.node.children ≡ Some (below_at slot)) (y : ℕ) (first : IsFirstChild (bound_at course.cursor a.node.prefix) a.node.children y (below_at slot)) where
    below : IsBelow t a y slot
    below = placed.below spot.slot a linked y slot first.here

    longer : length a.node.prefix < length below.node.node.prefix
    longer = longer-begins a.node.prefix below.node.node.prefix y below.begins

    there : IsThere t pin slot
    there = record { node = below.node; here = below.linked.here; safe = subst (λ (z : NodeLifetime). IsSafe pin z) (sym below.linked.lifetime) tt }

    not_root : slot ≢ root
    not_root e =
        let same_node : below.node ≡ placed.top = some_same below.node placed.top (sym below.linked.here ∙ subst (λ (z : ℕ). t z ≡ Some placed.top) (sym e) placed.top_linked.here) in
        let is : length below.node.node.prefix ≡ length placed.top.node.prefix = ap (λ (z : PlacedNode M). length z.node.prefix) same_node in
        let none : length placed.top.node.prefix ≡ 0 = ap length placed.top_prefix in
        omega (arith, longer, is, none)

    not_here : slot ≢ spot.slot
    not_here e =
        let same_node : below.node ≡ a = some_same below.node a (sym below.linked.here ∙ subst (λ (z : ℕ). t z ≡ Some a) (sym e) here) in
        let is : length below.node.node.prefix ≡ length a.node.prefix = ap (λ (z : PlacedNode M). length z.node.prefix) same_node in
        omega (arith, longer, is)

    sees_child : (saw : SawFirst t task course spot) (slot : ℕ) → first_from (bound_at course.cursor a.node.prefix) a.node.children ≡ Some (below_at slot) → seen_child task.last ≡ Some (below_at slot)
    sees_child saw slot led = ap (λ z. seen_child z) saw.is ∙ ((saw.at_key a here word).0 ∙ led)

    pub goes_down : SawFirst t task course spot
        → IsScanned Granted same t root pin task course (Check spot) env task course (TakeBelow spot slot) (report_of kind.Check (Some spot.slot) 0 true) Going
    goes_down saw =
        let child : saw.seen.child ≡ Some (below_at slot) = (saw.at_key a here word).0 ∙ led in
        let saw_node : SawNode task.last slot = record { seen = saw.seen; is = saw.is; child = child } in
        goes_on Granted same t root pin task course env placed (Check spot) spot at a here (spot_known spot) (inl refl) word course.cursor course.reach (TakeBelow spot slot)
        (has_read saw.seen saw.is, (λ s shows. subst (λ (x : Option (Child M)). ComesTo s (flight_on pin task course (Check spot)) (checked Granted same t root pin task course env placed (Check spot) spot at a here (spot_known spot) (inl refl) word s shows) x course.cursor course.reach) (sym (sees_child saw slot led)) (inl (refl, refl))))
        (omega arith) at.ranging.order
        (λ s shows key v low to at_key. absurd (omega (arith, low, to))) (λ z w h. h) (
          at,
          (λ (b : PlacedNode M) (h : t spot.slot ≡ Some b) (e : b.word ≡ spot.word).
              subst (λ (z : PlacedNode M). first_from (bound_at course.cursor z.node.prefix) z.node.children ≡ Some (below_at slot)) (some_same a b (sym here ∙ h)) led),
          there,
          not_root,
          not_here,
          saw_node,
        )
        (λ z h. elim h [ inl e ↦ inr (inr (subst (λ (x : ℕ). SawNode task.last x) e saw_node, record { node = a; here = here; word = word })) | inr e ↦ inr (inl e) ])
        (λ z h. h)

  -- A PAYLOAD is the first child
  module _ (y : ℕ) (u : M) (first : IsFirstChild (bound_at course.cursor a.node.prefix) a.node.children y (Payload u)) (key : ℕ) (key_is : key ≡ low (a.node.prefix ++ y ∷ []))
      (saw : SawFirst t task course spot) (led : first_from (bound_at course.cursor a.node.prefix) a.node.children ≡ Some (Payload u)) where
    from : course.reach ≤ key
    from = omega (arith, key_is, pair_after t root spot.slot a course.cursor placed linked small under course.reach reach_is y u first)

    before : (s : State M) → ShowsNodes t root s → NoneIsStored s course.reach key
    before s shows = subst (λ (k : ℕ). NoneIsStored s course.reach k) (sym key_is) (none_before t root s placed shows spot.slot a linked course.cursor small under course.reach reach_is y u first)

    sees : seen_child task.last ≡ Some (Payload u)
    sees = ap (λ z. seen_child z) saw.is ∙ ((saw.at_key a here word).0 ∙ led)

    at_key : (s : State M) → ShowsNodes t root s → (h : IsStoredAt s key u) × (h.slot ≡ spot.slot)
    at_key s shows = subst (λ (k : ℕ). (h : IsStoredAt s k u) × (h.slot ≡ spot.slot)) (sym key_is) (pair_stands t root s placed shows spot.slot a linked course.cursor small under course.reach reach_is y u first)

    has_all : (MayGive task.outline course.given key → ⊥) → HasAll task.outline key course.given
    has_all never =
        let r = at.ranging in
        subst (λ (o : Outline). HasAll o key course.given) (sym r.outline)
        (elim (cases_lt key r.end) [
          | inl below ↦
              elim (cases_lt course.given r.limit) [
                | inl room ↦ absurd (never (subst (λ (o : Outline). MayGive o course.given key) (sym r.outline) (below, room)))
                | inr full ↦ inr (omega (arith, full, r.most))
              ]
          | inr past ↦ inl past
        ])

    -- the range may not return it, as it has reached its end or its limit
    pub pair_behind : (MayGive task.outline course.given key → ⊥)
        → IsScanned Granted same t root pin task course (Check spot) env task (record course { reach = key }) Finish (report_of kind.Check (Some spot.slot) 0 true) Going
    pair_behind never =
        ends_at Granted same t root pin task course env placed (Check spot) spot at a here (spot_known spot) (inl refl) word course.cursor key
        (has_read saw.seen saw.is, (λ s shows. subst (λ (x : Option (Child M)). ComesTo s (flight_on pin task course (Check spot)) (checked Granted same t root pin task course env placed (Check spot) spot at a here (spot_known spot) (inl refl) word s shows) x course.cursor key) (sym sees) (refl, at_key s shows, never)))
        (omega arith) (omega (arith, at.ranging.order, from)) before (has_all never)

    module _ (value : M) (value_is : value ≡ u) (fits : key + 1 < 2 ^ 64) (may : MayGive task.outline course.given key) where
      now_stands : (s : State M) → ShowsNodes t root s → (h : IsStoredAt s key value) × (h.slot ≡ spot.slot)
      now_stands s shows = subst (λ (v : M). (h : IsStoredAt s key v) × (h.slot ≡ spot.slot)) (sym value_is) (at_key s shows)

      gave : seen_payload task.last ≡ Some value
      gave = ap (λ z. payload_in z) sees ∙ ap (λ (v : M). Some v) (sym value_is)

      pub pair_ends : HasAll task.outline (key + 1) (course.given + 1)
          → IsScanned Granted same t root pin task course (Check spot) env (unreported task) (past_pair course key) Finish (report_of kind.Check (Some spot.slot) 0 true) (Pair key value)
      pair_ends = gives_and_ends Granted same t root pin task course env placed (Check spot) spot at a here (spot_known spot) (inl refl) word key value from fits may now_stands gave before

      pub pair_begins : IsScanned Granted same t root pin task course (Check spot) env (restarted task) (past_pair course key) TakeRoot (report_of kind.Check (Some spot.slot) 0 true) (Pair key value)
      pair_begins = gives_and_begins Granted same t root pin task course env placed (Check spot) spot at a here (spot_known spot) (inl refl) word key value from fits may now_stands gave before

      pub pair_stays : y < 255 → IsScanned Granted same t root pin task course (Check spot) env (unreported task) (past_pair course key) (Read spot) (report_of kind.Check (Some spot.slot) 0 true) (Pair key value)
      pair_stays inner =
          let full : length a.node.prefix ≡ 7 = leaf y u first in
          let order = byte_order 8 a.node.prefix y 255 inner (omega (arith, full)) in
          let one = room-positive 8 (a.node.prefix ++ y ∷ []) in
          let some = room-positive 8 (a.node.prefix ++ 255 ∷ []) in
          let last = high-last a.node.prefix short in
          let over = first_low t root spot.slot a course.cursor placed linked small under y u first in
          gives_and_stays Granted same t root pin task course env placed (Check spot) spot at a here (spot_known spot) (inl refl) word key value from fits may now_stands gave before (λ z w h. h) (λ z h. h)
          (omega (arith, key_is, order, one, some, last)) (omega (arith, key_is, over))

  -- AT THE CHECK ABOVE a child that was taken
  module _ (child : Spot) (led : LeadsFirst t spot course.cursor child.slot) (known : Known t pin child) (other : child.slot ≢ spot.slot) (y : ℕ) (first : IsFirstChild (bound_at course.cursor a.node.prefix) a.node.children y (below_at child.slot)) (scan_from : Option ℕ) (saw_node : SawNode task.last child.slot) where
    abbrev pub named : IsIn spot.slot (child.slot ∷ spot.slot ∷ [])
    named = inr (inl refl)

    -- what it comes to
    abbrev pub scanning : CallState M
    scanning = flight_on pin task course (CheckAbove spot child scan_from)

    comes_by : (cursor reach : ℕ) → ((s : State M) (shows : ShowsNodes t root s) → ComesTo s scanning (checked Granted same t root pin task course env placed (CheckAbove spot child scan_from) spot at a here (above_known spot child other) named word s shows) (Some (below_at child.slot)) cursor reach)
        → Leads Granted same t root pin task course env placed (CheckAbove spot child scan_from) spot at a here (above_known spot child other) named word cursor reach
    comes_by cursor reach comes = (
      has_read saw_node.seen saw_node.is,
      (λ s shows. subst (λ (x : Option (Child M)). ComesTo s scanning (checked Granted same t root pin task course env placed (CheckAbove spot child scan_from) spot at a here (above_known spot child other) named word s shows) x cursor reach) (sym (ap (λ z. seen_child z) saw_node.is ∙ saw_node.child)) (comes s shows)),
    )

    -- the range goes down
    pub steps_down : (reach : ℕ) → GoesTo t child.slot course.cursor (Some reach)
        → IsScanned Granted same t root pin task course (CheckAbove spot child scan_from) env task (record course { reach = reach }) (Read child) (report_of kind.Check (Some spot.slot) 0 true) Going
    steps_down reach goes =
        let b : PlacedNode M = known.node in
        let l : (reach ≡ max course.cursor (low b.node.prefix)) × (course.cursor < high b.node.prefix) = goes.1 b known.here in
        let order : course.cursor ≤ reach = omega (arith, l.0) in
        goes_on Granted same t root pin task course env placed (CheckAbove spot child scan_from) spot at a here (above_known spot child other) named word course.cursor reach (Read child)
        (comes_by course.cursor reach (λ s shows. inr (record { slot = child.slot; node = one b; word = child.word; here = seen_at t root s shows child.slot b known.here; word_is = lookup-put_same ((spot.slot, spot.word) ∷ []) child.slot child.word }, refl, inl (refl, l.0))))
        (omega arith) order
        (λ s shows. subst (λ (k : ℕ). NoneIsStored s course.reach k) (sym l.0)
        (none_until t root s placed shows spot.slot a linked course.cursor small under course.reach reach_is y child.slot b first known.here))
        (below_within spot child)
        (record { ranging = ranging_at task course (record { cursor = course.cursor; reach = reach; given = course.given }) at.ranging order goes.0 at.ranging.most; here = known; looks = goes.1 })
        (λ z h. inr (inl (elim h [ inl e ↦ inl e | inr never ↦ absurd never ])))
        (λ z h. h)

    -- or passes all keys that the child may contain
    pub leads_over : (from : ℕ) → from ≡ min (high (a.node.prefix ++ y ∷ [])) (2 ^ 64 - 1) → GoesTo t child.slot course.cursor None
        → Leads Granted same t root pin task course env placed (CheckAbove spot child scan_from) spot at a here (above_known spot child other) named word from from
    leads_over from is goes = comes_by from from (λ s shows. inr (record { slot = child.slot; node = one known.node; word = child.word; here = seen_at t root s shows child.slot known.node known.here; word_is = lookup-put_same ((spot.slot, spot.word) ∷ []) child.slot child.word }, refl, inr (goes known.node known.here, (y, first.here, (is, refl)))))

    pub passed_over : GoesTo t child.slot course.cursor None → (course.cursor ≤ high (a.node.prefix ++ y ∷ [])) × ((s : State M) → ShowsNodes t root s → NoneIsStored s course.reach (high (a.node.prefix ++ y ∷ [])))
    passed_over goes = (
      within t root spot.slot a course.cursor placed linked small under y child.slot known.node first known.here,
      λ s shows. none_over t root s placed shows spot.slot a linked course.cursor small under course.reach reach_is y child.slot known.node first known.here (goes known.node known.here),
    )
