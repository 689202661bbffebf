-- The events of a range over the code's own payloads.
use Rattle.std.proofs.Common.{◌≡◌, ◌≢◌, ℕ, ◌+◌, ◌-◌, ◌<◌, ◌≤◌, ◌^◌, min, max, Bool, true, false, List, [], ◌∷◌, ◌++◌, length, Option, Some, None, IsSome, IfSome, IfNone, inl, inr, refl, sym, subst, ap, ◌∙◌, arith}
use Rattle.spec_map.specs.Map.{between, lookup}
use Rattle.spec_node.specs.Key.{high, low, next_byte}
use Rattle.spec_node.specs.TableNode.{TableNode, Child}
use Rattle.spec_node.specs.declared.child.Child.TheVariants.{Payload, Node as below_at}
use Rattle.spec_olc.specs.Calls.{bytes_of}
use Rattle.spec_olc.specs.Kinds.{report_of}
use Rattle.spec_olc.specs.Local.{payload_in, seen_child}
use Rattle.spec_olc.specs.Meaning.{child_of, in_some, outcome_of, seen_of}
use Rattle.spec_olc.specs.Reading.{ComesTo, NoneIsStored, bound_at, first_from}
use Rattle.spec_olc.specs.State.{State}
use Rattle.spec_olc.specs.declared.types.Env.{Env}
use Rattle.spec_olc.specs.declared.types.Kind.TheVariants as kind
use Rattle.spec_olc.specs.declared.types.Outcome.TheVariants.{Going}
use Rattle.olc_state.specs.declared.stage.Spot.{Spot}
use Rattle.olc_state.specs.declared.stage.Task.{Task}
use Rattle.olc_state.specs.inner.Meant.{meant_node, meant_task}
use Rattle.olc_state.specs.inner.Tables.{IsIn, IsLinked, IsPlaced, Known}
use Rattle.olc_state.specs.inner.Tasks.{SawNode}
use Rattle.olc_state.specs.inner.Turns.{ShowsNodes}
use Rattle.olc_state.specs.inner.World.{PlacedNode, NodeLifetime, NodeMap}
use Rattle.olc_state.proofs.Options.{none_some, some_same}
use Rattle.olc_state.proofs.WalkLaws.{child_none, children_meant}
use Rattle.olc_state.proofs.Ways.{known_linked}
use Rattle.olc_descend.proofs.Looks.{count_means, full_means}
use Rattle.olc_state.specs.declared.scan.RangeProgress.{RangeProgress}
use Rattle.olc_state.specs.declared.scan.Scan.{Scan}
use Rattle.olc_state.specs.declared.scan.Scan.TheVariants.{Read, Check, TakeBelow, CheckAbove}
use Rattle.olc_scan.specs.inner.Passed.{IsFirstChild}
use Rattle.olc_scan.specs.inner.Ranges.{AfterScan, GoesTo, IsAtNode, IsLooked, IsPaired, IsPast, IsScanned, LeadsFirst, SawFirst, first_in, flight_on, scan_goes_on, named_on, spots_on}
use Rattle.olc_scan.proofs.Bounds.{bound_is, first_none, first_some, high-last}
use Rattle.olc_scan.proofs.Finding.{goes_down, has_read, leads_over, nothing_here, pair_begins, pair_behind, pair_ends, pair_stays, passed_over, steps_down}
use Rattle.olc_scan.proofs.Passing.{first_found}
use Rattle.olc_scan.proofs.Readings.{unseen, whole}
use Rattle.olc_scan.proofs.Steps.{Leads, above_known, begins_at, checked, ends_at, spot_known}

-- a property of the node's prefix, carried over to an equal one
pub with_prefix : (Q : List ℕ → Type 0) (p q r : List ℕ) → p ≡ q → q ≡ r → Q p → Q r
with_prefix Q p q r e f h = subst Q f (subst Q e h)

-- an environment without inputs
pub no_env : (M : Type 0) → Env M
no_env M = record { torn = record { child = None; count = 0; full = false }; fail = false; answer = None }

-- the key from which a range looks at a child
pub goes_to : {M : Type 0} (t : NodeMap M) (slot cursor : ℕ) (a : PlacedNode M) → t slot ≡ Some a → (from : Option ℕ) → IfSome from (λ r. r < 2 ^ 64) → IfSome from (λ r. (r ≡ max cursor (low a.node.prefix)) × (cursor < high a.node.prefix)) → IfNone from (high a.node.prefix ≤ cursor)
    → GoesTo t slot cursor from
goes_to t slot cursor a here (Some r) small within past = (
  small,
  λ b h. subst (λ (z : PlacedNode _). (r ≡ max cursor (low z.node.prefix)) × (cursor < high z.node.prefix)) (some_same a b (sym here ∙ h)) within,
)
goes_to t slot cursor a here None small within past = λ b h. subst (λ (z : PlacedNode _). high z.node.prefix ≤ cursor) (some_same a b (sym here ∙ h)) past

module _ {P M : Type 0} (Granted : Type 0) (same : M → M → Bool) (meaning : P → M) (t : NodeMap M) (root pin : ℕ) (task : Task P) (course : RangeProgress) (env : Env M) (placed : IsPlaced t root) (spot : Spot) (n : TableNode P) (w : ℕ) (st : NodeLifetime)
    (here : t spot.slot ≡ Some (record { word = w; node = meant_node meaning n; lifetime = st })) (word : w ≡ spot.word) (at : IsAtNode t pin (meant_task meaning task) course spot) where
  abbrev node : PlacedNode M
  node = record { word = w; node = meant_node meaning n; lifetime = st }

  -- the range after an event
  abbrev Comes : Scan → AfterScan P → Type 0
  Comes scan next = IsScanned Granted same t root pin (meant_task meaning task) course scan env (meant_task meaning next.task) next.course next.scan next.report (outcome_of meaning next.outcome)

  linked : IsLinked t spot.slot node
  linked = known_linked t root [] placed pin spot node at.here here word

  bound : next_byte n.prefix (bytes_of course.reach) ≡ bound_at course.cursor n.prefix
  bound = bound_is n.prefix course.cursor course.reach (placed.bytes spot.slot node linked) (placed.short spot.slot node linked) (at.looks node here).0

  -- the result of the search in the node
  pub found_none : between n.children (next_byte n.prefix (bytes_of course.reach)) 256 ≡ [] → first_from (bound_at course.cursor node.node.prefix) node.node.children ≡ None
  found_none e =
      subst (λ (b : ℕ). first_from b node.node.children ≡ None) bound
      (first_none 0 node.node.children (next_byte n.prefix (bytes_of course.reach)) (placed.ordered spot.slot node linked) (child_none meaning [] n (next_byte n.prefix (bytes_of course.reach)) e))

  pub found_some : (byte : ℕ) (child : Child P) (rest : List (ℕ × Child P)) → between n.children (next_byte n.prefix (bytes_of course.reach)) 256 ≡ (byte, child) ∷ rest
      → (first_from (bound_at course.cursor node.node.prefix) node.node.children ≡ Some (child_of meaning child)) × IsFirstChild (bound_at course.cursor node.node.prefix) node.node.children byte (child_of meaning child)
  found_some byte child rest e =
      subst (λ (b : ℕ). (first_from b node.node.children ≡ Some (child_of meaning child)) × IsFirstChild b node.node.children byte (child_of meaning child)) bound
      (first_some 0 node.node.children _ (next_byte n.prefix (bytes_of course.reach)) byte (child_of meaning child) (placed.ordered spot.slot node linked)
      (children_meant meaning [] n (next_byte n.prefix (bytes_of course.reach)) byte child rest e))

  -- all keys up to one are passed
  past_comes : (scan : Scan) (known : lookup (spots_on scan) spot.slot ≡ Some spot.word) (named : IsIn spot.slot (named_on scan)) (last : ℕ) (next : AfterScan P) → IsPast task course last (report_of kind.Check (Some spot.slot) 0 true) next
      → ((from : ℕ) → from ≡ min (last + 1) (2 ^ 64 - 1) → Leads Granted same t root pin (meant_task meaning task) course env placed scan spot at node here known named word from from)
      → course.cursor ≤ last + 1 → ((s : State M) → ShowsNodes t root s → NoneIsStored s course.reach (last + 1)) → Comes scan next
  past_comes scan known named last next p leads onward none =
      let small : course.cursor < 2 ^ 64 = omega (arith, at.ranging.order, at.ranging.small) in
      let le : course.cursor ≤ p.from = omega (arith, p.from_is, onward, small) in
      let top : p.from ≤ last + 1 = omega (arith, p.from_is) in
      let fits : p.from < 2 ^ 64 = omega (arith, p.from_is) in
      let passed : (s : State M) → ShowsNodes t root s → NoneIsStored s course.reach p.from = λ s shows key v low to at_key. none s shows key v low (omega (arith, top, to)) at_key in
      elim p.is [
        | inl over ↦
            subst (λ (x : AfterScan P). Comes scan x) (sym over.1)
            (ends_at Granted same t root pin (meant_task meaning task) course env placed scan spot at node here known named word p.from p.from (leads p.from p.from_is) le (omega arith) passed over.0)
        | inr again ↦
            subst (λ (x : AfterScan P). Comes scan x) (sym again)
            (begins_at Granted same t root pin (meant_task meaning task) course env placed scan spot at node here known named word p.from (leads p.from p.from_is) le fits passed)
      ]

  -- A CHECK THAT FINDS NOTHING
  pub none_comes : between n.children (next_byte n.prefix (bytes_of course.reach)) 256 ≡ [] → (last : ℕ) → last + 1 ≡ high (n.prefix ++ 255 ∷ []) → (next : AfterScan P) → IsPast task course last (report_of kind.Check (Some spot.slot) 0 true) next → SawFirst t (meant_task meaning task) course spot
      → Comes (Check spot) next
  none_comes e last is next p saw =
      let top : last + 1 ≡ high n.prefix = is ∙ high-last n.prefix (placed.short spot.slot node linked) in
      let under : course.cursor < high n.prefix = (at.looks node here).1 in
      let le : course.cursor ≤ last + 1 = omega (arith, top, under) in
      let sees : seen_child (meant_task meaning task).last ≡ None = ap (λ z. seen_child z) saw.is ∙ ((saw.at_key node here word).0 ∙ found_none e) in
      past_comes (Check spot) (spot_known spot) (inl refl) last next p
      (λ from from_is. (has_read saw.seen saw.is, (λ s shows. subst (λ (x : Option (Child M)). ComesTo s (flight_on pin (meant_task meaning task) course (Check spot)) (checked Granted same t root pin (meant_task meaning task) course env placed (Check spot) spot at node here (spot_known spot) (inl refl) word s shows) x from from) (sym sees) (from_is ∙ ap (λ (k : ℕ). min k (2 ^ 64 - 1)) top, refl))))
      le
      (nothing_here Granted same t root pin (meant_task meaning task) course env placed spot node here word at (last + 1) le (omega (arith, top)) (found_none e))

  -- A CHECK THAT FINDS A NODE
  pub down_comes : (byte slot : ℕ) (rest : List (ℕ × Child P)) → between n.children (next_byte n.prefix (bytes_of course.reach)) 256 ≡ (byte, below_at slot) ∷ rest → SawFirst t (meant_task meaning task) course spot
      → Comes (Check spot) (scan_goes_on task course (TakeBelow spot slot) (report_of kind.Check (Some spot.slot) 0 true) Going)
  down_comes byte slot rest e saw =
      let f = found_some byte (below_at slot) rest e in
      goes_down Granted same t root pin (meant_task meaning task) course env placed spot node here word at slot f.0 byte f.1 saw

  -- A CHECK THAT FINDS A PAYLOAD
  module _ (byte : ℕ) (u : P) (rest : List (ℕ × Child P)) (e : between n.children (next_byte n.prefix (bytes_of course.reach)) 256 ≡ (byte, Payload u) ∷ rest) (saw : SawFirst t (meant_task meaning task) course spot) where
    first : IsFirstChild (bound_at course.cursor node.node.prefix) node.node.children byte (Payload (meaning u))
    first = (found_some byte (Payload u) rest e).1

    pub in_leaf : length n.prefix ≡ 7
    in_leaf = placed.leaf spot.slot node linked byte (meaning u) first.here

    spare_is : in_some meaning task.spare ≡ Some (meaning u)
    spare_is = let s = saw.at_key node here word in s.1 ∙ ap payload_in (s.0 ∙ (found_some byte (Payload u) rest e).0)

    some_means : (o : Option P) → in_some meaning o ≡ Some (meaning u) → IsSome o
    some_means None h = absurd (none_some (meaning u) h)
    some_means (Some v) h = refl

    pub has_spare : IsSome task.spare
    has_spare = some_means task.spare spare_is

    pub pair_comes : (key : ℕ) → key ≡ low (n.prefix ++ byte ∷ []) → (next : AfterScan P) → IsPaired task course spot key byte (report_of kind.Check (Some spot.slot) 0 true) next → Comes (Check spot) next
    pair_comes key key_is next p =
        elim p [
          | inl behind ↦
              subst (λ (x : AfterScan P). Comes (Check spot) x) (sym behind.2)
              (pair_behind Granted same t root pin (meant_task meaning task) course env placed spot node here word at byte (meaning u) first key key_is saw (found_some byte (Payload u) rest e).0 behind.0)
          | inr gave ↦
              let value_is : meaning gave.value ≡ meaning u = some_same (meaning gave.value) (meaning u) (sym (ap (in_some meaning) gave.kept) ∙ spare_is) in
              elim gave.is [
                | inl over ↦
                    subst (λ (x : AfterScan P). Comes (Check spot) x) (sym over.1)
                    (pair_ends Granted same t root pin (meant_task meaning task) course env placed spot node here word at byte (meaning u) first key key_is saw (found_some byte (Payload u) rest e).0 (meaning gave.value) value_is gave.small gave.may over.0)
                | inr (inl again) ↦
                    subst (λ (x : AfterScan P). Comes (Check spot) x) (sym again)
                    (pair_begins Granted same t root pin (meant_task meaning task) course env placed spot node here word at byte (meaning u) first key key_is saw (found_some byte (Payload u) rest e).0 (meaning gave.value) value_is gave.small gave.may)
                | inr (inr stays) ↦
                    subst (λ (x : AfterScan P). Comes (Check spot) x) (sym stays.1)
                    (pair_stays Granted same t root pin (meant_task meaning task) course env placed spot node here word at byte (meaning u) first key key_is saw (found_some byte (Payload u) rest e).0 (meaning gave.value) value_is gave.small gave.may stays.0)
              ]
        ]

  -- AT THE CHECK ABOVE a child that was taken
  module _ (child : Spot) (led : LeadsFirst t spot course.cursor child.slot) (known : Known t pin child) (other : child.slot ≢ spot.slot) (from : Option ℕ) (goes : GoesTo t child.slot course.cursor from) (saw_node : SawNode (meant_task meaning task).last child.slot) where
    pub deeper : (reach : ℕ) → from ≡ Some reach → Comes (CheckAbove spot child from) (scan_goes_on task (record course { reach = reach }) (Read child) (report_of kind.Check (Some spot.slot) 0 true) Going)
    deeper reach e =
        let f = first_found 0 256 node.node.children (bound_at course.cursor node.node.prefix) (below_at child.slot) (placed.ordered spot.slot node linked) (led node here word) in
        steps_down Granted same t root pin (meant_task meaning task) course env placed spot node here word at child led known other f.0 f.1 from saw_node reach (subst (λ (o : Option ℕ). GoesTo t child.slot course.cursor o) e goes)

    pub never_none : between n.children (next_byte n.prefix (bytes_of course.reach)) 256 ≡ [] → ⊥
    never_none e = let is : Child M = below_at child.slot in none_some is (sym (found_none e) ∙ led node here word)

    pub over_comes : from ≡ None → (byte : ℕ) (c : Child P) (rest : List (ℕ × Child P)) → between n.children (next_byte n.prefix (bytes_of course.reach)) 256 ≡ (byte, c) ∷ rest → (last : ℕ) → last + 1 ≡ high (n.prefix ++ byte ∷ [])
        → (next : AfterScan P) → IsPast task course last (report_of kind.Check (Some spot.slot) 0 true) next → Comes (CheckAbove spot child from) next
    over_comes none byte c rest e last is next p =
        let f = found_some byte c rest e in
        let c_is : child_of meaning c ≡ below_at child.slot = some_same (child_of meaning c) (below_at child.slot) (sym f.0 ∙ led node here word) in
        let first : IsFirstChild (bound_at course.cursor node.node.prefix) node.node.children byte (below_at child.slot) = subst (λ (x : Child M). IsFirstChild (bound_at course.cursor node.node.prefix) node.node.children byte x) c_is f.1 in
        let over = passed_over Granted same t root pin (meant_task meaning task) course env placed spot node here word at child led known other byte first from saw_node (subst (λ (o : Option ℕ). GoesTo t child.slot course.cursor o) none goes) in
        past_comes (CheckAbove spot child from) (above_known spot child other) (inr (inl refl)) last next p
        (λ k k_is. leads_over Granted same t root pin (meant_task meaning task) course env placed spot node here word at child led known other byte first from saw_node k (k_is ∙ ap (λ (z : ℕ). min z (2 ^ 64 - 1)) is) (subst (λ (o : Option ℕ). GoesTo t child.slot course.cursor o) none goes))
        (omega (arith, is, over.0))
        (λ s shows key v low to at_key. over.1 s shows key v low (omega (arith, is, to)) at_key)

  -- A READ of a node whose word is the remembered one
  first_means : (l : List (ℕ × Child P)) → between n.children (next_byte n.prefix (bytes_of course.reach)) 256 ≡ l → in_some (child_of meaning) (first_in l) ≡ first_from (bound_at course.cursor node.node.prefix) node.node.children
  first_means [] e = sym (found_none e)
  first_means (x ∷ rest) e = sym (found_some x.0 x.1 rest e).0

  pub looked_comes : (next : AfterScan P) → IsLooked Granted meaning n task course spot (report_of kind.Read (Some spot.slot) 0 true) next → Comes (Read spot) next
  looked_comes next p =
      let first = first_means (between n.children (next_byte n.prefix (bytes_of course.reach)) 256) refl in
      elim p [
        | inl looks ↦
            subst (λ (x : AfterScan P). Comes (Read spot) x) (sym looks.is)
            (whole Granted same t root pin (meant_task meaning task) course env placed spot node here at word (seen_of meaning looks.seen) (in_some meaning looks.spare) (looks.child ∙ first) (looks.kept ∙ ap payload_in (sym looks.child))
            (count_means meaning n looks.seen.count looks.count) (full_means meaning n looks.seen.full looks.full))
        | inr denied ↦
            subst (λ (x : AfterScan P). Comes (Read spot) x) (sym denied.2)
            (unseen Granted same t root pin (meant_task meaning task) course env placed spot node here at word (meaning denied.1.0) (sym first ∙ ap (in_some (child_of meaning)) denied.1.1) denied.0)
      ]
