-- WHAT A RANGE KNOWS before its next event.
use Rattle.std.specs.Prelude.{◌≡◌, ◌≢◌, ℕ, ◌<◌, ◌≤◌, ◌^◌, max, Option, Some, None, ◌⊎◌}
use Rattle.spec_node.specs.Key.{low, high}
use Rattle.spec_node.specs.declared.child.Child.TheVariants.{Node as below_at}
use Rattle.spec_olc.specs.Calls.{Outline, outline_of}
use Rattle.spec_olc.specs.Local.{payload_in}
use Rattle.spec_olc.specs.Reading.{HasAll, bound_at, first_from}
use Rattle.spec_olc.specs.declared.types.Asking.TheVariants.{Fresh}
use Rattle.spec_olc.specs.declared.types.Op.{Op}
use Rattle.spec_olc.specs.declared.types.Op.TheVariants.{Range}
use Rattle.spec_olc.specs.declared.types.Progress.TheVariants as progress
use Rattle.spec_olc.specs.declared.types.Seen.{Seen}
use Rattle.olc_state.specs.declared.scan.RangeProgress.{RangeProgress}
use Rattle.olc_state.specs.declared.scan.Scan.{Scan}
use Rattle.olc_state.specs.declared.scan.Scan.TheVariants.{TakeRoot, Read, Check, TakeBelow, CheckAbove, Finish}
use Rattle.olc_state.specs.declared.stage.Spot.{Spot}
use Rattle.olc_state.specs.declared.stage.Stage.{Stage}
use Rattle.olc_state.specs.declared.stage.Stage.TheVariants as stage
use Rattle.olc_state.specs.declared.stage.Task.{Task}
use Rattle.olc_state.specs.inner.Tables.{IsThere, Known, While}
use Rattle.olc_state.specs.inner.Tasks.{SawNode}
use Rattle.olc_state.specs.inner.World.{PlacedNode, NodeMap}

-- WHERE A CALL BEGINS: at the root, or, if it is a range that has no pair to return, at its end
abbrev pub first_course : ℕ → RangeProgress
first_course start = record { cursor = start; reach = start; given = 0 }

abbrev pub BeginsAt : Outline → Stage → Type 0
BeginsAt (Range a b n) at = (at ≡ stage.Scan (first_course a) TakeRoot)
    ⊎ ((at ≡ stage.Scan (first_course a) Finish) × HasAll (Range a b n) a 0)
BeginsAt _ at = at ≡ stage.TakeRoot

-- AND WHERE IT ENDS
abbrev pub IsAtEnd : Stage → Type 0
IsAtEnd stage.Finish = Unit {0}
IsAtEnd (stage.Scan course Finish) = Unit {0}
IsAtEnd _ = ⊥

module _ {M : Type 0} where
  -- A RANGE that goes on
  pub record IsRanging (task : Task M) (course : RangeProgress) : Type 0 where
    pub start : ℕ
    pub end : ℕ
    pub limit : ℕ
    pub outline : task.outline ≡ Range start end limit
    pub op : task.op ≡ Some (Range start end limit)
    pub undecided : task.progress ≡ progress.Open
    pub fresh : task.asking ≡ Fresh
    pub order : course.cursor ≤ course.reach
    pub small : course.reach < 2 ^ 64
    pub most : course.given ≤ limit

  -- IT SEARCHES A NODE from its reach on: its cursor or the first key that the node may have
  abbrev pub LooksAt : NodeMap M → ℕ → ℕ → ℕ → Type 0
  LooksAt t slot cursor reach = (a : PlacedNode M) → t slot ≡ Some a
      → (reach ≡ max cursor (low a.node.prefix)) × (cursor < high a.node.prefix)

  -- from where it would search a node, unless its cursor is past all keys that the node may have
  abbrev pub GoesTo : NodeMap M → ℕ → ℕ → Option ℕ → Type 0
  GoesTo t slot cursor (Some reach) = (reach < 2 ^ 64) × LooksAt t slot cursor reach
  GoesTo t slot cursor None = (a : PlacedNode M) → t slot ≡ Some a → high a.node.prefix ≤ cursor

  -- the first child of a node that it searches leads to this slot
  abbrev pub LeadsFirst : NodeMap M → Spot → ℕ → ℕ → Type 0
  LeadsFirst t spot cursor slot = While t spot (λ a.
      first_from (bound_at cursor a.node.prefix) a.node.children ≡ Some (below_at slot))

  -- it is at a node whose word it remembers
  pub record IsAtNode (t : NodeMap M) (pin : ℕ) (task : Task M) (course : RangeProgress) (spot : Spot) : Type 0 where
    pub ranging : IsRanging task course
    pub here : Known t pin spot
    pub looks : LooksAt t spot.slot course.cursor course.reach

  -- what its last Read reported is the node's first child from there on, and the call keeps one
  -- more share of a payload
  pub record SawFirst (t : NodeMap M) (task : Task M) (course : RangeProgress) (spot : Spot) : Type 0 where
    pub seen : Seen M
    pub is : task.last ≡ Some seen
    pub at_key : While t spot (λ a.
        (seen.child ≡ first_from (bound_at course.cursor a.node.prefix) a.node.children)
        × (task.spare ≡ payload_in seen.child))

  -- what was started is there
  abbrev pub HasOp : Task M → Type 0
  HasOp task = (op : Op M) × (task.op ≡ Some op) × (outline_of op ≡ task.outline)

  -- it has all, or was refused
  abbrev pub IsDone : Task M → RangeProgress → Type 0
  IsDone task course = (task.progress ≡ progress.Refused)
      ⊎ ((task.progress ≡ progress.Open) × HasAll task.outline course.reach course.given
      × HasOp task)

  -- THE FACTS
  abbrev pub ScanFacts : NodeMap M → ℕ → ℕ → Task M → RangeProgress → Scan → Type 0
  ScanFacts t root pin task course TakeRoot =
      IsRanging task course × (course.reach ≡ course.cursor) × (task.last ≡ None)
  ScanFacts t root pin task course (Read spot) = IsAtNode t pin task course spot
  ScanFacts t root pin task course (Check spot) =
      IsAtNode t pin task course spot × SawFirst t task course spot
  ScanFacts t root pin task course (TakeBelow spot slot) = IsAtNode t pin task course spot
      × LeadsFirst t spot course.cursor slot × IsThere t pin slot × (slot ≢ root)
      × (slot ≢ spot.slot) × SawNode task.last slot
  ScanFacts t root pin task course (CheckAbove spot below from) = IsAtNode t pin task course spot
      × LeadsFirst t spot course.cursor below.slot × Known t pin below
      × GoesTo t below.slot course.cursor from × (below.slot ≢ spot.slot)
      × SawNode task.last below.slot
  ScanFacts t root pin task course Finish = IsDone task course
