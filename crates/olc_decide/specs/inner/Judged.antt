-- What a call does with the current value of its key.
use Rattle.std.specs.Prelude.{◌≡◌, Bool, true, false, IsTrue, Option, Some, None}
use Rattle.spec_node.specs.TableNode.{Child}
use Rattle.spec_node.specs.declared.child.Child.TheVariants.{Payload}
use Rattle.spec_olc.specs.Calls.{Outline}
use Rattle.spec_olc.specs.declared.types.Asking.{Asking}
use Rattle.spec_olc.specs.declared.types.Asking.TheVariants.{Wants}
use Rattle.spec_olc.specs.declared.types.Op.{Op}
use Rattle.spec_olc.specs.declared.types.Op.TheVariants.{Get, Insert, Remove, ComputeOrInsert, CompareExchange}
use Rattle.olc_state.specs.declared.stage.Stage.{Stage}
use Rattle.olc_state.specs.declared.stage.Stage.TheVariants.{Confirm, Finish, Tail}
use Rattle.olc_state.specs.declared.stage.Task.{Task}
use Rattle.olc_state.specs.declared.tail.Case.{Case}
use Rattle.olc_state.specs.declared.tail.Case.TheVariants as case
use Rattle.olc_state.specs.declared.tail.Large.TheVariants as large
use Rattle.olc_state.specs.declared.tail.NodePair.{NodePair}
use Rattle.olc_state.specs.declared.tail.Small.TheVariants.{Entry}
use Rattle.olc_state.specs.declared.tail.Tail.TheVariants.{Upgrade, UpgradeAbove}
use Rattle.olc_state.specs.declared.tail.Tail as tail
use Rattle.olc_state.specs.inner.TailFacts.{path_to}
use Rattle.olc_decide.specs.declared.presence.Judged.{Judged}
use Rattle.olc_decide.specs.declared.presence.Judged.TheVariants.{Other, Same, Stores, Removes}
use Rattle.olc_decide.specs.inner.Met.{tail_for}

-- the kinds of calls
abbrev pub IsGet : Outline → Type 0
IsGet (Get k) = Unit {0}
IsGet o = ⊥

abbrev pub IsInsert : Outline → Type 0
IsInsert (Insert k v) = Unit {0}
IsInsert o = ⊥

abbrev pub IsRemove : Outline → Type 0
IsRemove (Remove k) = Unit {0}
IsRemove o = ⊥

abbrev pub IsExchange : Outline → Type 0
IsExchange (CompareExchange k old new) = Unit {0}
IsExchange o = ⊥

-- the tail of a call that removes the payload
abbrev pub removing : NodePair → Bool → tail.Tail
removing pair true = UpgradeAbove pair large.Detach
removing pair false = Upgrade (path_to pair) Entry

-- the stage after an answer, by what the call does with the current value
abbrev pub stage_for : NodePair → Bool → Judged → Stage
stage_for pair only Same = Confirm pair.here
stage_for pair only Stores = Tail (Upgrade (path_to pair) Entry)
stage_for pair only Removes = Tail (removing pair only)
stage_for pair only Other = Finish

module _ {M : Type 0} where
  -- the payload of an Insert
  abbrev pub handed : Option (Op M) → Option M
  handed (Some (Insert k v)) = Some v
  handed op = None

  -- what a call stores once its closure has answered
  abbrev pub otherwise_of : Option (Op M) → Option M
  otherwise_of (Some (ComputeOrInsert k v)) = Some v
  otherwise_of op = None

  abbrev pub value_of : Option (Op M) → Option M → Option M
  value_of op None = otherwise_of op
  value_of op (Some answer) = Some answer

-- `same` is the test by which values are compared.
module _ {M : Type 0} (same : M → M → Bool) where
  -- whether this is what a closure was asked with
  abbrev pub IsAgainst : Asking M → M → Judged → Type 0
  IsAgainst asking v Same = asking ≡ Wants (Some v)
  IsAgainst asking v Stores = (old : M) → asking ≡ Wants (Some old) → same v old ≡ false
  IsAgainst asking v j = ⊥

  -- what a call does with the value that its closure was asked with
  abbrev pub IsJudgedAnswer : Option (Op M) → Asking M → Option M → Judged → Type 0
  IsJudgedAnswer op asking answer Same =
      (old : M) × (asking ≡ Wants (Some old)) × (value_of op answer ≡ Some old)
  IsJudgedAnswer op asking answer Stores = (v : M) × (value_of op answer ≡ Some v)
      × ((old : M) → asking ≡ Wants (Some old) → same v old ≡ false)
  IsJudgedAnswer op asking answer Removes = value_of op answer ≡ None
  IsJudgedAnswer op asking answer Other = ⊥

  abbrev pub IsAfterAnswer : Task M → Case → Option M → Stage → Type 0
  IsAfterAnswer task (case.Present pair only) answer stage =
      (j : Judged) × IsJudgedAnswer task.op task.asking answer j × (stage ≡ stage_for pair only j)
  IsAfterAnswer task c answer stage = stage ≡ Tail (tail_for c)

  -- what a CompareExchange does with the current value of its key
  abbrev pub IsJudgedExchange : M → Option M → M → Judged → Type 0
  IsJudgedExchange old new current Other = same current old ≡ false
  IsJudgedExchange old new current Same = IsTrue (same current old) × (new ≡ Some current)
  IsJudgedExchange old new current Stores =
      IsTrue (same current old) × ((v : M) × (new ≡ Some v) × (same v current ≡ false))
  IsJudgedExchange old new current Removes = IsTrue (same current old) × (new ≡ None)

  abbrev pub IsHandedOver : M → M → Judged → Type 0
  IsHandedOver v current Same = v ≡ current
  IsHandedOver v current Stores = same v current ≡ false
  IsHandedOver v current j = ⊥

  -- what an Insert or a CompareExchange does with it
  abbrev pub IsJudged : Option (Op M) → Option (Child M) → Judged → Type 0
  IsJudged (Some (Insert k v)) (Some (Payload current)) j = IsHandedOver v current j
  IsJudged (Some (CompareExchange k old new)) (Some (Payload current)) j =
      IsJudgedExchange old new current j
  IsJudged op child j = Unit {0}
