-- What a Check finds at a node on its key's path whose word is the remembered one.
use Rattle.std.specs.Prelude.{◌≡◌, ◌↔◌, Bool, IsTrue, ℕ, ◌+◌, ◌<◌, List, length, Some, None, Err}
use Rattle.node_base.specs.Form.{Fits}
use Rattle.spec_node.specs.TableNode.{TableNode}
use Rattle.spec_node.specs.declared.child.Child.TheVariants.{Payload, Node as below_at}
use Rattle.spec_olc.specs.Calls.{Outline}
use Rattle.spec_olc.specs.declared.types.Op.TheVariants.{Insert, ComputeIfPresent, ComputeOrInsert, CompareExchange}
use Rattle.spec_olc.specs.declared.types.Reply.{Reply}
use Rattle.spec_olc.specs.declared.types.Reply.TheVariants.{Old, Computed, Exchanged}
use Rattle.olc_state.specs.declared.stage.Path.{Path}
use Rattle.olc_state.specs.declared.tail.Case.{Case}
use Rattle.olc_state.specs.declared.tail.Case.TheVariants as case
use Rattle.olc_state.specs.declared.tail.Large.TheVariants.{GrowLeaf, GrowInner}
use Rattle.olc_state.specs.declared.tail.Large.TheVariants as large
use Rattle.olc_state.specs.declared.tail.Small.TheVariants.{Entry, Leaf}
use Rattle.olc_state.specs.declared.tail.Tail.{Tail}
use Rattle.olc_state.specs.declared.tail.Tail.TheVariants.{Upgrade, UpgradeAbove}
use Rattle.olc_state.specs.inner.TailFacts.{IsLarge, IsSmall, found, path_to}
use Rattle.olc_state.specs.inner.World.{PlacedNode}
use Rattle.olc_decide.specs.declared.finding.Absence.{Absence}
use Rattle.olc_decide.specs.declared.finding.Absence.TheVariants as absence
use Rattle.olc_decide.specs.declared.finding.Met.{Met}
use Rattle.olc_decide.specs.declared.finding.Met.TheVariants as met
use Rattle.olc_decide.specs.declared.finding.RoomNeeded.{RoomNeeded}
use Rattle.olc_decide.specs.declared.finding.RoomNeeded.TheVariants as room

module _ {M : Type 0} where
  -- the key is absent, and `Case` is what an entry needs
  abbrev pub IsAbsent : Path → PlacedNode M → List ℕ → Case → Type 0
  IsAbsent path a k (case.Small at small) = (at ≡ path) × IsSmall small a k
  IsAbsent path a k (case.Large pair large) = (path_to pair ≡ path) × IsLarge large a k
  IsAbsent path a k (case.Present pair only) = ⊥

  -- the key is present; `only`: its payload is the only one of its leaf
  abbrev pub IsPresentAt : PlacedNode M → List ℕ → Bool → Type 0
  IsPresentAt a k only = ((v : M) × (found a k ≡ Some (Payload v)))
      × (length a.node.prefix ≡ 7) × (IsTrue only ↔ (length a.node.children ≡ 1))

  abbrev pub IsMetBy : Path → PlacedNode M → List ℕ → Met → Type 0
  IsMetBy path a k (met.Below slot) = found a k ≡ Some (below_at slot)
  IsMetBy path a k (met.Absent case) = (found a k ≡ None) × IsAbsent path a k case
  IsMetBy path a k (met.Present pair only) = (path_to pair ≡ path) × IsPresentAt a k only

-- what an entry needs at a node without one under the key's byte
abbrev pub IsRoom : {P : Type 0} → TableNode P → RoomNeeded → Type 0
IsRoom n (room.Small Entry) = (length n.prefix ≡ 7) × Fits n.form (length n.children + 1)
IsRoom n (room.Small Leaf) = (length n.prefix < 7) × Fits n.form (length n.children + 1)
IsRoom n (room.Large GrowLeaf) = (length n.prefix ≡ 7) × (Fits n.form (length n.children + 1) → ⊥)
IsRoom n (room.Large GrowInner) =
    (length n.prefix < 7) × (Fits n.form (length n.children + 1) → ⊥)
IsRoom n (room.Large large) = ⊥

-- what a call of this kind does if its key is absent
abbrev pub IsAbsence : Outline → Absence → Type 0
IsAbsence (Insert k v) does = does ≡ absence.Stores
IsAbsence (ComputeOrInsert k v) does = does ≡ absence.Asks
IsAbsence o does = does ≡ absence.Leaves

-- the tail of a call that stores at an absent key
abbrev pub tail_for : Case → Tail
tail_for (case.Present pair only) = UpgradeAbove pair large.Detach
tail_for (case.Small path small) = Upgrade path small
tail_for (case.Large pair large) = UpgradeAbove pair large

-- the reply to a call that changes nothing at an absent key
abbrev pub reply_absent : {M : Type 0} → Outline → Reply M
reply_absent (ComputeIfPresent k) = Computed None
reply_absent (CompareExchange k old new) = Exchanged (Err None)
reply_absent o = Old None
