-- What a Read finds at a node whose word is the remembered one.
use Rattle.std.specs.Prelude.{◌≡◌, ℕ, ◌+◌, Bool, IsTrue, ◌↔◌, length, Option, Some, None}
use Rattle.node_base.specs.Form.{Fits}
use Rattle.node_base.specs.declared.base_node.NodeType.{NodeType}
use Rattle.spec_node.specs.TableNode.{TableNode, Child}
use Rattle.spec_node.specs.declared.child.Child.TheVariants.{Payload, Node as below_at}
use Rattle.spec_olc.specs.Calls.{Outline, key_of}
use Rattle.spec_olc.specs.Local.{SharesNone, payload_in}
use Rattle.spec_olc.specs.Reading.{IsSeenOf, child_for}
use Rattle.spec_olc.specs.declared.types.Outcome.{Outcome}
use Rattle.spec_olc.specs.declared.types.Outcome.TheVariants.{Going, Refused}
use Rattle.spec_olc.specs.declared.types.Progress.TheVariants as progress
use Rattle.spec_olc.specs.declared.types.Seen.{Seen}
use Rattle.olc_state.specs.declared.stage.Path.{Path}
use Rattle.olc_state.specs.declared.stage.Record.{Record}
use Rattle.olc_state.specs.declared.stage.Stage.TheVariants.{Check, Finish}
use Rattle.olc_state.specs.declared.stage.Task.{Task}
use Rattle.olc_state.specs.inner.Effects.{HasClosure}
use Rattle.olc_state.specs.inner.Tasks.{closed}

-- the child is a payload
abbrev pub HasPayload : {P : Type 0} → Option (Child P) → Type 0
HasPayload {P} child = (v : P) × (child ≡ Some (Payload v))

-- there is no room for one child more
abbrev pub IsFull : NodeType → ℕ → Bool → Type 0
IsFull form count full = IsTrue full ↔ (Fits form (count + 1) → ⊥)

-- a call of this kind sees each payload as it is
abbrev pub SeesAll : Type 0 → Outline → Type 0
SeesAll Granted o = SharesNone o None → Granted

module _ {M : Type 0} (Granted : Type 0) (same : M → M → Bool) where
  -- what a call of this kind sees of a node, and the shares that it keeps for its reply and its closure
  pub record IsLooking (a : TableNode M) (o : Outline) (s : Seen M)
      (spare question : Option M) : Type 0 where
    pub child : IsSeenOf (SeesAll Granted o) (child_for o (key_of o) a) s.child
    pub count : s.count ≡ length a.children
    pub full : IsFull a.form (length a.children) s.full
    pub kept : SeesAll Granted o → spare ≡ payload_in s.child
    pub asks : HasClosure o → question ≡ payload_in s.child
    pub below : (slot : ℕ) → s.child ≡ Some (below_at slot)
        → child_for o (key_of o) a ≡ Some (below_at slot)

  -- a share of the payload was refused
  pub record IsUnseen (a : TableNode M) (o : Outline) : Type 0 where
    pub payload : HasPayload (child_for o (key_of o) a)
    pub shares : SharesNone o None → ⊥
    pub granted : Granted → ⊥

  pub record LooksAtChild (a : TableNode M) (path : Path) (task : Task M) (next : Record M) : Type 0 where
    pub seen : Seen M
    pub spare : Option M
    pub question : Option M
    pub looking : IsLooking a task.outline seen spare question
    pub is : next ≡ record {
      stage = Check path;
      task = record task { last = Some seen; spare = spare; question = question };
    }

  abbrev pub refused_task : Task M → Record M
  refused_task task = record { stage = Finish; task = closed progress.Refused task }

  -- the call and the outcome after a whole Read
  abbrev pub IsWholeRead : TableNode M → Path → Task M → Record M → Outcome M → Type 0
  IsWholeRead a path task next Going = LooksAtChild a path task next
  IsWholeRead a path task next Refused = IsUnseen a task.outline × (next ≡ refused_task task)
  IsWholeRead a path task next _ = ⊥
