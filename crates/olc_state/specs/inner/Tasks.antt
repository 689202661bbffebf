-- THE TASK of a call: what it has seen, and whether it still has its payloads.
use Rattle.std.specs.Prelude.{Bool, IsTrue, ◌≡◌, ◌<◌, ◌≤◌, ℕ, List, Option, Some, None}
use Rattle.spec_node.specs.declared.child.Child.TheVariants.{Node as below_at}
use Rattle.spec_olc.specs.Alone.{may_remove}
use Rattle.spec_olc.specs.Calls.{IsPoint, bytes_of, key_of, outline_of}
use Rattle.spec_olc.specs.Local.{SharesNone, payload_in}
use Rattle.spec_olc.specs.Reading.{IsReading, child_for}
use Rattle.spec_olc.specs.declared.types.Asking.TheVariants.{Fresh}
use Rattle.spec_olc.specs.declared.types.Op.{Op}
use Rattle.spec_olc.specs.declared.types.Progress.{Progress}
use Rattle.spec_olc.specs.declared.types.Progress.TheVariants as progress
use Rattle.spec_olc.specs.declared.types.Seen.{Seen}
use Rattle.olc_state.specs.declared.cleanup.Cleanup.{Cleanup}
use Rattle.olc_state.specs.declared.stage.Path.{Path}
use Rattle.olc_state.specs.declared.stage.Stage.{Stage}
use Rattle.olc_state.specs.declared.stage.Stage.TheVariants.{Check}
use Rattle.olc_state.specs.declared.stage.Task.{Task}
use Rattle.olc_state.specs.inner.Effects.{HasClosure, IsReturned}
use Rattle.olc_state.specs.inner.Shown.{flight}
use Rattle.olc_state.specs.inner.World.{PlacedNode, NodeMap}
use Rattle.olc_state.specs.inner.Tables.{While}

module _ {M : Type 0} where
  -- the last Read reported this slot
  pub record SawNode (last : Option (Seen M)) (slot : ℕ) : Type 0 where
    pub seen : Seen M
    pub is : last ≡ Some seen
    pub child : seen.child ≡ Some (below_at slot)

  -- A POINT CALL WITHOUT A REPLY has its payloads, and a share of what its reply will return.
  pub record IsOpen (task : Task M) : Type 0 where
    pub undecided : task.progress ≡ progress.Open
    pub op : Op M
    pub op_is : task.op ≡ Some op
    pub outline : outline_of op ≡ task.outline
    pub point : IsPoint task.outline
    pub returned : IsReturned op task.asking task.returns

  -- the same, and its closure hasn't been called
  pub record IsFreshly (task : Task M) : Type 0 where
    pub opened : IsOpen task
    pub fresh : task.asking ≡ Fresh

  -- A CALL THAT CLEANS UP, or has to, has removed its key, and has its reply and no payload
  pub record CleansUp (task : Task M) (c : Cleanup) : Type 0 where
    pub decided : task.progress ≡ progress.Decided
    pub op : task.op ≡ None
    pub fresh : task.asking ≡ Fresh
    pub point : IsPoint task.outline
    pub removes : IsTrue (may_remove task.outline)
    pub below_root : 0 < c.length
    pub short : c.length ≤ 7

  -- what is left of a call that has its reply, or was refused
  abbrev pub closed : Progress → Task M → Task M
  closed progress task = record task {
    op = None;
    spare = None;
    question = None;
    returns = None;
    asking = Fresh;
    progress = progress;
  }

  -- what is left of one that goes back to the root
  abbrev pub restarted : Task M → Task M
  restarted task = record task { last = None; spare = None; question = None; asking = Fresh }

  abbrev pub key_bytes : Task M → List ℕ
  key_bytes task = bytes_of (key_of task.outline)

module _ {M : Type 0} (Granted : Type 0) (same : M → M → Bool) where
  -- the call's Read reports a payload as it is stored
  abbrev pub MaySee : Task M → Type 0
  MaySee task = SharesNone task.outline None → Granted

  -- beside a payload that was seen, one more share of it is kept
  abbrev pub IsSpare : Task M → Seen M → Option M → Type 0
  IsSpare task s spare = MaySee task → spare ≡ payload_in s.child

  -- and a third one for a closure
  abbrev pub KeepsQuestion : Task M → Seen M → Option M → Type 0
  KeepsQuestion task s question = HasClosure task.outline → question ≡ payload_in s.child

  -- what the last Read reported agrees with the node
  pub record Agrees (task : Task M) (stage : Stage) (pin : ℕ) (a : PlacedNode M) (s : Seen M)
      : Type 0 where
    pub reading : IsReading (MaySee task) (flight pin (record { stage = stage; task = task }))
        a.node s
    pub spare : IsSpare task s task.spare
    pub question : KeepsQuestion task s task.question
    pub below : (slot : ℕ) → s.child ≡ Some (below_at slot)
        → child_for task.outline (key_of task.outline) a.node ≡ Some (below_at slot)

  pub record Saw (t : NodeMap M) (pin : ℕ) (path : Path) (task : Task M) : Type 0 where
    pub seen : Seen M
    pub is : task.last ≡ Some seen
    pub agrees : While t path.here (λ a. Agrees task (Check path) pin a seen)
