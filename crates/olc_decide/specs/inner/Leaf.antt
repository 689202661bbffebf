-- The Check of a leaf that has a payload at the call's key.
use Rattle.std.specs.Prelude.{◌≡◌, Bool, ℕ, Some}
use Rattle.spec_olc.specs.declared.types.Env.{Env}
use Rattle.olc_state.specs.declared.stage.Stage.TheVariants.{Check}
use Rattle.olc_state.specs.declared.stage.Task.{Task}
use Rattle.olc_state.specs.declared.stepped.Stepped.{Stepped}
use Rattle.olc_state.specs.declared.store.Store.{Store}
use Rattle.olc_state.specs.declared.tail.NodePair.{NodePair}
use Rattle.olc_state.specs.inner.Meant.{meant_table}
use Rattle.olc_state.specs.inner.Tables.{IsPlaced}
use Rattle.olc_state.specs.inner.TailFacts.{path_to}
use Rattle.olc_state.specs.inner.Tasks.{key_bytes}
use Rattle.olc_state.specs.inner.World.{PlacedNode}
use Rattle.olc_decide.specs.inner.Met.{IsPresentAt}
use Rattle.olc_descend.specs.inner.Reads.{KnowsMeant, ReadsOnly}

-- `Granted`: shares are never refused. `same`: the test by which values are compared.
module _ {P M : Type 0} (Granted : Type 0) (same : M → M → Bool) (meaning : P → M)
    (store : Store P) (pin : ℕ) (task : Task P) (pair : NodePair) where
  -- the lower node of the two has the remembered word, and a payload at the key
  pub record IsAtPayload (only : Bool) : Type 0 where
    pub placed : IsPlaced (meant_table meaning store) store.root
    pub facts : KnowsMeant Granted same meaning store pin
        (record { stage = Check (path_to pair); task = task })
    pub word : (a : PlacedNode M) → meant_table meaning store pair.here.slot ≡ Some a
        → a.word ≡ pair.here.word
    pub present : (a : PlacedNode M) → meant_table meaning store pair.here.slot ≡ Some a
        → IsPresentAt a (key_bytes task) only

  -- the call after this Check
  abbrev pub ChecksLeaf : Task P → Stepped P → Type 0
  ChecksLeaf task' stepped = (env : Env P) → ReadsOnly Granted same meaning store pin
      (record { stage = Check (path_to pair); task = task }) env
      (record { stage = stepped.stage; task = task' }) stepped.report stepped.outcome
