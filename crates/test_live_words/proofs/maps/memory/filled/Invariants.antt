use Rattle.live_owners.specs.Owners.{IsHandleOf}
use Rattle.test_live_words.proofs.maps.memory.filled.Given as goal

-- the handle is one of this map
abbrev pub invariant-loop-owner : goal.invariant-loop-owner
invariant-loop-owner l = IsHandleOf l.map l.handle
