use Rattle.live_owners.specs.Owners.{IsHandleOf}
use Rattle.test_live_words.proofs.maps.alone.drained.Given as goal

-- the handle is one of this map
abbrev pub invariant-loop : goal.invariant-loop
invariant-loop l = IsHandleOf l.map l.handle
