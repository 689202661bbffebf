use Rattle.live_owners.specs.Owners.{IsHandleOf}
use Rattle.test_live_words.proofs.maps.readers.wrong.Given as goal

-- the handle is one of this map
abbrev pub invariant-loop-key : goal.invariant-loop-key
invariant-loop-key l = IsHandleOf l.map l.handle
