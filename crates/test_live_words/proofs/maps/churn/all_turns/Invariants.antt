use Rattle.live_owners.specs.Owners.{IsHandleOf}
use Rattle.test_live_words.proofs.maps.churn.all_turns.Given as goal

-- the handle is one of this map
abbrev pub invariant-loop-i : goal.invariant-loop-i
invariant-loop-i l = IsHandleOf l.shared.map l.handle
