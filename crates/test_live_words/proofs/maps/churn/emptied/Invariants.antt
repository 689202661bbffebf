use Rattle.live_owners.specs.Owners.{IsHandleOf}
use Rattle.test_live_words.proofs.maps.churn.emptied.Given as goal

-- the handle is one of this map
abbrev pub invariant-loop : goal.invariant-loop
invariant-loop l = IsHandleOf l.shared.map l.handle
