use Rattle.std.proofs.Common.{arith}
use Rattle.congee_tree.proofs.LeastLaws.{popped_least}
use Rattle.congee_tree.proofs.tree.RawCongee.pop_first_in_place.Goals as goal

pub invariant_of-self-2 : goal.invariant_of-self-2
invariant_of-self-2 g c =
    popped_least _ _ c.in_ok-key.key c.in_ok-key.payload _ (rw (← c.self.view_is) at c.law_ordered.ensures) c.in_ok-key.ensures.pair c.in_ok-key.ensures.removes.pairs (omega (arith, c.saturating_add-self-inside.ensures))

pub returns-clause-in_place : goal.returns-clause-in_place
returns-clause-in_place g c = rw (← c.self.view_is) c.in_ok-key.ensures.in_place
