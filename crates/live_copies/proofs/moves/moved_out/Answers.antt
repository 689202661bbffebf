use Rattle.live_copies.proofs.Inserted.{if_moved, if_not_moved}
use Rattle.live_copies.proofs.moves.moved_out.Goals as goal

pub returns-clause-copied : goal.returns-clause-copied
returns-clause-copied g c = if_moved c.owned_of.result (λ owned. owned.pairs) c.args.guard.now c.copied.new.guard c.in_ok-numbers.numbers.items c.deref.result.now c.in_ok-numbers.ensures.copied c.deref.ensures.value c.owned_of.ensures

pub returns-clause-refused : goal.returns-clause-refused
returns-clause-refused g c = if_not_moved c.owned_of.result c.args.guard.now c.copied.new.guard c.in_ok-numbers.numbers.items c.in_ok-numbers.ensures.copied
