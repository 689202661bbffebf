use Rattle.std.proofs.Common.{ap, sym, ◌∙◌}
use Rattle.share_shards.specs.Held.{numbers}
use Rattle.share_shards.specs.inner.Steps.{held_of}
use Rattle.share_visits.proofs.Holding.{held_end, may_end, numbers_taken}
use Rattle.share_visits.proofs.whole.release_all.Goals as goal

pub release-requires-clause-shards : goal.release-requires-clause-shards
release-requires-clause-shards g c =
    let h = c.requires.may in
    ap (λ z. numbers (held_of z)) h.4 ∙ (numbers_taken g.M.MapShard.pairs g.M.MapShard.limit c.args.lock.now c.requires.shards h.0 h.1 h.3 ∙ sym c.all_shards.ensures)

pub release-requires-clause-may : goal.release-requires-clause-may
release-requires-clause-may g c =
    let h = c.requires.may in
    may_end g.M.MapShard.pairs g.M.MapShard.limit c.args.lock.now c.requires.shards h.0 h.1 h.3 g.D.Done.operations c.args.seat.now.me h.2 h.4 h.5 h.6

pub returns-clause-held : goal.returns-clause-held
returns-clause-held g c = λ m n took view.
    held_end g.M.MapShard.pairs g.M.MapShard.limit c.args.lock.now c.requires.shards m n took g.D.Done.operations c.args.seat.now.me c.release.new.seat.me view c.release.ensures.held
