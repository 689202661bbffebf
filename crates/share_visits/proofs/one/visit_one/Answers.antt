use Rattle.std.proofs.Common.{◌-◌, arith}
use Rattle.share_visits.proofs.OneShard.{one_visited, to_one}
use Rattle.share_visits.proofs.one.visit_one.Goals as goal

pub each-requires-clause-slots : goal.each-requires-clause-slots
each-requires-clause-slots g c =
    let many = c.shards.ensures in
    to_one g.M.MapShard.pairs g.M.MapShard.limit c.args.lock.now c.args.shard c.requires.within c.requires.all.0 c.args.seat.now.me.1 c.requires.all.1 (c.shards.result - 1 - c.args.shard) c.turn.new.seat.me.1
    (omega (arith, many)) c.turn.ensures.turned

pub returns-clause-visited : goal.returns-clause-visited
returns-clause-visited g c = λ all h.
    let many = c.shards.ensures in
    one_visited g.M.MapShard.pairs g.M.MapShard.limit c.args.lock.now c.args.shard c.requires.within all c.args.seat.now.me.1 h (c.shards.result - 1 - c.args.shard) c.turn.new.seat.me.1 (omega (arith, many)) c.turn.ensures.turned
    g.V.Visit.does c.args.visit.now c.each.new.visit c.args.buffer.now c.each.new.buffer c.each.new.seat.me.1 c.turn-2.new.seat.me.1 c.turn-2.ensures.turned c.each.ensures.visited
