use Rattle.olc_state.proofs.Holding.{live_now, locked_now}
use Rattle.olc_write.proofs.Freed.{obsoletes}
use Rattle.olc_write.proofs.Stocked.{retires_moves}
use Rattle.olc_write.proofs.freeing.obsolete.Goals as goal

pub retire-requires-clause-out : goal.retire-requires-clause-out
retire-requires-clause-out g c =
    let gone = c.requires.facts.at.2 in
    (gone.node, gone.here, gone.lifetime, locked_now gone.node.word c.args.pair.here.word gone.word gone.free, live_now gone.node.word c.args.pair.here.word gone.word gone.free)

pub returns : goal.returns
returns g c =
    let gone = c.requires.facts.at.2 in
    let after = c.retire.ensures.here gone.node gone.here in
    record {
      moves = λ env.
          rw (c.going.ensures, c.report-report.ensures)
          (retires_moves g.P.HasMeaning.meaning g.A.Allocator.charge g.P.Payload.always_shared g.P.HasMeaning.same_meaning c.args.stock.now c.retire.new.self c.args.pin _ env _ _ _ c.requires.kept
          c.args.pair.here.slot gone.node gone.here gone.lifetime (locked_now gone.node.word c.args.pair.here.word gone.word gone.free) after c.retire.ensures.others c.retire.ensures.root c.retire.ensures.seats c.retire.ensures.count c.retire.ensures.sizes c.retire.ensures.admitted
          (obsoletes g.P.Payload.always_shared g.P.HasMeaning.same_meaning _ c.args.stock.now.store.root c.args.pin _ _ _ c.requires.kept.placed _ c.args.pair c.args.left c.requires.facts after c.retire.ensures.others));
    }
