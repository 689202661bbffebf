use Rattle.olc_write.proofs.Stocked.{frees_moves}
use Rattle.olc_tidy.proofs.Upgrades.{below_unlocks}
use Rattle.olc_tidy.proofs.upgrading.unlock_below.Goals as goal

pub returns : goal.returns
returns g c =
    let held = c.requires.facts.at.0.held.here in
    let sets = c.unlock_node.ensures.sets held.node held.linked.here in
    record {
      moves = λ env.
          rw (c.going.ensures, c.report-report.ensures)
          (frees_moves g.P.HasMeaning.meaning g.A.Allocator.charge g.P.Payload.always_shared g.P.HasMeaning.same_meaning c.args.stock.now _ c.args.pin _ env _ _ _ c.requires.kept
          c.args.pair.here held sets c.unlock_node.ensures.sizes c.unlock_node.ensures.lives
          (below_unlocks g.P.Payload.always_shared g.P.HasMeaning.same_meaning _ c.args.stock.now.store.root c.args.pin _ _ _ c.requires.kept.placed c.args.cleanup c.args.pair c.requires.facts _ sets.here sets.others));
    }
