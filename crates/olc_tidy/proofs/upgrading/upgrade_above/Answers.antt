use Rattle.std.proofs.Common.{sym, ◌∙◌}
use Rattle.olc_state.proofs.Unlike.{false_true}
use Rattle.olc_write.proofs.Stocked.{locks_moves, same_moves}
use Rattle.olc_tidy.proofs.Upgrades.{above_fails, above_locks}
use Rattle.olc_tidy.proofs.upgrading.upgrade_above.Goals as goal

pub returns-then-lock : goal.returns-then-lock
returns-then-lock g c =
    let known = c.requires.facts.at.2 in
    let can = (c.lock.ensures.exactly known.node known.here).0 c.if-lock.true in
    let sets = c.lock.ensures.sets known.node known.here c.if-lock.true in
    record {
      moves = λ env e.
          rw (c.going.ensures, c.report-report.ensures)
          (locks_moves g.P.HasMeaning.meaning g.A.Allocator.charge g.P.Payload.always_shared g.P.HasMeaning.same_meaning c.args.stock.now _ c.args.pin _ env _ _ _ c.requires.kept
          c.args.pair.above known.node known.here known can.0 sets c.lock.ensures.sizes c.lock.ensures.lives
          (above_locks g.P.Payload.always_shared g.P.HasMeaning.same_meaning _ c.args.stock.now.store.root c.args.pin _ _ _ c.requires.kept.placed c.args.cleanup c.args.pair c.requires.facts known.node known.here _ can.0 (e ∙ can.1) sets.here sets.others));
    }

pub returns-else-lock : goal.returns-else-lock
returns-else-lock g c =
    let known = c.requires.facts.at.2 in
    record {
      moves = λ env e.
          rw (c.forgets.ensures.task, c.forgets.ensures.event, c.report.ensures)
          (same_moves g.P.HasMeaning.meaning g.A.Allocator.charge g.P.Payload.always_shared g.P.HasMeaning.same_meaning c.args.stock.now _ c.args.pin _ env _ _ _ c.requires.kept (c.lock.ensures.rest c.if-lock.false)
          (above_fails g.P.Payload.always_shared g.P.HasMeaning.same_meaning _ c.args.stock.now.store.root c.args.pin _ _ _ c.requires.kept.placed c.args.cleanup c.args.pair c.requires.facts known.node known.here
          (λ may whole. false_true (sym c.if-lock.false ∙ (c.lock.ensures.exactly known.node known.here).1 (may, sym e ∙ whole)))));
    }
