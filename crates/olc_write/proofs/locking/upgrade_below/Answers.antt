use Rattle.std.proofs.Common.{◌≡◌, sym, ap, ◌∙◌}
use Rattle.olc_state.proofs.Unlike.{false_true}
use Rattle.olc_write.proofs.Stocked.{locks_moves, same_moves}
use Rattle.olc_write.proofs.Upgraded.{below_fails, below_locks, large_next, makes_leaf}
use Rattle.olc_write.proofs.locking.upgrade_below.Goals as goal
use Rattle.olc_write.proofs.locking.upgrade_below.Goals.{in-GrowLeaf, in-GrowInner, in-Detach}

pub returns-after-large : goal.returns-after-large
returns-after-large g c =
    let known = c.requires.facts.at.0.here in
    let can = (c.lock.ensures.exactly known.node known.here).0 c.if-lock.true in
    let sets = c.lock.ensures.sets known.node known.here c.if-lock.true in
    let next : c.match-large.next ≡ large_next c.args.large c.args.pair = elim c.match-large.branch [
      | in-GrowLeaf w ↦ w.next-is ∙ sym (ap (λ z. large_next z c.args.pair) w.in-GrowLeaf.is)
      | in-GrowInner w ↦ w.next-is ∙ makes_leaf c.args.large c.args.pair w.in-GrowInner.is
      | in-Detach w ↦ w.next-is ∙ sym (ap (λ z. large_next z c.args.pair) w.in-Detach.is)
    ] in
    record {
      moves = λ env e.
          rw (c.going.ensures, c.report.ensures, next)
          (locks_moves g.P.HasMeaning.meaning g.A.Allocator.charge g.P.Payload.always_shared g.P.HasMeaning.same_meaning c.args.stock.now _ c.args.pin _ env _ _ _ c.requires.kept
          c.args.pair.here known.node known.here known can.0 sets c.lock.ensures.sizes c.lock.ensures.lives
          (below_locks g.P.Payload.always_shared g.P.HasMeaning.same_meaning _ c.args.stock.now.store.root c.args.pin _ _ _ c.requires.kept.placed c.args.pair c.args.large c.requires.facts known.node known.here _ can.0 (e ∙ can.1) sets.here sets.others));
    }

pub returns-else-lock : goal.returns-else-lock
returns-else-lock g c =
    let known = c.requires.facts.at.0.here in
    record {
      moves = λ env e.
          rw (c.going-else-lock.ensures, c.report-report.ensures)
          (same_moves g.P.HasMeaning.meaning g.A.Allocator.charge g.P.Payload.always_shared g.P.HasMeaning.same_meaning c.args.stock.now _ c.args.pin _ env _ _ _ c.requires.kept (c.lock.ensures.rest c.if-lock.false)
          (below_fails g.P.Payload.always_shared g.P.HasMeaning.same_meaning _ c.args.stock.now.store.root c.args.pin _ _ _ c.requires.kept.placed c.args.pair c.args.large c.requires.facts known.node known.here
          (λ may whole. false_true (sym c.if-lock.false ∙ (c.lock.ensures.exactly known.node known.here).1 (may, sym e ∙ whole)))));
    }
