use Rattle.std.proofs.Common.{Option, Some, None, inl, inr, sym, subst, ap, ◌∙◌}
use Rattle.olc_state.specs.declared.cleanup.Cleanup.{Cleanup}
use Rattle.olc_state.specs.declared.tail.Tail.TheVariants.{Unlock}
use Rattle.olc_state.specs.inner.Stocks.{KnowsAt}
use Rattle.olc_state.proofs.Unlike.{false_true}
use Rattle.olc_write.proofs.Freed.{unlock_cleans, unlock_ends, unlock_restarts}
use Rattle.olc_write.proofs.Stocked.{frees_moves}
use Rattle.olc_write.proofs.Tailing.{moves_at}
use Rattle.olc_write.proofs.freeing.unlock.Goals as goal

pub returns-in-Some : goal.returns-in-Some
returns-in-Some g c =
    let facts = subst (λ (z : Option Cleanup). KnowsAt g.P.HasMeaning.meaning g.A.Allocator.charge g.P.Payload.always_shared g.P.HasMeaning.same_meaning c.args.stock.now c.args.pin c.args.task.now (Unlock c.args.spot z)) c.in-Some.is c.requires.facts in
    let held = facts.at.0 in
    let sets = c.unlock_node.ensures.sets held.node held.linked.here in
    record {
      moves = λ env.
          rw (c.forgets.ensures.task, c.forgets.ensures.event, c.report-report.ensures)
          (moves_at g.P.HasMeaning.meaning g.A.Allocator.charge g.P.Payload.always_shared g.P.HasMeaning.same_meaning c.args.stock.now _ c.args.pin c.args.task.now (Unlock c.args.spot c.args.left) (Unlock c.args.spot (Some c.in-Some.cleanup)) (ap (λ (z : Option Cleanup). Unlock c.args.spot z) c.in-Some.is) env _ _ _
          (frees_moves g.P.HasMeaning.meaning g.A.Allocator.charge g.P.Payload.always_shared g.P.HasMeaning.same_meaning c.args.stock.now _ c.args.pin _ env _ _ _ c.requires.kept c.args.spot held sets c.unlock_node.ensures.sizes c.unlock_node.ensures.lives
          (unlock_cleans g.P.Payload.always_shared g.P.HasMeaning.same_meaning _ c.args.stock.now.store.root c.args.pin _ _ _ c.requires.kept.placed _ c.args.spot c.in-Some.cleanup facts sets.here sets.others)));
    }

pub returns-then-is_open : goal.returns-then-is_open
returns-then-is_open g c =
    let facts = subst (λ (z : Option Cleanup). KnowsAt g.P.HasMeaning.meaning g.A.Allocator.charge g.P.Payload.always_shared g.P.HasMeaning.same_meaning c.args.stock.now c.args.pin c.args.task.now (Unlock c.args.spot z)) c.in-None.is c.requires.facts in
    let held = facts.at.0 in
    let sets = c.unlock_node.ensures.sets held.node held.linked.here in
    record {
      moves = λ env.
          rw (c.back.ensures.task, c.back.ensures.event, c.report-report.ensures)
          (moves_at g.P.HasMeaning.meaning g.A.Allocator.charge g.P.Payload.always_shared g.P.HasMeaning.same_meaning c.args.stock.now _ c.args.pin c.args.task.now (Unlock c.args.spot c.args.left) (Unlock c.args.spot None) (ap (λ (z : Option Cleanup). Unlock c.args.spot z) c.in-None.is) env _ _ _
          (frees_moves g.P.HasMeaning.meaning g.A.Allocator.charge g.P.Payload.always_shared g.P.HasMeaning.same_meaning c.args.stock.now _ c.args.pin _ env _ _ _ c.requires.kept c.args.spot held sets c.unlock_node.ensures.sizes c.unlock_node.ensures.lives
          (unlock_restarts g.P.Payload.always_shared g.P.HasMeaning.same_meaning _ c.args.stock.now.store.root c.args.pin _ _ _ c.requires.kept.placed _ c.args.spot facts sets.here sets.others
          (elim facts.at.1 [ inl opened ↦ opened | inr over ↦ absurd (over (c.is_open.ensures.0 c.if-is_open.true)) ]))));
    }

pub returns-else-is_open : goal.returns-else-is_open
returns-else-is_open g c =
    let facts = subst (λ (z : Option Cleanup). KnowsAt g.P.HasMeaning.meaning g.A.Allocator.charge g.P.Payload.always_shared g.P.HasMeaning.same_meaning c.args.stock.now c.args.pin c.args.task.now (Unlock c.args.spot z)) c.in-None.is c.requires.facts in
    let held = facts.at.0 in
    let sets = c.unlock_node.ensures.sets held.node held.linked.here in
    record {
      moves = λ env.
          rw (c.going.ensures, c.report-report.ensures)
          (moves_at g.P.HasMeaning.meaning g.A.Allocator.charge g.P.Payload.always_shared g.P.HasMeaning.same_meaning c.args.stock.now _ c.args.pin c.args.task.now (Unlock c.args.spot c.args.left) (Unlock c.args.spot None) (ap (λ (z : Option Cleanup). Unlock c.args.spot z) c.in-None.is) env _ _ _
          (frees_moves g.P.HasMeaning.meaning g.A.Allocator.charge g.P.Payload.always_shared g.P.HasMeaning.same_meaning c.args.stock.now _ c.args.pin _ env _ _ _ c.requires.kept c.args.spot held sets c.unlock_node.ensures.sizes c.unlock_node.ensures.lives
          (unlock_ends g.P.Payload.always_shared g.P.HasMeaning.same_meaning _ c.args.stock.now.store.root c.args.pin _ _ _ c.requires.kept.placed _ c.args.spot facts sets.here sets.others
          (λ undecided. false_true (sym c.if-is_open.false ∙ c.is_open.ensures.1 undecided)))));
    }
