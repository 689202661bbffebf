use Rattle.std.proofs.Common.{rules, ◌≡◌, ◌<◌, ◌^◌, ap, subst, ◌∙◌}
use Rattle.node_table.specs.Table.{pairs_at}
use Rattle.node_stats.specs.LevelCounts.{capped}
use Rattle.olc_state.specs.inner.Shown.{state_of}
use Rattle.olc_state.specs.inner.Walks.{meant_nodes}
use Rattle.olc_state.proofs.States.{shows}
use Rattle.olc_state.proofs.Walked.{the_content}
use Rattle.tree_walk.proofs.VisitedLaws.{whole_sums}
use Rattle.olc_machine.specs.Shape.{reachable}
use Rattle.olc_machine.specs.inner.Inside.{meant_in}
use Rattle.olc_machine.proofs.Counted.{entries_add_up}
use Rattle.olc_machine.proofs.inner.Inner.stats.Goals as goal
use Rattle.std.proofs.Common.{length}

pub returns-clause-levels : goal.returns-clause-levels
returns-clause-levels g c =
    let w = meant_in g.P.HasMeaning.meaning g.A.Allocator.charge c.args.self.now in
    rw (c.add_pairs.ensures.levels) (c.in_ok-stats.ensures.levels (state_of w) (shows w))

pub returns-clause-entries : goal.returns-clause-entries
returns-clause-entries g c stays few =
    let meaning = g.P.HasMeaning.meaning in
    let store = c.args.self.now.stock.store in
    let s = state_of (meant_in meaning g.A.Allocator.charge c.args.self.now) in
    let shown_by = shows (meant_in meaning g.A.Allocator.charge c.args.self.now) in
    let m = pairs_at (meant_nodes meaning store.nodes.slots) 8 store.root in
    let kept : c.add_pairs.new.self.kv_pairs ≡ capped c.args.self.now.stock.entries = search rules in
    let counted = c.requires.sound.counted m (the_content meaning store.nodes.slots store.pins.slots store.root c.requires.sound.placed s shown_by) in
    whole_sums (length m) c.add_pairs.new.self.kv_pairs (reachable s) c.add_pairs.new.self.levels (returns-clause-levels g c)
    (entries_add_up meaning store.nodes.slots store.pins.slots store.root c.requires.sound.placed s shown_by)
    (kept ∙ ap capped counted) stays (subst (λ k. k < 2 ^ 64) counted few)
