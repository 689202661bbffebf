use Rattle.std.proofs.Common.{refl, true, sym, ap, ◌∙◌, take}
use Rattle.std.proofs.Output.{has_written_of_eq, has_written_append}
use Rattle.node_stats.proofs.StatsTextLaws.{level_lines_take_more, stats_text_is}
use Rattle.node_stats.proofs.text.NodeStatsDisplay.fmt.Goals as goal

pub loop-number-preserved : goal.loop-number-preserved
loop-number-preserved g c p =
    let before = c.loop-number.invariant p in
    has_written_of_eq _ _ _ _ _ (sym (level_lines_take_more _ _ _ c.loop-number-test.true))
    (has_written_append _ _ _ _ _ _ before (c.in_ok-write.ensures.writes before.plain (refl {a = true})))

pub returns-clause-writes : goal.returns-clause-writes
returns-clause-writes g c p ok =
    let before = c.loop-number.invariant p in
    let sums = c.of-totals.ensures in
    has_written_of_eq _ _ _ _ _
    (stats_text_is c.args.self.now _ _ _ _ _ _ _ _ (c.shown_levels-levels.ensures.value ∙ ap (take 8) c.as_slice.ensures)
    c.loop-number-test.false sums.nodes sums.entries sums.load sums.full_load sums.bytes sums.pairs)
    (has_written_append _ _ _ _ _ _ before (c.write-2.ensures.writes before.plain ok))
