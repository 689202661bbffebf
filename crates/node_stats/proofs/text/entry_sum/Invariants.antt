use Rattle.std.proofs.Common.{◌≡◌, ◌≤◌, ◌*◌, sum_by, take}
use Rattle.node_stats.specs.LevelCounts.{entry_count}
use Rattle.node_stats.proofs.text.entry_sum.Given as goal

abbrev pub invariant-loop-level : goal.invariant-loop-level
invariant-loop-level l = record {
  value : l.total ≡ sum_by (entry_count l.form) (take l.level-index l.levels);
  bound : l.total ≤ 18446744073709551615 * l.level-index;
}
