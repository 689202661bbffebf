use Rattle.std.proofs.Common.{take}
use Rattle.std.specs.Fmt.{HasWritten, IsPlainFormatter}
use Rattle.node_stats.specs.StatsText.{level_lines_from}
use Rattle.node_stats.proofs.text.NodeStatsDisplay.fmt.Given as goal

abbrev pub invariant-loop-number : goal.invariant-loop-number
invariant-loop-number g l =
    IsPlainFormatter l.initial.f → HasWritten g.W.Write.write_str_gives l.initial.f (level_lines_from 0 (take l.number l.levels)) l.f
