use Rattle.std.proofs.Common.{◌≡◌, ◌++◌, take, drop}
use Rattle.congee_table.proofs.GroupLaws.{ids}
use Rattle.congee_table.proofs.numbers.keep_low.Given as goal

abbrev pub invariant-loop-pair : goal.invariant-loop-pair
invariant-loop-pair l = l.pairs ≡ ids (take l.pair-index l.fn.pairs) ++ drop l.pair-index l.fn.pairs
