use Rattle.std.proofs.Common.{arith, ◌∙◌, sym}
use Rattle.node_forms.proofs.SortedLaws.{length-sorted}
use Rattle.node_rows.proofs.row_head.RowHead.base_of.Goals as goal

pub returns-clause-count : goal.returns-clause-count
returns-clause-count g c = c.requires.0.counted ∙ sym (length-sorted c.requires.0)

pub returns-clause-within : goal.returns-clause-within
returns-clause-within g c = omega (arith, length-sorted c.requires.0, c.requires.0.within)
