use Rattle.std.proofs.Common.{arith, ◌≡◌, length, sym, ◌∙◌}
use Rattle.node_base.specs.inner.Few.{listed}
use Rattle.node_base.specs.inner.Sorted.{pairs}
use Rattle.node_forms.proofs.SortedLaws.{length-sorted}
use Rattle.node_forms.proofs.head_4.Head4Head.base.Goals as goal

pub returns-clause-count : goal.returns-clause-count
returns-clause-count g c = (c.requires.0.counted ∙ sym (length-sorted c.requires.0))

pub returns-clause-within : goal.returns-clause-within
returns-clause-within g c =
    let m : length (pairs c.args.self.now.keys (listed c.args._row.now)) ≡ length (listed c.args._row.now) = (length-sorted c.requires.0) in
    omega (arith, m, c.requires.0.within)
