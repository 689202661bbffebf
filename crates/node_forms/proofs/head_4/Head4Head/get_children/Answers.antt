use Rattle.std.proofs.Common.{◌≡◌, ◌+◌, length, ◌∙◌, drop, ap}
use Rattle.node_base.specs.inner.Few.{listed}
use Rattle.node_base.specs.inner.Sorted.{pairs}
use Rattle.node_forms.proofs.SortedLaws.{bytes_between, part_none}
use Rattle.node_forms.proofs.head_4.Head4Head.get_children.Goals as goal
use Rattle.node_forms.proofs.head_4.Head4Head.get_children.Goals.{then-low-high, else-low-high}

pub returns-clause-children : goal.returns-clause-children
returns-clause-children g c =
    let n : c.value_count-count.result ≡ length (listed c.args.row.now) = c.value_count-count.ensures ∙ c.requires.0.counted in
    elim c.if-low-high.branch [
      | then-low-high w ↦
          ap (λ p. pairs p.now (drop c.place-low.result (listed c.args.row.now))) w.keys-is
          ∙ (bytes_between c.requires.0 c.args.start (c.args.end + 1) n c.place-low.ensures.at c.place-high.ensures.at)
      | else-low-high w ↦
          ap (λ p. pairs p.now (drop c.place-low.result (listed c.args.row.now))) w.keys-is
          ∙ (part_none c.requires.0 c.args.start (c.args.end + 1) n c.place-low.ensures.at c.place-high.ensures.at w.if-low-high.false)
    ]
