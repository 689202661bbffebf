use Rattle.std.proofs.Common.{◌≡◌, ◌+◌, ◌-◌, ◌∙◌, ap, sym, arith}
use Rattle.spec_map.specs.Map.{between}
use Rattle.spec_map.proofs.RangeLaws.{between-crossed}
use Rattle.node_table.proofs.kinds.children_of.Goals as goal

pub returns-then-from-to : goal.returns-then-from-to
returns-then-from-to g c = sym (between-crossed c.args.from c.args.to (g.H.Head.children c.args.head.now c.args.row.now) c.if-from-to.true)

pub returns : goal.returns
returns g c =
    let last : c.args.to - 1 + 1 ≡ c.args.to = omega (arith, c.if-from-to.false) in
    c.get_children.ensures.children ∙ ap (λ e. between (g.H.Head.children c.args.head.now c.args.row.now) c.args.from e) last
