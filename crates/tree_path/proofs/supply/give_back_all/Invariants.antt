use Rattle.std.proofs.Common.{◌≡◌, ◌*◌, ◌-◌}
use Rattle.node_table.specs.Charge.{add_charge, Covers}
use Rattle.node_base.specs.Form.{stated_size}
use Rattle.tree_path.proofs.supply.give_back_all.Given as goal

abbrev pub invariant-loop : goal.invariant-loop
invariant-loop g l =
    Covers (g.A.Allocator.charge l.budget) ((l.nodes - l.counter) * stated_size l.form)
    × (g.A.Allocator.charge l.fn.budget ≡ add_charge (g.A.Allocator.charge l.budget) (l.counter * stated_size l.form))
