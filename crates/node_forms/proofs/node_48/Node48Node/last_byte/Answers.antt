use Rattle.std.proofs.Common.{rules, ◌≡◌, length}
use Rattle.node_forms.proofs.LastLaws.{last_by_index}
use Rattle.node_forms.proofs.node_48.Node48Node.last_byte.Goals as goal

pub returns : goal.returns
returns g c =
    let n : c.len.result ≡ length c.self.inside.children.items = search rules in
    rw (← c.self.view_is) (last_by_index c.self.inside.index.value _ _ c.self.invariant.0 c.deref.ensures n c.args.to c.requires
    c.last_placed.result c.last_placed.ensures.order c.last_placed.ensures.here c.last_placed.ensures.free c.last_placed.ensures.none)
