use Rattle.node_base.specs.inner.Places.{in_cell}
use Rattle.node_forms.proofs.LastLaws.{last_under}
use Rattle.node_forms.proofs.node_256.Node256Node.last_byte.Goals as goal

pub returns : goal.returns
returns g c = rw (← c.self.view_is) (last_under (in_cell c.self.inside.places) c.args.to c.requires c.last.result c.last.ensures.order c.last.ensures.here c.last.ensures.free c.last.ensures.none)
