use Rattle.live_nodes.proofs.Begun.{begins_there}
use Rattle.live_reads.proofs.path.root_begun.Goals as goal

pub root_by-requires-clause-learns : goal.root_by-requires-clause-learns
root_by-requires-clause-learns c = begins_there c.args.seat.now.id c.args.seat.now.view.client
