use Rattle.live_nodes.proofs.Begun.{root_learns}
use Rattle.live_reads.proofs.Roots.{same_seen}
use Rattle.live_reads.proofs.path.root.Goals as goal

pub root_by-requires-clause-learns : goal.root_by-requires-clause-learns
root_by-requires-clause-learns c = root_learns c.args.seat.now.id c.args.seat.now.view.client

pub returns : goal.returns
returns c =
    let t = c.root_by.ensures in
    record { book = t.book; id = t.id; keeps = t.keeps; seen = same_seen c.args.seat.now.view c.root_by.new.seat.view c.root_by.result t.root; named = t.named }
