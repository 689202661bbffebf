use Rattle.std.proofs.Common.{get_or}
use Rattle.tree_links.specs.SeenTable.{name_of}
use Rattle.tree_edit.proofs.RemovalLaws.{leaf_at, leaf_taken}
use Rattle.tree_edit.proofs.removal.take_from_leaf.Goals as goal

pub take_payload-requires : goal.take_payload-requires
take_payload-requires g c =
    let r = c.requires in
    leaf_at c.args.nodes.now.table (name_of (get_or c.args.trail.now 0 0)) c.args.key.now c.args.spot.now c.args.byte r.at_leaf r.spot

pub returns-clause-taken : goal.returns-clause-taken
returns-clause-taken g c = λ some.
    let r = c.requires in
    c.settle.ensures.ends c.args.nodes.now.table
    (leaf_taken c.args.nodes.now.table (name_of (get_or c.args.trail.now 0 0)) c.args.key.now c.args.spot.now c.args.byte r.at_leaf r.spot c.take_payload.new.self.table c.args.trail.now c.in-Some.before c.args.supply.now.forms r.whole c.in-Some.ensures.takes)
