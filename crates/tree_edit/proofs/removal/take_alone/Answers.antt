use Rattle.std.proofs.Common.{get_or, map}
use Rattle.tree_links.specs.SeenTable.{name_of}
use Rattle.tree_edit.proofs.RemovalLaws.{pair_counted, pair_taken}
use Rattle.tree_edit.proofs.removal.take_alone.Goals as goal

pub give_back-requires : goal.give_back-requires
give_back-requires g c =
    let r = c.requires in
    pair_counted c.args.nodes.now.table (name_of (get_or c.args.trail.now 0 0)) c.args.key.now c.args.spot.now c.args.byte r.at_pair r.spot r.pair (map name_of c.args.trail.now) c.args.supply.now.forms r.whole

pub tidy-requires-clause-begins : goal.tidy-requires-clause-begins
tidy-requires-clause-begins g c =
    let r = c.requires in (
      c.args.nodes.now.table,
      c.args.supply.now.forms,
      r.whole,
      pair_taken c.args.nodes.now.table (name_of (get_or c.args.trail.now 0 0)) c.args.key.now c.args.spot.now c.args.byte r.at_pair r.spot r.pair c.take_pair-before.new.self.table c.args.trail.now c.take_pair-before.result c.args.supply.now.forms c.give_back.new.self.forms r.whole c.take_pair-before.ensures.loses c.give_back.ensures.forms,
    )

pub returns-clause-taken : goal.returns-clause-taken
returns-clause-taken g c =
    let r = c.requires in
    c.tidy.ensures.ends c.args.nodes.now.table c.args.supply.now.forms r.whole
    (pair_taken c.args.nodes.now.table (name_of (get_or c.args.trail.now 0 0)) c.args.key.now c.args.spot.now c.args.byte r.at_pair r.spot r.pair c.take_pair-before.new.self.table c.args.trail.now c.take_pair-before.result c.args.supply.now.forms c.give_back.new.self.forms r.whole c.take_pair-before.ensures.loses c.give_back.ensures.forms)
