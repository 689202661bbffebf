use Rattle.olc_write.proofs.MakingTurns.{leaf_moves, leaf_refused}
use Rattle.olc_write.proofs.making.make_leaf.Goals as goal

pub returns-in-Some : goal.returns-in-Some
returns-in-Some g c = record {
  moves = λ env. rw c.makes.ensures
      (leaf_moves g.P.HasMeaning.meaning g.A.Allocator.charge g.P.Payload.always_shared g.P.HasMeaning.same_meaning c.args.stock.now c.make_node.new.stock c.args.pin c.args.task.now env c.requires.kept c.args.spot c.in-Some.leaf c.leaf_for-built.result c.requires.facts c.leaf_for-built.ensures c.in-Some.ensures.some);
}

pub returns-in-None : goal.returns-in-None
returns-in-None g c = record {
  moves = λ env. rw (c.gives_up.ensures.task, c.gives_up.ensures.event)
      (leaf_refused g.P.HasMeaning.meaning g.A.Allocator.charge g.P.Payload.always_shared g.P.HasMeaning.same_meaning c.args.stock.now c.make_node.new.stock c.args.pin c.args.task.now env c.requires.kept c.args.spot c.requires.facts c.in-None.ensures.none);
}
