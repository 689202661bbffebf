use Rattle.olc_state.specs.inner.Meant.{meant_table}
use Rattle.olc_write.proofs.MakingCopies.{kinds_here}
use Rattle.olc_tidy.proofs.SmallerMakes.{few_here, smaller_moves, smaller_refused}
use Rattle.olc_tidy.proofs.copying.make_smaller.Goals as goal

pub smaller_copy-built-requires-clause-kinds : goal.smaller_copy-built-requires-clause-kinds
smaller_copy-built-requires-clause-kinds g c =
    let held = c.requires.facts.at.0.held.here in
    kinds_here g.P.HasMeaning.meaning c.node_at.result.now.node (meant_table g.P.HasMeaning.meaning c.args.stock.now.store) c.args.stock.now.store.root c.args.pair.here.slot _ _ held.node c.requires.kept.placed held.linked c.node_at.ensures

pub smaller_copy-built-requires-clause-few : goal.smaller_copy-built-requires-clause-few
smaller_copy-built-requires-clause-few g c =
    let held = c.requires.facts.at.0.held.here in
    few_here g.P.HasMeaning.meaning c.node_at.result.now.node (meant_table g.P.HasMeaning.meaning c.args.stock.now.store) c.args.stock.now.store.root c.args.pair.here.slot _ _ held.node c.requires.kept.placed held.linked c.node_at.ensures
    c.requires.facts.at.1

pub returns-in-Some : goal.returns-in-Some
returns-in-Some g c = record {
  moves = λ env. rw (c.going.ensures, c.made.ensures)
      (smaller_moves g.P.HasMeaning.meaning g.A.Allocator.charge g.P.Payload.always_shared g.P.HasMeaning.same_meaning c.args.stock.now c.make_node.new.stock c.args.pin c.args.task.now env c.requires.kept c.args.cleanup c.args.pair c.requires.facts
      c.in-Some.copy _ _ c.node_at.result.now.node c.node_at.ensures c.smaller_copy-built.result c.in-Some.ensures.some c.smaller_copy-built.ensures);
}

pub returns-in-None : goal.returns-in-None
returns-in-None g c = record {
  moves = λ env. rw (c.going-in-None.ensures, c.made-in-None.ensures)
      (smaller_refused g.P.HasMeaning.meaning g.A.Allocator.charge g.P.Payload.always_shared g.P.HasMeaning.same_meaning c.args.stock.now c.make_node.new.stock c.args.pin c.args.task.now env c.requires.kept c.args.cleanup c.args.pair c.requires.facts c.in-None.ensures.none);
}
