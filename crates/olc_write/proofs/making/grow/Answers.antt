use Rattle.olc_write.proofs.MakingCopies.{absent_here, copy_moves, full_here, grows, kind_here, kinds_here}
use Rattle.olc_write.proofs.MakingTurns.{copy_refused}
use Rattle.olc_state.specs.inner.Meant.{meant_table, meant_task}
use Rattle.olc_state.specs.inner.Tasks.{key_bytes}
use Rattle.olc_write.proofs.making.grow.Goals as goal

pub copy_for-built-requires-clause-kinds : goal.copy_for-built-requires-clause-kinds
copy_for-built-requires-clause-kinds g c =
    let held = c.requires.facts.at.0.held.here in
    kinds_here g.P.HasMeaning.meaning c.node_at.result.now.node (meant_table g.P.HasMeaning.meaning c.args.stock.now.store) c.args.stock.now.store.root c.args.pair.here.slot _ _ held.node c.requires.kept.placed held.linked c.node_at.ensures

pub copy_for-built-requires-clause-full : goal.copy_for-built-requires-clause-full
copy_for-built-requires-clause-full g c =
    let at = c.requires.facts.at.0 in
    full_here g.P.HasMeaning.meaning c.node_at.result.now.node (meant_table g.P.HasMeaning.meaning c.args.stock.now.store) c.args.stock.now.store.root c.args.pair.here.slot _ _ at.held.here.node c.requires.kept.placed at.held.here.linked c.node_at.ensures
    (grows at.held.here.node (key_bytes (meant_task g.P.HasMeaning.meaning c.args.task.now)) c.args.leaf at.work.is).full

pub copy_for-built-requires-clause-absent : goal.copy_for-built-requires-clause-absent
copy_for-built-requires-clause-absent g c =
    let at = c.requires.facts.at.0 in
    let k = key_bytes (meant_task g.P.HasMeaning.meaning c.args.task.now) in
    absent_here g.P.HasMeaning.meaning c.node_at.result.now.node (meant_table g.P.HasMeaning.meaning c.args.stock.now.store) c.args.stock.now.store.root c.args.pair.here.slot _ _ at.held.here.node c.requires.kept.placed at.held.here.linked c.node_at.ensures
    k (grows at.held.here.node k c.args.leaf at.work.is).none

pub copy_for-built-requires-clause-kind : goal.copy_for-built-requires-clause-kind
copy_for-built-requires-clause-kind g c =
    let at = c.requires.facts.at.0 in
    kind_here g.P.HasMeaning.meaning c.node_at.result.now.node (meant_table g.P.HasMeaning.meaning c.args.stock.now.store) c.args.stock.now.store.root c.args.pair.here.slot _ _ at.held.here.node c.requires.kept.placed at.held.here.linked c.node_at.ensures
    c.args.leaf (grows at.held.here.node (key_bytes (meant_task g.P.HasMeaning.meaning c.args.task.now)) c.args.leaf at.work.is).kind

pub returns-in-Some : goal.returns-in-Some
returns-in-Some g c = record {
  moves = λ env. rw c.makes.ensures
      (copy_moves g.P.HasMeaning.meaning g.A.Allocator.charge g.P.Payload.always_shared g.P.HasMeaning.same_meaning c.args.stock.now c.make_node.new.stock c.args.pin c.args.task.now env c.requires.kept
      c.args.pair c.in-Some.copy _ _ c.node_at.result.now.node c.node_at.ensures c.copy_for-built.result c.in-Some.ensures.some c.args.leaf c.requires.facts c.copy_for-built.ensures);
}

pub returns-in-None : goal.returns-in-None
returns-in-None g c = record {
  moves = λ env. rw (c.gives_up.ensures.task, c.gives_up.ensures.event)
      (copy_refused g.P.HasMeaning.meaning g.A.Allocator.charge g.P.Payload.always_shared g.P.HasMeaning.same_meaning c.args.stock.now c.make_node.new.stock c.args.pin c.args.task.now env c.requires.kept c.args.pair c.args.leaf c.requires.facts c.in-None.ensures.none);
}
