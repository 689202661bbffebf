use Rattle.std.proofs.Common.{IfSome, ℕ, subst}
use Rattle.spec_olc.specs.Calls.{bytes_of}
use Rattle.olc_write.specs.inner.Makings.{IsBetween}
use Rattle.olc_write.proofs.MakingCopies.{middle_moves}
use Rattle.olc_write.proofs.MakingTurns.{middle_refused}
use Rattle.olc_write.proofs.making.make_middle.Goals as goal

pub returns-in-Some : goal.returns-in-Some
returns-in-Some g c = record {
  moves = λ env. rw c.makes.ensures
      (middle_moves g.P.HasMeaning.meaning g.A.Allocator.charge g.P.Payload.always_shared g.P.HasMeaning.same_meaning c.args.stock.now c.make_node.new.stock c.args.pin c.args.task.now env c.requires.kept
      c.args.pair c.in-Some.middle _ _ c.node_at.result.now.node c.node_at.ensures c.middle_for-built.result c.in-Some.ensures.some c.args.leaf c.requires.facts
      (subst (λ (key : ℕ). IfSome c.middle_for-built.result (λ b. IsBetween g.P.HasMeaning.meaning c.node_at.result.now.node b (bytes_of key) c.args.pair.here.slot c.args.leaf)) c.key.ensures c.middle_for-built.ensures));
}

pub returns-in-None : goal.returns-in-None
returns-in-None g c = record {
  moves = λ env. rw (c.gives_up.ensures.task, c.gives_up.ensures.event)
      (middle_refused g.P.HasMeaning.meaning g.A.Allocator.charge g.P.Payload.always_shared g.P.HasMeaning.same_meaning c.args.stock.now c.make_node.new.stock c.args.pin c.args.task.now env c.requires.kept c.args.pair c.args.leaf c.requires.facts c.in-None.ensures.none);
}
