use Rattle.std.proofs.Common.{ℕ, refl, subst, ◌∙◌}
use Rattle.spec_olc.specs.Calls.{bytes_of}
use Rattle.olc_write.proofs.DetachedSteps.{above_still, detaches, leaf_still, leaf_there, pair_counted}
use Rattle.olc_write.proofs.Steps.{ByteIn}
use Rattle.olc_write.proofs.detaching.detach.Goals as goal

pub take_child-requires-2 : goal.take_child-requires-2
take_child-requires-2 g c = record {
  at = leaf_there g.P.HasMeaning.meaning g.A.Allocator.charge g.P.Payload.always_shared g.P.HasMeaning.same_meaning c.args.stock.now c.args.pin c.args.task.now c.args.pair c.requires.kept c.requires.facts
      c.take_child.new.self c.byte_below-byte.result c.byte_below-last.result c.take_child.ensures.sets
      (subst (λ (k : ℕ). ByteIn g.P.HasMeaning.meaning c.args.stock.now.store c.args.pair.here.slot (bytes_of k) c.byte_below-last.result) c.key-key.ensures c.byte_below-last.ensures.byte);
}

pub detach-requires : goal.detach-requires
detach-requires g c = record {
  at = leaf_still g.P.HasMeaning.meaning g.A.Allocator.charge g.P.Payload.always_shared g.P.HasMeaning.same_meaning c.args.stock.now c.args.pin c.args.task.now c.args.pair c.requires.kept c.requires.facts
      c.take_child.new.self c.take_child-2.new.self c.byte_below-byte.result c.byte_below-last.result c.take_child.ensures.sets c.take_child-2.ensures.sets;
}

pub overflow_sub-stock : goal.overflow_sub-stock
overflow_sub-stock g c =
    pair_counted g.P.HasMeaning.meaning g.A.Allocator.charge g.P.Payload.always_shared g.P.HasMeaning.same_meaning c.args.stock.now c.args.pin c.args.task.now c.args.pair c.requires.kept c.requires.facts c.requires.counted

pub left_at-left-requires : goal.left_at-left-requires
left_at-left-requires g c =
    let facts = c.requires.facts in
    above_still g.P.HasMeaning.meaning g.A.Allocator.charge g.P.Payload.always_shared g.P.HasMeaning.same_meaning c.args.stock.now c.args.pin c.args.task.now c.args.pair c.requires.kept facts
    c.take_child.new.self c.take_child-2.new.self c.detach.new.self c.byte_below-byte.result c.byte_below-last.result c.take_child.ensures.sets c.take_child-2.ensures.sets c.detach.ensures.sets

pub returns : goal.returns
returns g c = record {
  moves = λ env.
      rw (c.changed.ensures.task, c.changed.ensures.event, c.report-report.ensures, c.payload_of-before.ensures)
      (detaches g.P.HasMeaning.meaning g.A.Allocator.charge g.P.Payload.always_shared g.P.HasMeaning.same_meaning c.args.stock.now c.args.pin c.args.task.now c.args.pair c.requires.kept c.requires.facts _ env
      refl (c.detach.ensures.lives ∙ (c.take_child-2.ensures.lives ∙ c.take_child.ensures.lives)) (c.detach.ensures.sizes ∙ (c.take_child-2.ensures.sizes ∙ c.take_child.ensures.sizes)) refl
      c.byte_below-byte.ensures.within c.take_child.new.self c.take_child-2.new.self (record {
        byte = c.byte_below-byte.result;
        is = subst (λ (k : ℕ). ByteIn g.P.HasMeaning.meaning c.args.stock.now.store c.args.pair.above.slot (bytes_of k) c.byte_below-byte.result) c.key-key.ensures c.byte_below-byte.ensures.byte;
        last = c.byte_below-last.result;
        also = subst (λ (k : ℕ). ByteIn g.P.HasMeaning.meaning c.args.stock.now.store c.args.pair.here.slot (bytes_of k) c.byte_below-last.result) c.key-key.ensures c.byte_below-last.ensures.byte;
        first = c.take_child.ensures.sets;
        second = c.take_child-2.ensures.sets;
        detaches = c.detach.ensures.sets;
      }) c.left_at-left.result c.left_at-left.ensures c.take_child-2.result c.take_child-2.ensures.before);
}
