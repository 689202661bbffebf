use Rattle.std.proofs.Common.{ℕ, refl, subst, ◌∙◌}
use Rattle.spec_olc.specs.Calls.{bytes_of}
use Rattle.olc_write.proofs.Steps.{ByteIn}
use Rattle.olc_tidy.proofs.Stores.{copy_there, may_put, node_there, over_there, puts_below, puts_smaller}
use Rattle.olc_tidy.proofs.putting.put_smaller.Goals as goal

pub byte_below-byte-requires : goal.byte_below-byte-requires
byte_below-byte-requires g c = over_there g.P.HasMeaning.meaning g.A.Allocator.charge g.P.Payload.always_shared g.P.HasMeaning.same_meaning c.args.stock.now c.args.pin c.args.task.now c.args.cleanup c.args.pair c.requires.kept c.args.copy c.requires.facts

pub publish-requires : goal.publish-requires
publish-requires g c = record { at = copy_there g.P.HasMeaning.meaning g.A.Allocator.charge g.P.Payload.always_shared g.P.HasMeaning.same_meaning c.args.stock.now c.args.pin c.args.task.now c.args.cleanup c.args.pair c.requires.kept c.args.copy c.requires.facts }

pub put_child-requires : goal.put_child-requires
put_child-requires g c = record { at = may_put g.P.HasMeaning.meaning g.A.Allocator.charge g.P.Payload.always_shared g.P.HasMeaning.same_meaning c.args.stock.now c.args.pin c.args.task.now c.args.cleanup c.args.pair c.requires.kept c.args.copy c.requires.facts c.publish.new.self c.publish.ensures.sets c.byte_below-byte.result (subst (λ (k : ℕ). ByteIn g.P.HasMeaning.meaning c.args.stock.now.store c.args.pair.above.slot (bytes_of k) c.byte_below-byte.result) c.key.ensures c.byte_below-byte.ensures.byte) }

pub detach-requires : goal.detach-requires
detach-requires g c = record {
  at = node_there g.P.HasMeaning.meaning g.A.Allocator.charge g.P.Payload.always_shared g.P.HasMeaning.same_meaning c.args.stock.now c.args.pin c.args.task.now c.args.cleanup c.args.pair c.requires.kept c.args.copy c.requires.facts c.publish.new.self c.publish.ensures.sets c.put_child.new.self
      (puts_below g.P.HasMeaning.meaning g.A.Allocator.charge g.P.Payload.always_shared g.P.HasMeaning.same_meaning c.args.stock.now c.args.pin c.args.task.now c.args.cleanup c.args.pair c.requires.kept c.args.copy c.requires.facts c.publish.new.self c.publish.ensures.sets c.put_child.new.self c.byte_below-byte.result (subst (λ (k : ℕ). ByteIn g.P.HasMeaning.meaning c.args.stock.now.store c.args.pair.above.slot (bytes_of k) c.byte_below-byte.result) c.key.ensures c.byte_below-byte.ensures.byte) c.put_child.ensures.sets);
}

pub returns : goal.returns
returns g c = record {
  moves = λ env.
      rw (c.going.ensures, c.report-report.ensures)
      (puts_smaller g.P.HasMeaning.meaning g.A.Allocator.charge g.P.Payload.always_shared g.P.HasMeaning.same_meaning c.args.stock.now c.args.pin c.args.task.now c.args.cleanup c.args.pair c.requires.kept c.args.copy c.requires.facts c.publish.new.self c.publish.ensures.sets c.put_child.new.self c.detach.new.self
      (puts_below g.P.HasMeaning.meaning g.A.Allocator.charge g.P.Payload.always_shared g.P.HasMeaning.same_meaning c.args.stock.now c.args.pin c.args.task.now c.args.cleanup c.args.pair c.requires.kept c.args.copy c.requires.facts c.publish.new.self c.publish.ensures.sets c.put_child.new.self c.byte_below-byte.result (subst (λ (k : ℕ). ByteIn g.P.HasMeaning.meaning c.args.stock.now.store c.args.pair.above.slot (bytes_of k) c.byte_below-byte.result) c.key.ensures c.byte_below-byte.ensures.byte) c.put_child.ensures.sets)
      c.detach.ensures.sets c.args.stock.now env
      refl (c.detach.ensures.lives ∙ (c.put_child.ensures.lives ∙ c.publish.ensures.lives)) (c.detach.ensures.sizes ∙ (c.put_child.ensures.sizes ∙ c.publish.ensures.sizes)) refl c.byte_below-byte.ensures.within);
}
