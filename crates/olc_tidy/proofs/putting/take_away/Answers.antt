use Rattle.std.proofs.Common.{ℕ, refl, subst, ◌∙◌}
use Rattle.spec_olc.specs.Calls.{bytes_of}
use Rattle.olc_write.proofs.Steps.{ByteIn}
use Rattle.olc_tidy.proofs.Stores.{above_still, above_there, child_there, here_there, takes_away}
use Rattle.olc_tidy.proofs.putting.take_away.Goals as goal

pub byte_below-byte-requires : goal.byte_below-byte-requires
byte_below-byte-requires g c = above_there g.P.HasMeaning.meaning g.A.Allocator.charge g.P.Payload.always_shared g.P.HasMeaning.same_meaning c.args.stock.now c.args.pin c.args.task.now c.args.cleanup c.args.pair c.requires.kept c.requires.facts

pub take_child-requires : goal.take_child-requires
take_child-requires g c = record { at = child_there g.P.HasMeaning.meaning g.A.Allocator.charge g.P.Payload.always_shared g.P.HasMeaning.same_meaning c.args.stock.now c.args.pin c.args.task.now c.args.cleanup c.args.pair c.requires.kept c.requires.facts c.byte_below-byte.result (subst (λ (k : ℕ). ByteIn g.P.HasMeaning.meaning c.args.stock.now.store c.args.pair.above.slot (bytes_of k) c.byte_below-byte.result) c.key.ensures c.byte_below-byte.ensures.byte) }

pub detach-requires : goal.detach-requires
detach-requires g c = record { at = here_there g.P.HasMeaning.meaning g.A.Allocator.charge g.P.Payload.always_shared g.P.HasMeaning.same_meaning c.args.stock.now c.args.pin c.args.task.now c.args.cleanup c.args.pair c.requires.kept c.requires.facts c.take_child.new.self c.byte_below-byte.result c.take_child.ensures.sets }

pub left_again-left-requires : goal.left_again-left-requires
left_again-left-requires g c = above_still g.P.HasMeaning.meaning g.A.Allocator.charge g.P.Payload.always_shared g.P.HasMeaning.same_meaning c.args.stock.now c.args.pin c.args.task.now c.args.cleanup c.args.pair c.requires.kept c.requires.facts c.take_child.new.self c.byte_below-byte.result c.take_child.ensures.sets c.detach.new.self c.detach.ensures.sets

pub returns : goal.returns
returns g c = record {
  moves = λ env.
      rw (c.going.ensures, c.report-report.ensures)
      (takes_away g.P.HasMeaning.meaning g.A.Allocator.charge g.P.Payload.always_shared g.P.HasMeaning.same_meaning c.args.stock.now c.args.pin c.args.task.now c.args.cleanup c.args.pair c.requires.kept c.requires.facts c.take_child.new.self c.byte_below-byte.result c.take_child.ensures.sets c.detach.new.self c.detach.ensures.sets c.args.stock.now (subst (λ (k : ℕ). ByteIn g.P.HasMeaning.meaning c.args.stock.now.store c.args.pair.above.slot (bytes_of k) c.byte_below-byte.result) c.key.ensures c.byte_below-byte.ensures.byte) env
      refl (c.detach.ensures.lives ∙ c.take_child.ensures.lives) (c.detach.ensures.sizes ∙ c.take_child.ensures.sizes) refl c.byte_below-byte.ensures.within c.left_again-left.result c.left_again-left.ensures);
}
