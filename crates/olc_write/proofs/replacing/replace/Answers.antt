use Rattle.std.proofs.Common.{ℕ, refl, subst, ◌∙◌}
use Rattle.spec_olc.specs.Calls.{bytes_of}
use Rattle.olc_write.proofs.Steps.{ByteIn, copies_there, above_there, copy_may, here_there, replaces}
use Rattle.olc_write.proofs.replacing.replace.Goals as goal

pub byte_below-byte-requires : goal.byte_below-byte-requires
byte_below-byte-requires g c = above_there g.P.HasMeaning.meaning g.A.Allocator.charge g.P.Payload.always_shared g.P.HasMeaning.same_meaning c.args.stock.now c.args.pin c.args.task.now c.args.pair c.requires.kept c.args.copy c.args.leaf c.requires.facts

pub link_new-requires : goal.link_new-requires
link_new-requires g c = copies_there g.P.HasMeaning.meaning g.A.Allocator.charge g.P.Payload.always_shared g.P.HasMeaning.same_meaning c.args.stock.now c.args.pin c.args.task.now c.args.pair c.requires.kept c.args.copy c.args.leaf c.requires.facts

pub put_child-requires : goal.put_child-requires
put_child-requires g c = record {
  at = copy_may g.P.HasMeaning.meaning g.A.Allocator.charge g.P.Payload.always_shared g.P.HasMeaning.same_meaning c.args.stock.now c.args.pin c.args.task.now c.args.pair c.requires.kept c.args.copy c.args.leaf c.requires.facts
      c.link_new.new.store c.byte_below-byte.result c.link_new.ensures.others
      (subst (λ (k : ℕ). ByteIn g.P.HasMeaning.meaning c.args.stock.now.store c.args.pair.above.slot (bytes_of k) c.byte_below-byte.result) c.key.ensures c.byte_below-byte.ensures.byte);
}

pub detach-requires : goal.detach-requires
detach-requires g c = record {
  at = here_there g.P.HasMeaning.meaning g.A.Allocator.charge g.P.Payload.always_shared g.P.HasMeaning.same_meaning c.args.stock.now c.args.pin c.args.task.now c.args.pair c.requires.kept c.args.copy c.args.leaf c.requires.facts
      c.link_new.new.store c.put_child.new.self (record {
        byte = c.byte_below-byte.result;
        is = subst (λ (k : ℕ). ByteIn g.P.HasMeaning.meaning c.args.stock.now.store c.args.pair.above.slot (bytes_of k) c.byte_below-byte.result) c.key.ensures c.byte_below-byte.ensures.byte;
        links = c.link_new.ensures.linked;
        others = c.link_new.ensures.others;
        root = c.link_new.ensures.root;
        puts = c.put_child.ensures.sets;
      });
}

pub returns : goal.returns
returns g c = record {
  moves = λ env.
      rw (c.changed.ensures.task, c.changed.ensures.event, c.report-report.ensures)
      (replaces g.P.HasMeaning.meaning g.A.Allocator.charge g.P.Payload.always_shared g.P.HasMeaning.same_meaning c.args.stock.now _ c.args.pin c.args.task.now c.args.pair env c.requires.kept
      refl (c.detach.ensures.lives ∙ (c.put_child.ensures.lives ∙ c.link_new.ensures.lives)) (c.detach.ensures.sizes ∙ (c.put_child.ensures.sizes ∙ c.link_new.ensures.sizes)) refl c.byte_below-byte.ensures.within
      c.link_new.new.store c.put_child.new.self c.args.copy c.args.leaf c.requires.facts (record {
        byte = c.byte_below-byte.result;
        is = subst (λ (k : ℕ). ByteIn g.P.HasMeaning.meaning c.args.stock.now.store c.args.pair.above.slot (bytes_of k) c.byte_below-byte.result) c.key.ensures c.byte_below-byte.ensures.byte;
        links = c.link_new.ensures.linked;
        others = c.link_new.ensures.others;
        root = c.link_new.ensures.root;
        puts = c.put_child.ensures.sets;
      }) c.detach.ensures.sets);
}
