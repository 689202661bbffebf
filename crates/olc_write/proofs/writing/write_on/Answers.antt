use Rattle.olc_write.proofs.Tailing.{moves_at}
use Rattle.olc_write.proofs.writing.write_on.Goals as goal

pub returns-in-Upgrade : goal.returns-in-Upgrade
returns-in-Upgrade g c = record {
  moves = λ env e. moves_at g.P.HasMeaning.meaning g.A.Allocator.charge g.P.Payload.always_shared g.P.HasMeaning.same_meaning c.args.stock.now c.upgrade.new.stock c.args.pin c.args.task.now _ _ c.in-Upgrade.is
      env _ _ _ (c.upgrade.ensures.moves env e);
}

pub returns-in-Write : goal.returns-in-Write
returns-in-Write g c = record {
  moves = λ env e. moves_at g.P.HasMeaning.meaning g.A.Allocator.charge g.P.Payload.always_shared g.P.HasMeaning.same_meaning c.args.stock.now c.write.new.stock c.args.pin c.args.task.now _ _ c.in-Write.is
      env _ _ _ (c.write.ensures.moves env);
}

pub returns-in-MakeLeaf : goal.returns-in-MakeLeaf
returns-in-MakeLeaf g c = record {
  moves = λ env e. moves_at g.P.HasMeaning.meaning g.A.Allocator.charge g.P.Payload.always_shared g.P.HasMeaning.same_meaning c.args.stock.now c.make_leaf.new.stock c.args.pin c.args.task.now _ _ c.in-MakeLeaf.is
      env _ _ _ (c.make_leaf.ensures.moves env);
}

pub returns-in-Link : goal.returns-in-Link
returns-in-Link g c = record {
  moves = λ env e. moves_at g.P.HasMeaning.meaning g.A.Allocator.charge g.P.Payload.always_shared g.P.HasMeaning.same_meaning c.args.stock.now c.link.new.stock c.args.pin c.args.task.now _ _ c.in-Link.is
      env _ _ _ (c.link.ensures.moves env);
}

pub returns-in-Unlock : goal.returns-in-Unlock
returns-in-Unlock g c = record {
  moves = λ env e. moves_at g.P.HasMeaning.meaning g.A.Allocator.charge g.P.Payload.always_shared g.P.HasMeaning.same_meaning c.args.stock.now c.unlock.new.stock c.args.pin c.args.task.now _ _ c.in-Unlock.is
      env _ _ _ (c.unlock.ensures.moves env);
}

pub returns-in-UpgradeAbove : goal.returns-in-UpgradeAbove
returns-in-UpgradeAbove g c = record {
  moves = λ env e. moves_at g.P.HasMeaning.meaning g.A.Allocator.charge g.P.Payload.always_shared g.P.HasMeaning.same_meaning c.args.stock.now c.upgrade_above.new.stock c.args.pin c.args.task.now _ _ c.in-UpgradeAbove.is
      env _ _ _ (c.upgrade_above.ensures.moves env e);
}

pub returns-in-UpgradeBelow : goal.returns-in-UpgradeBelow
returns-in-UpgradeBelow g c = record {
  moves = λ env e. moves_at g.P.HasMeaning.meaning g.A.Allocator.charge g.P.Payload.always_shared g.P.HasMeaning.same_meaning c.args.stock.now c.upgrade_below.new.stock c.args.pin c.args.task.now _ _ c.in-UpgradeBelow.is
      env _ _ _ (c.upgrade_below.ensures.moves env e);
}

pub returns-in-MakeLeafBelow : goal.returns-in-MakeLeafBelow
returns-in-MakeLeafBelow g c = record {
  moves = λ env e. moves_at g.P.HasMeaning.meaning g.A.Allocator.charge g.P.Payload.always_shared g.P.HasMeaning.same_meaning c.args.stock.now c.make_leaf_below.new.stock c.args.pin c.args.task.now _ _ c.in-MakeLeafBelow.is
      env _ _ _ (c.make_leaf_below.ensures.moves env);
}

pub returns-in-Grow : goal.returns-in-Grow
returns-in-Grow g c = record {
  moves = λ env e. moves_at g.P.HasMeaning.meaning g.A.Allocator.charge g.P.Payload.always_shared g.P.HasMeaning.same_meaning c.args.stock.now c.grow.new.stock c.args.pin c.args.task.now _ _ c.in-Grow.is
      env _ _ _ (c.grow.ensures.moves env);
}

pub returns-in-MakeMiddle : goal.returns-in-MakeMiddle
returns-in-MakeMiddle g c = record {
  moves = λ env e. moves_at g.P.HasMeaning.meaning g.A.Allocator.charge g.P.Payload.always_shared g.P.HasMeaning.same_meaning c.args.stock.now c.make_middle.new.stock c.args.pin c.args.task.now _ _ c.in-MakeMiddle.is
      env _ _ _ (c.make_middle.ensures.moves env);
}

pub returns-in-Replace : goal.returns-in-Replace
returns-in-Replace g c = record {
  moves = λ env e. moves_at g.P.HasMeaning.meaning g.A.Allocator.charge g.P.Payload.always_shared g.P.HasMeaning.same_meaning c.args.stock.now c.replace.new.stock c.args.pin c.args.task.now _ _ c.in-Replace.is
      env _ _ _ (c.replace.ensures.moves env);
}

pub returns-in-Insert : goal.returns-in-Insert
returns-in-Insert g c = record {
  moves = λ env e. moves_at g.P.HasMeaning.meaning g.A.Allocator.charge g.P.Payload.always_shared g.P.HasMeaning.same_meaning c.args.stock.now c.insert.new.stock c.args.pin c.args.task.now _ _ c.in-Insert.is
      env _ _ _ (c.insert.ensures.moves env);
}

pub returns-in-Detach : goal.returns-in-Detach
returns-in-Detach g c = record {
  moves = λ env e. moves_at g.P.HasMeaning.meaning g.A.Allocator.charge g.P.Payload.always_shared g.P.HasMeaning.same_meaning c.args.stock.now c.detach.new.stock c.args.pin c.args.task.now _ _ c.in-Detach.is
      env _ _ _ (c.detach.ensures.moves env);
}

pub returns-in-Obsolete : goal.returns-in-Obsolete
returns-in-Obsolete g c = record {
  moves = λ env e. moves_at g.P.HasMeaning.meaning g.A.Allocator.charge g.P.Payload.always_shared g.P.HasMeaning.same_meaning c.args.stock.now c.obsolete.new.stock c.args.pin c.args.task.now _ _ c.in-Obsolete.is
      env _ _ _ (c.obsolete.ensures.moves env);
}

pub returns-in-UnlockBelow : goal.returns-in-UnlockBelow
returns-in-UnlockBelow g c = record {
  moves = λ env e. moves_at g.P.HasMeaning.meaning g.A.Allocator.charge g.P.Payload.always_shared g.P.HasMeaning.same_meaning c.args.stock.now c.unlock_below.new.stock c.args.pin c.args.task.now _ _ c.in-UnlockBelow.is
      env _ _ _ (c.unlock_below.ensures.moves env);
}
