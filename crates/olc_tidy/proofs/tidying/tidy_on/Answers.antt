use Rattle.olc_tidy.proofs.Stepping.{tidies_at}
use Rattle.olc_tidy.proofs.tidying.tidy_on.Goals as goal

pub returns-in-UpgradeAbove : goal.returns-in-UpgradeAbove
returns-in-UpgradeAbove g c = record {
  moves = λ env e. tidies_at g.P.HasMeaning.meaning g.A.Allocator.charge g.P.Payload.always_shared g.P.HasMeaning.same_meaning c.args.stock.now c.upgrade_above.new.stock c.args.pin c.args.task.now c.args.cleanup _ _ c.in-UpgradeAbove.is
      env _ _ _ (c.upgrade_above.ensures.moves env e);
}

pub returns-in-UpgradeBelow : goal.returns-in-UpgradeBelow
returns-in-UpgradeBelow g c = record {
  moves = λ env e. tidies_at g.P.HasMeaning.meaning g.A.Allocator.charge g.P.Payload.always_shared g.P.HasMeaning.same_meaning c.args.stock.now c.upgrade_below.new.stock c.args.pin c.args.task.now c.args.cleanup _ _ c.in-UpgradeBelow.is
      env _ _ _ (c.upgrade_below.ensures.moves env e);
}

pub returns-in-TakeAway : goal.returns-in-TakeAway
returns-in-TakeAway g c = record {
  moves = λ env e. tidies_at g.P.HasMeaning.meaning g.A.Allocator.charge g.P.Payload.always_shared g.P.HasMeaning.same_meaning c.args.stock.now c.take_away.new.stock c.args.pin c.args.task.now c.args.cleanup _ _ c.in-TakeAway.is
      env _ _ _ (c.take_away.ensures.moves env);
}

pub returns-in-MakeSmaller : goal.returns-in-MakeSmaller
returns-in-MakeSmaller g c = record {
  moves = λ env e. tidies_at g.P.HasMeaning.meaning g.A.Allocator.charge g.P.Payload.always_shared g.P.HasMeaning.same_meaning c.args.stock.now c.make_smaller.new.stock c.args.pin c.args.task.now c.args.cleanup _ _ c.in-MakeSmaller.is
      env _ _ _ (c.make_smaller.ensures.moves env);
}

pub returns-in-PutSmaller : goal.returns-in-PutSmaller
returns-in-PutSmaller g c = record {
  moves = λ env e. tidies_at g.P.HasMeaning.meaning g.A.Allocator.charge g.P.Payload.always_shared g.P.HasMeaning.same_meaning c.args.stock.now c.put_smaller.new.stock c.args.pin c.args.task.now c.args.cleanup _ _ c.in-PutSmaller.is
      env _ _ _ (c.put_smaller.ensures.moves env);
}

pub returns-in-UnlockBelow : goal.returns-in-UnlockBelow
returns-in-UnlockBelow g c = record {
  moves = λ env e. tidies_at g.P.HasMeaning.meaning g.A.Allocator.charge g.P.Payload.always_shared g.P.HasMeaning.same_meaning c.args.stock.now c.unlock_below.new.stock c.args.pin c.args.task.now c.args.cleanup _ _ c.in-UnlockBelow.is
      env _ _ _ (c.unlock_below.ensures.moves env);
}
