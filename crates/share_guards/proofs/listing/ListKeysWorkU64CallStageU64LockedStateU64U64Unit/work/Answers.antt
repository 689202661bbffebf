use Rattle.share_guards.proofs.KeyList.{keys_found, keys_go}
use Rattle.share_guards.proofs.listing.ListKeysWorkU64CallStageU64LockedStateU64U64Unit.work.Goals as goal

pub returns-clause-does : goal.returns-clause-does
returns-clause-does g c =
    keys_found (λ keys. keys.items) g.K.Word.of_number (g.M.Lent.content c.args.value.now.under) (g.M.Ordered.pairs c.args.value.now.under) c.law_contains.ensures.only c.keys.result c.keys.ensures

pub returns-clause-goes : goal.returns-clause-goes
returns-clause-goes g c =
    keys_go g.M.Lent.same (λ s. g.M.Lent.content s.under) c.args.value.now (g.M.Ordered.pairs c.args.value.now.under) c.law_contains.ensures.only c.law_contains.ensures.content c.keys.result
