use Rattle.std.proofs.Common.{refl}
use Rattle.share_guards.proofs.ManyInserted.{insert_goes, refused_within}
use Rattle.share_guards.proofs.inserting.InsertManyWorkU64CallStageU64LockedStateU64U64Unit.work.Goals as goal

pub returns-clause-goes : goal.returns-clause-goes
returns-clause-goes g c =
    let x = c.args.value.now in let y = c.insert_many-self.new.self in
    insert_goes g.M.Lent.same g.K.Word.number g.V.Word.number (λ s. g.M.Lent.content s.under) x y (g.M.Ordered.pairs x.under) (g.M.Ordered.pairs y.under) c.law_contains.ensures.only c.law_contains-2.ensures.content
    c.args.self.now.many.now c.insert_many-self.result c.insert_many-self.ensures.ok c.insert_many-self.ensures.err

pub returns-clause-does : goal.returns-clause-does
returns-clause-does g c =
    let x = c.args.value.now in let y = c.insert_many-self.new.self in (
      refl,
      refused_within g.M.Lent.same g.K.Word.number g.V.Word.number (λ s. g.M.Lent.content s.under) x y (g.M.Ordered.pairs x.under) (g.M.Ordered.pairs y.under) c.law_contains.ensures.only c.law_contains-2.ensures.content
          c.args.self.now.many.now c.insert_many-self.result c.insert_many-self.ensures.err,
    )
