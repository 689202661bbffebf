use Rattle.std.proofs.Common.{◌<◌, length, subst}
use Rattle.share_rule.specs.History.{IsLegalHistory}
use Rattle.share_rule.specs.inner.Steps.{known_of, seen_of}
use Rattle.share_works.proofs.Knowing.{numbers_known}
use Rattle.share_works.specs.Made.{KnowsBy}
use Rattle.share_guards.proofs.ManyInserted.{inserted_made, inserted_missed}
use Rattle.share_guards.specs.Many.{numbers_of}
use Rattle.share_guards.specs.inner.Trying.{inserting}
use Rattle.share_guards.proofs.inserting.Raw+L+u64+u64+M.insert_many.Goals as goal

pub returns : goal.returns
returns g c =
    let h = c.hold.ensures.held in let w = c.hold.new.work in let m = c.guard.inside.seat in let n = c.hold.new.seat in
    let k = known_of m.table_id m.me in let k' = known_of n.table_id n.me in
    let p = g.M.Ordered.pairs h.0.under in let same = c.numbers_mean_themselves.ensures.same in
    let legal = subst (λ s. IsLegalHistory s (seen_of m.me.0)) same c.guard.invariant.3 in
    let known = numbers_known m.table_id n.table_id m.me n.me c.hold.ensures.table g.M.Lent.same same (inserting w.inserted p (numbers_of g.K.Word.number g.V.Word.number w.many.now)) h.1 in
    let all = subst (λ many. KnowsBy (inserting w.inserted p (numbers_of g.K.Word.number g.V.Word.number many)) k k') h.2.0 known in
    let pairs = numbers_of g.K.Word.number g.V.Word.number c.args.many.now in
    record {
      made = rw (← c.guard.view_is) (inserted_made k k' legal p pairs w.inserted all);
      missed = rw (← c.guard.view_is) (inserted_missed k k' legal p pairs (λ inserted. inserted < length c.args.many.now) w.inserted all h.2.1);
    }
