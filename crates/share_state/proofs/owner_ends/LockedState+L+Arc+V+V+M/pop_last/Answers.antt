use Rattle.std.proofs.Common.{length, sym, ap, ◌∙◌, arith}
use Rattle.spec_map.specs.Map.{Pairs}
use Rattle.spec_map.specs.Near.{last_of}
use Rattle.share_state.proofs.Fewer.{booked_to, fewer_without}
use Rattle.share_state.proofs.owner_ends.LockedState+L+Arc+V+V+M.pop_last.Goals as goal

pub take_to-requires-clause-fewer : goal.take_to-requires-clause-fewer
take_to-requires-clause-fewer g c =
    let m : Pairs _ = g.M.OrderedOwners.pairs c.args.self.now.under in
    omega (arith, fewer_without m (last_of m), ap (λ (l : Pairs _). length l) c.pop_last-popped.ensures.pairs, c.count_of-before.ensures.pairs, c.count_of.ensures.pairs)

pub invariant_of-self : goal.invariant_of-self
invariant_of-self g c =
    let m : Pairs _ = g.M.OrderedOwners.pairs c.args.self.now.under in
    let before = c.count_of-before in let after = c.count_of in let taken = c.take_to.ensures in
    record {
      counted = sym after.ensures.count ∙ booked_to before.result after.result c.args.self.now.book.total c.take_to.new.book.total (before.ensures.count ∙ c.args.self.now.counted)
          (omega (arith, fewer_without m (last_of m), ap (λ (l : Pairs _). length l) c.pop_last-popped.ensures.pairs, before.ensures.pairs, after.ensures.pairs)) before.ensures.few taken.total taken.same;
      part = omega (arith, taken.parts, c.args.self.now.part);
    }
