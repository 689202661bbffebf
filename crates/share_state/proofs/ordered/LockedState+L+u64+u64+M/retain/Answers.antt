use Rattle.std.proofs.Common.{ℕ, sym, ◌∙◌, arith}
use Rattle.spec_map.specs.Map.{Pairs}
use Rattle.share_state.proofs.Fewer.{booked_to, fewer_kept}
use Rattle.share_state.proofs.ordered.LockedState+L+u64+u64+M.retain.Goals as goal

pub take_to-requires-clause-fewer : goal.take_to-requires-clause-fewer
take_to-requires-clause-fewer g c =
    let m : Pairs ℕ = g.M.Ordered.pairs c.args.self.now.under in
    omega (arith, fewer_kept _ m c.args.f.now (g.M.Ordered.pairs c.retain.new.self) c.retain.new.f c.retain.ensures.retains, c.count_of-before.ensures.pairs, c.count_of.ensures.pairs)

pub invariant_of-self : goal.invariant_of-self
invariant_of-self g c =
    let m : Pairs ℕ = g.M.Ordered.pairs c.args.self.now.under in
    let before = c.count_of-before in let after = c.count_of in let taken = c.take_to.ensures in
    record {
      counted = sym after.ensures.count ∙ booked_to before.result after.result c.args.self.now.book.total c.take_to.new.book.total (before.ensures.count ∙ c.args.self.now.counted)
          (omega (arith, fewer_kept _ m c.args.f.now (g.M.Ordered.pairs c.retain.new.self) c.retain.new.f c.retain.ensures.retains, before.ensures.pairs, after.ensures.pairs)) before.ensures.few taken.total taken.same;
      part = omega (arith, taken.parts, c.args.self.now.part);
    }
