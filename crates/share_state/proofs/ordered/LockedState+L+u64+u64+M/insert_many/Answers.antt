use Rattle.std.proofs.Common.{ℕ, sym, ◌∙◌, arith}
use Rattle.spec_map.specs.Map.{Pairs}
use Rattle.share_state.proofs.Fewer.{booked_up, more_inserted}
use Rattle.share_state.proofs.ordered.LockedState+L+u64+u64+M.insert_many.Goals as goal

pub add_to-requires-clause-more : goal.add_to-requires-clause-more
add_to-requires-clause-more g c =
    let m : Pairs ℕ = g.M.Ordered.pairs c.args.self.now.under in let done = c.insert_many-inserted in
    omega (arith, more_inserted g.K.Word.number g.V.Word.number m (g.M.Ordered.pairs done.new.self) c.args.many.now done.result done.ensures.ok done.ensures.err, c.count_of-before.ensures.pairs, c.count_of.ensures.pairs)

pub invariant_of-self : goal.invariant_of-self
invariant_of-self g c =
    let m : Pairs ℕ = g.M.Ordered.pairs c.args.self.now.under in let done = c.insert_many-inserted in
    let before = c.count_of-before in let after = c.count_of in let added = c.add_to.ensures in
    record {
      counted = sym after.ensures.count ∙ booked_up before.result after.result c.args.self.now.book.total c.add_to.new.book.total (before.ensures.count ∙ c.args.self.now.counted)
          (omega (arith, more_inserted g.K.Word.number g.V.Word.number m (g.M.Ordered.pairs done.new.self) c.args.many.now done.result done.ensures.ok done.ensures.err, before.ensures.pairs, after.ensures.pairs)) after.ensures.few added.total;
      part = omega (arith, added.parts, c.args.self.now.part);
    }
