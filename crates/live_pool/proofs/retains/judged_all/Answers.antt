use Rattle.std.proofs.Common.{rules, arith, ℕ, Bool, ◌+◌, ◌≡◌, take, get_or, subst, sym}
use Rattle.std.proofs.lemmas.List.{take_more}
use Rattle.spec_map.specs.Map.{Pairs}
use Rattle.live_pool.specs.Retains.{one_if, HaveJudged}
use Rattle.live_pool.proofs.Judged.{few_more, judged_more}
use Rattle.live_pool.proofs.retains.judged_all.Goals.{then-judged, else-judged}
use Rattle.live_pool.proofs.retains.judged_all.Goals as goal

pub loop-i-preserved : goal.loop-i-preserved
loop-i-preserved g c =
    let i = c.loop-i.invariant in
    let ps = c.args.pairs.now in
    let n = c.loop-i.i in
    let p = get_or ps n (0, 0) in
    let count : c.if-judged.count ≡ c.loop-i.count + one_if c.judged.result =
    elim c.if-judged.branch [
      | then-judged w ↦ subst (λ (z : Bool). c.if-judged.count ≡ c.loop-i.count + one_if z) (sym w.if-judged.true) w.count-is
      | else-judged w ↦ subst (λ (z : Bool). c.if-judged.count ≡ c.loop-i.count + one_if z) (sym w.if-judged.false) (omega (arith, w.count-is))
    ] in
    let more = judged_more (λ state asked stays next. goal.F-step g state asked.0 asked.1 stays next) (take n ps) p c.judged.result c.loop-i.count c.args.f.now c.loop-i.f c.judged.new.f c.args.guard.now c.loop-i.guard c.judged.new.guard i.judged c.judged.ensures.judged in
    record {
      callable = c.judged.ensures.callable;
      book = search rules;
      few = few_more c.judged.result c.loop-i.count c.if-judged.count n count i.few;
      judged = subst (λ (z : Pairs ℕ × ℕ). HaveJudged (λ state asked stays next. goal.F-step g state asked.0 asked.1 stays next) z.0 z.1 c.args.f.now c.args.guard.now c.judged.new.f c.judged.new.guard)
          (λ j. (sym (take_more ps n (0, 0) c.loop-i-test.true) j, sym count j)) more;
    }
