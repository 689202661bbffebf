use Rattle.std.proofs.Common.{ℕ, ◌+◌, length, subst, ◌∙◌}
use Rattle.spec_map.specs.Map.{Pairs, between}
use Rattle.spec_olc.specs.Runs.{same_number}
use Rattle.share_rule.specs.inner.Steps.{known_of}
use Rattle.share_rule.specs.Known.{MadeCalls}
use Rattle.share_works.proofs.Knowing.{numbers_known}
use Rattle.share_works.specs.Made.{range_removal}
use Rattle.share_guards.proofs.many.Raw+L+u64+u64+M.remove_range_inclusive.Goals as goal

pub returns : goal.returns
returns g c =
    let h = c.hold.ensures.held in let w = c.hold.new.work in let m = c.guard.inside.seat in let n = c.hold.new.seat in
    let p : Pairs ℕ = g.M.Ordered.pairs h.0.under in
    let known = numbers_known m.table_id n.table_id m.me n.me c.hold.ensures.table g.M.Lent.same c.numbers_mean_themselves.ensures.same
    (range_removal w.start (w.last + 1) (length p) (between p w.start (w.last + 1))) h.1
    in
    record {
      made = rw (← c.guard.view_is) (
        length p,
        between p c.args.start (c.args.last + 1),
        subst (λ (z : ℕ × ℕ). MadeCalls same_number (known_of m.table_id m.me) (range_removal z.0 (z.1 + 1) (length p) (between p z.0 (z.1 + 1))) (known_of n.table_id n.me)) (λ i. (h.2.0 i, h.2.1 i)) known.0,
        h.2.2 ∙ (λ i. length (between p (h.2.0 i) (h.2.1 i + 1))),
      );
    }
