use Rattle.std.proofs.Common.{ℕ, ◌+◌, length, min, ap, subst, ◌∙◌}
use Rattle.std.proofs.lemmas.List.{length-reverse}
use Rattle.spec_map.specs.Map.{Pairs, between}
use Rattle.spec_olc.specs.Runs.{same_number}
use Rattle.share_rule.specs.inner.Steps.{known_of}
use Rattle.share_rule.specs.Known.{MadeCalls}
use Rattle.share_works.proofs.Knowing.{numbers_known}
use Rattle.share_works.specs.Made.{listing}
use Rattle.share_guards.proofs.whole.Raw+L+u64+u64+M.range_descending.Goals as goal

pub returns : goal.returns
returns g c =
    let h = c.hold.ensures.held in let w = c.hold.new.work in let m = c.guard.inside.seat in let n = c.hold.new.seat in
    let p : Pairs ℕ = g.M.Ordered.pairs h.0.under in
    let all : Pairs ℕ = between p c.args.start (c.args.last + 1) in
    let known = numbers_known m.table_id n.table_id m.me n.me c.hold.ensures.table g.M.Lent.same c.numbers_mean_themselves.ensures.same
    (listing w.start (w.last + 1) (length p) (between p w.start (w.last + 1))) h.1
    in
    record {
      made = rw (← c.guard.view_is) (
        length p,
        all,
        subst (λ (z : ℕ × ℕ). MadeCalls same_number (known_of m.table_id m.me) (listing z.0 (z.1 + 1) (length p) (between p z.0 (z.1 + 1))) (known_of n.table_id n.me)) (λ i. (h.2.0 i, h.2.1 i)) known.0,
        h.2.2.as_many ∙ ap (λ (k : ℕ). min (length c.args.buffer.now) k) (length-reverse all),
        h.2.2.entries,
      );
    }
