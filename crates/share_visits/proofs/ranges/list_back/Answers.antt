use Rattle.std.proofs.Common.{◌≡◌, ◌+◌, ◌-◌, ◌∙◌, [], Some, arith, refl, reverse, subst, sym}
use Rattle.share_visits.specs.Whole.{Contains}
use Rattle.share_visits.specs.Written.{AreWritten}
use Rattle.share_visits.proofs.Splitting.{before_key, below_start, between_none}
use Rattle.share_visits.proofs.Writing.{all_of, behind_back, down_full, down_to, no_more_back, none_down, nothing, run_down}
use Rattle.spec_map.specs.Map.{between}
use Rattle.spec_map.specs.Near.{last_of}
use Rattle.share_visits.proofs.ranges.list_back.Goals.{then-written-buffer-via-then-written-buffer, then-written-buffer-via-else-written-buffer+then-first-start}
use Rattle.share_visits.proofs.ranges.list_back.Goals as goal

pub returns-then-last-start-clause-written : goal.returns-then-last-start-clause-written
returns-then-last-start-clause-written g c = λ all h. none_down g.M.Pages.entry all c.args.start c.args.last c.args.buffer.now c.if-last-start.true

pub runs-init : goal.runs-init
runs-init g c =
    let order = c.if-last-start.false in
    let at = c.args.last + 1 in (
      refl,
      refl,
      order,
      omega arith,
      omega arith,
      λ all h. no_more_back g.M.Pages.entry [] (between all at at) c.args.buffer.now 0 c.args.buffer.now (between_none all at at (omega arith)) (nothing g.M.Pages.entry c.args.buffer.now) refl,
    )

pub returns-then-written-buffer-clause-written : goal.returns-then-written-buffer-clause-written
returns-then-written-buffer-clause-written g c = λ all h.
    let inv = c.runs.invariant in
    let before = c.args.buffer.now in let after = c.page_rest-written.new.buffer in let n = c.page_rest-written.result in
    let to = c.runs.to in let first = c.run_start-first.result in
    let run = c.run_start-first.ensures.to in
    let low = c.run_start-first.ensures.from in
    let high = inv.3 in
    let old = c.runs.auto.buffer in let new = c.page_rest-written.auto.buffer in
    let listed = inv.5 all h in
    let here = subst (λ z. Contains g.M.MapShard.pairs g.M.MapShard.limit c.args.lock.now all z.1) (sym inv.1) h in
    let done = run_down g.M.Pages.entry all h.ordered [] c.args.start (c.args.last + 1) before first (to + 1) n after (omega (arith, run)) (omega (arith, high)) (c.page_rest-written.ensures.written all here (reverse (between all (to + 1) (c.args.last + 1))) before listed.0 listed.1) in
    elim c.then-written-buffer.branch [
      | then-written-buffer-via-then-written-buffer b ↦
          let full = b.if-written-buffer.true in
          down_full g.M.Pages.entry all h.ordered [] c.args.start (c.args.last + 1) before first n after low (omega (arith, run, high)) done (omega (arith, full, old, new))
      | then-written-buffer-via-else-written-buffer+then-first-start b ↦
          subst (λ k. AreWritten g.M.Pages.entry (reverse (between all k (c.args.last + 1))) before n after) b.if-first-start.true done
    ]

pub list_under-requires-clause-room : goal.list_under-requires-clause-room
list_under-requires-clause-room g c =
    let within = c.page_rest-written.ensures.within in
    let new = c.page_rest-written.auto.buffer in
    let ne = c.if-written-buffer.false in
    omega (arith, within, new, ne)

pub returns-in_default-clause-written : goal.returns-in_default-clause-written
returns-in_default-clause-written g c = λ all h.
    let inv = c.runs.invariant in
    let before = c.args.buffer.now in let after = c.page_rest-written.new.buffer in let n = c.page_rest-written.result in
    let to = c.runs.to in let first = c.run_start-first.result in
    let run = c.run_start-first.ensures.to in
    let low = c.run_start-first.ensures.from in
    let high = inv.3 in
    let ne = c.if-written-buffer.false in
    let other = c.if-first-start.false in
    let again : first - 1 + 1 ≡ first = omega (arith, low, other) in
    let old = c.runs.auto.buffer in let new = c.page_rest-written.auto.buffer in
    let listed = inv.5 all h in
    let here = subst (λ z. Contains g.M.MapShard.pairs g.M.MapShard.limit c.args.lock.now all z.1) (sym inv.1) h in
    let there = subst (λ z. Contains g.M.MapShard.pairs g.M.MapShard.limit c.args.lock.now all z.1) (sym (c.nearest_in_run.ensures.same ∙ (c.page_rest-written.ensures.same ∙ inv.1))) h in
    let done = run_down g.M.Pages.entry all h.ordered [] c.args.start (c.args.last + 1) before first (to + 1) n after (omega (arith, run)) (omega (arith, high)) (c.page_rest-written.ensures.written all here (reverse (between all (to + 1) (c.args.last + 1))) before listed.0 listed.1) in
    subst (λ l. AreWritten g.M.Pages.entry l before c.list_under.result c.list_under.new.buffer) (behind_back all h.ordered c.args.start first (c.args.last + 1) low (omega (arith, run, high)))
    (c.list_under.ensures.written all there (reverse (between all first (c.args.last + 1))) before done
    (all_of g.M.Pages.entry (reverse (between all first (c.args.last + 1))) before n after done (λ full. ne (omega (arith, full, old, new)))))

pub returns-then-next-start-clause-written : goal.returns-then-next-start-clause-written
returns-then-next-start-clause-written g c = λ all h.
    let inv = c.runs.invariant in
    let before = c.args.buffer.now in let after = c.page_rest-written.new.buffer in let n = c.page_rest-written.result in
    let to = c.runs.to in let first = c.run_start-first.result in
    let run = c.run_start-first.ensures.to in
    let low = c.run_start-first.ensures.from in
    let high = inv.3 in
    let ne = c.if-written-buffer.false in
    let other = c.if-first-start.false in
    let again : first - 1 + 1 ≡ first = omega (arith, low, other) in
    let old = c.runs.auto.buffer in let new = c.page_rest-written.auto.buffer in
    let listed = inv.5 all h in
    let here = subst (λ z. Contains g.M.MapShard.pairs g.M.MapShard.limit c.args.lock.now all z.1) (sym inv.1) h in
    let there = subst (λ z. Contains g.M.MapShard.pairs g.M.MapShard.limit c.args.lock.now all z.1) (sym (c.page_rest-written.ensures.same ∙ inv.1)) h in
    let done = run_down g.M.Pages.entry all h.ordered [] c.args.start (c.args.last + 1) before first (to + 1) n after (omega (arith, run)) (omega (arith, high)) (c.page_rest-written.ensures.written all here (reverse (between all (to + 1) (c.args.last + 1))) before listed.0 listed.1) in
    let at = before_key all h.ordered first (c.in-Some.next, c.in-Some.field-0-1) (subst (λ k. last_of (between all 0 k) ≡ Some (c.in-Some.next, c.in-Some.field-0-1)) again (c.in-Some.ensures.found all there)) in
    (down_to g.M.Pages.entry all h.ordered [] c.args.start (c.args.last + 1) before c.args.start first n after low (omega (arith, run, high))
    (below_start all h.ordered first c.args.start c.in-Some.next c.if-next-start.true at.1) done
    (all_of g.M.Pages.entry (reverse (between all first (c.args.last + 1))) before n after done (λ full. ne (omega (arith, full, old, new))))).0

pub runs-smaller : goal.runs-smaller
runs-smaller g c =
    let inv = c.runs.invariant in
    let bound = c.run_start-first.ensures.from in
    let other = c.if-first-start.false in
    let again : c.run_start-first.result - 1 + 1 ≡ c.run_start-first.result = omega (arith, bound, other) in
    let there = subst (λ z. Contains g.M.MapShard.pairs g.M.MapShard.limit c.args.lock.now c.requires.all.0 z.1) (sym (c.page_rest-written.ensures.same ∙ inv.1)) c.requires.all.1 in
    let at = before_key c.requires.all.0 there.ordered c.run_start-first.result (c.in-Some.next, c.in-Some.field-0-1) (subst (λ k. last_of (between c.requires.all.0 0 k) ≡ Some (c.in-Some.next, c.in-Some.field-0-1)) again (c.in-Some.ensures.found c.requires.all.0 there)) in
    let up = at.0 in
    let run = c.run_start-first.ensures.to in
    let past = c.if-next-start.false in
    let low = c.run_start-first.ensures.from in
    omega (arith, up, run, past, low)

pub runs-preserved : goal.runs-preserved
runs-preserved g c =
    let inv = c.runs.invariant in
    let before = c.args.buffer.now in let after = c.page_rest-written.new.buffer in let n = c.page_rest-written.result in
    let to = c.runs.to in let first = c.run_start-first.result in
    let run = c.run_start-first.ensures.to in
    let low = c.run_start-first.ensures.from in
    let high = inv.3 in
    let ne = c.if-written-buffer.false in
    let other = c.if-first-start.false in
    let again : first - 1 + 1 ≡ first = omega (arith, low, other) in
    let old = c.runs.auto.buffer in let new = c.page_rest-written.auto.buffer in
    let within = c.page_rest-written.ensures.within in
    let past = c.if-next-start.false in
    let one = subst (λ z. Contains g.M.MapShard.pairs g.M.MapShard.limit c.args.lock.now c.requires.all.0 z.1) (sym (c.page_rest-written.ensures.same ∙ inv.1)) c.requires.all.1 in
    let up = (before_key c.requires.all.0 one.ordered first (c.in-Some.next, c.in-Some.field-0-1) (subst (λ k. last_of (between c.requires.all.0 0 k) ≡ Some (c.in-Some.next, c.in-Some.field-0-1)) again (c.in-Some.ensures.found c.requires.all.0 one))).0 in (
      c.in-Some.ensures.table ∙ (c.page_rest-written.ensures.table ∙ inv.0),
      c.in-Some.ensures.same ∙ (c.page_rest-written.ensures.same ∙ inv.1),
      omega (arith, past),
      omega (arith, run, high, up),
      omega (arith, within, new),
      λ all h.
          let listed = inv.5 all h in
          let here = subst (λ z. Contains g.M.MapShard.pairs g.M.MapShard.limit c.args.lock.now all z.1) (sym inv.1) h in
          let there = subst (λ z. Contains g.M.MapShard.pairs g.M.MapShard.limit c.args.lock.now all z.1) (sym (c.page_rest-written.ensures.same ∙ inv.1)) h in
          let done = run_down g.M.Pages.entry all h.ordered [] c.args.start (c.args.last + 1) before first (to + 1) n after (omega (arith, run)) (omega (arith, high)) (c.page_rest-written.ensures.written all here (reverse (between all (to + 1) (c.args.last + 1))) before listed.0 listed.1)
          in
          let at = before_key all h.ordered first (c.in-Some.next, c.in-Some.field-0-1) (subst (λ k. last_of (between all 0 k) ≡ Some (c.in-Some.next, c.in-Some.field-0-1)) again (c.in-Some.ensures.found all there)) in
          down_to g.M.Pages.entry all h.ordered [] c.args.start (c.args.last + 1) before (c.in-Some.next + 1) first n after (omega (arith, up)) (omega (arith, run, high)) at.1 done
          (all_of g.M.Pages.entry (reverse (between all first (c.args.last + 1))) before n after done (λ full. ne (omega (arith, full, old, new)))),
    )
