use Rattle.std.proofs.Common.{◌+◌, ◌∙◌, [], arith, refl, subst, sym}
use Rattle.share_visits.specs.Whole.{Contains}
use Rattle.share_visits.specs.Written.{AreWritten}
use Rattle.share_visits.proofs.Splitting.{after_key, between-split, between_none, past_last}
use Rattle.share_visits.proofs.Writing.{all_of, no_more, none_up, nothing, run_up, up_full, up_to}
use Rattle.spec_map.specs.Map.{between}
use Rattle.share_visits.proofs.ranges.list.Goals.{then-written-buffer-via-then-written-buffer, then-written-buffer-via-else-written-buffer+then-end-last}
use Rattle.share_visits.proofs.ranges.list.Goals as goal

pub returns-then-last-start-clause-written : goal.returns-then-last-start-clause-written
returns-then-last-start-clause-written g c = λ all h. none_up g.M.Pages.entry all c.args.start c.args.last c.args.buffer.now c.if-last-start.true

pub runs-init : goal.runs-init
runs-init g c =
    let order = c.if-last-start.false in (
      refl,
      refl,
      omega arith,
      order,
      omega arith,
      λ all h.
          no_more g.M.Pages.entry [] (between all c.args.start c.args.start) c.args.buffer.now 0 c.args.buffer.now (between_none all c.args.start c.args.start (omega arith)) (nothing g.M.Pages.entry c.args.buffer.now) refl,
    )

pub returns-then-written-buffer-clause-written : goal.returns-then-written-buffer-clause-written
returns-then-written-buffer-clause-written g c = λ all h.
    let inv = c.runs.invariant in
    let before = c.args.buffer.now in let after = c.page_rest-written.new.buffer in let n = c.page_rest-written.result in
    let from = c.runs.from in let end = c.run_end-end.result in
    let run = c.run_end-end.ensures.from in
    let high = c.run_end-end.ensures.to in
    let low = inv.2 in
    let old = c.runs.auto.buffer in let new = c.page_rest-written.auto.buffer in
    let listed = inv.5 all h in
    let here = subst (λ z. Contains g.M.MapShard.pairs g.M.MapShard.limit c.args.lock.now all z.1) (sym inv.1) h in
    let done = run_up g.M.Pages.entry all h.ordered [] c.args.start (c.args.last + 1) before from end n after low run (c.page_rest-written.ensures.written all here (between all c.args.start from) before listed.0 listed.1) in
    elim c.then-written-buffer.branch [
      | then-written-buffer-via-then-written-buffer b ↦
          let full = b.if-written-buffer.true in
          up_full g.M.Pages.entry all h.ordered [] c.args.start (c.args.last + 1) before (end + 1) n after (omega (arith, low, run)) (omega (arith, high)) done (omega (arith, full, old, new))
      | then-written-buffer-via-else-written-buffer+then-end-last b ↦
          subst (λ k. AreWritten g.M.Pages.entry (between all c.args.start (k + 1)) before n after) b.if-end-last.true done
    ]

pub list_above-requires-clause-room : goal.list_above-requires-clause-room
list_above-requires-clause-room g c =
    let within = c.page_rest-written.ensures.within in
    let new = c.page_rest-written.auto.buffer in
    let ne = c.if-written-buffer.false in
    omega (arith, within, new, ne)

pub returns-in_default-clause-written : goal.returns-in_default-clause-written
returns-in_default-clause-written g c = λ all h.
    let inv = c.runs.invariant in
    let before = c.args.buffer.now in let after = c.page_rest-written.new.buffer in let n = c.page_rest-written.result in
    let from = c.runs.from in let end = c.run_end-end.result in
    let run = c.run_end-end.ensures.from in
    let high = c.run_end-end.ensures.to in
    let low = inv.2 in
    let ne = c.if-written-buffer.false in
    let old = c.runs.auto.buffer in let new = c.page_rest-written.auto.buffer in
    let listed = inv.5 all h in
    let here = subst (λ z. Contains g.M.MapShard.pairs g.M.MapShard.limit c.args.lock.now all z.1) (sym inv.1) h in
    let there = subst (λ z. Contains g.M.MapShard.pairs g.M.MapShard.limit c.args.lock.now all z.1) (sym (c.nearest_in_run.ensures.same ∙ (c.page_rest-written.ensures.same ∙ inv.1))) h in
    let done = run_up g.M.Pages.entry all h.ordered [] c.args.start (c.args.last + 1) before from end n after low run (c.page_rest-written.ensures.written all here (between all c.args.start from) before listed.0 listed.1) in
    subst (λ l. AreWritten g.M.Pages.entry l before c.list_above.result c.list_above.new.buffer) (sym (between-split all h.ordered c.args.start (end + 1) (c.args.last + 1) (omega (arith, low, run)) (omega (arith, high))))
    (c.list_above.ensures.written all there (between all c.args.start (end + 1)) before done
    (all_of g.M.Pages.entry (between all c.args.start (end + 1)) before n after done (λ full. ne (omega (arith, full, old, new)))))

pub returns-then-last-next-clause-written : goal.returns-then-last-next-clause-written
returns-then-last-next-clause-written g c = λ all h.
    let inv = c.runs.invariant in
    let before = c.args.buffer.now in let after = c.page_rest-written.new.buffer in let n = c.page_rest-written.result in
    let from = c.runs.from in let end = c.run_end-end.result in
    let run = c.run_end-end.ensures.from in
    let high = c.run_end-end.ensures.to in
    let low = inv.2 in
    let ne = c.if-written-buffer.false in
    let old = c.runs.auto.buffer in let new = c.page_rest-written.auto.buffer in
    let listed = inv.5 all h in
    let here = subst (λ z. Contains g.M.MapShard.pairs g.M.MapShard.limit c.args.lock.now all z.1) (sym inv.1) h in
    let there = subst (λ z. Contains g.M.MapShard.pairs g.M.MapShard.limit c.args.lock.now all z.1) (sym (c.page_rest-written.ensures.same ∙ inv.1)) h in
    let done = run_up g.M.Pages.entry all h.ordered [] c.args.start (c.args.last + 1) before from end n after low run (c.page_rest-written.ensures.written all here (between all c.args.start from) before listed.0 listed.1) in
    let at = after_key all h.ordered end (c.in-Some.next, c.in-Some.field-0-1) (c.in-Some.ensures.found all there) in
    (up_to g.M.Pages.entry all h.ordered [] c.args.start (c.args.last + 1) before (end + 1) (c.args.last + 1) n after (omega (arith, low, run)) (omega (arith, high))
    (past_last all h.ordered end c.args.last c.in-Some.next c.if-last-next.true at.2) done
    (all_of g.M.Pages.entry (between all c.args.start (end + 1)) before n after done (λ full. ne (omega (arith, full, old, new))))).0

pub runs-smaller : goal.runs-smaller
runs-smaller g c =
    let inv = c.runs.invariant in
    let there = subst (λ z. Contains g.M.MapShard.pairs g.M.MapShard.limit c.args.lock.now c.requires.all.0 z.1) (sym (c.page_rest-written.ensures.same ∙ inv.1)) c.requires.all.1 in
    let at = after_key c.requires.all.0 there.ordered c.run_end-end.result (c.in-Some.next, c.in-Some.field-0-1) (c.in-Some.ensures.found c.requires.all.0 there) in
    let up = at.0 in
    let run = c.run_end-end.ensures.from in
    let past = c.if-last-next.false in
    omega (arith, up, run, past)

pub runs-preserved : goal.runs-preserved
runs-preserved g c =
    let inv = c.runs.invariant in
    let before = c.args.buffer.now in let after = c.page_rest-written.new.buffer in let n = c.page_rest-written.result in
    let from = c.runs.from in let end = c.run_end-end.result in
    let run = c.run_end-end.ensures.from in
    let high = c.run_end-end.ensures.to in
    let low = inv.2 in
    let ne = c.if-written-buffer.false in
    let old = c.runs.auto.buffer in let new = c.page_rest-written.auto.buffer in
    let within = c.page_rest-written.ensures.within in
    let past = c.if-last-next.false in
    let first = subst (λ z. Contains g.M.MapShard.pairs g.M.MapShard.limit c.args.lock.now c.requires.all.0 z.1) (sym (c.page_rest-written.ensures.same ∙ inv.1)) c.requires.all.1 in
    let up = (after_key c.requires.all.0 first.ordered end (c.in-Some.next, c.in-Some.field-0-1) (c.in-Some.ensures.found c.requires.all.0 first)).0 in (
      c.in-Some.ensures.table ∙ (c.page_rest-written.ensures.table ∙ inv.0),
      c.in-Some.ensures.same ∙ (c.page_rest-written.ensures.same ∙ inv.1),
      omega (arith, low, run, up),
      omega (arith, past),
      omega (arith, within, new),
      λ all h.
          let listed = inv.5 all h in
          let here = subst (λ z. Contains g.M.MapShard.pairs g.M.MapShard.limit c.args.lock.now all z.1) (sym inv.1) h in
          let there = subst (λ z. Contains g.M.MapShard.pairs g.M.MapShard.limit c.args.lock.now all z.1) (sym (c.page_rest-written.ensures.same ∙ inv.1)) h in
          let done = run_up g.M.Pages.entry all h.ordered [] c.args.start (c.args.last + 1) before from end n after low run (c.page_rest-written.ensures.written all here (between all c.args.start from) before listed.0 listed.1)
          in
          let at = after_key all h.ordered end (c.in-Some.next, c.in-Some.field-0-1) (c.in-Some.ensures.found all there) in
          up_to g.M.Pages.entry all h.ordered [] c.args.start (c.args.last + 1) before (end + 1) c.in-Some.next n after (omega (arith, low, run)) (omega (arith, up)) at.2 done
          (all_of g.M.Pages.entry (between all c.args.start (end + 1)) before n after done (λ full. ne (omega (arith, full, old, new)))),
    )
