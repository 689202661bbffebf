use Rattle.std.proofs.Common.{◌≡◌, ◌+◌, ◌++◌, ◌∙◌, ap, arith, reverse, subst, sym}
use Rattle.share_parts.specs.Parts.{kept}
use Rattle.share_shards.specs.Held.{keys_at}
use Rattle.share_visits.specs.Whole.{Contains, shard_of}
use Rattle.share_visits.specs.Written.{AreWritten}
use Rattle.share_visits.proofs.Nearing.{below_next, found_near}
use Rattle.share_visits.proofs.Numbers.{few_shards}
use Rattle.share_visits.proofs.Running.{stored_below}
use Rattle.share_visits.proofs.Splitting.{before_key, below_start, between_none, none_before}
use Rattle.share_visits.proofs.Writing.{all_of, as_long, down_full, down_to, no_more_back, run_down}
use Rattle.spec_map.specs.Call.{below}
use Rattle.spec_map.specs.Map.{between}
use Rattle.spec_map.specs.Near.{pair_near}
use Rattle.share_visits.proofs.ranges.list_under.Goals.{then-count-buffer-via-then-count-buffer, then-count-buffer-via-else-count-buffer+then-first-start}
use Rattle.share_visits.proofs.ranges.list_under.Goals as goal

pub runs-init : goal.runs-init
runs-init g c =
    let order = c.requires.order in
    let room = c.requires.room in (
      c.nearest_of_each-next_pairs.ensures.table,
      c.nearest_of_each-next_pairs.ensures.same,
      omega arith,
      order,
      room,
      c.nearest_of_each-next_pairs.ensures.each,
      λ all h done before w is. no_more_back g.M.Pages.entry done (between all c.args.key c.args.key) before c.args.written c.args.buffer.now (between_none all c.args.key c.args.key (omega arith)) w is,
    )

pub returns-in_default-clause-written : goal.returns-in_default-clause-written
returns-in_default-clause-written g c = λ all h done before w is.
    let inv = c.runs.invariant in
    let high = inv.2 in
    let low = inv.3 in
    let known = inv.6 all h done before w is in
    let found = found_near c.args.lock.now.table.slots all c.shards-shards.result (below c.runs.key) c.runs.next_pairs c.nearest_in.result c.shards-shards.ensures h.ordered c.nearest_in.ensures (inv.5 all h) in
    (down_to g.M.Pages.entry all h.ordered done c.args.start c.args.key before c.args.start c.runs.key c.runs.written c.runs.buffer (omega (arith, low)) high
    (none_before all h.ordered c.runs.key c.args.start (found ∙ c.in_default.is)) known.0 known.1).0

pub returns-then-last-start-clause-written : goal.returns-then-last-start-clause-written
returns-then-last-start-clause-written g c = λ all h done before w is.
    let inv = c.runs.invariant in
    let high = inv.2 in
    let low = inv.3 in
    let known = inv.6 all h done before w is in
    let found = found_near c.args.lock.now.table.slots all c.shards-shards.result (below c.runs.key) c.runs.next_pairs c.nearest_in.result c.shards-shards.ensures h.ordered c.nearest_in.ensures (inv.5 all h) in
    let at = before_key all h.ordered c.runs.key c.in-Some.last (found ∙ c.in-Some.is) in
    (down_to g.M.Pages.entry all h.ordered done c.args.start c.args.key before c.args.start c.runs.key c.runs.written c.runs.buffer (omega (arith, low)) high
    (below_start all h.ordered c.runs.key c.args.start c.in-Some.last.0 c.if-last-start.true at.1) known.0 known.1).0

pub run_below-count-requires-clause-last : goal.run_below-count-requires-clause-last
run_below-count-requires-clause-last g c = λ all here.
    let inv = c.runs.invariant in
    let h = subst (λ z. Contains g.M.MapShard.pairs g.M.MapShard.limit c.args.lock.now all z.1) inv.1 here in
    stored_below all h.ordered c.runs.key c.in-Some.last
    (found_near c.args.lock.now.table.slots all c.shards-shards.result (below c.runs.key) c.runs.next_pairs c.nearest_in.result c.shards-shards.ensures h.ordered c.nearest_in.ensures (inv.5 all h) ∙ c.in-Some.is)

pub returns-then-count-buffer-clause-written : goal.returns-then-count-buffer-clause-written
returns-then-count-buffer-clause-written g c = λ all h done before w is.
    let inv = c.runs.invariant in
    let high = inv.2 in
    let known = inv.6 all h done before w is in
    let after = c.run_below-count.new.buffer in let n = c.run_below-count.result.0 in
    let to = c.in-Some.last.0 in let first = c.run_start-first.result in
    let run = c.run_start-first.ensures.to in
    let low = c.run_start-first.ensures.from in
    let found = found_near c.args.lock.now.table.slots all c.shards-shards.result (below c.runs.key) c.runs.next_pairs c.nearest_in.result c.shards-shards.ensures h.ordered c.nearest_in.ensures (inv.5 all h) in
    let at = before_key all h.ordered c.runs.key c.in-Some.last (found ∙ c.in-Some.is) in
    let down = at.0 in
    let here = subst (λ z. Contains g.M.MapShard.pairs g.M.MapShard.limit c.args.lock.now all z.1) (sym inv.1) h in
    let listed = down_to g.M.Pages.entry all h.ordered done c.args.start c.args.key before (to + 1) c.runs.key c.runs.written c.runs.buffer (omega (arith, down)) high at.1 known.0 known.1 in
    let more = run_down g.M.Pages.entry all h.ordered done c.args.start c.args.key before first (to + 1) n after (omega (arith, run)) (omega (arith, down, high))
    (c.run_below-count.ensures.written all here (done ++ reverse (between all (to + 1) c.args.key)) before listed.0 listed.1)
    in
    let long = as_long g.M.Pages.entry done before c.args.written c.args.buffer.now w in
    let old = c.runs.auto.buffer in let new = c.run_below-count.auto.buffer in
    elim c.then-count-buffer.branch [
      | then-count-buffer-via-then-count-buffer b ↦
          let full = b.if-count-buffer.true in
          down_full g.M.Pages.entry all h.ordered done c.args.start c.args.key before first n after low (omega (arith, run, down, high)) more (omega (arith, full, old, new, long))
      | then-count-buffer-via-else-count-buffer+then-first-start b ↦
          subst (λ k. AreWritten g.M.Pages.entry (done ++ reverse (between all k c.args.key)) before n after) b.if-first-start.true more
    ]

pub runs-smaller : goal.runs-smaller
runs-smaller g c =
    let inv = c.runs.invariant in
    let all = c.requires.all.0 in
    let h = c.requires.all.1 in
    let found = found_near c.args.lock.now.table.slots all c.shards-shards.result (below c.runs.key) c.runs.next_pairs c.nearest_in.result c.shards-shards.ensures h.ordered c.nearest_in.ensures (inv.5 all h) in
    let at = before_key all h.ordered c.runs.key c.in-Some.last (found ∙ c.in-Some.is) in
    let down = at.0 in
    let run = c.run_start-first.ensures.to in
    let low = c.run_start-first.ensures.from in
    omega (arith, down, run, low)

pub runs-preserved : goal.runs-preserved
runs-preserved g c =
    let inv = c.runs.invariant in
    let high = inv.2 in
    let after = c.run_below-count.new.buffer in let n = c.run_below-count.result.0 in
    let to = c.in-Some.last.0 in let first = c.run_start-first.result in
    let run = c.run_start-first.ensures.to in
    let low = c.run_start-first.ensures.from in
    let old = c.runs.auto.buffer in let new = c.run_below-count.auto.buffer in
    let within = c.run_below-count.ensures.within in
    let ne = c.if-count-buffer.false in
    let other = c.if-first-start.false in
    let one = c.requires.all.1 in
    let one_found = found_near c.args.lock.now.table.slots c.requires.all.0 c.shards-shards.result (below c.runs.key) c.runs.next_pairs c.nearest_in.result c.shards-shards.ensures one.ordered c.nearest_in.ensures (inv.5 c.requires.all.0 one) in
    let one_at = before_key c.requires.all.0 one.ordered c.runs.key c.in-Some.last (one_found ∙ c.in-Some.is) in
    let down = one_at.0 in
    let many = c.shards-shards.ensures in
    let mine = c.shard_of_key.ensures.within in
    let shard_is = c.shard_of_key.ensures.shard ∙ ap (λ n. shard_of n to) many in (
      c.run_below-count.ensures.table ∙ inv.0,
      c.run_below-count.ensures.same ∙ inv.1,
      omega (arith, high, down, run),
      omega (arith, low, other),
      omega (arith, within, new, ne),
      λ all h.
          let found = found_near c.args.lock.now.table.slots all c.shards-shards.result (below c.runs.key) c.runs.next_pairs c.nearest_in.result c.shards-shards.ensures h.ordered c.nearest_in.ensures (inv.5 all h) in
          let at = before_key all h.ordered c.runs.key c.in-Some.last (found ∙ c.in-Some.is) in
          let here = subst (λ z. Contains g.M.MapShard.pairs g.M.MapShard.limit c.args.lock.now all z.1) (sym inv.1) h in
          below_next c.args.lock.now.table.slots all h.ordered c.shard_of_key.result c.runs.key to first c.runs.next_pairs c.run_below-count.result.1 (omega (arith, mine, many)) (few_shards c.args.lock.now.table.slots c.requires.shards)
          (λ k from_here up_to. subst (λ j. shard_of j k ≡ c.shard_of_key.result) many
          (c.run_start-first.ensures.one k from_here up_to ∙ (sym (c.run_start-first.ensures.one to run (omega arith)) ∙ sym c.shard_of_key.ensures.shard)))
          at.0 run at.1 (inv.5 all h) (subst (λ s. c.run_below-count.result.1 ≡ pair_near (kept (keys_at (shard_of c.args.lock.now.table.slots) s) all) (below first)) (sym shard_is) (c.run_below-count.ensures.next all here)),
      λ all h done before w is.
          let known = inv.6 all h done before w is in
          let found = found_near c.args.lock.now.table.slots all c.shards-shards.result (below c.runs.key) c.runs.next_pairs c.nearest_in.result c.shards-shards.ensures h.ordered c.nearest_in.ensures (inv.5 all h) in
          let at = before_key all h.ordered c.runs.key c.in-Some.last (found ∙ c.in-Some.is) in
          let here = subst (λ z. Contains g.M.MapShard.pairs g.M.MapShard.limit c.args.lock.now all z.1) (sym inv.1) h in
          let listed = down_to g.M.Pages.entry all h.ordered done c.args.start c.args.key before (to + 1) c.runs.key c.runs.written c.runs.buffer (omega (arith, down)) high at.1 known.0 known.1 in
          let more = run_down g.M.Pages.entry all h.ordered done c.args.start c.args.key before first (to + 1) n after (omega (arith, run)) (omega (arith, down, high))
          (c.run_below-count.ensures.written all here (done ++ reverse (between all (to + 1) c.args.key)) before listed.0 listed.1)
          in
          let long = as_long g.M.Pages.entry done before c.args.written c.args.buffer.now w in
          (more, all_of g.M.Pages.entry (done ++ reverse (between all first c.args.key)) before n after more (λ full. ne (omega (arith, full, old, new, long)))),
    )
