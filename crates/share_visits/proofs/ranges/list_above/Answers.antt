use Rattle.std.proofs.Common.{◌≡◌, ◌+◌, ◌++◌, ◌∙◌, ap, arith, subst, sym}
use Rattle.share_parts.specs.Parts.{kept}
use Rattle.share_shards.specs.Held.{keys_at}
use Rattle.share_visits.specs.Whole.{Contains, shard_of}
use Rattle.share_visits.specs.Written.{AreWritten}
use Rattle.share_visits.proofs.Nearing.{above_next, found_near}
use Rattle.share_visits.proofs.Numbers.{few_shards}
use Rattle.share_visits.proofs.Running.{stored_above}
use Rattle.share_visits.proofs.Splitting.{after_key, between_none, none_after, past_last}
use Rattle.share_visits.proofs.Writing.{all_of, as_long, no_more, run_up, up_full, up_to}
use Rattle.spec_map.specs.Call.{above}
use Rattle.spec_map.specs.Map.{between}
use Rattle.spec_map.specs.Near.{pair_near}
use Rattle.share_visits.proofs.ranges.list_above.Goals.{then-count-buffer-via-then-count-buffer, then-count-buffer-via-else-count-buffer+then-end-last}
use Rattle.share_visits.proofs.ranges.list_above.Goals as goal

pub runs-init : goal.runs-init
runs-init g c =
    let order = c.requires.order in
    let room = c.requires.room in (
      c.nearest_of_each-next_pairs.ensures.table,
      c.nearest_of_each-next_pairs.ensures.same,
      omega arith,
      order,
      room,
      c.nearest_of_each-next_pairs.ensures.each,
      λ all h done before w is. no_more g.M.Pages.entry done (between all (c.args.key + 1) (c.args.key + 1)) before c.args.written c.args.buffer.now (between_none all (c.args.key + 1) (c.args.key + 1) (omega arith)) w is,
    )

pub returns-in_default-clause-written : goal.returns-in_default-clause-written
returns-in_default-clause-written g c = λ all h done before w is.
    let inv = c.runs.invariant in
    let low = inv.2 in
    let high = inv.3 in
    let known = inv.6 all h done before w is in
    let found = found_near c.args.lock.now.table.slots all c.shards-shards.result (above c.runs.key) c.runs.next_pairs c.nearest_in.result c.shards-shards.ensures h.ordered c.nearest_in.ensures (inv.5 all h) in
    (up_to g.M.Pages.entry all h.ordered done (c.args.key + 1) (c.args.last + 1) before (c.runs.key + 1) (c.args.last + 1) c.runs.written c.runs.buffer (omega (arith, low)) (omega (arith, high))
    (none_after all h.ordered c.runs.key c.args.last c.ranges.last.fits (found ∙ c.in_default.is)) known.0 known.1).0

pub returns-then-last-first-clause-written : goal.returns-then-last-first-clause-written
returns-then-last-first-clause-written g c = λ all h done before w is.
    let inv = c.runs.invariant in
    let low = inv.2 in
    let high = inv.3 in
    let known = inv.6 all h done before w is in
    let found = found_near c.args.lock.now.table.slots all c.shards-shards.result (above c.runs.key) c.runs.next_pairs c.nearest_in.result c.shards-shards.ensures h.ordered c.nearest_in.ensures (inv.5 all h) in
    let at = after_key all h.ordered c.runs.key c.in-Some.first (found ∙ c.in-Some.is) in
    (up_to g.M.Pages.entry all h.ordered done (c.args.key + 1) (c.args.last + 1) before (c.runs.key + 1) (c.args.last + 1) c.runs.written c.runs.buffer (omega (arith, low)) (omega (arith, high))
    (past_last all h.ordered c.runs.key c.args.last c.in-Some.first.0 c.if-last-first.true at.2) known.0 known.1).0

pub run_above-count-requires-clause-first : goal.run_above-count-requires-clause-first
run_above-count-requires-clause-first g c = λ all here.
    let inv = c.runs.invariant in
    let h = subst (λ z. Contains g.M.MapShard.pairs g.M.MapShard.limit c.args.lock.now all z.1) inv.1 here in
    stored_above all h.ordered c.runs.key c.in-Some.first
    (found_near c.args.lock.now.table.slots all c.shards-shards.result (above c.runs.key) c.runs.next_pairs c.nearest_in.result c.shards-shards.ensures h.ordered c.nearest_in.ensures (inv.5 all h) ∙ c.in-Some.is)

pub returns-then-count-buffer-clause-written : goal.returns-then-count-buffer-clause-written
returns-then-count-buffer-clause-written g c = λ all h done before w is.
    let inv = c.runs.invariant in
    let low = inv.2 in
    let known = inv.6 all h done before w is in
    let after = c.run_above-count.new.buffer in let n = c.run_above-count.result.0 in
    let from = c.in-Some.first.0 in let end = c.run_end-end.result in
    let run = c.run_end-end.ensures.from in
    let high = c.run_end-end.ensures.to in
    let found = found_near c.args.lock.now.table.slots all c.shards-shards.result (above c.runs.key) c.runs.next_pairs c.nearest_in.result c.shards-shards.ensures h.ordered c.nearest_in.ensures (inv.5 all h) in
    let at = after_key all h.ordered c.runs.key c.in-Some.first (found ∙ c.in-Some.is) in
    let up = at.0 in
    let here = subst (λ z. Contains g.M.MapShard.pairs g.M.MapShard.limit c.args.lock.now all z.1) (sym inv.1) h in
    let listed = up_to g.M.Pages.entry all h.ordered done (c.args.key + 1) (c.args.last + 1) before (c.runs.key + 1) from c.runs.written c.runs.buffer (omega (arith, low)) (omega (arith, up)) at.2 known.0 known.1 in
    let more = run_up g.M.Pages.entry all h.ordered done (c.args.key + 1) (c.args.last + 1) before from end n after (omega (arith, low, up)) run
    (c.run_above-count.ensures.written all here (done ++ between all (c.args.key + 1) from) before listed.0 listed.1)
    in
    let long = as_long g.M.Pages.entry done before c.args.written c.args.buffer.now w in
    let old = c.runs.auto.buffer in let new = c.run_above-count.auto.buffer in
    elim c.then-count-buffer.branch [
      | then-count-buffer-via-then-count-buffer b ↦
          let full = b.if-count-buffer.true in
          up_full g.M.Pages.entry all h.ordered done (c.args.key + 1) (c.args.last + 1) before (end + 1) n after (omega (arith, low, up, run)) (omega (arith, high)) more (omega (arith, full, old, new, long))
      | then-count-buffer-via-else-count-buffer+then-end-last b ↦
          subst (λ k. AreWritten g.M.Pages.entry (done ++ between all (c.args.key + 1) (k + 1)) before n after) b.if-end-last.true more
    ]

pub runs-smaller : goal.runs-smaller
runs-smaller g c =
    let inv = c.runs.invariant in
    let all = c.requires.all.0 in
    let h = c.requires.all.1 in
    let found = found_near c.args.lock.now.table.slots all c.shards-shards.result (above c.runs.key) c.runs.next_pairs c.nearest_in.result c.shards-shards.ensures h.ordered c.nearest_in.ensures (inv.5 all h) in
    let at = after_key all h.ordered c.runs.key c.in-Some.first (found ∙ c.in-Some.is) in
    let up = at.0 in
    let run = c.run_end-end.ensures.from in
    let high = c.run_end-end.ensures.to in
    omega (arith, up, run, high)

pub runs-preserved : goal.runs-preserved
runs-preserved g c =
    let inv = c.runs.invariant in
    let low = inv.2 in
    let after = c.run_above-count.new.buffer in let n = c.run_above-count.result.0 in
    let from = c.in-Some.first.0 in let end = c.run_end-end.result in
    let run = c.run_end-end.ensures.from in
    let high = c.run_end-end.ensures.to in
    let old = c.runs.auto.buffer in let new = c.run_above-count.auto.buffer in
    let within = c.run_above-count.ensures.within in
    let ne = c.if-count-buffer.false in
    let other = c.if-end-last.false in
    let first = c.requires.all.1 in
    let first_found = found_near c.args.lock.now.table.slots c.requires.all.0 c.shards-shards.result (above c.runs.key) c.runs.next_pairs c.nearest_in.result c.shards-shards.ensures first.ordered c.nearest_in.ensures (inv.5 c.requires.all.0 first)
    in
    let first_at = after_key c.requires.all.0 first.ordered c.runs.key c.in-Some.first (first_found ∙ c.in-Some.is) in
    let up = first_at.0 in
    let many = c.shards-shards.ensures in
    let mine = c.shard_of_key.ensures.within in
    let shard_is = c.shard_of_key.ensures.shard ∙ ap (λ n. shard_of n from) many in (
      c.run_above-count.ensures.table ∙ inv.0,
      c.run_above-count.ensures.same ∙ inv.1,
      omega (arith, low, up, run),
      omega (arith, high, other),
      omega (arith, within, new, ne),
      λ all h.
          let found = found_near c.args.lock.now.table.slots all c.shards-shards.result (above c.runs.key) c.runs.next_pairs c.nearest_in.result c.shards-shards.ensures h.ordered c.nearest_in.ensures (inv.5 all h) in
          let at = after_key all h.ordered c.runs.key c.in-Some.first (found ∙ c.in-Some.is) in
          let here = subst (λ z. Contains g.M.MapShard.pairs g.M.MapShard.limit c.args.lock.now all z.1) (sym inv.1) h in
          above_next c.args.lock.now.table.slots all h.ordered c.shard_of_key.result c.runs.key from end c.runs.next_pairs c.run_above-count.result.1 (omega (arith, mine, many)) (few_shards c.args.lock.now.table.slots c.requires.shards)
          (λ k from_here to. subst (λ j. shard_of j k ≡ c.shard_of_key.result) many (c.run_end-end.ensures.one k from_here to ∙ sym c.shard_of_key.ensures.shard))
          at.0 run (omega (arith, high, c.ranges.last.fits)) at.2 (inv.5 all h) (subst (λ s. c.run_above-count.result.1 ≡ pair_near (kept (keys_at (shard_of c.args.lock.now.table.slots) s) all) (above end)) (sym shard_is) (c.run_above-count.ensures.next all here)),
      λ all h done before w is.
          let known = inv.6 all h done before w is in
          let found = found_near c.args.lock.now.table.slots all c.shards-shards.result (above c.runs.key) c.runs.next_pairs c.nearest_in.result c.shards-shards.ensures h.ordered c.nearest_in.ensures (inv.5 all h) in
          let at = after_key all h.ordered c.runs.key c.in-Some.first (found ∙ c.in-Some.is) in
          let here = subst (λ z. Contains g.M.MapShard.pairs g.M.MapShard.limit c.args.lock.now all z.1) (sym inv.1) h in
          let listed = up_to g.M.Pages.entry all h.ordered done (c.args.key + 1) (c.args.last + 1) before (c.runs.key + 1) from c.runs.written c.runs.buffer (omega (arith, low)) (omega (arith, up)) at.2 known.0 known.1 in
          let more = run_up g.M.Pages.entry all h.ordered done (c.args.key + 1) (c.args.last + 1) before from end n after (omega (arith, low, up)) run
          (c.run_above-count.ensures.written all here (done ++ between all (c.args.key + 1) from) before listed.0 listed.1)
          in
          let long = as_long g.M.Pages.entry done before c.args.written c.args.buffer.now w in
          (more, all_of g.M.Pages.entry (done ++ between all (c.args.key + 1) (end + 1)) before n after more (λ full. ne (omega (arith, full, old, new, long)))),
    )
