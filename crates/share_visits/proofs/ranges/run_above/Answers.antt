use Rattle.std.proofs.Common.{◌≡◌, ◌+◌, ◌++◌, ◌∙◌, ap, arith, subst, sym}
use Rattle.share_parts.specs.Parts.{kept}
use Rattle.share_shards.specs.Held.{keys_at}
use Rattle.share_visits.specs.Whole.{Contains, shard_of}
use Rattle.share_visits.proofs.Running.{next_is_above, next_is_past, none_is_above, put_up}
use Rattle.share_visits.proofs.Writing.{run_up, up_to}
use Rattle.spec_map.specs.Call.{above}
use Rattle.spec_map.specs.Map.{between}
use Rattle.spec_map.specs.Near.{pair_near}
use Rattle.share_visits.proofs.ranges.run_above.Goals as goal

pub returns-in_default-clause-written : goal.returns-in_default-clause-written
returns-in_default-clause-written g c = λ all h done before w is.
    let key = c.args.first.0 in let end = c.args.end in
    let order = c.requires.order in
    let shard_is = c.shard_of_key-shard.ensures.shard ∙ ap (λ n. shard_of n key) c.shards.ensures in
    let next = subst (λ s. c.nearest_at-next.result ≡ pair_near (kept (keys_at (shard_of c.args.lock.now.table.slots) s) all) (above key)) shard_is (c.nearest_at-next.ensures.pair all h) in
    let ends = none_is_above c.args.lock.now.table.slots all h.ordered (shard_of c.args.lock.now.table.slots key) key end c.nearest_at-next.result order c.ranges.end.fits c.requires.one next c.in_default.is in
    let put = put_up g.M.Pages.entry all h.ordered done before key c.args.first.1 c.args.written c.args.buffer.now c.entry_of.result (c.requires.first all h) c.entry_of.ensures w is c.requires.room in
    (up_to g.M.Pages.entry all h.ordered done key (end + 1) before (key + 1) (end + 1) (c.args.written + 1) _ (omega arith) (omega (arith, order)) ends.none put.0 put.1).0

pub returns-in_default-clause-next : goal.returns-in_default-clause-next
returns-in_default-clause-next g c = λ all h.
    let key = c.args.first.0 in
    let shard_is = c.shard_of_key-shard.ensures.shard ∙ ap (λ n. shard_of n key) c.shards.ensures in
    let next = subst (λ s. c.nearest_at-next.result ≡ pair_near (kept (keys_at (shard_of c.args.lock.now.table.slots) s) all) (above key)) shard_is (c.nearest_at-next.ensures.pair all h) in
    (none_is_above c.args.lock.now.table.slots all h.ordered (shard_of c.args.lock.now.table.slots key) key c.args.end c.nearest_at-next.result c.requires.order c.ranges.end.fits c.requires.one next c.in_default.is).next_is

pub returns-then-end-more-clause-written : goal.returns-then-end-more-clause-written
returns-then-end-more-clause-written g c = λ all h done before w is.
    let key = c.args.first.0 in let end = c.args.end in
    let order = c.requires.order in
    let shard_is = c.shard_of_key-shard.ensures.shard ∙ ap (λ n. shard_of n key) c.shards.ensures in
    let next = subst (λ s. c.nearest_at-next.result ≡ pair_near (kept (keys_at (shard_of c.args.lock.now.table.slots) s) all) (above key)) shard_is (c.nearest_at-next.ensures.pair all h) in
    let ends = next_is_past c.args.lock.now.table.slots all h.ordered (shard_of c.args.lock.now.table.slots key) key end c.nearest_at-next.result (c.in-Some.more, c.in-Some.field-0-1) order c.ranges.end.fits c.requires.one next c.in-Some.is c.if-end-more.true
    in
    let put = put_up g.M.Pages.entry all h.ordered done before key c.args.first.1 c.args.written c.args.buffer.now c.entry_of.result (c.requires.first all h) c.entry_of.ensures w is c.requires.room in
    (up_to g.M.Pages.entry all h.ordered done key (end + 1) before (key + 1) (end + 1) (c.args.written + 1) _ (omega arith) (omega (arith, order)) ends.none put.0 put.1).0

pub returns-then-end-more-clause-next : goal.returns-then-end-more-clause-next
returns-then-end-more-clause-next g c = λ all h.
    let key = c.args.first.0 in
    let shard_is = c.shard_of_key-shard.ensures.shard ∙ ap (λ n. shard_of n key) c.shards.ensures in
    let next = subst (λ s. c.nearest_at-next.result ≡ pair_near (kept (keys_at (shard_of c.args.lock.now.table.slots) s) all) (above key)) shard_is (c.nearest_at-next.ensures.pair all h) in
    (next_is_past c.args.lock.now.table.slots all h.ordered (shard_of c.args.lock.now.table.slots key) key c.args.end c.nearest_at-next.result (c.in-Some.more, c.in-Some.field-0-1) c.requires.order c.ranges.end.fits c.requires.one next c.in-Some.is c.if-end-more.true).next_is

pub overflow_add-key : goal.overflow_add-key
overflow_add-key g c =
    let h = c.requires.all.1 in
    let up = next_is_above c.args.lock.now.table.slots c.requires.all.0 h.ordered c.shard_of_key-shard.result c.args.first.0 c.nearest_at-next.result (c.in-Some.more, c.in-Some.field-0-1) (c.nearest_at-next.ensures.pair c.requires.all.0 h) c.in-Some.is in
    let past = c.if-end-more.false in
    let fits = c.ranges.end.fits in
    omega (arith, up, past, fits)

pub returns-clause-written : goal.returns-clause-written
returns-clause-written g c = λ all h done before w is.
    let key = c.args.first.0 in let end = c.args.end in
    let up = next_is_above c.args.lock.now.table.slots all h.ordered c.shard_of_key-shard.result key c.nearest_at-next.result (c.in-Some.more, c.in-Some.field-0-1) (c.nearest_at-next.ensures.pair all h) c.in-Some.is in
    let past = c.if-end-more.false in
    let put = put_up g.M.Pages.entry all h.ordered done before key c.args.first.1 c.args.written c.args.buffer.now c.entry_of.result (c.requires.first all h) c.entry_of.ensures w is c.requires.room in
    let here = subst (λ z. Contains g.M.MapShard.pairs g.M.MapShard.limit c.args.lock.now all z.1) (sym c.nearest_at-next.ensures.same) h in
    run_up g.M.Pages.entry all h.ordered done key (end + 1) before (key + 1) end c.page_rest-count.result c.page_rest-count.new.buffer (omega arith) (omega (arith, up, past))
    (c.page_rest-count.ensures.written all here (done ++ between all key (key + 1)) before put.0 put.1)

pub returns-clause-next : goal.returns-clause-next
returns-clause-next g c = λ all h.
    let shard_is = c.shard_of_key-shard.ensures.shard ∙ ap (λ n. shard_of n c.args.first.0) c.shards.ensures in
    let there = subst (λ z. Contains g.M.MapShard.pairs g.M.MapShard.limit c.args.lock.now all z.1) (sym (c.page_rest-count.ensures.same ∙ c.nearest_at-next.ensures.same)) h in
    subst (λ s. c.nearest_at.result ≡ pair_near (kept (keys_at (shard_of c.args.lock.now.table.slots) s) all) (above c.args.end)) shard_is (c.nearest_at.ensures.pair all there)
