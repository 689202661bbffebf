use Rattle.std.proofs.Common.{◌≡◌, ◌+◌, ◌-◌, ◌++◌, ◌∙◌, ap, arith, reverse, subst, sym}
use Rattle.share_parts.specs.Parts.{kept}
use Rattle.share_shards.specs.Held.{keys_at}
use Rattle.share_visits.specs.Whole.{Contains, shard_of}
use Rattle.share_visits.specs.Written.{AreWritten}
use Rattle.share_visits.proofs.Running.{next_is_before, next_is_below, none_is_below, put_down}
use Rattle.share_visits.proofs.Writing.{down_to, run_down}
use Rattle.spec_map.specs.Call.{below}
use Rattle.spec_map.specs.Map.{between}
use Rattle.spec_map.specs.Near.{pair_near}
use Rattle.share_visits.proofs.ranges.run_below.Goals as goal

pub returns-in_default-clause-written : goal.returns-in_default-clause-written
returns-in_default-clause-written g c = λ all h done before w is.
    let key = c.args.last.0 in
    let order = c.requires.order in
    let shard_is = c.shard_of_key-shard.ensures.shard ∙ ap (λ n. shard_of n key) c.shards.ensures in
    let next = subst (λ s. c.nearest_at-next.result ≡ pair_near (kept (keys_at (shard_of c.args.lock.now.table.slots) s) all) (below key)) shard_is (c.nearest_at-next.ensures.pair all h) in
    let ends = none_is_below c.args.lock.now.table.slots all h.ordered (shard_of c.args.lock.now.table.slots key) key c.args.start c.nearest_at-next.result order c.requires.one next c.in_default.is in
    let put = put_down g.M.Pages.entry all h.ordered done before key c.args.last.1 c.args.written c.args.buffer.now c.entry_of.result (c.requires.last all h) c.entry_of.ensures w is c.requires.room in
    (down_to g.M.Pages.entry all h.ordered done c.args.start (key + 1) before c.args.start key (c.args.written + 1) _ order (omega arith) ends.none put.0 put.1).0

pub returns-in_default-clause-next : goal.returns-in_default-clause-next
returns-in_default-clause-next g c = λ all h.
    let key = c.args.last.0 in
    let shard_is = c.shard_of_key-shard.ensures.shard ∙ ap (λ n. shard_of n key) c.shards.ensures in
    let next = subst (λ s. c.nearest_at-next.result ≡ pair_near (kept (keys_at (shard_of c.args.lock.now.table.slots) s) all) (below key)) shard_is (c.nearest_at-next.ensures.pair all h) in
    (none_is_below c.args.lock.now.table.slots all h.ordered (shard_of c.args.lock.now.table.slots key) key c.args.start c.nearest_at-next.result c.requires.order c.requires.one next c.in_default.is).next_is

pub returns-then-more-start-clause-written : goal.returns-then-more-start-clause-written
returns-then-more-start-clause-written g c = λ all h done before w is.
    let key = c.args.last.0 in
    let order = c.requires.order in
    let shard_is = c.shard_of_key-shard.ensures.shard ∙ ap (λ n. shard_of n key) c.shards.ensures in
    let next = subst (λ s. c.nearest_at-next.result ≡ pair_near (kept (keys_at (shard_of c.args.lock.now.table.slots) s) all) (below key)) shard_is (c.nearest_at-next.ensures.pair all h) in
    let ends = next_is_before c.args.lock.now.table.slots all h.ordered (shard_of c.args.lock.now.table.slots key) key c.args.start c.nearest_at-next.result (c.in-Some.more, c.in-Some.field-0-1) order c.requires.one next c.in-Some.is c.if-more-start.true in
    let put = put_down g.M.Pages.entry all h.ordered done before key c.args.last.1 c.args.written c.args.buffer.now c.entry_of.result (c.requires.last all h) c.entry_of.ensures w is c.requires.room in
    (down_to g.M.Pages.entry all h.ordered done c.args.start (key + 1) before c.args.start key (c.args.written + 1) _ order (omega arith) ends.none put.0 put.1).0

pub returns-then-more-start-clause-next : goal.returns-then-more-start-clause-next
returns-then-more-start-clause-next g c = λ all h.
    let key = c.args.last.0 in
    let shard_is = c.shard_of_key-shard.ensures.shard ∙ ap (λ n. shard_of n key) c.shards.ensures in
    let next = subst (λ s. c.nearest_at-next.result ≡ pair_near (kept (keys_at (shard_of c.args.lock.now.table.slots) s) all) (below key)) shard_is (c.nearest_at-next.ensures.pair all h) in
    (next_is_before c.args.lock.now.table.slots all h.ordered (shard_of c.args.lock.now.table.slots key) key c.args.start c.nearest_at-next.result (c.in-Some.more, c.in-Some.field-0-1) c.requires.order c.requires.one next c.in-Some.is c.if-more-start.true).next_is

pub overflow_sub-key : goal.overflow_sub-key
overflow_sub-key g c =
    let h = c.requires.all.1 in
    let down = next_is_below c.args.lock.now.table.slots c.requires.all.0 h.ordered c.shard_of_key-shard.result c.args.last.0 c.nearest_at-next.result (c.in-Some.more, c.in-Some.field-0-1) (c.nearest_at-next.ensures.pair c.requires.all.0 h) c.in-Some.is in
    omega (arith, down)

pub returns-clause-written : goal.returns-clause-written
returns-clause-written g c = λ all h done before w is.
    let key = c.args.last.0 in
    let down = next_is_below c.args.lock.now.table.slots all h.ordered c.shard_of_key-shard.result key c.nearest_at-next.result (c.in-Some.more, c.in-Some.field-0-1) (c.nearest_at-next.ensures.pair all h) c.in-Some.is in
    let order = c.requires.order in
    let put = put_down g.M.Pages.entry all h.ordered done before key c.args.last.1 c.args.written c.args.buffer.now c.entry_of.result (c.requires.last all h) c.entry_of.ensures w is c.requires.room in
    let here = subst (λ z. Contains g.M.MapShard.pairs g.M.MapShard.limit c.args.lock.now all z.1) (sym c.nearest_at-next.ensures.same) h in
    let again : key - 1 + 1 ≡ key = omega (arith, down) in
    run_down g.M.Pages.entry all h.ordered done c.args.start (key + 1) before c.args.start key c.page_rest-count.result c.page_rest-count.new.buffer order (omega arith)
    (subst (λ k. AreWritten g.M.Pages.entry ((done ++ reverse (between all key (key + 1))) ++ reverse (between all c.args.start k)) before c.page_rest-count.result c.page_rest-count.new.buffer) again
    (c.page_rest-count.ensures.written all here (done ++ reverse (between all key (key + 1))) before put.0 put.1))

pub returns-clause-next : goal.returns-clause-next
returns-clause-next g c = λ all h.
    let shard_is = c.shard_of_key-shard.ensures.shard ∙ ap (λ n. shard_of n c.args.last.0) c.shards.ensures in
    let there = subst (λ z. Contains g.M.MapShard.pairs g.M.MapShard.limit c.args.lock.now all z.1) (sym (c.page_rest-count.ensures.same ∙ c.nearest_at-next.ensures.same)) h in
    subst (λ s. c.nearest_at.result ≡ pair_near (kept (keys_at (shard_of c.args.lock.now.table.slots) s) all) (below c.args.start)) shard_is (c.nearest_at.ensures.pair all there)
