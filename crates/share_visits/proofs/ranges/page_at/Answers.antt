use Rattle.std.proofs.Common.{ap, sym, ◌∙◌, ℕ}
use Rattle.share_visits.specs.Whole.{shard_of}
use Rattle.share_visits.proofs.Listing.{listed_run}
use Rattle.share_visits.proofs.ranges.page_at.Goals as goal

pub returns-clause-same : goal.returns-clause-same
returns-clause-same g c =
    let t = c.visit_one.ensures.visited c.requires.all.0 c.requires.all.1 in
    λ i. (c.visit_one.ensures.view i, t.stays t.visited.stays i)

pub returns-clause-written : goal.returns-clause-written
returns-clause-written g c = λ all h.
    let t = c.visit_one.ensures.visited all h in
    listed_run g.M.MapShard.pairs g.M.Pages.entry c.args.lock.now.table.slots c.shard_of_key-shard.result all t.part c.args.start c.args.last c.args.back c.args.buffer.now c.visit_one.new.buffer c.visit_one.new.visit.written t.contains
    (λ k from to. c.requires.one k from to ∙ sym (c.shard_of_key-shard.ensures.shard ∙ ap (λ (n : ℕ). shard_of n c.args.start) c.shards.ensures)) t.visited.written
