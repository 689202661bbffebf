use Rattle.std.proofs.Common.{rules, ◌^◌}
use Rattle.std.proofs.lemmas.List.Sorted.{answers_always}
use Rattle.congee_tree.proofs.Places.{searched}
use Rattle.congee_tree.proofs.sorted_pairs.search.Goals as goal

-- the closure returns a pair's key
pub returns : goal.returns
returns g c =
    let facts = c.binary_search_by_key.ensures in
    let by_key = facts.position (λ pair. pair.0) (answers_always _ _ _ (λ f a r g called. search rules)) in
    searched c.args.pairs.now 0 (2 ^ 64) c.requires c.args.key _ facts.bound by_key
