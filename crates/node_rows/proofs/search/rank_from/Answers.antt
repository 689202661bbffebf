use Rattle.std.proofs.Common.{nat_lt, arith, ◌∙◌}
use Rattle.node_rows.proofs.RankLaws.{rank-lanes}
use Rattle.node_rows.proofs.search.rank_from.Goals as goal

pub returns : goal.returns
returns c = c.rank.ensures ∙ rank-lanes (λ x. nat_lt x c.args.byte) c.args.keys.now c.in-Some.lanes.now c.args.from _ c.args.count (omega (arith, c.told-keys, c.requires.inside)) c.requires.few c.in-Some.ensures.cases.same
