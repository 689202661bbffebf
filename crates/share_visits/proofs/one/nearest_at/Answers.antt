use Rattle.std.proofs.Common.{ap, sym, ◌∙◌}
use Rattle.share_visits.specs.Near.{near_of}
use Rattle.share_visits.proofs.Nearing.{nearer_nothing}
use Rattle.spec_map.specs.Near.{pair_near}
use Rattle.share_visits.proofs.one.nearest_at.Goals as goal

pub returns-clause-same : goal.returns-clause-same
returns-clause-same g c =
    let t = c.visit_one.ensures.visited c.requires.all.0 c.requires.all.1 in
    λ i. (c.visit_one.ensures.view i, t.stays t.visited.stays i)

pub returns-clause-pair : goal.returns-clause-pair
returns-clause-pair g c = λ all h.
    let t = c.visit_one.ensures.visited all h in
    t.visited.keeps ∙ (nearer_nothing (near_of c.args.near) (pair_near (g.M.MapShard.pairs t.part.map) (near_of c.args.near)) ∙ ap (λ l. pair_near l (near_of c.args.near)) (sym t.contains))
