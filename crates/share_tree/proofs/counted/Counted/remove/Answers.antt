use Rattle.std.proofs.Common.{◌^◌, refl, sym, ◌∙◌}
use Rattle.spec_map.proofs.MapLaws.{Rises-without, without-absent}
use Rattle.share_tree.proofs.Onward.{onward_still, onward_without}
use Rattle.share_tree.proofs.counted.Counted.remove.Goals as goal

pub invariant_of-self : goal.invariant_of-self
invariant_of-self g c =
    rw c.remove.ensures.pairs (Rises-without 0 (2 ^ 64) c.self.inside.tree.pairs c.args.key c.self.invariant)

pub invariant_of-self-in-None : goal.invariant_of-self-in-None
invariant_of-self-in-None g c =
    rw c.remove.ensures.pairs (Rises-without 0 (2 ^ 64) c.self.inside.tree.pairs c.args.key c.self.invariant)

pub returns-in-Some-clause-onward : goal.returns-in-Some-clause-onward
returns-in-Some-clause-onward g c =
    let e = c.raise.ensures in
    rw (← c.self.view_is) (onward_without g.P.HasMeaning.meaning _ _ c.args.key e.small e.own e.others c.remove.ensures.pairs)

pub returns-in-None-clause-onward : goal.returns-in-None-clause-onward
returns-in-None-clause-onward g c =
    let absent = sym c.remove.ensures.before ∙ c.in-None.is in
    rw (← c.self.view_is) (onward_still g.P.HasMeaning.meaning _ _ (c.remove.ensures.pairs ∙ without-absent c.self.inside.tree.pairs c.args.key absent) refl)
