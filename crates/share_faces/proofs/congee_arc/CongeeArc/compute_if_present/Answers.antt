use Rattle.share_faces.proofs.Owners.{returns_computed}
use Rattle.share_faces.proofs.congee_arc.CongeeArc.compute_if_present.Goals as goal

pub returns-clause-made : goal.returns-clause-made
returns-clause-made g c =
    rw (← c.into_u64.ensures) (returns_computed _ g.M.Lent.same g.M.Lent.meaning c.self.invariant.0 c.self.invariant.1 c.args.guard.now c.compute_if_present.new.guard
    _ _ _ c.in_ok-both.both c.previous_of.result c.previous_of.ensures c.in_ok-both.ensures.made c.in_ok-both.ensures.asked)
