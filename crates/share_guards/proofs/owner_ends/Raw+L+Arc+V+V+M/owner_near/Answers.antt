use Rattle.std.proofs.Common.{subst}
use Rattle.std.specs.Arc.{arc_value}
use Rattle.std.specs.Prelude.{IfOk}
use Rattle.share_backend.specs.Owners.{never_same}
use Rattle.share_guards.proofs.OwnerEnds.{found_made, found_still}
use Rattle.share_guards.specs.Many.{owned_pair}
use Rattle.share_guards.specs.Operations.{returned}
use Rattle.share_rule.specs.Known.{MadeCall}
use Rattle.share_rule.specs.inner.Steps.{known_of}
use Rattle.share_works.specs.Ends.{near_of}
use Rattle.spec_map.specs.Call.{found, nearest}
use Rattle.share_guards.proofs.owner_ends.Raw+L+Arc+V+V+M.owner_near.Goals as goal

pub returns-clause-made : goal.returns-clause-made
returns-clause-made g c =
    let h = c.hold.ensures.held in let w = c.hold.new.work in let m = c.guard.inside.seat in let n = c.hold.new.seat in
    rw (← c.guard.view_is) (subst (λ place. IfOk w.found (λ pair. MadeCall never_same (known_of m.table_id m.me) (returned (nearest (near_of place)) (found (owned_pair (λ owner. arc_value owner) pair))) (known_of n.table_id n.me))) h.2
    (found_made m.table_id n.table_id m.me n.me c.hold.ensures.table g.M.Lent.same never_same c.owners_mean_their_values.ensures.same (λ owner. arc_value owner) (near_of w.near) w.found h.1))

pub returns-clause-unchanged : goal.returns-clause-unchanged
returns-clause-unchanged g c =
    let h = c.hold.ensures.held in let w = c.hold.new.work in let m = c.guard.inside.seat in let n = c.hold.new.seat in
    rw (← c.guard.view_is) (found_still m.table_id n.table_id m.me n.me c.hold.ensures.table g.M.Lent.same never_same c.owners_mean_their_values.ensures.same (λ owner. arc_value owner) (near_of w.near) w.found h.1)
