use Rattle.std.specs.Arc.{arc_value}
use Rattle.share_backend.specs.Owners.{never_same}
use Rattle.share_guards.proofs.OwnerEnds.{popped_made}
use Rattle.share_guards.specs.Many.{owned_pair}
use Rattle.spec_map.specs.Call.{last}
use Rattle.share_guards.proofs.owner_ends.Raw+L+Arc+V+V+M.pop_last_owner.Goals as goal

pub returns : goal.returns
returns g c =
    let h = c.hold.ensures.held in let m = c.guard.inside.seat in let n = c.hold.new.seat in
    record {
      made = rw (← c.guard.view_is) (popped_made m.table_id n.table_id m.me n.me c.hold.ensures.table g.M.Lent.same never_same c.owners_mean_their_values.ensures.same
          last (owned_pair (λ owner. arc_value owner) c.hold.new.work.pair) h.1);
    }
