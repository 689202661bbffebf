use Rattle.std.proofs.Common.{ℕ, ◌+◌, [], ◌∷◌, None, sym, subst}
use lib.ListN.{replicate}
use Rattle.live_nodes.specs.Nodes.{node_at}
use Rattle.live_nodes.specs.Rule.{IsLive}
use Rattle.live_nodes.specs.Seats.{seat_view, place, no_room}
use Rattle.live_nodes.proofs.Rooms.{may_open}
use Rattle.live_nodes.proofs.room.open.Goals as goal

pub open-requires : goal.open-requires
open-requires g c =
    let root = g.L.NodeLaw.root in let P = g.L.NodeLaw.holds in let first = g.L.NodeLaw.first in let same = c.requires.root.0 in
    subst (λ (z : ℕ). IsLive root P record { words = replicate (z + 2) 0; views = seat_view first (place 0 1 root ∷ []) [] [] no_room ∷ [] }) (sym same)
    (may_open root P first (subst (λ (z : ℕ). P (node_at 1 0 (replicate z 0) None ∷ []) (first ∷ [])) same c.requires.law))
