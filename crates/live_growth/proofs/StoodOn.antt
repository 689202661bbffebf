-- Where an insertion has come to, as its seat grows the map, or holds a node.
use Rattle.std.proofs.Common.{ℕ, ◌<◌, ◌≤◌, List, sym, subst, arith}
use Rattle.live_nodes.specs.Seats.{Place, SeatView, IsIn}
use Rattle.live_nodes.specs.Levels.{Spot}
use Rattle.live_nodes.specs.Views.{View}
use Rattle.live_reads.specs.Paths.{Names}
use Rattle.live_reads.specs.Positions.{KnowsPosition}
use Rattle.live_growth.specs.Holds.{HasRest}
use Rattle.live_growth.specs.Rooms.{HasGrown}
use Rattle.live_reads.specs.declared.descend.Position.{Position}
use Rattle.live_reads.proofs.Stood.{position_known}

abbrev Seen : Type 0
Seen = SeatView View

pub position_grown : (v w : Seen) (key : ℕ) (s : Position) → HasGrown v w → KnowsPosition v key s → KnowsPosition w key s
position_grown v w key s g = position_known v w g.places g.met key s

pub position_rest : (v w : Seen) (key : ℕ) (s : Position) → HasRest v w → KnowsPosition v key s → KnowsPosition w key s
position_rest v w key s r = position_known v w (λ p h. subst (λ (ps : List Place). IsIn p ps) (sym r.alike.places) h) (λ a h. subst (λ (l : List Spot). IsIn a l) (sym r.alike.met) h) key s

-- below it
pub position_under : (v : Seen) (key : ℕ) (s : Position) (name height : ℕ) → KnowsPosition v key s → Names v name key height → 1 ≤ height → height < s.height → KnowsPosition v key (record { above = s.name; level = s.height; name = name; height = height })
position_under v key s name height e n some lower = record {
  named = n;
  upper = λ _. e.named;
  lower = λ _. lower;
  level = e.high;
  low = some;
  high = (let h = e.high in omega (arith, h, lower));
}
