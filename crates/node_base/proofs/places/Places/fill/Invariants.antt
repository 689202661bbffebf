use Rattle.std.proofs.Common.{◌≡◌, ◌≤◌, take, vec_len, vec_capacity}
use Rattle.node_base.proofs.PlacesLaws.{IsMoved}
use Rattle.node_base.proofs.places.Places.fill.Given as goal

abbrev pub invariant-loop-child : goal.invariant-loop-child
invariant-loop-child g l =
    record {
      inside : vec_len l.row ≤ vec_len l.initial.row;
      rest : l.row.items ≡ take (vec_len l.row) l.initial.row.items;
      done : IsMoved l.bytes l.initial.row.items l.initial.self l.self (vec_len l.row);
      room : vec_capacity l.row ≡ vec_capacity l.initial.row;
    }

abbrev pub decreases-loop-child : goal.decreases-loop-child
decreases-loop-child g l = vec_len l.row
