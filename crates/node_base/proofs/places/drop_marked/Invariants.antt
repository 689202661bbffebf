use Rattle.std.proofs.Common.{◌≡◌, ℕ, ◌<◌, ◌≤◌, None, length}
use Rattle.node_base.specs.inner.Places.{in_cell}
use Rattle.node_base.proofs.places.drop_marked.Given as goal

abbrev pub invariant-loop-byte : goal.invariant-loop-byte
invariant-loop-byte g l =
    record {
      long : length l.cells.slots ≡ 256;
      gone : (b : ℕ) → b < l.byte → in_cell l.cells.slots b ≡ None;
      kept : (b : ℕ) → l.byte ≤ b → in_cell l.cells.slots b ≡ in_cell l.initial.cells.slots b;
    }
