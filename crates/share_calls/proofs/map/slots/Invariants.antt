-- So many slots are filled as rounds were made, and there is room for the others.
use Rattle.std.proofs.Common.{◌≡◌, ◌≤◌, []}
use Rattle.share_moments.specs.declared.state.State.{State}
use Rattle.share_calls.specs.inner.Filled.{Filled}
use Rattle.share_visits.specs.declared.part.Part.{Part}
use Rattle.share_moments.proofs.Limits.{limit_of}
use Rattle.share_calls.proofs.map.slots.Given as goal

abbrev pub invariant-loop : goal.invariant-loop
invariant-loop l = Filled (λ (part : Part State). ([] ≡ part.map.map.pairs) × (limit_of part.map ≡ l.limit)) l.counter l.slots.items × (l.shards ≤ l.slots.cap)
