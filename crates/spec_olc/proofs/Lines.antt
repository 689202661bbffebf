-- A replay has one line for each event.
use Rattle.std.proofs.Common.{◌≡◌, ℕ, List, [], ◌∷◌, length, refl, ap, ◌∙◌, sym, arith}
use Rattle.spec_map.specs.Map.{Pairs}
use Rattle.spec_olc.specs.Replay.{IsReplayed}
use Rattle.spec_olc.specs.Runs.{Transition, events_in, lines_in}
use Rattle.spec_olc.specs.declared.trace.Decision.{Decision}
use Rattle.spec_olc.specs.declared.trace.Line.{Line}
use Rattle.spec_olc.specs.declared.types.Event.{Event}

as_many : (xs : List Transition) → length (lines_in xs) ≡ length (events_in xs)
as_many [] = refl
as_many (x ∷ xs) = omega (arith, as_many xs)

pub line_for_each : (events : List (Event ℕ)) (lines : List Line) (decided : List Decision) (content : Pairs ℕ) → IsReplayed events lines decided content → length lines ≡ length events
line_for_each events lines decided content r = ap length (sym r.run.lines_are) ∙ (as_many r.run.entries ∙ ap length r.run.events_are)
