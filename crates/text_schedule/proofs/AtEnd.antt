-- The contents of a trace come to the content at its end.
use Rattle.std.proofs.Common.{◌≡◌, ℕ, List, [], ◌∷◌, Option, refl, sym}
use Rattle.spec_map.specs.Map.{Pairs}
use Rattle.spec_olc.specs.Linearizable.{PendingCall, Decides, Linearizes}
use Rattle.spec_olc.specs.declared.trace.Decision.{Decision}
use Rattle.spec_olc.specs.declared.trace.Line.{Line}
use Rattle.spec_olc.specs.declared.trace.Line.TheVariants.{Done as Made, Skipped}
use Rattle.spec_olc.specs.declared.types.Event.{Event}
use Rattle.spec_olc.specs.declared.types.Event.TheVariants.{Start, Step, Reclaim}
use Rattle.spec_olc.specs.declared.types.Outcome.{Outcome}
use Rattle.spec_olc.specs.declared.types.Outcome.TheVariants.{Going, Ask, Pair, Decided, Refused, Done, Unknown}
use Rattle.spec_olc.specs.declared.types.Report.{Report}
use Rattle.spec_olc.specs.declared.types.Seen.{Seen}
use Rattle.text_schedule.specs.inner.AtEnd.{map_at_end}

module _ (report : Report) (seen : Option (Seen ℕ)) (lines : List Line) (m : Pairs ℕ) where
  -- a line that decides nothing leaves the map
  goes_on : (out : Outcome ℕ) (ds : List Decision) → out ≡ Going → map_at_end m (Made report out seen ∷ lines) ds ≡ map_at_end m lines ds
  goes_on out ds going = rw going refl

  -- a step leaves the map that its decision does
  decides : (id : ℕ) (call : PendingCall) (out : Outcome ℕ) (ds later : List Decision) (n : Pairs ℕ) → Decides id call out ds later m n
      → map_at_end m (Made report out seen ∷ lines) ds ≡ map_at_end n lines later
  decides id call (Decided reply) ds later n d = rw (d.2, d.3.1) refl
  decides id call Going ds later n d = rw (d.0, d.1) refl
  decides id call (Ask old) ds later n d = rw (d.0, d.1) refl
  decides id call (Pair key value) ds later n d = rw (d.0, d.1) refl
  decides id call Refused ds later n d = rw (d.0, d.1) refl
  decides id call Done ds later n d = rw (d.0, d.1) refl
  decides id call Unknown ds later n d = rw (d.0, d.1) refl

pub ends_at : (events : List (Event ℕ)) (lines : List Line) (ds : List Decision) (calls : ℕ → Option PendingCall) (m last : Pairs ℕ) → Linearizes calls m events lines ds last
    → map_at_end m lines ds ≡ last
ends_at [] [] [] calls m last l = sym l
ends_at [] [] (d ∷ ds) calls m last l = absurd l
ends_at [] (line ∷ lines) ds calls m last l = absurd l
ends_at (Start i op ∷ events) [] ds calls m last l = absurd l
ends_at (Step i env ∷ events) [] ds calls m last l = absurd l
ends_at (Reclaim slot ∷ events) [] ds calls m last l = absurd l
ends_at (Start i op ∷ events) (Skipped ∷ lines) ds calls m last l = ends_at events lines ds calls m last l
ends_at (Step i env ∷ events) (Skipped ∷ lines) ds calls m last l = ends_at events lines ds calls m last l
ends_at (Reclaim slot ∷ events) (Skipped ∷ lines) ds calls m last l = ends_at events lines ds calls m last l
ends_at (Reclaim slot ∷ events) (Made report out seen ∷ lines) ds calls m last l = rw (goes_on report seen lines m out ds l.0) (ends_at events lines ds calls m last l.1)
ends_at (Start i op ∷ events) (Made report out seen ∷ lines) ds calls m last l = rw (goes_on report seen lines m out ds l.1) (ends_at events lines ds _ m last l.2)
ends_at (Step i env ∷ events) (Made report out seen ∷ lines) ds calls m last l =
    rw (decides report seen lines m i l.0 out ds l.1 l.2 l.5) (ends_at events lines l.1 _ l.2 last l.6)
