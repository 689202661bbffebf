-- The decisions of a linearizable trace are a legal history.
use Rattle.std.proofs.Common.{ℕ, List, [], ◌∷◌, Option, sym, subst}
use Rattle.spec_map.specs.Map.{Pairs}
use Rattle.spec_olc.specs.Runs.{IsHistory}
use Rattle.spec_olc.specs.declared.trace.Decision.{Decision}
use Rattle.spec_olc.specs.declared.trace.Line.{Line}
use Rattle.spec_olc.specs.declared.trace.Line.TheVariants.{Done as Made, Skipped}
use Rattle.spec_olc.specs.declared.types.Event.{Event}
use Rattle.spec_olc.specs.declared.types.Event.TheVariants.{Start, Step, Reclaim}
use Rattle.spec_olc.specs.declared.types.Outcome.{Outcome}
use Rattle.spec_olc.specs.declared.types.Outcome.TheVariants.{Decided}
use Rattle.spec_olc.specs.Linearizable.{PendingCall, Decides, Linearizes}

-- what a step decides, before a history of the later decisions
decided_then : (id : ℕ) (call : PendingCall) (out : Outcome ℕ) (ds later : List Decision) (m n last : Pairs ℕ) → Decides id call out ds later m n → IsHistory n later last → IsHistory m ds last
decided_then id call (Decided reply) ds later m n last d then =
    subst (λ (l : List Decision). IsHistory m l last) (sym d.2)
    (d.3.0, subst (λ (k : Pairs ℕ). IsHistory k later last) d.3.1 then)
decided_then id call out ds later m n last d then = subst (λ (l : List Decision). IsHistory m l last) (sym d.0) (subst (λ (k : Pairs ℕ). IsHistory k later last) d.1 then)

pub history_on : (events : List (Event ℕ)) (lines : List Line) (ds : List Decision) (calls : ℕ → Option PendingCall) (m last : Pairs ℕ) → Linearizes calls m events lines ds last → IsHistory m ds last
history_on [] [] [] calls m last l = l
history_on [] [] (d ∷ ds) calls m last l = absurd l
history_on [] (line ∷ lines) ds calls m last l = absurd l
history_on (Start i op ∷ events) [] ds calls m last l = absurd l
history_on (Step i env ∷ events) [] ds calls m last l = absurd l
history_on (Reclaim slot ∷ events) [] ds calls m last l = absurd l
history_on (Start i op ∷ events) (Skipped ∷ lines) ds calls m last l = history_on events lines ds calls m last l
history_on (Step i env ∷ events) (Skipped ∷ lines) ds calls m last l = history_on events lines ds calls m last l
history_on (Reclaim slot ∷ events) (Skipped ∷ lines) ds calls m last l = history_on events lines ds calls m last l
history_on (Reclaim slot ∷ events) (Made report out seen ∷ lines) ds calls m last l = history_on events lines ds calls m last l.1
history_on (Start i op ∷ events) (Made report out seen ∷ lines) ds calls m last l = history_on events lines ds _ m last l.2
history_on (Step i env ∷ events) (Made report out seen ∷ lines) ds calls m last l = decided_then i l.0 out ds l.1 m l.2 last l.5 (history_on events lines l.1 _ l.2 last l.6)
