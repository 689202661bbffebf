-- A run, with the inside of the machine after each event. Only proofs need these definitions.
use Rattle.std.specs.Prelude.{◌≡◌, ℕ, List, [], ◌∷◌, Option, Some, None, map}
use Rattle.spec_map.specs.Map.{Pairs, lookup}
use Rattle.spec_olc.specs.Content.{IsContent}
use Rattle.spec_olc.specs.Runs.{Transition, IsEnabled, IsHistory, same_number, read_by, decided_at, decided_in, events_in, lines_in}
use Rattle.spec_olc.specs.declared.trace.Decision.{Decision}
use Rattle.spec_olc.specs.declared.trace.Line.{Line}
use Rattle.spec_olc.specs.declared.trace.Line.TheVariants.{Done as Made, Skipped}
use Rattle.spec_olc.specs.declared.types.Event.{Event}
use Rattle.spec_olc.specs.declared.types.Event.TheVariants.{Start, Step, Reclaim}
use Rattle.spec_olc.specs.declared.types.Kind.{Kind}
use Rattle.spec_olc.specs.declared.types.Kind.TheVariants as kind
use Rattle.spec_olc.specs.declared.types.Outcome.TheVariants.{Going}
use Rattle.spec_olc.specs.declared.types.Seen.{Seen}
use Rattle.olc_state.specs.declared.stage.Record.{Record}
use Rattle.olc_state.specs.inner.Shown.{state_of}
use Rattle.olc_state.specs.inner.Turns.{IsBegun, IsFreed, IsTurn}
use Rattle.olc_state.specs.inner.World.{World}

-- how an event of a schedule changes the inside, and its line
abbrev pub Plays : World ℕ → Event ℕ → Line → World ℕ → Type 0
Plays old event Skipped new =
    (IsEnabled (state_of old) event → ⊥) × (new ≡ old)
Plays old (Start id op) (Made report out seen) new =
    IsBegun (Unit {0}) same_number old new id op report × (out ≡ Going) × (seen ≡ None)
Plays old (Step id env) (Made report out seen) new =
    IsTurn (Unit {0}) same_number old new id env report out
    × (seen ≡ read_by report.kind (lookup (state_of new).calls id))
Plays old (Reclaim slot) (Made report out seen) new =
    IsFreed (Unit {0}) same_number old new slot report × (out ≡ Going) × (seen ≡ None)

-- one event, its line, and the inside and the content after it
pub record Move : Type 0 where
  pub event : Event ℕ
  pub line : Line
  pub inside : World ℕ
  pub content : Pairs ℕ

abbrev pub transition_of : Move → Transition
transition_of x =
    record { event = x.event; line = x.line; after = state_of x.inside; content = x.content }

abbrev pub transitions_of : List Move → List Transition
transitions_of xs = map transition_of xs

-- the event's decision changes the content before to the content after
pub record IsPlayedMove (old : World ℕ) (m : Pairs ℕ) (x : Move) : Type 0 where
  pub plays : Plays old x.event x.line x.inside
  pub history : IsHistory m (decided_at (state_of old) x.event x.line) x.content
  pub content : IsContent (state_of x.inside) x.content

-- from one inside and its content to another
abbrev pub AreMoves : World ℕ → Pairs ℕ → List Move → World ℕ → Pairs ℕ → Type 0
AreMoves old m [] new n = (new ≡ old) × (n ≡ m)
AreMoves old m (x ∷ xs) new n = IsPlayedMove old m x × AreMoves x.inside x.content xs new n

-- these events were made so far, from a machine without content on
pub record SoFar (first : World ℕ) (events : List (Event ℕ)) (lines : List Line)
    (decided : List Decision) (now : World ℕ) : Type 0 where
  pub moves : List Move
  pub content : Pairs ℕ
  pub are_moves : AreMoves first [] moves now content
  pub content_is : IsContent (state_of now) content
  pub events_are : events_in (transitions_of moves) ≡ events
  pub lines_are : lines_in (transitions_of moves) ≡ lines
  pub decided_are : decided_in (state_of first) (transitions_of moves) ≡ decided

-- what the last Read of a record's call reported, if the event is a Read
abbrev pub last_read : Kind → Option (Record ℕ) → Option (Seen ℕ)
last_read kind.Read (Some r) = r.task.last
last_read _ _ = None

-- the decision of one event, if it made one
abbrev pub noted : Option Decision → List Decision
noted None = []
noted (Some decision) = decision ∷ []

-- an event has this line and this decision
pub record IsHappening (old : World ℕ) (event : Event ℕ) (line : Line) (decided : Option Decision)
    (new : World ℕ) : Type 0 where
  pub plays : Plays old event line new
  pub decided_is : noted decided ≡ decided_at (state_of old) event line
