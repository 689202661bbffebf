-- What is read of a schedule.
use Rattle.std.specs.Prelude.{◌≡◌, ℕ, ◌+◌, List, ◌∷◌, ◌++◌, length, slice_get, Option, IsSomeAnd, Result, Ok, Err, Bool, true, false}
use Rattle.std.specs.List.{flat_map}
use Rattle.std.specs.Io.KnownBytes.{Consumes, IsAtEnd}
use Rattle.spec_text.specs.Entry.{IsNoEntry}
use Rattle.spec_text.specs.Events.{events_of}
use Rattle.spec_text.specs.Lines.{lines_of}
use Rattle.text_lines.specs.inner.Cut.{Cuts}
use Rattle.text_lines.specs.declared.watched.Watched.{Watched}
use Rattle.text_lines.specs.inner.Kept.{IsKeptOf}
use Rattle.spec_olc.specs.declared.types.Event.{Event}
use Rattle.text_schedule.specs.Schedule.{Parses, HasTooMany}
use Rattle.text_schedule.specs.inner.Parts.{ParseAsEvents, StopsReadingSchedule, HasTooManyAfter}
use Rattle.text_schedule.specs.declared.reading.Reading.{Reading}
use Rattle.text_schedule.specs.declared.schedule.ScheduleError.{ScheduleError}
use Rattle.text_schedule.specs.declared.schedule.ScheduleError.TheVariants.{Read, Write, Oom, Line as BadLine, Events}

-- these are the lines before the current one, and they parse as the events
pub record HasParsed (lines : List (List ℕ)) (r : Reading) : Type 0 where
  pub parsed : ParseAsEvents lines r.events.items
  pub count : r.lines ≡ length lines

-- these bytes were read, and their whole lines parse as the events
pub record HasReadBytes (bytes : List ℕ) (r : Reading) : Type 0 where
  pub whole : List (List ℕ)
  pub rest : List ℕ
  pub cut : Cuts bytes whole rest
  pub held : IsKeptOf r.line rest
  pub parsed_lines : HasParsed whole r

-- the same of what was read of the input
pub record ReadsInput (input input' : Option (List ℕ)) (r : Reading) : Type 0 where
  pub taken : List ℕ
  pub reads : Consumes input input' taken
  pub read : HasReadBytes taken r

-- all lines of the bytes parse as these events
pub record ParseAll (bytes : List ℕ) (events : List (Event ℕ)) : Type 0 where
  pub whole : List (List ℕ)
  pub rest : List ℕ
  pub cut : Cuts bytes whole rest
  pub parsed : ParseAsEvents (lines_of whole rest) events

-- the fault of a line, with its number and the events before it
abbrev pub Fault : ScheduleError → ℕ → List ℕ → List (Event ℕ) → Type 0
Fault (BadLine n) number line events = (n ≡ number) × IsNoEntry line
Fault Events number line events = HasTooManyAfter line events
Fault Oom number line events = Unit {0}
Fault Read number line events = ⊥
Fault Write number line events = ⊥

-- the first fault among the lines
pub record FaultAmong (all : List (List ℕ)) (error : ScheduleError) : Type 0 where
  pub lines : List (List ℕ)
  pub line : List ℕ
  pub later : List (List ℕ)
  pub parts : all ≡ lines ++ line ∷ later
  pub events : List (Event ℕ)
  pub parsed : ParseAsEvents lines events
  pub fault : Fault error (length lines + 1) line events

-- it is in a whole line of the bytes, or in any
pub record FaultIn (bytes : List ℕ) (error : ScheduleError) : Type 0 where
  pub whole : List (List ℕ)
  pub rest : List ℕ
  pub cut : Cuts bytes whole rest
  pub among : FaultAmong whole error

pub record FaultAtEnd (bytes : List ℕ) (error : ScheduleError) : Type 0 where
  pub whole : List (List ℕ)
  pub rest : List ℕ
  pub cut : Cuts bytes whole rest
  pub among : FaultAmong (lines_of whole rest) error

-- it is in what was read of the input
pub record FindsFault (input input' : Option (List ℕ)) (error : ScheduleError) : Type 0 where
  pub taken : List ℕ
  pub reads : Consumes input input' taken
  pub found : FaultIn taken error

-- one more read goes on, ends the input, or finds a fault
abbrev pub ReadTurnsTo : Reading → Option (List ℕ) → Option (List ℕ) → Result Bool ScheduleError → Type 0
ReadTurnsTo r input input' (Ok goes_on) =
    ReadsInput input input' r × (goes_on ≡ false → IsAtEnd input')
ReadTurnsTo r input input' (Err Read) = StopsReadingSchedule input input'
ReadTurnsTo r input input' (Err error) = FindsFault input input' error

-- how the reading of a schedule ends
abbrev pub EndsReading : {R V : Type 0} → (R → Option (List ℕ)) → (V → List (Event ℕ))
    → Watched R → Watched R → Result V ScheduleError → Type 0
EndsReading remaining items input input' (Ok events) =
    ((p : Parses (remaining input.inner) (remaining input'.inner))
    × (p.lines ≡ lines_of p.read.whole p.read.rest) × IsAtEnd (remaining input'.inner)
    × (items events ≡ flat_map events_of p.entries))
    × (input'.failed ≡ input.failed)
EndsReading remaining items input input' (Err Read) =
    ((p : Parses (remaining input.inner) (remaining input'.inner)) × (p.lines ≡ p.read.whole))
    × (input'.failed ≡ true)
EndsReading remaining items input input' (Err Write) = ⊥
EndsReading remaining items input input' (Err Oom) =
    Parses (remaining input.inner) (remaining input'.inner) × (input'.failed ≡ input.failed)
EndsReading remaining items input input' (Err (BadLine n)) =
    ((p : Parses (remaining input.inner) (remaining input'.inner))
    × (n ≡ length p.lines + 1) × IsSomeAnd (slice_get p.later 0) IsNoEntry)
    × (input'.failed ≡ input.failed)
EndsReading remaining items input input' (Err Events) =
    ((p : Parses (remaining input.inner) (remaining input'.inner))
    × IsSomeAnd (slice_get p.later 0) (HasTooMany p.entries))
    × (input'.failed ≡ input.failed)
