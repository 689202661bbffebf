-- What `congee schedule` reads and writes, in parts: an earlier form of `EndsSchedule`.
use Rattle.std.specs.Prelude.{◌≡◌, ◌≢◌, ◌⊎◌, ℕ, ◌+◌, ◌<◌, ◌≤◌, true, List, [], ◌∷◌, ◌++◌, length, Option, Result, Ok, Err}
use Rattle.std.specs.List.{flat_map}
use Rattle.std.specs.Io.KnownBytes.{Consumes, IsAtEnd}
use Rattle.spec_text.specs.Entry.{SpellsEntry, IsNoEntry}
use Rattle.spec_text.specs.Events.{events_of}
use Rattle.spec_text.specs.declared.entry.Entry.{Entry}
use Rattle.spec_text.specs.Bytes.{Sends}
use Rattle.spec_text.specs.Lines.{lines_of}
use Rattle.text_lines.specs.inner.Cut.{Cuts}
use Rattle.text_lines.specs.declared.watched.Watched.{Watched}
use Rattle.spec_map.specs.Map.{Pairs}
use Rattle.spec_olc.specs.Replay.{IsReplayed}
use Rattle.spec_olc.specs.declared.trace.Decision.{Decision}
use Rattle.spec_olc.specs.declared.trace.Line.{Line}
use Rattle.spec_olc.specs.declared.types.Event.{Event}
use Rattle.text_trace.specs.Detail.{detailed_text}
use Rattle.text_trace.specs.declared.detail.Detail.{Detail}
use Rattle.text_schedule.specs.declared.schedule.ScheduleError.{ScheduleError}
use Rattle.text_schedule.specs.declared.schedule.ScheduleError.TheVariants.{Read, Write, Oom, Line as BadLine, Events}

-- the lines parse as these entries, one each
abbrev pub ParseAsEntries : List (List ℕ) → List Entry → Type 0
ParseAsEntries [] [] = Unit {0}
ParseAsEntries (line ∷ lines) (entry ∷ entries) = SpellsEntry line entry × ParseAsEntries lines entries
ParseAsEntries _ _ = ⊥

-- the lines parse as entries with these events, which are at most 100000
pub record ParseAsEvents (lines : List (List ℕ)) (events : List (Event ℕ)) : Type 0 where
  pub entries : List Entry
  pub parsed_lines : ParseAsEntries lines entries
  pub events_are : events ≡ flat_map events_of entries
  pub few : length events ≤ 100000

-- Bytes were read that consist of these lines: the whole ones, and at the input's end also a last one without a line
-- feed.
pub record HasRead (input input' : Option (List ℕ)) (lines : List (List ℕ)) : Type 0 where
  pub taken : List ℕ
  pub reads : Consumes input input' taken
  pub whole : List (List ℕ)
  pub rest : List ℕ
  pub cut : Cuts taken whole rest
  pub lines_are : (lines ≡ whole) ⊎ (IsAtEnd input' × (lines ≡ lines_of whole rest))

-- the same of all lines of the input
pub record HasReadAll (input input' : Option (List ℕ)) (lines : List (List ℕ)) : Type 0 where
  pub taken : List ℕ
  pub reads : Consumes input input' taken
  pub ends : IsAtEnd input'
  pub whole : List (List ℕ)
  pub rest : List ℕ
  pub cut : Cuts taken whole rest
  pub lines_are : lines ≡ lines_of whole rest

-- The input's lines parse as events, and what was written is the text of a replay of these, but for the rest `left`.
pub record WritesTrace (detail : Detail) (input input' output output' : Option (List ℕ)) (left : List ℕ) : Type 0 where
  pub lines : List (List ℕ)
  pub read : HasReadAll input input' lines
  pub events : List (Event ℕ)
  pub parsed : ParseAsEvents lines events
  pub happened : List Line
  pub decided : List Decision
  pub content : Pairs ℕ
  pub replayed : IsReplayed events happened decided content
  pub sends : Sends output output' (detailed_text detail events happened decided content) left

-- The whole lines of what was read parse as events.
pub record StopsReadingSchedule (input input' : Option (List ℕ)) : Type 0 where
  pub taken : List ℕ
  pub reads : Consumes input input' taken
  pub whole : List (List ℕ)
  pub rest : List ℕ
  pub cut : Cuts taken whole rest
  pub events : List (Event ℕ)
  pub parsed : ParseAsEvents whole events

-- Some first lines of the input parse as events.
pub record StopsForMemory (input input' : Option (List ℕ)) : Type 0 where
  pub lines : List (List ℕ)
  pub later : List (List ℕ)
  pub read : HasRead input input' (lines ++ later)
  pub events : List (Event ℕ)
  pub parsed : ParseAsEvents lines events

-- the first fault: a line with this fault. The fault takes the line's number, from 1 on, the line, and the events of
-- the lines before it.
pub record StopsAt (Fault : ℕ → List ℕ → List (Event ℕ) → Type 0) (input input' : Option (List ℕ))
    : Type 0 where
  pub lines : List (List ℕ)
  pub line : List ℕ
  pub later : List (List ℕ)
  pub read : HasRead input input' (lines ++ line ∷ later)
  pub events : List (Event ℕ)
  pub parsed : ParseAsEvents lines events
  pub fault : Fault (length lines + 1) line events

-- with the events of this line there are more than 100000
pub record HasTooManyAfter (line : List ℕ) (events : List (Event ℕ)) : Type 0 where
  pub entry : Entry
  pub parses : SpellsEntry line entry
  pub many : 100000 < length (events ++ events_of entry)

module _ {R W : Type 0} (detail : Detail) (remaining : R → Option (List ℕ)) (contents : W → Option (List ℕ)) where
  -- what is left to be read of the input, and what was written to the output
  abbrev pub unread : Watched R → Option (List ℕ)
  unread input = remaining input.inner

  abbrev pub written : Watched W → Option (List ℕ)
  written output = contents output.inner

  -- How a schedule ends, by these. Something is written only if it ends well or a write fails.
  abbrev pub EndsScheduleByParts
      : Watched R → Watched R → Watched W → Watched W → Result (Unit {0}) ScheduleError → Type 0
  EndsScheduleByParts input input' output output' (Ok done) =
      WritesTrace detail (unread input) (unread input') (written output) (written output') []
      × (input'.failed ≢ true) × (output'.failed ≢ true)
  EndsScheduleByParts input input' output output' (Err Read) =
      StopsReadingSchedule (unread input) (unread input')
      × (input'.failed ≡ true) × (output' ≡ output)
  EndsScheduleByParts input input' output output' (Err Write) =
      ((left : List ℕ)
      × WritesTrace detail (unread input) (unread input') (written output) (written output') left)
      × (input'.failed ≢ true) × (output'.failed ≡ true)
  EndsScheduleByParts input input' output output' (Err Oom) =
      StopsForMemory (unread input) (unread input')
      × (input'.failed ≢ true) × (output' ≡ output)
  EndsScheduleByParts input input' output output' (Err (BadLine n)) =
      StopsAt (λ number line events. (n ≡ number) × IsNoEntry line) (unread input) (unread input')
      × (input'.failed ≢ true) × (output' ≡ output)
  EndsScheduleByParts input input' output output' (Err Events) =
      StopsAt (λ number line events. HasTooManyAfter line events) (unread input) (unread input')
      × (input'.failed ≢ true) × (output' ≡ output)
