-- HOW A SCHEDULE ENDS: what was read, and what was written of its replay.
use Rattle.std.specs.Prelude.{◌≡◌, ◌⊎◌, ℕ, ◌+◌, ◌<◌, ◌≤◌, true, false, List, [], ◌∷◌, ◌++◌, length, slice_get, Option, IsSomeAnd, Result, Ok, Err}
use Rattle.std.specs.List.{flat_map, AllZip}
use Rattle.std.specs.Io.KnownBytes.{IsAtEnd}
use Rattle.spec_map.specs.Map.{Pairs}
use Rattle.spec_olc.specs.Replay.{IsReplayed}
use Rattle.spec_olc.specs.declared.trace.Decision.{Decision}
use Rattle.spec_olc.specs.declared.trace.Line.{Line}
use Rattle.spec_olc.specs.declared.types.Event.{Event}
use Rattle.spec_text.specs.Bytes.{Sends}
use Rattle.spec_text.specs.Entry.{SpellsEntry, IsNoEntry}
use Rattle.spec_text.specs.Events.{events_of}
use Rattle.spec_text.specs.Lines.{Reads, lines_of}
use Rattle.spec_text.specs.declared.entry.Entry.{Entry}
use Rattle.text_lines.specs.Watched.{Stream}
use Rattle.text_trace.specs.Detail.{detailed_text}
use Rattle.text_trace.specs.declared.detail.Detail.{Detail}
use Rattle.text_schedule.specs.declared.schedule.ScheduleError.{ScheduleError}
use Rattle.text_schedule.specs.declared.schedule.ScheduleError.TheVariants.{Read, Write, Oom, Line as BadLine, Events}

-- Lines were read: the whole ones, or at the input's end all. The first of them parse as entries, one each, which have
-- at most 100000 events.
pub record Parses (input input' : Option (List ℕ)) : Type 0 where
  pub read : Reads input input'
  pub lines : List (List ℕ)
  pub later : List (List ℕ)
  pub are : (read.whole ≡ lines ++ later)
      ⊎ (IsAtEnd input' × (lines_of read.whole read.rest ≡ lines ++ later))
  pub entries : List Entry
  pub each : AllZip SpellsEntry lines entries
  pub few : length (flat_map events_of entries) ≤ 100000

-- with the events of this line there are more
abbrev pub HasTooMany : List Entry → List ℕ → Type 0
HasTooMany entries line =
    (entry : Entry) × SpellsEntry line entry
    × (100000 < length (flat_map events_of (entries ++ entry ∷ [])))

-- the text of a replay of the events was written in this detail, but for the bytes `left` at its end, and nothing else
pub record WritesReplay (detail : Detail) (events : List (Event ℕ)) (output output' : Option (List ℕ))
    (left : List ℕ) : Type 0 where
  pub happened : List Line
  pub decided : List Decision
  pub content : Pairs ℕ
  pub replayed : IsReplayed events happened decided content
  pub sends : Sends output output' (detailed_text detail events happened decided content) left

-- in this detail, by what is left to be read and what was written, of the streams before and after
module _ {R W : Type 0} (detail : Detail) (remaining : R → Option (List ℕ)) (contents : W → Option (List ℕ))
    (input input' : Stream R) (output output' : Stream W) where
  abbrev pub IsParsed : Type 0
  IsParsed = Parses (remaining input.inner) (remaining input'.inner)

  -- THE THEOREM ON SCHEDULES: all lines of the input parse, and what was written is the text of a replay of them, but
  -- for the rest `left`.
  abbrev pub IsReplayWritten : List ℕ → Type 0
  IsReplayWritten left =
      (p : IsParsed) × (p.lines ≡ lines_of p.read.whole p.read.rest)
      × IsAtEnd (remaining input'.inner) × WritesReplay detail (flat_map events_of p.entries)
      (contents output.inner) (contents output'.inner) left

  -- It ends well; or a read fails, and the whole lines before it parse; or a write fails; or memory is missing; or the
  -- first line with a fault is no entry, or one with too many events. Nothing is written but in the first and the third
  -- case.
  abbrev pub EndsSchedule : Result (Unit {0}) ScheduleError → Type 0
  EndsSchedule (Ok done) = IsReplayWritten [] × (input'.failed ≡ false) × (output'.failed ≡ false)
  EndsSchedule (Err Read) =
      ((p : IsParsed) × (p.lines ≡ p.read.whole)) × (input'.failed ≡ true) × (output' ≡ output)
  EndsSchedule (Err Write) =
      ((left : List ℕ) × IsReplayWritten left) × (input'.failed ≡ false) × (output'.failed ≡ true)
  EndsSchedule (Err Oom) = IsParsed × (input'.failed ≡ false) × (output' ≡ output)
  EndsSchedule (Err (BadLine n)) =
      ((p : IsParsed) × (n ≡ length p.lines + 1) × IsSomeAnd (slice_get p.later 0) IsNoEntry)
      × (input'.failed ≡ false) × (output' ≡ output)
  EndsSchedule (Err Events) =
      ((p : IsParsed) × IsSomeAnd (slice_get p.later 0) (HasTooMany p.entries))
      × (input'.failed ≡ false) × (output' ≡ output)
