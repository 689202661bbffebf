-- How the reading of a schedule ends.
use Rattle.std.proofs.Common.{◌≡◌, ◌≢◌, ◌⊎◌, ℕ, ◌<◌, ◌≤◌, Bool, true, false, List, [], ◌∷◌, ◌++◌, length, Option, Result, Ok, Err, IfOk, IfErr, refl, sym, ap, subst, inl, inr, append-nil}
use Rattle.std.specs.List.{AllZip}
use Rattle.std.specs.Io.KnownBytes.{Consumes, IsAtEnd}
use Rattle.spec_text.specs.Entry.{SpellsEntry}
use Rattle.spec_text.specs.Lines.{lines_of}
use Rattle.spec_text.specs.declared.entry.Entry.{Entry}
use Rattle.text_lines.proofs.Cutting.{reads_cut}
use Rattle.text_lines.specs.inner.Cut.{Cuts}
use Rattle.text_lines.specs.declared.watched.Watched.{Watched}
use Rattle.spec_olc.specs.declared.types.Event.{Event}
use Rattle.text_schedule.proofs.Saying.{events_push}
use Rattle.text_schedule.specs.Schedule.{Parses, HasTooMany}
use Rattle.text_schedule.specs.inner.Parts.{ParseAsEntries, ParseAsEvents, HasTooManyAfter}
use Rattle.text_schedule.specs.inner.Reading.{ParseAll, FaultAmong, FaultAtEnd, FindsFault, ReadTurnsTo, EndsReading}
use Rattle.text_schedule.specs.declared.reading.Reading.{Reading}
use Rattle.text_schedule.specs.declared.schedule.ScheduleError.{ScheduleError}
use Rattle.text_schedule.specs.declared.schedule.ScheduleError.TheVariants.{Read, Write, Oom, Line as BadLine, Events}

pub turns_err : (r : Reading) (input input' : Option (List ℕ)) (error : ScheduleError) → (error ≡ Read → ⊥)
    → FindsFault input input' error → ReadTurnsTo r input input' (Err error)
turns_err r input input' Read other found = absurd (other refl)
turns_err r input input' Write other found = found
turns_err r input input' Oom other found = found
turns_err r input input' (BadLine n) other found = found
turns_err r input input' Events other found = found

-- lines that parse, each as one entry
each_parses : (lines : List (List ℕ)) (entries : List Entry) → ParseAsEntries lines entries → AllZip SpellsEntry lines entries
each_parses [] [] all = tt
each_parses (line ∷ lines) (entry ∷ entries) all = (all.0, each_parses lines entries all.1)
each_parses [] (entry ∷ entries) all = absurd all
each_parses (line ∷ lines) [] all = absurd all

-- the first lines of what was read, by its bytes
abbrev AreFirst : Option (List ℕ) → List (List ℕ) → List ℕ → List (List ℕ) → List (List ℕ) → Type 0
AreFirst input' whole rest lines later = (whole ≡ lines ++ later) ⊎ (IsAtEnd input' × (lines_of whole rest ≡ lines ++ later))

abbrev parses : {input input' : Option (List ℕ)} {taken rest : List ℕ} {whole : List (List ℕ)} {events : List (Event ℕ)} (lines later : List (List ℕ))
    → Consumes input input' taken → Cuts taken whole rest → AreFirst input' whole rest lines later → ParseAsEvents lines events → Parses input input'
parses lines later consumes cut are parsed = record {
  read = reads_cut consumes cut;
  lines = lines;
  later = later;
  are = are;
  entries = parsed.entries;
  each = each_parses lines parsed.entries parsed.parsed_lines;
  few = subst (λ (es : List (Event ℕ)). length es ≤ 100000) parsed.events_are parsed.few;
}

too_many : {lines : List (List ℕ)} {events : List (Event ℕ)} (line : List ℕ) → (parsed : ParseAsEvents lines events) → HasTooManyAfter line events → HasTooMany parsed.entries line
too_many line parsed fault = (
  fault.entry,
  fault.parses,
  subst (λ (es : List (Event ℕ)). 100000 < length es) (events_push parsed.entries fault.entry parsed.events_are) fault.many,
)

module _ {R V : Type 0} (remaining : R → Option (List ℕ)) (items : V → List (Event ℕ)) (input input' : Watched R) where
  -- a fault among lines that were read
  ends_among : {taken rest : List ℕ} {whole all : List (List ℕ)} (error : ScheduleError) → (error ≡ Read → ⊥)
      → Consumes (remaining input.inner) (remaining input'.inner) taken → Cuts taken whole rest
      → ((lines later : List (List ℕ)) → all ≡ lines ++ later → AreFirst (remaining input'.inner) whole rest lines later)
      → FaultAmong all error → input'.failed ≡ input.failed → EndsReading remaining items input input' (Err error)
  ends_among Read other consumes cut are f kept = absurd (other refl)
  ends_among Write other consumes cut are f kept = absurd f.fault
  ends_among Oom other consumes cut are f kept =
      (parses f.lines (f.line ∷ f.later) consumes cut (are f.lines (f.line ∷ f.later) f.parts) f.parsed, kept)
  ends_among (BadLine n) other consumes cut are f kept = (
    (parses f.lines (f.line ∷ f.later) consumes cut (are f.lines (f.line ∷ f.later) f.parts) f.parsed, f.fault.0, f.fault.1),
    kept,
  )
  ends_among Events other consumes cut are f kept = (
    (parses f.lines (f.line ∷ f.later) consumes cut (are f.lines (f.line ∷ f.later) f.parts) f.parsed, too_many f.line f.parsed f.fault),
    kept,
  )

  -- a read that finds a fault, or fails
  finds : (error : ScheduleError) → (error ≡ Read → ⊥) → FindsFault (remaining input.inner) (remaining input'.inner) error
      → input'.failed ≡ input.failed → EndsReading remaining items input input' (Err error)
  finds error other f kept = ends_among error other f.reads f.found.cut (λ lines later parts. inl parts) f.found.among kept

  pub breaks_off : (r : Reading) (error : ScheduleError)
      → ReadTurnsTo r (remaining input.inner) (remaining input'.inner) (Err error)
      → ((error ≡ Read → ⊥) → input'.failed ≡ input.failed) → (error ≡ Read → input'.failed ≡ true)
      → EndsReading remaining items input input' (Err error)
  breaks_off r Read turned kept failed =
      ((parses turned.whole [] turned.reads turned.cut (inl (sym (append-nil turned.whole))) turned.parsed, refl), failed refl)
  breaks_off r Write turned kept failed = finds Write (λ e. cc) turned (kept (λ e. cc))
  breaks_off r Oom turned kept failed = finds Oom (λ e. cc) turned (kept (λ e. cc))
  breaks_off r (BadLine n) turned kept failed = finds (BadLine n) (λ e. cc) turned (kept (λ e. cc))
  breaks_off r Events turned kept failed = finds Events (λ e. cc) turned (kept (λ e. cc))

  -- the end of the input
  pub ends_all : (taken : List ℕ) (result : Result V ScheduleError)
      → Consumes (remaining input.inner) (remaining input'.inner) taken → IsAtEnd (remaining input'.inner)
      → IfOk result (λ events. ParseAll taken (items events)) → IfErr result (FaultAtEnd taken) → (result ≡ Err Read → ⊥)
      → input'.failed ≡ input.failed → EndsReading remaining items input input' result
  ends_all taken (Ok events) reads ends parsed fault other kept =
      let all = lines_of parsed.whole parsed.rest in (
        (parses all [] reads parsed.cut (inr (ends, sym (append-nil all))) parsed.parsed, refl, ends, parsed.parsed.events_are),
        kept,
      )
  ends_all taken (Err error) reads ends parsed fault other kept =
      ends_among error (λ e. other (ap Err e)) reads fault.cut (λ lines later parts. inr (ends, parts)) fault.among kept

-- no call failed
pub never_failed : (failed : Bool) → failed ≢ true → failed ≡ false
never_failed true never = absurd (never refl)
never_failed false never = refl
