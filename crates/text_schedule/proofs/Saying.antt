-- Steps of reading a schedule.
use Rattle.std.proofs.Common.{◌≡◌, ◌≢◌, ℕ, ◌+◌, ◌<◌, ◌≤◌, List, [], ◌∷◌, ◌++◌, length, take, drop, get_or, Some, Result, Ok, Err, IfErr, refl, sym, ap, subst, ◌∙◌, arith, append_assoc, append-nil, length-append}
use Rattle.std.specs.List.{flat_map}
use Rattle.std.proofs.lemmas.List.{length-replicate, take_more, take-append-drop}
use Rattle.std.proofs.lemmas.List.Concat.{flat_map-append}
use Rattle.spec_text.specs.Entry.{SpellsEntry, EntryFits}
use Rattle.spec_text.specs.Events.{events_of, plain}
use Rattle.spec_text.specs.declared.entry.Entry.{Entry}
use Rattle.spec_text.specs.declared.entry.Entry.TheVariants.{Start, Step, Steps, Torn, Fail, Answer, Reclaim}
use Rattle.text_lines.specs.inner.Kept.{kept_with}
use Rattle.text_lines.proofs.Cutting.{cut_none, cut_byte, cut_line, cut_on, holds_byte, last_line}
use Rattle.spec_olc.specs.declared.types.Event.{Event}
use Rattle.spec_olc.specs.declared.types.Event.TheVariants as event
use Rattle.text_schedule.specs.inner.Parts.{ParseAsEntries, ParseAsEvents}
use Rattle.text_schedule.specs.inner.Reading.{HasParsed, HasReadBytes, ParseAll, Fault, FaultAmong, FaultIn, FaultAtEnd}
use Rattle.text_schedule.specs.declared.reading.Reading.{Reading}
use Rattle.text_schedule.specs.declared.schedule.ScheduleError.{ScheduleError}

-- one line more
say_push : (lines : List (List ℕ)) (entries : List Entry) (line : List ℕ) (entry : Entry)
    → ParseAsEntries lines entries → SpellsEntry line entry → ParseAsEntries (lines ++ line ∷ []) (entries ++ entry ∷ [])
say_push [] [] line entry all here = (here, tt)
say_push (l ∷ lines) (e ∷ entries) line entry all here = (all.0, say_push lines entries line entry all.1 here)
say_push [] (e ∷ entries) line entry all here = absurd all
say_push (l ∷ lines) [] line entry all here = absurd all

-- the events of one entry more
pub events_push : {events : List (Event ℕ)} (entries : List Entry) (entry : Entry) → events ≡ flat_map events_of entries
    → events ++ events_of entry ≡ flat_map events_of (entries ++ entry ∷ [])
events_push entries entry are =
    ap (λ es. es ++ events_of entry) are
    ∙ ap (λ es. flat_map events_of entries ++ es) (sym (append-nil (events_of entry)))
    ∙ sym (flat_map-append events_of entries (entry ∷ []))

pub say_more : {lines : List (List ℕ)} {events : List (Event ℕ)} (line : List ℕ) (entry : Entry)
    → ParseAsEvents lines events → SpellsEntry line entry → length (events ++ events_of entry) ≤ 100000
    → ParseAsEvents (lines ++ line ∷ []) (events ++ events_of entry)
say_more {lines} {events} line entry parsed spells few = record {
  entries = parsed.entries ++ entry ∷ [];
  parsed_lines = say_push lines parsed.entries line entry parsed.parsed_lines spells;
  events_are = events_push parsed.entries entry parsed.events_are;
  few = few;
}

pub say_none : ParseAsEvents [] []
say_none = record { entries = []; parsed_lines = tt; events_are = refl; few = omega arith }

-- there are no more lines than events
some_events : (entry : Entry) → EntryFits entry → 0 < length (events_of entry)
some_events (Start id op) fits = omega arith
some_events (Step id) fits = omega arith
some_events (Steps id count) fits = omega (arith, fits.0, length-replicate count (event.Step id plain))
some_events (Torn id child) fits = omega arith
some_events (Fail id) fits = omega arith
some_events (Answer id answer) fits = omega arith
some_events (Reclaim slot) fits = omega arith

lines_below : (lines : List (List ℕ)) (entries : List Entry) → ParseAsEntries lines entries → length lines ≤ length (flat_map events_of entries)
lines_below [] [] all = omega arith
lines_below (l ∷ lines) (e ∷ entries) all =
    omega (arith, some_events e all.0.fits, lines_below lines entries all.1, length-append (events_of e) (flat_map events_of entries))
lines_below [] (e ∷ entries) all = absurd all
lines_below (l ∷ lines) [] all = absurd all

pub few_lines : {lines : List (List ℕ)} {events : List (Event ℕ)} → ParseAsEvents lines events → length lines ≤ 100000
few_lines {lines} {events} parsed = omega (arith, lines_below lines parsed.entries parsed.parsed_lines, ap length parsed.events_are, parsed.few)

-- a line has at most 10000 events
pub few_events : (line : List ℕ) (entry : Entry) → SpellsEntry line entry → length (events_of entry) ≤ 10000
few_events line (Start id op) parses = omega arith
few_events line (Step id) parses = omega arith
few_events line (Steps id count) parses = omega (arith, parses.fits.1, length-replicate count (event.Step id plain))
few_events line (Torn id child) parses = omega arith
few_events line (Fail id) parses = omega arith
few_events line (Answer id answer) parses = omega arith
few_events line (Reclaim slot) parses = omega arith

-- in the middle of the reading
pub reads_none : (r : Reading) → r.line ≡ Some [] → r.lines ≡ 0 → r.events.items ≡ [] → HasReadBytes [] r
reads_none r line lines events = record {
  whole = [];
  rest = [];
  cut = cut_none;
  held = rw line refl;
  parsed_lines = record { parsed = rw events say_none; count = lines };
}

pub reads_byte : {bytes : List ℕ} {r next : Reading} (byte : ℕ) → byte ≢ 10 → HasReadBytes bytes r
    → next ≡ record r { line = kept_with r.line byte } → HasReadBytes (bytes ++ byte ∷ []) next
reads_byte {bytes} {r} byte other read is = rw is (record {
  whole = read.whole;
  rest = read.rest ++ byte ∷ [];
  cut = cut_byte byte other read.cut;
  held = holds_byte r.line read.rest byte read.held;
  parsed_lines = record { parsed = read.parsed_lines.parsed; count = read.parsed_lines.count };
})

pub reads_line : {bytes : List ℕ} {r next : Reading} (byte : ℕ) → byte ≡ 10 → (read : HasReadBytes bytes r)
    → next.line ≡ Some [] → HasParsed (read.whole ++ read.rest ∷ []) next → HasReadBytes (bytes ++ byte ∷ []) next
reads_line byte ten read line parsed_lines = record {
  whole = read.whole ++ read.rest ∷ [];
  rest = [];
  cut = rw ten (cut_line read.cut);
  held = rw line refl;
  parsed_lines = parsed_lines;
}

-- the fault of the next line is the first one
fault_after : {lines : List (List ℕ)} {events : List (Event ℕ)} (line : List ℕ) (error : ScheduleError)
    → ParseAsEvents lines events → Fault error (length lines + 1) line events → FaultAmong (lines ++ line ∷ []) error
fault_after {lines} {events} line error parsed fault = record { lines = lines; line = line; later = []; parts = refl; events = events; parsed = parsed; fault = fault }

pub fault_line : {bytes : List ℕ} {r : Reading} (error : ScheduleError) (byte : ℕ) → byte ≡ 10 → (read : HasReadBytes bytes r)
    → Fault error (length read.whole + 1) read.rest r.events.items → FaultIn (bytes ++ byte ∷ []) error
fault_line error byte ten read fault = record {
  whole = read.whole ++ read.rest ∷ [];
  rest = [];
  cut = rw ten (cut_line read.cut);
  among = fault_after read.rest error read.parsed_lines.parsed fault;
}

-- whatever else was read
among_on : {all : List (List ℕ)} {error : ScheduleError} (others : List (List ℕ)) → FaultAmong all error → FaultAmong (all ++ others) error
among_on others f = record {
  lines = f.lines;
  line = f.line;
  later = f.later ++ others;
  parts = ap (λ ls. ls ++ others) f.parts ∙ append_assoc f.lines (f.line ∷ f.later) others;
  events = f.events;
  parsed = f.parsed;
  fault = f.fault;
}

fault_on : {bytes : List ℕ} {error : ScheduleError} (more : List ℕ) → FaultIn bytes error → FaultIn (bytes ++ more) error
fault_on {bytes} more f =
    let on = cut_on more bytes f.whole f.rest f.cut in
    record { whole = f.whole ++ on.others; rest = on.rest; cut = on.cut; among = among_on on.others f.among }

pub fault_within : (before bytes : List ℕ) (error : ScheduleError) (i : ℕ) → i < length bytes
    → FaultIn ((before ++ take i bytes) ++ get_or bytes i 0 ∷ []) error → FaultIn (before ++ bytes) error
fault_within before bytes error i lt f =
    let b = get_or bytes i 0 in
    let rest = drop (i + 1) bytes in
    let inner : take i bytes ++ b ∷ rest ≡ bytes =
    sym (append_assoc (take i bytes) (b ∷ []) rest) ∙ ap (λ ws. ws ++ rest) (sym (take_more bytes i 0 lt)) ∙ take-append-drop (i + 1) bytes in
    subst (λ (bs : List ℕ). FaultIn bs error)
    (append_assoc (before ++ take i bytes) (b ∷ []) rest ∙ append_assoc before (take i bytes) (b ∷ rest) ∙ ap (λ ws. before ++ ws) inner)
    (fault_on rest f)

-- at the end of the input
pub say_all_none : {bytes : List ℕ} {r : Reading} → r.line ≡ Some [] → HasReadBytes bytes r → ParseAll bytes r.events.items
say_all_none {bytes} {r} none read =
    let empty : read.rest ≡ [] = rw none at read.held in
    record { whole = read.whole; rest = []; cut = rw empty at read.cut; parsed = read.parsed_lines.parsed }

pub say_all_line : {bytes : List ℕ} {r next : Reading} → (r.line ≡ Some [] → ⊥) → (read : HasReadBytes bytes r)
    → HasParsed (read.whole ++ read.rest ∷ []) next → ParseAll bytes next.events.items
say_all_line {bytes} {r} {next} some read parsed_lines = record {
  whole = read.whole;
  rest = read.rest;
  cut = read.cut;
  parsed = rw (last_line read.whole read.rest r.line some read.held) parsed_lines.parsed;
}

pub fault_at_end : {bytes : List ℕ} {r : Reading} (error : ScheduleError) → (r.line ≡ Some [] → ⊥) → (read : HasReadBytes bytes r)
    → Fault error (length read.whole + 1) read.rest r.events.items → FaultAtEnd bytes error
fault_at_end {bytes} {r} error some read fault = record {
  whole = read.whole;
  rest = read.rest;
  cut = read.cut;
  among = rw (last_line read.whole read.rest r.line some read.held) (fault_after read.rest error read.parsed_lines.parsed fault);
}

pub if_err_weaker : {T E : Type 0} {P Q : E → Type 0} (r : Result T E) → ((e : E) → P e → Q e) → IfErr r P → IfErr r Q
if_err_weaker (Ok x) f p = tt
if_err_weaker (Err e) f p = f e p
