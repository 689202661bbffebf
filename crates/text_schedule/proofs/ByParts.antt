-- The end of a schedule in parts.
use Rattle.std.proofs.Common.{◌≡◌, ◌≢◌, ℕ, ◌+◌, ◌<◌, Bool, true, false, List, [], ◌∷◌, ◌++◌, length, slice_get, Option, IsSomeAnd, Result, Ok, Err, refl, sym, subst, inl, inr}
use Rattle.std.specs.List.{flat_map, AllZip}
use Rattle.std.specs.Io.KnownBytes.{IsAtEnd}
use Rattle.spec_text.specs.Entry.{SpellsEntry}
use Rattle.spec_text.specs.Events.{events_of}
use Rattle.spec_text.specs.Lines.{lines_of}
use Rattle.spec_text.specs.declared.entry.Entry.{Entry}
use Rattle.text_lines.proofs.Cutting.{cut_read}
use Rattle.text_lines.specs.declared.watched.Watched.{Watched}
use Rattle.spec_olc.specs.declared.types.Event.{Event}
use Rattle.text_trace.specs.declared.detail.Detail.{Detail}
use Rattle.text_schedule.proofs.Saying.{events_push}
use Rattle.text_schedule.specs.Schedule.{Parses, HasTooMany, WritesReplay, EndsSchedule}
use Rattle.text_schedule.specs.inner.Parts.{ParseAsEntries, ParseAsEvents, HasRead, HasTooManyAfter, StopsAt, WritesTrace, EndsScheduleByParts}
use Rattle.text_schedule.specs.declared.schedule.ScheduleError.{ScheduleError}
use Rattle.text_schedule.specs.declared.schedule.ScheduleError.TheVariants.{Read, Write, Oom, Line as BadLine, Events}

all_parse : (lines : List (List ℕ)) (entries : List Entry) → AllZip SpellsEntry lines entries → ParseAsEntries lines entries
all_parse [] [] all = tt
all_parse (line ∷ lines) (entry ∷ entries) all = (all.0, all_parse lines entries all.1)
all_parse [] (entry ∷ entries) all = absurd all
all_parse (line ∷ lines) [] all = absurd all

not_both : (failed : Bool) → failed ≡ false → failed ≢ true
not_both failed fine bad = cc

-- the first of the later lines
record IsNext (P : List ℕ → Type 0) (later : List (List ℕ)) : Type 0 where
  line : List ℕ
  others : List (List ℕ)
  parts : later ≡ line ∷ others
  fault : P line

next_line : (P : List ℕ → Type 0) (later : List (List ℕ)) → IsSomeAnd (slice_get later 0) P → IsNext P later
next_line P [] some = absurd some
next_line P (line ∷ others) some = record { line = line; others = others; parts = refl; fault = some }

module _ {input input' : Option (List ℕ)} (p : Parses input input') where
  parsed : ParseAsEvents p.lines (flat_map events_of p.entries)
  parsed = record { entries = p.entries; parsed_lines = all_parse p.lines p.entries p.each; events_are = refl; few = p.few }

  has_read : HasRead input input' (p.lines ++ p.later)
  has_read = record {
    taken = _;
    reads = p.read.consumes;
    whole = p.read.whole;
    rest = p.read.rest;
    cut = cut_read p.read;
    lines_are = elim p.are [ inl whole ↦ inl (sym whole) | inr all ↦ inr (all.0, sym all.1) ];
  }

  stops_at : (Fault : ℕ → List ℕ → List (Event ℕ) → Type 0) → IsNext (λ line. Fault (length p.lines + 1) line (flat_map events_of p.entries)) p.later → StopsAt Fault input input'
  stops_at Fault next = record {
    lines = p.lines;
    line = next.line;
    later = next.others;
    read = subst (λ (ls : List (List ℕ)). HasRead input input' (p.lines ++ ls)) next.parts has_read;
    events = flat_map events_of p.entries;
    parsed = parsed;
    fault = next.fault;
  }

  many_after : (line : List ℕ) → HasTooMany p.entries line → HasTooManyAfter line (flat_map events_of p.entries)
  many_after line many = record {
    entry = many.0;
    parses = many.1;
    many = subst (λ (es : List (Event ℕ)). 100000 < length es) (sym (events_push p.entries many.0 refl)) many.2;
  }

  writes_trace : {output output' : Option (List ℕ)} (detail : Detail) (left : List ℕ) → p.lines ≡ lines_of p.read.whole p.read.rest → IsAtEnd input'
      → WritesReplay detail (flat_map events_of p.entries) output output' left → WritesTrace detail input input' output output' left
  writes_trace detail left all ends w = record {
    lines = p.lines;
    read = record {
      taken = _;
      reads = p.read.consumes;
      ends = ends;
      whole = p.read.whole;
      rest = p.read.rest;
      cut = cut_read p.read;
      lines_are = all;
    };
    events = flat_map events_of p.entries;
    parsed = parsed;
    happened = w.happened;
    decided = w.decided;
    content = w.content;
    replayed = w.replayed;
    sends = w.sends;
  }

module _ {R W : Type 0} (detail : Detail) (remaining : R → Option (List ℕ)) (contents : W → Option (List ℕ)) where
  pub by_parts : (input input' : Watched R) (output output' : Watched W) (result : Result (Unit {0}) ScheduleError)
      → EndsSchedule detail remaining contents input input' output output' result → EndsScheduleByParts detail remaining contents input input' output output' result
  by_parts input input' output output' (Ok done) e =
      (writes_trace e.0.0 detail [] e.0.1 e.0.2 e.0.3, not_both _ e.1, not_both _ e.2)
  by_parts input input' output output' (Err Read) e =
      let p = e.0.0 in (
        record {
          taken = _;
          reads = p.read.consumes;
          whole = p.read.whole;
          rest = p.read.rest;
          cut = cut_read p.read;
          events = flat_map events_of p.entries;
          parsed = subst (λ (ls : List (List ℕ)). ParseAsEvents ls (flat_map events_of p.entries)) e.0.1 (parsed p);
        },
        e.1,
        e.2,
      )
  by_parts input input' output output' (Err Write) e =
      ((e.0.0, writes_trace e.0.1.0 detail e.0.0 e.0.1.1 e.0.1.2 e.0.1.3), not_both _ e.1, e.2)
  by_parts input input' output output' (Err Oom) e = (
    record { lines = e.0.lines; later = e.0.later; read = has_read e.0; events = flat_map events_of e.0.entries; parsed = parsed e.0 },
    not_both _ e.1,
    e.2,
  )
  by_parts input input' output output' (Err (BadLine n)) e =
      let p = e.0.0 in
      let next = next_line _ p.later e.0.2 in (
        stops_at p _ (record { line = next.line; others = next.others; parts = next.parts; fault = (e.0.1, next.fault) }),
        not_both _ e.1,
        e.2,
      )
  by_parts input input' output output' (Err Events) e =
      let p = e.0.0 in
      let next = next_line _ p.later e.0.1 in (
        stops_at p _ (record { line = next.line; others = next.others; parts = next.parts; fault = many_after p next.line next.fault }),
        not_both _ e.1,
        e.2,
      )
