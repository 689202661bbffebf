-- The end of a run: from its parts, and back to them.
use Rattle.std.proofs.Common.{◌≡◌, ◌≢◌, ℕ, Bool, true, false, List, [], Option, Result, Ok, Err, length, take, drop, refl, sym, ap, subst, ◌∙◌}
use Rattle.std.proofs.lemmas.List.{take-append-drop}
use Rattle.std.proofs.Math.Seq.{take-append_seam}
use Rattle.std.specs.Io.KnownBytes.{Consumes}
use Rattle.spec_map.specs.Map.{Pairs}
use Rattle.spec_text.specs.Lines.{Reads, lines_of}
use Rattle.text_lines.proofs.Cutting.{reads_cut, cut_read}
use Rattle.text_lines.specs.declared.watched.Watched.{Watched}
use Rattle.text_run.specs.Run.{Answers, EndsRun}
use Rattle.text_run.specs.inner.Answers.{AnswersLines, StopsReading, StopsWriting}
use Rattle.text_run.specs.inner.Session.{ServesAll}
use Rattle.text_run.specs.inner.Parts.{EndsRunByParts}
use Rattle.text_run.specs.declared.run.RunError.{RunError}
use Rattle.text_run.specs.declared.run.RunError.TheVariants.{Read as ReadFailed, Write as WriteFailed, Oom}

-- whether a call failed
pub never_failed : (failed : Bool) → failed ≢ true → failed ≡ false
never_failed true never = absurd (never refl)
never_failed false never = refl

not_both : (failed : Bool) → failed ≡ false → failed ≢ true
not_both failed fine bad = cc

answered : {lines : List (List ℕ)} {map : Pairs ℕ} {output output' : Option (List ℕ)} {left : List ℕ} → AnswersLines lines map output output' left → Answers lines output output' left
answered {lines} {map} s = record { answers = s.answers; each = s.each; map = map; legal = s.legal; sends = s.sends }

module _ {input input' output output' : Option (List ℕ)} where
  pub serves_all : {m : Pairs ℕ} (taken : List ℕ) → Consumes input input' taken → ServesAll m [] output output' taken
      → (read : Reads input input') × (all : Answers (lines_of read.whole read.rest) output output' []) × (all.map ≡ m)
  unfolding answered
  serves_all taken consumes f = (reads_cut consumes f.cut, answered f.shows, refl)

  pub serves_whole : StopsReading input input' output output' → (read : Reads input input') × Answers read.whole output output' []
  serves_whole f = (reads_cut f.reads f.written.cut, answered f.written.shows)

  pub serves_first : StopsWriting input input' output output'
      → (read : Reads input input') × (n : ℕ) × (left : List ℕ) × Answers (take n (lines_of read.whole read.rest)) output output' left
  serves_first f =
      let w = f.written in
      let first : w.lines ≡ take (length w.lines) (lines_of w.whole w.rest) = sym (take-append_seam w.lines w.later) ∙ ap (take (length w.lines)) (sym w.first) in
      (reads_cut f.reads w.cut, length w.lines, w.left, subst (λ (ls : List (List ℕ)). Answers ls output output' w.left) first (answered w.shows))

-- in parts, with the answers in any form that follows from them
module _ (Shows : List (List ℕ) → Pairs ℕ → Option (List ℕ) → Option (List ℕ) → List ℕ → Type 0)
    (shown : (lines : List (List ℕ)) (output output' : Option (List ℕ)) (left : List ℕ) (a : Answers lines output output' left) → Shows lines a.map output output' left)
    {R W : Type 0} (remaining : R → Option (List ℕ)) (contents : W → Option (List ℕ)) where
  pub by_parts : (input input' : Watched R) (output output' : Watched W) (result : Result (Pairs ℕ) RunError)
      → EndsRun remaining contents input input' output output' result → EndsRunByParts Shows remaining contents input input' output output' result
  by_parts input input' output output' (Ok map) e = (
    record {
      taken = _;
      reads = e.0.0.consumes;
      ends = e.1;
      written = record { whole = e.0.0.whole; rest = e.0.0.rest; cut = cut_read e.0.0; map = e.0.1.map; shows = shown _ _ _ _ e.0.1 };
    },
    not_both _ e.2,
    not_both _ e.3,
  )
  by_parts input input' output output' (Err ReadFailed) e = (
    record {
      taken = _;
      reads = e.0.0.consumes;
      written = record { whole = e.0.0.whole; rest = e.0.0.rest; cut = cut_read e.0.0; map = e.0.1.map; shows = shown _ _ _ _ e.0.1 };
    },
    e.1,
  )
  by_parts input input' output output' (Err WriteFailed) e =
      let all = lines_of e.0.0.whole e.0.0.rest in (
        record {
          taken = _;
          reads = e.0.0.consumes;
          written = record {
            whole = e.0.0.whole;
            rest = e.0.0.rest;
            cut = cut_read e.0.0;
            lines = take e.0.1 all;
            later = drop e.0.1 all;
            first = sym (take-append-drop e.0.1 all);
            map = e.0.3.map;
            left = e.0.2;
            shows = shown _ _ _ _ e.0.3;
          };
        },
        e.1,
      )
  by_parts input input' output output' (Err Oom) e = e
