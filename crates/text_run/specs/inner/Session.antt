-- The middle of a run.
use Rattle.std.specs.Prelude.{◌≡◌, ℕ, List, ◌++◌, Option, Result, Ok, Err, Bool, false}
use Rattle.std.specs.Io.KnownBytes.{Consumes, IsAtEnd}
use Rattle.spec_map.specs.Map.{Pairs}
use Rattle.spec_text.specs.Bytes.{Sends}
use Rattle.spec_text.specs.Lines.{lines_of, ended}
use Rattle.text_lines.specs.inner.Cut.{Cuts}
use Rattle.text_lines.specs.inner.Kept.{IsKeptOf}
use Rattle.text_lines.specs.declared.watched.Watched.{Watched}
use Rattle.text_run.specs.inner.Answers.{AnswersLines, AnswersLine, StopsReading, StopsWriting}
use Rattle.text_run.specs.declared.run.RunError.{RunError}
use Rattle.text_run.specs.declared.run.RunError.TheVariants.{Read, Write, Oom}
use Rattle.text_run.specs.declared.session.Session.{Session}

-- The bytes were read. Their whole lines have been answered, kept is held of the line that has begun, and
-- left has still to be written.
pub record HasAnswered (m : Pairs ℕ) (kept : Option (List ℕ)) (left : List ℕ)
    (old new : Option (List ℕ)) (bytes : List ℕ) : Type 0 where
  pub whole : List (List ℕ)
  pub rest : List ℕ
  pub cut : Cuts bytes whole rest
  pub held : IsKeptOf kept rest
  pub shows : AnswersLines whole m old new left

-- the same, and the bytes are what was read
pub record ServesInput (m : Pairs ℕ) (kept : Option (List ℕ)) (left : List ℕ)
    (input input' output output' : Option (List ℕ)) : Type 0 where
  pub taken : List ℕ
  pub reads : Consumes input input' taken
  pub serves : HasAnswered m kept left output output' taken

-- the same, and the line that has begun has been answered too
pub record ServesAll (m : Pairs ℕ) (left : List ℕ) (old new : Option (List ℕ)) (bytes : List ℕ)
    : Type 0 where
  pub whole : List (List ℕ)
  pub rest : List ℕ
  pub cut : Cuts bytes whole rest
  pub shows : AnswersLines (lines_of whole rest) m old new left

-- the line of which kept is held has been answered; its text follows what was still to be written
pub record TakesLine (m n : Pairs ℕ) (kept : Option (List ℕ)) (left left' : List ℕ)
    (old new : Option (List ℕ)) : Type 0 where
  pub text : List ℕ
  pub answers : (line : List ℕ) → IsKeptOf kept line → AnswersLine m line text n
  pub sends : Sends old new (left ++ ended text) left'

-- it has been answered, and a write failed
pub record StopsAnswer (m : Pairs ℕ) (kept : Option (List ℕ)) (left : List ℕ)
    (old new : Option (List ℕ)) : Type 0 where
  pub after : Pairs ℕ
  pub rest : List ℕ
  pub takes : TakesLine m after kept left rest old new

-- some whole lines of the bytes have been answered, and a beginning of their texts was written
pub record Breaks (bytes : List ℕ) (old new : Option (List ℕ)) : Type 0 where
  pub whole : List (List ℕ)
  pub rest : List ℕ
  pub cut : Cuts bytes whole rest
  pub map : Pairs ℕ
  pub left : List ℕ
  pub shows : AnswersLines whole map old new left

-- it broke off after a first part of more bytes
pub record BreaksWithin (bytes more : List ℕ) (old new : Option (List ℕ)) : Type 0 where
  pub front : List ℕ
  pub back : List ℕ
  pub parts : more ≡ front ++ back
  pub breaks : Breaks (bytes ++ front) old new

-- The session has served the bytes, and what was written to its output follows old_out.
abbrev pub HasServed : {A W : Type 0} → (W → Option (List ℕ)) → Session A → Watched W
    → Option (List ℕ) → List ℕ → Type 0
HasServed contents s output old_out bytes =
    HasAnswered s.map.pairs s.line s.pending old_out (contents output.inner) bytes

module _ {A R W : Type 0} (remaining : R → Option (List ℕ)) (contents : W → Option (List ℕ)) where
  -- it has served what was read since old_in
  abbrev pub HasServedInput : Session A → Watched R → Watched W
      → Option (List ℕ) → Option (List ℕ) → Type 0
  HasServedInput s input output old_in old_out =
      ServesInput s.map.pairs s.line s.pending
      old_in (remaining input.inner) old_out (contents output.inner)

  -- One turn of a run goes on, ends the input, or breaks off.
  abbrev pub TurnsTo : Session A → Watched R → Watched W
      → Option (List ℕ) → Option (List ℕ) → Result Bool RunError → Type 0
  TurnsTo s input output old_in old_out (Ok goes_on) =
      HasServedInput s input output old_in old_out
      × (goes_on ≡ false → IsAtEnd (remaining input.inner))
  TurnsTo s input output old_in old_out (Err Read) =
      StopsReading old_in (remaining input.inner) old_out (contents output.inner)
  TurnsTo s input output old_in old_out (Err Write) =
      StopsWriting old_in (remaining input.inner) old_out (contents output.inner)
  TurnsTo s input output old_in old_out (Err Oom) = ⊥
