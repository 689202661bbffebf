-- A run in parts: what was read, what was answered, what was written.
use Rattle.std.specs.Prelude.{◌≡◌, ◌≢◌, ℕ, true, List, [], ◌++◌, Option, Result, Ok, Err}
use Rattle.std.specs.Io.KnownBytes.{Consumes, IsAtEnd}
use Rattle.spec_map.specs.Map.{Pairs}
use Rattle.spec_text.specs.Lines.{lines_of}
use Rattle.text_lines.specs.inner.Cut.{Cuts}
use Rattle.text_lines.specs.declared.watched.Watched.{Watched}
use Rattle.text_run.specs.declared.run.RunError.{RunError}
use Rattle.text_run.specs.declared.run.RunError.TheVariants.{Read, Write, Oom}

-- Some lines were answered, with this map after them, and what was written grew from old to new, up to what is left.
module _ (Shows : List (List ℕ) → Pairs ℕ → Option (List ℕ) → Option (List ℕ) → List ℕ → Type 0) where
  -- the texts of all lines of the bytes were written
  pub record ShowsAll (bytes : List ℕ) (old new : Option (List ℕ)) : Type 0 where
    pub whole : List (List ℕ)
    pub rest : List ℕ
    pub cut : Cuts bytes whole rest
    pub map : Pairs ℕ
    pub shows : Shows (lines_of whole rest) map old new []

  -- the texts of the whole lines of the bytes were written
  pub record ShowsWhole (bytes : List ℕ) (old new : Option (List ℕ)) : Type 0 where
    pub whole : List (List ℕ)
    pub rest : List ℕ
    pub cut : Cuts bytes whole rest
    pub map : Pairs ℕ
    pub shows : Shows whole map old new []

  -- a beginning of the texts of the first lines of the bytes was written
  pub record ShowsPart (bytes : List ℕ) (old new : Option (List ℕ)) : Type 0 where
    pub whole : List (List ℕ)
    pub rest : List ℕ
    pub cut : Cuts bytes whole rest
    pub lines : List (List ℕ)
    pub later : List (List ℕ)
    pub first : lines_of whole rest ≡ lines ++ later
    pub map : Pairs ℕ
    pub left : List ℕ
    pub shows : Shows lines map old new left

  -- the whole input was read, and the texts of its lines were written, and nothing else
  pub record Finishes (input input' output output' : Option (List ℕ)) : Type 0 where
    pub taken : List ℕ
    pub reads : Consumes input input' taken
    pub ends : IsAtEnd input'
    pub written : ShowsAll taken output output'

  -- a part of the input was read, and the texts of its whole lines were written, and nothing else
  pub record BreaksReading (input input' output output' : Option (List ℕ)) : Type 0 where
    pub taken : List ℕ
    pub reads : Consumes input input' taken
    pub written : ShowsWhole taken output output'

  -- a part of the input was read, and a beginning of the texts of its first lines was written
  pub record BreaksWriting (input input' output output' : Option (List ℕ)) : Type 0 where
    pub taken : List ℕ
    pub reads : Consumes input input' taken
    pub written : ShowsPart taken output output'

  module _ {R W : Type 0} (remaining : R → Option (List ℕ)) (contents : W → Option (List ℕ)) where
    -- how a run ends, by these
    abbrev pub EndsRunByParts
        : Watched R → Watched R → Watched W → Watched W → Result (Pairs ℕ) RunError → Type 0
    EndsRunByParts input input' output output' (Ok map) =
        Finishes (remaining input.inner) (remaining input'.inner)
        (contents output.inner) (contents output'.inner)
        × (input'.failed ≢ true) × (output'.failed ≢ true)
    EndsRunByParts input input' output output' (Err Read) =
        BreaksReading (remaining input.inner) (remaining input'.inner)
        (contents output.inner) (contents output'.inner)
        × (input'.failed ≡ true)
    EndsRunByParts input input' output output' (Err Write) =
        BreaksWriting (remaining input.inner) (remaining input'.inner)
        (contents output.inner) (contents output'.inner)
        × (output'.failed ≡ true)
    EndsRunByParts input input' output output' (Err Oom) = (input' ≡ input) × (output' ≡ output)
