-- HOW A RUN ENDS: what was read, and what was written for it.
use Rattle.std.specs.Prelude.{◌≡◌, ℕ, true, false, List, [], Option, Result, Ok, Err, take, nat_eq}
use Rattle.std.specs.List.{flat_map, filter_map, AllZip}
use Rattle.std.specs.Io.KnownBytes.{IsAtEnd}
use Rattle.spec_map.specs.Map.{Pairs}
use Rattle.spec_map.specs.Call.{Operation}
use Rattle.spec_map.specs.Legal.{IsLegal}
use Rattle.spec_map.specs.Refusal.{at_new_node}
use Rattle.spec_text.specs.Answer.{IsAnswered}
use Rattle.spec_text.specs.Bytes.{Sends}
use Rattle.spec_text.specs.Lines.{Reads, lines_of, ended}
use Rattle.text_lines.specs.Watched.{Stream}
use Rattle.text_run.specs.declared.run.RunError.{RunError}
use Rattle.text_run.specs.declared.run.RunError.TheVariants.{Read, Write, Oom}

-- The lines were answered, each by a text. The operations are a legal run from the empty map. The texts were written,
-- but for the bytes `left` at their end, and nothing else.
pub record Answers (lines : List (List ℕ)) (output output' : Option (List ℕ)) (left : List ℕ)
    : Type 0 where
  pub answers : List (List ℕ × Option (Operation ℕ ℕ ℕ))
  pub each : AllZip IsAnswered lines answers
  pub map : Pairs ℕ
  pub legal : IsLegal nat_eq at_new_node [] (filter_map (λ a. a.1) answers) map
  pub sends : Sends output output' (flat_map (λ a. ended a.0) answers) left

-- by what is left to be read and what was written, of the streams before and after
module _ {R W : Type 0} (remaining : R → Option (List ℕ)) (contents : W → Option (List ℕ))
    (input input' : Stream R) (output output' : Stream W) where
  abbrev pub IsRead : Type 0
  IsRead = Reads (remaining input.inner) (remaining input'.inner)

  abbrev pub AreAnswered : List (List ℕ) → List ℕ → Type 0
  AreAnswered lines left = Answers lines (contents output.inner) (contents output'.inner) left

  -- The whole input is served, and this is the map then; or a read fails, and the whole lines before it are served; or a
  -- write fails, and a beginning was written of the texts of some first lines; or no map could be made, and nothing is
  -- read or written. A limit for the map isn't part of this.
  abbrev pub EndsRun : Result (Pairs ℕ) RunError → Type 0
  EndsRun (Ok map) =
      ((read : IsRead) × (all : AreAnswered (lines_of read.whole read.rest) []) × (all.map ≡ map))
      × IsAtEnd (remaining input'.inner) × (input'.failed ≡ false) × (output'.failed ≡ false)
  EndsRun (Err Read) = ((read : IsRead) × AreAnswered read.whole []) × (input'.failed ≡ true)
  EndsRun (Err Write) =
      ((read : IsRead) × (n : ℕ) × (left : List ℕ)
      × AreAnswered (take n (lines_of read.whole read.rest)) left) × (output'.failed ≡ true)
  EndsRun (Err Oom) = (input' ≡ input) × (output' ≡ output)
