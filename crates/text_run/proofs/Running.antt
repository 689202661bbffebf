-- Steps of a run.
use Rattle.std.proofs.Common.{◌≡◌, ◌≢◌, ℕ, List, [], ◌∷◌, ◌++◌, nat_eq, Option, Some, None, refl, sym, ap, subst, ◌∙◌, append_assoc, append-nil}
use Rattle.std.specs.List.{AllZip}
use Rattle.std.specs.Io.KnownBytes.{Keeps}
use Rattle.std.proofs.lemmas.List.Concat.{flat_map-append}
use Rattle.spec_map.specs.Map.{Pairs}
use Rattle.spec_map.specs.Refusal.{at_new_node}
use Rattle.spec_map.proofs.Runs.{IsLegal-append}
use Rattle.spec_text.specs.Bytes.{Sends}
use Rattle.spec_text.specs.Lines.{ended}
use Rattle.text_lines.specs.inner.Kept.{kept_with}
use Rattle.spec_text.specs.Answer.{IsAnswered}
use Rattle.text_run.specs.inner.Answers.{Answer, operations_in, texts_in, AnswersLines, AnswersLine, AnswersWhole, AnswersPart}
use Rattle.text_run.specs.inner.Session.{HasAnswered, ServesAll, TakesLine, StopsAnswer, Breaks, BreaksWithin}
use Rattle.text_lines.proofs.Cutting.{cut_none, cut_byte, cut_line, cut_on, lines_go_on, holds_byte, last_line}
use Rattle.text_lines.proofs.Sending.{sends_more, sends_on, sends_kept, sends_nothing}

-- one line more is answered
answered_more : (lines : List (List ℕ)) (answers : List Answer) (line : List ℕ) (last : Answer) → AllZip IsAnswered lines answers → IsAnswered line last → AllZip IsAnswered (lines ++ line ∷ []) (answers ++ last ∷ [])
answered_more [] [] line last all more = (more, tt)
answered_more (l ∷ lines) (a ∷ answers) line last all more = (all.0, answered_more lines answers line last all.1 more)
answered_more [] (a ∷ answers) line last all more = absurd all
answered_more (l ∷ lines) [] line last all more = absurd all

operations_more : (answers more : List Answer) → operations_in (answers ++ more) ≡ operations_in answers ++ operations_in more
operations_more [] more = refl
operations_more ((text, None) ∷ answers) more = operations_more answers more
operations_more ((text, Some d) ∷ answers) more = ap (λ ds. d ∷ ds) (operations_more answers more)

texts_more : (answers : List Answer) (last : Answer) → texts_in (answers ++ last ∷ []) ≡ texts_in answers ++ ended last.0
texts_more answers last = flat_map-append (λ a. ended a.0) answers (last ∷ []) ∙ ap (λ ws. texts_in answers ++ ws) (append-nil (ended last.0))

pub tells_none : (o : Option (List ℕ)) → AnswersLines [] [] o o []
tells_none o = record { answers = []; each = tt; legal = refl; sends = sends_nothing o [] }

pub tells_line : {lines : List (List ℕ)} {m n : Pairs ℕ} {old mid new : Option (List ℕ)} {left left' : List ℕ} (line text : List ℕ) → AnswersLines lines m old mid left → AnswersLine m line text n → Sends mid new (left ++ ended text) left' → AnswersLines (lines ++ line ∷ []) n old new left'
tells_line {lines} {m} {n} line text shows a sends =
    let last : Answer = (text, a.done) in
    record {
      answers = shows.answers ++ last ∷ [];
      each = answered_more lines shows.answers line last shows.each a.answered;
      legal = rw (operations_more shows.answers (last ∷ [])) (IsLegal-append nat_eq at_new_node [] m n (operations_in shows.answers) (operations_in (last ∷ [])) shows.legal a.legal);
      sends = rw (texts_more shows.answers last) (sends_more (ended text) shows.sends sends);
    }

pub tells_sent : {lines : List (List ℕ)} {m : Pairs ℕ} {old mid new : Option (List ℕ)} {left left' : List ℕ} → AnswersLines lines m old mid left → Sends mid new left left' → AnswersLines lines m old new left'
tells_sent shows sends = record { answers = shows.answers; each = shows.each; legal = shows.legal; sends = sends_on shows.sends sends }

-- in the middle of a run
pub serves_none : (o : Option (List ℕ)) → HasAnswered [] (Some []) [] o o []
serves_none o = record { whole = []; rest = []; cut = cut_none; held = refl; shows = tells_none o }

pub serves_byte : {m : Pairs ℕ} {kept : Option (List ℕ)} {left bytes : List ℕ} {old new : Option (List ℕ)} (byte : ℕ) → byte ≢ 10 → HasAnswered m kept left old new bytes → HasAnswered m (kept_with kept byte) left old new (bytes ++ byte ∷ [])
serves_byte {m} {kept} byte other s = record {
  whole = s.whole;
  rest = s.rest ++ byte ∷ [];
  cut = cut_byte byte other s.cut;
  held = holds_byte kept s.rest byte s.held;
  shows = s.shows;
}

pub serves_line : {m n : Pairs ℕ} {kept : Option (List ℕ)} {left left' bytes : List ℕ} {old mid new : Option (List ℕ)} → HasAnswered m kept left old mid bytes → TakesLine m n kept left left' mid new → HasAnswered n (Some []) left' old new (bytes ++ 10 ∷ [])
serves_line s t = record {
  whole = s.whole ++ s.rest ∷ [];
  rest = [];
  cut = cut_line s.cut;
  held = refl;
  shows = tells_line s.rest t.text s.shows (t.answers s.rest s.held) t.sends;
}

pub serves_sent : {m : Pairs ℕ} {kept : Option (List ℕ)} {left left' bytes : List ℕ} {old mid new : Option (List ℕ)} → HasAnswered m kept left old mid bytes → Sends mid new left left' → HasAnswered m kept left' old new bytes
serves_sent s sends = record { whole = s.whole; rest = s.rest; cut = s.cut; held = s.held; shows = tells_sent s.shows sends }

-- a write fails
pub breaks : {m : Pairs ℕ} {kept : Option (List ℕ)} {left left' bytes : List ℕ} {old mid new : Option (List ℕ)} → HasAnswered m kept left old mid bytes → Sends mid new left left' → Breaks bytes old new
breaks s sends = let t = serves_sent s sends in record { whole = t.whole; rest = t.rest; cut = t.cut; map = _; left = _; shows = t.shows }

-- whatever else was read
pub tells_part : (bytes more : List ℕ) (old new : Option (List ℕ)) → Breaks bytes old new → AnswersPart (bytes ++ more) old new
tells_part bytes more old new b =
    let on = cut_on more bytes b.whole b.rest b.cut in
    let lines = lines_go_on (b.whole ++ on.others) on.rest in
    record {
      whole = b.whole ++ on.others;
      rest = on.rest;
      cut = on.cut;
      lines = b.whole;
      later = on.others ++ lines.later;
      first = lines.first ∙ append_assoc b.whole on.others lines.later;
      map = b.map;
      left = b.left;
      shows = b.shows;
    }

pub tells_within : (bytes more : List ℕ) (old new : Option (List ℕ)) → BreaksWithin bytes more old new → AnswersPart (bytes ++ more) old new
tells_within bytes more old new b =
    subst (λ (bs : List ℕ). AnswersPart bs old new) (append_assoc bytes b.front b.back ∙ sym (ap (λ ws. bytes ++ ws) b.parts)) (tells_part (bytes ++ b.front) b.back old new b.breaks)

pub tells_broken : (bytes : List ℕ) (old new : Option (List ℕ)) → Breaks bytes old new → AnswersPart bytes old new
tells_broken bytes old new b = subst (λ (bs : List ℕ). AnswersPart bs old new) (append-nil bytes) (tells_part bytes [] old new b)

-- it breaks off at the end of a line
pub breaks_line : {m : Pairs ℕ} {kept : Option (List ℕ)} {left bytes : List ℕ} {old mid new : Option (List ℕ)} (byte : ℕ) → byte ≡ 10 → HasAnswered m kept left old mid bytes → StopsAnswer m kept left mid new → Breaks (bytes ++ byte ∷ []) old new
breaks_line {m} {kept} {left} {bytes} byte ten s a = record {
  whole = s.whole ++ s.rest ∷ [];
  rest = [];
  cut = rw ten (cut_line s.cut);
  map = a.after;
  left = a.rest;
  shows = tells_line s.rest a.takes.text s.shows (a.takes.answers s.rest s.held) a.takes.sends;
}

-- it breaks off at the last line
pub stops_last : {m : Pairs ℕ} {kept : Option (List ℕ)} {left bytes : List ℕ} {old mid new : Option (List ℕ)} → (kept ≡ Some [] → ⊥) → HasAnswered m kept left old mid bytes → StopsAnswer m kept left mid new → AnswersPart bytes old new
stops_last {m} {kept} {left} {bytes} {old} {mid} {new} some s a = record {
  whole = s.whole;
  rest = s.rest;
  cut = s.cut;
  lines = s.whole ++ s.rest ∷ [];
  later = [];
  first = last_line s.whole s.rest kept some s.held ∙ sym (append-nil _);
  map = a.after;
  left = a.rest;
  shows = tells_line s.rest a.takes.text s.shows (a.takes.answers s.rest s.held) a.takes.sends;
}

-- at the end of the input
pub serves_all_none : {m : Pairs ℕ} {left bytes : List ℕ} {old new : Option (List ℕ)} (kept : Option (List ℕ)) → kept ≡ Some [] → HasAnswered m kept left old new bytes → ServesAll m left old new bytes
serves_all_none {m} {left} {bytes} {old} {new} kept none s =
    let empty : s.rest ≡ [] = rw none at s.held in
    record {
      whole = s.whole;
      rest = [];
      cut = rw empty at s.cut;
      shows = s.shows;
    }

pub serves_all_line : {m n : Pairs ℕ} {kept : Option (List ℕ)} {left left' bytes : List ℕ} {old mid new : Option (List ℕ)} → (kept ≡ Some [] → ⊥) → HasAnswered m kept left old mid bytes → TakesLine m n kept left left' mid new → ServesAll n left' old new bytes
serves_all_line {m} {n} {kept} {left} {left'} {bytes} {old} {mid} {new} some s t = record {
  whole = s.whole;
  rest = s.rest;
  cut = s.cut;
  shows = rw (last_line s.whole s.rest kept some s.held) (tells_line s.rest t.text s.shows (t.answers s.rest s.held) t.sends);
}

pub serves_all_sent : {m : Pairs ℕ} {left left' bytes : List ℕ} {old mid new : Option (List ℕ)} → ServesAll m left old mid bytes → Sends mid new left left' → ServesAll m left' old new bytes
serves_all_sent s sends = record { whole = s.whole; rest = s.rest; cut = s.cut; shows = tells_sent s.shows sends }

pub tells_all_part : {m : Pairs ℕ} {left bytes : List ℕ} {old new : Option (List ℕ)} → ServesAll m left old new bytes → AnswersPart bytes old new
tells_all_part {m} {left} s = record { whole = s.whole; rest = s.rest; cut = s.cut; lines = _; later = []; first = sym (append-nil _); map = m; left = left; shows = s.shows }

pub serves_all_kept : {m : Pairs ℕ} {left bytes : List ℕ} {old mid new : Option (List ℕ)} → ServesAll m left old mid bytes → Keeps mid new → ServesAll m left old new bytes
serves_all_kept s k = record {
  whole = s.whole;
  rest = s.rest;
  cut = s.cut;
  shows = record { answers = s.shows.answers; each = s.shows.each; legal = s.shows.legal; sends = sends_kept s.shows.sends k };
}

pub serves_line_to : {m n : Pairs ℕ} {kept kept' : Option (List ℕ)} {left left' bytes : List ℕ} {old mid new : Option (List ℕ)} (byte : ℕ) → byte ≡ 10 → kept' ≡ Some [] → HasAnswered m kept left old mid bytes → TakesLine m n kept left left' mid new → HasAnswered n kept' left' old new (bytes ++ byte ∷ [])
serves_line_to byte ten none s t = rw (none, ten) (serves_line s t)

pub tells_whole : {m : Pairs ℕ} {kept : Option (List ℕ)} {bytes : List ℕ} {old new : Option (List ℕ)} → HasAnswered m kept [] old new bytes → AnswersWhole bytes old new
tells_whole {m} s = record { whole = s.whole; rest = s.rest; cut = s.cut; map = m; shows = s.shows }
