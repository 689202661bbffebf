-- An input that is cut into lines byte by byte.
use Rattle.std.proofs.Common.{◌≡◌, ◌≢◌, ℕ, List, [], ◌∷◌, ◌++◌, length, Option, Some, None, Result, Ok, Err, refl, sym, ap, subst, ◌∙◌, inl, inr, arith, append_assoc, append-nil, length-append}
use Rattle.std.specs.List.{flat_map, AllByRecursion}
use Rattle.std.specs.Result.{OnOk, OnErr}
use Rattle.std.proofs.lemmas.Bool.{cases_lt, cases_eq, lt-ltb, le-ltb}
use Rattle.std.proofs.lemmas.List.Concat.{flat_map-append}
use Rattle.std.specs.Io.KnownBytes.{Consumes}
use Rattle.spec_text.specs.Lines.{Lacks, Reads, lines_of, ended}
use Rattle.text_lines.specs.inner.Cut.{Cuts}
use Rattle.text_lines.specs.inner.Kept.{IsKeptOf, kept_with}

-- one more at the end of a list with a property
all_push : {X : Type 0} (P : X → Type 0) (xs : List X) (x : X) → AllByRecursion P xs → P x → AllByRecursion P (xs ++ x ∷ [])
all_push P [] x all here = (here, tt)
all_push P (y ∷ ys) x all here = (all.0, all_push P ys x all.1 here)

-- the ended lines of a list with one more
pub ended_push : (lines : List (List ℕ)) (line : List ℕ) → flat_map ended (lines ++ line ∷ []) ≡ flat_map ended lines ++ ended line
ended_push lines line = flat_map-append ended lines (line ∷ []) ∙ ap (λ ws. flat_map ended lines ++ ws) (append-nil (ended line))

-- no byte, a byte that ends no line, and one that does
pub cut_none : Cuts [] [] []
cut_none = record { spelled = refl; each = tt; last = tt }

pub cut_byte : {bytes rest : List ℕ} {whole : List (List ℕ)} (byte : ℕ) → byte ≢ 10 → Cuts bytes whole rest → Cuts (bytes ++ byte ∷ []) whole (rest ++ byte ∷ [])
cut_byte {bytes} {rest} {whole} byte other cut = record {
  spelled = ap (λ ws. ws ++ byte ∷ []) cut.spelled ∙ append_assoc (flat_map ended whole) rest (byte ∷ []);
  each = cut.each;
  last = all_push (λ b. b ≢ 10) rest byte cut.last other;
}

pub cut_line : {bytes rest : List ℕ} {whole : List (List ℕ)} → Cuts bytes whole rest → Cuts (bytes ++ 10 ∷ []) (whole ++ rest ∷ []) []
cut_line {bytes} {rest} {whole} cut = record {
  spelled = ap (λ ws. ws ++ 10 ∷ []) cut.spelled ∙ append_assoc (flat_map ended whole) rest (10 ∷ []) ∙ sym (ended_push whole rest) ∙ sym (append-nil _);
  each = all_push (Lacks 10) whole rest cut.each cut.last;
  last = tt;
}

-- what was read, from its bytes and their cut, and back
abbrev pub reads_cut : {input input' : Option (List ℕ)} {bytes rest : List ℕ} {whole : List (List ℕ)} → Consumes input input' bytes → Cuts bytes whole rest → Reads input input'
reads_cut {input} {input'} {bytes} {rest} {whole} consumes cut = record {
  whole = whole;
  rest = rest;
  consumes = subst (Consumes input input') cut.spelled consumes;
  each = cut.each;
  last = cut.last;
}

pub cut_read : {input input' : Option (List ℕ)} → (read : Reads input input') → Cuts (flat_map ended read.whole ++ read.rest) read.whole read.rest
cut_read read = record { spelled = refl; each = read.each; last = read.last }

-- more bytes keep the whole lines, and may end others
pub record CutsOn (bytes more : List ℕ) (whole : List (List ℕ)) : Type 0 where
  pub others : List (List ℕ)
  pub rest : List ℕ
  pub cut : Cuts (bytes ++ more) (whole ++ others) rest

pub cut_on : (more bytes : List ℕ) (whole : List (List ℕ)) (rest : List ℕ) → Cuts bytes whole rest → CutsOn bytes more whole
cut_on [] bytes whole rest cut = record { others = []; rest = rest; cut = rw (append-nil bytes, append-nil whole) cut }
cut_on (b ∷ more) bytes whole rest cut =
    let again = λ (ws : List (List ℕ)) (r : List ℕ) (c : Cuts (bytes ++ b ∷ []) ws r). cut_on more (bytes ++ b ∷ []) ws r c in
    let joined = append_assoc bytes (b ∷ []) more in
    elim (cases_eq b 10) [
      | inl here ↦
          let next = again (whole ++ rest ∷ []) [] (rw here (cut_line cut)) in
          record {
            others = rest ∷ next.others;
            rest = next.rest;
            cut = subst (λ (bs : List ℕ). Cuts bs (whole ++ rest ∷ next.others) next.rest) joined
                (subst (λ (ws : List (List ℕ)). Cuts ((bytes ++ b ∷ []) ++ more) ws next.rest) (append_assoc whole (rest ∷ []) next.others) next.cut);
          }
      | inr other ↦
          let next = again whole (rest ++ b ∷ []) (cut_byte b other cut) in
          record {
            others = next.others;
            rest = next.rest;
            cut = subst (λ (bs : List ℕ). Cuts bs (whole ++ next.others) next.rest) joined next.cut;
          }
    ]

-- the lines are the whole ones and perhaps one more
pub record LinesGoOn (whole : List (List ℕ)) (rest : List ℕ) : Type 0 where
  pub later : List (List ℕ)
  pub first : lines_of whole rest ≡ whole ++ later

pub lines_go_on : (whole : List (List ℕ)) (rest : List ℕ) → LinesGoOn whole rest
lines_go_on whole [] = record { later = []; first = sym (append-nil whole) }
lines_go_on whole (b ∷ bs) = record { later = (b ∷ bs) ∷ []; first = refl }

-- what is held of a line after a byte more
pub holds_byte : (kept : Option (List ℕ)) (line : List ℕ) (byte : ℕ) → IsKeptOf kept line → IsKeptOf (kept_with kept byte) (line ++ byte ∷ [])
holds_byte None line byte held = omega (arith, held, length-append line (byte ∷ []))
holds_byte (Some bytes) line byte held = elim (cases_lt (length bytes) 256) [
  | inl below ↦ rw (lt-ltb (length bytes) 256 below) (ap (λ ws. ws ++ byte ∷ []) held)
  | inr above ↦ rw (le-ltb (length bytes) 256 above) (omega (arith, above, length-append line (byte ∷ []), ap length held))
]

-- the line that has begun is the last one
pub last_line : (whole : List (List ℕ)) (rest : List ℕ) (kept : Option (List ℕ)) → (kept ≡ Some [] → ⊥) → IsKeptOf kept rest → lines_of whole rest ≡ whole ++ rest ∷ []
last_line whole [] None some held = absurd (omega (arith, held))
last_line whole [] (Some bytes) some held = absurd (some (ap Some (sym held)))
last_line whole (b ∷ bs) kept some held = refl

-- clauses on a `Result`
pub on_ok_two : {T E P Q S : Type 0} (r : Result T E) → (P → Q → S) → OnOk r P → OnOk r Q → OnOk r S
on_ok_two (Ok x) f p q = f p q
on_ok_two (Err e) f p q = tt

pub on_ok_from : {T E P : Type 0} (r : Result T E) → P → OnOk r P
on_ok_from (Ok x) p = p
on_ok_from (Err e) p = tt

pub on_err_from : {T E P : Type 0} (r : Result T E) → P → OnErr r P
on_err_from (Ok x) p = tt
on_err_from (Err e) p = p
