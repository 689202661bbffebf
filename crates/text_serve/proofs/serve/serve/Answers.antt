use Rattle.std.proofs.Common.{◌≡◌, ℕ, zero, suc, ◌<◌, ◌^◌, List, [], ◌∷◌, Bool, true, false, Option, Some, None, get_or, map, string_bytes, codes, decimal, refl, sym, ap, ◌∙◌, arith}
use Rattle.std.proofs.lemmas.Fmt.{first_decimal, decimal_digit}
use Rattle.text_trace.specs.declared.detail.Detail.{Detail}
use Rattle.text_trace.specs.declared.detail.Detail.TheVariants.{Outcomes, Events, Contents}
use Rattle.text_serve.specs.Serve.{AsksRun, AsksHelp, AsksSchedule}
use Rattle.text_serve.specs.inner.Asked.{AsksMode}
use Rattle.text_serve.specs.declared.serve.Mode.TheVariants.{Run, Help, Schedule}
use Rattle.text_serve.proofs.serve.serve.Goals as goal

-- no number begins with a dash
no_dash : (n : ℕ) → n < 2 ^ 64 → decimal n ≡ codes "--help" → ⊥
no_dash zero fits e = omega (arith, ap (λ (w : List ℕ). get_or w 0 0) (sym (decimal_digit 0 (omega arith)) ∙ e))
no_dash (suc n) fits e = omega (arith, first_decimal (suc n) (omega arith) fits, ap (λ (w : List ℕ). get_or w 0 0) e)

-- words that ask for a run ask for no help
not_both : (words : List (List ℕ)) (limit : Option ℕ) (stats : Bool) → AsksRun words limit stats → AsksHelp words → ⊥
not_both words None false run help = let both : codes "run" ∷ [] ≡ codes "run" ∷ codes "--help" ∷ [] = sym run ∙ help in cc
not_both words None true run help = let both : codes "run" ∷ codes "--stats" ∷ [] ≡ codes "run" ∷ codes "--help" ∷ [] = sym run ∙ help in cc
not_both words (Some n) false run help = no_dash n run.1 (ap (λ (ws : List (List ℕ)). get_or ws 1 []) (sym run.0 ∙ help))
not_both words (Some n) true run help = let both : codes "run" ∷ codes "--stats" ∷ decimal n ∷ [] ≡ codes "run" ∷ codes "--help" ∷ [] = sym run.0 ∙ help in cc

-- the first word
abbrev first_word : List (List ℕ) → List ℕ
first_word words = get_or words 0 []

run_first : (words : List (List ℕ)) (limit : Option ℕ) (stats : Bool) → AsksRun words limit stats → first_word words ≡ codes "run"
run_first words None false run = ap first_word run
run_first words None true run = ap first_word run
run_first words (Some n) false run = ap first_word run.0
run_first words (Some n) true run = ap first_word run.0

-- words that ask for a schedule ask for no run and no help
no_schedule : (words : List (List ℕ)) (detail : Detail) → first_word words ≡ codes "run" → AsksSchedule words detail → ⊥
no_schedule words Outcomes first asks = let both : codes "run" ≡ codes "schedule" = sym first ∙ ap first_word asks in cc
no_schedule words Events first asks = let both : codes "run" ≡ codes "trace" = sym first ∙ ap first_word asks in cc
no_schedule words Contents first asks = let both : codes "run" ≡ codes "trace" = sym first ∙ ap first_word asks in cc

-- and for one detail
same_detail : (words : List (List ℕ)) (one other : Detail) → AsksSchedule words one → AsksSchedule words other → other ≡ one
same_detail words Outcomes Outcomes a b = refl
same_detail words Events Events a b = refl
same_detail words Contents Contents a b = refl
same_detail words Outcomes Events a b = let both : codes "schedule" ∷ [] ≡ codes "trace" ∷ [] = sym a ∙ b in cc
same_detail words Outcomes Contents a b = let both : codes "schedule" ∷ [] ≡ codes "trace" ∷ codes "--content" ∷ [] = sym a ∙ b in cc
same_detail words Events Outcomes a b = let both : codes "trace" ∷ [] ≡ codes "schedule" ∷ [] = sym a ∙ b in cc
same_detail words Events Contents a b = let both : codes "trace" ∷ [] ≡ codes "trace" ∷ codes "--content" ∷ [] = sym a ∙ b in cc
same_detail words Contents Outcomes a b = let both : codes "trace" ∷ codes "--content" ∷ [] ≡ codes "schedule" ∷ [] = sym a ∙ b in cc
same_detail words Contents Events a b = let both : codes "trace" ∷ codes "--content" ∷ [] ≡ codes "trace" ∷ [] = sym a ∙ b in cc

pub returns-in-Some-Run-clause-help : goal.returns-in-Some-Run-clause-help
returns-in-Some-Run-clause-help g c = λ help.
    let asks : AsksMode (map string_bytes c.args.words.now) (Run c.in-Some-Run.limit c.in-Some-Run.stats) = rw c.in-Some-Run.field-0-is at c.in-Some-Run.ensures.some in
    absurd (not_both (map string_bytes c.args.words.now) c.in-Some-Run.limit c.in-Some-Run.stats asks help)

pub returns-in-Some-Run-clause-schedule : goal.returns-in-Some-Run-clause-schedule
returns-in-Some-Run-clause-schedule g c = λ detail asked.
    let words = map string_bytes c.args.words.now in
    let asks : AsksMode words (Run c.in-Some-Run.limit c.in-Some-Run.stats) = rw c.in-Some-Run.field-0-is at c.in-Some-Run.ensures.some in
    absurd (no_schedule words detail (run_first words c.in-Some-Run.limit c.in-Some-Run.stats asks) asked)

pub returns-in-Some-Help-clause-run : goal.returns-in-Some-Help-clause-run
returns-in-Some-Help-clause-run g c = λ limit stats run.
    let asks : AsksMode (map string_bytes c.args.words.now) Help = rw c.in-Some-Help.field-0-is at c.in-Some-Help.ensures.some in
    absurd (not_both (map string_bytes c.args.words.now) limit stats run asks)

pub returns-in-Some-Help-clause-schedule : goal.returns-in-Some-Help-clause-schedule
returns-in-Some-Help-clause-schedule g c = λ detail asked.
    let words = map string_bytes c.args.words.now in
    let asks : AsksMode words Help = rw c.in-Some-Help.field-0-is at c.in-Some-Help.ensures.some in
    absurd (no_schedule words detail (ap first_word asks) asked)

pub returns-in-Some-Schedule-clause-run : goal.returns-in-Some-Schedule-clause-run
returns-in-Some-Schedule-clause-run g c = λ limit stats run.
    let words = map string_bytes c.args.words.now in
    let asks : AsksMode words (Schedule c.in-Some-Schedule.detail) = rw c.in-Some-Schedule.field-0-is at c.in-Some-Schedule.ensures.some in
    absurd (no_schedule words c.in-Some-Schedule.detail (run_first words limit stats run) asks)

pub returns-in-Some-Schedule-clause-help : goal.returns-in-Some-Schedule-clause-help
returns-in-Some-Schedule-clause-help g c = λ help.
    let words = map string_bytes c.args.words.now in
    let asks : AsksMode words (Schedule c.in-Some-Schedule.detail) = rw c.in-Some-Schedule.field-0-is at c.in-Some-Schedule.ensures.some in
    absurd (no_schedule words c.in-Some-Schedule.detail (ap first_word help) asks)

pub returns-in-Some-Schedule-clause-schedule : goal.returns-in-Some-Schedule-clause-schedule
returns-in-Some-Schedule-clause-schedule g c = λ detail asked.
    let words = map string_bytes c.args.words.now in
    let asks : AsksMode words (Schedule c.in-Some-Schedule.detail) = rw c.in-Some-Schedule.field-0-is at c.in-Some-Schedule.ensures.some in
    rw (same_detail words c.in-Some-Schedule.detail detail asks asked) (c.schedule.result, c.end_schedule.ensures, c.schedule.ensures)
