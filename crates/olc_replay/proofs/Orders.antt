-- The lines of each number are in order: they determine the call in flight and its progress.
use Rattle.std.proofs.Common.{◌≡◌, ℕ, ◌+◌, ◌^◌, Bool, true, false, IsTrue, List, [], ◌∷◌, Option, Some, None, if◌then◌else◌, inl, inr, refl, sym, subst, ap, ◌∙◌}
use Rattle.spec_map.proofs.MapLaws.{lookup-put_same, lookup-without_same}
use Rattle.spec_map.specs.Map.{IsMap, lookup, put}
use Rattle.spec_node.specs.TableNode.{TableNode}
use Rattle.spec_olc.specs.Calls.{Outline, IsPoint, outline_of}
use Rattle.spec_olc.specs.Kinds.{NextIs, CheckOutcome, ReadOutcome, AnswerOutcome, WriteOutcome, DoesAs, refusal, refused, failed, not_locked, unlocked, MayEnd}
use Rattle.spec_olc.specs.Lists.{off}
use Rattle.spec_olc.specs.Local.{IsLocal}
use Rattle.spec_olc.specs.Orderly.{Course, TurnsBy}
use Rattle.spec_olc.specs.Reading.{GoesOn, HasAll, LooksOn, Remembered}
use Rattle.spec_olc.specs.Runs.{same_number}
use Rattle.spec_olc.specs.State.{State, CallState, back, settled, Cleaning, stopped}
use Rattle.spec_olc.specs.declared.types.Env.{Env}
use Rattle.spec_olc.specs.declared.types.Kind.{Kind}
use Rattle.spec_olc.specs.declared.types.Kind.TheVariants as kind
use Rattle.spec_olc.specs.declared.types.Op.{Op}
use Rattle.spec_olc.specs.declared.types.Op.TheVariants.{Range}
use Rattle.spec_olc.specs.declared.types.Outcome.{Outcome}
use Rattle.spec_olc.specs.declared.types.Outcome.TheVariants.{Going, Ask, Pair, Decided, Refused, Done, Unknown}
use Rattle.spec_olc.specs.declared.types.Progress.{Progress}
use Rattle.spec_olc.specs.declared.types.Progress.TheVariants as progress
use Rattle.spec_olc.specs.declared.types.Reply.{Reply}
use Rattle.spec_olc.specs.declared.types.Report.{Report}
use Rattle.olc_state.proofs.Options.{none_some}

pub by_ok : {X : Type 0} → (ok : Bool) → (IsTrue ok → X) → (ok ≡ false → X) → X
by_ok true good bad = good refl
by_ok false good bad = bad refl

-- the call in flight is the one that began so
pub record IsOf (op : Op ℕ) (call : CallState ℕ) : Type 0 where
  pub outline : call.outline ≡ outline_of op
  pub payloads : (o : Op ℕ) → call.op ≡ Some o → o ≡ op

-- the call by the lines is the call in flight
abbrev pub Matches : Course → Option (CallState ℕ) → Type 0
Matches None None = Unit {0}
Matches None (Some call) = ⊥
Matches (Some c) None = ⊥
Matches (Some c) (Some call) = IsOf c.0 call × (c.1 ≡ call.progress)

-- a call that goes on, with its kind, payloads and progress unchanged
pub record Lasts (call next : CallState ℕ) : Type 0 where
  pub outline : next.outline ≡ call.outline
  pub op : next.op ≡ call.op
  pub progress : next.progress ≡ call.progress

lasts : (call : CallState ℕ) → Lasts call call
lasts call = record { outline = refl; op = refl; progress = refl }

lasts_by : (call next planned : CallState ℕ) → planned ≡ next → Lasts call next → Lasts call planned
lasts_by call next planned e l = subst (λ (f : CallState ℕ). Lasts call f) (sym e) l

goes_on : (call next planned : CallState ℕ) → Lasts call next → GoesOn next planned → Lasts call planned
goes_on call next planned l g =
    elim g [
      | inl e ↦ lasts_by call next planned e l
      | inr e ↦ lasts_by call (back next) planned e (record { outline = l.outline; op = l.op; progress = l.progress })
    ]

looks_on : (outline : Outline) (s : State ℕ) (call : CallState ℕ) (here : Remembered s call) (planned : CallState ℕ) → LooksOn outline s call here planned → Lasts call planned
looks_on (Range a b n) s call here planned h = goes_on call (record call { cursor = h.cursor; reach = h.reach }) planned (record { outline = refl; op = refl; progress = refl }) h.next_is
looks_on outline s call here planned h = elim h [ inl on ↦ lasts_by call call planned on (lasts call) | inr over ↦ lasts_by call (stopped call) planned over.0 (record { outline = refl; op = refl; progress = refl }) ]

failed_lasts : (p : Progress) (call : CallState ℕ) → Lasts call (failed p call)
failed_lasts progress.Open call = record { outline = refl; op = refl; progress = refl }
failed_lasts progress.Decided call = record { outline = refl; op = refl; progress = refl }
failed_lasts progress.Refused call = record { outline = refl; op = refl; progress = refl }

not_locked_lasts : (p : Progress) (held : List ℕ) (call : CallState ℕ) → Lasts call (not_locked p held call)
not_locked_lasts progress.Open [] call = record { outline = refl; op = refl; progress = refl }
not_locked_lasts progress.Open (slot ∷ held) call = lasts call
not_locked_lasts progress.Decided held call = record { outline = refl; op = refl; progress = refl }
not_locked_lasts progress.Refused held call = record { outline = refl; op = refl; progress = refl }

unlocked_lasts : (p : Progress) (cleaning : Option Cleaning) (held : List ℕ) (call : CallState ℕ) → Lasts call (unlocked p cleaning held call)
unlocked_lasts progress.Open cleaning held call = record { outline = refl; op = refl; progress = refl }
unlocked_lasts progress.Decided None held call = lasts call
unlocked_lasts progress.Refused None held call = lasts call
unlocked_lasts progress.Decided (Some c) [] call = record { outline = refl; op = refl; progress = refl }
unlocked_lasts progress.Refused (Some c) [] call = record { outline = refl; op = refl; progress = refl }
unlocked_lasts progress.Decided (Some c) (slot ∷ held) call = record { outline = refl; op = refl; progress = refl }
unlocked_lasts progress.Refused (Some c) (slot ∷ held) call = record { outline = refl; op = refl; progress = refl }

-- HasAll holds of no point call
no_end : (op : Op ℕ) (reach given : ℕ) → HasAll (outline_of op) reach given → IsPoint op → ⊥
no_end (Range a b n) reach given h point = point
no_end op reach given h point = h

module _ (old new : State ℕ) (id : ℕ) (call : CallState ℕ) (env : Env ℕ) (report : Report) (out : Outcome ℕ) (op : Op ℕ) (of : IsOf op call) where
  -- the course after this outcome matches the call in flight
  abbrev Result : Outcome ℕ → Type 0
  Result o = (next : Course) × TurnsBy o (Some (op, call.progress)) next × Matches next (lookup new.calls id)

  abbrev Ends : State ℕ → CallState ℕ → Type 0
  Ends base planned = NextIs (Unit {0}) same_number old new id call env report out base planned

  after_is : (base : State ℕ) (planned : CallState ℕ) (b : Ends base planned) → lookup new.calls id ≡ Some b.next
  after_is base planned b = ap (λ (s : State ℕ). lookup s.calls id) b.after ∙ lookup-put_same base.calls id b.next

  -- the call is still the one that began so, with this progress
  matched : (p : Progress) (base : State ℕ) (planned : CallState ℕ) → Ends base planned → IsOf op planned → p ≡ planned.progress → Matches (Some (op, p)) (lookup new.calls id)
  matched p base planned b is e =
      subst (λ (f : Option (CallState ℕ)). Matches (Some (op, p)) f) (sym (after_is base planned b)) (
        record { outline = ap (λ (f : CallState ℕ). f.outline) b.is ∙ is.outline; payloads = λ o h. is.payloads o (sym (ap (λ (f : CallState ℕ). f.op) b.is) ∙ h) },
        e ∙ sym (ap (λ (f : CallState ℕ). f.progress) b.is),
      )

  still : (planned : CallState ℕ) → Lasts call planned → IsOf op planned
  still planned l = record { outline = l.outline ∙ of.outline; payloads = λ o h. of.payloads o (sym l.op ∙ h) }

  bare : (planned : CallState ℕ) → planned.outline ≡ call.outline → planned.op ≡ None → IsOf op planned
  bare planned outline none = record { outline = outline ∙ of.outline; payloads = λ o h. absurd (none_some o (sym none ∙ h)) }

  going : (o : Outcome ℕ) → o ≡ Going → (base : State ℕ) (planned : CallState ℕ) → Ends base planned → Lasts call planned → Result o
  going o e base planned b l = (
    Some (op, call.progress),
    subst (λ (x : Outcome ℕ). TurnsBy x (Some (op, call.progress)) (Some (op, call.progress))) (sym e) refl,
    matched call.progress base planned b (still planned l) (sym l.progress),
  )

  refuses : (o : Outcome ℕ) → o ≡ Refused → call.progress ≡ progress.Open → (base : State ℕ) (planned : CallState ℕ) → Ends base (settled progress.Refused planned) → planned.outline ≡ call.outline → Result o
  refuses o e undecided base planned b outline = (
    Some (op, progress.Refused),
    subst (λ (x : Outcome ℕ). TurnsBy x (Some (op, call.progress)) (Some (op, progress.Refused))) (sym e)
        (subst (λ (p : Progress). TurnsBy Refused (Some (op, p)) (Some (op, progress.Refused))) (sym undecided) refl),
    matched progress.Refused base (settled progress.Refused planned) b (bare (settled progress.Refused planned) outline refl) refl,
  )

  decides : (reply : Reply ℕ) → IsLocal (Unit {0}) same_number call reply → (base : State ℕ) (planned : CallState ℕ) → Ends base (settled progress.Decided planned) → planned.outline ≡ call.outline → Result (Decided reply)
  decides reply local base planned b outline =
      let point : IsPoint op = subst (λ (o : Op ℕ). IsPoint o) (of.payloads local.op local.op_is) local.point in (
        Some (op, progress.Decided),
        subst (λ (p : Progress). TurnsBy (Decided reply) (Some (op, p)) (Some (op, progress.Decided))) (sym local.undecided) (point, refl),
        matched progress.Decided base (settled progress.Decided planned) b (bare (settled progress.Decided planned) outline refl) refl,
      )

  found : (o : Outcome ℕ) (here : Remembered old call) (planned : CallState ℕ) → Ends old planned → CheckOutcome (Unit {0}) same_number old call here planned o → Result o
  found Going here planned b h = going Going refl old planned b (looks_on call.outline old call here planned h)
  found (Ask asked) here planned b h =
      let l : Lasts call planned = lasts_by call _ planned h.2 (record { outline = refl; op = refl; progress = refl }) in
      (Some (op, call.progress), refl, matched call.progress old planned b (still planned l) (sym l.progress))
  found (Pair key value) here planned b h =
      let l : Lasts call planned = goes_on call (record call { cursor = key + 1; reach = key + 1; given = call.given + 1 }) planned (record { outline = refl; op = refl; progress = refl }) h.next_is in
      (Some (op, call.progress), refl, matched call.progress old planned b (still planned l) (sym l.progress))
  found (Decided reply) here planned b h = decides reply h.0 old call (subst (λ (f : CallState ℕ). Ends old f) h.2 b) refl
  found Refused here planned b h = absurd h
  found Done here planned b h = absurd h
  found Unknown here planned b h = absurd h

  saw : (node : TableNode ℕ) (whole : Bool) (o : Outcome ℕ) → ReadOutcome (Unit {0}) same_number old new id call env report out node whole o → Result o
  saw node true Going d = going Going refl old _ d.2 (record { outline = refl; op = refl; progress = refl })
  saw node true Refused d = refuses Refused refl d.3.undecided old call d.3.becomes refl
  saw node false Going d = going Going refl old _ d (record { outline = refl; op = refl; progress = refl })
  saw node whole _ d = absurd d

  heard : (asked : Option ℕ) (o : Outcome ℕ) → AnswerOutcome (Unit {0}) same_number old new id call env report out asked o → Result o
  heard asked Going d = going Going refl old _ d (record { outline = refl; op = refl; progress = refl })
  heard asked Refused d = refuses Refused refl d.2.undecided old call d.2.becomes refl
  heard asked _ d = absurd d

  made_none : (p : Progress) → p ≡ call.progress → (o : Outcome ℕ) → o ≡ refusal p → (base : State ℕ) → Ends base (refused p (record call { made = [] })) → Result o
  made_none progress.Open is o e base b = refuses o e (sym is) base (record call { made = [] }) b refl
  made_none progress.Decided is o e base b = going o e base _ b (record { outline = refl; op = refl; progress = refl })
  made_none progress.Refused is o e base b = going o e base _ b (record { outline = refl; op = refl; progress = refl })

  wrote : (left : Option Cleaning) (o : Outcome ℕ) → WriteOutcome (Unit {0}) same_number call o → (base : State ℕ) → Ends base (settled progress.Decided (record call { made = []; cleaning = left })) → Result o
  wrote left Going h base b = (Some (op, call.progress), refl, matched call.progress base (settled progress.Decided (record call { made = []; cleaning = left })) b (bare _ refl refl) h)
  wrote left (Decided reply) h base b = decides reply h base (record call { made = []; cleaning = left }) b refl
  wrote left o h base b = absurd h

  finished : (p : Progress) → p ≡ call.progress → MayEnd call → TurnsBy Done (Some (op, p)) None
  finished progress.Open is may =
      elim may [
        | inl ended ↦ absurd (ended.0 (sym is))
        | inr all ↦ (no_end op call.reach call.given (subst (λ (l : Outline). HasAll l call.reach call.given) of.outline all), refl)
      ]
  finished progress.Decided is may = refl
  finished progress.Refused is may = refl

  pub step_turns : IsMap old.calls → (k : Kind) → DoesAs (Unit {0}) same_number old new id call env report out k → Result out
  step_turns map kind.Start d = absurd d
  step_turns map kind.Take d = going out d.1.reports.1 old _ d.1.becomes (taken report.ok)
    where
      taken : (ok : Bool) → Lasts call (if ok then record call { remembered = put call.remembered d.1.slot d.1.node.word } else failed call.progress call)
      taken true = record { outline = refl; op = refl; progress = refl }
      taken false = failed_lasts call.progress call
  step_turns map kind.Check d =
      by_ok report.ok
      (λ good. found out d.1.knows d.1.planned d.1.becomes (d.1.passes good))
      (λ bad. going out (d.1.fails bad).0 old d.1.planned d.1.becomes (lasts_by call (failed call.progress call) d.1.planned (d.1.fails bad).1 (failed_lasts call.progress call)))
  step_turns map kind.Read d = saw d.1.knows.node.node d.1.whole out d.1.sees
  step_turns map kind.Upgrade d =
      by_ok report.ok
      (λ good. going out d.1.reports.1 _ _ (d.1.locks good) (record { outline = refl; op = refl; progress = refl }))
      (λ bad. going out d.1.reports.1 old _ (d.1.fails bad) (not_locked_lasts call.progress call.held call))
  step_turns map kind.Make (t, may, inl d) = going out d.reports.1 _ _ d.becomes (record { outline = refl; op = refl; progress = refl })
  step_turns map kind.Make (t, may, inr d) = made_none call.progress refl out d.reports.1 _ d.becomes
  step_turns map kind.Write d = wrote d.1.left out d.1.reports _ d.1.becomes
  step_turns map kind.Obsolete d = going out d.reports.1 _ _ d.becomes (record { outline = refl; op = refl; progress = refl })
  step_turns map kind.Unlock d = going out d.reports.1 _ _ d.becomes (from_bare (unlocked_lasts call.progress call.cleaning (off d.held.slot call.held) (record call { held = off d.held.slot call.held })))
    where
      from_bare : {planned : CallState ℕ} → Lasts (record call { held = off d.held.slot call.held }) planned → Lasts call planned
      from_bare l = record { outline = l.outline; op = l.op; progress = l.progress }
  step_turns map kind.Answer d = heard d.1.asked out d.1.hears
  step_turns map kind.Finish d = (
    None,
    subst (λ (o : Outcome ℕ). TurnsBy o (Some (op, call.progress)) None) (sym d.reports.1) (finished call.progress refl d.may),
    subst (λ (f : Option (CallState ℕ)). Matches None f) (sym (ap (λ (s : State ℕ). lookup s.calls id) d.after ∙ lookup-without_same 0 (2 ^ 64) old.calls id map)) tt,
  )
  step_turns map kind.Reclaim d = absurd d
