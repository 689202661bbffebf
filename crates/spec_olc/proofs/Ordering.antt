-- In a linearizable trace the lines of each number are in order.
use Rattle.std.proofs.Common.{◌≡◌, ◌≢◌, ℕ, List, [], ◌∷◌, Option, Some, None, refl, sym, subst, ap, ◌∙◌}
use Rattle.std.proofs.lemmas.Bool.{eq-eqb, ne_eqb}
use Rattle.spec_map.specs.Map.{Pairs}
use Rattle.spec_olc.specs.Orderly.{Course, TurnsBy, IsOrderly}
use Rattle.spec_olc.specs.declared.trace.Decision.{Decision}
use Rattle.spec_olc.specs.declared.trace.Line.{Line}
use Rattle.spec_olc.specs.declared.trace.Line.TheVariants.{Done as Made, Skipped}
use Rattle.spec_olc.specs.declared.types.Event.{Event}
use Rattle.spec_olc.specs.declared.types.Event.TheVariants.{Start, Step, Reclaim}
use Rattle.spec_olc.specs.declared.types.Kind.{Kind}
use Rattle.spec_olc.specs.declared.types.Outcome.{Outcome}
use Rattle.spec_olc.specs.declared.types.Outcome.TheVariants.{Going, Ask, Pair, Decided, Refused, Done, Unknown}
use Rattle.spec_olc.specs.declared.types.Progress.{Progress}
use Rattle.spec_olc.specs.declared.types.Progress.TheVariants as progress
use Rattle.spec_olc.specs.Linearizable.{PendingCall, just_started, none_pending, with_pending, after_step, MayReport, Linearizes, IsLinearizable}

pub decided_open : progress.Decided ≡ progress.Open → ⊥
decided_open e = cc

pub refused_open : progress.Refused ≡ progress.Open → ⊥
refused_open e = cc

-- a pending call as the order of its number has it
abbrev pub course_of : Option PendingCall → Course
course_of None = None
course_of (Some p) = Some (p.op, p.progress)

pub with_same : (calls : ℕ → Option PendingCall) (i : ℕ) (next : Option PendingCall) (id : ℕ) → i ≡ id → with_pending calls i next id ≡ next
with_same calls i next id e = rw (eq-eqb id i (sym e))

with_other : (calls : ℕ → Option PendingCall) (i : ℕ) (next : Option PendingCall) (id : ℕ) → i ≢ id → with_pending calls i next id ≡ calls id
with_other calls i next id ne = rw (ne_eqb id i (λ e. ne (sym e)))

turns_by : (m : Pairs ℕ) (k : Kind) (answer : Option ℕ) (p : PendingCall) (out : Outcome ℕ) (pr : Progress) → p.progress ≡ pr → MayReport m p out → TurnsBy out (Some (p.op, pr)) (course_of (after_step k answer out p))
turns_by m k answer p Going pr e may = ap (λ (x : Progress). Some (p.op, x)) e
turns_by m k answer p (Ask old) pr e may = ap (λ (x : Progress). Some (p.op, x)) e
turns_by m k answer p (Pair key value) pr e may = ap (λ (x : Progress). Some (p.op, x)) e
turns_by m k answer p (Decided reply) progress.Open e may = (may.0, refl)
turns_by m k answer p (Decided reply) progress.Decided e may = absurd (decided_open (sym e ∙ may.1))
turns_by m k answer p (Decided reply) progress.Refused e may = absurd (refused_open (sym e ∙ may.1))
turns_by m k answer p Refused progress.Open e may = refl
turns_by m k answer p Refused progress.Decided e may = absurd (decided_open (sym e ∙ may))
turns_by m k answer p Refused progress.Refused e may = absurd (refused_open (sym e ∙ may))
turns_by m k answer p Done progress.Open e may = ((λ point. may point e), refl)
turns_by m k answer p Done progress.Decided e may = refl
turns_by m k answer p Done progress.Refused e may = refl
turns_by m k answer p Unknown pr e may = absurd may

step_turns : (m : Pairs ℕ) (k : Kind) (answer : Option ℕ) (calls : ℕ → Option PendingCall) (i id : ℕ) (p : PendingCall) (out : Outcome ℕ) → calls i ≡ Some p → MayReport m p out → i ≡ id
    → TurnsBy out (course_of (calls id)) (course_of (with_pending calls i (after_step k answer out p) id))
step_turns m k answer calls i id p out is may e =
    rw (with_same calls i (after_step k answer out p) id e)
    (subst (λ (c : Option PendingCall). TurnsBy out (course_of c) (course_of (after_step k answer out p))) (sym (sym (ap calls e) ∙ is)) (turns_by m k answer p out p.progress refl may))

order_on : (events : List (Event ℕ)) (lines : List Line) (ds : List Decision) (calls : ℕ → Option PendingCall) (m last : Pairs ℕ) (id : ℕ) → Linearizes calls m events lines ds last → IsOrderly id (course_of (calls id)) events lines
order_on [] [] ds calls m last id l = tt
order_on [] (line ∷ lines) ds calls m last id l = absurd l
order_on (Start i op ∷ events) [] ds calls m last id l = absurd l
order_on (Step i env ∷ events) [] ds calls m last id l = absurd l
order_on (Reclaim slot ∷ events) [] ds calls m last id l = absurd l
order_on (Start i op ∷ events) (Skipped ∷ lines) ds calls m last id l = (course_of (calls id), refl, order_on events lines ds calls m last id l)
order_on (Step i env ∷ events) (Skipped ∷ lines) ds calls m last id l = (course_of (calls id), refl, order_on events lines ds calls m last id l)
order_on (Reclaim slot ∷ events) (Skipped ∷ lines) ds calls m last id l = (course_of (calls id), refl, order_on events lines ds calls m last id l)
order_on (Reclaim slot ∷ events) (Made report out seen ∷ lines) ds calls m last id l = (course_of (calls id), refl, order_on events lines ds calls m last id l.1)
order_on (Start i op ∷ events) (Made report out seen ∷ lines) ds calls m last id l = (
  course_of (with_pending calls i (Some (just_started op)) id),
  (
    (λ e. (ap course_of (sym (ap calls e) ∙ l.0), ap course_of (with_same calls i (Some (just_started op)) id e))),
    (λ ne. ap course_of (with_other calls i (Some (just_started op)) id ne)),
  ),
  order_on events lines ds (with_pending calls i (Some (just_started op))) m last id l.2,
)
order_on (Step i env ∷ events) (Made report out seen ∷ lines) ds calls m last id l = (
  course_of (with_pending calls i (after_step report.kind env.answer out l.0) id),
  (
    (λ e. step_turns m report.kind env.answer calls i id l.0 out l.3 l.4 e),
    (λ ne. ap course_of (with_other calls i (after_step report.kind env.answer out l.0) id ne)),
  ),
  order_on events lines l.1 (with_pending calls i (after_step report.kind env.answer out l.0)) l.2 last id l.6,
)

-- Each call is decided or refused at most once while it lasts.
pub in_order : (events : List (Event ℕ)) (lines : List Line) (decided : List Decision) (content : Pairs ℕ) (id : ℕ) → IsLinearizable events lines decided content → IsOrderly id None events lines
in_order events lines decided content id l = order_on events lines decided none_pending [] content id l
