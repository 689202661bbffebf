-- What no linearizable trace has.
use Rattle.std.proofs.Common.{◌≡◌, ℕ, List, ◌∷◌, Option, Some, None, refl, sym, subst, ap, ◌∙◌}
use Rattle.spec_map.specs.Map.{Pairs, lookup}
use Rattle.spec_olc.specs.Calls.{IsPoint, key_of}
use Rattle.spec_olc.specs.declared.trace.Decision.{Decision}
use Rattle.spec_olc.specs.declared.trace.Line.{Line}
use Rattle.spec_olc.specs.declared.trace.Line.TheVariants.{Done as Made}
use Rattle.spec_olc.specs.declared.types.Env.{Env}
use Rattle.spec_olc.specs.declared.types.Event.{Event}
use Rattle.spec_olc.specs.declared.types.Event.TheVariants.{Step}
use Rattle.spec_olc.specs.declared.types.Op.{Op}
use Rattle.spec_olc.specs.declared.types.Outcome.{Outcome}
use Rattle.spec_olc.specs.declared.types.Outcome.TheVariants.{Ask, Pair, Decided, Done}
use Rattle.spec_olc.specs.declared.types.Progress.TheVariants as progress
use Rattle.spec_olc.specs.declared.types.Reply.{Reply}
use Rattle.spec_olc.specs.declared.types.Report.{Report}
use Rattle.spec_olc.specs.declared.types.Seen.{Seen}
use Rattle.spec_olc.specs.Linearizable.{PendingCall, just_started, none_pending, with_pending, after_step, MayReport, Linearizes}
use Rattle.spec_olc.proofs.Ordering.{decided_open, with_same}

some_is : (x y : PendingCall) → Some x ≡ Some y → x ≡ y
some_is x y e = cc

none_some : (x : PendingCall) → None ≡ Some x → ⊥
none_some x e = cc

module _ (calls : ℕ → Option PendingCall) (events : List (Event ℕ)) (lines : List Line) (ds : List Decision) (m last : Pairs ℕ) (id : ℕ) (env env' : Env ℕ) (r r' : Report) (s s' : Option (Seen ℕ)) where
  -- the call of the second of two steps is the one that the first left
  left : (out out' : Outcome ℕ) (l : Linearizes calls m (Step id env ∷ Step id env' ∷ events) (Made r out s ∷ Made r' out' s' ∷ lines) ds last) → after_step r.kind env.answer out l.0 ≡ Some l.6.0
  left out out' l = sym (with_same calls id (after_step r.kind env.answer out l.0) id refl) ∙ l.6.3

  pub breaks_twice : (reply reply' : Reply ℕ) → Linearizes calls m (Step id env ∷ Step id env' ∷ events) (Made r (Decided reply) s ∷ Made r' (Decided reply') s' ∷ lines) ds last → ⊥
  breaks_twice reply reply' l =
      let same = some_is (record (l.0) { progress = progress.Decided }) l.6.0 (left (Decided reply) (Decided reply') l) in
      decided_open (ap (λ (p : PendingCall). p.progress) same ∙ l.6.4.1)

  pub breaks_late : (out : Outcome ℕ) → Linearizes calls m (Step id env ∷ Step id env' ∷ events) (Made r Done s ∷ Made r' out s' ∷ lines) ds last → ⊥
  breaks_late out l = none_some l.6.0 (left Done out l)

module _ (calls : ℕ → Option PendingCall) (events : List (Event ℕ)) (lines : List Line) (ds : List Decision) (m last : Pairs ℕ) (id : ℕ) (env : Env ℕ) (r : Report) (s : Option (Seen ℕ)) where
  pub breaks_early : (out : Outcome ℕ) → Linearizes none_pending m (Step id env ∷ events) (Made r out s ∷ lines) ds last → ⊥
  breaks_early out l = none_some l.0 l.3

  -- the call of the first step after its Start
  first_step : (op : Op ℕ) (out : Outcome ℕ) (all : List Decision) (l : Linearizes (with_pending calls id (Some (just_started op))) m (Step id env ∷ events) (Made r out s ∷ lines) all last) → just_started op ≡ l.0
  first_step op out all l = some_is (just_started op) l.0 (sym (with_same calls id (Some (just_started op)) id refl) ∙ l.3)

  pub breaks_unanswered : (op : Op ℕ) → IsPoint op → Linearizes (with_pending calls id (Some (just_started op))) m (Step id env ∷ events) (Made r Done s ∷ lines) ds last → ⊥
  breaks_unanswered op point l = undecided l.0 (first_step op Done ds l) l.4
    where
      undecided : (p : PendingCall) → just_started op ≡ p → MayReport m p Done → ⊥
      undecided p same may = subst (λ (q : PendingCall). MayReport m q Done → ⊥) same (λ may. may point refl) may

  -- it asks its closure with the current value of its key
  pub asks_current : (op : Op ℕ) (old : Option ℕ) → Linearizes (with_pending calls id (Some (just_started op))) m (Step id env ∷ events) (Made r (Ask old) s ∷ lines) ds last → old ≡ lookup m (key_of op)
  asks_current op old l = l.4.1 ∙ sym (ap (λ (p : PendingCall). lookup m (key_of p.op)) (first_step op (Ask old) ds l))

  -- it gives a pair of the map
  pub gives_current : (op : Op ℕ) (key value : ℕ) → Linearizes (with_pending calls id (Some (just_started op))) m (Step id env ∷ events) (Made r (Pair key value) s ∷ lines) ds last → lookup m key ≡ Some value
  gives_current op key value l = l.4.1

  pub is_decision : (op : Op ℕ) (reply : Reply ℕ) (d : Decision) → Linearizes (with_pending calls id (Some (just_started op))) m (Step id env ∷ events) (Made r (Decided reply) s ∷ lines) (d ∷ ds) last
      → (d.id ≡ id) × (d.op ≡ op) × (d.reply ≡ reply)
  is_decision op reply d l = subst (λ (x : Decision). (x.id ≡ id) × (x.op ≡ op) × (x.reply ≡ reply)) (heads l.5.0 d l.1 ds (sym l.5.2)) (
    l.5.1.number,
    l.5.1.op ∙ sym (ap (λ (p : PendingCall). p.op) (first_step op (Decided reply) (d ∷ ds) l)),
    l.5.1.replied,
  )
    where
      heads : (x y : Decision) (xs ys : List Decision) → x ∷ xs ≡ y ∷ ys → x ≡ y
      heads x y xs ys e = cc
