-- How an event changes the call of its number, and the content.
use Rattle.std.proofs.Common.{◌≡◌, ◌≢◌, ℕ, ◌+◌, ◌^◌, Bool, true, false, IsTrue, List, [], ◌∷◌, Option, Some, None, if◌then◌else◌, ◌⊎◌, inl, inr, refl, sym, subst, ap, ◌∙◌}
use Rattle.spec_map.proofs.MapLaws.{lookup-put_same, lookup-without_same}
use Rattle.spec_map.specs.Map.{Pairs, IsMap, lookup, put}
use Rattle.spec_node.specs.TableNode.{TableNode}
use Rattle.spec_olc.proofs.Seated.{seats_stay}
use Rattle.spec_olc.proofs.Steps.{others_stay}
use Rattle.spec_olc.specs.Calls.{Outline, IsPoint}
use Rattle.spec_olc.specs.Content.{IsContent}
use Rattle.spec_olc.specs.Deciding.{ContentAfter, IsContentStep, AppliesCall}
use Rattle.spec_olc.specs.Kinds.{NextIs, CheckOutcome, ReadOutcome, AnswerOutcome, WriteOutcome, DoesAs, IsStep, failed, refusal, refused, not_locked, unlocked}
use Rattle.spec_olc.specs.Lists.{is_in, off}
use Rattle.spec_olc.specs.Local.{IsLocal}
use Rattle.spec_olc.specs.Reading.{GoesOn, HasAll, LooksOn, MayGive, Remembered}
use Rattle.spec_olc.specs.State.{State, CallState, settled, Cleaning}
use Rattle.spec_olc.specs.declared.types.Asking.{Asking}
use Rattle.spec_olc.specs.declared.types.Asking.TheVariants.{Fresh, Wants, Given}
use Rattle.spec_olc.specs.declared.types.Env.{Env}
use Rattle.spec_olc.specs.declared.types.Kind.{Kind}
use Rattle.spec_olc.specs.declared.types.Kind.TheVariants as kind
use Rattle.spec_olc.specs.declared.types.Op.{Op}
use Rattle.spec_olc.specs.declared.types.Op.TheVariants.{Range}
use Rattle.spec_olc.specs.declared.types.Outcome.{Outcome}
use Rattle.spec_olc.specs.declared.types.Outcome.TheVariants.{Going, Ask, Pair, Decided, Refused, Done, Unknown}
use Rattle.spec_olc.specs.declared.types.Progress.{Progress}
use Rattle.spec_olc.specs.declared.types.Progress.TheVariants as progress
use Rattle.spec_olc.specs.declared.types.Reply.{Reply}
use Rattle.spec_olc.specs.declared.types.Report.{Report}
use Rattle.share_backend.specs.declared.lent.CallStage.{CallStage}
use Rattle.share_backend.specs.declared.lent.CallStage.TheVariants.{Ready, Settled, Denied}
use Rattle.share_backend.specs.Stages.{TakesAnswer, Follows, Turns, Decides, Changes}
use Rattle.share_machine.specs.Places.{staged, stage_of, place_of, place_in}
use Rattle.share_machine.proofs.Giving.{IsGiven}

by_ok : {X : Type 0} → (ok : Bool) → (IsTrue ok → X) → (ok ≡ false → X) → X
by_ok true good bad = good refl
by_ok false good bad = bad refl

some_is : {X : Type 0} (x y : X) → Some x ≡ Some y → x ≡ y
some_is x y e = cc

decided_open : progress.Decided ≡ progress.Open → ⊥
decided_open e = cc

refused_open : progress.Refused ≡ progress.Open → ⊥
refused_open e = cc

none_some : {X : Type 0} (x : X) → None ≡ Some x → ⊥
none_some x e = cc

-- `HasAll` and `MayGive` don't hold for a point call
no_end : (o : Outline) (reach given : ℕ) → HasAll o reach given → IsPoint o → ⊥
no_end (Range a b n) reach given h point = point
no_end o reach given h point = h

no_pair : (o : Outline) (given key : ℕ) → MayGive o given key → IsPoint o → ⊥
no_pair (Range a b n) given key h point = point
no_pair o given key h point = h

module _ {M : Type 0} where
  -- a call that goes on
  goes : (o : Outline) (op : Option (Op M)) (p : Progress) (s t : Asking M) (a : Option M) (k : Kind) → Follows s a t → (k ≡ kind.Answer → TakesAnswer s a t)
      → Turns (staged o op p s) a k (Some (staged o op p t)) Going
  goes o (Some op) progress.Open s t a k f g = (t, f, g, refl)
  goes o (Some op) progress.Decided s t a k f g = tt
  goes o (Some op) progress.Refused s t a k f g = tt
  goes o None progress.Open s t a k f g = tt
  goes o None progress.Decided s t a k f g = refl
  goes o None progress.Refused s t a k f g = refl

  asks : (o : Outline) (op : Option (Op M)) (p : Progress) (s : Asking M) (old a : Option M) (k : Kind) → p ≡ progress.Open
      → Turns (staged o op p s) a k (Some (staged o op p (Wants old))) (Ask old)
  asks o (Some op) progress.Open s old a k e = refl
  asks o None progress.Open s old a k e = tt
  asks o op progress.Decided s old a k e = absurd (decided_open e)
  asks o op progress.Refused s old a k e = absurd (refused_open e)

  pairs : (o : Outline) (op : Option (Op M)) (p : Progress) (s t : Asking M) (key : ℕ) (value : M) (a : Option M) (k : Kind) → (IsPoint o → ⊥)
      → Turns (staged o op p s) a k (Some (staged o op p t)) (Pair key value)
  pairs o (Some op) progress.Open s t key value a k f = (f, (t, refl))
  pairs o (Some op) progress.Decided s t key value a k f = tt
  pairs o (Some op) progress.Refused s t key value a k f = tt
  pairs o None progress.Open s t key value a k f = tt
  pairs o None progress.Decided s t key value a k f = (f, refl)
  pairs o None progress.Refused s t key value a k f = (f, refl)

  denies : (o : Outline) (op : Option (Op M)) (p : Progress) (s : Asking M) (a : Option M) (k : Kind) → p ≡ progress.Open
      → Turns (staged o op p s) a k (Some (Denied o)) Refused
  denies o (Some op) progress.Open s a k e = refl
  denies o None progress.Open s a k e = tt
  denies o op progress.Decided s a k e = absurd (decided_open e)
  denies o op progress.Refused s a k e = absurd (refused_open e)

  -- a Write of a call that has its reply
  writes : (o : Outline) (op : Option (Op M)) (p : Progress) (s : Asking M) (a : Option M) (k : Kind) → p ≡ progress.Decided
      → Turns (staged o op p s) a k (Some (Settled o)) Going
  writes o op progress.Open s a k e = absurd (decided_open (sym e))
  writes o (Some op) progress.Decided s a k e = tt
  writes o None progress.Decided s a k e = refl
  writes o op progress.Refused s a k e = absurd (let clash = e in cc)

  ends : (o : Outline) (op : Option (Op M)) (p : Progress) (s : Asking M) (reach given : ℕ) (a : Option M) (k : Kind) → (p ≢ progress.Open) ⊎ HasAll o reach given
      → Turns (staged o op p s) a k (Some Ready) Done
  ends o (Some op) progress.Open s reach given a k may =
      elim may [
        | inl ended ↦ absurd (ended refl)
        | inr all ↦ (no_end o reach given all, refl)
      ]
  ends o (Some op) progress.Decided s reach given a k may = tt
  ends o (Some op) progress.Refused s reach given a k may = tt
  ends o None progress.Open s reach given a k may = tt
  ends o None progress.Decided s reach given a k may = refl
  ends o None progress.Refused s reach given a k may = refl

  -- a call that goes on keeps these
  pub record Lasts (call next : CallState M) : Type 0 where
    pub outline : next.outline ≡ call.outline
    pub op : next.op ≡ call.op
    pub progress : next.progress ≡ call.progress

  -- the closure hasn't been asked by this event
  abbrev Quiet : CallState M → CallState M → Type 0
  Quiet call next = (next.asking ≡ Fresh) ⊎ (next.asking ≡ call.asking)

  follows_quiet : (s t : Asking M) (a : Option M) → (t ≡ Fresh) ⊎ (t ≡ s) → Follows s a t
  follows_quiet s t a q =
      elim q [
        | inl e ↦ inl e
        | inr e ↦ inr (inl e)
      ]

  -- a call that reads on, or restarts
  went_on : (call next planned : CallState M) → Lasts call next → next.asking ≡ call.asking → GoesOn next planned → Lasts call planned × Quiet call planned
  went_on call next planned l same g =
      elim g [
        | inl e ↦ (subst (λ (f : CallState M). Lasts call f) (sym e) l, inr (ap (λ (f : CallState M). f.asking) e ∙ same))
        | inr e ↦ (
          subst (λ (f : CallState M). Lasts call f) (sym e) (record { outline = l.outline; op = l.op; progress = l.progress }),
          inl (ap (λ (f : CallState M). f.asking) e),
        )
      ]

  -- a call that has failed, at a Take, Check or Upgrade, and one that has unlocked a node
  after_failed : (p : Progress) (call : CallState M) → Lasts call (failed p call) × Quiet call (failed p call)
  after_failed progress.Open call = (record { outline = refl; op = refl; progress = refl }, inl refl)
  after_failed _ call = (record { outline = refl; op = refl; progress = refl }, inl refl)

  after_not_locked : (p : Progress) (held : List ℕ) (call : CallState M) → Lasts call (not_locked p held call) × Quiet call (not_locked p held call)
  after_not_locked progress.Open [] call = (record { outline = refl; op = refl; progress = refl }, inl refl)
  after_not_locked progress.Open (slot ∷ held) call = (record { outline = refl; op = refl; progress = refl }, inr refl)
  after_not_locked _ held call = (record { outline = refl; op = refl; progress = refl }, inl refl)

  after_unlocked : (p : Progress) (cleaning : Option Cleaning) (held left : List ℕ) (call : CallState M)
      → Lasts call (unlocked p cleaning held (record call { held = left })) × Quiet call (unlocked p cleaning held (record call { held = left }))
  after_unlocked progress.Open cleaning held left call = (record { outline = refl; op = refl; progress = refl }, inl refl)
  after_unlocked _ None held left call = (record { outline = refl; op = refl; progress = refl }, inr refl)
  after_unlocked _ (Some length_is) [] left call = (record { outline = refl; op = refl; progress = refl }, inl refl)
  after_unlocked _ (Some length_is) (slot ∷ held) left call = (record { outline = refl; op = refl; progress = refl }, inr refl)

  looked_on : (outline : Outline) (s : State M) (call : CallState M) (here : Remembered s call) (planned : CallState M) → LooksOn outline s call here planned → Lasts call planned × Quiet call planned
  looked_on (Range a b n) s call here planned h = went_on call (record call { cursor = h.cursor; reach = h.reach }) planned (record { outline = refl; op = refl; progress = refl }) refl h.next_is
  looked_on outline s call here planned (inl h) = (subst (λ (f : CallState M). Lasts call f) (sym h) (record { outline = refl; op = refl; progress = refl }), inr (ap (λ (f : CallState M). f.asking) h))
  looked_on outline s call here planned (inr h) = (subst (λ (f : CallState M). Lasts call f) (sym h.0) (record { outline = refl; op = refl; progress = refl }), inr (ap (λ (f : CallState M). f.asking) h.0))

  module _ (Granted : Type 0) (same : M → M → Bool) (old new : State M) (id : ℕ) (call : CallState M) (env : Env M) (report : Report) (out : Outcome M) where
    abbrev Ends : State M → CallState M → Type 0
    Ends base planned = NextIs Granted same old new id call env report out base planned

    -- the place of the number after the event
    abbrev Result : Outcome M → Type 0
    Result o = Turns (stage_of call) env.answer report.kind (place_of true (lookup new.calls id)) o

    placed : (base : State M) (planned : CallState M) → Ends base planned → place_of true (lookup new.calls id) ≡ Some (stage_of planned)
    placed base planned b =
        ap (λ (s : State M). place_of true (lookup s.calls id)) b.after
        ∙ (ap (place_of true) (lookup-put_same base.calls id b.next)
        ∙ ap (λ (f : CallState M). Some (stage_of f)) b.is)

    -- by the call as planned
    by_plan : (o : Outcome M) (base : State M) (planned : CallState M) → Ends base planned → Turns (stage_of call) env.answer report.kind (Some (stage_of planned)) o → Result o
    by_plan o base planned b t = subst (λ (q : Option (CallStage M)). Turns (stage_of call) env.answer report.kind q o) (sym (placed base planned b)) t

    -- an event that isn't an Answer
    abbrev Calm : Type 0
    Calm = report.kind ≡ kind.Answer → ⊥

    as_lasting : (planned : CallState M) → Lasts call planned → stage_of planned ≡ staged call.outline call.op call.progress planned.asking
    as_lasting planned l = λ i. staged (l.outline i) (l.op i) (l.progress i) planned.asking

    going : (o : Outcome M) → o ≡ Going → Calm → (base : State M) (planned : CallState M) → Ends base planned → Lasts call planned → Quiet call planned → Result o
    going o e calm base planned b l q =
        by_plan o base planned b
        (subst (λ (x : Outcome M). Turns (stage_of call) env.answer report.kind (Some (stage_of planned)) x) (sym e)
        (subst (λ (p : CallStage M). Turns (stage_of call) env.answer report.kind (Some p) Going) (sym (as_lasting planned l))
        (goes call.outline call.op call.progress call.asking planned.asking env.answer report.kind (follows_quiet call.asking planned.asking env.answer q) (λ k. absurd (calm k)))))

    refuses : (o : Outcome M) → o ≡ Refused → call.progress ≡ progress.Open → (base : State M) (planned : CallState M) → Ends base (settled progress.Refused planned) → planned.outline ≡ call.outline → Result o
    refuses o e undecided base planned b outline =
        by_plan o base (settled progress.Refused planned) b
        (subst (λ (x : Outcome M). Turns (stage_of call) env.answer report.kind (Some (Denied planned.outline)) x) (sym e)
        (subst (λ (u : Outline). Turns (stage_of call) env.answer report.kind (Some (Denied u)) Refused) (sym outline)
        (denies call.outline call.op call.progress call.asking env.answer report.kind undecided)))

    decides : (reply : Reply M) → IsLocal Granted same call reply → (base : State M) (planned : CallState M) → Ends base (settled progress.Decided planned) → planned.outline ≡ call.outline → Result (Decided reply)
    decides reply local base planned b outline =
        by_plan (Decided reply) base (settled progress.Decided planned) b
        (subst (λ (u : Outline). Turns (stage_of call) env.answer report.kind (Some (Settled u)) (Decided reply)) (sym outline)
        (subst (λ (p : CallStage M). Turns p env.answer report.kind (Some (Settled call.outline)) (Decided reply)) (λ i. staged call.outline (sym local.op_is i) (sym local.undecided i) call.asking) refl))

    found : Calm → (o : Outcome M) (here : Remembered old call) (planned : CallState M) → Ends old planned → CheckOutcome Granted same old call here planned o → Result o
    found calm Going here planned b h = let l = looked_on call.outline old call here planned h in going Going refl calm old planned b l.0 l.1
    found calm (Ask asked) here planned b h =
        by_plan (Ask asked) old planned b
        (subst (λ (f : CallState M). Turns (stage_of call) env.answer report.kind (Some (stage_of f)) (Ask asked)) (sym h.2)
        (asks call.outline call.op call.progress call.asking asked env.answer report.kind h.0.undecided))
    found calm (Pair key value) here planned b h =
        let l = went_on call (record call { cursor = key + 1; reach = key + 1; given = call.given + 1 }) planned (record { outline = refl; op = refl; progress = refl }) refl h.next_is in
        by_plan (Pair key value) old planned b
        (subst (λ (p : CallStage M). Turns (stage_of call) env.answer report.kind (Some p) (Pair key value)) (sym (as_lasting planned l.0))
        (pairs call.outline call.op call.progress call.asking planned.asking key value env.answer report.kind (no_pair call.outline call.given key h.may)))
    found calm (Decided reply) here planned b h = decides reply h.0 old call (subst (λ (f : CallState M). Ends old f) h.2 b) refl
    found calm Refused here planned b h = absurd h
    found calm Done here planned b h = absurd h
    found calm Unknown here planned b h = absurd h

    saw : Calm → (node : TableNode M) (whole : Bool) (o : Outcome M) → ReadOutcome Granted same old new id call env report out node whole o → Result o
    saw calm node true Going d = going Going refl calm old _ d.2 (record { outline = refl; op = refl; progress = refl }) (inr refl)
    saw calm node true Refused d = refuses Refused refl d.3.undecided old call d.3.becomes refl
    saw calm node false Going d = going Going refl calm old _ d (record { outline = refl; op = refl; progress = refl }) (inr refl)
    saw calm node whole _ d = absurd d

    heard : (asked : Option M) (o : Outcome M) → call.asking ≡ Wants asked → AnswerOutcome Granted same old new id call env report out asked o → Result o
    heard asked Going wanted d =
        let planned : CallState M = record call { asking = Given asked env.answer } in
        let answered : TakesAnswer call.asking env.answer (Given asked env.answer) = subst (λ (s : Asking M). TakesAnswer s env.answer (Given asked env.answer)) (sym wanted) refl in
        by_plan Going old planned d (goes call.outline call.op call.progress call.asking (Given asked env.answer) env.answer report.kind (inr (inr answered)) (λ k. answered))
    heard asked Refused wanted d = refuses Refused refl d.2.undecided old call d.2.becomes refl
    heard asked _ wanted d = absurd d

    made_none : Calm → (p : Progress) → p ≡ call.progress → (o : Outcome M) → o ≡ refusal p → (base : State M) → Ends base (refused p (record call { made = [] })) → Result o
    made_none calm progress.Open is o e base b = refuses o e (sym is) base (record call { made = [] }) b refl
    made_none calm progress.Decided is o e base b = going o e calm base _ b (record { outline = refl; op = refl; progress = refl }) (inr refl)
    made_none calm progress.Refused is o e base b = going o e calm base _ b (record { outline = refl; op = refl; progress = refl }) (inr refl)

    wrote : (left : Option Cleaning) (o : Outcome M) → WriteOutcome Granted same call o → (base : State M) → Ends base (settled progress.Decided (record call { made = []; cleaning = left })) → Result o
    wrote left Going h base b =
        by_plan Going base (settled progress.Decided (record call { made = []; cleaning = left })) b (writes call.outline call.op call.progress call.asking env.answer report.kind h)
    wrote left (Decided reply) h base b = decides reply h base (record call { made = []; cleaning = left }) b refl
    wrote left o h base b = absurd h

    -- an event of a kind other than Answer isn't an Answer
    calm_by : (k : Kind) → report.kind ≡ k → (k ≡ kind.Answer → ⊥) → Calm
    calm_by k is other e = other (sym is ∙ e)

    pub step_turns : IsMap old.calls → (k : Kind) → report.kind ≡ k → DoesAs Granted same old new id call env report out k → Result out
    step_turns map kind.Start is d = absurd d
    step_turns map kind.Take is d = going out d.1.reports.1 (calm_by kind.Take is (λ e. cc)) old _ d.1.becomes (taken report.ok) (asked report.ok)
      where
        plan : Bool → CallState M
        plan ok = if ok then record call { remembered = put call.remembered d.1.slot d.1.node.word } else failed call.progress call

        taken : (ok : Bool) → Lasts call (plan ok)
        taken true = record { outline = refl; op = refl; progress = refl }
        taken false = (after_failed call.progress call).0

        asked : (ok : Bool) → Quiet call (plan ok)
        asked true = inr refl
        asked false = (after_failed call.progress call).1
    step_turns map kind.Check is d =
        let calm = calm_by kind.Check is (λ e. cc) in
        by_ok report.ok
        (λ good. found calm out d.1.knows d.1.planned d.1.becomes (d.1.passes good))
        (λ bad.
        let f = d.1.fails bad in
        let l = after_failed call.progress call in
        going out f.0 calm old d.1.planned d.1.becomes (subst (λ (x : CallState M). Lasts call x) (sym f.1) l.0) (subst (λ (x : CallState M). Quiet call x) (sym f.1) l.1))
    step_turns map kind.Read is d = saw (calm_by kind.Read is (λ e. cc)) d.1.knows.node.node d.1.whole out d.1.sees
    step_turns map kind.Upgrade is d =
        let calm = calm_by kind.Upgrade is (λ e. cc) in
        by_ok report.ok
        (λ good. going out d.1.reports.1 calm _ _ (d.1.locks good) (record { outline = refl; op = refl; progress = refl }) (inr refl))
        (λ bad. let l = after_not_locked call.progress call.held call in going out d.1.reports.1 calm old _ (d.1.fails bad) l.0 l.1)
    step_turns map kind.Make is (t, u, inl d) = going out d.reports.1 (calm_by kind.Make is (λ e. cc)) _ _ d.becomes (record { outline = refl; op = refl; progress = refl }) (inr refl)
    step_turns map kind.Make is (t, u, inr d) = made_none (calm_by kind.Make is (λ e. cc)) call.progress refl out d.reports.1 _ d.becomes
    step_turns map kind.Write is d = wrote d.1.left out d.1.reports _ d.1.becomes
    step_turns map kind.Obsolete is d = going out d.reports.1 (calm_by kind.Obsolete is (λ e. cc)) _ _ d.becomes (record { outline = refl; op = refl; progress = refl }) (inr refl)
    step_turns map kind.Unlock is d =
        let left = off d.held.slot call.held in
        let l = after_unlocked call.progress call.cleaning left left call in
        going out d.reports.1 (calm_by kind.Unlock is (λ e. cc)) _ _ d.becomes l.0 l.1
    step_turns map kind.Answer is d = heard d.1.asked out d.1.wanted d.1.hears
    step_turns map kind.Finish is d =
        subst (λ (o : Outcome M). Result o) (sym d.reports.1)
        (subst (λ (f : Option (CallState M)). Turns (stage_of call) env.answer report.kind (place_of true f) Done) (sym (ap (λ (s : State M). lookup s.calls id) d.after ∙ lookup-without_same 0 (2 ^ 64) old.calls id map))
        (ends call.outline call.op call.progress call.asking call.reach call.given env.answer report.kind (elim d.may [ inl over ↦ inl over.0 | inr all ↦ inr all ])))
    step_turns map kind.Reclaim is d = absurd d

  -- the content after a call is decided
  decides_so : (same : M → M → Bool) (m n : Pairs M) (call : CallState M) (op : Op M) (reply : Reply M) (p : Progress) → (h : AppliesCall same m n call reply) → Decides same (staged call.outline (Some h.op) p call.asking) m reply n
  decides_so same m n call op reply progress.Open h = ((h.asked, h.replied), h.after)
  decides_so same m n call op reply progress.Decided h = tt
  decides_so same m n call op reply progress.Refused h = tt

  changes_by : (same : M → M → Bool) (old : State M) (m n : Pairs M) (call : CallState M) (out : Outcome M) → IsContent old m → IsGiven old out → ContentAfter same m n call out → Changes same (stage_of call) m n out
  changes_by same old m n call Going c given h = h
  changes_by same old m n call (Ask asked) c given h = h
  changes_by same old m n call (Pair key value) c given h = (h, (c.pairs key value).1 given)
  changes_by same old m n call (Decided reply) c given h =
      subst (λ (o : Option (Op M)). Decides same (staged call.outline o call.progress call.asking) m reply n) (sym h.op_is) (decides_so same m n call h.op reply call.progress h)
  changes_by same old m n call Refused c given h = h
  changes_by same old m n call Done c given h = h
  changes_by same old m n call Unknown c given h = h

  -- what is known of a number that is seated
  record Known (s : State M) (id : ℕ) (p : CallStage M) : Type 0 where
    pub seated : is_in id s.seats ≡ true
    pub place : place_of true (lookup s.calls id) ≡ Some p

  known_by : (b : Bool) (f : Option (CallState M)) (p : CallStage M) → place_of b f ≡ Some p → (b ≡ true) × (place_of true f ≡ Some p)
  known_by true f p e = (refl, e)
  known_by false f p e = absurd (none_some p e)

  -- THE STEP of a number's call, by what is known of it
  pub turned : (Granted : Type 0) (same : M → M → Bool) (old new : State M) (id : ℕ) (env : Env M) (report : Report) (out : Outcome M) → IsMap old.calls → IsStep Granted same old new id env report out
      → (p : CallStage M) → place_in old id ≡ Some p → Turns p env.answer report.kind (place_in new id) out
  turned Granted same old new id env report out map step p here =
      let known = known_by (is_in id old.seats) (lookup old.calls id) p here in
      let call = step.call in
      let p_is : stage_of call ≡ p = some_is (stage_of call) p (ap (place_of true) (sym step.in_flight) ∙ known.1) in
      let seated : is_in id new.seats ≡ true = ap (is_in id) (seats_stay Granted same old new id call env report out report.kind step.event) ∙ known.0 in
      subst (λ (b : Bool). Turns p env.answer report.kind (place_of b (lookup new.calls id)) out) (sym seated)
      (subst (λ (x : CallStage M). Turns x env.answer report.kind (place_of true (lookup new.calls id)) out) p_is
      (step_turns Granted same old new id call env report out map report.kind refl step.event))

  -- the other numbers stay unchanged
  pub others : (Granted : Type 0) (same : M → M → Bool) (old new : State M) (id : ℕ) (env : Env M) (report : Report) (out : Outcome M) → IsStep Granted same old new id env report out
      → (k : ℕ) → k ≢ id → place_in new k ≡ place_in old k
  others Granted same old new id env report out step k ne =
      let seats = seats_stay Granted same old new id step.call env report out report.kind step.event in
      let calls = others_stay Granted same old new id step.call step.call env report out k ne report.kind step.event in
      λ i. place_of (is_in k (seats i)) (calls i)

  -- THE CONTENT after it
  pub changed : (same : M → M → Bool) (m : Pairs M) (old new : State M) (id : ℕ) (out : Outcome M) → IsContent old m → IsGiven old out → IsContentStep same m old new id out
      → (p : CallStage M) → place_in old id ≡ Some p → (n : Pairs M) × IsContent new n × Changes same p m n out
  changed same m old new id out content given h p here =
      let known = known_by (is_in id old.seats) (lookup old.calls id) p here in
      let p_is : stage_of h.call ≡ p = some_is (stage_of h.call) p (ap (place_of true) (sym h.in_flight) ∙ known.1) in
      (h.content, h.content_is, subst (λ (x : CallStage M). Changes same x m h.content out) p_is (changes_by same old m h.content h.call out content given h.carries))
