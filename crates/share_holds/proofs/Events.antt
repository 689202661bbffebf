-- What each event of a call may do, and what its seat knows after it.
use Rattle.std.proofs.Common.{◌≡◌, ◌≢◌, ℕ, Bool, List, [], sym, refl, ap, ◌∙◌, subst, inl, inr}
use Rattle.std.specs.Prelude.{Option, Some, None, Result, Ok, Err, IfOk, OnErr}
use Rattle.atomic_table.specs.Table.{Me}
use Rattle.share_backend.specs.Stages.{Changes, IsOf, Opens, Turns, TurnsEnded, operation_by}
use Rattle.share_backend.specs.declared.event.EventResult.{EventResult}
use Rattle.share_backend.specs.declared.lent.CallStage.{CallStage}
use Rattle.share_backend.specs.declared.lent.CallStage.TheVariants.{Ready, Running}
use Rattle.share_holds.specs.inner.Events.{operations_at, operations_in, operations_opened, seated_in, IsOver, KnowsOf, AfterFirst, AfterEvent, AfterLast, Begun}
use Rattle.share_rule.specs.inner.Rule.{Matches}
use Rattle.share_rule.specs.inner.SeatView.{SeatView}
use Rattle.share_rule.specs.inner.Steps.{numbered, number_of, with_number, Taken, Released, MayRelease, at_of}
use Rattle.share_rule.proofs.Holds.{KeepsOthers, keeps_others, keeps_freed, keeps_seated, keeps_same, quiet_may, quiet_then, made_may, made_then, at_held}
use Rattle.spec_map.specs.Map.{Pairs}
use Rattle.spec_olc.specs.Calls.{Outline, outline_of, asked_of}
use Rattle.spec_olc.specs.Meaning.{op_of, outcome_of}
use Rattle.spec_olc.specs.declared.types.Asking.{Asking}
use Rattle.spec_olc.specs.declared.types.Asking.TheVariants.{Fresh}
use Rattle.spec_olc.specs.declared.types.Kind.{Kind}
use Rattle.spec_olc.specs.declared.types.Op.{Op}
use Rattle.spec_olc.specs.declared.types.Outcome.{Outcome}
use Rattle.spec_olc.specs.declared.types.Outcome.TheVariants.{Going, Ask, Pair, Decided, Refused, Done, Unknown}

pub is_over : {T : Type 0} (o : Outline) (p : CallStage T) → IsOver o p → IsOf o p
is_over {T} o p over =
    elim over [
      | inl e ↦ subst (λ (z : CallStage T). IsOf o z) (sym e) refl
      | inr e ↦ subst (λ (z : CallStage T). IsOf o z) (sym e) refl
    ]

module _ {T S : Type 0} (same : T → T → Bool) (content : S → Pairs T → Type 0) (place : S → ℕ → Option (CallStage T)) where
  abbrev Sat : Type 0
  Sat = Me (Option S) (SeatView T (CallStage T) S)

  abbrev Keeps : S → S → Type 0
  Keeps x y = (m : Pairs T) → content x m → content y m

  -- from a quiet hold, with what is known of the number then
  knows : (m m1 m2 : Sat) (x y : S) (number : Option ℕ) (at : Option (ℕ × CallStage T)) → Taken same content place m x m1 → Released place [] number m1 y m2 → numbered (place y) number ≡ at → KnowsOf at m m2
  knows m m1 m2 x y number at t r is = let q = quiet_then same content place m m1 m2 x y number t r in record { quiet = q.0; at_is = q.1 ∙ is }

  -- THE FIRST EVENT
  pub record Opened (x y : S) (id : ℕ) (o : Outline) (op : Op T) (out : Outcome T) : Type 0 where
    pub opens : Opens o op (place y id) out
    pub content_on : (m : Pairs T) → content x m → (n : Pairs T) × content y n × Changes same (Running o op Fresh) m n out
    pub others : (j : ℕ) → j ≢ id → place y j ≡ place x j

  -- an event that decides nothing keeps the content
  keeps_if : (x y : S) (p : CallStage T) (out : Outcome T) → ((m n : Pairs T) → Changes same p m n out → n ≡ m) → ((m : Pairs T) → content x m → (n : Pairs T) × content y n × Changes same p m n out) → Keeps x y
  keeps_if x y p out quiet on m c = let n = on m c in subst (content y) (quiet m n.0 n.2) n.1

  open_may : (m m1 : Sat) (x y : S) (id : ℕ) (o : Outline) (op : Op T) (out : Outcome T) → Taken same content place m x m1 → KeepsOthers same content place (at_of m.0) x y (Some id)
      → ((c : Pairs T) → content x c → (n : Pairs T) × content y n × Changes same (Running o op Fresh) c n out) → MayRelease place (operations_in op out) (Some id) same content m1 y
  open_may m m1 x y id o op Going t others on = quiet_may same content place m m1 x y (Some id) t (keeps_if x y (Running o op Fresh) Going (λ a b e. e) on) others
  open_may m m1 x y id o op (Ask old) t others on = quiet_may same content place m m1 x y (Some id) t (keeps_if x y (Running o op Fresh) (Ask old) (λ a b e. e) on) others
  open_may m m1 x y id o op (Pair key value) t others on = quiet_may same content place m m1 x y (Some id) t (keeps_if x y (Running o op Fresh) (Pair key value) (λ a b e. e.0) on) others
  open_may m m1 x y id o op (Decided r) t others on = made_may same content place m m1 x y (Some id) (operation_by op None r) t on others
  open_may m m1 x y id o op Refused t others on = quiet_may same content place m m1 x y (Some id) t (keeps_if x y (Running o op Fresh) Refused (λ a b e. e) on) others
  open_may m m1 x y id o op Done t others on = quiet_may same content place m m1 x y (Some id) t (keeps_if x y (Running o op Fresh) Done (λ a b e. e) on) others
  open_may m m1 x y id o op Unknown t others on = quiet_may same content place m m1 x y (Some id) t (keeps_if x y (Running o op Fresh) Unknown (λ a b e. e) on) others

  open_then : (m m1 m2 : Sat) (x y : S) (id : ℕ) (o : Outline) (op : Op T) (out : Outcome T) → Taken same content place m x m1 → Opened x y id o op out → Released place (operations_in op out) (Some id) m1 y m2 → AfterFirst id o same op out m m2
  open_then m m1 m2 x y id o op Going t h r = knows m m1 m2 x y (Some id) _ t r (ap (with_number id) h.opens)
  open_then m m1 m2 x y id o op (Ask old) t h r = knows m m1 m2 x y (Some id) _ t r (ap (with_number id) h.opens)
  open_then m m1 m2 x y id o op (Pair key value) t h r = h.opens
  open_then m m1 m2 x y id o op (Decided reply) t h r =
      let q = made_then same content place m m1 m2 x y (Some id) (operation_by op None reply) t h.content_on r in record { made = q.0; at_is = q.1 ∙ ap (with_number id) h.opens }
  open_then m m1 m2 x y id o op Refused t h r = h.opens
  open_then m m1 m2 x y id o op Done t h r = h.opens
  open_then m m1 m2 x y id o op Unknown t h r = h.opens

  -- the same for what an opening returns
  module _ {P E : Type 0} (meaning : P → T) (m m1 : Sat) (x y : S) (id : ℕ) (op : Op P) (t : Taken same content place m x m1) (here : at_of m.0 ≡ Some (id, Ready)) (others : (j : ℕ) → j ≢ id → place y j ≡ place x j) where
    begin_by : (r : Result (EventResult P) E)
        → IfOk r (λ event. (c : Pairs T) → content x c → (n : Pairs T) × content y n × Changes same (Running (outline_of op) (op_of meaning op) Fresh) c n (outcome_of meaning event.outcome))
        → OnErr r (Keeps x y) → MayRelease place (operations_opened meaning op r) (Some id) same content m1 y
    begin_by (Ok event) on refused = open_may m m1 x y id (outline_of op) (op_of meaning op) (outcome_of meaning event.outcome) t (keeps_others same content place (at_of m.0) x y id Ready here others) on
    begin_by (Err e) on refused = quiet_may same content place m m1 x y (Some id) t refused (keeps_others same content place (at_of m.0) x y id Ready here others)

    pub begin_may : (r : Result (EventResult P) E)
        → IfOk r (λ event. (c : Pairs T) → content x c → (n : Pairs T) × content y n × Changes same (Running (outline_of op) (op_of meaning op) Fresh) c n (outcome_of meaning event.outcome))
        → OnErr r (Keeps x y) → MayRelease place (operations_opened meaning op r) (number_of (at_of m1.0)) same content m1 y
    begin_may r on refused =
        subst (λ (w : Option (ℕ × CallStage T)). MayRelease place (operations_opened meaning op r) (number_of w) same content m1 y) (sym (at_held same content place m m1 x t ∙ here)) (begin_by r on refused)

    begin_known : (m2 : Sat) (r : Result (EventResult P) E)
        → IfOk r (λ event. Opens (outline_of op) (op_of meaning op) (place y id) (outcome_of meaning event.outcome))
        → IfOk r (λ event. (c : Pairs T) → content x c → (n : Pairs T) × content y n × Changes same (Running (outline_of op) (op_of meaning op) Fresh) c n (outcome_of meaning event.outcome))
        → OnErr r ((k : ℕ) → place y k ≡ place x k) → place x id ≡ Some Ready
        → Released place (operations_opened meaning op r) (Some id) m1 y m2 → Begun same meaning id op r m m2
    begin_known m2 (Ok event) opens on err was r = open_then m m1 m2 x y id (outline_of op) (op_of meaning op) (outcome_of meaning event.outcome) t (record { opens = opens; content_on = on; others = others }) r
    begin_known m2 (Err e) opens on err was r = knows m m1 m2 x y (Some id) _ t r (ap (with_number id) (err id ∙ was))

    pub begin_then : (m2 : Sat) (r : Result (EventResult P) E)
        → IfOk r (λ event. Opens (outline_of op) (op_of meaning op) (place y id) (outcome_of meaning event.outcome))
        → IfOk r (λ event. (c : Pairs T) → content x c → (n : Pairs T) × content y n × Changes same (Running (outline_of op) (op_of meaning op) Fresh) c n (outcome_of meaning event.outcome))
        → OnErr r ((k : ℕ) → place y k ≡ place x k) → place x id ≡ Some Ready
        → Released place (operations_opened meaning op r) (number_of (at_of m1.0)) m1 y m2 → Begun same meaning id op r m m2
    begin_then m2 r opens on err was released =
        begin_known m2 r opens on err was
        (subst (λ (w : Option (ℕ × CallStage T)). Released place (operations_opened meaning op r) (number_of w) m1 y m2) (at_held same content place m m1 x t ∙ here) released)

  -- AN EVENT of a call: the content, and what is known of its number, before and after it
  pub record Happened (x y : S) (id : ℕ) (p : CallStage T) (answer : Option T) (k : Kind) (out : Outcome T) : Type 0 where
    pub turns : Turns p answer k (place y id) out
    pub content_on : (m : Pairs T) → content x m → (n : Pairs T) × content y n × Changes same p m n out
    pub others : (j : ℕ) → j ≢ id → place y j ≡ place x j

  run_may : (m m1 : Sat) (x y : S) (id : ℕ) (o : Outline) (op : Op T) (s : Asking T) (out : Outcome T) → Taken same content place m x m1 → KeepsOthers same content place (at_of m.0) x y (Some id)
      → ((c : Pairs T) → content x c → (n : Pairs T) × content y n × Changes same (Running o op s) c n out) → MayRelease place (operations_at (Some (id, Running o op s)) out) (Some id) same content m1 y
  run_may m m1 x y id o op s Going t others on = quiet_may same content place m m1 x y (Some id) t (keeps_if x y (Running o op s) Going (λ a b e. e) on) others
  run_may m m1 x y id o op s (Ask old) t others on = quiet_may same content place m m1 x y (Some id) t (keeps_if x y (Running o op s) (Ask old) (λ a b e. e) on) others
  run_may m m1 x y id o op s (Pair key value) t others on = quiet_may same content place m m1 x y (Some id) t (keeps_if x y (Running o op s) (Pair key value) (λ a b e. e.0) on) others
  run_may m m1 x y id o op s (Decided r) t others on = made_may same content place m m1 x y (Some id) (operation_by op (asked_of s) r) t on others
  run_may m m1 x y id o op s Refused t others on = quiet_may same content place m m1 x y (Some id) t (keeps_if x y (Running o op s) Refused (λ a b e. e) on) others
  run_may m m1 x y id o op s Done t others on = quiet_may same content place m m1 x y (Some id) t (keeps_if x y (Running o op s) Done (λ a b e. e) on) others
  run_may m m1 x y id o op s Unknown t others on = quiet_may same content place m m1 x y (Some id) t (keeps_if x y (Running o op s) Unknown (λ a b e. e) on) others

  run_then : (m m1 m2 : Sat) (x y : S) (id : ℕ) (o : Outline) (op : Op T) (s : Asking T) (a : Option T) (k : Kind) (out : Outcome T) → Taken same content place m x m1 → Happened x y id (Running o op s) a k out
      → Released place (operations_at (Some (id, Running o op s)) out) (Some id) m1 y m2 → AfterEvent id o same op s a k out m m2
  run_then m m1 m2 x y id o op s a k Going t h r = let w = h.turns in (w.0, w.1, w.2, knows m m1 m2 x y (Some id) _ t r (ap (with_number id) w.3))
  run_then m m1 m2 x y id o op s a k (Ask old) t h r = knows m m1 m2 x y (Some id) _ t r (ap (with_number id) h.turns)
  run_then m m1 m2 x y id o op s a k (Pair key value) t h r =
      let w = h.turns in
      let on = h.content_on t.leads.end t.leads.contains in (
        w.0,
        (w.1.0, knows m m1 m2 x y (Some id) _ t r (ap (with_number id) w.1.1)),
        (t.history, t.leads.end, t.fit.begins, t.leads.run, on.2.1),
      )
  run_then m m1 m2 x y id o op s a k (Decided reply) t h r =
      let q = made_then same content place m m1 m2 x y (Some id) (operation_by op (asked_of s) reply) t h.content_on r in record { made = q.0; at_is = q.1 ∙ ap (with_number id) h.turns }
  run_then m m1 m2 x y id o op s a k Refused t h r = knows m m1 m2 x y (Some id) _ t r (ap (with_number id) h.turns)
  run_then m m1 m2 x y id o op s a k Done t h r = (h.turns.0, knows m m1 m2 x y (Some id) _ t r (ap (with_number id) h.turns.1))
  run_then m m1 m2 x y id o op s a k Unknown t h r = knows m m1 m2 x y (Some id) _ t r (ap (with_number id) h.turns)

  -- the number is that of the seat's view, which has the lock
  module _ (m m1 : Sat) (x y : S) (id : ℕ) (t : Taken same content place m x m1) where
    pub event_may : (o : Outline) (op : Op T) (s : Asking T) (a : Option T) (k : Kind) (out : Outcome T) → at_of m.0 ≡ Some (id, Running o op s) → Happened x y id (Running o op s) a k out
        → MayRelease place (operations_at (at_of m1.0) out) (number_of (at_of m1.0)) same content m1 y
    event_may o op s a k out here h =
        subst (λ (w : Option (ℕ × CallStage T)). MayRelease place (operations_at w out) (number_of w) same content m1 y) (sym (at_held same content place m m1 x t ∙ here))
        (run_may m m1 x y id o op s out t (keeps_others same content place (at_of m.0) x y id (Running o op s) here h.others) h.content_on)

    pub event_then : (m2 : Sat) (o : Outline) (op : Op T) (s : Asking T) (a : Option T) (k : Kind) (out : Outcome T) → at_of m.0 ≡ Some (id, Running o op s) → Happened x y id (Running o op s) a k out
        → Released place (operations_at (at_of m1.0) out) (number_of (at_of m1.0)) m1 y m2 → AfterEvent id o same op s a k out m m2
    event_then m2 o op s a k out here h r =
        run_then m m1 m2 x y id o op s a k out t h
        (subst (λ (w : Option (ℕ × CallStage T)). Released place (operations_at w out) (number_of w) m1 y m2) (at_held same content place m m1 x t ∙ here) r)

    -- OF A CALL THAT IS OVER
    over_turns : (o : Outline) (p : CallStage T) (a : Option T) (k : Kind) (q : Option (CallStage T)) (out : Outcome T) → IsOver o p → Turns p a k q out → TurnsEnded o p q out
    over_turns o p a k q out over w =
        elim over [
          | inl e ↦ subst (λ (z : CallStage T). TurnsEnded o z q out) (sym e) (subst (λ (z : CallStage T). Turns z a k q out) e w)
          | inr e ↦ subst (λ (z : CallStage T). TurnsEnded o z q out) (sym e) (subst (λ (z : CallStage T). Turns z a k q out) e w)
        ]

    over_quiet : (o : Outline) (p : CallStage T) (out : Outcome T) → IsOver o p → operations_at (Some (id, p)) out ≡ []
    over_quiet o p out over =
        elim over [
          | inl e ↦ subst (λ (z : CallStage T). operations_at (Some (id, z)) out ≡ []) (sym e) refl
          | inr e ↦ subst (λ (z : CallStage T). operations_at (Some (id, z)) out ≡ []) (sym e) refl
        ]

    over_same : (o : Outline) (p : CallStage T) (q : Option (CallStage T)) (c d : Pairs T) (out : Outcome T) → TurnsEnded o p q out → Changes same p c d out → d ≡ c
    over_same o p q c d Going w e = e
    over_same o p q c d (Ask old) w e = e
    over_same o p q c d (Pair key value) w e = e.0
    over_same o p q c d (Decided reply) w e = absurd w
    over_same o p q c d Refused w e = e
    over_same o p q c d Done w e = e
    over_same o p q c d Unknown w e = e

    pub last_may : (o : Outline) (p : CallStage T) (a : Option T) (k : Kind) (out : Outcome T) → IsOver o p → at_of m.0 ≡ Some (id, p) → Happened x y id p a k out
        → MayRelease place (operations_at (at_of m1.0) out) (number_of (at_of m1.0)) same content m1 y
    last_may o p a k out over here h =
        let quiet = quiet_may same content place m m1 x y (Some id) t
        (keeps_if x y p out (λ c d. over_same o p (place y id) c d out (over_turns o p a k (place y id) out over h.turns)) h.content_on)
        (keeps_others same content place (at_of m.0) x y id p here h.others)
        in
        subst (λ (w : Option (ℕ × CallStage T)). MayRelease place (operations_at w out) (number_of w) same content m1 y) (sym (at_held same content place m m1 x t ∙ here))
        (subst (λ (w : List _). MayRelease place w (Some id) same content m1 y) (sym (over_quiet o p out over)) quiet)

    end_by : (m2 : Sat) (o : Outline) (p : CallStage T) (out : Outcome T) → Released place [] (Some id) m1 y m2 → TurnsEnded o p (place y id) out → AfterLast id o p out m m2
    end_by m2 o p Going r w = knows m m1 m2 x y (Some id) _ t r (ap (with_number id) w)
    end_by m2 o p (Ask old) r w = absurd w
    end_by m2 o p (Pair key value) r w = (w.0, knows m m1 m2 x y (Some id) _ t r (ap (with_number id) w.1))
    end_by m2 o p (Decided reply) r w = absurd w
    end_by m2 o p Refused r w = absurd w
    end_by m2 o p Done r w = knows m m1 m2 x y (Some id) _ t r (ap (with_number id) w)
    end_by m2 o p Unknown r w = knows m m1 m2 x y (Some id) _ t r (ap (with_number id) w)

    pub last_then : (m2 : Sat) (o : Outline) (p : CallStage T) (a : Option T) (k : Kind) (out : Outcome T) → IsOver o p → at_of m.0 ≡ Some (id, p) → Happened x y id p a k out
        → Released place (operations_at (at_of m1.0) out) (number_of (at_of m1.0)) m1 y m2 → AfterLast id o p out m m2
    last_then m2 o p a k out over here h r =
        let r1 = subst (λ (w : Option (ℕ × CallStage T)). Released place (operations_at w out) (number_of w) m1 y m2) (at_held same content place m m1 x t ∙ here) r in
        let r2 = subst (λ (w : List _). Released place w (Some id) m1 y m2) (over_quiet o p out over) r1 in
        end_by m2 o p out r2 (over_turns o p a k (place y id) out over h.turns)

    -- A NUMBER IS SEATED
    pub seat_may : {E : Type 0} (r : Result ℕ E) → at_of m.0 ≡ None → Keeps x y
        → IfOk r (λ i. (place x i ≡ None) × (place y i ≡ Some Ready) × ((k : ℕ) → k ≢ i → place y k ≡ place x k)) → OnErr r ((k : ℕ) → place y k ≡ place x k)
        → MayRelease place [] (seated_in r) same content m1 y
    seat_may (Ok i) here keeps ok err = quiet_may same content place m m1 x y (Some i) t keeps (keeps_seated same content place (at_of m.0) x y i ok.0 ok.2)
    seat_may (Err e) here keeps ok err = quiet_may same content place m m1 x y None t keeps (keeps_same same content place (at_of m.0) x y None (subst (λ (w : Option (ℕ × CallStage T)). None ≡ number_of w) (sym here) refl) err)

    pub seat_ok : (m2 : Sat) {E : Type 0} (r : Result ℕ E) → IfOk r (λ i. (place x i ≡ None) × (place y i ≡ Some Ready) × ((k : ℕ) → k ≢ i → place y k ≡ place x k))
        → Released place [] (seated_in r) m1 y m2 → IfOk r (λ i. KnowsOf (Some (i, Ready)) m m2)
    seat_ok m2 (Ok i) ok r = knows m m1 m2 x y (Some i) _ t r (ap (with_number i) ok.1)
    seat_ok m2 (Err e) ok r = tt

    pub seat_err : (m2 : Sat) {E : Type 0} (r : Result ℕ E) → Released place [] (seated_in r) m1 y m2 → OnErr r (KnowsOf None m m2)
    seat_err m2 (Ok i) r = tt
    seat_err m2 (Err e) r = knows m m1 m2 x y None _ t r refl

    -- A NUMBER IS FREED
    pub unseat_may : (p : CallStage T) → at_of m.0 ≡ Some (id, p) → Keeps x y → ((k : ℕ) → k ≢ id → place y k ≡ place x k) → MayRelease place [] None same content m1 y
    unseat_may p here keeps others = quiet_may same content place m m1 x y None t keeps (keeps_freed same content place (at_of m.0) x y id p here others)

    pub unseat_then : (m2 : Sat) → Released place [] None m1 y m2 → KnowsOf None m m2
    unseat_then m2 r = knows m m1 m2 x y None _ t r refl

  -- NOTHING CHANGES
  module _ (m m1 : Sat) (x y : S) (t : Taken same content place m x m1) where
    pub still_may : Keeps x y → ((k : ℕ) → place y k ≡ place x k) → MayRelease place [] (number_of (at_of m1.0)) same content m1 y
    still_may keeps others =
        quiet_may same content place m m1 x y (number_of (at_of m1.0)) t keeps
        (keeps_same same content place (at_of m.0) x y (number_of (at_of m1.0)) (ap number_of (at_held same content place m m1 x t)) others)

    pub still_then : (m2 : Sat) → ((k : ℕ) → place y k ≡ place x k) → Released place [] (number_of (at_of m1.0)) m1 y m2 → KnowsOf (at_of m.0) m m2
    still_then m2 others r =
        let held = at_held same content place m m1 x t in
        knows m m1 m2 x y (number_of (at_of m1.0)) _ t r
        (ap (λ (w : Option (ℕ × CallStage T)). numbered (place y) (number_of w)) held ∙ still_numbered (at_of m.0) t.matches)
      where
        still_numbered : (at : Option (ℕ × CallStage T)) → Matches (place x) at → numbered (place y) (number_of at) ≡ at
        still_numbered None e = refl
        still_numbered (Some (i, p)) e = ap (with_number i) (others i ∙ e)
