-- The outcome of an event of a range in flight, and the call after it.
use Rattle.std.proofs.Common.{◌≡◌, ℕ, ◌+◌, ◌<◌, ◌≤◌, Bool, true, false, IsTrue, List, [], ◌∷◌, Option, Some, None, if◌then◌else◌, inl, inr, ◌⊎◌, refl, sym, subst, ap, ◌∙◌, arith}
use Rattle.spec_map.proofs.MapLaws.{lookup-put_same}
use Rattle.spec_map.specs.Map.{lookup, put}
use Rattle.spec_node.specs.TableNode.{TableNode}
use Rattle.spec_olc.specs.Calls.{Outline, IsPoint}
use Rattle.spec_olc.specs.Content.{Reaches, at_root, by_child, IsStoredAt}
use Rattle.spec_olc.specs.Kinds.{NextIs, DoesAs, CheckOutcome, AnswerOutcome, IsAtWork, MayEnd, ReadOutcome, WriteOutcome, failed, not_locked, refusal, refused, unlocked}
use Rattle.spec_olc.specs.Local.{AsksWith}
use Rattle.spec_olc.specs.Reading.{HasAll, LooksOn, MayGive, MovesOn, NoneIsStored, Remembered}
use Rattle.spec_olc.specs.State.{CallState, Cleaning, State, back, settled, with_call}
use Rattle.spec_olc.specs.declared.types.Env.{Env}
use Rattle.spec_olc.specs.declared.types.Kind.TheVariants as kind
use Rattle.spec_olc.specs.declared.types.Kind.{Kind}
use Rattle.spec_olc.specs.declared.types.Op.TheVariants.{Range}
use Rattle.spec_olc.specs.declared.types.Op.{Op}
use Rattle.spec_olc.specs.declared.types.Outcome.TheVariants.{Going, Ask, Pair, Decided, Refused, Done, Unknown}
use Rattle.spec_olc.specs.declared.types.Outcome.{Outcome}
use Rattle.spec_olc.specs.declared.types.Progress.TheVariants as progress
use Rattle.spec_olc.specs.declared.types.Progress.{Progress}
use Rattle.spec_olc.specs.declared.types.Report.{Report}

some_is : {X : Type 0} (x y : X) → Some x ≡ Some y → x ≡ y
some_is x y e = cc

open_refused : progress.Open ≡ progress.Refused → ⊥
open_refused e = cc

open_decided : progress.Open ≡ progress.Decided → ⊥
open_decided e = cc

by_ok : {X : Type 0} → (ok : Bool) → (IsTrue ok → X) → (ok ≡ false → X) → X
by_ok true good bad = good refl
by_ok false good bad = bad refl

module _ {M : Type 0} where
  -- the content doesn't depend on the calls
  reaches_still : (s : State M) (id : ℕ) (call : CallState M) (slot : ℕ) → Reaches (with_call s id call) slot → Reaches s slot
  reaches_still s id call slot at_root = at_root
  reaches_still s id call slot (by_child above byte a r here there) = by_child above byte a (reaches_still s id call above r) here there

  still_reaches : (s : State M) (id : ℕ) (call : CallState M) (slot : ℕ) → Reaches s slot → Reaches (with_call s id call) slot
  still_reaches s id call slot at_root = at_root
  still_reaches s id call slot (by_child above byte a r here there) = by_child above byte a (still_reaches s id call above r) here there

  stands_still : (s : State M) (id : ℕ) (call : CallState M) (key : ℕ) (v : M) → IsStoredAt (with_call s id call) key v → IsStoredAt s key v
  stands_still s id call key v h = record {
    slot = h.slot;
    byte = h.byte;
    payload = record { above = h.payload.above; reaches = reaches_still s id call h.slot h.payload.reaches; here = h.payload.here; entry = h.payload.entry };
    key_is = h.key_is;
  }

  still_stands : (s : State M) (id : ℕ) (call : CallState M) (key : ℕ) (v : M) → IsStoredAt s key v → IsStoredAt (with_call s id call) key v
  still_stands s id call key v h = record {
    slot = h.slot;
    byte = h.byte;
    payload = record { above = h.payload.above; reaches = still_reaches s id call h.slot h.payload.reaches; here = h.payload.here; entry = h.payload.entry };
    key_is = h.key_is;
  }

  -- A RANGE IN FLIGHT that may give more
  pub record IsWalking (a b n : ℕ) (call : CallState M) : Type 0 where
    pub outline : call.outline ≡ Range a b n
    pub op : (o : Op M) → call.op ≡ Some o → o ≡ Range a b n
    pub undecided : call.progress ≡ progress.Open
    pub order : call.cursor ≤ call.reach
    pub most : call.given ≤ n

  -- it searches on
  pub record LookedOn (new : State M) (call next : CallState M) : Type 0 where
    pub onward : call.cursor ≤ next.cursor
    pub passed : NoneIsStored new call.reach next.reach
    pub as_many : next.given ≡ call.given

  -- it gives a pair
  pub record HasGiven (b n : ℕ) (new : State M) (call next : CallState M) (key : ℕ) (value : M) : Type 0 where
    pub from : call.reach ≤ key
    pub below : key < b
    pub room : call.given < n
    pub at_key : IsStoredAt new key value
    pub passed : NoneIsStored new call.reach key
    pub cursor : next.cursor ≡ key + 1
    pub reach : next.reach ≡ key + 1
    pub one_more : next.given ≡ call.given + 1

  -- HOW a range CHANGES by an event of its own with this outcome
  abbrev pub Walks : ℕ → ℕ → ℕ → ℕ → State M → CallState M → Outcome M → Type 0
  Walks id a b n new call Going = (next : CallState M) × (lookup new.calls id ≡ Some next) × IsWalking a b n next × LookedOn new call next
  Walks id a b n new call (Pair key value) = (next : CallState M) × (lookup new.calls id ≡ Some next) × IsWalking a b n next × HasGiven b n new call next key value
  Walks id a b n new call Refused = (next : CallState M) × (lookup new.calls id ≡ Some next) × (next.progress ≡ progress.Refused)
  Walks id a b n new call Done = (b ≤ call.reach) ⊎ (call.given ≡ n)
  Walks id a b n new call out = ⊥

  -- and how one that was refused changes
  abbrev pub Drops : ℕ → State M → Outcome M → Type 0
  Drops id new Going = (next : CallState M) × (lookup new.calls id ≡ Some next) × (next.progress ≡ progress.Refused)
  Drops id new Done = Unit {0}
  Drops id new out = ⊥

  module _ (Granted : Type 0) (same : M → M → Bool) (old new : State M) (id : ℕ) (call : CallState M) (env : Env M) (report : Report) (out : Outcome M) where
    abbrev After : State M → CallState M → Type 0
    After base planned = NextIs Granted same old new id call env report out base planned

    there : (base : State M) (planned : CallState M) (after : After base planned) → lookup new.calls id ≡ Some after.next
    there base planned after = ap (λ (s : State M). lookup s.calls id) after.after ∙ lookup-put_same base.calls id after.next

    -- A RANGE THAT WAS REFUSED only unlocks and ends
    drops : (base : State M) (planned : CallState M) → After base planned → planned.progress ≡ progress.Refused → Drops id new Going
    drops base planned after is = (after.next, there base planned after, ap (λ (f : CallState M). f.progress) after.is ∙ is)

    idle : IsAtWork call → call.progress ≡ progress.Refused → ⊥
    idle work dropped =
        elim work [
          | inl is ↦ open_refused (sym is ∙ dropped)
          | inr is ↦ let e : progress.Decided ≡ progress.Refused = sym is.0 ∙ dropped in cc
        ]

    unlocked_dropped : (p : Progress) (cleaning : Option Cleaning) (held : List ℕ) (f : CallState M) → (unlocked p cleaning held f).progress ≡ f.progress
    unlocked_dropped progress.Open cleaning held f = refl
    unlocked_dropped _ None held f = refl
    unlocked_dropped _ (Some length_is) [] f = refl
    unlocked_dropped _ (Some length_is) (slot ∷ held) f = refl

    pub drops_on : call.progress ≡ progress.Refused → (k : Kind) → DoesAs Granted same old new id call env report out k → Drops id new out
    drops_on dropped kind.Start d = absurd d
    drops_on dropped kind.Take d = absurd (idle d.0 dropped)
    drops_on dropped kind.Check d = absurd (idle d.0 dropped)
    drops_on dropped kind.Read d = absurd (idle d.0 dropped)
    drops_on dropped kind.Upgrade d = absurd (idle d.0 dropped)
    drops_on dropped kind.Make d = absurd (idle d.0 dropped)
    drops_on dropped kind.Write d = absurd (idle d.0 dropped)
    drops_on dropped kind.Obsolete d = subst (λ (o : Outcome M). Drops id new o) (sym d.reports.1) (drops _ _ d.becomes dropped)
    drops_on dropped kind.Unlock d = subst (λ (o : Outcome M). Drops id new o) (sym d.reports.1) (drops _ _ d.becomes (unlocked_dropped call.progress call.cleaning _ _ ∙ dropped))
    drops_on dropped kind.Answer d = absurd (idle d.0 dropped)
    drops_on dropped kind.Finish d = subst (λ (o : Outcome M). Drops id new o) (sym d.reports.1) tt
    drops_on dropped kind.Reclaim d = absurd d

    module _ (a b n : ℕ) (walking : IsWalking a b n call) where
      abbrev Result : Outcome M → Type 0
      Result o = Walks id a b n new call o

      -- the call is still the same range
      same_range : (remembered : List (ℕ × ℕ)) (planned next : CallState M) → next ≡ record planned { remembered = remembered } → IsWalking a b n planned → IsWalking a b n next
      same_range remembered planned next is w =
          subst (λ (f : CallState M). IsWalking a b n f) (sym is) (record { outline = w.outline; op = w.op; undecided = w.undecided; order = w.order; most = w.most })

      looked : (remembered : List (ℕ × ℕ)) (planned next : CallState M) → next ≡ record planned { remembered = remembered } → LookedOn new call planned → LookedOn new call next
      looked remembered planned next is l = subst (λ (f : CallState M). LookedOn new call f) (sym is) (record { onward = l.onward; passed = l.passed; as_many = l.as_many })

      gave : (remembered : List (ℕ × ℕ)) (planned next : CallState M) (key : ℕ) (value : M) → next ≡ record planned { remembered = remembered } → HasGiven b n new call planned key value → HasGiven b n new call next key value
      gave remembered planned next key value is g =
          subst (λ (f : CallState M). HasGiven b n new call f key value) (sym is)
          (record { from = g.from; below = g.below; room = g.room; at_key = g.at_key; passed = g.passed; cursor = g.cursor; reach = g.reach; one_more = g.one_more })

      goes : (o : Outcome M) → o ≡ Going → (base : State M) (planned : CallState M) → After base planned → IsWalking a b n planned → LookedOn new call planned → Result o
      goes o e base planned after w l =
          subst (λ (x : Outcome M). Result x) (sym e)
          (after.next, there base planned after, same_range after.next.remembered planned after.next after.is w, looked after.next.remembered planned after.next after.is l)

      nothing : (low high : ℕ) → high ≤ low → NoneIsStored new low high
      nothing low high le key value from to at_key = absurd (omega (arith, from, to))

      -- an event that leaves cursor and count unchanged and doesn't raise the reach
      record Keeps (planned : CallState M) : Type 0 where
        pub outline : planned.outline ≡ call.outline
        pub op : planned.op ≡ call.op
        pub progress_is : planned.progress ≡ call.progress
        pub cursor : planned.cursor ≡ call.cursor
        pub reach : planned.reach ≤ call.reach
        pub order : planned.cursor ≤ planned.reach
        pub as_many : planned.given ≡ call.given

      kept_walks : (planned : CallState M) → Keeps planned → IsWalking a b n planned
      kept_walks planned k = record {
        outline = k.outline ∙ walking.outline;
        op = λ o e. walking.op o (sym k.op ∙ e);
        undecided = k.progress_is ∙ walking.undecided;
        order = k.order;
        most = omega (arith, k.as_many, walking.most);
      }

      kept_looks : (planned : CallState M) → Keeps planned → LookedOn new call planned
      kept_looks planned k = record { onward = omega (arith, k.cursor); passed = nothing call.reach planned.reach k.reach; as_many = k.as_many }

      stays : (o : Outcome M) → o ≡ Going → (base : State M) (planned : CallState M) → After base planned → Keeps planned → Result o
      stays o e base planned after k = goes o e base planned after (kept_walks planned k) (kept_looks planned k)

      -- it has no reply, so where it fails it goes back to the root
      fails_back : failed call.progress call ≡ back call
      fails_back = ap (λ (p : Progress). failed p call) walking.undecided

      restarts : Keeps (back call)
      restarts = record { outline = refl; op = refl; progress_is = refl; cursor = refl; reach = walking.order; order = omega arith; as_many = refl }

      refuses : (o : Outcome M) → o ≡ Refused → (base : State M) (planned : CallState M) → After base (settled progress.Refused planned) → Result o
      refuses o e base planned after =
          subst (λ (x : Outcome M). Result x) (sym e) (after.next, there base (settled progress.Refused planned) after, ap (λ (f : CallState M). f.progress) after.is)

      -- the event leaves the content unchanged
      unpassed : (next : CallState M) (low high : ℕ) → new ≡ with_call old id next → NoneIsStored old low high → NoneIsStored new low high
      unpassed next low high is none =
          subst (λ (s : State M). NoneIsStored s low high) (sym is) (λ key value from to at_key. none key value from to (stands_still old id next key value at_key))

      range_looks : (here : Remembered old call) (planned : CallState M) (after : After old planned) → MovesOn old call here planned → Result Going
      range_looks here planned after m =
          let none : NoneIsStored new call.reach m.reach = unpassed after.next call.reach m.reach after.after m.passed in
          let on : CallState M = record call { cursor = m.cursor; reach = m.reach } in
          elim m.next_is [
            | inl is ↦
                goes Going refl old on (subst (λ (f : CallState M). After old f) is after)
                (record { outline = walking.outline; op = walking.op; undecided = walking.undecided; order = m.order; most = walking.most })
                (record { onward = m.onward; passed = none; as_many = refl })
            | inr is ↦
                goes Going refl old (back on) (subst (λ (f : CallState M). After old f) is after)
                (record { outline = walking.outline; op = walking.op; undecided = walking.undecided; order = omega arith; most = walking.most })
                (record { onward = m.onward; passed = λ key value from to. none key value from (omega (arith, m.order, to)); as_many = refl })
          ]

      gives : (key : ℕ) (value : M) (planned on : CallState M) (after : After old planned) → planned ≡ on → IsWalking a b n on → HasGiven b n new call on key value → Result (Pair key value)
      gives key value planned on after is w g =
          let held : After old on = subst (λ (f : CallState M). After old f) is after in
          (held.next, there old on held, same_range held.next.remembered on held.next held.is w, gave held.next.remembered on held.next key value held.is g)

      may_give : (o : Outline) (count key : ℕ) → o ≡ Range a b n → MayGive o count key → (key < b) × (count < n)
      may_give o count key e may = subst (λ (x : Outline). MayGive x count key) e may

      looks_range : (o : Outline) (here : Remembered old call) (planned : CallState M) → o ≡ Range a b n → LooksOn o old call here planned → MovesOn old call here planned
      looks_range o here planned e h = subst (λ (x : Outline). LooksOn x old call here planned) e h

      asks_range : (o : Outline) (seen asked : Option M) → o ≡ Range a b n → AsksWith o seen asked → ⊥
      asks_range o seen asked e h = subst (λ (x : Outline). AsksWith x seen asked) e h

      no_point : (o : Op M) → o ≡ Range a b n → IsPoint o → ⊥
      no_point o e point = subst (λ (x : Op M). IsPoint x) e point

      found : (o : Outcome M) (here : Remembered old call) (planned : CallState M) → After old planned → CheckOutcome Granted same old call here planned o → Result o
      found Going here planned after h = range_looks here planned after (looks_range call.outline here planned walking.outline h)
      found (Ask asked) here planned after h = absurd (asks_range call.outline _ asked walking.outline h.0.is)
      found (Pair key value) here planned after h =
          let may : (key < b) × (call.given < n) = may_give call.outline call.given key walking.outline h.may in
          let none : NoneIsStored new call.reach key = unpassed after.next call.reach key after.after h.passed in
          let now : IsStoredAt new key value = subst (λ (s : State M). IsStoredAt s key value) (sym after.after) (still_stands old id after.next key value h.at_key) in
          let on : CallState M = record call { cursor = key + 1; reach = key + 1; given = call.given + 1 } in
          elim h.next_is [
            | inl is ↦
                gives key value planned on after is
                (record { outline = walking.outline; op = walking.op; undecided = walking.undecided; order = omega arith; most = omega (arith, may.1) })
                (record { from = h.from; below = may.0; room = may.1; at_key = now; passed = none; cursor = refl; reach = refl; one_more = refl })
            | inr is ↦
                gives key value planned (back on) after is
                (record { outline = walking.outline; op = walking.op; undecided = walking.undecided; order = omega arith; most = omega (arith, may.1) })
                (record { from = h.from; below = may.0; room = may.1; at_key = now; passed = none; cursor = refl; reach = refl; one_more = refl })
          ]
      found (Decided reply) here planned after h = absurd (no_point h.0.op (walking.op h.0.op h.0.op_is) h.0.point)
      found Refused here planned after h = absurd h
      found Done here planned after h = absurd h
      found Unknown here planned after h = absurd h

      saw : (node : TableNode M) (whole : Bool) (o : Outcome M) → ReadOutcome Granted same old new id call env report out node whole o → Result o
      saw node true Going d = stays Going refl old _ d.2 (record { outline = refl; op = refl; progress_is = refl; cursor = refl; reach = omega arith; order = walking.order; as_many = refl })
      saw node true Refused d = refuses Refused refl old call d.3.becomes
      saw node false Going d = stays Going refl old _ d (record { outline = refl; op = refl; progress_is = refl; cursor = refl; reach = omega arith; order = walking.order; as_many = refl })
      saw node whole _ d = absurd d

      heard : (asked : Option M) (o : Outcome M) → AnswerOutcome Granted same old new id call env report out asked o → Result o
      heard asked Going d = stays Going refl old _ d (record { outline = refl; op = refl; progress_is = refl; cursor = refl; reach = omega arith; order = walking.order; as_many = refl })
      heard asked Refused d = refuses Refused refl old call d.2.becomes
      heard asked _ d = absurd d

      took : (ok : Bool) (slot word : ℕ) → After old (if ok then (record call { remembered = put call.remembered slot word }) else failed call.progress call) → Result Going
      took true slot word after = stays Going refl old _ after (record { outline = refl; op = refl; progress_is = refl; cursor = refl; reach = omega arith; order = walking.order; as_many = refl })
      took false slot word after = stays Going refl old (back call) (subst (λ (p : CallState M). After old p) fails_back after) restarts

      not_locked_keeps : (held : List ℕ) → Keeps (not_locked progress.Open held call)
      not_locked_keeps [] = restarts
      not_locked_keeps (slot ∷ held) = record { outline = refl; op = refl; progress_is = refl; cursor = refl; reach = omega arith; order = walking.order; as_many = refl }

      unlocked_keeps : (p : Progress) → p ≡ progress.Open → (held : List ℕ) → Keeps (unlocked p call.cleaning held (record call { held = held }))
      unlocked_keeps progress.Decided e held = absurd (open_decided (sym e))
      unlocked_keeps progress.Refused e held = absurd (open_refused (sym e))
      unlocked_keeps progress.Open e held = record { outline = refl; op = refl; progress_is = refl; cursor = refl; reach = walking.order; order = omega arith; as_many = refl }

      makes_none : (p : Progress) (base : State M) (f : CallState M) → p ≡ progress.Open → out ≡ refusal p → After base (refused p f) → Result out
      makes_none progress.Open base f e reports after = refuses out reports base f after
      makes_none progress.Decided base f e reports after = absurd (open_decided (sym e))
      makes_none progress.Refused base f e reports after = absurd (open_refused (sym e))

      -- a range writes nothing
      writes_none : (o : Outcome M) → WriteOutcome Granted same call o → ⊥
      writes_none Going h = open_decided (sym walking.undecided ∙ h)
      writes_none (Decided reply) h = no_point h.op (walking.op h.op h.op_is) h.point
      writes_none _ h = h

      ends : MayEnd call → (b ≤ call.reach) ⊎ (call.given ≡ n)
      ends may =
          elim may [
            | inl over ↦ absurd (over.0 walking.undecided)
            | inr all ↦ subst (λ (o : Outline). HasAll o call.reach call.given) walking.outline all
          ]

      pub walks_on : (k : Kind) → DoesAs Granted same old new id call env report out k → Result out
      walks_on kind.Start d = absurd d
      walks_on kind.Take d = subst (λ (o : Outcome M). Result o) (sym d.1.reports.1) (took report.ok d.1.slot d.1.node.word d.1.becomes)
      walks_on kind.Check d =
          by_ok report.ok (λ good. found out d.1.knows d.1.planned d.1.becomes (d.1.passes good))
          (λ bad. let f = d.1.fails bad in stays out f.0 old (back call) (subst (λ (p : CallState M). After old p) (f.1 ∙ fails_back) d.1.becomes) restarts)
      walks_on kind.Read d = saw d.1.knows.node.node d.1.whole out d.1.sees
      walks_on kind.Upgrade d =
          by_ok report.ok
          (λ good. stays out d.1.reports.1 _ _ (d.1.locks good) (record { outline = refl; op = refl; progress_is = refl; cursor = refl; reach = omega arith; order = walking.order; as_many = refl }))
          (λ bad. stays out d.1.reports.1 old _ (subst (λ (p : Progress). After old (not_locked p call.held call)) walking.undecided (d.1.fails bad)) (not_locked_keeps call.held))
      walks_on kind.Make (w, may, inl d) = stays out d.reports.1 _ _ d.becomes (record { outline = refl; op = refl; progress_is = refl; cursor = refl; reach = omega arith; order = walking.order; as_many = refl })
      walks_on kind.Make (w, may, inr d) = makes_none call.progress _ _ walking.undecided d.reports.1 d.becomes
      walks_on kind.Write d = absurd (writes_none out d.1.reports)
      walks_on kind.Obsolete d = stays out d.reports.1 _ _ d.becomes (record { outline = refl; op = refl; progress_is = refl; cursor = refl; reach = omega arith; order = walking.order; as_many = refl })
      walks_on kind.Unlock d = stays out d.reports.1 _ _ d.becomes (unlocked_keeps call.progress walking.undecided _)
      walks_on kind.Answer d = heard d.1.asked out d.1.hears
      walks_on kind.Finish d = subst (λ (o : Outcome M). Result o) (sym d.reports.1) (ends d.may)
      walks_on kind.Reclaim d = absurd d
