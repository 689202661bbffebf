-- Every range of a run is a scan (IsScan).
use Rattle.std.proofs.Common.{◌≡◌, ◌≢◌, ℕ, ◌+◌, ◌<◌, ◌≤◌, List, [], ◌∷◌, length, Option, Some, None, inl, inr, ◌⊎◌, refl, sym, subst, ap, ◌∙◌, arith}
use Rattle.std.specs.Prelude.{IsSome}
use Rattle.std.proofs.lemmas.Bool.{le-leb, lt-ltb, eq-eqb, ne_eqb, cases_order, cases_lt}
use Rattle.std.proofs.lemmas.Bool.Decides.{eqb_tells}
use Rattle.spec_map.proofs.MapLaws.{Rises-wider, lookup-put_same, lookup-put_other}
use Rattle.spec_map.specs.Map.{Pairs, lookup, between, Rises}
use Rattle.spec_olc.proofs.Ranging.{IsWalking, Walks, Drops, walks_on, drops_on}
use Rattle.spec_olc.proofs.Steps.{others_stay}
use Rattle.spec_olc.specs.Content.{IsContent, IsStoredAt}
use Rattle.spec_olc.specs.Kinds.{DoesAs, IsStep, begun}
use Rattle.spec_olc.specs.Runs.{Transition, Happens, IsMachineRun, same_number}
use Rattle.spec_olc.specs.Scans.{Reported, reported_to, unless_done, with_reported, reports_to, given, AllWereStored, Ends, IsStoredThroughout, IsScan, Scans, AllScan}
use Rattle.spec_olc.specs.State.{State, CallState}
use Rattle.spec_olc.specs.declared.trace.Line.{Line}
use Rattle.spec_olc.specs.declared.trace.Line.TheVariants.{Done as Made, Skipped}
use Rattle.spec_olc.specs.declared.types.Env.{Env}
use Rattle.spec_olc.specs.declared.types.Event.{Event}
use Rattle.spec_olc.specs.declared.types.Event.TheVariants.{Start, Step, Reclaim}
use Rattle.spec_olc.specs.declared.types.Op.TheVariants.{Range}
use Rattle.spec_olc.specs.declared.types.Op.{Op}
use Rattle.spec_olc.specs.declared.types.Outcome.TheVariants.{Going, Ask, Pair, Decided, Refused, Done, Unknown}
use Rattle.spec_olc.specs.declared.types.Outcome.{Outcome}
use Rattle.spec_olc.specs.declared.types.Progress.TheVariants as progress
use Rattle.spec_olc.specs.declared.types.Report.{Report}

some_is : {X : Type 0} (x y : X) → Some x ≡ Some y → x ≡ y
some_is x y e = cc

none_some : {X : Type 0} (x : X) → None ≡ Some x → ⊥
none_some x e = cc

no_number : let n : Option ℕ = None in IsSome n → ⊥
no_number h = cc

some_at : (o : Option ℕ) → IsSome o → (v : ℕ) × (o ≡ Some v)
some_at None h = absurd (no_number h)
some_at (Some v) h = (v, refl)

-- what the rest of a range gives, from this call on
record Kept (b n : ℕ) (call : CallState ℕ) (told : List Reported) : Type 0 where
  pub was_stored : AllWereStored told
  pub ascend : Rises call.cursor b (given told)
  pub at_most : call.given + length (given told) ≤ n
  pub complete : Ends told → (key : ℕ) → call.reach ≤ key → key < b → IsStoredThroughout key told
      → IsSome (lookup (given told) key) ⊎ (call.given + length (between (given told) 0 key) ≡ n)

-- a refused one gives no more
record Silent (told : List Reported) : Type 0 where
  pub was_stored : AllWereStored told
  pub none : given told ≡ []

-- the first pair given, and those after it
found_first : (k v : ℕ) (g : Pairs ℕ) (j : ℕ) → k ≡ j → IsSome (lookup ((k, v) ∷ g) j)
found_first k v g j e = rw (eq-eqb k j e)

found_later : (k v : ℕ) (g : Pairs ℕ) (j : ℕ) → k < j → IsSome (lookup g j) → IsSome (lookup ((k, v) ∷ g) j)
found_later k v g j l h = rw (ne_eqb k j (omega arith)) h

smaller_first : (k v : ℕ) (g : Pairs ℕ) (j : ℕ) → k < j → length (between ((k, v) ∷ g) 0 j) ≡ length (between g 0 j) + 1
smaller_first k v g j l = rw (le-leb 0 k (omega arith), lt-ltb k j l) (omega arith)

module _ (id : ℕ) where
  said_skipped : (event : Event ℕ) → reported_to id event Skipped ≡ None
  said_skipped (Start i op) = refl
  said_skipped (Step i env) = refl
  said_skipped (Reclaim slot) = refl

  said_own : (i : ℕ) (env : Env ℕ) (report : Report) (out : Outcome ℕ) (seen : _) → i ≡ id → reported_to id (Step i env) (Made report out seen) ≡ Some out
  said_own i env report out seen e = rw (eq-eqb i id e)

  said_other : (i : ℕ) (env : Env ℕ) (report : Report) (out : Outcome ℕ) (seen : _) → i ≢ id → reported_to id (Step i env) (Made report out seen) ≡ None
  said_other i env report out seen ne = rw (ne_eqb i id ne)

  -- the event is a step of this call, with this outcome
  record Own (old new : State ℕ) (event : Event ℕ) (line : Line) : Type 0 where
    pub out : Outcome ℕ
    pub reports : reported_to id event line ≡ Some out
    pub env : Env ℕ
    pub report : Report
    pub step : IsStep (Unit {0}) same_number old new id env report out

  -- AN EVENT leaves the call in flight unchanged, or is a step of it
  turn : (old new : State ℕ) (call : CallState ℕ) (event : Event ℕ) (line : Line) → Happens old event line new → lookup old.calls id ≡ Some call
      → ((reported_to id event line ≡ None) × (lookup new.calls id ≡ Some call)) ⊎ Own old new event line
  turn old new call event Skipped h at = inl (said_skipped event, ap (λ (s : State ℕ). lookup s.calls id) h.1 ∙ at)
  turn old new call (Start i op) (Made report out seen) h at =
      elim (eqb_tells i id) [
        | inl same ↦ absurd (none_some call (sym (subst (λ (j : ℕ). lookup old.calls j ≡ None) same.1 h.0) ∙ at))
        | inr far ↦ inl (refl, ap (λ (s : State ℕ). lookup s.calls id) h.1.0.after ∙ (lookup-put_other old.calls i (begun op old.count) id (λ e. far.1 (sym e)) ∙ at))
      ]
  turn old new call (Step i env) (Made report out seen) h at =
      elim (eqb_tells i id) [
        | inl same ↦ inr (record {
          out = out;
          reports = said_own i env report out seen same.1;
          env = env;
          report = report;
          step = subst (λ (j : ℕ). IsStep (Unit {0}) same_number old new j env report out) same.1 h.1.0;
        })
        | inr far ↦ inl (
          said_other i env report out seen far.1,
          others_stay (Unit {0}) same_number old new i h.1.0.call h.1.0.call env report out id (λ e. far.1 (sym e)) report.kind h.1.0.event ∙ at,
        )
      ]
  turn old new call (Reclaim slot) (Made report out seen) h at = inl (refl, ap (λ (s : State ℕ). lookup s.calls id) h.1.0.after ∙ at)

  -- the step is one of the call in flight
  does : (old new : State ℕ) (call : CallState ℕ) (env : Env ℕ) (report : Report) (out : Outcome ℕ) → lookup old.calls id ≡ Some call → (step : IsStep (Unit {0}) same_number old new id env report out)
      → DoesAs (Unit {0}) same_number old new id call env report out report.kind
  does old new call env report out at step =
      subst (λ (f : CallState ℕ). DoesAs (Unit {0}) same_number old new id f env report out report.kind) (some_is step.call call (sym step.in_flight ∙ at)) step.event

  -- A REFUSED RANGE
  silent_step : (new : State ℕ) (out : Outcome ℕ) (m : Pairs ℕ) (later : List Reported) → Drops id new out
      → ((next : CallState ℕ) → lookup new.calls id ≡ Some next → next.progress ≡ progress.Refused → Silent later)
      → Silent (record { out = out; content = m } ∷ unless_done out later)
  silent_step new Going m later d rest = let s = rest d.0 d.1 d.2 in record { was_stored = (tt, s.was_stored); none = s.none }
  silent_step new Done m later d rest = record { was_stored = (tt, tt); none = refl }
  silent_step new _ m later d rest = absurd d

  silent : (now : State ℕ) (m : Pairs ℕ) (xs : List Transition) (n : Pairs ℕ) → IsMachineRun now m xs n → (call : CallState ℕ) → lookup now.calls id ≡ Some call → call.progress ≡ progress.Refused → Silent (reports_to id xs)
  silent now m [] n run call at dropped = record { was_stored = tt; none = refl }
  silent now m (x ∷ xs) n run call at dropped =
      elim (turn now x.after call x.event x.line run.0.happens at) [
        | inl quiet ↦
            subst (λ (o : Option (Outcome ℕ)). Silent (with_reported o x.content (reports_to id xs))) (sym quiet.0)
            (silent x.after x.content xs n run.1 call quiet.1 dropped)
        | inr own ↦
            subst (λ (o : Option (Outcome ℕ)). Silent (with_reported o x.content (reports_to id xs))) (sym own.reports)
            (silent_step x.after own.out x.content (reports_to id xs)
            (drops_on (Unit {0}) same_number now x.after id call own.env own.report own.out dropped own.report.kind (does now x.after call own.env own.report own.out at own.step))
            (λ next there is. silent x.after x.content xs n run.1 next there is))
      ]

  -- A RANGE, however other calls change the content between its events
  module _ (a b n : ℕ) where
    absent : (new : State ℕ) (m : Pairs ℕ) (key : ℕ) → IsContent new m → ((v : ℕ) → IsStoredAt new key v → ⊥) → IsSome (lookup m key) → ⊥
    absent new m key content none some = let v = some_at (lookup m key) some in none v.0 ((content.pairs key v.0).0 v.1)

    walk_step : (new : State ℕ) (call : CallState ℕ) (out : Outcome ℕ) (m : Pairs ℕ) (later : List Reported) → IsContent new m → IsWalking a b n call → Walks id a b n new call out
        → ((next : CallState ℕ) → lookup new.calls id ≡ Some next → IsWalking a b n next → Kept b n next later)
        → ((next : CallState ℕ) → lookup new.calls id ≡ Some next → next.progress ≡ progress.Refused → Silent later)
        → Kept b n call (record { out = out; content = m } ∷ unless_done out later)
    walk_step new call Going m later content w h rest over =
        let next : CallState ℕ = h.0 in
        let kept = rest next h.1 h.2 in
        let on = h.3 in
        record {
          was_stored = (tt, kept.was_stored);
          ascend = Rises-wider next.cursor b call.cursor b (given later) on.onward (omega arith) kept.ascend;
          at_most = omega (arith, kept.at_most, on.as_many);
          complete = λ ends key from to at_key.
              elim (cases_lt key next.reach) [
                | inl passed ↦ absurd (absent new m key content (λ v now. on.passed key v from passed now) at_key.0)
                | inr ahead ↦
                    elim (kept.complete ends key ahead to at_key.1) [
                      | inl found ↦ inl found
                      | inr full ↦ inr (omega (arith, full, on.as_many))
                    ]
              ];
        }
    walk_step new call (Pair k v) m later content w h rest over =
        let next : CallState ℕ = h.0 in
        let kept = rest next h.1 h.2 in
        let now = h.3 in
        record {
          was_stored = ((content.pairs k v).1 now.at_key, kept.was_stored);
          ascend = (
            omega (arith, now.from, w.order),
            now.below,
            Rises-wider next.cursor b (k + 1) b (given later) (omega (arith, now.cursor)) (omega arith) kept.ascend,
          );
          at_most = omega (arith, kept.at_most, now.one_more);
          complete = λ ends key from to at_key.
              elim (cases_order k key) [
                | inl here ↦ inl (found_first k v (given later) key here)
                | inr (inl less) ↦
                    elim (kept.complete ends key (omega (arith, now.reach, less)) to at_key.1) [
                      | inl found ↦ inl (found_later k v (given later) key less found)
                      | inr full ↦ inr (omega (arith, full, now.one_more, smaller_first k v (given later) key less))
                    ]
                | inr (inr more) ↦ absurd (absent new m key content (λ u there. now.passed key u from more there) at_key.0)
              ];
        }
    walk_step new call Refused m later content w h rest over =
        let s = over h.0 h.1 h.2 in
        record {
          was_stored = (tt, s.was_stored);
          ascend = subst (λ (g : Pairs ℕ). Rises call.cursor b g) (sym s.none) tt;
          at_most = omega (arith, ap length s.none, w.most);
          complete = λ ends. absurd ends;
        }
    walk_step new call Done m later content w h rest over =
        record {
          was_stored = (tt, tt);
          ascend = tt;
          at_most = omega (arith, w.most);
          complete = λ ends key from to at_key.
              elim h [
                | inl past ↦ absurd (omega arith)
                | inr full ↦ inr (omega (arith, full))
              ];
        }
    walk_step new call (Ask old) m later content w h rest over = absurd h
    walk_step new call (Decided reply) m later content w h rest over = absurd h
    walk_step new call Unknown m later content w h rest over = absurd h

    walk : (now : State ℕ) (m : Pairs ℕ) (xs : List Transition) (last : Pairs ℕ) → IsMachineRun now m xs last → (call : CallState ℕ) → lookup now.calls id ≡ Some call → IsWalking a b n call → Kept b n call (reports_to id xs)
    walk now m [] last run call at w = record { was_stored = tt; ascend = tt; at_most = omega (arith, w.most); complete = λ ends. absurd ends }
    walk now m (x ∷ xs) last run call at w =
        elim (turn now x.after call x.event x.line run.0.happens at) [
          | inl quiet ↦
              subst (λ (o : Option (Outcome ℕ)). Kept b n call (with_reported o x.content (reports_to id xs))) (sym quiet.0)
              (walk x.after x.content xs last run.1 call quiet.1 w)
          | inr own ↦
              subst (λ (o : Option (Outcome ℕ)). Kept b n call (with_reported o x.content (reports_to id xs))) (sym own.reports)
              (walk_step x.after call own.out x.content (reports_to id xs) run.0.content w
              (walks_on (Unit {0}) same_number now x.after id call own.env own.report own.out a b n w own.report.kind (does now x.after call own.env own.report own.out at own.step))
              (λ next there v. walk x.after x.content xs last run.1 next there v)
              (λ next there is. silent x.after x.content xs last run.1 next there is))
        ]

    -- from its start on
    begins : (now : State ℕ) (m : Pairs ℕ) (xs : List Transition) (last : Pairs ℕ) (count : ℕ) → IsMachineRun now m xs last → lookup now.calls id ≡ Some (begun (Range a b n) count)
        → IsScan a b n (record { out = Going; content = m } ∷ reports_to id xs)
    begins now m xs last count run at =
        let op_is : (o : Op ℕ) → Some (Range a b n) ≡ Some o → o ≡ Range a b n = λ o e. sym (some_is (Range a b n) o e) in
        let w : IsWalking a b n (begun (Range a b n) count) = record { outline = refl; op = op_is; undecided = refl; order = omega arith; most = omega arith } in
        let kept = walk now m xs last run (begun (Range a b n) count) at w in
        record {
          was_stored = (tt, kept.was_stored);
          ascend = kept.ascend;
          at_most = omega (arith, kept.at_most);
          complete = λ ends key from to at_key.
              elim (kept.complete ends key from to at_key.1) [
                | inl found ↦ inl found
                | inr full ↦ inr (omega (arith, full))
              ];
        }

scans : (old : State ℕ) (event : Event ℕ) (line : Line) (new : State ℕ) (m : Pairs ℕ) (xs : List Transition) (last : Pairs ℕ) → Happens old event line new → IsMachineRun new m xs last → Scans event line m xs
scans old (Start id (Range a b n)) (Made report out seen) new m xs last h run =
    begins id a b n new m xs last old.count run (ap (λ (s : State ℕ). lookup s.calls id) h.1.0.after ∙ lookup-put_same old.calls id (begun (Range a b n) old.count))
scans old event line new m xs last h run = tt

-- EVERY RANGE of a run
pub all_scan : (old : State ℕ) (m : Pairs ℕ) (xs : List Transition) (n : Pairs ℕ) → IsMachineRun old m xs n → AllScan xs
all_scan old m [] n run = tt
all_scan old m (x ∷ xs) n run = (scans old x.event x.line x.after x.content xs n run.0.happens run.1, all_scan x.after x.content xs n run.1)
