-- A step of a range leaves the nodes, the number of pairs and the charge unchanged.
use Rattle.std.proofs.Common.{◌≡◌, ◌≢◌, ℕ, ◌+◌, Bool, true, false, IsTrue, List, [], Option, Some, if◌then◌else◌, inl, inr, refl, sym, subst, ap, ◌∙◌}
use Rattle.spec_map.specs.Map.{lookup, put}
use Rattle.spec_node.specs.TableNode.{TableNode}
use Rattle.spec_olc.specs.Calls.{IsPoint, Outline}
use Rattle.spec_olc.specs.Kinds.{NextIs, Checks, DoesAs, CheckOutcome, AnswerOutcome, IsStep, ReadOutcome, failed}
use Rattle.spec_olc.specs.Lists.{is_in}
use Rattle.spec_olc.specs.Reading.{GoesOn, LooksOn, Remembered}
use Rattle.spec_olc.specs.State.{CallState, LeavesNodes, State}
use Rattle.spec_olc.specs.declared.types.Env.{Env}
use Rattle.spec_olc.specs.declared.types.Kind.TheVariants as kind
use Rattle.spec_olc.specs.declared.types.Kind.{Kind}
use Rattle.spec_olc.specs.declared.types.Op.TheVariants.{Range}
use Rattle.spec_olc.specs.declared.types.Outcome.TheVariants as outcome
use Rattle.spec_olc.specs.declared.types.Outcome.{Outcome}
use Rattle.spec_olc.specs.declared.types.Report.{Report}
use Rattle.spec_olc.proofs.Steps.{call_after, failed_keeps}

some_is : {X : Type 0} (x y : X) → Some x ≡ Some y → x ≡ y
some_is x y e = cc

none_in : (slot : ℕ) → IsTrue (is_in slot []) → ⊥
none_in slot mine = cc

not_held : (held : List ℕ) (slot : ℕ) → held ≡ [] → IsTrue (is_in slot held) → ⊥
not_held held slot none mine = none_in slot (subst (λ (l : List ℕ). IsTrue (is_in slot l)) none mine)

module _ {M : Type 0} where
  goes_held : (call next : CallState M) → GoesOn call next → next.held ≡ call.held
  goes_held call next h = elim h [ inl on ↦ ap (λ (f : CallState M). f.held) on | inr over ↦ ap (λ (f : CallState M). f.held) over ]

  looks_held : (o : Outline) (s : State M) (call : CallState M) (a : Remembered s call) (next : CallState M) → LooksOn o s call a next → next.held ≡ call.held
  looks_held (Range start end n) s call a next h = goes_held (record call { cursor = h.cursor; reach = h.reach }) next h.next_is
  looks_held o s call a next h = elim h [ inl on ↦ ap (λ (f : CallState M). f.held) on | inr over ↦ ap (λ (f : CallState M). f.held) over.0 ]

  module _ (Granted : Type 0) (same : M → M → Bool) (old new : State M) (id : ℕ) (call : CallState M) (env : Env M) (report : Report) (out : Outcome M)
      (range : IsPoint call.outline → ⊥) (none : call.held ≡ []) where
    finds_held : (a : Remembered old call) (next : CallState M) (o : Outcome M) → CheckOutcome Granted same old call a next o → next.held ≡ call.held
    finds_held a next outcome.Going h = looks_held call.outline old call a next h
    finds_held a next (outcome.Ask asked) h = ap (λ (f : CallState M). f.held) h.2
    finds_held a next (outcome.Pair key value) h = goes_held (record call { cursor = key + 1; reach = key + 1; given = call.given + 1 }) next h.next_is
    finds_held a next (outcome.Decided reply) h = ap (λ (f : CallState M). f.held) h.2
    finds_held a next _ h = absurd h

    -- the nodes are unchanged, and a range that goes on holds none
    abbrev pub Leaves : Type 0
    Leaves = LeavesNodes old new × (out ≢ outcome.Done → (next : CallState M) → lookup new.calls id ≡ Some next → next.held ≡ [])

    leaves : (planned : CallState M) → NextIs Granted same old new id call env report out old planned → planned.held ≡ call.held → Leaves
    leaves planned b held = (
      (ap (λ (s : State M). s.nodes) b.after, ap (λ (s : State M). s.entries) b.after, ap (λ (s : State M). s.charge) b.after),
      λ going next here.
          let one : b.next ≡ next = call_after old new id b.next next b.after here in
          sym (ap (λ (f : CallState M). f.held) one) ∙ (ap (λ (f : CallState M). f.held) b.is ∙ (held ∙ none)),
    )

    taken_held : (ok : Bool) (slot word : ℕ) → (if ok then record call { remembered = put call.remembered slot word } else failed call.progress call).held ≡ call.held
    taken_held true slot word = refl
    taken_held false slot word = (failed_keeps call.progress call).0

    checked_held : (ok : Bool) (c : Checks Granted same old new id call env report out) → report.ok ≡ ok → c.planned.held ≡ call.held
    checked_held true c e = finds_held c.knows c.planned out (c.passes (subst (λ (z : Bool). IsTrue z) (sym e) refl))
    checked_held false c e = ap (λ (f : CallState M). f.held) (c.fails e).1 ∙ (failed_keeps call.progress call).0

    reads : (node : TableNode M) (whole : Bool) (o : Outcome M) → ReadOutcome Granted same old new id call env report out node whole o → Leaves
    reads node true outcome.Going d = leaves _ d.2 refl
    reads node true outcome.Refused d = leaves _ d.3.becomes refl
    reads node false outcome.Going d = leaves _ d refl
    reads node whole _ d = absurd d

    hears : (asked : Option M) (o : Outcome M) → AnswerOutcome Granted same old new id call env report out asked o → Leaves
    hears asked outcome.Going d = leaves _ d refl
    hears asked outcome.Refused d = leaves _ d.2.becomes refl
    hears asked _ d = absurd d

    pub nodes_stay : (k : Kind) → DoesAs Granted same old new id call env report out k → Leaves
    nodes_stay kind.Start d = absurd d
    nodes_stay kind.Take d = leaves _ d.1.becomes (taken_held report.ok d.1.slot d.1.node.word)
    nodes_stay kind.Check d = leaves _ d.1.becomes (checked_held report.ok d.1 refl)
    nodes_stay kind.Read d = reads d.1.knows.node.node d.1.whole out d.1.sees
    nodes_stay kind.Upgrade d = absurd (range d.1.point)
    nodes_stay kind.Make d = absurd (range d.1.0)
    nodes_stay kind.Write d = absurd (not_held call.held d.1.held.slot none d.1.held.mine)
    nodes_stay kind.Obsolete d = absurd (not_held call.held d.held.slot none d.held.mine)
    nodes_stay kind.Unlock d = absurd (not_held call.held d.held.slot none d.held.mine)
    nodes_stay kind.Answer d = hears d.1.asked out d.1.hears
    nodes_stay kind.Finish d = (
      (ap (λ (s : State M). s.nodes) d.after, ap (λ (s : State M). s.entries) d.after, ap (λ (s : State M). s.charge) d.after),
      λ going. absurd (going d.reports.1),
    )
    nodes_stay kind.Reclaim d = absurd d

  pub range_leaves : (Granted : Type 0) (same : M → M → Bool) (old new : State M) (id : ℕ) (call : CallState M) (env : Env M) (report : Report) (out : Outcome M)
      → (IsPoint call.outline → ⊥) → call.held ≡ [] → lookup old.calls id ≡ Some call → IsStep Granted same old new id env report out
      → LeavesNodes old new × (out ≢ outcome.Done → (next : CallState M) → lookup new.calls id ≡ Some next → next.held ≡ [])
  range_leaves Granted same old new id call env report out range none here step =
      let one : step.call ≡ call = some_is step.call call (sym step.in_flight ∙ here) in
      nodes_stay Granted same old new id call env report out range none report.kind
      (subst (λ (f : CallState M). DoesAs Granted same old new id f env report out report.kind) one step.event)
