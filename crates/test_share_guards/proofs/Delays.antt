-- What is known of a number whose call is delayed.
use Rattle.std.proofs.Common.{◌≡◌, ℕ, Bool, cond, Option, Some, None, refl, sym, subst, eq-eqb}
use Rattle.spec_olc.specs.Calls.{Outline}
use Rattle.spec_olc.specs.declared.types.Kind.{Kind}
use Rattle.spec_olc.specs.declared.types.Outcome.{Outcome}
use Rattle.share_backend.specs.Stages.{IsOf, Turns}
use Rattle.share_backend.specs.declared.lent.CallStage.{CallStage}
use Rattle.share_backend.specs.declared.lent.CallStage.TheVariants as call
use Rattle.test_share_guards.specs.Delays.{if_ready, placed, stage_by}
use Rattle.test_share_guards.specs.declared.delay.Delayed.{Delayed}

some_is : {X : Type 0} (x y : X) → Some x ≡ Some y → x ≡ y
some_is x y e = cc

none_some : {X : Type 0} (x : X) → None ≡ Some x → ⊥
none_some x e = cc

module _ {M : Type 0} (o : Outline) (p : CallStage M) (is_of : IsOf o p) where
  lost : Some call.Lost ≡ Some p → ⊥
  lost e = subst (λ (q : CallStage M). IsOf o q) (sym (some_is call.Lost p e)) is_of

  -- a call in flight was known as ready below
  ready : (stage : CallStage M) (below : Option (CallStage M)) → if_ready below stage ≡ Some p → (below ≡ Some call.Ready) × (stage ≡ p)
  ready stage None e = absurd (none_some p e)
  ready stage (Some call.Ready) e = (refl, some_is stage p e)
  ready stage (Some (call.Running u op s)) e = absurd (lost e)
  ready stage (Some (call.Settled u)) e = absurd (lost e)
  ready stage (Some (call.Denied u)) e = absurd (lost e)
  ready stage (Some call.Lost) e = absurd (lost e)

  pub turned : (meaning : ℕ → M) (was : Option Delayed) (d : Delayed) (id : ℕ) (below : Option (CallStage M)) (answer : Option M) (k : Kind)
      (q : Option (CallStage M)) (u : Outcome M) → was ≡ Some d → d.id ≡ id → placed meaning was id below ≡ Some p
      → (below ≡ Some call.Ready → Turns (stage_by meaning d.op d.stage) answer k q u) → Turns p answer k q u
  turned meaning was d id below answer k q u is same known turns =
      let stage = stage_by meaning d.op d.stage in
      let at = subst (λ (w : Option Delayed). placed meaning w id below ≡ Some p) is known in
      let both = ready stage below (subst (λ (b : Bool). cond b (if_ready below stage) below ≡ Some p) (eq-eqb d.id id same) at) in
      subst (λ (s : CallStage M). Turns s answer k q u) both.1 (turns both.0)
