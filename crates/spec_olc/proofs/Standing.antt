-- Which nodes stay private, and which may be upgraded.
use Rattle.std.proofs.Common.{◌≡◌, ℕ, ◌+◌, Bool, true, false, IsTrue, List, [], ◌∷◌, Option, Some, None, inl, inr, refl, sym, subst, ap, ◌∙◌, arith}
use Rattle.std.proofs.lemmas.Bool.Decides.{eqb_tells}
use Rattle.spec_map.proofs.MapLaws.{lookup-put_same, lookup-put_other, lookup-without_same, lookup-without_other, Rises-without}
use Rattle.spec_map.specs.Map.{lookup, put, without, Rises}
use Rattle.spec_node.specs.TableNode.{TableNode}
use Rattle.spec_olc.specs.declared.types.Outcome.TheVariants as outcome
use Rattle.spec_olc.specs.Kinds.{ReadOutcome, AnswerOutcome, Upgrades, DoesAs}
use Rattle.spec_olc.specs.Lists.{without_all}
use Rattle.spec_olc.specs.Lock.{IsFree, IsObsolete}
use Rattle.spec_olc.specs.State.{State, CallState, VersionedNode, Lifetime, not_yet, published}
use Rattle.spec_olc.specs.WellFormed.{IsWellFormed}
use Rattle.spec_olc.specs.Writing.{HeldNode}
use Rattle.spec_olc.specs.declared.types.Env.{Env}
use Rattle.spec_olc.specs.declared.types.Kind.TheVariants as kind
use Rattle.spec_olc.specs.declared.types.Kind.{Kind}
use Rattle.spec_olc.specs.declared.types.Outcome.{Outcome}
use Rattle.spec_olc.specs.declared.types.Report.{Report}

pub by_ok : {X : Type 0} → (ok : Bool) → (IsTrue ok → X) → (ok ≡ false → X) → X
by_ok true good bad = good refl
by_ok false good bad = bad refl

no_some : {X : Type 0} (x : X) → None ≡ Some x → ⊥
no_some x e = cc

some_is : {X : Type 0} (x y : X) → Some x ≡ Some y → x ≡ y
some_is x y e = cc

public_private : published ≡ not_yet → ⊥
public_private e = cc

module _ {M : Type 0} where
  -- the slot has a node with this lifetime, or is free
  abbrev pub Stays : List (ℕ × VersionedNode M) → ℕ → Lifetime → Type 0
  Stays nodes s p = (b : VersionedNode M) → lookup nodes s ≡ Some b → b.lifetime ≡ p

  put_stays : (nodes : List (ℕ × VersionedNode M)) (slot s : ℕ) (x a : VersionedNode M) → lookup nodes s ≡ Some a → (s ≡ slot → x.lifetime ≡ a.lifetime) → Stays (put nodes slot x) s a.lifetime
  put_stays nodes slot s x a here same b there =
      elim (eqb_tells s slot) [
        | inl at ↦
            let x_is : x ≡ b = some_is x b (sym (lookup-put_same nodes slot x) ∙ (ap (lookup (put nodes slot x)) (sym at.1) ∙ there)) in
            sym (ap (λ (n : VersionedNode M). n.lifetime) x_is) ∙ same at.1
        | inr far ↦ ap (λ (n : VersionedNode M). n.lifetime) (sym (some_is a b (sym here ∙ (sym (lookup-put_other nodes slot x s far.1) ∙ there))))
      ]

  same_stays : (old nodes : List (ℕ × VersionedNode M)) (s : ℕ) (a : VersionedNode M) → lookup old s ≡ Some a → nodes ≡ old → Stays nodes s a.lifetime
  same_stays old nodes s a here is b there = ap (λ (n : VersionedNode M). n.lifetime) (sym (some_is a b (sym here ∙ (ap (λ ns. lookup ns s) (sym is) ∙ there))))

  gone_or_same : (low high : ℕ) (nodes : List (ℕ × VersionedNode M)) (slots : List ℕ) (s : ℕ) (b : VersionedNode M) → Rises low high nodes → lookup (without_all nodes slots) s ≡ Some b → lookup nodes s ≡ Some b
  gone_or_same low high nodes [] s b r there = there
  gone_or_same low high nodes (k ∷ ks) s b r there =
      let one : lookup (without nodes k) s ≡ Some b = gone_or_same low high (without nodes k) ks s b (Rises-without low high nodes k r) there in
      elim (eqb_tells s k) [
        | inl at ↦ absurd (no_some b (sym (lookup-without_same low high nodes k r) ∙ (ap (lookup (without nodes k)) (sym at.1) ∙ one)))
        | inr far ↦ sym (lookup-without_other nodes k s far.1) ∙ one
      ]

  module _ (Granted : Type 0) (same : M → M → Bool) (old new : State M) (id : ℕ) (call : CallState M) (env : Env M) (report : Report) (out : Outcome M) where
    -- a held node is published
    held_public : IsWellFormed old → lookup old.calls id ≡ Some call → (h : HeldNode old call) → h.node.lifetime ≡ published
    held_public w in_flight h = ((w.kept h.slot h.node h.here).holds id (record { call = call; in_flight = in_flight; mine = h.mine })).0

    -- a Read and an Answer leave the nodes unchanged
    pub reads_same : (node : TableNode M) (whole : Bool) (o : Outcome M) → ReadOutcome Granted same old new id call env report out node whole o → new.nodes ≡ old.nodes
    reads_same node true outcome.Going d = ap (λ (t : State M). t.nodes) d.2.after
    reads_same node true outcome.Refused d = ap (λ (t : State M). t.nodes) d.3.becomes.after
    reads_same node false outcome.Going d = ap (λ (t : State M). t.nodes) d.after
    reads_same node whole _ d = absurd d

    pub hears_same : (asked : Option M) (o : Outcome M) → AnswerOutcome Granted same old new id call env report out asked o → new.nodes ≡ old.nodes
    hears_same asked outcome.Going d = ap (λ (t : State M). t.nodes) d.after
    hears_same asked outcome.Refused d = ap (λ (t : State M). t.nodes) d.2.becomes.after
    hears_same asked _ d = absurd d

    pub private_stays : IsWellFormed old → lookup old.calls id ≡ Some call → (s : ℕ) (a : VersionedNode M) → lookup old.nodes s ≡ Some a → a.lifetime ≡ not_yet
        → (k : Kind) → (k ≡ kind.Write → ⊥) → DoesAs Granted same old new id call env report out k → Stays new.nodes s a.lifetime
    private_stays w f s a here p kind.Start nay d = absurd d
    private_stays w f s a here p kind.Take nay d = same_stays old.nodes new.nodes s a here (ap (λ (t : State M). t.nodes) d.1.becomes.after)
    private_stays w f s a here p kind.Check nay d = same_stays old.nodes new.nodes s a here (ap (λ (t : State M). t.nodes) d.1.becomes.after)
    private_stays w f s a here p kind.Read nay d = same_stays old.nodes new.nodes s a here (reads_same d.1.knows.node.node d.1.whole out d.1.sees)
    private_stays w f s a here p kind.Upgrade nay d = λ b there.
        by_ok report.ok
        (λ good. put_stays old.nodes d.1.knows.slot s (record d.1.knows.node { word = d.1.knows.node.word + 2 }) a here (λ e. ap (λ (n : VersionedNode M). n.lifetime) (some_is d.1.knows.node a (sym d.1.knows.here ∙ (ap (lookup old.nodes) (sym e) ∙ here)))) b (ap (λ (t : State M). lookup t.nodes s) (sym (d.1.locks good).after) ∙ there))
        (λ bad. same_stays old.nodes new.nodes s a here (ap (λ (t : State M). t.nodes) (d.1.fails bad).after) b there)
    private_stays w f s a here p kind.Make nay (t, may, inl d) = λ b there.
        put_stays old.nodes d.slot s _ a here (λ e. absurd (no_some a (sym d.free ∙ (ap (lookup old.nodes) (sym e) ∙ here)))) b (ap (λ (t : State M). lookup t.nodes s) (sym d.becomes.after) ∙ there)
    private_stays w f s a here p kind.Make nay (t, may, inr d) = λ b there.
        same_stays old.nodes old.nodes s a here refl b (gone_or_same 0 _ old.nodes call.made s b w.nodes (ap (λ (t : State M). lookup t.nodes s) (sym d.becomes.after) ∙ there))
    private_stays w f s a here p kind.Write nay d = absurd (nay refl)
    private_stays w f s a here p kind.Obsolete nay d = λ b there.
        put_stays old.nodes d.held.slot s _ a here (λ e. absurd (public_private (sym (held_public w f d.held) ∙ (ap (λ (n : VersionedNode M). n.lifetime) (some_is d.held.node a (sym d.held.here ∙ (ap (lookup old.nodes) (sym e) ∙ here))) ∙ p)))) b (ap (λ (t : State M). lookup t.nodes s) (sym d.becomes.after) ∙ there)
    private_stays w f s a here p kind.Unlock nay d = λ b there.
        put_stays old.nodes d.held.slot s _ a here (λ e. ap (λ (n : VersionedNode M). n.lifetime) (some_is d.held.node a (sym d.held.here ∙ (ap (lookup old.nodes) (sym e) ∙ here)))) b (ap (λ (t : State M). lookup t.nodes s) (sym d.becomes.after) ∙ there)
    private_stays w f s a here p kind.Answer nay d = same_stays old.nodes new.nodes s a here (hears_same d.1.asked out d.1.hears)
    private_stays w f s a here p kind.Finish nay d = same_stays old.nodes new.nodes s a here (ap (λ (t : State M). t.nodes) d.after)
    private_stays w f s a here p kind.Reclaim nay d = absurd d

    free_in_use : (word : ℕ) → IsFree word → IsObsolete word → ⊥
    free_in_use word free obsolete = omega (arith, free, obsolete)

    pub upgrade_in_use : Upgrades Granted same old new id call env report out → (slot : ℕ) (a : VersionedNode M) → report.slot ≡ Some slot → report.ok ≡ true → lookup old.nodes slot ≡ Some a → IsObsolete a.word → ⊥
    upgrade_in_use u slot a at ok here obsolete =
        let slot_is : u.knows.slot ≡ slot = some_is u.knows.slot slot (sym (ap (λ (r : Report). r.slot) u.reports.0) ∙ at) in
        let node_is : u.knows.node ≡ a = some_is u.knows.node a (sym u.knows.here ∙ (ap (lookup old.nodes) slot_is ∙ here)) in
        let may : IsTrue report.ok = subst IsTrue (sym ok) refl in
        free_in_use u.knows.node.word (subst IsFree (sym (u.ok.0 may).0.same) (subst IsFree ((u.ok.0 may).0.same) (u.ok.0 may).0.free)) (subst (λ (n : VersionedNode M). IsObsolete n.word) (sym node_is) obsolete)
