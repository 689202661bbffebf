-- No step changes an obsolete node.
use Rattle.std.proofs.Common.{rules, ◌≡◌, ◌≢◌, ℕ, ◌+◌, Bool, true, false, ◌||◌, IsTrue, List, [], ◌∷◌, Option, Some, None, inl, inr, refl, sym, subst, ap, ◌∙◌, arith}
use Rattle.std.proofs.lemmas.Bool.Decides.{eqb_tells}
use Rattle.spec_map.proofs.MapLaws.{lookup-put_other, lookup-without_other}
use Rattle.spec_map.specs.Map.{lookup, put, without}
use Rattle.spec_node.specs.TableNode.{TableNode}
use Rattle.spec_olc.proofs.Standing.{by_ok, reads_same, hears_same}
use Rattle.spec_olc.proofs.Written.{write_keeps, taken}
use Rattle.spec_olc.specs.Kinds.{DoesAs}
use Rattle.spec_olc.specs.Lists.{is_in, without_all}
use Rattle.spec_olc.specs.Lock.{IsFree, IsObsolete}
use Rattle.spec_olc.specs.State.{State, CallState, VersionedNode, not_yet, retired, unlinked}
use Rattle.spec_olc.specs.WellFormed.{IsWellFormed}
use Rattle.spec_olc.specs.declared.types.Env.{Env}
use Rattle.spec_olc.specs.declared.types.Kind.TheVariants as kind
use Rattle.spec_olc.specs.declared.types.Kind.{Kind}
use Rattle.spec_olc.specs.declared.types.Outcome.{Outcome}
use Rattle.spec_olc.specs.declared.types.Report.{Report}

some_is : {X : Type 0} (x y : X) → Some x ≡ Some y → x ≡ y
some_is x y e = cc

no_some : {X : Type 0} (x : X) → None ≡ Some x → ⊥
no_some x e = cc

private_retired : (stamp : Option ℕ) → not_yet ≡ retired stamp → ⊥
private_retired stamp e = cc

false_if : (b : Bool) → (IsTrue b → ⊥) → b ≡ false
false_if true h = absurd (h refl)
false_if false h = refl

apart : (b : Bool) → b ≡ false → IsTrue b → ⊥
apart b e h = search rules

free_in_use : (word : ℕ) → IsFree word → IsObsolete word → ⊥
free_in_use word free obsolete = omega (arith, free, obsolete)

true_false : true ≡ false → ⊥
true_false e = cc

not_first : (s x : ℕ) (xs : List ℕ) → is_in s (x ∷ xs) ≡ false → (s ≢ x) × (is_in s xs ≡ false)
not_first s x xs h =
    elim (eqb_tells x s) [
      | inl at ↦ absurd (true_false (subst (λ b. (b || is_in s xs) ≡ false) at.0 h))
      | inr far ↦ ((λ e. far.1 (sym e)), subst (λ b. (b || is_in s xs) ≡ false) far.0 h)
    ]

module _ {M : Type 0} where
  not_given_back : (nodes : List (ℕ × VersionedNode M)) (slots : List ℕ) (s : ℕ) → is_in s slots ≡ false → lookup (without_all nodes slots) s ≡ lookup nodes s
  not_given_back nodes [] s h = refl
  not_given_back nodes (x ∷ xs) s h =
      not_given_back (without nodes x) xs s (not_first s x xs h).1 ∙ lookup-without_other nodes x s (not_first s x xs h).0

  module _ (Granted : Type 0) (same : M → M → Bool) (old new : State M) (id : ℕ) (call : CallState M) (env : Env M) (report : Report) (out : Outcome M)
      (w : IsWellFormed old) (f : lookup old.calls id ≡ Some call) (s : ℕ) (a : VersionedNode M) (here : lookup old.nodes s ≡ Some a) (obsolete : IsObsolete a.word) where
    not_held : is_in s call.held ≡ false
    not_held = false_if (is_in s call.held) (λ mine. ((w.kept s a here).holds id (record { call = call; in_flight = f; mine = mine })).2 obsolete)

    not_made : is_in s call.made ≡ false
    not_made = false_if (is_in s call.made) (λ mine.
        let k : (n : TableNode M) × (lookup old.nodes s ≡ Some (unlinked n)) = w.made id s (record { call = call; in_flight = f; mine = mine }) in
        let r : (stamp : Option ℕ) × (a.lifetime ≡ retired stamp) = (w.kept s a here).obsolete_retired obsolete in
        private_retired r.0 (ap (λ (n : VersionedNode M). n.lifetime) (sym (some_is a (unlinked k.0) (sym here ∙ k.1))) ∙ r.1))

    held_elsewhere : (slot : ℕ) (x : VersionedNode M) → IsTrue (is_in slot call.held) → lookup (put old.nodes slot x) s ≡ Some a
    held_elsewhere slot x mine = lookup-put_other old.nodes slot x s (λ e. apart (is_in slot call.held) (ap (λ n. is_in n call.held) (sym e) ∙ not_held) mine) ∙ here

    at : (base : State M) → new.nodes ≡ base.nodes → lookup base.nodes s ≡ Some a → lookup new.nodes s ≡ Some a
    at base is there = ap (λ ns. lookup ns s) is ∙ there

    pub obsolete_stays : (k : Kind) → DoesAs Granted same old new id call env report out k → lookup new.nodes s ≡ Some a
    obsolete_stays kind.Start d = absurd d
    obsolete_stays kind.Take d = at old (ap (λ (t : State M). t.nodes) d.1.becomes.after) here
    obsolete_stays kind.Check d = at old (ap (λ (t : State M). t.nodes) d.1.becomes.after) here
    obsolete_stays kind.Read d = at old (reads_same Granted same old new id call env report out d.1.knows.node.node d.1.whole out d.1.sees) here
    obsolete_stays kind.Upgrade d =
        by_ok report.ok
        (λ good. ap (λ (t : State M). lookup t.nodes s) (d.1.locks good).after
        ∙ (lookup-put_other old.nodes d.1.knows.slot (record d.1.knows.node { word = d.1.knows.node.word + 2 }) s
        (λ e. free_in_use a.word (subst (λ (n : VersionedNode M). IsFree n.word) (some_is d.1.knows.node a (sym d.1.knows.here ∙ (ap (lookup old.nodes) (sym e) ∙ here))) (d.1.ok.0 good).0.free) obsolete) ∙ here))
        (λ bad. at old (ap (λ (t : State M). t.nodes) (d.1.fails bad).after) here)
    obsolete_stays kind.Make (t, may, inl d) =
        ap (λ (t : State M). lookup t.nodes s) d.becomes.after
        ∙ (lookup-put_other old.nodes d.slot _ s (λ e. no_some a (sym d.free ∙ (ap (lookup old.nodes) (sym e) ∙ here))) ∙ here)
    obsolete_stays kind.Make (t, may, inr d) = ap (λ (t : State M). lookup t.nodes s) d.becomes.after ∙ (not_given_back old.nodes call.made s not_made ∙ here)
    obsolete_stays kind.Write d =
        write_keeps Granted same old new id call env report out s d.1
        (λ e. apart (is_in d.1.held.slot call.held) (ap (λ n. is_in n call.held) (sym e) ∙ not_held) d.1.held.mine)
        not_made
        (λ b is. apart (is_in s call.held) not_held (taken old call s b _ d.1.child d.1.gone d.1.takes_out is).1)
        ∙ here
    obsolete_stays kind.Obsolete d = ap (λ (t : State M). lookup t.nodes s) d.becomes.after ∙ held_elsewhere d.held.slot _ d.held.mine
    obsolete_stays kind.Unlock d = ap (λ (t : State M). lookup t.nodes s) d.becomes.after ∙ held_elsewhere d.held.slot _ d.held.mine
    obsolete_stays kind.Answer d = at old (hears_same Granted same old new id call env report out d.1.asked out d.1.hears) here
    obsolete_stays kind.Finish d = at old (ap (λ (t : State M). t.nodes) d.after) here
    obsolete_stays kind.Reclaim d = absurd d
