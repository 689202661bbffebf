-- The nodes after a Write.
use Rattle.std.proofs.Common.{rules, ◌≡◌, ◌≢◌, ℕ, Bool, true, false, IsTrue, List, [], ◌∷◌, Option, Some, None, if◌then◌else◌, ◌==◌, inl, inr, refl, sym, subst, ap, ◌∙◌}
use Rattle.std.proofs.lemmas.Bool.Decides.{eqb_tells}
use Rattle.spec_map.proofs.MapLaws.{lookup-put_same, lookup-put_other}
use Rattle.spec_map.specs.Map.{lookup, put}
use Rattle.spec_node.specs.TableNode.{Child}
use Rattle.spec_node.specs.declared.child.Child.TheVariants.{Payload, Node as node}
use Rattle.spec_olc.specs.Kinds.{Writes}
use Rattle.spec_olc.specs.Lists.{is_in}
use Rattle.spec_olc.specs.State.{State, CallState, VersionedNode, publish}
use Rattle.spec_olc.specs.Writing.{linked, emptied, changed, entry_below, with_children, TakesOut}
use Rattle.spec_olc.specs.declared.types.Env.{Env}
use Rattle.spec_olc.specs.declared.types.Outcome.{Outcome}
use Rattle.spec_olc.specs.declared.types.Report.{Report}

no_some : {X : Type 0} (x : X) → None ≡ Some x → ⊥
no_some x e = cc

some_is : {X : Type 0} (x y : X) → Some x ≡ Some y → x ≡ y
some_is x y e = cc

apart : (b : Bool) → b ≡ false → IsTrue b → ⊥
apart b e h = search rules

slot_is : {X : Type 0} (slot s : ℕ) (a b : X) → ◌≡◌ {A = Option (ℕ × X)} (Some (slot, a)) (Some (s, b)) → slot ≡ s
slot_is slot s a b e = ap (λ p. p.0) (some_is (slot, a) (s, b) e)

none_taken : {X : Type 0} (g : Option X) (x : X) → g ≡ None → g ≡ Some x → ⊥
none_taken g x e is = no_some x (sym e ∙ is)

module _ {M : Type 0} where
  look : (b : Bool) (e : ℕ × VersionedNode M) (rest : List (ℕ × VersionedNode M)) (s : ℕ)
      → lookup ((if b then (e.0, publish e.1) else e) ∷ rest) s ≡ (if e.0 == s then Some (if b then publish e.1 else e.1) else lookup rest s)
  look true e rest s = refl
  look false e rest s = refl

  linked_other : (made : List ℕ) (nodes : List (ℕ × VersionedNode M)) (s : ℕ) → is_in s made ≡ false → lookup (linked made nodes) s ≡ lookup nodes s
  linked_other made [] s h = refl
  linked_other made (e ∷ es) s h =
      look (is_in e.0 made) e (linked made es) s
      ∙ elim (eqb_tells e.0 s) [
        | inl at ↦ rw at.0 (ap (λ b. Some (if b then publish e.1 else e.1)) (ap (λ n. is_in n made) at.1 ∙ h))
        | inr far ↦ rw far.0 (linked_other made es s h)
      ]

  linked_mine : (made : List ℕ) (nodes : List (ℕ × VersionedNode M)) (s : ℕ) (a : VersionedNode M) → is_in s made ≡ true → lookup nodes s ≡ Some a → lookup (linked made nodes) s ≡ Some (publish a)
  linked_mine made [] s a h here = absurd (no_some a here)
  linked_mine made (e ∷ es) s a h here =
      look (is_in e.0 made) e (linked made es) s
      ∙ elim (eqb_tells e.0 s) [
        | inl at ↦
            let node_is : e.1 ≡ a = some_is e.1 a (subst (λ b. (if b then Some e.1 else lookup es s) ≡ Some a) at.0 here) in
            rw at.0 (ap (λ b. Some (if b then publish e.1 else e.1)) (ap (λ n. is_in n made) at.1 ∙ h) ∙ ap (λ n. Some (publish n)) node_is)
        | inr far ↦ rw far.0 (linked_mine made es s a h (subst (λ b. (if b then Some e.1 else lookup es s) ≡ Some a) far.0 here))
      ]

  emptied_other : (gone : Option (ℕ × VersionedNode M)) (nodes : List (ℕ × VersionedNode M)) (s : ℕ) → ((a : VersionedNode M) → gone ≡ Some (s, a) → ⊥) → lookup (emptied gone nodes) s ≡ lookup nodes s
  emptied_other None nodes s kept = refl
  emptied_other (Some (slot, a)) nodes s kept = lookup-put_other nodes slot (with_children a []) s (λ e. kept a (ap (λ n. Some (n, a)) (sym e)))

  -- the node that a Write takes out was the entry, and is held
  pub taken : (old : State M) (call : CallState M) (s : ℕ) (b : VersionedNode M) (was child : Option (Child M)) (out : Option (ℕ × VersionedNode M))
      → TakesOut old call was child out → out ≡ Some (s, b) → (was ≡ Some (node s)) × IsTrue (is_in s call.held)
  taken old call s b None child out t is = absurd (none_taken out (s, b) t is)
  taken old call s b (Some (Payload v)) child out t is = absurd (none_taken out (s, b) t is)
  taken old call s b (Some (node slot)) (Some c) out t is = absurd (none_taken out (s, b) t is)
  taken old call s b (Some (node slot)) None out t is =
      let at : slot ≡ s = slot_is slot s t.0.node b (sym t.2 ∙ is) in (ap (λ n. Some (node n)) at, subst (λ n. IsTrue (is_in n call.held)) (t.1 ∙ at) t.0.mine)

  module _ (Granted : Type 0) (same : M → M → Bool) (old new : State M) (id : ℕ) (call : CallState M) (env : Env M) (report : Report) (out : Outcome M) (s : ℕ) where
    -- the nodes after a Write
    after_write : (w : Writes Granted same old new id call env report out) → lookup new.nodes s ≡ lookup (emptied w.gone (linked call.made (put old.nodes w.held.slot (changed call w.held.node w.child)))) s
    after_write w = ap (λ (t : State M). lookup t.nodes s) w.becomes.after

    pub write_keeps : (w : Writes Granted same old new id call env report out) → s ≢ w.held.slot → is_in s call.made ≡ false → ((a : VersionedNode M) → w.gone ≡ Some (s, a) → ⊥)
        → lookup new.nodes s ≡ lookup old.nodes s
    write_keeps w other not_made kept =
        after_write w
        ∙ (emptied_other w.gone (linked call.made (put old.nodes w.held.slot (changed call w.held.node w.child))) s kept
        ∙ (linked_other call.made (put old.nodes w.held.slot (changed call w.held.node w.child)) s not_made
        ∙ lookup-put_other old.nodes w.held.slot (changed call w.held.node w.child) s other))

    pub write_publishes : (w : Writes Granted same old new id call env report out) → (a : VersionedNode M) → is_in s call.made ≡ true → is_in s call.held ≡ false → lookup old.nodes s ≡ Some a
        → lookup new.nodes s ≡ Some (publish a)
    write_publishes w a mine not_held here =
        after_write w
        ∙ (emptied_other w.gone (linked call.made (put old.nodes w.held.slot (changed call w.held.node w.child))) s
        (λ b is. apart (is_in s call.held) not_held (taken old call s b (entry_below call w.held.node) w.child w.gone w.takes_out is).1)
        ∙ linked_mine call.made (put old.nodes w.held.slot (changed call w.held.node w.child)) s a mine
        (lookup-put_other old.nodes w.held.slot (changed call w.held.node w.child) s (λ e. apart (is_in w.held.slot call.held) (ap (λ n. is_in n call.held) (sym e) ∙ not_held) w.held.mine) ∙ here))

    pub write_empties : (w : Writes Granted same old new id call env report out) → (a : VersionedNode M) → w.gone ≡ Some (s, a)
        → (entry_below call w.held.node ≡ Some (node s)) × IsTrue (is_in s call.held) × (lookup new.nodes s ≡ Some (with_children a []))
    write_empties w a is = (
      (taken old call s a (entry_below call w.held.node) w.child w.gone w.takes_out is).0,
      (taken old call s a (entry_below call w.held.node) w.child w.gone w.takes_out is).1,
      after_write w
          ∙ (ap (λ (g : Option (ℕ × VersionedNode M)). lookup (emptied g (linked call.made (put old.nodes w.held.slot (changed call w.held.node w.child)))) s) is
          ∙ lookup-put_same (linked call.made (put old.nodes w.held.slot (changed call w.held.node w.child))) s (with_children a [])),
    )
