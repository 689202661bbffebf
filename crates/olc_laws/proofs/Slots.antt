-- What an event does to one slot, seen by the calls that it isn't an event of.
use Rattle.std.proofs.Common.{◌≡◌, ℕ, ◌≤◌, Option, Some, None, ◌⊎◌, inl, inr, refl, sym, subst, ap, ◌∙◌, arith}
use Rattle.spec_olc.specs.Lock.{IsFree, IsLocked, IsObsolete}
use Rattle.olc_state.specs.inner.World.{is_private, is_linked, is_detached, is_retired, PlacedNode, NodeMap}
use Rattle.olc_state.specs.inner.Tables.{IsSafe, Kept, Remains, NeedsHolder}
use Rattle.olc_state.proofs.Options.{some_same, none_some}
use Rattle.olc_state.proofs.Unlike.{linked_private, linked_retired, private_retired, detached_retired}
use Rattle.olc_laws.proofs.Trees.{IsWorded}

pub free_obsolete : (word : ℕ) → IsFree word → IsObsolete word → ⊥
free_obsolete word free obsolete = omega (arith, free, obsolete)

pub free_locked : (word : ℕ) → IsFree word → IsLocked word → ⊥
free_locked word free locked = omega (arith, free, locked)

pub detached_private : is_detached ≡ is_private → ⊥
detached_private e = cc

pub retired_private : (stamp : Option ℕ) → is_retired stamp ≡ is_private → ⊥
retired_private stamp e = cc

module _ {M : Type 0} where
  -- a node that isn't retired isn't obsolete
  pub unretired : (a : PlacedNode M) → IsWorded a → ((stamp : Option ℕ) → a.lifetime ≡ is_retired stamp → ⊥) → IsObsolete a.word → ⊥
  unretired a w not o = let r = w.obsolete.0 o in not r.0 r.1

  -- a node that is linked or private, and not obsolete
  pub worded_here : (a : PlacedNode M) → (a.lifetime ≡ is_linked) ⊎ (a.lifetime ≡ is_private) → (IsObsolete a.word → ⊥) → IsWorded a
  worded_here a at fresh = record {
    free = λ f. at;
    locked = λ o. absurd (fresh o);
    obsolete = (
      (λ (o : IsObsolete a.word). absurd (fresh o)),
      (λ r. absurd (elim at [
        | inl e ↦ linked_retired r.0 (sym e ∙ r.1)
        | inr e ↦ private_retired r.0 (sym e ∙ r.1)
      ])),
    );
  }

  -- a detached node, locked and not obsolete
  pub worded_detached : (a : PlacedNode M) → a.lifetime ≡ is_detached → IsLocked a.word → (IsObsolete a.word → ⊥) → IsWorded a
  worded_detached a at locked fresh = record {
    free = λ f. absurd (free_locked a.word f locked);
    locked = λ o. locked;
    obsolete = ((λ (o : IsObsolete a.word). absurd (fresh o)), (λ r. absurd (detached_retired r.0 (sym at ∙ r.1))));
  }

  -- what an event whose call has these nodes does to one slot: the word still agrees with the node's state, calls with
  -- these pins keep what they know of the node, and a private node of another call stays
  pub record StepsAt (t t' : NodeMap M) (Mine May : ℕ → Type 0) (s : ℕ) : Type 0 where
    pub worded : (b : PlacedNode M) → t' s ≡ Some b → IsWorded b
    pub remains : (pin : ℕ) → May pin → (a : PlacedNode M) → t s ≡ Some a → IsSafe pin a.lifetime → Remains t' Mine pin s a
    pub stays : (a : PlacedNode M) → t s ≡ Some a → a.lifetime ≡ is_private → (Mine s → ⊥) → t' s ≡ Some a

  pub kept_itself : (pin : ℕ) (a : PlacedNode M) → IsSafe pin a.lifetime → Kept pin a a
  kept_itself pin a safe = record { prefix = refl; word = omega arith; same = λ f e. refl; safe = safe }

  module _ (t t' : NodeMap M) (Mine May : ℕ → Type 0) (s : ℕ) where
    -- a slot that stays
    pub untouched : t' s ≡ t s → ((a : PlacedNode M) → t s ≡ Some a → IsWorded a) → StepsAt t t' Mine May s
    untouched same worded = record {
      worded = λ b h. worded b (sym same ∙ h);
      remains = λ pin may a h safe. record { node = a; here = same ∙ h; kept = kept_itself pin a safe; changed = inl refl };
      stays = λ a h p other. same ∙ h;
    }

    -- a node that isn't private changes, held by the call or free
    pub changes : (a b : PlacedNode M) → t s ≡ Some a → t' s ≡ Some b → (a.lifetime ≡ is_private → ⊥) → IsWorded b → b.node.prefix ≡ a.node.prefix → a.word ≤ b.word
        → (IsFree b.word → b.word ≡ a.word → b.node ≡ a.node) → ((pin : ℕ) → May pin → IsSafe pin b.lifetime) → Mine s ⊎ IsFree a.word → StepsAt t t' Mine May s
    changes a b before after public worded prefix word same safe mine = record {
      worded = λ c h. subst (λ (z : PlacedNode M). IsWorded z) (some_same b c (sym after ∙ h)) worded;
      remains = λ pin may c h was. subst (λ (z : PlacedNode M). Remains t' Mine pin s z) (some_same a c (sym before ∙ h)) (record {
        node = b;
        here = after;
        kept = record { prefix = prefix; word = word; same = same; safe = safe pin may };
        changed = inr mine;
      });
      stays = λ c h p other. absurd (public (ap (λ (z : PlacedNode M). z.lifetime) (some_same a c (sym before ∙ h)) ∙ p));
    }

    unsafe : (a : PlacedNode M) (pin : ℕ) → a.lifetime ≡ is_private → IsSafe pin a.lifetime → ⊥
    unsafe a pin p safe = subst (λ z. IsSafe pin z) p safe

    -- a private node of the call becomes another, or is freed
    pub owned : (a : PlacedNode M) → t s ≡ Some a → a.lifetime ≡ is_private → Mine s → ((b : PlacedNode M) → t' s ≡ Some b → IsWorded b) → StepsAt t t' Mine May s
    owned a before p mine worded = record {
      worded = worded;
      remains = λ pin may c h safe. absurd (unsafe c pin (ap (λ (z : PlacedNode M). z.lifetime) (some_same c a (sym h ∙ before)) ∙ p) safe);
      stays = λ c h q other. absurd (other mine);
    }

    -- an empty slot gets a node
    pub comes : t s ≡ None → ((b : PlacedNode M) → t' s ≡ Some b → IsWorded b) → StepsAt t t' Mine May s
    comes before worded = record {
      worded = worded;
      remains = λ pin may c h safe. absurd (none_some c (sym before ∙ h));
      stays = λ c h q other. absurd (none_some c (sym before ∙ h));
    }

  -- which nodes need no holder
  pub none_needs : (t : NodeMap M) (s : ℕ) → t s ≡ None → NeedsHolder t s → ⊥
  none_needs t s none need = none_some need.node (sym none ∙ need.here)

  pub retired_needs : (t : NodeMap M) (s : ℕ) (a : PlacedNode M) (stamp : Option ℕ) → t s ≡ Some a → a.lifetime ≡ is_retired stamp → IsObsolete a.word → NeedsHolder t s → ⊥
  retired_needs t s a stamp here r o need =
      let is : need.node ≡ a = some_same need.node a (sym need.here ∙ here) in
      elim need.why [
        | inl p ↦ retired_private stamp (sym r ∙ (ap (λ (z : PlacedNode M). z.lifetime) (sym is) ∙ p))
        | inr l ↦ l.1 (subst (λ (z : PlacedNode M). IsObsolete z.word) (sym is) o)
      ]

  pub free_needs : (t : NodeMap M) (s : ℕ) (a : PlacedNode M) → t s ≡ Some a → a.lifetime ≡ is_linked → IsFree a.word → NeedsHolder t s → ⊥
  free_needs t s a here l free need =
      let is : need.node ≡ a = some_same need.node a (sym need.here ∙ here) in
      elim need.why [
        | inl p ↦ linked_private (sym l ∙ (ap (λ (z : PlacedNode M). z.lifetime) (sym is) ∙ p))
        | inr held ↦ free_locked a.word free (subst (λ (z : PlacedNode M). IsLocked z.word) is held.0)
      ]
