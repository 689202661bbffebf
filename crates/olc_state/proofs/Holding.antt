-- The nodes that a call holds or has made.
use Rattle.std.proofs.Common.{Bool, ◌≡◌, ℕ, ◌+◌, IsTrue, List, [], ◌∷◌, Some, None, inl, inr, refl, subst, ap, arith}
use Rattle.std.proofs.lemmas.Bool.{false≢true, ne_eqb, cases_eq}
use Rattle.spec_node.specs.TableNode.{TableNode}
use Rattle.spec_olc.specs.Lists.{is_in}
use Rattle.spec_olc.specs.State.{published}
use Rattle.spec_olc.specs.Lock.{IsFree, IsLocked, IsObsolete}
use Rattle.olc_state.specs.declared.stage.Record.{Record}
use Rattle.olc_state.specs.declared.stage.Spot.{Spot}
use Rattle.olc_state.specs.declared.stage.Stage.{Stage}
use Rattle.olc_state.specs.declared.stage.Stage.TheVariants as stage
use Rattle.olc_state.specs.declared.stage.Task.{Task}
use Rattle.olc_state.specs.declared.tail.NodePair.{NodePair}
use Rattle.olc_state.specs.declared.tail.Tail.{Tail}
use Rattle.olc_state.specs.declared.tail.Tail.TheVariants.{Upgrade, Write, MakeLeaf, Link, Unlock, UpgradeAbove, UpgradeBelow, MakeLeafBelow, Grow, MakeMiddle, Replace, Insert, Obsolete, UnlockBelow}
use Rattle.olc_state.specs.declared.tail.Tail.TheVariants as tail
use Rattle.olc_state.specs.declared.cleanup.Cleanup.{Cleanup}
use Rattle.olc_state.specs.declared.cleanup.Tidy.{Tidy}
use Rattle.olc_state.specs.declared.cleanup.Tidy.TheVariants as tidy
use Rattle.olc_state.specs.inner.CleanupFacts.{TidyFacts}
use Rattle.olc_state.specs.inner.CleanupStages.{held_tidying, made_tidying}
use Rattle.olc_state.specs.inner.Facts.{Facts, FactsAt, Holding}
use Rattle.olc_state.specs.inner.Shown.{held_at, made_at, lifetime}
use Rattle.olc_state.specs.inner.TailFacts.{AreHeld, IsHeld, IsPrivateOf, IsOut, TailFacts}
use Rattle.olc_state.specs.inner.Tails.{held_in, made_in}
use Rattle.olc_state.specs.inner.World.{is_private, PlacedNode, NodeMap}

-- what holds of all numbers of a list holds of each
pub none_of : {Q : Type 0} (s : ℕ) → IsTrue (is_in s []) → Q
none_of s h = absurd (false≢true h)

pub first_or : (Q : ℕ → Type 0) (x s : ℕ) (xs : List ℕ) → Q x → (IsTrue (is_in s xs) → Q s) → IsTrue (is_in s (x ∷ xs)) → Q s
first_or Q x s xs here rest h =
    elim (cases_eq x s) [
      | inl e ↦ subst Q e here
      | inr off ↦ let same : is_in s (x ∷ xs) ≡ is_in s xs = rw (ne_eqb x s off) refl in rest (subst IsTrue same h)
    ]

pub one_of : (Q : ℕ → Type 0) (x s : ℕ) → Q x → IsTrue (is_in s (x ∷ [])) → Q s
one_of Q x s a = first_or Q x s [] a (none_of s)

pub two_of : (Q : ℕ → Type 0) (x y s : ℕ) → Q x → Q y → IsTrue (is_in s (x ∷ y ∷ [])) → Q s
two_of Q x y s a b = first_or Q x s (y ∷ []) a (one_of Q y s b)

-- A call that holds nothing has made nothing.
pub nothing_made : (s : Stage) → held_at s ≡ [] → made_at s ≡ []
nothing_made (stage.Tail (Link spot leaf)) none = absurd (cc)
nothing_made (stage.Tail (Grow pair leaf)) none = absurd (cc)
nothing_made (stage.Tail (MakeMiddle pair leaf)) none = absurd (cc)
nothing_made (stage.Tail (Replace pair copy leaf)) none = absurd (cc)
nothing_made (stage.Tail (Insert pair middle leaf)) none = absurd (cc)
nothing_made (stage.Tidy c (tidy.PutSmaller pair copy)) none = absurd (cc)
nothing_made s none = refl

pub holds_nothing : (s : Stage) → held_at s ≡ [] → (slot : ℕ) → Holding s slot → ⊥
holds_nothing s none slot h =
    elim h [
      | inl held ↦ none_of slot (subst (λ z. IsTrue (is_in slot z)) none held)
      | inr made ↦ none_of slot (subst (λ z. IsTrue (is_in slot z)) (nothing_made s none) made)
    ]

-- the word of a node that was free and is locked now
pub locked_now : (word was : ℕ) → word ≡ was + 2 → IsFree was → IsLocked word
locked_now word was is free = omega (arith, is, free)

pub live_now : (word was : ℕ) → word ≡ was + 2 → IsFree was → IsObsolete word → ⊥
live_now word was is free obsolete = omega (arith, is, free, obsolete)

pub not_free_now : (word was : ℕ) → word ≡ was + 2 → IsFree was → IsFree word → ⊥
not_free_now word was is free still = omega (arith, is, free, still)

module _ {M : Type 0} (t : NodeMap M) where
  -- a locked node that is linked or detached, and a private one
  pub record StandsLocked (slot : ℕ) : Type 0 where
    pub node : PlacedNode M
    pub here : t slot ≡ Some node
    pub public : lifetime node.lifetime ≡ published
    pub locked : IsLocked node.word
    pub live : IsObsolete node.word → ⊥

  pub record StandsPrivate (slot : ℕ) : Type 0 where
    pub node : PlacedNode M
    pub here : t slot ≡ Some node
    pub lifetime : node.lifetime ≡ is_private
    pub word : node.word ≡ 0

  held_stands : (spot : Spot) → IsHeld t spot → StandsLocked spot.slot
  held_stands spot h = record {
    node = h.node;
    here = h.linked.here;
    public = ap lifetime h.linked.lifetime;
    locked = locked_now h.node.word spot.word h.word h.free;
    live = live_now h.node.word spot.word h.word h.free;
  }

  out_stands : (spot : Spot) → IsOut t spot → StandsLocked spot.slot
  out_stands spot h = record {
    node = h.node;
    here = h.here;
    public = ap lifetime h.lifetime;
    locked = locked_now h.node.word spot.word h.word h.free;
    live = live_now h.node.word spot.word h.word h.free;
  }

  both_stand : (pair : NodePair) (k : List ℕ) (slot : ℕ) → AreHeld t pair k → IsTrue (is_in slot (pair.here.slot ∷ pair.above.slot ∷ [])) → StandsLocked slot
  both_stand pair k slot h = two_of StandsLocked pair.here.slot pair.above.slot slot (held_stands pair.here h.here) (held_stands pair.above h.above)

  made_stands : (slot : ℕ) (a : TableNode M) → IsPrivateOf t slot a → StandsPrivate slot
  made_stands slot a h = record { node = h.node; here = h.here; lifetime = h.lifetime; word = h.word }

  tidy_holds : (pin : ℕ) (task : Task M) (c : Cleanup) (x : Tidy) (slot : ℕ) → TidyFacts t pin task c x → IsTrue (is_in slot (held_tidying x)) → StandsLocked slot
  tidy_holds pin task c (tidy.UpgradeAbove pair) slot f h = none_of slot h
  tidy_holds pin task c (tidy.UpgradeBelow pair) slot f h = one_of StandsLocked pair.above.slot slot (held_stands pair.above f.2.0) h
  tidy_holds pin task c (tidy.TakeAway pair) slot f h = both_stand pair _ slot f.0.held h
  tidy_holds pin task c (tidy.MakeSmaller pair) slot f h = both_stand pair _ slot f.0.held h
  tidy_holds pin task c (tidy.PutSmaller pair copy) slot f h = both_stand pair _ slot f.0.held h
  tidy_holds pin task c (tidy.UnlockBelow pair) slot f h = both_stand pair _ slot f.0.held h

  tidy_made : (pin : ℕ) (task : Task M) (c : Cleanup) (x : Tidy) (slot : ℕ) → TidyFacts t pin task c x → IsTrue (is_in slot (made_tidying x)) → StandsPrivate slot
  tidy_made pin task c (tidy.PutSmaller pair copy) slot f h = one_of StandsPrivate copy slot (made_stands copy _ f.1) h
  tidy_made pin task c x slot f h = none_of slot h

  module _ (Granted : Type 0) (same : M → M → Bool) (root pin : ℕ) where
    tail_holds : (task : Task M) (tail : Tail) (slot : ℕ) → TailFacts Granted same t root pin task tail → IsTrue (is_in slot (held_in tail)) → StandsLocked slot
    tail_holds task (Upgrade path small) slot f h = none_of slot h
    tail_holds task (Write spot) slot f h = one_of StandsLocked spot.slot slot (held_stands spot f.held) h
    tail_holds task (MakeLeaf spot) slot f h = one_of StandsLocked spot.slot slot (held_stands spot f.held) h
    tail_holds task (Link spot leaf) slot f h = one_of StandsLocked spot.slot slot (held_stands spot f.0.held) h
    tail_holds task (Unlock spot left) slot f h = one_of StandsLocked spot.slot slot (held_stands spot f.0) h
    tail_holds task (UpgradeAbove pair large) slot f h = none_of slot h
    tail_holds task (UpgradeBelow pair large) slot f h = one_of StandsLocked pair.above.slot slot (held_stands pair.above f.1) h
    tail_holds task (MakeLeafBelow pair large) slot f h = both_stand pair _ slot f.0.held h
    tail_holds task (Grow pair leaf) slot f h = both_stand pair _ slot f.0.held h
    tail_holds task (MakeMiddle pair leaf) slot f h = both_stand pair _ slot f.0.held h
    tail_holds task (Replace pair copy leaf) slot f h = both_stand pair _ slot f.0.held h
    tail_holds task (Insert pair middle leaf) slot f h = both_stand pair _ slot f.0.held h
    tail_holds task (tail.Detach pair) slot f h = both_stand pair _ slot f.held h
    tail_holds task (Obsolete pair left) slot f h = two_of StandsLocked pair.here.slot pair.above.slot slot (out_stands pair.here f.2) (held_stands pair.above f.1) h
    tail_holds task (UnlockBelow pair) slot f h = two_of StandsLocked pair.here.slot pair.above.slot slot (held_stands pair.here f.2) (held_stands pair.above f.1) h

    tail_made : (task : Task M) (tail : Tail) (slot : ℕ) → TailFacts Granted same t root pin task tail → IsTrue (is_in slot (made_in tail)) → StandsPrivate slot
    tail_made task (Link spot leaf) slot f h = one_of StandsPrivate leaf slot (made_stands leaf _ f.1.made) h
    tail_made task (Grow pair (Some leaf)) slot f h = one_of StandsPrivate leaf slot (made_stands leaf _ f.1.made) h
    tail_made task (MakeMiddle pair leaf) slot f h = one_of StandsPrivate leaf slot (made_stands leaf _ f.1.made) h
    tail_made task (Replace pair copy None) slot f h = one_of StandsPrivate copy slot (made_stands copy _ f.1.made) h
    tail_made task (Replace pair copy (Some leaf)) slot f h = two_of StandsPrivate copy leaf slot (made_stands copy _ f.1.made) (made_stands leaf _ f.1.own.0.made) h
    tail_made task (Insert pair middle leaf) slot f h = two_of StandsPrivate middle leaf slot (made_stands middle _ f.2.made) (made_stands leaf _ f.1.made) h
    tail_made task tail slot f h = none_of slot h

    -- the node in a slot that a call holds, and in one that it has made
    pub holds_at : (r : Record M) (slot : ℕ) → Facts Granted same t root pin r → IsTrue (is_in slot (held_at r.stage)) → StandsLocked slot
    holds_at r slot f h = at r.task r.stage f.at h
      where
        at : (task : Task M) (s : Stage) → FactsAt Granted same t root pin task s → IsTrue (is_in slot (held_at s)) → StandsLocked slot
        at task (stage.Tail tail) x y = tail_holds task tail slot x y
        at task (stage.Tidy c step) x y = tidy_holds pin task c step slot x y
        at task s x y = none_of slot y

    pub made_at_slot : (r : Record M) (slot : ℕ) → Facts Granted same t root pin r → IsTrue (is_in slot (made_at r.stage)) → StandsPrivate slot
    made_at_slot r slot f h = at r.task r.stage f.at h
      where
        at : (task : Task M) (s : Stage) → FactsAt Granted same t root pin task s → IsTrue (is_in slot (made_at s)) → StandsPrivate slot
        at task (stage.Tail tail) x y = tail_made task tail slot x y
        at task (stage.Tidy c step) x y = tidy_made pin task c step slot x y
        at task s x y = none_of slot y
