-- EACH UPGRADE of a tail: of the node that is changed alone, of the parent, and of the node below a held parent.
use Rattle.std.proofs.Common.{◌≡◌, ◌≢◌, ℕ, ◌+◌, ◌<◌, Bool, true, false, List, [], ◌∷◌, Some, None, ◌⊎◌, inl, inr, refl, sym, subst, ap, ◌∙◌, arith, if◌then◌else◌}
use Rattle.std.proofs.lemmas.Bool.Decides.{eqb_tells}
use Rattle.spec_map.specs.Map.{lookup}
use Rattle.spec_map.proofs.MapLaws.{lookup-put_same, lookup-put_other}
use Rattle.spec_node.specs.Key.{Begins}
use Rattle.spec_olc.specs.Kinds.{report_of}
use Rattle.spec_olc.specs.declared.types.Env.{Env}
use Rattle.spec_olc.specs.declared.types.Kind.TheVariants as kind
use Rattle.spec_olc.specs.declared.types.Outcome.TheVariants.{Going}
use Rattle.spec_olc.specs.declared.types.Progress.{Progress}
use Rattle.spec_olc.specs.Lock.{MayUpgrade, version}
use Rattle.olc_state.specs.declared.stage.Path.{Path}
use Rattle.olc_state.specs.declared.stage.Spot.{Spot}
use Rattle.olc_state.specs.declared.stage.Stage.TheVariants.{TakeRoot, Tail as tail_at}
use Rattle.olc_state.specs.declared.stage.Task.{Task}
use Rattle.olc_state.specs.declared.tail.Large.{Large}
use Rattle.olc_state.specs.declared.tail.Large.TheVariants.{GrowLeaf, GrowInner, Split, Detach}
use Rattle.olc_state.specs.declared.tail.NodePair.{NodePair}
use Rattle.olc_state.specs.declared.tail.Small.{Small}
use Rattle.olc_state.specs.declared.tail.Small.TheVariants.{Entry, Leaf}
use Rattle.olc_state.specs.declared.tail.Tail.{Tail}
use Rattle.olc_state.specs.declared.tail.Tail.TheVariants.{Upgrade, Write, MakeLeaf, Unlock, UpgradeAbove, UpgradeBelow, MakeLeafBelow, Grow}
use Rattle.olc_state.specs.declared.tail.Tail.TheVariants as tails
use Rattle.olc_state.specs.inner.Facts.{Facts}
use Rattle.olc_state.specs.inner.Shown.{flight}
use Rattle.olc_state.specs.inner.Moves.{StoreCounts, IsMove}
use Rattle.olc_state.specs.inner.Tables.{IsIn, IsLinked, IsPlaced, Known, OnWay, While}
use Rattle.olc_state.specs.inner.TailFacts.{AtNode, AtPair, Below, IsHeld, IsSmall, LargeWork, SmallWork, TailFacts}
use Rattle.olc_state.specs.inner.Tails.{above_spots, both_slots, held_in, made_in, named_in, pair_spots, path_spots, spots_in, tail_work}
use Rattle.olc_state.specs.inner.Tasks.{key_bytes, restarted}
use Rattle.olc_state.specs.inner.World.{PlacedNode, NodeMap}
use Rattle.olc_state.proofs.Options.{none_some, some_same}
use Rattle.olc_state.proofs.Ways.{known_linked}
use Rattle.olc_state.proofs.Records.{at}
use Rattle.olc_laws.proofs.Effects.{beside_one}
use Rattle.olc_laws.proofs.Words.{Upgrades}
use Rattle.olc_write.proofs.Deciding.{may_lock}
use Rattle.olc_write.proofs.Locks.{fails_back, fails_held, locks}
use Rattle.olc_write.proofs.Showing.{Among, among_last, among_none}

-- the next event once the node is locked
abbrev pub small_next : Small → Spot → Tail
small_next Entry spot = Write spot
small_next Leaf spot = MakeLeaf spot

abbrev pub large_next : Large → NodePair → Tail
large_next GrowLeaf pair = Grow pair None
large_next GrowInner pair = MakeLeafBelow pair GrowInner
large_next Split pair = MakeLeafBelow pair Split
large_next Detach pair = tails.Detach pair

pub makes_leaf : (large : Large) (pair : NodePair) → (large ≡ GrowInner) ⊎ (large ≡ Split) → MakeLeafBelow pair large ≡ large_next large pair
makes_leaf GrowLeaf pair is = elim is [ inl e ↦ cc | inr e ↦ cc ]
makes_leaf GrowInner pair is = refl
makes_leaf Split pair is = refl
makes_leaf Detach pair is = elim is [ inl e ↦ cc | inr e ↦ cc ]

-- a list of one word has no other
pub one_known : (slot word s w : ℕ) → lookup ((slot, word) ∷ []) s ≡ Some w → slot ≡ s
one_known slot word s w h =
    elim (eqb_tells slot s) [
      | inl e ↦ e.1
      | inr far ↦ absurd (none_some w (subst (λ b. (if b then Some word else None) ≡ Some w) far.0 h))
    ]

small_held : (small : Small) (spot : Spot) → held_in (small_next small spot) ≡ spot.slot ∷ []
small_held Entry spot = refl
small_held Leaf spot = refl

small_made : (small : Small) (spot : Spot) → made_in (small_next small spot) ≡ []
small_made Entry spot = refl
small_made Leaf spot = refl

small_spots : (small : Small) (spot : Spot) → spots_in (small_next small spot) ≡ []
small_spots Entry spot = refl
small_spots Leaf spot = refl

small_named : (small : Small) (spot : Spot) → named_in (small_next small spot) ≡ spot.slot ∷ []
small_named Entry spot = refl
small_named Leaf spot = refl

small_less : (progress : Progress) (small : Small) (path : Path) → tail_work progress (small_next small path.here) < tail_work progress (Upgrade path small)
small_less progress Entry path = omega arith
small_less progress Leaf path = omega arith

large_held : (large : Large) (pair : NodePair) → held_in (large_next large pair) ≡ both_slots pair
large_held GrowLeaf pair = refl
large_held GrowInner pair = refl
large_held Split pair = refl
large_held Detach pair = refl

large_made : (large : Large) (pair : NodePair) → made_in (large_next large pair) ≡ []
large_made GrowLeaf pair = refl
large_made GrowInner pair = refl
large_made Split pair = refl
large_made Detach pair = refl

large_spots : (large : Large) (pair : NodePair) → spots_in (large_next large pair) ≡ []
large_spots GrowLeaf pair = refl
large_spots GrowInner pair = refl
large_spots Split pair = refl
large_spots Detach pair = refl

large_named : (large : Large) (pair : NodePair) → named_in (large_next large pair) ≡ both_slots pair
large_named GrowLeaf pair = refl
large_named GrowInner pair = refl
large_named Split pair = refl
large_named Detach pair = refl

large_less : (progress : Progress) (large : Large) (pair : NodePair) → tail_work progress (large_next large pair) < tail_work progress (UpgradeBelow pair large)
large_less progress GrowLeaf pair = omega arith
large_less progress GrowInner pair = omega arith
large_less progress Split pair = omega arith
large_less progress Detach pair = omega arith

module _ {M : Type 0} where
  -- the call after its upgrade
  small_alike : (pin : ℕ) (task : Task M) (small : Small) (path : Path)
      → flight pin (at (tail_at (small_next small path.here)) task) ≡ record (flight pin (at (tail_at (Upgrade path small)) task)) { held = path.here.slot ∷ []; remembered = spots_in (small_next small path.here) }
  small_alike pin task Entry path = refl
  small_alike pin task Leaf path = refl

  large_alike : (pin : ℕ) (task : Task M) (large : Large) (pair : NodePair)
      → flight pin (at (tail_at (large_next large pair)) task) ≡ record (flight pin (at (tail_at (UpgradeBelow pair large)) task)) { held = both_slots pair; remembered = spots_in (large_next large pair) }
  large_alike pin task GrowLeaf pair = refl
  large_alike pin task GrowInner pair = refl
  large_alike pin task Split pair = refl
  large_alike pin task Detach pair = refl

  -- what is to be done at a node is so whatever its word is
  module _ (Granted : Type 0) (same : M → M → Bool) (task : Task M) where
    large_work : (large : Large) (a : PlacedNode M) (word : ℕ) → LargeWork Granted same large task a → LargeWork Granted same large task (record a { word = word })
    large_work GrowLeaf a word h = record { writes = h.writes; is = h.is; may = h.may }
    large_work GrowInner a word h = record { writes = h.writes; is = h.is; may = h.may }
    large_work Split a word h = record { writes = h.writes; is = h.is; may = h.may }
    large_work Detach a word h = record { writes = h.writes; is = h.is; may = h.may }

  small_is : (small : Small) (a : PlacedNode M) (k : List ℕ) (word : ℕ) → IsSmall small a k → IsSmall small (record a { word = word }) k
  small_is Entry a k word h = h
  small_is Leaf a k word h = h

  module _ (Granted : Type 0) (same : M → M → Bool) (t : NodeMap M) (root pin : ℕ) (task : Task M) where
    small_facts : (small : Small) (spot : Spot) → AtNode Granted same t task spot small → TailFacts Granted same t root pin task (small_next small spot)
    small_facts Entry spot h = h
    small_facts Leaf spot h = h

    large_facts : (large : Large) (pair : NodePair) → AtPair Granted same t task pair large → TailFacts Granted same t root pin task (large_next large pair)
    large_facts GrowLeaf pair h = (h, tt)
    large_facts GrowInner pair h = (h, tt)
    large_facts Split pair h = (h, tt)
    large_facts Detach pair h = h

module _ {M : Type 0} (Granted : Type 0) (same : M → M → Bool) (t : NodeMap M) (root pin : ℕ) (books : StoreCounts) (task : Task M) (env : Env M) (placed : IsPlaced t root) where
  -- a remembered node that may be locked, and is
  module _ (t' : NodeMap M) (spot : Spot) (a : PlacedNode M) (here : t spot.slot ≡ Some a) (known : Known t pin spot) (may : MayUpgrade a.word spot.word)
      (after : t' spot.slot ≡ Some (record a { word = a.word + 2 })) (others : (o : ℕ) → o ≢ spot.slot → t' o ≡ t o) where
    pub linked : IsLinked t spot.slot a
    linked = known_linked t root (key_bytes task) placed pin spot a known here may.same

    pub upgrades : Upgrades t t' spot.slot a
    upgrades = record { here = linked; free = may.free; after = after; others = beside_one t t' spot.slot others }

    abbrev pub is_held : IsHeld t' spot
    is_held = record {
      node = record a { word = a.word + 2 };
      linked = record { here = after; lifetime = linked.lifetime };
      word = ap (λ (z : ℕ). z + 2) may.same;
      free = known.free;
      room = λ e. may.room (ap version may.same ∙ e);
    }

    pub on_way : OnWay t spot.slot (key_bytes task) → OnWay t' spot.slot (key_bytes task)
    on_way way b at_b = subst (λ (z : PlacedNode M). Begins z.node.prefix (key_bytes task)) (some_same (record a { word = a.word + 2 }) b (sym after ∙ at_b)) (way a here)

    -- the other node of a pair is unchanged
    module _ (other : Spot) (apart : other.slot ≢ spot.slot) where
      pub known_still : Known t pin other → Known t' pin other
      known_still k = record { node = k.node; here = others other.slot apart ∙ k.here; safe = k.safe; free = k.free; word = k.word }

      abbrev pub held_still : IsHeld t other → IsHeld t' other
      held_still h = record { node = h.node; linked = record { here = others other.slot apart ∙ h.linked.here; lifetime = h.linked.lifetime }; word = h.word; free = h.free; room = h.room }

      pub way_still : OnWay t other.slot (key_bytes task) → OnWay t' other.slot (key_bytes task)
      way_still way b at_b = way b (sym (others other.slot apart) ∙ at_b)

      while_still : (Q : PlacedNode M → Type 0) → While t other Q → While t' other Q
      while_still Q h b at_b w = h b (sym (others other.slot apart) ∙ at_b) w

  -- THE NODE ALONE
  module _ (path : Path) (small : Small) (facts : Facts Granted same t root pin (at (tail_at (Upgrade path small)) task)) (a : PlacedNode M) (here : t path.here.slot ≡ Some a) where
    known_here : lookup (path_spots path) path.here.slot ≡ Some path.here.word
    known_here = lookup-put_same (above_spots path.above) path.here.slot path.here.word

    pub upgrade_locks : (t' : NodeMap M) → MayUpgrade a.word path.here.word → env.fail ≡ false → t' path.here.slot ≡ Some (record a { word = a.word + 2 }) → ((o : ℕ) → o ≢ path.here.slot → t' o ≡ t o)
        → IsMove Granted same t t' root pin books books (at (tail_at (Upgrade path small)) task) env (at (tail_at (small_next small path.here)) task) (report_of kind.Upgrade (Some path.here.slot) 0 true) Going
    upgrade_locks t' may whole after others =
        let f = facts.at in
        let work : SmallWork Granted same small task a = f.2 a here may.same in
        let now : AtNode Granted same t' task path.here small = record {
          way = on_way t' path.here a here f.1.here may after others f.1.way;
          held = is_held t' path.here a here f.1.here may after others;
          work = record { writes = work.writes; is = small_is small a (key_bytes task) (a.word + 2) work.is; differs = work.differs };
        } in
        locks Granted same t root pin books task env placed (tail_at (Upgrade path small)) (inl f.0.undecided) f.0.point (may_lock Granted same task (Upgrade path small) refl pin f.3.0 f.3.1) path.here.slot path.here.word a here known_here (inl refl) refl
        t' (upgrades t' path.here a here f.1.here may after others) may whole (tail_at (small_next small path.here)) (record { small = facts.small; at = small_facts Granted same t' root pin task small path.here now })
        (small_alike pin task small path) (small_held small path.here) (small_made small path.here)
        (subst (λ z. Among z (path_spots path)) (sym (small_spots small path.here)) (among_none (path_spots path)))
        (λ s w h. absurd (none_some w (subst (λ (z : List (ℕ × ℕ)). lookup z s ≡ Some w) (small_spots small path.here) h)))
        (λ s h. elim (subst (λ z. IsIn s z) (small_named small path.here) h) [ inl e ↦ inl e | inr never ↦ absurd never ])
        (λ s h. h) (let less = small_less task.progress small path in omega (arith, less))

    pub upgrade_fails : (MayUpgrade a.word path.here.word → env.fail ≡ false → ⊥)
        → IsMove Granted same t t root pin books books (at (tail_at (Upgrade path small)) task) env (at TakeRoot (restarted task)) (report_of kind.Upgrade (Some path.here.slot) 0 false) Going
    upgrade_fails cannot =
        let f = facts.at in
        fails_back Granted same t root pin books task env placed facts.small f.0 (Upgrade path small) (may_lock Granted same task (Upgrade path small) refl pin f.3.0 f.3.1) path.here.slot path.here.word a here known_here (inl refl) refl refl
        f.1.here.free cannot refl

  -- THE PARENT
  module _ (pair : NodePair) (large : Large) (facts : Facts Granted same t root pin (at (tail_at (UpgradeAbove pair large)) task)) (a : PlacedNode M) (here : t pair.above.slot ≡ Some a) where
    above_known : lookup (pair_spots pair) pair.above.slot ≡ Some pair.above.word
    above_known =
        lookup-put_other ((pair.above.slot, pair.above.word) ∷ []) pair.here.slot pair.here.word pair.above.slot facts.at.0.over.apart
        ∙ lookup-put_same [] pair.above.slot pair.above.word

    pub above_locks : (t' : NodeMap M) → MayUpgrade a.word pair.above.word → env.fail ≡ false → t' pair.above.slot ≡ Some (record a { word = a.word + 2 }) → ((o : ℕ) → o ≢ pair.above.slot → t' o ≡ t o)
        → IsMove Granted same t t' root pin books books (at (tail_at (UpgradeAbove pair large)) task) env (at (tail_at (UpgradeBelow pair large)) task) (report_of kind.Upgrade (Some pair.above.slot) 0 true) Going
    above_locks t' may whole after others =
        let f = facts.at in
        let below : Below Granted same t pin task pair large = f.0 in
        let far : pair.here.slot ≢ pair.above.slot = λ e. below.over.apart (sym e) in
        locks Granted same t root pin books task env placed (tail_at (UpgradeAbove pair large)) (inl below.opened.undecided) below.opened.point (may_lock Granted same task (UpgradeAbove pair large) refl pin below.writing.0 below.writing.1) pair.above.slot pair.above.word a here above_known (inr (inl refl)) refl
        t' (upgrades t' pair.above a here f.1 may after others) may whole (tail_at (UpgradeBelow pair large)) (record {
          small = facts.small;
          at = (
            record {
              opened = below.opened;
              writing = below.writing;
              over = record { way = on_way t' pair.above a here f.1 may after others below.over.way; apart = below.over.apart };
              here = known_still t' pair.above a here f.1 may after others pair.here far below.here;
              work = while_still t' pair.above a here f.1 may after others pair.here far (LargeWork Granted same large task) below.work;
            },
            is_held t' pair.above a here f.1 may after others,
            f.2 a here may.same,
          );
        })
        refl refl refl
        (among_last ((pair.above.slot, pair.above.word) ∷ []) pair.here.slot pair.here.word)
        (λ s w h e. far (one_known pair.here.slot pair.here.word s w h ∙ e))
        (λ s h. h) (λ s h. h)
        (omega arith)

    pub above_fails : (MayUpgrade a.word pair.above.word → env.fail ≡ false → ⊥)
        → IsMove Granted same t t root pin books books (at (tail_at (UpgradeAbove pair large)) task) env (at TakeRoot (restarted task)) (report_of kind.Upgrade (Some pair.above.slot) 0 false) Going
    above_fails cannot =
        let f = facts.at in
        fails_back Granted same t root pin books task env placed facts.small f.0.opened (UpgradeAbove pair large) (may_lock Granted same task (UpgradeAbove pair large) refl pin f.0.writing.0 f.0.writing.1) pair.above.slot pair.above.word a here above_known (inr (inl refl)) refl refl
        f.1.free cannot refl

  -- THE NODE BELOW A HELD PARENT
  module _ (pair : NodePair) (large : Large) (facts : Facts Granted same t root pin (at (tail_at (UpgradeBelow pair large)) task)) (a : PlacedNode M) (here : t pair.here.slot ≡ Some a) where
    below_known : lookup ((pair.here.slot, pair.here.word) ∷ []) pair.here.slot ≡ Some pair.here.word
    below_known = lookup-put_same [] pair.here.slot pair.here.word

    pub below_locks : (t' : NodeMap M) → MayUpgrade a.word pair.here.word → env.fail ≡ false → t' pair.here.slot ≡ Some (record a { word = a.word + 2 }) → ((o : ℕ) → o ≢ pair.here.slot → t' o ≡ t o)
        → IsMove Granted same t t' root pin books books (at (tail_at (UpgradeBelow pair large)) task) env (at (tail_at (large_next large pair)) task) (report_of kind.Upgrade (Some pair.here.slot) 0 true) Going
    below_locks t' may whole after others =
        let f = facts.at in
        let below : Below Granted same t pin task pair large = f.0 in
        let work : LargeWork Granted same large task a = below.work a here may.same in
        let now : AtPair Granted same t' task pair large = record {
          held = record {
            over = record { way = way_still t' pair.here a here below.here may after others pair.above below.over.apart below.over.way; apart = below.over.apart };
            above = held_still t' pair.here a here below.here may after others pair.above below.over.apart f.1;
            here = is_held t' pair.here a here below.here may after others;
            leads = f.2;
          };
          work = large_work Granted same task large a (a.word + 2) work;
        } in
        locks Granted same t root pin books task env placed (tail_at (UpgradeBelow pair large)) (inl below.opened.undecided) below.opened.point (may_lock Granted same task (UpgradeBelow pair large) refl pin below.writing.0 below.writing.1) pair.here.slot pair.here.word a here below_known (inl refl) refl
        t' (upgrades t' pair.here a here below.here may after others) may whole (tail_at (large_next large pair)) (record { small = facts.small; at = large_facts Granted same t' root pin task large pair now })
        (large_alike pin task large pair) (large_held large pair) (large_made large pair)
        (subst (λ z. Among z ((pair.here.slot, pair.here.word) ∷ [])) (sym (large_spots large pair)) (among_none ((pair.here.slot, pair.here.word) ∷ [])))
        (λ s w h. absurd (none_some w (subst (λ (z : List (ℕ × ℕ)). lookup z s ≡ Some w) (large_spots large pair) h)))
        (λ s h. subst (λ z. IsIn s z) (large_named large pair) h)
        (λ s h. h) (let less = large_less task.progress large pair in omega (arith, less))

    pub below_fails : (MayUpgrade a.word pair.here.word → env.fail ≡ false → ⊥)
        → IsMove Granted same t t root pin books books (at (tail_at (UpgradeBelow pair large)) task) env (at (tail_at (Unlock pair.above None)) task) (report_of kind.Upgrade (Some pair.here.slot) 0 false) Going
    below_fails cannot =
        let f = facts.at in
        fails_held Granted same t root pin books task env placed facts.small f.0.opened (UpgradeBelow pair large) (may_lock Granted same task (UpgradeBelow pair large) refl pin f.0.writing.0 f.0.writing.1) pair.here.slot pair.here.word a here below_known (inl refl) refl refl
        f.0.here.free cannot pair.above refl (inr (inl refl)) f.1 (omega arith)
