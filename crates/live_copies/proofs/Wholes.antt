-- At the check of the root word a seat learns the whole history, and what the map has then.
use Rattle.std.proofs.Common.{◌≡◌, ◌≢◌, ℕ, zero, suc, ◌+◌, ◌-◌, ◌*◌, ◌/◌, ◌<◌, ◌≤◌, ◌^◌, List, [], ◌∷◌, Option, Some, None, refl, sym, ap, ◌∙◌, subst, inl, inr, arith}
use Rattle.std.proofs.lemmas.Bool.{cases_lt}
use mathlib.Core.Option.{some}
use mathlib.Core.Logic.{dite}
use native.Mathlib.Decide.{ℕ_discrete}
use lib.ListN.{get_elem?}
use Rattle.spec_node.specs.TableNode.{Child}
use Rattle.spec_node.specs.declared.child.Child.TheVariants.{Payload, Node as Below}
use Rattle.spec_map.specs.Map.{Pairs, lookup, Rises}
use Rattle.spec_map.proofs.MapLaws.{lookup-first, lookup-next}
use Rattle.share_rule.specs.inner.Rule.{HasSeen}
use Rattle.word_book.specs.Book.{reads, none_joined}
use Rattle.live_nodes.proofs.Frames.{each_in}
use Rattle.live_nodes.specs.Nodes.{Content, Node}
use Rattle.live_nodes.specs.Seats.{Read, read, place, SeatView, IsIn}
use Rattle.live_nodes.specs.Acts as acts
use Rattle.live_nodes.specs.Plays as plays
use Rattle.live_nodes.specs.Plays.{Takes, Checks}
use Rattle.live_nodes.specs.Calls.{MayCheck}
use Rattle.live_nodes.specs.Levels.{up, digit, Covers, Shape, Spot}
use Rattle.live_nodes.specs.Views.{View, view_of, locked}
use Rattle.live_nodes.specs.Tree.{IsMap, IsCurrent, IsUnder, IsSpot, IsOwn, IsLocked, home_of}
use Rattle.live_nodes.proofs.Histories.{sees_all}
use Rattle.live_nodes.proofs.Looks.{with_view, at_leaf, at_inner}
use Rattle.live_nodes.proofs.Plans.{at_home, digit-low, joined, missed, none_there, same_name}
use Rattle.live_reads.specs.Paths.{KnowsRootWord, Keeps}
use Rattle.live_reads.proofs.Views.{head_read, learned_keeps, reading, reading_keeps, root_word_taken}
use Rattle.live_updates.proofs.Rising.{history_ascends}
use Rattle.live_copies.specs.inner.Told.{TellsUnder, Tells}
use Rattle.live_copies.specs.inner.Whole.{HasWhole, LearnsWhole}

abbrev Seen : Type 0
Seen = SeatView View

-- KEYS OF 64 BITS
zero_of : (j : ℕ) → (1 ≤ j → ⊥) → j ≡ 0
zero_of zero never = refl
zero_of (suc j) never = absurd (never (omega arith))

none_some : {A : Type 0} {x : A} → None ≡ Some x → ⊥
none_some e = cc

rises_within : (a b c : ℕ) (es : Pairs ℕ) → Rises a b es → ((k : ℕ) → c ≤ k → lookup es k ≡ None) → Rises a c es
rises_within a b c [] r none = tt
rises_within a b c (e ∷ es) r none =
    elim (cases_lt e.0 c) [
      | inl less ↦ (r.0, less, rises_within (e.0 + 1) b c es r.2 (λ k l. sym (lookup-next e es k (omega (arith, less, l))) ∙ none k l))
      | inr more ↦ absurd (none_some (sym (none e.0 more) ∙ lookup-first e es))
    ]

module _ (ns : List Node) (vs : List View) (p : IsMap ns vs) where
  no_more : (k : ℕ) → 2 ^ 64 ≤ k → lookup p.pairs k ≡ None
  no_more k large =
      p.tree.absent k
      (zero_of (p.plan.home 1 (k / 256)) (λ there.
      let j : ℕ = p.plan.home 1 (k / 256) in
      let s : Shape = p.plan.shape j in
      let h = p.tree.housed 1 (k / 256) there in
      let low = h.below.0 in
      let tall = h.some_height in
      let one : s.height ≡ 1 = omega (arith, low, tall) in
      let x = (p.tree.current j there (at_home p.plan ns p.contents p.pairs p.tree 1 (k / 256) there)).prefixed in
      let top : s.top ≡ k / 256 = sym (ap (λ (z : ℕ). up (1 - z) s.top) one) ∙ h.below.1 in
      let same : x.key / 256 ≡ k / 256 = ap (λ (z : ℕ). up z x.key) (sym one) ∙ (x.covers ∙ top) in
      let all : 2 ^ 64 ≡ 256 * 2 ^ 56 = refl in
      let fits = x.fits in
      omega (arith, same, fits, large, all)))

  all_rise : Rises 0 (2 ^ 64) p.pairs
  all_rise = let r = history_ascends p.history p.pairs p.legal in rises_within 0 r.0 (2 ^ 64) p.pairs r.1 no_more

  -- WHAT LOCKED NODES TELL
  module _ (id : ℕ) (v : View) (seat : get_elem? vs id ≡ some v) where
    is_locked : (a : Spot) (c : Content) → IsIn (locked a c) v.own → IsLocked p.plan ns p.contents id a c
    is_locked a c held = each_in (IsOwn p.plan ns p.contents id) v.own (locked a c) held (p.each_view id v seat).own

    spot_of : (n : ℕ) (e : Spot) (m : Pairs ℕ) → Tells v.own n e m → IsSpot p.plan ns e × (p.plan.shape e.number ≡ e.shape)
    spot_of zero e m t = absurd t
    spot_of (suc n) e m t = let l = is_locked e t.content t.held in (l.met.spot, l.shaped)

    by_kind : (n : ℕ) (m : Pairs ℕ) (k : ℕ) → ((e : Spot) → Tells v.own n e m → Covers e.shape k → lookup p.pairs k ≡ lookup m k) → (a : Spot) (h : ℕ) → a.shape.height ≡ h → h < 9 → Covers a.shape k → (o : Option (Child ℕ)) → IsUnder p.plan p.pairs h a.shape.top (digit h k) o
        → TellsUnder (Tells v.own n) a m (digit h k) o → lookup p.pairs k ≡ lookup m k
    by_kind n m k rec a zero high l covers o under told = absurd under
    by_kind n m k rec a (suc zero) high l covers None under told =
        let is : up 1 k ≡ a.shape.top = ap (λ (z : ℕ). up z k) (sym high) ∙ covers in
        at_leaf p.plan ns p.contents p.pairs p.tree k a.shape.top None is under ∙ sym (told k covers (ap (λ (z : ℕ). digit z k) high))
    by_kind n m k rec a (suc zero) high l covers (Some (Payload x)) under told =
        let is : up 1 k ≡ a.shape.top = ap (λ (z : ℕ). up z k) (sym high) ∙ covers in
        at_leaf p.plan ns p.contents p.pairs p.tree k a.shape.top (Some (Payload x)) is under ∙ sym (ap (lookup m) (sym (joined 0 k a.shape.top is)) ∙ told.1)
    by_kind n m k rec a (suc zero) high l covers (Some (Below s)) under told = absurd under
    by_kind n m k rec a (suc (suc h)) high l covers None under told =
        let is : up (suc (suc h)) k ≡ a.shape.top = ap (λ (z : ℕ). up z k) (sym high) ∙ covers in
        none_there p.plan ns p.contents p.pairs p.tree h k (omega (arith, l)) (at_inner p.plan ns p.contents p.pairs p.tree k h a.shape.top None is under) ∙ sym (told k covers (ap (λ (z : ℕ). digit z k) high))
    by_kind n m k rec a (suc (suc h)) high l covers (Some (Payload x)) under told = absurd under
    by_kind n m k rec a (suc (suc h)) high l covers (Some (Below s)) under told =
        let is : up (suc (suc h)) k ≡ a.shape.top = ap (λ (z : ℕ). up z k) (sym high) ∙ covers in
        let leads = at_inner p.plan ns p.contents p.pairs p.tree k h a.shape.top (Some (Below s)) is under in
        let j : ℕ = p.plan.home (suc h) (up (suc h) k) in
        let house = p.tree.housed (suc h) (up (suc h) k) leads.0 in
        let e : Spot = told.spot in
        let there = spot_of n e m told.tells in
        let number_is : e.number ≡ j = same_name p.plan ns p.nodes e there.0 j leads.0 house.low (sym told.named ∙ leads.1) in
        let shape_is : p.plan.shape j ≡ e.shape = ap p.plan.shape (sym number_is) ∙ there.1 in
        dite (ℕ_discrete (up e.shape.height k) e.shape.top)
        (λ yes. rec e told.tells yes)
        (λ no. missed p.plan ns p.contents p.pairs p.tree h k j (omega (arith, l)) leads.0 refl (λ c. no (subst (λ (z : Shape). Covers z k) shape_is c)) ∙ sym (told.beside k covers (ap (λ (z : ℕ). digit z k) high) no))

    told_same : (n : ℕ) (a : Spot) (m : Pairs ℕ) → Tells v.own n a m → (k : ℕ) → Covers a.shape k → lookup p.pairs k ≡ lookup m k
    told_same zero a m t k covers = absurd t
    told_same (suc n) a m t k covers =
        let l = is_locked a t.content t.held in
        let c : IsCurrent p.plan p.pairs a.shape t.content = subst (λ (z : Shape × Content). IsCurrent p.plan p.pairs z.0 z.1) (λ i. (l.shaped i, l.content i)) (p.tree.current a.number l.met.spot.below_root_word (ap (home_of p.plan) l.shaped ∙ l.current)) in
        let deep = c.deep in
        let b : ℕ = digit a.shape.height k in
        let low = digit-low a.shape.height k in
        by_kind n m k (λ e u cv. told_same n e m u k cv) a a.shape.height refl (omega (arith, deep)) covers (lookup c.its.children b) (c.under b low) (t.under c.its record { encodes = c.encodes; in_form = c.in_form; deep = c.deep } b low)

pub root_word_whole : (caller id : ℕ) → caller ≡ id → (v : View) (k word : ℕ) (saw : List (ℕ × ℕ)) (others : List Read) → acts.Learns IsMap id v k word saw others (LearnsWhole caller v k word saw)
root_word_whole caller id by v k word saw others ns vs p seat low is free agree fits =
    let x = p.each_view id v seat in
    let w : View = view_of p.history v.met v.own in (
      [],
      tt,
      (
        w,
        with_view ns vs id p w record { seen = sees_all id p.history; met = x.met; own = x.own; watched = tt },
        record {
          is = refl;
          fits = subst (λ (z : ℕ). HasSeen p.history z v.seen) (sym by) x.seen;
          pairs = p.pairs;
          legal = p.legal;
          rises = all_rise ns vs p;
          same = told_same ns vs p id v seat;
        },
      ),
    )

-- A LOOK AT THE ROOT WORD, which was taken
pub record HasRootTaken (v w : Seen) (n k : ℕ) : Type 0 where
  pub known : KnowsRootWord v
  pub at_k : 1 ≡ k
  pub took : Takes (reads k) v n none_joined w

module _ {v v₁ : Seen} {n k : ℕ} (r : HasRootTaken v v₁ n k) where
  taken : v₁ ≡ reading v 0 n []
  taken = root_word_taken v r.known k r.at_k v₁ n r.took

  pub taken_keeps : Keeps v v₁ × (v₁.client ≡ v.client)
  taken_keeps = reading_keeps v v₁ 0 n [] taken

  pub may_whole : (caller id : ℕ) → caller ≡ id → MayCheck v₁ k IsMap id (LearnsWhole caller) n
  may_whole caller id by = subst (λ (z : Seen). MayCheck z k IsMap id (LearnsWhole caller) n) (sym taken)
      (place 0 1 1, read 0 n [], (r.known, r.at_k), head_read 0 n [] v.reads, refl, root_word_whole caller id by v.client 0 n [] (read 0 n [] ∷ v.reads))

  module _ (caller : ℕ) (w : Seen) (m : ℕ) (told : Checks (LearnsWhole caller) (reads k) v₁ m none_joined w) where
    checked : plays.Checked (LearnsWhole caller v.client 0 n []) n (reading v 0 n []) m w
    checked = subst (λ (z : Seen). Checks (LearnsWhole caller) (reads k) z m none_joined w) taken told (place 0 1 1) (read 0 n []) r.known r.at_k (head_read 0 n [] v.reads)

    pub whole_missed : m ≢ n → Keeps v w × (w.client ≡ v.client)
    whole_missed ne = reading_keeps v w 0 n [] (checked.miss ne)

    pub whole_hit : m ≡ n → Keeps v w × HasWhole caller v.client w.client
    whole_hit hit =
        let h = checked.hit hit in
        let x : HasWhole caller v.client h.1 = h.3 in (
          learned_keeps v w h.0 h.1 (read 0 n [] ∷ v.reads) h.2 (λ z in_it. subst (λ (u : View). IsIn z u.met) (sym x.is) in_it) (ap (λ (u : View). u.own) x.is),
          subst (λ (z : Seen). HasWhole caller v.client z.client) (sym h.2) x,
        )
