-- A node that was obsolete becomes current, by the step that unlocks the node above it.
use Rattle.std.proofs.Common.{◌≡◌, ◌≢◌, ◌⊎◌, ⊎_elim, ℕ, zero, suc, ◌+◌, ◌*◌, ◌/◌, ◌<◌, ◌≤◌, Bool, cond, nat_eq, nat_lt, List, ◌∷◌, length, length-set, set, Option, Some, None, refl, sym, ap, ◌∙◌, subst, inl, inr, arith, eq-eqb, ne_eqb}
use Rattle.std.proofs.lemmas.Bool.{cases_order, lt-ltb, le-ltb}
use mathlib.Core.Option.{some}
use mathlib.Core.Logic.{dite}
use native.Mathlib.Decide.{ℕ_discrete}
use lib.ListN.{get_elem?}
use Rattle.spec_node.specs.TableNode.{Child}
use Rattle.spec_node.specs.declared.child.Child.TheVariants.{Payload, Node as Below}
use Rattle.live_nodes.proofs.Frames.{each_map, put_at, put_here, put_else}
use Rattle.live_nodes.specs.Nodes.{Content, at, Node, node}
use Rattle.live_nodes.specs.Seats.{Each}
use Rattle.live_nodes.specs.Levels.{Shape, name_of, bytes_above, IsBelow, Spot}
use Rattle.live_nodes.specs.Views.{View, view_of, Watch, Own, locked, detached, root_word}
use Rattle.live_nodes.specs.Tree.{Plan, home_of, IsFree, LeadsTo, IsHouse, Skips, IsCurrent, NamesRoot, IsSpot, IsMet, IsBound, NoLater, IsWatched, IsOwn, IsSettled, AreAlive, IsTree, IsMap}
use Rattle.live_nodes.proofs.Plans.{bytes_above-suc, bytes_above-own, none_below, at_home}
use Rattle.live_nodes.proofs.Changes.{with_map, no_later, not_bound, nodes_stay, settled_stays, is_here, is_else, low_stays}
use Rattle.live_nodes.proofs.Makes.{current_alike}

not_some : {A : Type 0} (x : A) → Some x ≡ None → ⊥
not_some x e = cc

one_seat : (i j : ℕ) → Some i ≡ Some j → i ≡ j
one_seat i j e = cc

pub le_or : (a b : ℕ) → (a ≤ b) ⊎ (b < a)
le_or a b = ⊎_elim (λ e. inl (omega (arith, e))) (λ o. ⊎_elim (λ l. inl (omega (arith, l))) (λ l. inr l) o) (cases_order a b)

-- THE PLAN, in which y is current, and the highest below the level above g
module _ (d : Plan) (y : Spot) (g : ℕ) where
  abbrev h₀ : ℕ
  h₀ = y.shape.height

  abbrev pub linked : Plan
  linked = record {
    shape = d.shape;
    home = λ h t. cond (nat_lt g h) (d.home h t) (cond (nat_lt h h₀) (d.home h t) (cond (nat_eq (bytes_above y.shape h) t) y.number (d.home h t)));
  }

  -- y is at this level
  abbrev pub IsOn : ℕ → ℕ → Type 0
  IsOn h t = (h ≤ g) × IsBelow y.shape h t

  abbrev middle : ℕ → ℕ → ℕ
  middle h t = cond (nat_lt h h₀) (d.home h t) (cond (nat_eq (bytes_above y.shape h) t) y.number (d.home h t))

  abbrev last : ℕ → ℕ → ℕ
  last h t = cond (nat_eq (bytes_above y.shape h) t) y.number (d.home h t)

  home_low : (h t : ℕ) → h ≤ g → linked.home h t ≡ middle h t
  home_low h t low = ap (λ (b : Bool). cond b (d.home h t) (middle h t)) (le-ltb g h low)

  home_tall : (h t : ℕ) → h ≤ g → h₀ ≤ h → linked.home h t ≡ last h t
  home_tall h t low tall = home_low h t low ∙ ap (λ (b : Bool). cond b (d.home h t) (last h t)) (le-ltb h h₀ tall)

  pub home_new : (h t : ℕ) → IsOn h t → linked.home h t ≡ y.number
  home_new h t on = home_tall h t on.0 on.1.0 ∙ ap (λ (b : Bool). cond b y.number (d.home h t)) (eq-eqb (bytes_above y.shape h) t on.1.1)

  pub home_old : (h t : ℕ) → (IsOn h t → ⊥) → linked.home h t ≡ d.home h t
  home_old h t off = ⊎_elim
      (λ low. ⊎_elim
      (λ tall. dite (ℕ_discrete (bytes_above y.shape h) t)
      (λ e. absurd (off (low, (tall, e))))
      (λ ne. home_tall h t low tall ∙ ap (λ (b : Bool). cond b y.number (d.home h t)) (ne_eqb (bytes_above y.shape h) t ne)))
      (λ short. home_low h t low ∙ ap (λ (b : Bool). cond b (d.home h t) (last h t)) (lt-ltb h h₀ short))
      (le_or h₀ h))
      (λ high. ap (λ (b : Bool). cond b (d.home h t) (middle h t)) (lt-ltb g h high))
      (le_or h g)

  on_or : (h t : ℕ) → IsOn h t ⊎ (IsOn h t → ⊥)
  on_or h t = ⊎_elim
      (λ low. ⊎_elim
      (λ tall. dite (ℕ_discrete (bytes_above y.shape h) t) (λ e. inl (low, (tall, e))) (λ ne. inr (λ on. ne on.1.1)))
      (λ short. inr (λ on. let l = on.1.0 in omega (arith, short, l)))
      (le_or h₀ h))
      (λ high. inr (λ on. let l = on.0 in omega (arith, high, l)))
      (le_or h g)

  -- either it is where y is, or the home is the same
  home_either : (h t : ℕ) → (IsOn h t × (linked.home h t ≡ y.number)) ⊎ ((IsOn h t → ⊥) × (linked.home h t ≡ d.home h t))
  home_either h t = ⊎_elim (λ on. inl (on, home_new h t on)) (λ off. inr (off, home_old h t off)) (on_or h t)

  more_homes : 1 ≤ y.number → (h t : ℕ) → 1 ≤ d.home h t → 1 ≤ linked.home h t
  more_homes some_node h t there = ⊎_elim (λ w. let e = w.1 in omega (arith, e, some_node)) (λ w. let e = w.1 in omega (arith, e, there)) (home_either h t)

  pub leads_old : (o : Option (Child ℕ)) (h t : ℕ) → (IsOn h t → ⊥) → LeadsTo d o (d.home h t) → LeadsTo linked o (linked.home h t)
  leads_old None h t off l = home_old h t off ∙ l
  leads_old (Some (Payload w)) h t off l = l
  leads_old (Some (Below w)) h t off l = let e = home_old h t off in (subst (λ (z : ℕ). 1 ≤ z) (sym e) l.0, l.1 ∙ ap (λ (z : ℕ). name_of (d.shape z)) (sym e))

-- A NODE THAT IS OFF the map, and that the seat has locked.
pub record IsOff (d : Plan) (ns : List Node) (cs : ℕ → Content) (id : ℕ) (y : Spot) (c : Content) : Type 0 where
  pub spot : IsSpot d ns y
  pub shaped : d.shape y.number ≡ y.shape
  pub nowhere : (h t : ℕ) → d.home h t ≢ y.number
  pub mine : (j : ℕ) → (node ns y.number).holder ≡ Some j → j ≡ id
  pub free : (node ns y.number).holder ≡ None → IsFree (node ns y.number)
  pub content : cs y.number ≡ c

-- THE STEP: node k becomes b, and y is current from then on. Where y is, o was, or nothing. Node k is above.
module _ (id : ℕ) (v : View) (y : Spot) (cy : Content) (k : ℕ) (b : Node) (ns : List Node) (vs : List View) (p : IsMap ns vs) (seat : get_elem? vs id ≡ some v) (low : k < length ns) (there : b.place ≡ (node ns k).place) (long : length b.content ≡ length (node ns k).content)
    (rises : (node ns k).word < b.word) (held : (node ns k).holder ≡ Some id) (b_free : IsFree b) (made : IsOff p.plan ns p.contents id y cy)
    (g : ℕ) (level : g ≤ 8) (tall : 1 ≤ y.shape.height) (reach : y.shape.height ≤ g)
    (o : ℕ) (was : (h : ℕ) → y.shape.height ≤ h → h ≤ g → p.plan.home h (bytes_above y.shape h) ≡ o) (shy : 1 ≤ o → g < 8)
    (occupied : (o ≡ 0) ⊎ (((p.plan.shape o).height ≤ y.shape.height) × (((node ns o).holder ≡ Some id) ⊎ ((p.plan.shape o).height < y.shape.height))))
    (roof : p.plan.home (suc g) (bytes_above y.shape (suc g)) ≡ k) (roof_high : 1 ≤ k → (p.plan.shape k).height ≡ suc g) (roofed : g < 8 → 1 ≤ k) where
  abbrev d : Plan
  d = p.plan

  abbrev d' : Plan
  d' = linked d y g

  abbrev ns' : List Node
  ns' = set ns k b

  abbrev hy : ℕ
  hy = y.shape.height

  some_y : 1 ≤ y.number
  some_y = made.spot.below_root_word

  abbrev pub cs' : ℕ → Content
  cs' = put_at p.contents k b.content

  k_current : 1 ≤ k → home_of d (d.shape k) ≡ k
  k_current some_node = subst (λ (z : ℕ). home_of d (d.shape z) ≡ z) roof (at_home d ns p.contents p.pairs p.tree (suc g) (bytes_above y.shape (suc g)) (subst (λ (z : ℕ). 1 ≤ z) (sym roof) some_node))

  y_not_k : y.number ≢ k
  y_not_k e = made.nowhere (d.shape k).height (d.shape k).top (k_current (omega (arith, e, some_y)) ∙ sym e)

  else_cs : (j : ℕ) → j ≢ k → cs' j ≡ p.contents j
  else_cs j ne = put_else p.contents k b.content j ne

  -- what this seat doesn't hold isn't where y will be
  home_met : (j : ℕ) → 1 ≤ j → (node ns j).holder ≢ Some id → home_of d (d.shape j) ≡ j → home_of d' (d.shape j) ≡ j
  home_met j some_j ne here = let s : Shape = d.shape j in ⊎_elim
      (λ w.
      let on = w.0 in
      let is_o : o ≡ j = sym (was s.height on.1.0 on.0) ∙ (ap (d.home s.height) on.1.1 ∙ here) in
      let high : (d.shape o).height ≡ s.height = ap (λ (z : ℕ). (d.shape z).height) is_o in
      absurd (⊎_elim
      (λ zero_is. omega (arith, zero_is, is_o, some_j))
      (λ z. ⊎_elim
      (λ mine. ne (ap (λ (x : ℕ). (node ns x).holder) (sym is_o) ∙ mine))
      (λ lower. let l = on.1.0 in omega (arith, lower, high, l))
      z.1)
      occupied))
      (λ w. w.1 ∙ here)
      (home_either d y g s.height s.top)

  k_stays : 1 ≤ k → home_of d' (d.shape k) ≡ k
  k_stays some_k = home_old d y g (d.shape k).height (d.shape k).top (λ on. let l = on.0 in let high = roof_high some_k in omega (arith, l, high)) ∙ k_current some_k

  y_home : home_of d' y.shape ≡ y.number
  y_home = home_new d y g hy y.shape.top (reach, ((let e : hy ≤ hy = omega arith in e), bytes_above-own y.shape))

  root_stays : (a : Spot) → 1 ≤ a.number → a.shape.height ≡ 8 → home_of d a.shape ≡ a.number → home_of d' a.shape ≡ a.number
  root_stays a some_a high here = ⊎_elim
      (λ w.
      let on = w.0 in
      let is_o : o ≡ a.number = sym (was a.shape.height on.1.0 on.0) ∙ (ap (d.home a.shape.height) on.1.1 ∙ here) in
      absurd (let l = shy (omega (arith, is_o, some_a)) in let m = on.0 in omega (arith, l, m, high)))
      (λ w. w.1 ∙ here)
      (home_either d y g a.shape.height a.shape.top)

  none_not_mine : None ≢ Some id
  none_not_mine e = not_some id (sym e)

  spot_links : (a : Spot) → IsSpot d ns a → IsSpot d' ns' a
  spot_links a s = record { below_root_word = s.below_root_word; low = low_stays d ns k b low there long a.number s.low; key = s.key; form = s.form }

  pub met_links : (a : Spot) → IsMet d ns a → IsMet d' ns' a
  met_links a m = record {
    spot = spot_links a m.spot;
    lasts = λ high. let l = m.lasts high in (l.0, root_stays a m.spot.below_root_word high l.1);
    current = dite (ℕ_discrete a.number k)
        (λ e f. subst (λ (z : ℕ). home_of d' (d.shape z) ≡ z) (sym e) (k_stays (subst (λ (z : ℕ). 1 ≤ z) e m.spot.below_root_word)))
        (λ ne f. let g : IsFree (node ns a.number) = subst IsFree (is_else d ns k b low there long a.number ne) f in
        home_met a.number m.spot.below_root_word (λ e. none_not_mine (sym g.0 ∙ e)) (m.current g));
  }

  pub watch_links : (j : ℕ) → j ≢ id → (x : Watch) → IsWatched d ns j x → IsWatched d' ns' j x
  watch_links j other x w = record {
    below_root_word = w.below_root_word;
    low = low_stays d ns k b low there long x.above w.low;
    later = dite (ℕ_discrete x.above k)
        (λ e. subst (NoLater x.word) (sym (is_here d ns k b low there long x.above e)) (no_later x.word (node ns k) b rises (subst (λ (z : ℕ). NoLater x.word (node ns z)) e w.later)))
        (λ ne. subst (NoLater x.word) (sym (is_else d ns k b low there long x.above ne)) w.later);
    leads = dite (ℕ_discrete x.above k)
        (λ e bound. absurd (not_bound j x.word (node ns k) b rises (λ mine. not_some j (sym mine ∙ b_free.0)) (subst (λ (z : ℕ). NoLater x.word (node ns z)) e w.later) (subst (IsBound j x.word) (is_here d ns k b low there long x.above e) bound)))
        (λ ne bound.
        let as_was = is_else d ns k b low there long x.above ne in
        let bound' = subst (IsBound j x.word) as_was bound in
        let not_mine : (node ns x.above).holder ≢ Some id = bound_else j other x.word (node ns x.above) bound' in
        let l = w.leads bound' in
        let a : Spot = x.spot in
        let lv : ℕ = l.level in
        let up_is : bytes_above a.shape lv / 256 ≡ bytes_above a.shape (suc lv) = sym (bytes_above-suc a.shape lv l.tall) in
        let low_a : (d.shape a.number).height ≤ lv = subst (λ (z : Shape). z.height ≤ lv) (sym l.shaped) l.tall in
        record {
          level = lv;
          some_node = l.some_node;
          shaped = l.shaped;
          tall = l.tall;
          here = ⊎_elim
              (λ t.
              let on = t.0 in
              let is_a : o ≡ a.number = sym (was lv on.1.0 on.0) ∙ (ap (d.home lv) on.1.1 ∙ l.here) in
              absurd (⊎_elim
              (λ in_it.
              let on' = subst (IsOn d y g (suc lv)) up_is (above_on lv (bytes_above a.shape lv) in_it on) in
              let is_above : o ≡ x.above = sym (was (suc lv) on'.1.0 on'.0) ∙ (ap (d.home (suc lv)) on'.1.1 ∙ l.above) in
              let high = ap (λ (z : ℕ). (d.shape z).height) (sym is_a ∙ is_above) in let tall_x = l.above_high in omega (arith, high, tall_x, low_a))
              (λ out. ne (sym l.above ∙ (ap (d.home (suc lv)) (sym up_is) ∙ at_top lv (bytes_above a.shape lv) out on)))
              (le_or (suc lv) g)))
              (λ t. t.1 ∙ l.here)
              (home_either d y g lv (bytes_above a.shape lv));
          above = ⊎_elim
              (λ t.
              let on = t.0 in
              let is_x : o ≡ x.above = sym (was (suc lv) on.1.0 on.0) ∙ (ap (d.home (suc lv)) on.1.1 ∙ l.above) in
              absurd (⊎_elim
              (λ zero_is. let n = w.below_root_word in omega (arith, zero_is, is_x, n))
              (λ z. ⊎_elim
              (λ mine. not_mine (ap (λ (i : ℕ). (node ns i).holder) (sym is_x) ∙ mine))
              (λ lower. let high = ap (λ (i : ℕ). (d.shape i).height) is_x in let tall_x = l.above_high in let t = on.1.0 in omega (arith, lower, high, tall_x, t))
              z.1)
              occupied))
              (λ t. t.1 ∙ l.above)
              (home_either d y g (suc lv) (bytes_above a.shape (suc lv)));
          above_high = l.above_high;
        });
  }
    where
      bound_else : (j : ℕ) → j ≢ id → (o : Option ℕ) (a : Node) → IsBound j o a → a.holder ≢ Some id
      bound_else j ne (Some t) a bound mine = not_some id (sym mine ∙ bound.0)
      bound_else j ne None a bound mine = ne (one_seat j id (sym bound ∙ mine))

      above_on : (h t : ℕ) → suc h ≤ g → IsOn d y g h t → IsOn d y g (suc h) (t / 256)
      above_on h t low on = (low, ((let l = on.1.0 in omega (arith, l)), bytes_above-suc y.shape h on.1.0 ∙ ap (λ (z : ℕ). z / 256) on.1.1))

      at_top : (h t : ℕ) → g < suc h → IsOn d y g h t → d.home (suc h) (t / 256) ≡ k
      at_top h t high on =
          let same : h ≡ g = (let l = on.0 in omega (arith, l, high)) in
          ap (λ (z : ℕ × ℕ). d.home z.0 z.1) (λ i. (suc (same i), (ap (λ (z : ℕ). z / 256) (sym on.1.1) ∙ (sym (bytes_above-suc y.shape h on.1.0) ∙ ap (λ (z : ℕ). bytes_above y.shape (suc z)) same)) i)) ∙ roof

  own_links : (j : ℕ) → j ≢ id → (o : Own) → IsOwn d ns p.contents j o → IsOwn d' ns' cs' j o
  own_links j ne (locked a c) h = let other = others j ne a.number h.holder in record {
    met = met_links a h.met;
    shaped = h.shaped;
    holder = ap (λ (z : Node). z.holder) (is_else d ns k b low there long a.number other) ∙ h.holder;
    content = else_cs a.number other ∙ h.content;
    current = ap (home_of d') (sym h.shaped) ∙ home_met a.number h.met.spot.below_root_word (λ e. ne (one_seat j id (sym h.holder ∙ e))) (ap (home_of d) h.shaped ∙ h.current);
  }
    where
      others : (j : ℕ) → j ≢ id → (a : ℕ) → (node ns a).holder ≡ Some j → a ≢ k
      others j ne a h e = ne (one_seat j id (sym h ∙ (ap (λ (z : ℕ). (node ns z).holder) e ∙ held)))
  own_links j ne (detached a) h =
      let other : a.number ≢ k = λ e. ne (one_seat j id (sym h.holder ∙ (ap (λ (z : ℕ). (node ns z).holder) e ∙ held))) in
      let not_y : y.number ≢ a.number = λ e. ne (made.mine j (ap (λ (z : ℕ). (node ns z).holder) e ∙ h.holder)) in record {
        spot = spot_links a h.spot;
        holder = ap (λ (z : Node). z.holder) (is_else d ns k b low there long a.number other) ∙ h.holder;
        replaced = λ here. ⊎_elim (λ w. not_y (sym w.1 ∙ here)) (λ w. h.replaced (sym w.1 ∙ here)) (home_either d y g (d.shape a.number).height (d.shape a.number).top);
      }
  own_links j ne (root_word c) h =
      let other : 0 ≢ k = λ e. ne (one_seat j id (sym h.0 ∙ (ap (λ (z : ℕ). (node ns z).holder) e ∙ held))) in
      (ap (λ (z : Node). z.holder) (is_else d ns k b low there long 0 other) ∙ h.0, ap (λ (z : Node). z.content) (is_else d ns k b low there long 0 other) ∙ h.1)

  pub y_met : IsMet d' ns' y
  y_met = record {
    spot = spot_links y made.spot;
    lasts = λ _. (made.shaped, y_home);
    current = λ _. ap (home_of d') made.shaped ∙ y_home;
  }

  pub y_content : cs' y.number ≡ cy
  y_content = else_cs y.number y_not_k ∙ made.content

  settled_links : IsSettled ns' cs'
  settled_links = settled_stays d ns k b low there long p.contents cs' p.settled (λ _ _. sym (put_here p.contents k b.content)) else_cs

  alive_links : AreAlive d' ns'
  alive_links j some_node l here free = dite (ℕ_discrete j k)
      (λ e. subst IsFree (sym (is_here d ns k b low there long j e)) b_free)
      (λ ne. let same = is_else d ns k b low there long j ne in
      let none : (node ns j).holder ≡ None = ap (λ (z : Node). z.holder) (sym same) ∙ free in
      let low_j : j < length ns = omega (arith, l, length-set ns k b) in
      subst IsFree (sym same) (⊎_elim
      (λ w. let is_y : y.number ≡ j = sym w.1 ∙ here in subst (λ (z : ℕ). IsFree (node ns z)) is_y (made.free (ap (λ (z : ℕ). (node ns z).holder) is_y ∙ none)))
      (λ w. p.alive j some_node low_j (sym w.1 ∙ here) none)
      (home_either d y g (d.shape j).height (d.shape j).top)))

  -- the level above y is node k's
  at_roof : (h t : ℕ) → g < suc h → IsOn d y g h t → d.home (suc h) (t / 256) ≡ k
  at_roof h t high on =
      let same : h ≡ g = (let l = on.0 in omega (arith, l, high)) in
      ap (λ (z : ℕ × ℕ). d.home z.0 z.1) (λ i. (suc (same i), (ap (λ (z : ℕ). z / 256) (sym on.1.1) ∙ (sym (bytes_above-suc y.shape h on.1.0) ∙ ap (λ (z : ℕ). bytes_above y.shape (suc z)) same)) i)) ∙ roof

  on_above : (h t : ℕ) → suc h ≤ g → IsOn d y g h t → IsOn d y g (suc h) (t / 256)
  on_above h t low on = (low, ((let l = on.1.0 in omega (arith, l)), bytes_above-suc y.shape h on.1.0 ∙ ap (λ (z : ℕ). z / 256) on.1.1))

  upward_links : (h t : ℕ) → h < 8 → 1 ≤ d'.home h t → 1 ≤ d'.home (suc h) (t / 256)
  upward_links h t l some_node = ⊎_elim
      (λ w. ⊎_elim
      (λ in_it. subst (λ (z : ℕ). 1 ≤ z) (sym (home_new d y g (suc h) (t / 256) (on_above h t in_it w.0))) some_y)
      (λ out. more_homes d y g some_y (suc h) (t / 256) (subst (λ (z : ℕ). 1 ≤ z) (sym (at_roof h t out w.0)) (roofed (let low = w.0.0 in omega (arith, low, out, l)))))
      (le_or (suc h) g))
      (λ w. more_homes d y g some_y (suc h) (t / 256) (p.tree.upward h t l (subst (λ (z : ℕ). 1 ≤ z) w.1 some_node)))
      (home_either d y g h t)

  -- beside y nothing was where o was
  was_gone : (h t x : ℕ) → x < 256 → IsOn d y g (suc h) t → hy ≤ h → (IsBelow y.shape h (256 * t + x) → ⊥) → d.home h (256 * t + x) ≡ 0
  was_gone h t x lo on tall_h off =
      let above : d.home (suc h) t ≡ o = ap (d.home (suc h)) (sym on.1.1) ∙ was (suc h) on.1.0 on.0 in
      let here : d.home h (bytes_above y.shape h) ≡ o = was h tall_h (let l = on.0 in omega (arith, l)) in
      ⊎_elim
      (λ zero_is. none_below d ns p.contents p.pairs p.tree h t x (let l = on.0 in omega (arith, l, level)) lo (above ∙ zero_is))
      (λ z. dite (ℕ_discrete o 0)
      (λ zero_is. none_below d ns p.contents p.pairs p.tree h t x (let l = on.0 in omega (arith, l, level)) lo (above ∙ zero_is))
      (λ ne.
      let some_o : 1 ≤ o = some_of o ne in
      let lower : (d.shape o).height ≤ h = (let l = z.0 in omega (arith, l, tall_h)) in
      let same_bytes : bytes_above (d.shape o) h ≡ bytes_above y.shape h = subst (λ (j : ℕ). bytes_above (d.shape j) h ≡ bytes_above y.shape h) here (p.tree.housed h (bytes_above y.shape h) (subst (λ (j : ℕ). 1 ≤ j) (sym here) some_o)).below.1 in
      (p.tree.skips h t x lo (subst (λ (j : ℕ). 1 ≤ j) (sym above) some_o) (subst (λ (j : ℕ). (d.shape j).height ≤ h) (sym above) lower)).1
      (λ bl. off (tall_h, sym same_bytes ∙ (subst (λ (j : ℕ). IsBelow (d.shape j) h (256 * t + x)) above bl).1))))
      occupied
    where
      some_of : (j : ℕ) → j ≢ 0 → 1 ≤ j
      some_of zero ne = absurd (ne refl)
      some_of (suc j) ne = omega arith

  skips_links : (h t x : ℕ) → x < 256 → 1 ≤ d'.home (suc h) t → (d'.shape (d'.home (suc h) t)).height ≤ h → Skips d' h (256 * t + x) (d'.home (suc h) t)
  skips_links h t x lo some_node lower = ⊎_elim
      (λ w.
      let sh = made.shaped in
      let tall_h : hy ≤ h = subst (λ (z : Shape). z.height ≤ h) sh (subst (λ (z : ℕ). (d.shape z).height ≤ h) w.1 lower) in
      let low_h : h ≤ g = (let l = w.0.0 in omega (arith, l)) in
      subst (λ (z : ℕ). Skips d' h (256 * t + x) z) (sym w.1) (
        (λ bl. home_new d y g h (256 * t + x) (low_h, subst (λ (z : Shape). IsBelow z h (256 * t + x)) sh bl)),
        (λ off. let gone : IsBelow y.shape h (256 * t + x) → ⊥ = λ bl. off (subst (λ (z : Shape). IsBelow z h (256 * t + x)) (sym sh) bl) in
            home_old d y g h (256 * t + x) (λ on. gone on.1) ∙ was_gone h t x lo w.0 tall_h gone),
      ))
      (λ w.
      let some' : 1 ≤ d.home (suc h) t = subst (λ (z : ℕ). 1 ≤ z) w.1 some_node in
      let lower' : (d.shape (d.home (suc h) t)).height ≤ h = subst (λ (z : ℕ). (d.shape z).height ≤ h) w.1 lower in
      let sk = p.tree.skips h t x lo some' lower' in
      let up_is : (256 * t + x) / 256 ≡ t = omega (arith, lo) in
      let not_on : IsOn d y g h (256 * t + x) → ⊥ = λ on. ⊎_elim
      (λ in_it. w.0 (subst (IsOn d y g (suc h)) up_is (on_above h (256 * t + x) in_it on)))
      (λ out.
      let is_k : d.home (suc h) t ≡ k = ap (d.home (suc h)) (sym up_is) ∙ at_roof h (256 * t + x) out on in
      let some_k : 1 ≤ k = subst (λ (z : ℕ). 1 ≤ z) is_k some' in
      let high = roof_high some_k in
      let short : (d.shape k).height ≤ h = subst (λ (z : ℕ). (d.shape z).height ≤ h) is_k lower' in
      let l = on.0 in omega (arith, high, short, l, out))
      (le_or (suc h) g) in
      subst (λ (z : ℕ). Skips d' h (256 * t + x) z) (sym w.1) (
        (λ bl. home_old d y g h (256 * t + x) not_on ∙ sk.0 bl),
        (λ nb. home_old d y g h (256 * t + x) not_on ∙ sk.1 nb),
      ))
      (home_either d y g (suc h) t)

  -- no other node leads to y
  only_one : (j : ℕ) → j ≢ k → home_of d (d.shape j) ≡ j → (IsOn d y g (d.shape j).height (d.shape j).top → ⊥) → (h x : ℕ) → x < 256 → (d.shape j).height ≡ suc (suc h) → IsOn d y g (suc h) (256 * (d.shape j).top + x) → ⊥
  only_one j ne here out h x lo high on =
      let top : ℕ = (d.shape j).top in
      let up_is : (256 * top + x) / 256 ≡ top = omega (arith, lo) in
      ⊎_elim
      (λ in_it. out (subst (λ (z : ℕ). IsOn d y g z top) (sym high) (subst (IsOn d y g (suc (suc h))) up_is (on_above (suc h) (256 * top + x) in_it on))))
      (λ above. ne (sym here ∙ (ap (λ (z : ℕ × ℕ). d.home z.0 z.1) (λ i. (high i, sym up_is i)) ∙ at_roof (suc h) (256 * top + x) above on)))
      (le_or (suc (suc h)) g)

  module _ (root : NamesRoot d' (at (node ns' 0).content 0))
      (at_root : IsOn d y g 8 0 → y.shape.height ≡ 8)
      (of_y : IsCurrent d' p.pairs y.shape cy)
      (of_k : 1 ≤ k → home_of d (d.shape k) ≡ k → IsCurrent d' p.pairs (d.shape k) b.content) where
    links_tree : IsTree d' ns' cs' p.pairs
    links_tree = let t = p.tree in record {
      root = root;
      rooted = λ some_node. ⊎_elim
          (λ w. subst (λ (z : ℕ). (d.shape z).height ≡ 8) (sym w.1) (ap (λ (z : Shape). z.height) made.shaped ∙ at_root w.0))
          (λ w. subst (λ (z : ℕ). (d.shape z).height ≡ 8) (sym w.1) (t.rooted (subst (λ (z : ℕ). 1 ≤ z) w.1 some_node)))
          (home_either d y g 8 0);
      housed = λ h s some_node. ⊎_elim
          (λ w. let sh = made.shaped in
          subst (λ (z : ℕ). IsHouse d' ns' h s z) (sym w.1) record {
            low = y_met.spot.low;
            level = (let l = w.0.0 in omega (arith, l, level));
            some_height = subst (λ (z : Shape). 1 ≤ z.height) (sym sh) tall;
            below = subst (λ (z : Shape). IsBelow z h s) (sym sh) w.0.1;
          })
          (λ w. let o = t.housed h s (subst (λ (z : ℕ). 1 ≤ z) w.1 some_node) in
          subst (λ (z : ℕ). IsHouse d' ns' h s z) (sym w.1) record {
            low = low_stays d ns k b low there long (d.home h s) o.low;
            level = o.level;
            some_height = o.some_height;
            below = o.below;
          })
          (home_either d y g h s);
      upward = upward_links;
      skips = skips_links;
      current = λ j some_node here. dite (ℕ_discrete j y.number)
          (λ e. subst (λ (z : ℕ). IsCurrent d' p.pairs (d.shape z) (cs' z)) (sym e)
          (subst (λ (z : Shape × Content). IsCurrent d' p.pairs z.0 z.1) (λ i. (sym made.shaped i, sym y_content i)) of_y))
          (λ not_it. ⊎_elim
          (λ w. absurd (not_it (sym here ∙ w.1)))
          (λ w. let at_home' = sym w.1 ∙ here in dite (ℕ_discrete j k)
          (λ e. subst (λ (z : ℕ). IsCurrent d' p.pairs (d.shape z) (cs' z)) (sym e)
          (subst (IsCurrent d' p.pairs (d.shape k)) (sym (put_here p.contents k b.content)) (of_k (subst (λ (z : ℕ). 1 ≤ z) e some_node) (subst (λ (z : ℕ). home_of d (d.shape z) ≡ z) e at_home'))))
          (λ ne. subst (IsCurrent d' p.pairs (d.shape j)) (sym (else_cs j ne))
          (current_alike d d' p.pairs (d.shape j) (p.contents j)
          (λ o h x l at_h. leads_old d y g o (suc h) (256 * (d.shape j).top + x) (only_one j ne at_home' w.0 h x l at_h))
          (t.current j some_node at_home'))))
          (home_either d y g (d.shape j).height (d.shape j).top));
      absent = λ x none. t.absent x (zero_of (d.home 1 (x / 256)) (λ some_node. let m = more_homes d y g some_y 1 (x / 256) some_node in omega (arith, m, none)));
    }
      where
        zero_of : (j : ℕ) → (1 ≤ j → ⊥) → j ≡ 0
        zero_of zero never = refl
        zero_of (suc j) never = absurd (never (omega arith))

    pub links_map : (os : List Own) → Each (IsOwn d' ns' cs' id) os → IsMap ns' (set vs id (view_of v.seen (y ∷ v.met) os))
    links_map os own = let kn = p.each_view id v seat in
        with_map ns vs id p ns' (view_of v.seen (y ∷ v.met) os) d' cs' p.history p.pairs p.legal
        (let n = nodes_stay d ns k b low there long p.nodes in record { some_root_word = n.some_root_word; root_word_long = n.root_word_long; placed = n.placed; long = n.long; apart = n.apart })
        settled_links alive_links links_tree met_links watch_links own_links (λ j ne s h. h) p.unborn record {
          seen = kn.seen;
          met = (y_met, each_map (IsMet d ns) (IsMet d' ns') v.met met_links kn.met);
          own = own;
          watched = tt;
        }
