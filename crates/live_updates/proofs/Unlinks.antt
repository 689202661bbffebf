-- A node without children is current no more, by the step that unlocks the node above it.
use Rattle.std.proofs.Common.{◌≡◌, ◌≢◌, ⊎_elim, ℕ, zero, suc, ◌+◌, ◌-◌, ◌*◌, ◌/◌, ◌%◌, ◌<◌, ◌≤◌, Bool, cond, nat_eq, List, [], ◌∷◌, length, length-set, set, Option, Some, None, refl, sym, ap, ◌∙◌, subst, inl, inr, arith, eq-eqb, ne_eqb}
use mathlib.Core.Option.{some}
use mathlib.Core.Logic.{dite}
use native.Mathlib.Decide.{ℕ_discrete}
use lib.ListN.{get_elem?}
use Rattle.spec_node.specs.TableNode.{TableNode, Child}
use Rattle.spec_node.specs.declared.child.Child.TheVariants.{Payload, Node as Below}
use Rattle.spec_map.specs.Map.{Pairs, lookup, without}
use Rattle.spec_map.proofs.MapLaws.{lookup-without_same, lookup-without_other}
use Rattle.live_nodes.proofs.Frames.{each_map, put_at, put_here, put_else}
use Rattle.live_nodes.specs.Nodes.{Content, at, Node, node, node_at}
use Rattle.live_nodes.specs.Acts as acts
use Rattle.live_layout.specs.Encodes.{words_of, Encodes, IsBelow as IsChild, with_child}
use Rattle.live_nodes.specs.Levels.{digit, Shape, name_of, bytes_above, Spot}
use Rattle.live_nodes.specs.Views.{View, view_of, Watch, Own, locked, detached, root_word}
use Rattle.live_nodes.specs.Tree.{Plan, home_of, IsFree, LeadsTo, IsUnder, IsHouse, Skips, IsCurrent, NamesRoot, IsSpot, IsMet, IsBound, NoLater, IsWatched, IsLocked, IsOwn, AreAlive, IsTree, IsMap}
use Rattle.live_nodes.proofs.Plans.{bytes_above-suc, bytes_above-own, descends, same_name, digit-low}
use Rattle.live_nodes.proofs.Changes.{with_map, no_later, not_bound, nodes_stay, settled_stays, is_here, is_else, low_stays}
use Rattle.live_nodes.proofs.Makes.{current_alike}
use Rattle.live_nodes.proofs.Writes.{current_at, its_own}
use Rattle.live_nodes.proofs.Links.{le_or}
use Rattle.live_nodes.proofs.Joins.{HadWord, Spells}
use Rattle.live_updates.proofs.Ordered.{encodes_rise}
use Rattle.live_updates.specs.Two.{HasNone}
use Rattle.live_updates.specs.Unlinks.{left_out, Unlinks}

not_some : {A : Type 0} (x : A) → Some x ≡ None → ⊥
not_some x e = cc

one_seat : (i j : ℕ) → Some i ≡ Some j → i ≡ j
one_seat i j e = cc

-- THE PLAN, in which node x is nowhere
module _ (d : Plan) (x : ℕ) where
  abbrev pub unlinked : Plan
  unlinked = record { shape = d.shape; home = λ h t. cond (nat_eq (d.home h t) x) 0 (d.home h t) }

  gone : (h t : ℕ) → d.home h t ≡ x → unlinked.home h t ≡ 0
  gone h t e = ap (λ (b : Bool). cond b 0 (d.home h t)) (eq-eqb (d.home h t) x e)

  stays : (h t : ℕ) → d.home h t ≢ x → unlinked.home h t ≡ d.home h t
  stays h t ne = ap (λ (b : Bool). cond b 0 (d.home h t)) (ne_eqb (d.home h t) x ne)

  -- Where a node is, it was, and it is another one.
  there : (h t j : ℕ) → 1 ≤ j → unlinked.home h t ≡ j → (d.home h t ≡ j) × (j ≢ x)
  there h t j some_node e = dite (ℕ_discrete (d.home h t) x)
      (λ s. absurd (let z = gone h t s in omega (arith, z, e, some_node)))
      (λ ne. (sym (stays h t ne) ∙ e, λ s. ne (sym (stays h t ne) ∙ (e ∙ s))))

  keeps : (h t j : ℕ) → d.home h t ≡ j → j ≢ x → unlinked.home h t ≡ j
  keeps h t j e ne = stays h t (λ s. ne (sym e ∙ s)) ∙ e

  none_stays : (h t : ℕ) → d.home h t ≡ 0 → unlinked.home h t ≡ 0
  none_stays h t e = dite (ℕ_discrete (d.home h t) x) (gone h t) (λ ne. stays h t ne ∙ e)

  leads_old : (o : Option (Child ℕ)) (h t : ℕ) → d.home h t ≢ x → LeadsTo d o (d.home h t) → LeadsTo unlinked o (unlinked.home h t)
  leads_old None h t ne l = stays h t ne ∙ l
  leads_old (Some (Payload w)) h t ne l = l
  leads_old (Some (Below w)) h t ne l = let e = stays h t ne in (subst (λ (z : ℕ). 1 ≤ z) (sym e) l.0, l.1 ∙ ap (λ (z : ℕ). name_of (d.shape z)) (sym e))

-- what a node without children has under a byte
empty_leaf : (d : Plan) (m : Pairs ℕ) (height top b : ℕ) → height ≡ 1 → IsUnder d m height top b None → lookup m (256 * top + b) ≡ None
empty_leaf d m height top b e u = subst (λ (z : ℕ). IsUnder d m z top b None) e u

under_inner : (d : Plan) (m : Pairs ℕ) (height h top x : ℕ) (o : Option (Child ℕ)) → height ≡ suc (suc h) → IsUnder d m height top x o → LeadsTo d o (d.home (suc h) (256 * top + x))
under_inner d m height h top x o e u = subst (λ (z : ℕ). IsUnder d m z top x o) e u

inner_under : (d : Plan) (m : Pairs ℕ) (height h top x : ℕ) (o : Option (Child ℕ)) → height ≡ suc (suc h) → LeadsTo d o (d.home (suc h) (256 * top + x)) → IsUnder d m height top x o
inner_under d m height h top x o e u = subst (λ (z : ℕ). IsUnder d m z top x o) (sym e) u

-- A CURRENT NODE x without children, and node k, which leads to it
module _ (d : Plan) (ns : List Node) (cs : ℕ → Content) (m : Pairs ℕ) (t : IsTree d ns cs m) (x k : ℕ) (some_x : 1 ≤ x) (empty : (b : ℕ) → b < 256 → IsUnder d m (d.shape x).height (d.shape x).top b None)
    (hq top byte : ℕ) (byte_low : byte < 256) (leads : d.home (suc hq) (256 * top + byte) ≡ x) (above : d.home (suc (suc hq)) top ≡ k) (above_high : (d.shape k).height ≡ suc (suc hq)) where
  abbrev sx : Shape
  sx = d.shape x

  abbrev hx : ℕ
  hx = sx.height

  house : (h s : ℕ) → d.home h s ≡ x → IsHouse d ns h s x
  house h s e = subst (λ (z : ℕ). IsHouse d ns h s z) e (t.housed h s (subst (λ (z : ℕ). 1 ≤ z) (sym e) some_x))

  -- at each level down to its own
  down : (a c : ℕ) → hx ≤ a → a ≤ c → d.home c (bytes_above sx c) ≡ x → d.home a (bytes_above sx a) ≡ x
  down a c tall low e = descends d ns cs m t (c - a) a x some_x tall (subst (λ (z : ℕ). d.home z (bytes_above sx z) ≡ x) (let s : c ≡ c - a + a = omega (arith, low) in s) e)

  -- Only k leads to it.
  one_above : (h s j : ℕ) → d.home h s ≡ x → d.home (suc h) (s / 256) ≡ j → (d.shape j).height ≡ suc h → j ≡ k
  one_above h s j here up_j high_j =
      let a = (house h s here).below in
      let b = (house (suc hq) (256 * top + byte) leads).below in
      let low_a = a.0 in
      let low_b = b.0 in
      let x_a : d.home h (bytes_above sx h) ≡ x = ap (d.home h) a.1 ∙ here in
      let x_b : d.home (suc hq) (bytes_above sx (suc hq)) ≡ x = ap (d.home (suc hq)) b.1 ∙ leads in
      let top_a : bytes_above sx (suc h) ≡ s / 256 = bytes_above-suc sx h low_a ∙ ap (λ (z : ℕ). z / 256) a.1 in
      let cut : (256 * top + byte) / 256 ≡ top = omega (arith, byte_low) in
      let top_b : bytes_above sx (suc (suc hq)) ≡ top = bytes_above-suc sx (suc hq) low_b ∙ (ap (λ (z : ℕ). z / 256) b.1 ∙ cut) in
      let is_j : d.home (suc h) (bytes_above sx (suc h)) ≡ j = ap (d.home (suc h)) top_a ∙ up_j in
      let is_k : d.home (suc (suc hq)) (bytes_above sx (suc (suc hq))) ≡ k = ap (d.home (suc (suc hq))) top_b ∙ above in
      dite (ℕ_discrete h (suc hq))
      (λ same. sym is_j ∙ (ap (λ (z : ℕ). d.home (suc z) (bytes_above sx (suc z))) same ∙ is_k))
      (λ ne. ⊎_elim
      (λ lower.
      let x_up = down (suc h) (suc hq) (omega (arith, low_a)) (omega (arith, lower)) x_b in
      let is_x : j ≡ x = sym is_j ∙ x_up in
      let high : (d.shape j).height ≡ hx = ap (λ (z : ℕ). (d.shape z).height) is_x in
      absurd (omega (arith, high, high_j, low_a)))
      (λ higher.
      let x_up = down (suc (suc hq)) h (omega (arith, low_b)) (omega (arith, higher, ne)) x_a in
      let is_x : k ≡ x = sym is_k ∙ x_up in
      let high : (d.shape k).height ≡ hx = ap (λ (z : ℕ). (d.shape z).height) is_x in
      absurd (omega (arith, high, above_high, low_b)))
      (le_or h hq))

  -- Nothing is below it.
  nothing_below : (h s : ℕ) → h < 8 → d.home (suc h) (s / 256) ≡ x → 1 ≤ d.home h s → d.home h s ≡ x
  nothing_below h s l here some_node =
      let b = (house (suc h) (s / 256) here).below in
      let low = b.0 in
      let joins : 256 * (s / 256) + s % 256 ≡ s = omega arith in
      let lo : s % 256 < 256 = omega arith in
      dite (ℕ_discrete hx (suc h))
      (λ same.
      let its_top : sx.top ≡ s / 256 = sym (bytes_above-own sx) ∙ (ap (bytes_above sx) same ∙ b.1) in
      absurd (own_level h s same its_top joins lo some_node))
      (λ ne.
      let short : hx ≤ h = omega (arith, low, ne) in
      let sk : Skips d h (256 * (s / 256) + s % 256) x = subst (Skips d h (256 * (s / 256) + s % 256)) here (t.skips h (s / 256) (s % 256) lo (subst (λ (z : ℕ). 1 ≤ z) (sym here) some_x) (subst (λ (z : ℕ). (d.shape z).height ≤ h) (sym here) short)) in
      let sk' : Skips d h s x = subst (λ (z : ℕ). Skips d h z x) joins sk in
      dite (ℕ_discrete (bytes_above sx h) s)
      (λ is. sk'.0 (short, is))
      (λ no. absurd (let z = sk'.1 (λ bl. no bl.1) in omega (arith, z, some_node))))
    where
      own_level : (h s : ℕ) → hx ≡ suc h → sx.top ≡ s / 256 → 256 * (s / 256) + s % 256 ≡ s → s % 256 < 256 → 1 ≤ d.home h s → ⊥
      own_level zero s same its_top joins lo some_node = let w = t.housed zero s some_node in let a = w.some_height in let b = w.below.0 in omega (arith, a, b)
      own_level (suc h) s same its_top joins lo some_node =
          let z : d.home (suc h) (256 * sx.top + s % 256) ≡ 0 = under_inner d m hx h sx.top (s % 256) None same (empty (s % 256) lo) in
          let is : 256 * sx.top + s % 256 ≡ s = ap (λ (z : ℕ). 256 * z + s % 256) its_top ∙ joins in
          let z' : d.home (suc h) s ≡ 0 = ap (d.home (suc h)) (sym is) ∙ z in
          omega (arith, z', some_node)

  -- A key that only it could have isn't there.
  no_key : (y : ℕ) → d.home 1 (y / 256) ≡ x → lookup m y ≡ None
  no_key y here =
      let w = house 1 (y / 256) here in
      let low = w.below.0 in
      let some_height = w.some_height in
      let one : hx ≡ 1 = omega (arith, low, some_height) in
      let its_top : sx.top ≡ y / 256 = sym (bytes_above-own sx) ∙ (ap (bytes_above sx) one ∙ w.below.1) in
      let is : 256 * sx.top + y % 256 ≡ y = ap (λ (z : ℕ). 256 * z + y % 256) its_top ∙ (let s : 256 * (y / 256) + y % 256 ≡ y = omega arith in s) in
      ap (lookup m) (sym is) ∙ empty_leaf d m hx sx.top (y % 256) one (empty (y % 256) (omega arith))

-- THE STEP: node q becomes free, and leads no more to x.
module _ (id : ℕ) (v : View) (x q : Spot) (cx cq : Content) (word n : ℕ) (even : word ≡ 4 * n) (e : Content) (below : x.shape.height < q.shape.height) (e_long : length e ≡ words_of q.shape.form)
    (ns : List Node) (vs : List View) (p : IsMap ns vs) (seat : get_elem? vs id ≡ some v) (low : q.number < length ns) (held : (node ns q.number).holder ≡ Some id) (rises : (node ns q.number).word < word) (lx : IsLocked p.plan ns p.contents id x cx) (l : IsLocked p.plan ns p.contents id q cq)
    (hq byte : ℕ) (high : q.shape.height ≡ suc (suc hq)) (level : q.shape.height ≤ 8) (byte_low : byte < 256) (leads : p.plan.home (suc hq) (256 * q.shape.top + byte) ≡ x.number) (empty : (b : ℕ) → b < 256 → IsUnder p.plan p.pairs x.shape.height x.shape.top b None) (new : IsCurrent (unlinked p.plan x.number) p.pairs q.shape e) where
  abbrev k : ℕ
  k = q.number

  abbrev y : ℕ
  y = x.number

  abbrev d₀ : Plan
  d₀ = p.plan

  abbrev d' : Plan
  d' = unlinked d₀ y

  abbrev b : Node
  b = node_at (node ns k).place word e None

  abbrev ns' : List Node
  ns' = set ns k b

  abbrev cs' : ℕ → Content
  cs' = put_at p.contents k e

  long : length b.content ≡ length (node ns k).content
  long = let s = l.met.spot in e_long ∙ sym (p.nodes.long k s.below_root_word s.low ∙ ap words_of s.form)

  some_y : 1 ≤ y
  some_y = lx.met.spot.below_root_word

  some_k : 1 ≤ k
  some_k = l.met.spot.below_root_word

  high_y : (d₀.shape y).height ≡ x.shape.height
  high_y = ap (λ (s : Shape). s.height) lx.shaped

  high_k : (d₀.shape k).height ≡ suc (suc hq)
  high_k = ap (λ (s : Shape). s.height) l.shaped ∙ high

  k_not_y : k ≢ y
  k_not_y s = let z = ap (λ (j : ℕ). (d₀.shape j).height) s in omega (arith, z, high_y, high_k, below, high)

  above : d₀.home (suc (suc hq)) q.shape.top ≡ k
  above = ap (λ (z : ℕ). d₀.home z q.shape.top) (sym high) ∙ l.current

  empty_y : (b : ℕ) → b < 256 → IsUnder d₀ p.pairs (d₀.shape y).height (d₀.shape y).top b None
  empty_y b lo = subst (λ (s : Shape). IsUnder d₀ p.pairs s.height s.top b None) (sym lx.shaped) (empty b lo)

  one : (h s j : ℕ) → d₀.home h s ≡ y → d₀.home (suc h) (s / 256) ≡ j → (d₀.shape j).height ≡ suc h → j ≡ k
  one = one_above d₀ ns p.contents p.pairs p.tree y k some_y empty_y hq q.shape.top byte byte_low leads above high_k

  k_home : home_of d₀ (d₀.shape k) ≡ k
  k_home = ap (home_of d₀) l.shaped ∙ l.current

  else_cs : (j : ℕ) → j ≢ k → cs' j ≡ p.contents j
  else_cs j ne = put_else p.contents k e j ne

  else_node : (j : ℕ) → j ≢ k → node ns' j ≡ node ns j
  else_node j ne = is_else d₀ ns k b low refl long j ne

  here_node : (j : ℕ) → j ≡ k → node ns' j ≡ b
  here_node j same = is_here d₀ ns k b low refl long j same

  -- the root is another node
  not_root : d₀.home 8 0 ≢ y
  not_root same = let r = p.tree.rooted (subst (λ (z : ℕ). 1 ≤ z) (sym same) some_y) in let z = ap (λ (j : ℕ). (d₀.shape j).height) same in omega (arith, r, z, high_y, below, level)

  home_stays : (j : ℕ) → j ≢ y → home_of d₀ (d₀.shape j) ≡ j → home_of d' (d₀.shape j) ≡ j
  home_stays j ne here = keeps d₀ y (d₀.shape j).height (d₀.shape j).top j here ne

  -- what another seat holds is another node
  not_mine : (j : ℕ) → j ≢ id → (a : ℕ) → (node ns a).holder ≡ Some j → (a ≢ y) × (a ≢ k)
  not_mine j ne a h = (
    λ s. ne (one_seat j id (sym h ∙ (ap (λ (z : ℕ). (node ns z).holder) s ∙ lx.holder))),
    λ s. ne (one_seat j id (sym h ∙ (ap (λ (z : ℕ). (node ns z).holder) s ∙ held))),
  )

  spot_unlinks : (a : Spot) → IsSpot d₀ ns a → IsSpot d' ns' a
  spot_unlinks a s = record { below_root_word = s.below_root_word; low = low_stays d₀ ns k b low refl long a.number s.low; key = s.key; form = s.form }

  met_unlinks : (a : Spot) → IsMet d₀ ns a → IsMet d' ns' a
  met_unlinks a m = record {
    spot = spot_unlinks a m.spot;
    lasts = λ tall. let t = m.lasts tall in
        let ne : a.number ≢ y = λ s. (let z = ap (λ (j : ℕ). (d₀.shape j).height) s in let w = ap (λ (s : Shape). s.height) t.0 in omega (arith, z, w, tall, high_y, below, level)) in
        (t.0, keeps d₀ y a.shape.height a.shape.top a.number t.1 ne);
    current = λ f. dite (ℕ_discrete a.number k)
        (λ same. subst (λ (z : ℕ). home_of d' (d₀.shape z) ≡ z) (sym same) (home_stays k k_not_y k_home))
        (λ ne.
        let f' : IsFree (node ns a.number) = subst IsFree (else_node a.number ne) f in
        let not_y : a.number ≢ y = λ s. not_some id (sym lx.holder ∙ (ap (λ (z : ℕ). (node ns z).holder) (sym s) ∙ f'.0)) in
        home_stays a.number not_y (m.current f'));
  }

  watch_unlinks : (j : ℕ) → j ≢ id → (a : Watch) → IsWatched d₀ ns j a → IsWatched d' ns' j a
  watch_unlinks j other a w = record {
    below_root_word = w.below_root_word;
    low = low_stays d₀ ns k b low refl long a.above w.low;
    later = dite (ℕ_discrete a.above k)
        (λ s. subst (NoLater a.word) (sym (here_node a.above s)) (no_later a.word (node ns k) b rises (subst (λ (z : ℕ). NoLater a.word (node ns z)) s w.later)))
        (λ ne. subst (NoLater a.word) (sym (else_node a.above ne)) w.later);
    leads = dite (ℕ_discrete a.above k)
        (λ s bound. absurd (not_bound j a.word (node ns k) b rises (λ mine. not_some j (sym mine)) (subst (λ (z : ℕ). NoLater a.word (node ns z)) s w.later) (subst (IsBound j a.word) (here_node a.above s) bound)))
        (λ ne bound.
        let bound' = subst (IsBound j a.word) (else_node a.above ne) bound in
        let t = w.leads bound' in
        let s : Shape = a.spot.shape in
        let up_is : bytes_above s t.level / 256 ≡ bytes_above s (suc t.level) = sym (bytes_above-suc s t.level t.tall) in
        let low_spot : a.spot.number ≢ y = λ same. ne (one t.level (bytes_above s t.level) a.above (t.here ∙ same) (ap (d₀.home (suc t.level)) up_is ∙ t.above) t.above_high) in
        let not_y : a.above ≢ y = λ same. bound_else j other a.word (node ns a.above) bound' (ap (λ (z : ℕ). (node ns z).holder) same ∙ lx.holder) in
        record {
          level = t.level;
          some_node = t.some_node;
          shaped = t.shaped;
          tall = t.tall;
          here = keeps d₀ y t.level (bytes_above s t.level) a.spot.number t.here low_spot;
          above = keeps d₀ y (suc t.level) (bytes_above s (suc t.level)) a.above t.above not_y;
          above_high = t.above_high;
        });
  }
    where
      bound_else : (j : ℕ) → j ≢ id → (o : Option ℕ) (a : Node) → IsBound j o a → a.holder ≢ Some id
      bound_else j ne (Some t) a bound mine = not_some id (sym mine ∙ bound.0)
      bound_else j ne None a bound mine = ne (one_seat j id (sym bound ∙ mine))

  own_unlinks : (j : ℕ) → j ≢ id → (o : Own) → IsOwn d₀ ns p.contents j o → IsOwn d' ns' cs' j o
  own_unlinks j ne (locked a c) h = let other = not_mine j ne a.number h.holder in record {
    met = met_unlinks a h.met;
    shaped = h.shaped;
    holder = ap (λ (z : Node). z.holder) (else_node a.number other.1) ∙ h.holder;
    content = else_cs a.number other.1 ∙ h.content;
    current = keeps d₀ y a.shape.height a.shape.top a.number h.current other.0;
  }
  own_unlinks j ne (detached a) h = let other = not_mine j ne a.number h.holder in record {
    spot = spot_unlinks a h.spot;
    holder = ap (λ (z : Node). z.holder) (else_node a.number other.1) ∙ h.holder;
    replaced = λ here. h.replaced (there d₀ y (d₀.shape a.number).height (d₀.shape a.number).top a.number h.spot.below_root_word here).0;
  }
  own_unlinks j ne (root_word c) h = let other = not_mine j ne 0 h.0 in
      (ap (λ (z : Node). z.holder) (else_node 0 other.1) ∙ h.0, ap (λ (z : Node). z.content) (else_node 0 other.1) ∙ h.1)

  alive_unlinks : AreAlive d' ns'
  alive_unlinks j some_node lo here free = dite (ℕ_discrete j k)
      (λ s. subst IsFree (sym (here_node j s)) (refl, (n, even)))
      (λ ne. let same = else_node j ne in subst IsFree (sym same)
      (p.alive j some_node (omega (arith, lo, length-set ns k b)) (there d₀ y (d₀.shape j).height (d₀.shape j).top j some_node here).0 (ap (λ (z : Node). z.holder) (sym same) ∙ free)))

  tree_unlinks : IsTree d' ns' cs' p.pairs
  tree_unlinks = let t = p.tree in record {
    root =
        let ne : 0 ≢ k = λ s. (let z = some_k in omega (arith, s, z)) in
        let same = stays d₀ y 8 0 not_root in
        subst (λ (z : Node). NamesRoot d' (at z.content 0)) (sym (else_node 0 ne)) (⊎_elim
        (λ none. inl (none.0, none_stays d₀ y 8 0 none.1))
        (λ some_root. inr (subst (λ (z : ℕ). 1 ≤ z) (sym same) some_root.0, some_root.1, some_root.2 ∙ ap (λ (z : ℕ). name_of (d₀.shape z)) (sym same)))
        t.root);
    rooted = λ some_node. let w = there d₀ y 8 0 (d'.home 8 0) some_node refl in subst (λ (z : ℕ). (d₀.shape z).height ≡ 8) w.0 (t.rooted (subst (λ (z : ℕ). 1 ≤ z) (sym w.0) some_node));
    housed = λ h s some_node.
        let w = there d₀ y h s (d'.home h s) some_node refl in
        let o : IsHouse d₀ ns h s (d'.home h s) = subst (λ (z : ℕ). IsHouse d₀ ns h s z) w.0 (t.housed h s (subst (λ (z : ℕ). 1 ≤ z) (sym w.0) some_node)) in record {
          low = low_stays d₀ ns k b low refl long (d'.home h s) o.low;
          level = o.level;
          some_height = o.some_height;
          below = o.below;
        };
    upward = λ h s lo some_node.
        let w = there d₀ y h s (d'.home h s) some_node refl in
        let was : 1 ≤ d₀.home h s = subst (λ (z : ℕ). 1 ≤ z) (sym w.0) some_node in
        let up_there = t.upward h s lo was in
        dite (ℕ_discrete (d₀.home (suc h) (s / 256)) y)
        (λ is. absurd (w.1 (sym w.0 ∙ nothing_below d₀ ns p.contents p.pairs t y k some_y empty_y hq q.shape.top byte byte_low leads above high_k h s lo is was)))
        (λ ne. subst (λ (z : ℕ). 1 ≤ z) (sym (stays d₀ y (suc h) (s / 256) ne)) up_there);
    skips = λ h s c lo some_node lower.
        let j : ℕ = d'.home (suc h) s in
        let w = there d₀ y (suc h) s j some_node refl in
        let sk : Skips d₀ h (256 * s + c) j = subst (Skips d₀ h (256 * s + c)) w.0 (t.skips h s c lo (subst (λ (z : ℕ). 1 ≤ z) (sym w.0) some_node) (subst (λ (z : ℕ). (d₀.shape z).height ≤ h) (sym w.0) lower)) in
        ((λ bl. keeps d₀ y h (256 * s + c) j (sk.0 bl) w.1), (λ nb. none_stays d₀ y h (256 * s + c) (sk.1 nb)));
    current = λ j some_node here.
        let s : Shape = d₀.shape j in
        let w = there d₀ y s.height s.top j some_node here in
        dite (ℕ_discrete j k)
        (λ is. subst (λ (z : ℕ). IsCurrent d' p.pairs (d₀.shape z) (cs' z)) (sym is)
        (subst (λ (z : Shape × Content). IsCurrent d' p.pairs z.0 z.1) (λ i. (sym l.shaped i, sym (put_here p.contents k e) i)) new))
        (λ ne. subst (IsCurrent d' p.pairs s) (sym (else_cs j ne))
        (current_alike d₀ d' p.pairs s (p.contents j)
        (λ o h c lo at_h. leads_old d₀ y o (suc h) (256 * s.top + c) (λ is.
        let up_is : (256 * s.top + c) / 256 ≡ s.top = omega (arith, lo) in
        ne (one (suc h) (256 * s.top + c) j is (ap (λ (z : ℕ × ℕ). d₀.home z.0 z.1) (λ i. (sym at_h i, up_is i)) ∙ w.0) at_h)))
        (t.current j some_node w.0)));
    absent = λ key none. dite (ℕ_discrete (d₀.home 1 (key / 256)) y)
        (λ is. no_key d₀ ns p.contents p.pairs t y k some_y empty_y hq q.shape.top byte byte_low leads above high_k key is)
        (λ ne. t.absent key (sym (stays d₀ y 1 (key / 256) ne) ∙ none));
  }

  x_out : IsOwn d' ns' cs' id (detached x)
  x_out = record {
    spot = spot_unlinks x lx.met.spot;
    holder = ap (λ (z : Node). z.holder) (else_node y (λ s. k_not_y (sym s))) ∙ lx.holder;
    replaced = λ here. (there d₀ y (d₀.shape y).height (d₀.shape y).top y some_y here).1 refl;
  }

  unlinks : IsMap ns' (set vs id (view_of v.seen v.met (detached x ∷ [])))
  unlinks =
      let kn = p.each_view id v seat in
      with_map ns vs id p ns' (view_of v.seen v.met (detached x ∷ [])) d' cs' p.history p.pairs p.legal
      (let a = nodes_stay d₀ ns k b low refl long p.nodes in record { some_root_word = a.some_root_word; root_word_long = a.root_word_long; placed = a.placed; long = a.long; apart = a.apart })
      (settled_stays d₀ ns k b low refl long p.contents cs' p.settled (λ _ _. sym (put_here p.contents k e)) else_cs)
      alive_unlinks tree_unlinks met_unlinks watch_unlinks own_unlinks (λ j ne s h. h) p.unborn record {
        seen = kn.seen;
        met = each_map (IsMet d₀ ns) (IsMet d' ns') v.met met_unlinks kn.met;
        own = (x_out, tt);
        watched = tt;
      }

-- what the node above has then
abbrev pub Loses : Spot → Content → Content → ℕ → Type 0
Loses q c e key = (n : TableNode ℕ) → Encodes c n → n.form ≡ q.shape.form → Encodes e (with_child n (digit q.shape.height key) None)

leads_named : (d : Plan) (j w name : ℕ) (o : Option (Child ℕ)) → IsChild o (Some w) → Spells w name → LeadsTo d o j → (1 ≤ j) × (name ≡ name_of (d.shape j))
leads_named d j w name None below spells leads = absurd below
leads_named d j w name (Some (Payload x)) below spells leads = absurd leads
leads_named d j w name (Some (Below s)) below spells leads = (leads.0, sym (spells s below) ∙ leads.1)

pub unlink : (id : ℕ) (v : View) (key : ℕ) (x q : Spot) (cx cq : Content) → v.own ≡ locked x cx ∷ locked q cq ∷ [] → (word n : ℕ) → word ≡ 4 * n → (e : Content) → x.shape.height < q.shape.height → 1 ≤ x.shape.height
    → length e ≡ words_of q.shape.form → Loses q cq e key → (w : ℕ) → HadWord q cq key w → Spells w (name_of x.shape) → HasNone x cx
    → acts.Frees IsMap id v q.number word e (Unlinks v q.number e)
unlink id v key x q cx cq is word n even e below some_height e_long loses w named spells none ns vs p seat low held rises =
    let own = its_own id v (locked x cx ∷ locked q cq ∷ []) is ns vs p seat in
    let lx : IsLocked p.plan ns p.contents id x cx = own.0 in
    let l : IsLocked p.plan ns p.contents id q cq = own.1.0 in
    let d : Plan = p.plan in
    let cur : IsCurrent d p.pairs q.shape cq = current_at d ns p.contents p.pairs id q cq p.tree l in
    let of_x : IsCurrent d p.pairs x.shape cx = current_at d ns p.contents p.pairs id x cx p.tree lx in
    let hq : ℕ = q.shape.height - 2 in
    let high : q.shape.height ≡ suc (suc hq) = omega (arith, some_height, below) in
    let deep = cur.deep in
    let level : q.shape.height ≤ 8 = omega (arith, deep) in
    let byte : ℕ = digit q.shape.height key in
    let byte_low : byte < 256 = digit-low q.shape.height key in
    let to = leads_named d (d.home (suc hq) (256 * q.shape.top + byte)) w (name_of x.shape) (lookup cur.its.children byte) (named cur.its cur.encodes cur.in_form) spells
    (under_inner d p.pairs q.shape.height hq q.shape.top byte (lookup cur.its.children byte) high (cur.under byte byte_low)) in
    let house = p.tree.housed (suc hq) (256 * q.shape.top + byte) to.0 in
    let leads : d.home (suc hq) (256 * q.shape.top + byte) ≡ x.number = sym (same_name d ns p.nodes x lx.met.spot (d.home (suc hq) (256 * q.shape.top + byte)) to.0 house.low to.1) in
    let empty : (b : ℕ) → b < 256 → IsUnder d p.pairs x.shape.height x.shape.top b None = λ b lo.
    subst (λ (fs : List (ℕ × Child ℕ)). IsUnder d p.pairs x.shape.height x.shape.top b (lookup fs b)) (none of_x.its of_x.encodes of_x.in_form) (of_x.under b lo) in
    let x_tall : (d.shape x.number).height ≡ x.shape.height = ap (λ (s : Shape). s.height) lx.shaped in
    let same_bytes : bytes_above (d.shape x.number) (suc hq) ≡ 256 * q.shape.top + byte = subst (λ (z : ℕ). bytes_above (d.shape z) (suc hq) ≡ 256 * q.shape.top + byte) leads house.below.1 in
    let fs : List (ℕ × Child ℕ) = cur.its.children in
    let new : IsCurrent (unlinked d x.number) p.pairs q.shape e = record {
      its = with_child cur.its byte None;
      encodes = loses cur.its cur.encodes cur.in_form;
      in_form = cur.in_form;
      deep = cur.deep;
      prefixed = cur.prefixed;
      under = λ b lo. inner_under (unlinked d x.number) p.pairs q.shape.height hq q.shape.top b (lookup (without fs byte) b) high (dite (ℕ_discrete b byte)
          (λ same. subst (λ (z : Option (Child ℕ)). LeadsTo (unlinked d x.number) z ((unlinked d x.number).home (suc hq) (256 * q.shape.top + b)))
          (sym (ap (lookup (without fs byte)) same ∙ lookup-without_same 0 256 fs byte (encodes_rise cq cur.its cur.encodes)))
          (gone d x.number (suc hq) (256 * q.shape.top + b) (ap (λ (z : ℕ). d.home (suc hq) (256 * q.shape.top + z)) same ∙ leads)))
          (λ ne. subst (λ (z : Option (Child ℕ)). LeadsTo (unlinked d x.number) z ((unlinked d x.number).home (suc hq) (256 * q.shape.top + b)))
          (sym (lookup-without_other fs byte b ne))
          (leads_old d x.number (lookup fs b) (suc hq) (256 * q.shape.top + b)
          (λ here.
          let also : bytes_above (d.shape x.number) (suc hq) ≡ 256 * q.shape.top + b = subst (λ (z : ℕ). bytes_above (d.shape z) (suc hq) ≡ 256 * q.shape.top + b) here (p.tree.housed (suc hq) (256 * q.shape.top + b) (subst (λ (z : ℕ). 1 ≤ z) (sym here) lx.met.spot.below_root_word)).below.1 in
          ne (omega (arith, same_bytes, also)))
          (under_inner d p.pairs q.shape.height hq q.shape.top b (lookup fs b) high (cur.under b lo)))));
    } in (
      view_of v.seen v.met (detached x ∷ []),
      unlinks id v x q cx cq word n even e below e_long ns vs p seat low held rises lx l hq byte high level byte_low leads empty new,
      ap (λ (os : List Own). view_of v.seen v.met (left_out os)) (sym is),
    )
