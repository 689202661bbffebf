-- Heights, digits and homes.
use Rattle.std.proofs.Common.{◌≡◌, ℕ, zero, suc, ◌+◌, ◌-◌, ◌*◌, ◌/◌, ◌%◌, ◌<◌, ◌≤◌, ◌^◌, List, length, None, refl, sym, ap, ◌∙◌, subst, arith}
use mathlib.Core.Logic.{dite}
use native.Mathlib.Decide.{ℕ_discrete}
use Rattle.spec_map.specs.Map.{Pairs, lookup}
use Rattle.live_nodes.specs.Nodes.{Content, Node}
use Rattle.live_layout.proofs.StandLaws.{few_forms}
use Rattle.live_nodes.specs.Levels.{up, digit, Shape, name_of, Covers, bytes_above, IsBelow, Spot}
use Rattle.live_nodes.specs.Tree.{Plan, home_of, IsSpot, AreNodes, IsTree}

pub digit-low : (h k : ℕ) → digit h k < 256
digit-low zero k = omega arith
digit-low (suc h) k = omega arith

-- the bytes above and the digit are what is left of the key below
pub joined : (h k t : ℕ) → up (suc h) k ≡ t → 256 * t + digit (suc h) k ≡ up h k
joined h k t is = omega (arith, is)

pub up-small : (h k n : ℕ) → up h k < 256 * n → up (suc h) k < n
up-small h k n l = omega (arith, l)

pub root-top : (k : ℕ) → k < 2 ^ 64 → up 8 k ≡ 0
root-top k l =
    let a = up-small 0 k (2 ^ 56) l in
    let b = up-small 1 k (2 ^ 48) a in
    let c = up-small 2 k (2 ^ 40) b in
    let d = up-small 3 k (2 ^ 32) c in
    let e = up-small 4 k (2 ^ 24) d in
    let f = up-small 5 k (2 ^ 16) e in
    let g = up-small 6 k (2 ^ 8) f in
    let h = up-small 7 k 1 g in
    omega (arith, h)

pub up-up : (a b k : ℕ) → up a (up b k) ≡ up (a + b) k
up-up zero b k = ap (λ (z : ℕ). up z k) (let e : b ≡ 0 + b = omega arith in e)
up-up (suc a) b k = ap (λ (z : ℕ). z / 256) (up-up a b k) ∙ ap (λ (z : ℕ). up z k) (let e : suc (a + b) ≡ suc a + b = omega arith in e)

-- the bytes above a node that has a key
pub bytes_above-key : (s : Shape) (h k : ℕ) → Covers s k → s.height ≤ h → bytes_above s h ≡ up h k
bytes_above-key s h k covers low = ap (up (h - s.height)) (sym covers) ∙ (up-up (h - s.height) s.height k ∙ ap (λ (z : ℕ). up z k) (let e : h - s.height + s.height ≡ h = omega (arith, low) in e))

pub bytes_above-suc : (s : Shape) (h : ℕ) → s.height ≤ h → bytes_above s (suc h) ≡ bytes_above s h / 256
bytes_above-suc s h low = ap (λ (z : ℕ). up z s.top) (let e : suc h - s.height ≡ suc (h - s.height) = omega (arith, low) in e)

pub bytes_above-own : (s : Shape) → bytes_above s s.height ≡ s.top
bytes_above-own s = ap (λ (z : ℕ). up z s.top) (let e : s.height - s.height ≡ 0 = omega arith in e)

-- the bytes above a level are those above the next one, and a byte
pub bytes_above-joins : (s : Shape) (h : ℕ) → s.height ≤ h → 256 * bytes_above s (suc h) + bytes_above s h % 256 ≡ bytes_above s h
bytes_above-joins s h low = let e = bytes_above-suc s h low in omega (arith, e)

zero_of : (j : ℕ) → (1 ≤ j → ⊥) → j ≡ 0
zero_of zero never = refl
zero_of (suc j) never = absurd (never (omega arith))

module _ (d : Plan) (ns : List Node) (cs : ℕ → Content) (m : Pairs ℕ) (t : IsTree d ns cs m) where
  -- Where no node is, none is below,
  pub none_below : (h x b : ℕ) → h < 8 → b < 256 → d.home (suc h) x ≡ 0 → d.home h (256 * x + b) ≡ 0
  none_below h x b l lo none = zero_of (d.home h (256 * x + b)) (λ there.
      let u = t.upward h (256 * x + b) l there in
      let above : (256 * x + b) / 256 ≡ x = omega (arith, lo) in
      let same : d.home (suc h) ((256 * x + b) / 256) ≡ 0 = ap (d.home (suc h)) above ∙ none in
      omega (arith, u, same))

  pub none_bytes_above : (s : Shape) (n h : ℕ) → n + h < 9 → s.height ≤ h → d.home (n + h) (bytes_above s (n + h)) ≡ 0 → d.home h (bytes_above s h) ≡ 0
  none_bytes_above s zero h l low none = subst (λ (z : ℕ). d.home z (bytes_above s z) ≡ 0) (let e : 0 + h ≡ h = omega arith in e) none
  none_bytes_above s (suc n) h l low none = none_bytes_above s n h (omega (arith, l)) low
      (let one = subst (λ (z : ℕ). d.home z (bytes_above s z) ≡ 0) (let e : suc n + h ≡ suc (n + h) = omega arith in e) none in
      let low' : s.height ≤ n + h = omega (arith, low) in
      ap (d.home (n + h)) (sym (bytes_above-joins s (n + h) low')) ∙ none_below (n + h) (bytes_above s (suc (n + h))) (bytes_above s (n + h) % 256) (omega (arith, l)) (omega arith) one)

  -- and no key is there.
  pub none_there : (h k : ℕ) → suc h < 9 → d.home (suc h) (up (suc h) k) ≡ 0 → lookup m k ≡ None
  none_there zero k l none = t.absent k none
  none_there (suc h) k l none = none_there h k (omega (arith, l)) (ap (d.home (suc h)) (sym (joined (suc h) k (up (suc (suc h)) k) refl)) ∙ none_below (suc h) (up (suc (suc h)) k) (digit (suc (suc h)) k) (omega (arith, l)) (digit-low (suc (suc h)) k) none)

  -- A node is at each level from the highest on down to its own.
  pub descends : (n h j : ℕ) → 1 ≤ j → (d.shape j).height ≤ h → d.home (n + h) (bytes_above (d.shape j) (n + h)) ≡ j → d.home h (bytes_above (d.shape j) h) ≡ j
  descends zero h j some_node low here = subst (λ (z : ℕ). d.home z (bytes_above (d.shape j) z) ≡ j) (let e : 0 + h ≡ h = omega arith in e) here
  descends (suc n) h j some_node low here =
      let s : Shape = d.shape j in
      let one : d.home (suc (n + h)) (bytes_above s (suc (n + h))) ≡ j = subst (λ (z : ℕ). d.home z (bytes_above s z) ≡ j) (let e : suc n + h ≡ suc (n + h) = omega arith in e) here in
      let low' : s.height ≤ n + h = omega (arith, low) in
      let joins = bytes_above-joins s (n + h) low' in
      let k = t.skips (n + h) (bytes_above s (suc (n + h))) (bytes_above s (n + h) % 256) (omega arith) (subst (λ (z : ℕ). 1 ≤ z) (sym one) some_node) (subst (λ (z : ℕ). (d.shape z).height ≤ n + h) (sym one) low') in
      descends n h j some_node low (ap (d.home (n + h)) (sym joins) ∙ (k.0 (subst (λ (z : ℕ). IsBelow (d.shape z) (n + h) (256 * bytes_above s (suc (n + h)) + bytes_above s (n + h) % 256)) (sym one) (low', sym joins)) ∙ one))

  -- So it is current.
  pub at_home : (h x : ℕ) → 1 ≤ d.home h x → home_of d (d.shape (d.home h x)) ≡ d.home h x
  at_home h x there =
      let j : ℕ = d.home h x in
      let s : Shape = d.shape j in
      let b = (t.housed h x there).below in
      let low = b.0 in
      ap (d.home s.height) (sym (bytes_above-own s)) ∙ descends (h - s.height) s.height j there (omega arith) (subst (λ (z : ℕ). d.home z (bytes_above s z) ≡ j) (let e : h ≡ h - s.height + s.height = omega (arith, low) in e) (ap (d.home h) b.1))

  -- Where a node is that has no such keys, the key isn't there.
  covers_there : (h k j : ℕ) → j ≡ d.home (suc h) (up (suc h) k) → IsBelow (d.shape j) (suc h) (up (suc h) k) → (d.shape j).height ≡ suc h → Covers (d.shape j) k
  covers_there h k j here below e = ap (λ (z : ℕ). up z k) e ∙ (sym below.1 ∙ (ap (bytes_above (d.shape j)) (sym e) ∙ bytes_above-own (d.shape j)))

  pub missed : (h k j : ℕ) → suc h < 9 → 1 ≤ j → d.home (suc h) (up (suc h) k) ≡ j → (Covers (d.shape j) k → ⊥) → lookup m k ≡ None
  missed zero k j l some_node here never =
      let house = t.housed 1 (up 1 k) (subst (λ (z : ℕ). 1 ≤ z) (sym here) some_node) in
      let below : IsBelow (d.shape j) 1 (up 1 k) = subst (λ (z : ℕ). IsBelow (d.shape z) 1 (up 1 k)) here house.below in
      let tall : 1 ≤ (d.shape j).height = subst (λ (z : ℕ). 1 ≤ (d.shape z).height) here house.some_height in
      let low = below.0 in
      absurd (never (covers_there 0 k j (sym here) below (omega (arith, low, tall))))
  missed (suc h) k j l some_node here never =
      let house = t.housed (suc (suc h)) (up (suc (suc h)) k) (subst (λ (z : ℕ). 1 ≤ z) (sym here) some_node) in
      let below : IsBelow (d.shape j) (suc (suc h)) (up (suc (suc h)) k) = subst (λ (z : ℕ). IsBelow (d.shape z) (suc (suc h)) (up (suc (suc h)) k)) here house.below in
      let low = below.0 in
      dite (ℕ_discrete (d.shape j).height (suc (suc h)))
      (λ e. absurd (never (covers_there (suc h) k j (sym here) below e)))
      (λ ne.
      let down : (d.shape j).height ≤ suc h = omega (arith, low, ne) in
      let joins = joined (suc h) k (up (suc (suc h)) k) refl in
      let s = t.skips (suc h) (up (suc (suc h)) k) (digit (suc (suc h)) k) (digit-low (suc (suc h)) k) (subst (λ (z : ℕ). 1 ≤ z) (sym here) some_node) (subst (λ (z : ℕ). (d.shape z).height ≤ suc h) (sym here) down) in
      dite (ℕ_discrete (bytes_above (d.shape j) (suc h)) (up (suc h) k))
      (λ e. missed h k j (omega (arith, l)) some_node
      (ap (d.home (suc h)) (sym joins) ∙ (s.0 (subst (λ (z : ℕ). IsBelow (d.shape z) (suc h) (256 * up (suc (suc h)) k + digit (suc (suc h)) k)) (sym here) (down, e ∙ sym joins)) ∙ here)) never)
      (λ no. none_there h k (omega (arith, l)) (ap (d.home (suc h)) (sym joins) ∙ s.1 (λ b. no ((subst (λ (z : ℕ). IsBelow (d.shape z) (suc h) (256 * up (suc (suc h)) k + digit (suc (suc h)) k)) here b).1 ∙ joins)))))

-- a name is of one node
pub same_key : (s t : Shape) → name_of s ≡ name_of t → s.key ≡ t.key
same_key s t e = let f = few_forms s.form in let g = few_forms t.form in omega (arith, e, f, g)

pub same_name : (d : Plan) (ns : List Node) → AreNodes d ns → (b : Spot) → IsSpot d ns b → (j : ℕ) → 1 ≤ j → j < length ns → name_of b.shape ≡ name_of (d.shape j) → b.number ≡ j
same_name d ns n b s j some_node low named = n.apart b.number j s.below_root_word some_node s.low low (s.key ∙ same_key b.shape (d.shape j) named)
