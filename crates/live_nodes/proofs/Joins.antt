-- The four ways in which a node becomes current: below a node that had none there, in the place of a full one, above a
-- node whose path the key leaves, and as the root. It was obsolete, and the seat has locked it.
use Rattle.std.proofs.Common.{◌≡◌, ◌≢◌, ◌⊎◌, ⊎_elim, ℕ, zero, suc, ◌+◌, ◌-◌, ◌*◌, ◌/◌, ◌<◌, ◌≤◌, List, [], ◌∷◌, ◌++◌, length, set, Option, Some, None, refl, sym, ap, ◌∙◌, subst, inl, inr, arith}
use mathlib.Core.Option.{some}
use mathlib.Core.Logic.{dite}
use native.Mathlib.Decide.{ℕ_discrete}
use lib.ListN.{get_elem?}
use Rattle.spec_node.specs.TableNode.{TableNode, Child}
use Rattle.spec_node.specs.declared.child.Child.TheVariants.{Payload, Node as Below}
use Rattle.spec_map.specs.Map.{Pairs, lookup, put}
use Rattle.spec_map.proofs.MapLaws.{lookup-put_same, lookup-put_other}
use Rattle.live_nodes.proofs.Frames.{each_in, put_at}
use Rattle.live_nodes.specs.Nodes.{Content, at, Node, node, node_at}
use Rattle.live_nodes.specs.Seats.{Each, IsIn}
use Rattle.live_nodes.specs.Acts as acts
use Rattle.live_layout.specs.Encodes.{words_of, Encodes, IsBelow, IsWord, with_child, in_form}
use Rattle.live_nodes.specs.Levels.{up, digit, Shape, name_of, Covers, bytes_above, Spot}
use Rattle.live_nodes.specs.Views.{View, view_of, watch, Own, locked, detached, root_word, Ask}
use Rattle.live_nodes.specs.Tree.{Plan, home_of, HasPrefix, LeadsTo, IsUnder, IsCurrent, NamesRoot, IsSpot, LeadsDown, IsWatched, IsLocked, IsDetached, IsOwn, IsTree, IsMap, again, leads_again, left_again, LinksAgain}
use Rattle.live_nodes.proofs.Plans.{joined, up-up, bytes_above-key, bytes_above-own, none_below, none_bytes_above, descends, same_name}
use Rattle.live_nodes.proofs.Changes.{is_here, is_else}
use Rattle.live_nodes.proofs.Makes.{under_alike}
use Rattle.live_nodes.proofs.Writes.{current_at, its_own}
use Rattle.live_nodes.proofs.Links.{linked, home_new, home_old, leads_old, IsOff, met_links, y_met, y_content, links_map}
use Rattle.live_nodes.proofs.Replans.{replan, replan_off}

not_some : {A : Type 0} (x : A) → Some x ≡ None → ⊥
not_some x e = cc

one_seat : (i j : ℕ) → Some i ≡ Some j → i ≡ j
one_seat i j e = cc

zero_of : (j : ℕ) → (1 ≤ j → ⊥) → j ≡ 0
zero_of zero never = refl
zero_of (suc j) never = absurd (never (omega arith))

under_inner : (d : Plan) (m : Pairs ℕ) (height h top x : ℕ) (o : Option (Child ℕ)) → height ≡ suc (suc h) → IsUnder d m height top x o → LeadsTo d o (d.home (suc h) (256 * top + x))
under_inner d m height h top x o e u = subst (λ (z : ℕ). IsUnder d m z top x o) e u

inner_under : (d : Plan) (m : Pairs ℕ) (height h top x : ℕ) (o : Option (Child ℕ)) → height ≡ suc (suc h) → LeadsTo d o (d.home (suc h) (256 * top + x)) → IsUnder d m height top x o
inner_under d m height h top x o e u = subst (λ (z : ℕ). IsUnder d m z top x o) (sym e) u

-- A NEW NODE without children, where none is current
empty_under : (d : Plan) (y : Spot) (g : ℕ) (ns : List Node) (cs : ℕ → Content) (m : Pairs ℕ) → IsTree d ns cs m → d.home y.shape.height y.shape.top ≡ 0 → (height : ℕ) → height ≡ y.shape.height → 1 ≤ height → height < 9 → (x : ℕ) → x < 256 → IsUnder (linked d y g) m height y.shape.top x None
empty_under d y g ns cs m t none zero e some_height l x lo = absurd (omega (arith, some_height))
empty_under d y g ns cs m t none (suc zero) e some_height l x lo =
    t.absent (256 * y.shape.top + x) (subst (λ (z : ℕ × ℕ). d.home z.0 z.1 ≡ 0) (λ i. (sym e i, above i)) none)
  where
    above : y.shape.top ≡ (256 * y.shape.top + x) / 256
    above = omega (arith, lo)
empty_under d y g ns cs m t none (suc (suc h)) e some_height l x lo =
    home_old d y g (suc h) (256 * y.shape.top + x) (λ on. let low = on.1.0 in omega (arith, low, e))
    ∙ none_below d ns cs m t (suc h) y.shape.top x (omega (arith, l)) lo (subst (λ (z : ℕ). d.home z y.shape.top ≡ 0) (sym e) none)

pub record IsEmptyNode (y : Spot) (c : Content) : Type 0 where
  pub its : TableNode ℕ
  pub encodes : Encodes c its
  pub in_form : its.form ≡ y.shape.form
  pub deep : length its.prefix + y.shape.height ≡ 8
  pub prefixed : HasPrefix its.prefix y.shape
  pub empty : its.children ≡ []

empty_current : (d : Plan) (y : Spot) (g : ℕ) (c : Content) (ns : List Node) (cs : ℕ → Content) (m : Pairs ℕ) → IsTree d ns cs m → d.home y.shape.height y.shape.top ≡ 0 → 1 ≤ y.shape.height → IsEmptyNode y c → IsCurrent (linked d y g) m y.shape c
empty_current d y g c ns cs m t none some_height n = record {
  its = n.its;
  encodes = n.encodes;
  in_form = n.in_form;
  deep = n.deep;
  prefixed = n.prefixed;
  under = λ x lo. subst (λ (fs : List (ℕ × Child ℕ)). IsUnder (linked d y g) m y.shape.height y.shape.top x (lookup fs x)) (sym n.empty)
      (empty_under d y g ns cs m t none y.shape.height refl some_height (let deep = n.deep in omega (arith, deep)) x lo);
}

-- THE NODE ABOVE, which leads to the new one by a key's digit
module _ (d : Plan) (m : Pairs ℕ) (y q : Spot) (key : ℕ) (below : y.shape.height < q.shape.height) (some_height : 1 ≤ y.shape.height) (y_covers : Covers y.shape key) (q_covers : Covers q.shape key) where
  abbrev h : ℕ
  h = q.shape.height - 2

  -- the highest level of the new node
  abbrev pub top_level : ℕ
  top_level = suc h

  abbrev b : ℕ
  b = digit q.shape.height key

  q_high : q.shape.height ≡ suc (suc h)
  q_high = omega (arith, some_height, below)

  reach : y.shape.height ≤ suc h
  reach = omega (arith, below, q_high)

  -- the new node's bytes are those of the node above, and the digit
  tops : 256 * q.shape.top + b ≡ bytes_above y.shape (suc h)
  tops = ap (λ (z : ℕ). 256 * q.shape.top + digit z key) q_high ∙ (joined (suc h) key q.shape.top (subst (λ (z : ℕ). up z key ≡ q.shape.top) q_high q_covers) ∙ sym (bytes_above-key y.shape (suc h) key y_covers reach))

  top_above : bytes_above y.shape (suc (suc h)) ≡ q.shape.top
  top_above = bytes_above-key y.shape (suc (suc h)) key y_covers (omega (arith, reach)) ∙ subst (λ (z : ℕ). up z key ≡ q.shape.top) q_high q_covers

  -- what is under the digit
  at_digit : (o : Option (Child ℕ)) → IsUnder d m q.shape.height q.shape.top b o → LeadsTo d o (d.home (suc h) (bytes_above y.shape (suc h)))
  at_digit o u = subst (λ (z : ℕ). LeadsTo d o (d.home (suc h) z)) tops (under_inner d m q.shape.height h q.shape.top b o q_high u)

  b_low : b < 256
  b_low = subst (λ (z : ℕ). digit z key < 256) (sym q_high) (omega arith)

  child_there : (fs : List (ℕ × Child ℕ)) → 1 ≤ y.number → d.shape y.number ≡ y.shape → (x : ℕ) → x < 256 → IsUnder d m q.shape.height q.shape.top x (lookup fs x)
      → IsUnder (linked d y (suc h)) m q.shape.height q.shape.top x (lookup (put fs b (Below (name_of y.shape))) x)
  child_there fs some_node shaped x lo u = inner_under (linked d y (suc h)) m q.shape.height h q.shape.top x (lookup (put fs b (Below (name_of y.shape))) x) q_high (dite (ℕ_discrete x b)
      (λ e.
      let here : (linked d y (suc h)).home (suc h) (256 * q.shape.top + x) ≡ y.number = home_new d y (suc h) (suc h) (256 * q.shape.top + x) ((let l : suc h ≤ suc h = omega arith in l), (reach, sym (ap (λ (z : ℕ). 256 * q.shape.top + z) e ∙ tops))) in
      subst (λ (z : Option (Child ℕ) × ℕ). LeadsTo (linked d y (suc h)) z.0 z.1)
      (λ i. (sym (ap (lookup (put fs b (Below (name_of y.shape)))) e ∙ lookup-put_same fs b (Below (name_of y.shape))) i, sym here i))
      (some_node, ap name_of (sym shaped)))
      (λ ne. subst (λ (z : Option (Child ℕ)). LeadsTo (linked d y (suc h)) z ((linked d y (suc h)).home (suc h) (256 * q.shape.top + x))) (sym (lookup-put_other fs b (Below (name_of y.shape)) x ne))
      (leads_old d y (suc h) (lookup fs x) (suc h) (256 * q.shape.top + x) (λ on. ne (let e = on.1.1 in omega (arith, e, tops))) (under_inner d m q.shape.height h q.shape.top x (lookup fs x) q_high u))))

-- what the node above has then
abbrev pub Changes : Spot → Content → Content → ℕ → Spot → Type 0
Changes q c e key y = (n : TableNode ℕ) → Encodes c n → n.form ≡ q.shape.form → length n.prefix + q.shape.height ≡ 8
    → Encodes e (with_child n (digit q.shape.height key) (Some (Below (name_of y.shape))))

-- what it had under the digit: this, or a child of that word
abbrev pub HadWord : Spot → Content → ℕ → ℕ → Type 0
HadWord q c key w = (n : TableNode ℕ) → Encodes c n → n.form ≡ q.shape.form → IsBelow (lookup n.children (digit q.shape.height key)) (Some w)

-- That word is of a node with that name.
abbrev pub Spells : ℕ → ℕ → Type 0
Spells w name = (s : ℕ) → IsWord w (Below s) → s ≡ name

leads_named : (d : Plan) (j w name : ℕ) (o : Option (Child ℕ)) → IsBelow o (Some w) → Spells w name → LeadsTo d o j → (1 ≤ j) × (name ≡ name_of (d.shape j))
leads_named d j w name None below spells leads = absurd below
leads_named d j w name (Some (Payload x)) below spells leads = absurd leads
leads_named d j w name (Some (Below s)) below spells leads = (leads.0, sym (spells s below) ∙ leads.1)

abbrev pub Had : Spot → Content → ℕ → Option (Child ℕ) → Type 0
Had q c key o = (n : TableNode ℕ) → Encodes c n → n.form ≡ q.shape.form → lookup n.children (digit q.shape.height key) ≡ o

module _ (id : ℕ) (v : View) (key : ℕ) (y q : Spot) (cy cq : Content) (word m : ℕ) (even : word ≡ 4 * m) (e : Content) (below : y.shape.height < q.shape.height) (some_height : 1 ≤ y.shape.height) (y_covers : Covers y.shape key) (q_covers : Covers q.shape key) (e_long : length e ≡ words_of q.shape.form) (changes : Changes q cq e key y) where
  abbrev g : ℕ
  g = suc (q.shape.height - 2)

  module _ (ns : List Node) (vs : List View) (p : IsMap ns vs) (seat : get_elem? vs id ≡ some v) (low : q.number < length ns) (held : (node ns q.number).holder ≡ Some id) (rises : (node ns q.number).word < word) (made : IsOff p.plan ns p.contents id y cy) (l : IsLocked p.plan ns p.contents id q cq)
      (o : ℕ) (was : (lv : ℕ) → y.shape.height ≤ lv → lv ≤ g → p.plan.home lv (bytes_above y.shape lv) ≡ o)
      (occupied : (o ≡ 0) ⊎ (((p.plan.shape o).height ≤ y.shape.height) × (((node ns o).holder ≡ Some id) ⊎ ((p.plan.shape o).height < y.shape.height))))
      (of_y : IsCurrent (linked p.plan y g) p.pairs y.shape cy) where
    abbrev k : ℕ
    k = q.number

    abbrev d : Plan
    d = p.plan

    abbrev z : Node
    z = node_at (node ns k).place word e None

    abbrev d' : Plan
    d' = linked d y g

    abbrev ns' : List Node
    ns' = set ns k z

    abbrev cs' : ℕ → Content
    cs' = put_at p.contents k e

    high : q.shape.height ≡ suc g
    high = omega (arith, below, some_height)

    as_long : length e ≡ length (node ns k).content
    as_long = let s = l.met.spot in e_long ∙ sym (p.nodes.long k s.below_root_word s.low ∙ ap words_of s.form)

    old : IsCurrent d p.pairs q.shape cq
    old = current_at d ns p.contents p.pairs id q cq p.tree l

    new : IsCurrent d' p.pairs q.shape e
    new = record {
      its = with_child old.its (digit q.shape.height key) (Some (Below (name_of y.shape)));
      encodes = changes old.its old.encodes old.in_form old.deep;
      in_form = old.in_form;
      deep = old.deep;
      prefixed = old.prefixed;
      under = λ x lo. child_there d p.pairs y q key below some_height y_covers q_covers old.its.children made.spot.below_root_word made.shaped x lo (old.under x lo);
    }

    level : g ≤ 8
    level = let deep = old.deep in omega (arith, deep, high)

    shy : 1 ≤ o → g < 8
    shy _ = let deep = old.deep in omega (arith, deep, high)

    to_top : y.shape.height ≤ g
    to_top = omega (arith, below, high)

    roof : d.home (suc g) (bytes_above y.shape (suc g)) ≡ k
    roof = ap (λ (x : ℕ × ℕ). d.home x.0 x.1) (λ i. (sym high i, top_above d p.pairs y q key below some_height y_covers q_covers i)) ∙ l.current

    roof_high : 1 ≤ k → (d.shape k).height ≡ suc g
    roof_high _ = ap (λ (x : Shape). x.height) l.shaped ∙ high

    roofed : g < 8 → 1 ≤ k
    roofed _ = l.met.spot.below_root_word

    root : NamesRoot d' (at (node ns' 0).content 0)
    root =
        let ne : 0 ≢ k = λ x. let s = l.met.spot.below_root_word in omega (arith, x, s) in
        let same = home_old d y g 8 0 (λ on. let t = on.0 in let deep = old.deep in omega (arith, t, deep, high)) in
        subst (λ (x : Node). NamesRoot d' (at x.content 0)) (sym (is_else d ns k z low refl as_long 0 ne)) (⊎_elim
        (λ none. inl (none.0, same ∙ none.1))
        (λ there. inr (subst (λ (x : ℕ). 1 ≤ x) (sym same) there.0, there.1, there.2 ∙ ap (λ (x : ℕ). name_of (d.shape x)) (sym same)))
        p.tree.root)

    joins : (os : List Own) → Each (IsOwn d' ns' cs' id) os → IsMap ns' (set vs id (view_of v.seen (y ∷ v.met) os))
    joins os own = links_map id v y cy k z ns vs p seat low refl as_long rises held (refl, (m, even)) made g level some_height to_top o was shy occupied roof roof_high roofed root
        (λ on. absurd (let t = on.0 in let deep = old.deep in omega (arith, t, deep, high)))
        of_y
        (λ some_node here. subst (λ (x : Shape). IsCurrent d' p.pairs x e) (sym l.shaped) new)
        os own

    -- what the seat has to itself then: the node itself, if it had that locked
    y_home : home_of d' y.shape ≡ y.number
    y_home = home_new d y g y.shape.height y.shape.top (to_top, ((let t : y.shape.height ≤ y.shape.height = omega arith in t), bytes_above-own y.shape))

    not_k : (a : Spot) (c : Content) → IsLocked d ns p.contents id a c → a.shape.height < q.shape.height → a.number ≢ k
    not_k a c h lower s = let same_high = ap (λ (t : Shape). t.height) (sym h.shaped ∙ (ap d.shape s ∙ l.shaped)) in omega (arith, same_high, lower)

    y_not_k : y.number ≢ k
    y_not_k s = made.nowhere q.shape.height q.shape.top (l.current ∙ sym s)

    y_locked : (node ns y.number).holder ≡ Some id → IsOwn d' ns' cs' id (locked y cy)
    y_locked mine = record {
      met = y_met id v y cy k z ns vs p seat low refl as_long rises held (refl, (m, even)) made g level some_height to_top o was shy occupied roof roof_high roofed;
      shaped = made.shaped;
      holder = ap (λ (t : Node). t.holder) (is_else d ns k z low refl as_long y.number y_not_k) ∙ mine;
      content = y_content id v y cy k z ns vs p seat low refl as_long rises held (refl, (m, even)) made g level some_height to_top o was shy occupied roof roof_high roofed;
      current = y_home;
    }

    -- a node in whose place it is
    x_detached : (x : Spot) (cx : Content) → IsLocked d ns p.contents id x cx → x.shape.height ≡ y.shape.height → x.shape.top ≡ y.shape.top → IsOwn d' ns' cs' id (detached x)
    x_detached x cx lx same_high same_top = record {
      spot = (met_links id v y cy k z ns vs p seat low refl as_long rises held (refl, (m, even)) made g level some_height to_top o was shy occupied roof roof_high roofed x lx.met).spot;
      holder = ap (λ (t : Node). t.holder) (is_else d ns k z low refl as_long x.number (not_k x cx lx (omega (arith, same_high, below)))) ∙ lx.holder;
      replaced = λ here. made.nowhere x.shape.height x.shape.top (lx.current ∙ x_is_y here);
    }
      where
        x_is_y : d'.home (d.shape x.number).height (d.shape x.number).top ≡ x.number → x.number ≡ y.number
        x_is_y here = sym here ∙ (ap (home_of d') lx.shaped ∙ (ap (λ (t : ℕ × ℕ). d'.home t.0 t.1) (λ i. (same_high i, same_top i)) ∙ y_home))

-- the level of a node's place below another
level_of : (q : Spot) (h : ℕ) → 1 ≤ h → h < q.shape.height → suc (suc (q.shape.height - 2)) ≡ q.shape.height
level_of q h some_height below = omega (arith, some_height, below)

-- BELOW A NODE that has none there
module _ (id : ℕ) (v : View) (key : ℕ) (y q : Spot) (cy cq : Content) (word m : ℕ) (even : word ≡ 4 * m) (e : Content) (below : y.shape.height < q.shape.height) (some_height : 1 ≤ y.shape.height) (y_covers : Covers y.shape key) (q_covers : Covers q.shape key) (e_long : length e ≡ words_of q.shape.form) (changes : Changes q cq e key y)
    (absent : Had q cq key None) (empty : IsEmptyNode y cy)
    (ns : List Node) (vs : List View) (p : IsMap ns vs) (seat : get_elem? vs id ≡ some v) (low : q.number < length ns) (held : (node ns q.number).holder ≡ Some id) (rises : (node ns q.number).word < word) (made : IsOff p.plan ns p.contents id y cy) (l : IsLocked p.plan ns p.contents id q cq) where
  abbrev After : List Own → Type 0
  After os = IsMap (set ns q.number (node_at (node ns q.number).place word e None)) (set vs id (view_of v.seen (y ∷ v.met) os))

  below_joins : (node ns y.number).holder ≡ Some id → After (locked y cy ∷ [])
  below_joins mine =
      let d : Plan = p.plan in
      let cur : IsCurrent d p.pairs q.shape cq = current_at d ns p.contents p.pairs id q cq p.tree l in
      let b : ℕ = digit q.shape.height key in
      let g : ℕ = suc (q.shape.height - 2) in
      let deep = cur.deep in
      let leads = at_digit d p.pairs y q key below some_height y_covers q_covers (lookup cur.its.children b) (cur.under b (b_low d p.pairs y q key below some_height y_covers q_covers)) in
      let none : d.home g (bytes_above y.shape g) ≡ 0 = subst (λ (z : Option (Child ℕ)). LeadsTo d z (d.home g (bytes_above y.shape g))) (absent cur.its cur.encodes cur.in_form) leads in
      let was : (lv : ℕ) → y.shape.height ≤ lv → lv ≤ g → d.home lv (bytes_above y.shape lv) ≡ 0 = λ lv tall l. none_bytes_above d ns p.contents p.pairs p.tree y.shape (g - lv) lv (omega (arith, deep, l, below, some_height)) tall
      (subst (λ (z : ℕ). d.home z (bytes_above y.shape z) ≡ 0) (let s : g ≡ g - lv + lv = omega (arith, l) in s) none) in
      let home_y : d.home y.shape.height y.shape.top ≡ 0 = ap (d.home y.shape.height) (sym (bytes_above-own y.shape)) ∙ was y.shape.height (omega arith) (omega (arith, below, some_height)) in
      let of_y = empty_current d y g cy ns p.contents p.pairs p.tree home_y some_height empty in
      joins id v key y q cy cq word m even e below some_height y_covers q_covers e_long changes ns vs p seat low held rises made l 0 was (inl refl) of_y (locked y cy ∷ [])
      (y_locked id v key y q cy cq word m even e below some_height y_covers q_covers e_long changes ns vs p seat low held rises made l 0 was (inl refl) of_y mine, tt)

pub link_below : (a : Ask) (id : ℕ) (v : View) (x q : Spot) (cy cq : Content) → v.own ≡ detached x ∷ locked q cq ∷ [] → (word m : ℕ) → word ≡ 4 * m → (e : Content) → a.height < q.shape.height → 1 ≤ a.height → Covers q.shape a.key
    → length e ≡ words_of q.shape.form → Changes q cq e a.key (again a x) → Had q cq a.key None → IsEmptyNode (again a x) cy
    → acts.Frees IsMap id v q.number word e (LinksAgain a cy v q.number e)
link_below a id v x q cy cq is word m even e below some_height q_covers e_long changes absent empty ns vs p seat low held rises =
    let y : Spot = again a x in
    let out : IsDetached p.plan ns id x = (its_own id v (detached x ∷ locked q cq ∷ []) is ns vs p seat).0 in
    let p' : IsMap ns vs = replan id ns vs p x out y.shape refl refl cy in
    let own = its_own id v (detached x ∷ locked q cq ∷ []) is ns vs p' seat in (
      view_of v.seen (y ∷ v.met) (locked y cy ∷ []),
      (below_joins id v a.key y q cy cq word m even e below some_height refl q_covers e_long changes absent empty ns vs p' seat low held rises (replan_off id ns vs p x out y.shape refl refl cy) own.1.0 out.holder),
      ap (λ (os : List Own). view_of v.seen (leads_again a os ++ v.met) (left_again a cy os)) (sym is),
    )

-- WHAT A NODE LEADS TO, by the name of a node that the seat has met
module _ (key : ℕ) (y x q : Spot) (cq : Content) (below : y.shape.height < q.shape.height) (some_height : 1 ≤ y.shape.height) (y_covers : Covers y.shape key) (q_covers : Covers q.shape key) (w : ℕ) (named : HadWord q cq key w) (spells : Spells w (name_of x.shape))
    (ns : List Node) (vs : List View) (p : IsMap ns vs) (sx : IsSpot p.plan ns x) (x_shaped : p.plan.shape x.number ≡ x.shape) (cur : IsCurrent p.plan p.pairs q.shape cq) where
  abbrev level_below : ℕ
  level_below = suc (q.shape.height - 2)

  abbrev its_plan : Plan
  its_plan = p.plan

  home_named : its_plan.home level_below (bytes_above y.shape level_below) ≡ x.number
  home_named =
      let b : ℕ = digit q.shape.height key in
      let leads = at_digit its_plan p.pairs y q key below some_height y_covers q_covers (lookup cur.its.children b) (cur.under b (b_low its_plan p.pairs y q key below some_height y_covers q_covers)) in
      let to = leads_named its_plan (its_plan.home level_below (bytes_above y.shape level_below)) w (name_of x.shape) (lookup cur.its.children b) (named cur.its cur.encodes cur.in_form) spells leads in
      let house = p.tree.housed level_below (bytes_above y.shape level_below) to.0 in
      sym (same_name its_plan ns p.nodes x sx (its_plan.home level_below (bytes_above y.shape level_below)) to.0 house.low to.1)

  -- it is there at each level from there down to the new node's
  home_all : ((lv : ℕ) → y.shape.height ≤ lv → bytes_above x.shape lv ≡ bytes_above y.shape lv) → x.shape.height ≤ y.shape.height → (lv : ℕ) → y.shape.height ≤ lv → lv ≤ level_below → its_plan.home lv (bytes_above y.shape lv) ≡ x.number
  home_all same_bytes lower lv tall l =
      let as_x : (z : ℕ) → y.shape.height ≤ z → bytes_above (its_plan.shape x.number) z ≡ bytes_above y.shape z = λ z t. ap (λ (s : Shape). bytes_above s z) x_shaped ∙ same_bytes z t in
      let at_top : its_plan.home level_below (bytes_above (its_plan.shape x.number) level_below) ≡ x.number = ap (its_plan.home level_below) (as_x level_below (omega (arith, below, some_height))) ∙ home_named in
      let short : (its_plan.shape x.number).height ≤ lv = subst (λ (s : Shape). s.height ≤ lv) (sym x_shaped) (omega (arith, lower, tall)) in
      ap (its_plan.home lv) (sym (as_x lv tall)) ∙ descends its_plan ns p.contents p.pairs p.tree (level_below - lv) lv x.number sx.below_root_word short
      (subst (λ (z : ℕ). its_plan.home z (bytes_above (its_plan.shape x.number) z) ≡ x.number) (let s : level_below ≡ level_below - lv + lv = omega (arith, l) in s) at_top)

-- IN THE PLACE OF A FULL ONE
module _ (id : ℕ) (v : View) (key : ℕ) (y x q : Spot) (cy cx cq : Content) (word m : ℕ) (even : word ≡ 4 * m) (e : Content) (below : y.shape.height < q.shape.height) (some_height : 1 ≤ y.shape.height) (y_covers : Covers y.shape key) (q_covers : Covers q.shape key)
    (x_high : x.shape.height ≡ y.shape.height) (x_covers : Covers x.shape key) (e_long : length e ≡ words_of q.shape.form) (changes : Changes q cq e key y) (w : ℕ) (named : HadWord q cq key w) (spells : Spells w (name_of x.shape)) (grown : (n : TableNode ℕ) → Encodes cx n → n.form ≡ x.shape.form → Encodes cy (in_form n y.shape.form))
    (ns : List Node) (vs : List View) (p : IsMap ns vs) (seat : get_elem? vs id ≡ some v) (low : q.number < length ns) (held : (node ns q.number).holder ≡ Some id) (rises : (node ns q.number).word < word) (made : IsOff p.plan ns p.contents id y cy) (lx : IsLocked p.plan ns p.contents id x cx) (l : IsLocked p.plan ns p.contents id q cq) where
  abbrev Grown : List Own → Type 0
  Grown os = IsMap (set ns q.number (node_at (node ns q.number).place word e None)) (set vs id (view_of v.seen (y ∷ v.met) os))

  grown_joins : (node ns y.number).holder ≡ Some id → Grown (locked y cy ∷ detached x ∷ [])
  grown_joins mine =
      let d : Plan = p.plan in
      let g : ℕ = suc (q.shape.height - 2) in
      let x_top : x.shape.top ≡ y.shape.top = sym x_covers ∙ (ap (λ (z : ℕ). up z key) x_high ∙ y_covers) in
      let cur_q : IsCurrent d p.pairs q.shape cq = current_at d ns p.contents p.pairs id q cq p.tree l in
      let same_bytes : (lv : ℕ) → y.shape.height ≤ lv → bytes_above x.shape lv ≡ bytes_above y.shape lv = λ lv _. ap (λ (z : ℕ × ℕ). up (lv - z.0) z.1) (λ i. (x_high i, x_top i)) in
      let was = home_all key y x q cq below some_height y_covers q_covers w named spells ns vs p lx.met.spot lx.shaped cur_q same_bytes (omega (arith, x_high)) in
      let high_x : (d.shape x.number).height ≡ x.shape.height = ap (λ (s : Shape). s.height) lx.shaped in
      let occupied : (x.number ≡ 0) ⊎ (((d.shape x.number).height ≤ y.shape.height) × (((node ns x.number).holder ≡ Some id) ⊎ ((d.shape x.number).height < y.shape.height))) = inr (omega (arith, high_x, x_high), inl lx.holder) in
      let cur : IsCurrent d p.pairs x.shape cx = current_at d ns p.contents p.pairs id x cx p.tree lx in
      let of_y : IsCurrent (linked d y g) p.pairs y.shape cy = record {
        its = in_form cur.its y.shape.form;
        encodes = grown cur.its cur.encodes cur.in_form;
        in_form = refl;
        deep = ap (λ (z : ℕ). length cur.its.prefix + z) (sym x_high) ∙ cur.deep;
        prefixed = record {
          key = cur.prefixed.key;
          fits = cur.prefixed.fits;
          covers = ap (λ (z : ℕ). up z cur.prefixed.key) (sym x_high) ∙ (cur.prefixed.covers ∙ x_top);
          bytes = cur.prefixed.bytes;
        };
        under = λ b lo. under_alike d (linked d y g) p.pairs y.shape.height y.shape.top b (lookup cur.its.children b)
            (λ h at_h. leads_old d y g (lookup cur.its.children b) (suc h) (256 * y.shape.top + b) (λ on. let s = on.1.0 in omega (arith, s, at_h)))
            (subst (λ (z : ℕ × ℕ). IsUnder d p.pairs z.0 z.1 b (lookup cur.its.children b)) (λ i. (x_high i, x_top i)) (cur.under b lo));
      } in
      let out = x_detached id v key y q cy cq word m even e below some_height y_covers q_covers e_long changes ns vs p seat low held rises made l x.number was occupied of_y x cx lx x_high x_top in
      joins id v key y q cy cq word m even e below some_height y_covers q_covers e_long changes ns vs p seat low held rises made l x.number was occupied of_y (locked y cy ∷ detached x ∷ [])
      (y_locked id v key y q cy cq word m even e below some_height y_covers q_covers e_long changes ns vs p seat low held rises made l x.number was occupied of_y mine, (out, tt))

pub link_grown : (a : Ask) (id : ℕ) (v : View) (r x q : Spot) (cy cx cq : Content) → v.own ≡ detached r ∷ locked x cx ∷ locked q cq ∷ [] → (word m : ℕ) → word ≡ 4 * m → (e : Content) → a.height < q.shape.height → 1 ≤ a.height → Covers q.shape a.key
    → x.shape.height ≡ a.height → Covers x.shape a.key → length e ≡ words_of q.shape.form → Changes q cq e a.key (again a r) → (w : ℕ) → HadWord q cq a.key w → Spells w (name_of x.shape) → ((n : TableNode ℕ) → Encodes cx n → n.form ≡ x.shape.form → Encodes cy (in_form n r.shape.form))
    → acts.Frees IsMap id v q.number word e (LinksAgain a cy v q.number e)
link_grown a id v r x q cy cx cq is word m even e below some_height q_covers x_high x_covers e_long changes w named spells grown ns vs p seat low held rises =
    let y : Spot = again a r in
    let out : IsDetached p.plan ns id r = (its_own id v (detached r ∷ locked x cx ∷ locked q cq ∷ []) is ns vs p seat).0 in
    let p' : IsMap ns vs = replan id ns vs p r out y.shape refl refl cy in
    let own = its_own id v (detached r ∷ locked x cx ∷ locked q cq ∷ []) is ns vs p' seat in (
      view_of v.seen (y ∷ v.met) (locked y cy ∷ detached x ∷ []),
      (grown_joins id v a.key y x q cy cx cq word m even e below some_height refl q_covers x_high x_covers e_long changes w named spells grown ns vs p' seat low held rises (replan_off id ns vs p r out y.shape refl refl cy) own.1.0 own.1.1.0 out.holder),
      ap (λ (os : List Own). view_of v.seen (leads_again a os ++ v.met) (left_again a cy os)) (sym is),
    )

-- ABOVE A NODE whose path the key leaves: the new one has that node alone below it.
pub record IsSplit (y x : Spot) (byte : ℕ) (c : Content) : Type 0 where
  pub its : TableNode ℕ
  pub encodes : Encodes c its
  pub in_form : its.form ≡ y.shape.form
  pub deep : length its.prefix + y.shape.height ≡ 8
  pub prefixed : HasPrefix its.prefix y.shape
  pub one : its.children ≡ put [] byte (Below (name_of x.shape))

module _ (d : Plan) (y x : Spot) (g byte : ℕ) (ns : List Node) (cs : ℕ → Content) (m : Pairs ℕ) (t : IsTree d ns cs m) (sx : IsSpot d ns x) (x_shaped : d.shape x.number ≡ x.shape) (lower : x.shape.height < y.shape.height) (y_top : bytes_above x.shape y.shape.height ≡ y.shape.top) (low_byte : byte < 256) (y_byte : bytes_above x.shape (y.shape.height - 1) ≡ 256 * y.shape.top + byte) (here : d.home y.shape.height y.shape.top ≡ x.number) where
  abbrev only : List (ℕ × Child ℕ)
  only = put [] byte (Below (name_of x.shape))

  split_under : (h b : ℕ) → y.shape.height ≡ suc (suc h) → b < 256 → LeadsTo (linked d y g) (lookup only b) ((linked d y g).home (suc h) (256 * y.shape.top + b))
  split_under h b high lo = leads_old d y g (lookup only b) (suc h) (256 * y.shape.top + b) (λ on. let l = on.1.0 in omega (arith, l, high)) (dite (ℕ_discrete b byte)
      (λ e.
      let at_top : d.home (suc (suc h)) (bytes_above (d.shape x.number) (suc (suc h))) ≡ x.number = ap (d.home (suc (suc h))) (ap (λ (s : Shape). bytes_above s (suc (suc h))) x_shaped ∙ (ap (bytes_above x.shape) (sym high) ∙ y_top)) ∙ subst (λ (z : ℕ). d.home z y.shape.top ≡ x.number) high here in
      let one_down : d.home (suc h) (bytes_above (d.shape x.number) (suc h)) ≡ x.number = descends d ns cs m t 1 (suc h) x.number sx.below_root_word (subst (λ (s : Shape). s.height ≤ suc h) (sym x_shaped) (omega (arith, lower, high)))
      (subst (λ (z : ℕ). d.home z (bytes_above (d.shape x.number) z) ≡ x.number) (let s : suc (suc h) ≡ 1 + suc h = omega arith in s) at_top) in
      let byte_is : bytes_above (d.shape x.number) (suc h) ≡ 256 * y.shape.top + b = ap (λ (s : Shape). bytes_above s (suc h)) x_shaped ∙ (ap (bytes_above x.shape) (let s : suc h ≡ y.shape.height - 1 = omega (arith, high) in s) ∙ (y_byte ∙ ap (λ (z : ℕ). 256 * y.shape.top + z) (sym e))) in
      let child : d.home (suc h) (256 * y.shape.top + b) ≡ x.number = ap (d.home (suc h)) (sym byte_is) ∙ one_down in
      subst (λ (z : Option (Child ℕ) × ℕ). LeadsTo d z.0 z.1)
      (λ i. (sym (ap (lookup only) e ∙ lookup-put_same [] byte (Below (name_of x.shape))) i, sym child i))
      (sx.below_root_word, ap name_of (sym x_shaped)))
      (λ ne.
      let above : d.home (suc (suc h)) y.shape.top ≡ x.number = subst (λ (z : ℕ). d.home z y.shape.top ≡ x.number) high here in
      let gone : d.home (suc h) (256 * y.shape.top + b) ≡ 0 = (t.skips (suc h) y.shape.top b lo (subst (λ (z : ℕ). 1 ≤ z) (sym above) sx.below_root_word) (subst (λ (z : ℕ). (d.shape z).height ≤ suc h) (sym above) (subst (λ (s : Shape). s.height ≤ suc h) (sym x_shaped) (omega (arith, lower, high))))).1
      (λ bl. let w : bytes_above x.shape (suc h) ≡ 256 * y.shape.top + b = ap (λ (s : Shape). bytes_above s (suc h)) (sym x_shaped) ∙ subst (λ (z : ℕ). bytes_above (d.shape z) (suc h) ≡ 256 * y.shape.top + b) above bl.1 in
      let u : bytes_above x.shape (suc h) ≡ 256 * y.shape.top + byte = ap (bytes_above x.shape) (let s : suc h ≡ y.shape.height - 1 = omega (arith, high) in s) ∙ y_byte in
      ne (omega (arith, w, u))) in
      subst (λ (z : Option (Child ℕ)). LeadsTo d z (d.home (suc h) (256 * y.shape.top + b))) (sym (lookup-put_other [] byte (Below (name_of x.shape)) b ne)) gone))

module _ (id : ℕ) (v : View) (key : ℕ) (y x q : Spot) (byte : ℕ) (cy cq : Content) (word m : ℕ) (even : word ≡ 4 * m) (e : Content) (below : y.shape.height < q.shape.height) (some_x : 1 ≤ x.shape.height) (lower : x.shape.height < y.shape.height) (y_covers : Covers y.shape key) (q_covers : Covers q.shape key)
    (y_top : bytes_above x.shape y.shape.height ≡ y.shape.top) (low_byte : byte < 256) (y_byte : bytes_above x.shape (y.shape.height - 1) ≡ 256 * y.shape.top + byte)
    (e_long : length e ≡ words_of q.shape.form) (changes : Changes q cq e key y) (w : ℕ) (named : HadWord q cq key w) (spells : Spells w (name_of x.shape)) (mismatch : IsSplit y x byte cy)
    (ns : List Node) (vs : List View) (p : IsMap ns vs) (seat : get_elem? vs id ≡ some v) (low : q.number < length ns) (held : (node ns q.number).holder ≡ Some id) (rises : (node ns q.number).word < word) (made : IsOff p.plan ns p.contents id y cy) (sx : IsSpot p.plan ns x) (x_shaped : p.plan.shape x.number ≡ x.shape) (l : IsLocked p.plan ns p.contents id q cq) where
  abbrev Split : List Own → Type 0
  Split os = IsMap (set ns q.number (node_at (node ns q.number).place word e None)) (set vs id (view_of v.seen (y ∷ v.met) os))

  above_joins : (node ns y.number).holder ≡ Some id → Split (locked y cy ∷ [])
  above_joins mine =
      let d : Plan = p.plan in
      let g : ℕ = suc (q.shape.height - 2) in
      let some_height : 1 ≤ y.shape.height = omega (arith, lower, some_x) in
      let cur_q : IsCurrent d p.pairs q.shape cq = current_at d ns p.contents p.pairs id q cq p.tree l in
      let same_bytes : (lv : ℕ) → y.shape.height ≤ lv → bytes_above x.shape lv ≡ bytes_above y.shape lv = λ lv tall.
      sym (ap (up (lv - y.shape.height)) (sym y_top) ∙ (up-up (lv - y.shape.height) (y.shape.height - x.shape.height) x.shape.top ∙ ap (λ (z : ℕ). up z x.shape.top) (let s : lv - y.shape.height + (y.shape.height - x.shape.height) ≡ lv - x.shape.height = omega (arith, tall, lower) in s))) in
      let was = home_all key y x q cq below some_height y_covers q_covers w named spells ns vs p sx x_shaped cur_q same_bytes (omega (arith, lower)) in
      let high_x : (d.shape x.number).height ≡ x.shape.height = ap (λ (s : Shape). s.height) x_shaped in
      let occupied : (x.number ≡ 0) ⊎ (((d.shape x.number).height ≤ y.shape.height) × (((node ns x.number).holder ≡ Some id) ⊎ ((d.shape x.number).height < y.shape.height))) = inr (omega (arith, high_x, lower), inr (omega (arith, high_x, lower))) in
      let here : d.home y.shape.height y.shape.top ≡ x.number = ap (d.home y.shape.height) (sym (bytes_above-own y.shape)) ∙ was y.shape.height (omega arith) (omega (arith, below, some_height)) in
      let hh : ℕ = y.shape.height - 2 in
      let y_high : y.shape.height ≡ suc (suc hh) = omega (arith, some_x, lower) in
      let of_y : IsCurrent (linked d y g) p.pairs y.shape cy = record {
        its = mismatch.its;
        encodes = mismatch.encodes;
        in_form = mismatch.in_form;
        deep = mismatch.deep;
        prefixed = mismatch.prefixed;
        under = λ b lo. inner_under (linked d y g) p.pairs y.shape.height hh y.shape.top b (lookup mismatch.its.children b) y_high
            (subst (λ (fs : List (ℕ × Child ℕ)). LeadsTo (linked d y g) (lookup fs b) ((linked d y g).home (suc hh) (256 * y.shape.top + b))) (sym mismatch.one)
            (split_under d y x g byte ns p.contents p.pairs p.tree sx x_shaped lower y_top low_byte y_byte here hh b y_high lo));
      } in
      joins id v key y q cy cq word m even e below some_height y_covers q_covers e_long changes ns vs p seat low held rises made l x.number was occupied of_y (locked y cy ∷ [])
      (y_locked id v key y q cy cq word m even e below some_height y_covers q_covers e_long changes ns vs p seat low held rises made l x.number was occupied of_y mine, tt)

-- what the seat watches below a node that it has locked
watched_held : (id : ℕ) (ns : List Node) (vs : List View) (p : IsMap ns vs) (v : View) → get_elem? vs id ≡ some v → (q x : Spot) → (node ns q.number).holder ≡ Some id → IsIn (watch q.number None x) v.watched → LeadsDown p.plan q.number x × IsSpot p.plan ns x
watched_held id ns vs p v seat q x held known =
    let l = (each_in (IsWatched p.plan ns id) v.watched (watch q.number None x) known (p.each_view id v seat).watched).leads held in (
      l,
      record {
        below_root_word = l.some_node;
        low = subst (λ (z : ℕ). z < length ns) l.here (p.tree.housed l.level (bytes_above x.shape l.level) (subst (λ (z : ℕ). 1 ≤ z) (sym l.here) l.some_node)).low;
        key = ap (λ (z : Shape). z.key) l.shaped;
        form = ap (λ (z : Shape). z.form) l.shaped;
      },
    )

pub link_above : (a : Ask) (id : ℕ) (v : View) (r x q : Spot) (byte : ℕ) (cy cq : Content) → v.own ≡ detached r ∷ locked q cq ∷ [] → IsIn (watch q.number None x) v.watched → (word m : ℕ) → word ≡ 4 * m → (e : Content) → a.height < q.shape.height → 1 ≤ x.shape.height → x.shape.height < a.height → Covers q.shape a.key
    → bytes_above x.shape a.height ≡ up a.height a.key → byte < 256 → bytes_above x.shape (a.height - 1) ≡ 256 * up a.height a.key + byte
    → length e ≡ words_of q.shape.form → Changes q cq e a.key (again a r) → (w : ℕ) → HadWord q cq a.key w → Spells w (name_of x.shape) → IsSplit (again a r) x byte cy
    → acts.Frees IsMap id v q.number word e (LinksAgain a cy v q.number e)
link_above a id v r x q byte cy cq is known word m even e below some_x lower q_covers y_top low_byte y_byte e_long changes w named spells mismatch ns vs p seat low held rises =
    let y : Spot = again a r in
    let out : IsDetached p.plan ns id r = (its_own id v (detached r ∷ locked q cq ∷ []) is ns vs p seat).0 in
    let p' : IsMap ns vs = replan id ns vs p r out y.shape refl refl cy in
    let own = its_own id v (detached r ∷ locked q cq ∷ []) is ns vs p' seat in
    let l = watched_held id ns vs p' v seat q x held known in (
      view_of v.seen (y ∷ v.met) (locked y cy ∷ []),
      (above_joins id v a.key y x q byte cy cq word m even e below some_x lower refl q_covers y_top low_byte y_byte e_long changes w named spells mismatch ns vs p' seat low held rises (replan_off id ns vs p r out y.shape refl refl cy) l.1 l.0.shaped own.1.0 out.holder),
      ap (λ (os : List Own). view_of v.seen (leads_again a os ++ v.met) (left_again a cy os)) (sym is),
    )

-- AS THE ROOT
pub link_root : (a : Ask) (id : ℕ) (v : View) (x : Spot) (cy c : Content) → v.own ≡ detached x ∷ root_word c ∷ [] → (word m : ℕ) → word ≡ 4 * m → (e : Content) → at c 0 ≡ 0 → a.height ≡ 8 → up a.height a.key ≡ 0 → length e ≡ 1 → at e 0 ≡ name_of x.shape → 1 ≤ name_of x.shape → IsEmptyNode (again a x) cy
    → acts.Frees IsMap id v 0 word e (LinksAgain a cy v 0 e)
link_root a id v x cy c is word m even e zero_is high top e_long named some_name empty ns vs p₀ seat low held rises =
    let y : Spot = again a x in
    let out : IsDetached p₀.plan ns id x = (its_own id v (detached x ∷ root_word c ∷ []) is ns vs p₀ seat).0 in
    let p : IsMap ns vs = replan id ns vs p₀ x out y.shape refl refl cy in
    let own = its_own id v (detached x ∷ root_word c ∷ []) is ns vs p seat in
    let made : IsOff p.plan ns p.contents id y cy = replan_off id ns vs p₀ x out y.shape refl refl cy in
    let t : IsOwn p.plan ns p.contents id (root_word c) = own.1.0 in
    let d : Plan = p.plan in
    let z : Node = node_at (node ns 0).place word e None in
    let as_long : length e ≡ length (node ns 0).content = e_long ∙ sym p.nodes.root_word_long in
    let none_8 : d.home 8 0 ≡ 0 = ⊎_elim (λ none. none.1) (λ there. absurd (let w = there.1 in let u = ap (λ (x : Content). at x 0) t.1 in omega (arith, w, u, zero_is))) p.tree.root in
    let none : d.home y.shape.height y.shape.top ≡ 0 = subst (λ (x : ℕ × ℕ). d.home x.0 x.1 ≡ 0) (λ i. (sym high i, sym top i)) none_8 in
    let bytes_above_8 : bytes_above y.shape 8 ≡ 0 = ap (bytes_above y.shape) (sym high) ∙ (bytes_above-own y.shape ∙ top) in
    let was : (lv : ℕ) → y.shape.height ≤ lv → lv ≤ 8 → d.home lv (bytes_above y.shape lv) ≡ 0 = λ lv tall l. let s : 8 ≡ lv = omega (arith, tall, l, high) in
    subst (λ (x : ℕ). d.home x (bytes_above y.shape x) ≡ 0) s (ap (d.home 8) bytes_above_8 ∙ none_8) in
    let roof : d.home 9 (bytes_above y.shape 9) ≡ 0 = zero_of (d.home 9 (bytes_above y.shape 9)) (λ there. let l = (p.tree.housed 9 (bytes_above y.shape 9) there).level in omega (arith, l)) in
    let here : (linked d y 8).home 8 0 ≡ y.number = home_new d y 8 8 0 ((let l : 8 ≤ 8 = omega arith in l), ((let l : y.shape.height ≤ 8 = omega (arith, high) in l), bytes_above_8)) in
    let root : NamesRoot (linked d y 8) (at (node (set ns 0 z) 0).content 0) =
    subst (λ (x : Node). NamesRoot (linked d y 8) (at x.content 0)) (sym (is_here d ns 0 z low refl as_long 0 refl))
    (inr (subst (λ (x : ℕ). 1 ≤ x) (sym here) made.spot.below_root_word, subst (λ (x : ℕ). 1 ≤ x) (sym named) some_name, named ∙ sym (ap (λ (x : ℕ). name_of (d.shape x)) here ∙ ap name_of made.shaped))) in
    let not_root_word : y.number ≢ 0 = λ t. let s = made.spot.below_root_word in omega (arith, t, s) in
    let mine : IsOwn (linked d y 8) (set ns 0 z) (put_at p.contents 0 e) id (locked y cy) = record {
      met = y_met id v y cy 0 z ns vs p seat low refl as_long rises held (refl, (m, even)) made 8 (omega arith) (omega (arith, high)) (omega (arith, high)) 0 was (λ n. absurd (omega (arith, n))) (inl refl) roof (λ n. absurd (omega (arith, n))) (λ n. absurd (omega (arith, n)));
      shaped = made.shaped;
      holder = ap (λ (t : Node). t.holder) (is_else d ns 0 z low refl as_long y.number not_root_word) ∙ out.holder;
      content = y_content id v y cy 0 z ns vs p seat low refl as_long rises held (refl, (m, even)) made 8 (omega arith) (omega (arith, high)) (omega (arith, high)) 0 was (λ n. absurd (omega (arith, n))) (inl refl) roof (λ n. absurd (omega (arith, n))) (λ n. absurd (omega (arith, n)));
      current = home_new d y 8 y.shape.height y.shape.top ((let l : y.shape.height ≤ 8 = omega (arith, high) in l), ((let l : y.shape.height ≤ y.shape.height = omega arith in l), bytes_above-own y.shape));
    } in (
      view_of v.seen (y ∷ v.met) (locked y cy ∷ []),
      links_map id v y cy 0 z ns vs p seat low refl as_long rises held (refl, (m, even)) made 8 (omega arith) (omega (arith, high)) (omega (arith, high)) 0 was (λ n. absurd (omega (arith, n))) (inl refl) roof (λ n. absurd (omega (arith, n))) (λ n. absurd (omega (arith, n))) root (λ on. high)
          (empty_current d y 8 cy ns p.contents p.pairs p.tree none (omega (arith, high)) empty)
          (λ n. absurd (omega (arith, n)))
          (locked y cy ∷ []) (mine, tt),
      ap (λ (os : List Own). view_of v.seen (leads_again a os ++ v.met) (left_again a cy os)) (sym is),
    )
