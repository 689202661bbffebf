-- One node changes, and what stays so.
use Rattle.std.proofs.Common.{◌≡◌, ◌≢◌, ⊎_elim, ℕ, ◌/◌, ◌<◌, ◌≤◌, nat_eq, List, [], ◌∷◌, length, length-set, set, Option, Some, None, sym, ap, ◌∙◌, subst, arith}
use mathlib.Core.Logic.{dite}
use native.Mathlib.Decide.{ℕ_discrete}
use Rattle.atomic_table.proofs.Lists.{at_set}
use Rattle.spec_map.specs.Map.{Pairs, lookup}
use Rattle.share_rule.specs.History.{Entry, entries_of, IsHistory}
use Rattle.share_rule.specs.inner.Rule.{HasSeen}
use Rattle.live_nodes.proofs.Frames.{each_map, node_here, node_else}
use Rattle.live_nodes.specs.Nodes.{Content, at, Node, node}
use Rattle.live_nodes.specs.Seats.{Each}
use Rattle.live_nodes.specs.Levels.{Spot}
use Rattle.live_nodes.specs.Views.{View, Watch, Own, locked, detached, root_word}
use Rattle.live_nodes.specs.Tree.{Plan, home_of, IsFree, NamesRoot, IsCurrent, IsSpot, IsMet, IsBound, NoLater, IsWatched, IsOwn, IsApart, Knows, AreNodes, AreAlive, IsSettled, IsTree, IsMap}

-- ANOTHER MAP, which all other seats know as well as the one before
module _ (ns : List Node) (vs : List View) (id : ℕ) (p : IsMap ns vs) where
  pub with_map : (ns' : List Node) (w : View) (plan : Plan) (cs : ℕ → Content) (history : List (Entry ℕ)) (pairs : Pairs ℕ) → IsHistory nat_eq history pairs → AreNodes plan ns' → IsSettled ns' cs → AreAlive plan ns' → IsTree plan ns' cs pairs
      → ((a : Spot) → IsMet p.plan ns a → IsMet plan ns' a)
      → ((j : ℕ) → j ≢ id → (x : Watch) → IsWatched p.plan ns j x → IsWatched plan ns' j x)
      → ((j : ℕ) → j ≢ id → (o : Own) → IsOwn p.plan ns p.contents j o → IsOwn plan ns' cs j o)
      → ((j : ℕ) → j ≢ id → (s : List (Entry ℕ)) → HasSeen p.history j s → HasSeen history j s)
      → ((c : ℕ) → length vs ≤ c → entries_of c history ≡ [])
      → Knows plan ns' cs history id w → IsMap ns' (set vs id w)
  with_map ns' w plan cs history pairs legal nodes settled alive tree met watched own seen unborn knows = record {
    plan = plan;
    contents = cs;
    history = history;
    pairs = pairs;
    legal = legal;
    nodes = nodes;
    settled = settled;
    alive = alive;
    tree = tree;
    each_view = λ j u e. ⊎_elim
        (λ t. subst (λ (x : ℕ × View). Knows plan ns' cs history x.0 x.1) (λ i. (sym t.0 i, t.1 i)) knows)
        (λ t. let k = p.each_view j u t.1 in record {
          seen = seen j t.0 u.seen k.seen;
          met = each_map (IsMet p.plan ns) (IsMet plan ns') u.met met k.met;
          own = each_map (IsOwn p.plan ns p.contents j) (IsOwn plan ns' cs j) u.own (own j t.0) k.own;
          watched = each_map (IsWatched p.plan ns j) (IsWatched plan ns' j) u.watched (watched j t.0) k.watched;
        })
        (at_set vs id j w u e);
    unborn = λ c l. unborn c (omega (arith, l, length-set vs id w));
  }

-- a node that has changed is bound no more
pub no_later : (o : Option ℕ) (a b : Node) → a.word < b.word → NoLater o a → NoLater o b
no_later (Some t) a b rises l = omega (arith, rises, l)
no_later None a b rises l = tt

pub not_bound : (j : ℕ) (o : Option ℕ) (a b : Node) → a.word < b.word → b.holder ≢ Some j → NoLater o a → IsBound j o b → ⊥
not_bound j (Some t) a b rises ne l bound = let e = bound.1 in absurd (omega (arith, rises, l, e))
not_bound j None a b rises ne l bound = ne bound

-- ONE NODE becomes b, which lies there too, and is as long. Its word is a later one.
module _ (d : Plan) (ns : List Node) (k : ℕ) (b : Node) (low : k < length ns) (there : b.place ≡ (node ns k).place) (long : length b.content ≡ length (node ns k).content) where
  abbrev pub changed : List Node
  changed = set ns k b

  pub is_here : (j : ℕ) → j ≡ k → node changed j ≡ b
  is_here j e = ap (node changed) e ∙ node_here ns k b low

  pub is_else : (j : ℕ) → j ≢ k → node changed j ≡ node ns j
  is_else j ne = node_else ns k j b ne

  place_stays : (j : ℕ) → (node changed j).place ≡ (node ns j).place
  place_stays j = dite (ℕ_discrete j k)
      (λ e. ap (λ (z : Node). z.place) (is_here j e) ∙ (there ∙ ap (λ (z : ℕ). (node ns z).place) (sym e)))
      (λ ne. ap (λ (z : Node). z.place) (is_else j ne))

  long_stays : (j : ℕ) → length (node changed j).content ≡ length (node ns j).content
  long_stays j = dite (ℕ_discrete j k)
      (λ e. ap (λ (z : Node). length z.content) (is_here j e) ∙ (long ∙ ap (λ (z : ℕ). length (node ns z).content) (sym e)))
      (λ ne. ap (λ (z : Node). length z.content) (is_else j ne))

  pub low_stays : (j : ℕ) → j < length ns → j < length changed
  low_stays j l = omega (arith, l, length-set ns k b)

  pub nodes_stay : AreNodes d ns → AreNodes d changed
  nodes_stay n = record {
    some_root_word = low_stays 0 n.some_root_word;
    root_word_long = long_stays 0 ∙ n.root_word_long;
    placed = λ j some_node l. place_stays j ∙ n.placed j some_node (omega (arith, l, length-set ns k b));
    long = λ j some_node l. long_stays j ∙ n.long j some_node (omega (arith, l, length-set ns k b));
    apart = λ i j some_i some_j l m. n.apart i j some_i some_j (omega (arith, l, length-set ns k b)) (omega (arith, m, length-set ns k b));
  }

  pub spot_stays : (a : Spot) → IsSpot d ns a → IsSpot d changed a
  spot_stays a s = record { below_root_word = s.below_root_word; low = low_stays a.number s.low; key = s.key; form = s.form }

  -- What it has is there, and it isn't obsolete where it is current.
  pub settled_stays : (cs cs' : ℕ → Content) → IsSettled ns cs → (1 ≤ k → b.holder ≡ None → b.content ≡ cs' k) → ((j : ℕ) → j ≢ k → cs' j ≡ cs j) → IsSettled changed cs'
  settled_stays cs cs' s here else j some_node l free = dite (ℕ_discrete j k)
      (λ e. ap (λ (z : Node). z.content) (is_here j e) ∙ (here (subst (λ (z : ℕ). 1 ≤ z) e some_node) (sym (ap (λ (z : Node). z.holder) (is_here j e)) ∙ free) ∙ ap cs' (sym e)))
      (λ ne. ap (λ (z : Node). z.content) (is_else j ne) ∙ (s j some_node (omega (arith, l, length-set ns k b)) (sym (ap (λ (z : Node). z.holder) (is_else j ne)) ∙ free) ∙ sym (else j ne)))

  pub alive_stays : AreAlive d ns → (1 ≤ k → home_of d (d.shape k) ≡ k → b.holder ≡ None → IsFree b) → AreAlive d changed
  alive_stays s here j some_node l at_home free = dite (ℕ_discrete j k)
      (λ e. subst IsFree (sym (is_here j e)) (here (subst (λ (z : ℕ). 1 ≤ z) e some_node) (subst (λ (z : ℕ). home_of d (d.shape z) ≡ z) e at_home) (sym (ap (λ (z : Node). z.holder) (is_here j e)) ∙ free)))
      (λ ne. subst IsFree (sym (is_else j ne)) (s j some_node (omega (arith, l, length-set ns k b)) at_home (sym (ap (λ (z : Node). z.holder) (is_else j ne)) ∙ free)))

  pub met_stays : (1 ≤ k → IsFree b → home_of d (d.shape k) ≡ k) → (a : Spot) → IsMet d ns a → IsMet d changed a
  met_stays if_free a m = record {
    spot = spot_stays a m.spot;
    lasts = m.lasts;
    current = dite (ℕ_discrete a.number k)
        (λ e f. subst (λ (z : ℕ). home_of d (d.shape z) ≡ z) (sym e) (if_free (subst (λ (z : ℕ). 1 ≤ z) e m.spot.below_root_word) (subst IsFree (is_here a.number e) f)))
        (λ ne f. m.current (subst IsFree (is_else a.number ne) f));
  }

  pub watch_stays : (node ns k).word < b.word → (j : ℕ) → b.holder ≢ Some j → (x : Watch) → IsWatched d ns j x → IsWatched d changed j x
  watch_stays rises j not_mine x w = record {
    below_root_word = w.below_root_word;
    low = low_stays x.above w.low;
    later = dite (ℕ_discrete x.above k)
        (λ e. subst (NoLater x.word) (sym (is_here x.above e)) (no_later x.word (node ns k) b rises (subst (λ (z : ℕ). NoLater x.word (node ns z)) e w.later)))
        (λ ne. subst (NoLater x.word) (sym (is_else x.above ne)) w.later);
    leads = dite (ℕ_discrete x.above k)
        (λ e bound. absurd (not_bound j x.word (node ns k) b rises not_mine (subst (λ (z : ℕ). NoLater x.word (node ns z)) e w.later) (subst (IsBound j x.word) (is_here x.above e) bound)))
        (λ ne bound. w.leads (subst (IsBound j x.word) (is_else x.above ne) bound));
  }

  -- what a seat has to itself, where the node isn't among it
  module _ (if_free : 1 ≤ k → IsFree b → home_of d (d.shape k) ≡ k) (cs cs' : ℕ → Content) (else : (j : ℕ) → j ≢ k → cs' j ≡ cs j) (j : ℕ) where
    pub own_stays : (o : Own) → IsApart k o → IsOwn d ns cs j o → IsOwn d changed cs' j o
    own_stays (locked a c) ne h = record {
      met = met_stays if_free a h.met;
      shaped = h.shaped;
      holder = ap (λ (z : Node). z.holder) (is_else a.number ne) ∙ h.holder;
      content = else a.number ne ∙ h.content;
      current = h.current;
    }
    own_stays (detached a) ne h = record {
      spot = spot_stays a h.spot;
      holder = ap (λ (z : Node). z.holder) (is_else a.number ne) ∙ h.holder;
      replaced = h.replaced;
    }
    own_stays (root_word c) ne h = (
      ap (λ (z : Node). z.holder) (is_else 0 ne) ∙ h.0,
      ap (λ (z : Node). z.content) (is_else 0 ne) ∙ h.1,
    )

    pub each_stays : (os : List Own) → Each (IsApart k) os → Each (IsOwn d ns cs j) os → Each (IsOwn d changed cs' j) os
    each_stays [] ne h = tt
    each_stays (o ∷ os) ne h = (own_stays o ne.0 h.0, each_stays os ne.1 h.1)

  -- what another seat has isn't this node
  module _ (cs : ℕ → Content) (j : ℕ) (no_holder : (node ns k).holder ≢ Some j) where
    others : (a : ℕ) → (node ns a).holder ≡ Some j → a ≢ k
    others a h e = no_holder (ap (λ (z : ℕ). (node ns z).holder) (sym e) ∙ h)

    pub apart_from : (o : Own) → IsOwn d ns cs j o → IsApart k o
    apart_from (locked a c) h = others a.number h.holder
    apart_from (detached a) h = others a.number h.holder
    apart_from (root_word c) h = others 0 h.0

  -- THE TREE, with the same nodes current
  pub tree_stays : (cs cs' : ℕ → Content) (m m' : Pairs ℕ) → IsTree d ns cs m
      → (k ≡ 0 → NamesRoot d (at b.content 0))
      → (1 ≤ k → home_of d (d.shape k) ≡ k → IsCurrent d m' (d.shape k) (cs' k))
      → ((j : ℕ) → 1 ≤ j → j ≢ k → home_of d (d.shape j) ≡ j → IsCurrent d m (d.shape j) (cs j) → IsCurrent d m' (d.shape j) (cs' j))
      → ((x : ℕ) → d.home 1 (x / 256) ≡ 0 → lookup m' x ≡ None) → IsTree d changed cs' m'
  tree_stays cs cs' m m' t root its else none = record {
    root = dite (ℕ_discrete 0 k)
        (λ e. subst (λ (z : Node). NamesRoot d (at z.content 0)) (sym (is_here 0 e)) (root (sym e)))
        (λ ne. subst (λ (z : Node). NamesRoot d (at z.content 0)) (sym (is_else 0 ne)) t.root);
    rooted = t.rooted;
    housed = λ h s some_node. let w = t.housed h s some_node in record { low = low_stays (d.home h s) w.low; level = w.level; some_height = w.some_height; below = w.below };
    upward = t.upward;
    skips = t.skips;
    current = λ j some_node here. dite (ℕ_discrete j k)
        (λ e. subst (λ (z : ℕ). IsCurrent d m' (d.shape z) (cs' z)) (sym e) (its (subst (λ (z : ℕ). 1 ≤ z) e some_node) (subst (λ (z : ℕ). home_of d (d.shape z) ≡ z) e here)))
        (λ ne. else j some_node ne here (t.current j some_node here));
    absent = none;
  }

  -- nothing in it changes
  pub tree_same : (cs : ℕ → Content) (m : Pairs ℕ) → IsTree d ns cs m → (k ≡ 0 → b.content ≡ (node ns k).content) → IsTree d changed cs m
  tree_same cs m t same = tree_stays cs cs m m t
      (λ e. subst (λ (z : Content). NamesRoot d (at z 0)) (ap (λ (z : ℕ). (node ns z).content) (sym e) ∙ sym (same e)) t.root)
      (λ some_node here. t.current k some_node here)
      (λ j some_node ne here c. c) t.absent
