-- A node that a seat has locked, and that is no part of the map, is going to be another one: where it will be, and what it will
-- have, may be chosen at any time.
use Rattle.std.proofs.Common.{◌≡◌, ◌≢◌, ⊎_elim, ℕ, suc, ◌+◌, ◌*◌, ◌≤◌, Bool, cond, nat_eq, List, Option, Some, None, refl, sym, ap, ◌∙◌, subst, inl, inr, eq-eqb, ne_eqb}
use mathlib.Core.Logic.{dite}
use native.Mathlib.Decide.{ℕ_discrete}
use Rattle.spec_node.specs.TableNode.{Child}
use Rattle.spec_node.specs.declared.child.Child.TheVariants.{Payload, Node as Below}
use Rattle.live_nodes.proofs.Frames.{each_map, put_at, put_here, put_else}
use Rattle.live_nodes.specs.Nodes.{Content, Node, node}
use Rattle.live_layout.specs.Encodes.{words_of}
use Rattle.live_nodes.specs.Levels.{Shape, name_of, bytes_above, IsBelow, Spot, spot}
use Rattle.live_nodes.specs.Views.{View, Watch, Own, locked, detached, root_word}
use Rattle.live_nodes.specs.Tree.{Plan, home_of, LeadsTo, IsCurrent, IsSpot, IsMet, IsWatched, IsDetached, IsOwn, AreNodes, AreAlive, IsSettled, IsTree, IsMap}
use Rattle.live_nodes.proofs.Plans.{at_home}
use Rattle.live_nodes.proofs.Makes.{current_alike}
use Rattle.live_nodes.proofs.Links.{IsOff}

not_some : {A : Type 0} (x : A) → Some x ≡ None → ⊥
not_some x e = cc

one_seat : (i j : ℕ) → Some i ≡ Some j → i ≡ j
one_seat i j e = cc

module _ (id : ℕ) (ns : List Node) (vs : List View) (p : IsMap ns vs) (x : Spot) (out : IsDetached p.plan ns id x) (s : Shape) (key_is : s.key ≡ x.shape.key) (form_is : s.form ≡ x.shape.form) (content : Content) where
  abbrev d : Plan
  d = p.plan

  abbrev k : ℕ
  k = x.number

  abbrev d' : Plan
  d' = record { shape = λ j. cond (nat_eq j k) s (d.shape j); home = d.home }

  abbrev cs' : ℕ → Content
  cs' = put_at p.contents k content

  shape_new : d'.shape k ≡ s
  shape_new = ap (λ (t : Bool). cond t s (d.shape k)) (eq-eqb k k refl)

  shape_old : (j : ℕ) → j ≢ k → d'.shape j ≡ d.shape j
  shape_old j ne = ap (λ (t : Bool). cond t s (d.shape j)) (ne_eqb j k ne)

  -- no node is where it was
  nowhere : (h t : ℕ) → d.home h t ≢ k
  nowhere h t e = out.replaced (subst (λ (z : ℕ). home_of d (d.shape z) ≡ z) e (at_home d ns p.contents p.pairs p.tree h t (subst (λ (z : ℕ). 1 ≤ z) (sym e) out.spot.below_root_word)))

  home_old : (h t : ℕ) → d'.shape (d.home h t) ≡ d.shape (d.home h t)
  home_old h t = shape_old (d.home h t) (nowhere h t)

  -- its key and its form are what they were
  key_stays : (j : ℕ) → (d'.shape j).key ≡ (d.shape j).key
  key_stays j = dite (ℕ_discrete j k)
      (λ e. ap (λ (z : ℕ). (d'.shape z).key) e ∙ (ap (λ (z : Shape). z.key) shape_new ∙ (key_is ∙ (sym out.spot.key ∙ ap (λ (z : ℕ). (d.shape z).key) (sym e)))))
      (λ ne. ap (λ (z : Shape). z.key) (shape_old j ne))

  form_stays : (j : ℕ) → (d'.shape j).form ≡ (d.shape j).form
  form_stays j = dite (ℕ_discrete j k)
      (λ e. ap (λ (z : ℕ). (d'.shape z).form) e ∙ (ap (λ (z : Shape). z.form) shape_new ∙ (form_is ∙ (sym out.spot.form ∙ ap (λ (z : ℕ). (d.shape z).form) (sym e)))))
      (λ ne. ap (λ (z : Shape). z.form) (shape_old j ne))

  spot_stays : (a : Spot) → IsSpot d ns a → IsSpot d' ns a
  spot_stays a t = record { below_root_word = t.below_root_word; low = t.low; key = key_stays a.number ∙ t.key; form = form_stays a.number ∙ t.form }

  held_k : (j : ℕ) → j ≡ k → (node ns j).holder ≡ Some id
  held_k j e = ap (λ (z : ℕ). (node ns z).holder) e ∙ out.holder

  met_stays : (a : Spot) → IsMet d ns a → IsMet d' ns a
  met_stays a m = record {
    spot = spot_stays a m.spot;
    lasts = λ high. let l = m.lasts high in (shape_old a.number (λ e. nowhere a.shape.height a.shape.top (l.1 ∙ e)) ∙ l.0, l.1);
    current = λ f. let ne : a.number ≢ k = λ e. not_some id (sym (held_k a.number e) ∙ f.0) in ap (home_of d) (shape_old a.number ne) ∙ m.current f;
  }

  watch_stays : (j : ℕ) (a : Watch) → IsWatched d ns j a → IsWatched d' ns j a
  watch_stays j a w = record {
    below_root_word = w.below_root_word;
    low = w.low;
    later = w.later;
    leads = λ bound. let l = w.leads bound in record {
      level = l.level;
      some_node = l.some_node;
      shaped = shape_old a.spot.number (λ e. nowhere l.level (bytes_above a.spot.shape l.level) (l.here ∙ e)) ∙ l.shaped;
      tall = l.tall;
      here = l.here;
      above = l.above;
      above_high = ap (λ (z : Shape). z.height) (shape_old a.above (λ e. nowhere (suc l.level) (bytes_above a.spot.shape (suc l.level)) (l.above ∙ e))) ∙ l.above_high;
    };
  }

  own_stays : (j : ℕ) (o : Own) → IsOwn d ns p.contents j o → IsOwn d' ns cs' j o
  own_stays j (locked a c) h = let ne : a.number ≢ k = λ e. nowhere a.shape.height a.shape.top (h.current ∙ e) in record {
    met = met_stays a h.met;
    shaped = shape_old a.number ne ∙ h.shaped;
    holder = h.holder;
    content = put_else p.contents k content a.number ne ∙ h.content;
    current = h.current;
  }
  own_stays j (detached a) h = record {
    spot = spot_stays a h.spot;
    holder = h.holder;
    replaced = dite (ℕ_discrete a.number k)
        (λ e here. nowhere (d'.shape a.number).height (d'.shape a.number).top (here ∙ e))
        (λ ne here. h.replaced (ap (home_of d) (sym (shape_old a.number ne)) ∙ here));
  }
  own_stays j (root_word c) h = h

  nodes_stay : AreNodes d' ns
  nodes_stay = let n = p.nodes in record {
    some_root_word = n.some_root_word;
    root_word_long = n.root_word_long;
    placed = λ j some_node l. n.placed j some_node l ∙ sym (key_stays j);
    long = λ j some_node l. n.long j some_node l ∙ ap words_of (sym (form_stays j));
    apart = λ i j some_i some_j l m same. n.apart i j some_i some_j l m (sym (key_stays i) ∙ (same ∙ key_stays j));
  }

  settled_stays : IsSettled ns cs'
  settled_stays j some_node l free = let ne : j ≢ k = λ e. not_some id (sym (held_k j e) ∙ free) in p.settled j some_node l free ∙ sym (put_else p.contents k content j ne)

  alive_stays : AreAlive d' ns
  alive_stays j some_node l here free = let ne : j ≢ k = λ e. not_some id (sym (held_k j e) ∙ free) in p.alive j some_node l (ap (home_of d) (sym (shape_old j ne)) ∙ here) free

  leads_stays : (o : Option (Child ℕ)) (h t : ℕ) → LeadsTo d o (d.home h t) → LeadsTo d' o (d.home h t)
  leads_stays None h t l = l
  leads_stays (Some (Payload w)) h t l = l
  leads_stays (Some (Below w)) h t l = (l.0, l.1 ∙ sym (ap name_of (home_old h t)))

  tree_stays : IsTree d' ns cs' p.pairs
  tree_stays = let t = p.tree in record {
    root = ⊎_elim
        (λ no. inl no)
        (λ there. inr (there.0, there.1, there.2 ∙ sym (ap name_of (home_old 8 0))))
        t.root;
    rooted = λ some_node. subst (λ (z : Shape). z.height ≡ 8) (sym (home_old 8 0)) (t.rooted some_node);
    housed = λ h y some_node. let w = t.housed h y some_node in let same = home_old h y in record {
      low = w.low;
      level = w.level;
      some_height = subst (λ (z : Shape). 1 ≤ z.height) (sym same) w.some_height;
      below = subst (λ (z : Shape). IsBelow z h y) (sym same) w.below;
    };
    upward = t.upward;
    skips = λ h y b lo some_node lower. let same = home_old (suc h) y in
        subst (λ (z : Shape). (IsBelow z h (256 * y + b) → d.home h (256 * y + b) ≡ d.home (suc h) y) × ((IsBelow z h (256 * y + b) → ⊥) → d.home h (256 * y + b) ≡ 0)) (sym same)
        (t.skips h y b lo some_node (subst (λ (z : Shape). z.height ≤ h) same lower));
    current = λ j some_node here.
        let ne : j ≢ k = λ e. nowhere (d'.shape j).height (d'.shape j).top (here ∙ e) in
        let same = shape_old j ne in
        subst (λ (z : Shape × Content). IsCurrent d' p.pairs z.0 z.1) (λ i. (sym same i, sym (put_else p.contents k content j ne) i))
        (current_alike d d' p.pairs (d.shape j) (p.contents j) (λ o h y l e. leads_stays o (suc h) (256 * (d.shape j).top + y)) (t.current j some_node (ap (home_of d) (sym same) ∙ here)));
    absent = t.absent;
  }

  pub replan : IsMap ns vs
  replan = record {
    plan = d';
    contents = cs';
    history = p.history;
    pairs = p.pairs;
    legal = p.legal;
    nodes = nodes_stay;
    settled = settled_stays;
    alive = alive_stays;
    tree = tree_stays;
    each_view = λ j u e. let k = p.each_view j u e in record {
      seen = k.seen;
      met = each_map (IsMet d ns) (IsMet d' ns) u.met met_stays k.met;
      own = each_map (IsOwn d ns p.contents j) (IsOwn d' ns cs' j) u.own (own_stays j) k.own;
      watched = each_map (IsWatched d ns j) (IsWatched d' ns j) u.watched (watch_stays j) k.watched;
    };
    unborn = p.unborn;
  }

  pub replan_off : IsOff replan.plan ns replan.contents id (spot k s) content
  unfolding replan
  replan_off = record {
    spot = record { below_root_word = out.spot.below_root_word; low = out.spot.low; key = ap (λ (z : Shape). z.key) shape_new; form = ap (λ (z : Shape). z.form) shape_new };
    shaped = shape_new;
    nowhere = nowhere;
    mine = λ j e. one_seat j id (sym e ∙ out.holder);
    free = λ none. absurd (not_some id (sym out.holder ∙ none));
    content = put_here p.contents k content;
  }
