-- A node is locked: a free one, or one that is obsolete.
use Rattle.std.proofs.Common.{◌≡◌, ◌≢◌, ℕ, ◌+◌, ◌*◌, ◌<◌, ◌≤◌, List, ◌∷◌, length, set, Some, None, refl, sym, ap, ◌∙◌, subst, arith}
use mathlib.Core.Option.{some}
use lib.ListN.{get_elem?}
use Rattle.live_nodes.proofs.Frames.{each_map}
use Rattle.live_nodes.specs.Nodes.{Node, node, node_at}
use Rattle.live_nodes.specs.Seats.{Each, IsIn}
use Rattle.live_nodes.specs.Acts as acts
use Rattle.live_nodes.specs.Levels.{Shape, Spot, spot}
use Rattle.live_nodes.specs.Views.{View, view_of, Own, locked, detached, root_word}
use Rattle.live_nodes.specs.Tree.{Plan, home_of, IsFree, IsMet, IsOwn, IsMap, IsNow, IsApart, LearnsLocked, LearnsReclaimed, LearnsRootWord}
use Rattle.live_nodes.proofs.Changes.{with_map, nodes_stay, settled_stays, alive_stays, met_stays, watch_stays, own_stays, each_stays, apart_from, tree_same, is_here, low_stays, changed}
use Rattle.live_nodes.proofs.Looks.{met, is_now, is_current}

not_some : {A : Type 0} (x : A) → Some x ≡ None → ⊥
not_some x e = cc

one_seat : (i j : ℕ) → Some i ≡ Some j → i ≡ j
one_seat i j e = cc

-- a node that no seat holds becomes held
module _ (id : ℕ) (v : View) (k word : ℕ) (ns : List Node) (vs : List View) (p : IsMap ns vs) (seat : get_elem? vs id ≡ some v) (low : k < length ns) (free : (node ns k).holder ≡ None) (rises : (node ns k).word < word) where
  abbrev b : Node
  b = node_at (node ns k).place word (node ns k).content (Some id)

  if_free : 1 ≤ k → IsFree b → home_of p.plan (p.plan.shape k) ≡ k
  if_free some_node f = absurd (not_some id f.0)

  no_holder : (j : ℕ) → (node ns k).holder ≢ Some j
  no_holder j e = not_some j (sym e ∙ free)

  apart : (j : ℕ) (o : Own) → IsOwn p.plan ns p.contents j o → IsApart k o
  apart j = apart_from p.plan ns k b low refl refl p.contents j (no_holder j)

  pub each_apart : Each (IsApart k) v.own
  each_apart = each_map (IsOwn p.plan ns p.contents id) (IsApart k) v.own (apart id) (p.each_view id v seat).own

  goes : (o : Own) → IsOwn p.plan (changed p.plan ns k b low refl refl) p.contents id o → IsMap (set ns k b) (set vs id (view_of v.seen v.met (o ∷ v.own)))
  goes o own =
      let kn = p.each_view id v seat in
      with_map ns vs id p (set ns k b) (view_of v.seen v.met (o ∷ v.own)) p.plan p.contents p.history p.pairs p.legal (nodes_stay p.plan ns k b low refl refl p.nodes)
      (settled_stays p.plan ns k b low refl refl p.contents p.contents p.settled (λ some_node none. absurd (not_some id none)) (λ j ne. refl))
      (alive_stays p.plan ns k b low refl refl p.alive (λ some_node here none. absurd (not_some id none)))
      (tree_same p.plan ns k b low refl refl p.contents p.pairs p.tree (λ _. refl))
      (met_stays p.plan ns k b low refl refl if_free)
      (λ j ne. watch_stays p.plan ns k b low refl refl rises j (λ e. ne (one_seat j id (sym e))))
      (λ j ne o has. own_stays p.plan ns k b low refl refl if_free p.contents p.contents (λ i ne. refl) j o (apart j o has) has)
      (λ j ne s h. h) p.unborn record {
        seen = kn.seen;
        met = each_map (IsMet p.plan ns) (IsMet p.plan (set ns k b)) v.met (met_stays p.plan ns k b low refl refl if_free) kn.met;
        own = (own, each_stays p.plan ns k b low refl refl if_free p.contents p.contents (λ i ne. refl) id v.own each_apart kn.own);
        watched = tt;
      }

  held_now : (node (set ns k b) k).holder ≡ Some id
  held_now = ap (λ (z : Node). z.holder) (is_here p.plan ns k b low refl refl k refl)

  same_now : (node (set ns k b) k).content ≡ (node ns k).content
  same_now = ap (λ (z : Node). z.content) (is_here p.plan ns k b low refl refl k refl)

-- what it is now has been met
met_now : (d : Plan) (ns : List Node) (a : Spot) → IsMet d ns a → ((d.shape a.number).height ≡ 8 → home_of d (d.shape a.number) ≡ a.number) → IsMet d ns (spot a.number (d.shape a.number))
met_now d ns a m high = record {
  spot = record { below_root_word = m.spot.below_root_word; low = m.spot.low; key = refl; form = refl };
  lasts = λ e. (refl, high e);
  current = m.current;
}

pub node_locks : (id : ℕ) (v : View) (a : Spot) (mine : IsIn a v.met) (word m : ℕ) → word ≡ 4 * m → acts.Locks IsMap id v a.number word (word + 2) (LearnsLocked v a.number)
node_locks id v a mine word m even ns vs p seat low is free =
    let there = met ns vs id v p seat a mine in
    let is_free : IsFree (node ns a.number) = (free, (m, is ∙ even)) in
    let here = there.current is_free in
    let c = is_current ns vs id v p seat a mine is_free in
    let k : ℕ = a.number in
    let s : Shape = p.plan.shape k in
    let rises : (node ns k).word < word + 2 = omega (arith, is) in (
      view_of v.seen v.met (locked (spot k s) (node ns k).content ∷ v.own),
      goes id v k (word + 2) ns vs p seat low free rises (locked (spot k s) (node ns k).content) record {
        met = met_now p.plan (set ns k (b id v k (word + 2) ns vs p seat low free rises)) a (met_stays p.plan ns k (b id v k (word + 2) ns vs p seat low free rises) low refl refl (if_free id v k (word + 2) ns vs p seat low free rises) a there) (λ _. here);
        shaped = refl;
        holder = held_now id v k (word + 2) ns vs p seat low free rises;
        content = sym (p.settled k there.spot.below_root_word low free);
        current = here;
      },
      (λ z known same.
          let now = is_now ns vs id v p seat z known in
          let shape_is : p.plan.shape z.number ≡ s = ap p.plan.shape same in record {
            shape = s;
            now = subst (IsNow z) shape_is now;
            is = ap (λ (y : ℕ). view_of v.seen v.met (locked (spot y s) (node ns k).content ∷ v.own)) (sym same);
            its = c.its;
            encodes = c.encodes;
            in_form = c.in_form ∙ (ap (λ (y : Shape). y.form) (sym shape_is) ∙ now.form);
            deep = c.deep;
            prefixed = c.prefixed;
            apart = subst (λ (y : ℕ). Each (IsApart y) v.own) (sym same) (each_apart id v k (word + 2) ns vs p seat low free rises);
          }),
    )

-- a node that is obsolete is no part of the map
pub node_reclaims : (id : ℕ) (v : View) (a : Spot) (mine : IsIn a v.met) (word m : ℕ) → word ≡ 4 * m + 3 → (new : ℕ) → word < new → acts.Locks IsMap id v a.number word new (LearnsReclaimed v a.number)
node_reclaims id v a mine word m odd new later ns vs p seat low is free =
    let there = met ns vs id v p seat a mine in
    let k : ℕ = a.number in
    let s : Shape = p.plan.shape k in
    let gone : home_of p.plan s ≢ k = λ here. (let f = p.alive k there.spot.below_root_word low here free in let e = f.1.1 in omega (arith, e, is, odd)) in
    let rises : (node ns k).word < new = omega (arith, is, later) in (
      view_of v.seen v.met (detached (spot k s) ∷ v.own),
      goes id v k new ns vs p seat low free rises (detached (spot k s)) record {
        spot = record { below_root_word = there.spot.below_root_word; low = low_stays p.plan ns k (b id v k new ns vs p seat low free rises) low refl refl k low; key = refl; form = refl };
        holder = held_now id v k new ns vs p seat low free rises;
        replaced = gone;
      },
      (λ z known same.
          let now = is_now ns vs id v p seat z known in
          let shape_is : p.plan.shape z.number ≡ s = ap p.plan.shape same in record {
            shape = s;
            now = subst (IsNow z) shape_is now;
            is = ap (λ (y : ℕ). view_of v.seen v.met (detached (spot y s) ∷ v.own)) (sym same);
            apart = subst (λ (y : ℕ). Each (IsApart y) v.own) (sym same) (each_apart id v k new ns vs p seat low free rises);
          }),
    )

pub root_word_locks : (id : ℕ) (v : View) (word : ℕ) → acts.Locks IsMap id v 0 word (word + 2) (LearnsRootWord v 0)
root_word_locks id v word ns vs p seat low is free =
    let rises : (node ns 0).word < word + 2 = omega (arith, is) in (
      view_of v.seen v.met (root_word (node ns 0).content ∷ v.own),
      goes id v 0 (word + 2) ns vs p seat low free rises (root_word (node ns 0).content) (held_now id v 0 (word + 2) ns vs p seat low free rises, same_now id v 0 (word + 2) ns vs p seat low free rises),
      refl,
    )
