-- What a look-up learns at a node by the law.
use Rattle.std.proofs.Common.{◌≡◌, ℕ, zero, suc, ◌*◌, ◌<◌, ◌≤◌, List, [], ◌∷◌, ◌++◌, length, set, Option, Some, None, refl, sym, ap, ◌∙◌, subst, arith}
use mathlib.Core.Option.{some}
use mathlib.Core.Logic.{dite}
use native.Mathlib.Decide.{ℕ_discrete}
use lib.ListN.{get_elem?}
use Rattle.spec_node.specs.TableNode.{Child}
use Rattle.spec_node.specs.declared.child.Child.TheVariants.{Payload, Node as Below}
use Rattle.spec_map.specs.Map.{lookup}
use Rattle.atomic_table.proofs.Lists.{set_again}
use Rattle.share_rule.specs.History.{Entry}
use Rattle.share_rule.specs.inner.Rule.{HasSeen}
use Rattle.live_nodes.specs.Acts as acts
use Rattle.live_nodes.specs.Nodes.{Node, node}
use Rattle.live_nodes.specs.Rule.{PlaceFits}
use Rattle.live_nodes.specs.Seats.{Each, IsIn, Place, Read}
use Rattle.live_nodes.specs.Levels.{up, digit, Shape, Covers, bytes_above, Spot, spot}
use Rattle.live_nodes.specs.Views.{View, view_of}
use Rattle.live_nodes.specs.Tree.{IsUnder, IsMap}
use Rattle.live_nodes.proofs.Looks.{with_entry, at_leaf, at_inner, same_watched, node_learns}
use Rattle.live_nodes.proofs.Plans.{none_there, missed, same_name}
use Rattle.live_updates.specs.inner.Lookups.{Lookup, asked_by, IsLookup, MayEnd, Seeks, LearnsSeek}

-- A seat's call ends, and the map stays.
module _ (ns : List Node) (vs : List View) (id : ℕ) (p : IsMap ns vs) (v : View) (seat : get_elem? vs id ≡ some v) where
  pub same_view : IsMap ns (set vs id v)
  same_view = subst (IsMap ns) (sym (set_again vs id v seat)) p

-- A seat's call may end by a value that is the key's.
module _ (ns : List Node) (vs : List View) (id : ℕ) (p : IsMap ns vs) (v : View) (seat : get_elem? vs id ≡ some v) (q : Lookup) (is : IsLookup q) (by : q.caller ≡ id) (found : Option ℕ) (has : lookup p.pairs q.key ≡ found) where
  abbrev Ends : Option (Entry ℕ) → Type 0
  Ends o = (w : View) × IsMap ns (set vs id w) × MayEnd q.caller o v w

  ends_by : (o : Option (Entry ℕ)) → q.entry found ≡ o → Ends o
  ends_by None e = (v, same_view ns vs id p v seat, refl)
  ends_by (Some x) e =
      let k = p.each_view id v seat in
      let legal = is.legal found x e p.history p.pairs p.legal has in (
        view_of (p.history ++ x ∷ []) v.met v.own,
        with_entry ns vs id p v seat x (is.by found x e ∙ by) legal v.met k.met,
        record {
          is = refl;
          answers = record { whole = p.history; is = refl; fits = subst (λ (c : ℕ). HasSeen p.history c v.seen) (sym by) k.seen; legal = (p.pairs, legal) };
        },
      )

  pub ends : Ends (q.entry found)
  ends = ends_by (q.entry found) refl

-- A NODE WAS READ on the path of a key
module _ (q : Lookup) (law : IsLookup q) (id : ℕ) (by : q.caller ≡ id) (v : View) (a : Spot) (mine : IsIn a v.met) (word : ℕ) (saw : List (ℕ × ℕ)) (m : ℕ) (even : word ≡ 4 * m) (reads : List Read) where
  module _ (ns : List Node) (vs : List View) (p : IsMap ns vs) (seat : get_elem? vs id ≡ some v) (free : (node ns a.number).holder ≡ None) (word_is : (node ns a.number).word ≡ word) where
    -- the node as it is now
    abbrev b : Spot
    b = spot a.number (p.plan.shape a.number)

    abbrev Owes : Option (Child ℕ) → Type 0
    Owes o = (ps : List Place) × Each (PlaceFits ns) ps × ((w : View) × IsMap ns (set vs id w) × Seeks q word (asked_by q) v b o ps w)

    seeks : (height top : ℕ) (o : Option (Child ℕ)) → height ≡ b.shape.height → height < 9 → up height q.key ≡ top → IsUnder p.plan p.pairs height top (digit height q.key) o → Owes o
    seeks zero top o at_h l is u = absurd u
    seeks (suc zero) top None at_h l is u = ([], tt, ends ns vs id p v seat q law by None (at_leaf p.plan ns p.contents p.pairs p.tree q.key top None is u))
    seeks (suc zero) top (Some (Payload y)) at_h l is u = ([], tt, ends ns vs id p v seat q law by (Some y) (at_leaf p.plan ns p.contents p.pairs p.tree q.key top (Some (Payload y)) is u))
    seeks (suc zero) top (Some (Below s)) at_h l is u = absurd u
    seeks (suc (suc h)) top None at_h l is u =
        ([], tt, ends ns vs id p v seat q law by None (none_there p.plan ns p.contents p.pairs p.tree h q.key (omega (arith, l)) (at_inner p.plan ns p.contents p.pairs p.tree q.key h top None is u)))
    seeks (suc (suc h)) top (Some (Payload y)) at_h l is u = absurd u
    seeks (suc (suc h)) top (Some (Below s)) at_h l is u =
        let leads = at_inner p.plan ns p.contents p.pairs p.tree q.key h top (Some (Below s)) is u in
        let j : ℕ = p.plan.home (suc h) (up (suc h) q.key) in
        let house = p.tree.housed (suc h) (up (suc h) q.key) leads.0 in
        dite (ℕ_discrete (up (p.plan.shape j).height q.key) (p.plan.shape j).top)
        (λ covers. (
          [],
          tt,
          (
            v,
            same_view ns vs id p v seat,
            (λ x parts. absurd (parts.leaves (
                let down = same_watched (asked_by q) id by v a mine word saw m even reads ns vs p seat x parts.known parts.above free (parts.free_by ∙ ap (λ (z : ℕ). Some z) (sym word_is)) in
                let low_x : x.spot.number < length ns = subst (λ (z : ℕ). z < length ns) down.here (p.tree.housed down.level (bytes_above x.spot.shape down.level) (subst (λ (z : ℕ). 1 ≤ z) (sym down.here) down.some_node)).low in
                let number : x.spot.number ≡ j = same_name p.plan ns p.nodes x.spot record { below_root_word = down.some_node; low = low_x; key = ap (λ (z : Shape). z.key) down.shaped; form = ap (λ (z : Shape). z.form) down.shaped } j leads.0 house.low (sym parts.named ∙ leads.1) in
                subst (λ (z : Shape). Covers z q.key) (sym (ap p.plan.shape number) ∙ down.shaped) covers))),
          ),
        ))
        (λ ne. let r = ends ns vs id p v seat q law by None (missed p.plan ns p.contents p.pairs p.tree h q.key j (omega (arith, l)) leads.0 refl ne) in ([], tt, (r.0, r.1, (λ x parts. r.2))))

  pub node_seeks : acts.Learns IsMap id v a.number word saw reads (LearnsSeek q v a.number word saw)
  node_seeks = node_learns (asked_by q) id by v a mine word saw m even reads (Seeks q word) seeks
