-- What a check teaches, and that only the history and one view_of change.
use Rattle.std.proofs.Common.{◌≡◌, ⊎_elim, ℕ, Bool, true, false, zero, suc, ◌+◌, ◌*◌, ◌<◌, ◌≤◌, nat_eq, List, [], ◌∷◌, ◌++◌, length, length-set, set, Option, Some, None, refl, sym, ap, ◌∙◌, subst, arith}
use mathlib.Core.Option.{some}
use mathlib.Core.Logic.{dite}
use native.Mathlib.Decide.{ℕ_discrete}
use lib.ListN.{get_elem?}
use Rattle.atomic_table.proofs.Lists.{at_set, set_again}
use Rattle.spec_node.specs.TableNode.{TableNode, Child}
use Rattle.spec_node.specs.declared.child.Child.TheVariants.{Payload, Node as Below}
use Rattle.node_base.specs.Form.{form_place}
use Rattle.spec_map.specs.Map.{Pairs, lookup}
use Rattle.share_rule.specs.History.{Entry, IsHistory}
use Rattle.share_rule.specs.inner.Rule.{HasSeen}
use Rattle.live_nodes.proofs.Frames.{below, each_in}
use Rattle.live_nodes.specs.Nodes.{Content, Node, node}
use Rattle.live_nodes.specs.Seats.{Each, IsIn, Agree, Place, Read}
use Rattle.live_nodes.specs.Rule.{PlaceFits, ReadFits}
use Rattle.live_nodes.specs.Acts as acts
use Rattle.live_layout.specs.Encodes.{Encodes, IsBelow as HasBelow, IsWord}
use Rattle.live_nodes.specs.Levels.{up, digit, Shape, name_of, Covers, bytes_above, Spot, spot, place_at}
use Rattle.live_nodes.specs.Views.{View, view_of, Own, locked, Watch, watch, watching, Ask, got}
use Rattle.live_nodes.specs.Tree.{Plan, home_of, IsFree, LeadsTo, HasValue, IsUnder, IsCurrent, IsSpot, IsMet, LeadsDown, IsBound, IsWatched, Knows, IsLocked, IsOwn, AreNodes, IsTree, IsMap, GoesTo, HasAnswer, Gets, Finds, Misses, Looks, IsOfKind, IsNow, IsOf, LearnsNode, LearnsMiss, LearnsHead, LearnsBelow}
use Rattle.live_nodes.proofs.Histories.{get_legal, others_alike, sees_all, sees_less}
use Rattle.live_nodes.proofs.Plans.{digit-low, joined, at_home, missed, none_there, same_name, bytes_above-suc}

module _ (ns : List Node) (vs : List View) (id : ℕ) (p : IsMap ns vs) where
  -- ONE VIEW CHANGES
  pub with_view : (w : View) → Knows p.plan ns p.contents p.history id w → IsMap ns (set vs id w)
  with_view w knows = record {
    plan = p.plan;
    contents = p.contents;
    history = p.history;
    pairs = p.pairs;
    legal = p.legal;
    nodes = p.nodes;
    settled = p.settled;
    alive = p.alive;
    tree = p.tree;
    each_view = λ j u e. ⊎_elim (λ t. subst (λ (x : ℕ × View). Knows p.plan ns p.contents p.history x.0 x.1) (λ i. (sym t.0 i, t.1 i)) knows) (λ t. p.each_view j u t.1) (at_set vs id j w u e);
    unborn = λ c l. p.unborn c (omega (arith, l, length-set vs id w));
  }

-- ONE VIEW CHANGES, AND ITS SEAT HAS ENTERED what leaves the map as it is
module _ (ns : List Node) (vs : List View) (id : ℕ) (p : IsMap ns vs) (v : View) (seat : get_elem? vs id ≡ some v) (e : Entry ℕ) (by : e.caller ≡ id) (legal : IsHistory nat_eq (p.history ++ e ∷ []) p.pairs) (met : List Spot) (are_met : Each (IsMet p.plan ns) met) where
  abbrev longer : List (Entry ℕ)
  longer = p.history ++ e ∷ []

  pub with_entry : IsMap ns (set vs id (view_of longer met v.own))
  with_entry =
      let k = p.each_view id v seat in record {
        plan = p.plan;
        contents = p.contents;
        history = longer;
        pairs = p.pairs;
        legal = legal;
        nodes = p.nodes;
        settled = p.settled;
        alive = p.alive;
        tree = p.tree;
        each_view = λ j u at_j. ⊎_elim
            (λ t. subst (λ (x : ℕ × View). Knows p.plan ns p.contents longer x.0 x.1) (λ i. (sym t.0 i, t.1 i)) record { seen = sees_all id longer; met = are_met; own = k.own; watched = tt })
            (λ t. let o = p.each_view j u t.1 in record { seen = sees_less j id p.history u.seen (e ∷ []) t.0 (by, tt) o.seen; met = o.met; own = o.own; watched = o.watched })
            (at_set vs id j (view_of longer met v.own) u at_j);
        unborn = λ c l. let m : length vs ≤ c = omega (arith, l, length-set vs id (view_of longer met v.own)) in others_alike c id p.history (e ∷ []) (λ same. absurd (let low = below vs id v seat in omega (arith, low, same, m))) (by, tt) ∙ p.unborn c m;
      }

-- a node that is current is met
pub met_there : (ns : List Node) (vs : List View) (p : IsMap ns vs) (h t : ℕ) → 1 ≤ p.plan.home h t → IsMet p.plan ns (spot (p.plan.home h t) (p.plan.shape (p.plan.home h t)))
met_there ns vs p h t there =
    let house = p.tree.housed h t there in
    let here = at_home p.plan ns p.contents p.pairs p.tree h t there in record {
      spot = record { below_root_word = there; low = house.low; key = refl; form = refl };
      lasts = λ _. (refl, here);
      current = λ _. here;
    }

-- A NODE
module _ (ns : List Node) (vs : List View) (id : ℕ) (v : View) (p : IsMap ns vs) (seat : get_elem? vs id ≡ some v) (a : Spot) (mine : IsIn a v.met) where
  pub met : IsMet p.plan ns a
  met = each_in (IsMet p.plan ns) v.met a mine (p.each_view id v seat).met

  -- what it is now
  abbrev pub shape_now : Shape
  shape_now = p.plan.shape a.number

  pub is_now : IsNow a shape_now
  is_now = record { key = met.spot.key; form = met.spot.form; lasts = λ high. (met.lasts high).0 }

  pub is_current : IsFree (node ns a.number) → IsCurrent p.plan p.pairs shape_now (node ns a.number).content
  is_current free = let s = met.spot in
      subst (IsCurrent p.plan p.pairs shape_now) (sym (p.settled a.number s.below_root_word s.low free.0)) (p.tree.current a.number s.below_root_word (met.current free))

pub of_kind : (d : Plan) (m : Pairs ℕ) (height top b : ℕ) (o : Option (Child ℕ)) → IsUnder d m height top b o → IsOfKind height o
of_kind d m zero top b o u = absurd u
of_kind d m (suc zero) top b None u = tt
of_kind d m (suc zero) top b (Some (Payload x)) u = tt
of_kind d m (suc zero) top b (Some (Below s)) u = absurd u
of_kind d m (suc (suc h)) top b None u = tt
of_kind d m (suc (suc h)) top b (Some (Payload x)) u = absurd u
of_kind d m (suc (suc h)) top b (Some (Below s)) u = tt

-- What is under a key's digit: the key's value, or the node that is next on its path.
module _ (d : Plan) (ns : List Node) (cs : ℕ → Content) (m : Pairs ℕ) (t : IsTree d ns cs m) (k : ℕ) where
  pub at_leaf : (top : ℕ) (o : Option (Child ℕ)) → up 1 k ≡ top → IsUnder d m 1 top (digit 1 k) o → HasValue o (lookup m k)
  at_leaf top o is u = subst (λ (x : ℕ). HasValue o (lookup m x)) (joined 0 k top is) u

  pub at_inner : (h top : ℕ) (o : Option (Child ℕ)) → up (suc (suc h)) k ≡ top → IsUnder d m (suc (suc h)) top (digit (suc (suc h)) k) o → LeadsTo d o (d.home (suc h) (up (suc h) k))
  at_inner h top o is u = subst (λ (x : ℕ). LeadsTo d o (d.home (suc h) x)) (joined (suc h) k top is) u

module _ (q : Ask) (id : ℕ) (by : q.caller ≡ id) (v : View) (a : Spot) (mine : IsIn a v.met) (word : ℕ) (saw : List (ℕ × ℕ)) (m : ℕ) (even : word ≡ 4 * m) (reads : List Read) where
  abbrev Then : Type 1
  Then = Option (Child ℕ) → List Place → View → Type 0

  abbrev Owes : List Node → List View → Then → Option (Child ℕ) → Type 0
  Owes ns vs then o = (ps : List Place) × Each (PlaceFits ns) ps × ((w : View) × IsMap ns (set vs id w) × then o ps w)

  module _ (ns : List Node) (vs : List View) (p : IsMap ns vs) (seat : get_elem? vs id ≡ some v) where
    -- the node as it is now
    abbrev b : Spot
    b = spot a.number (p.plan.shape a.number)

    goes_to : (h s : ℕ) → suc (suc h) ≡ b.shape.height → LeadsTo p.plan (Some (Below s)) (p.plan.home (suc h) (up (suc h) q.key)) → Owes ns vs (λ o ps w. GoesTo v b s ps w) (Some (Below s))
    goes_to h s is leads =
        let j : ℕ = p.plan.home (suc h) (up (suc h) q.key) in
        let house = p.tree.housed (suc h) (up (suc h) q.key) leads.0 in
        let c : Spot = spot j (p.plan.shape j) in
        let k = p.each_view id v seat in
        let w : View = view_of v.seen (c ∷ v.met) v.own in (
          place_at c ∷ [],
          ((house.low, p.nodes.placed j leads.0 house.low, p.nodes.long j leads.0 house.low), tt),
          (
            w,
            with_view ns vs id p w record { seen = k.seen; met = (met_there ns vs p (suc h) (up (suc h) q.key) leads.0, k.met); own = k.own; watched = tt },
            record {
              spot = c;
              place = refl;
              is = refl;
              named = leads.1;
              lower = (let l = house.below.0 in omega (arith, l, is));
            },
          ),
        )

    has_answer : (found : Option ℕ) → lookup p.pairs q.key ≡ found → (w : View) × IsMap ns (set vs id w) × HasAnswer q found v w
    has_answer found is = let k = p.each_view id v seat in let legal = get_legal p.history p.pairs q found p.legal is in (
      view_of (p.history ++ got q found ∷ []) v.met v.own,
      with_entry ns vs id p v seat (got q found) by legal v.met k.met,
      record {
        is = refl;
        answers = record { whole = p.history; is = refl; fits = subst (λ (c : ℕ). HasSeen p.history c v.seen) (sym by) k.seen; legal = (p.pairs, legal) };
      },
    )

    gets : (height top : ℕ) (o : Option (Child ℕ)) → height ≡ b.shape.height → height < 9 → up height q.key ≡ top → IsUnder p.plan p.pairs height top (digit height q.key) o → Owes ns vs (Gets q v b) o
    gets zero top o at_h l is u = absurd u
    gets (suc zero) top None at_h l is u = ([], tt, has_answer None (at_leaf p.plan ns p.contents p.pairs p.tree q.key top None is u))
    gets (suc zero) top (Some (Payload x)) at_h l is u = ([], tt, has_answer (Some x) (at_leaf p.plan ns p.contents p.pairs p.tree q.key top (Some (Payload x)) is u))
    gets (suc zero) top (Some (Below s)) at_h l is u = absurd u
    gets (suc (suc h)) top None at_h l is u =
        ([], tt, has_answer None (none_there p.plan ns p.contents p.pairs p.tree h q.key (omega (arith, l)) (at_inner p.plan ns p.contents p.pairs p.tree q.key h top None is u)))
    gets (suc (suc h)) top (Some (Payload x)) at_h l is u = absurd u
    gets (suc (suc h)) top (Some (Below s)) at_h l is u = goes_to h s at_h (at_inner p.plan ns p.contents p.pairs p.tree q.key h top (Some (Below s)) is u)

    same_view : IsMap ns (set vs id v)
    same_view = subst (IsMap ns) (sym (set_again vs id v seat)) p

    finds : (height top : ℕ) (o : Option (Child ℕ)) → height ≡ b.shape.height → height < 9 → up height q.key ≡ top → IsUnder p.plan p.pairs height top (digit height q.key) o → Owes ns vs (Finds q v b) o
    finds zero top o at_h l is u = absurd u
    finds (suc zero) top None at_h l is u = ([], tt, (v, same_view, refl))
    finds (suc zero) top (Some (Payload x)) at_h l is u = ([], tt, (v, same_view, refl))
    finds (suc zero) top (Some (Below s)) at_h l is u = absurd u
    finds (suc (suc h)) top None at_h l is u = ([], tt, (v, same_view, refl))
    finds (suc (suc h)) top (Some (Payload x)) at_h l is u = absurd u
    finds (suc (suc h)) top (Some (Below s)) at_h l is u = goes_to h s at_h (at_inner p.plan ns p.contents p.pairs p.tree q.key h top (Some (Below s)) is u)

    -- A watched node below this one is what it was.
    pub same_watched : (x : Watch) → IsIn x v.watched → x.above ≡ a.number → (node ns a.number).holder ≡ None → x.word ≡ Some (node ns a.number).word → LeadsDown p.plan a.number x.spot
    same_watched x known above free word_is =
        let w = each_in (IsWatched p.plan ns id) v.watched x known (p.each_view id v seat).watched in
        subst (λ (z : ℕ). LeadsDown p.plan z x.spot) above (w.leads (subst (λ (o : Option ℕ). IsBound id o (node ns x.above)) (sym word_is) (subst (λ (z : ℕ). IsBound id (Some (node ns a.number).word) (node ns z)) (sym above) (free, refl))))

    misses : (node ns a.number).holder ≡ None → (node ns a.number).word ≡ word → (height top : ℕ) (o : Option (Child ℕ)) → height ≡ b.shape.height → height < 9 → up height q.key ≡ top → IsUnder p.plan p.pairs height top (digit height q.key) o → Owes ns vs (Misses word q v b) o
    misses free word_is zero top o at_h l is u = absurd u
    misses free word_is (suc zero) top None at_h l is u = ([], tt, (v, same_view, refl))
    misses free word_is (suc zero) top (Some (Payload x)) at_h l is u = ([], tt, (v, same_view, refl))
    misses free word_is (suc zero) top (Some (Below s)) at_h l is u = absurd u
    misses free word_is (suc (suc h)) top None at_h l is u = ([], tt, (v, same_view, refl))
    misses free word_is (suc (suc h)) top (Some (Payload x)) at_h l is u = absurd u
    misses free word_is (suc (suc h)) top (Some (Below s)) at_h l is u =
        let leads = at_inner p.plan ns p.contents p.pairs p.tree q.key h top (Some (Below s)) is u in
        let j : ℕ = p.plan.home (suc h) (up (suc h) q.key) in
        let house = p.tree.housed (suc h) (up (suc h) q.key) leads.0 in
        dite (ℕ_discrete (up (p.plan.shape j).height q.key) (p.plan.shape j).top)
        (λ covers. (
          [],
          tt,
          (
            v,
            same_view,
            (λ x parts. absurd (parts.leaves (
                let down = same_watched x parts.known parts.above free (parts.free_by ∙ ap (λ (z : ℕ). Some z) (sym word_is)) in
                let low_x : x.spot.number < length ns = subst (λ (z : ℕ). z < length ns) down.here (p.tree.housed down.level (bytes_above x.spot.shape down.level) (subst (λ (z : ℕ). 1 ≤ z) (sym down.here) down.some_node)).low in
                let number : x.spot.number ≡ j = same_name p.plan ns p.nodes x.spot record { below_root_word = down.some_node; low = low_x; key = ap (λ (z : Shape). z.key) down.shaped; form = ap (λ (z : Shape). z.form) down.shaped } j leads.0 house.low (sym parts.named ∙ leads.1) in
                subst (λ (z : Shape). Covers z q.key) (sym (ap p.plan.shape number) ∙ down.shaped) covers))),
          ),
        ))
        (λ ne. let r = has_answer None (missed p.plan ns p.contents p.pairs p.tree h q.key j (omega (arith, l)) leads.0 refl ne) in ([], tt, (r.0, r.1, (λ x parts. r.2))))

  -- what was read, by what is done then
  pub node_learns : (then : Ask → View → Spot → Option (Child ℕ) → List Place → View → Type 0)
      → ((ns : List Node) (vs : List View) (p : IsMap ns vs) → get_elem? vs id ≡ some v → (node ns a.number).holder ≡ None → (node ns a.number).word ≡ word → (height top : ℕ) (o : Option (Child ℕ)) → height ≡ (p.plan.shape a.number).height → height < 9 → up height q.key ≡ top
      → IsUnder p.plan p.pairs height top (digit height q.key) o → Owes ns vs (then q v (spot a.number (p.plan.shape a.number))) o)
      → acts.Learns IsMap id v a.number word saw reads (LearnsNode then q v a.number word saw)
  node_learns then owes ns vs p seat low is free agree fits =
      let there = met ns vs id v p seat a mine in
      let s : Shape = p.plan.shape a.number in
      let c = is_current ns vs id v p seat a mine (free, (m, is ∙ even)) in
      let x : ℕ = digit s.height q.key in
      let o : Option (Child ℕ) = lookup c.its.children x in
      let under = c.under x (digit-low s.height q.key) in
      let tell : (ps : List Place) (w : View) → (Covers s q.key → then q v (spot a.number s) o ps w) → ((Covers s q.key → ⊥) → w ≡ v) → LearnsNode then q v a.number word saw ps w =
      λ ps w on_path beside e known same.
      let now = is_now ns vs id v p seat e known in
      let shape_is : p.plan.shape e.number ≡ s = ap p.plan.shape same in
      record {
        shape = s;
        is = record {
          now = subst (IsNow e) shape_is now;
          content = (node ns a.number).content;
          its = c.its;
          agrees = agree;
          encodes = c.encodes;
          in_form = c.in_form ∙ (ap (λ (z : Shape). z.form) (sym shape_is) ∙ now.form);
          deep = c.deep;
          prefixed = c.prefixed;
        };
        of_kind = of_kind p.plan p.pairs s.height s.top x o under;
        on_path = λ covers. subst (λ (z : ℕ). then q v (spot z s) o ps w) (sym same) (on_path covers);
        beside = beside;
      } in
      dite (ℕ_discrete (up s.height q.key) s.top)
      (λ covers. let r = owes ns vs p seat free is s.height s.top o refl (let deep = c.deep in omega (arith, deep)) covers under in
      (r.0, r.1, (r.2.0, r.2.1, tell r.0 r.2.0 (λ _. r.2.2) (λ ne. absurd (ne covers)))))
      (λ ne. ([], tt, (v, same_view ns vs p seat, tell [] v (λ covers. absurd (ne covers)) (λ _. refl))))

  pub node_looks : (looks : Bool) → acts.Learns IsMap id v a.number word saw reads (LearnsNode (Looks looks) q v a.number word saw)
  node_looks true = node_learns Gets (λ ns vs p seat free is. gets ns vs p seat)
  node_looks false = node_learns Finds (λ ns vs p seat free is. finds ns vs p seat)

  pub node_misses : acts.Learns IsMap id v a.number word saw reads (LearnsMiss q v a.number word saw)
  node_misses = node_learns (Misses word) misses

-- A NODE as it is now
pub node_heads : (id : ℕ) (v : View) (a : Spot) (mine : IsIn a v.met) (word : ℕ) (saw : List (ℕ × ℕ)) (m : ℕ) → word ≡ 4 * m → (reads : List Read) → acts.Learns IsMap id v a.number word saw reads (LearnsHead v a.number word saw)
node_heads id v a mine word saw m even reads ns vs p seat low is free agree fits =
    let there = met ns vs id v p seat a mine in
    let s : Shape = p.plan.shape a.number in
    let is_free : IsFree (node ns a.number) = (free, (m, is ∙ even)) in
    let c = is_current ns vs id v p seat a mine is_free in
    let k = p.each_view id v seat in
    let w : View = view_of v.seen (spot a.number s ∷ v.met) v.own in
    let now_met : IsMet p.plan ns (spot a.number s) = record {
      spot = record { below_root_word = there.spot.below_root_word; low = there.spot.low; key = refl; form = refl };
      lasts = λ _. (refl, there.current is_free);
      current = there.current;
    } in (
      [],
      tt,
      (
        w,
        with_view ns vs id p w record { seen = k.seen; met = (now_met, k.met); own = k.own; watched = tt },
        (λ e known same.
            let now = is_now ns vs id v p seat e known in
            let shape_is : p.plan.shape e.number ≡ s = ap p.plan.shape same in
            record {
              shape = s;
              is = record {
                now = subst (IsNow e) shape_is now;
                content = (node ns a.number).content;
                its = c.its;
                agrees = agree;
                encodes = c.encodes;
                in_form = c.in_form ∙ (ap (λ (z : Shape). z.form) (sym shape_is) ∙ now.form);
                deep = c.deep;
                prefixed = c.prefixed;
              };
              heads = ap (λ (z : ℕ). view_of v.seen (spot z s ∷ v.met) v.own) (sym same);
            }),
      ),
    )

-- A NODE BELOW ANOTHER, which leads to it
named_below : (d : Plan) (j w name : ℕ) (o : Option (Child ℕ)) → HasBelow o (Some w) → ((s : ℕ) → IsWord w (Below s) → s ≡ name) → LeadsTo d o j → (1 ≤ j) × (name ≡ name_of (d.shape j))
named_below d j w name None below spells leads = absurd below
named_below d j w name (Some (Payload x)) below spells leads = absurd leads
named_below d j w name (Some (Below s)) below spells leads = (leads.0, sym (spells s below) ∙ leads.1)

module _ (d : Plan) (ns : List Node) (cs : ℕ → Content) (m : Pairs ℕ) (t : IsTree d ns cs m) (n : AreNodes d ns) (k : ℕ) (at_k : home_of d (d.shape k) ≡ k) (x : ℕ) (lo : x < 256) (o : Option (Child ℕ)) (w : ℕ) (below : HasBelow o (Some w)) (b : Spot) (its : IsSpot d ns b) (spells : (s : ℕ) → IsWord w (Below s) → s ≡ name_of b.shape) where
  pub leads_down : (height : ℕ) → height ≡ (d.shape k).height → 2 ≤ height → IsUnder d m height (d.shape k).top x o → LeadsDown d k (spot b.number (d.shape b.number))
  leads_down zero is tall u = absurd u
  leads_down (suc zero) is tall u = absurd (omega (arith, tall))
  leads_down (suc (suc h)) is tall u =
      let top : ℕ = (d.shape k).top in
      let j : ℕ = d.home (suc h) (256 * top + x) in
      let named = named_below d j w (name_of b.shape) o below spells u in
      let house = t.housed (suc h) (256 * top + x) named.0 in
      let number : b.number ≡ j = same_name d ns n b its j named.0 house.low named.1 in
      let low_b = subst (λ (z : ℕ). (d.shape z).height ≤ suc h) (sym number) house.below.0 in
      let bytes_above_b : bytes_above (d.shape b.number) (suc h) ≡ 256 * top + x = subst (λ (z : ℕ). bytes_above (d.shape z) (suc h) ≡ 256 * top + x) (sym number) house.below.1 in
      let up_b : bytes_above (d.shape b.number) (suc (suc h)) ≡ top = (let e = bytes_above-suc (d.shape b.number) (suc h) low_b in omega (arith, e, bytes_above_b, lo)) in record {
        level = suc h;
        some_node = its.below_root_word;
        shaped = refl;
        tall = low_b;
        here = ap (d.home (suc h)) bytes_above_b ∙ sym number;
        above = ap (d.home (suc (suc h))) up_b ∙ subst (λ (z : ℕ). d.home z top ≡ k) (sym is) at_k;
        above_high = sym is;
      }

-- what was read of the node above: a child of that word under a byte, and that it is no leaf
abbrev pub HadBelow : Spot → Read → ℕ → ℕ → Type 0
HadBelow a r x w = (s : Shape) (is : IsOf a s r.saw) → (2 ≤ s.height) × HasBelow (lookup is.its.children x) (Some w)

pub node_below : (id : ℕ) (v : View) (b : Spot) (mine : IsIn b v.met) (word : ℕ) (saw : List (ℕ × ℕ)) (m : ℕ) → word ≡ 4 * m → (reads : List Read)
    → (a : Spot) → IsIn a v.met → (r : Read) → IsIn r reads → r.number ≡ a.number → (l : ℕ) → r.word ≡ 4 * l
    → (x : ℕ) → x < 256 → (w : ℕ) → HadBelow a r x w → ((s : ℕ) → IsWord w (Below s) → s ≡ name_of b.shape)
    → acts.Learns IsMap id v b.number word saw reads (LearnsBelow a.number (Some r.word) v b.number word saw)
node_below id v b mine word saw m even reads a known r read_is number l free_by x lo w had spells ns vs p seat low is free agree fits =
    let mb = met ns vs id v p seat b mine in
    let ma = met ns vs id v p seat a known in
    let s : Shape = p.plan.shape b.number in
    let c = is_current ns vs id v p seat b mine (free, (m, is ∙ even)) in
    let fit = (each_in (ReadFits ns) reads r read_is fits).1 l free_by in
    let new : Watch = watch a.number (Some r.word) (spot b.number s) in
    let k = p.each_view id v seat in
    let watched : IsWatched p.plan ns id new = record {
      below_root_word = ma.spot.below_root_word;
      low = ma.spot.low;
      later = subst (λ (z : ℕ). r.word ≤ (node ns z).word) number fit.0;
      leads = λ bound. let free_a = bound.0 in let same = bound.1 in
          let is_free : IsFree (node ns a.number) = (free_a, (l, sym same ∙ free_by)) in
          let cur = is_current ns vs id v p seat a known is_free in
          let agree_a : Agree (node ns a.number).content r.saw = subst (λ (z : ℕ). Agree (node ns z).content r.saw) number (fit.1 (same ∙ ap (λ (z : ℕ). (node ns z).word) (sym number))) in
          let of_a : IsOf a (p.plan.shape a.number) r.saw = record {
            now = is_now ns vs id v p seat a known;
            content = (node ns a.number).content;
            its = cur.its;
            agrees = agree_a;
            encodes = cur.encodes;
            in_form = cur.in_form ∙ ma.spot.form;
            deep = cur.deep;
            prefixed = cur.prefixed;
          } in
          let h = had (p.plan.shape a.number) of_a in
          leads_down p.plan ns p.contents p.pairs p.tree p.nodes a.number (ma.current is_free) x lo (lookup cur.its.children x) w h.1 b mb.spot spells (p.plan.shape a.number).height refl h.0 (cur.under x lo);
    } in (
      [],
      tt,
      (
        watching v new,
        with_view ns vs id p (watching v new) record { seen = k.seen; met = k.met; own = k.own; watched = (watched, tt) },
        (λ e known_e same.
            let now = is_now ns vs id v p seat e known_e in
            let shape_is : p.plan.shape e.number ≡ s = ap p.plan.shape same in
            record {
              shape = s;
              is = record {
                now = subst (IsNow e) shape_is now;
                content = (node ns b.number).content;
                its = c.its;
                agrees = agree;
                encodes = c.encodes;
                in_form = c.in_form ∙ (ap (λ (z : Shape). z.form) (sym shape_is) ∙ now.form);
                deep = c.deep;
                prefixed = c.prefixed;
              };
              watches = ap (λ (z : ℕ). watching v (watch a.number (Some r.word) (spot z s))) (sym same);
              one_name = λ f known_f as_e.
                  let of_f = met ns vs id v p seat f known_f in
                  let of_e = met ns vs id v p seat e known_e in
                  λ i. 256 * (sym of_f.spot.key ∙ (ap (λ (z : ℕ). (p.plan.shape z).key) as_e ∙ of_e.spot.key)) i + form_place ((sym of_f.spot.form ∙ (ap (λ (z : ℕ). (p.plan.shape z).form) as_e ∙ of_e.spot.form)) i);
            }),
      ),
    )

-- below a node that the seat has locked
pub node_below_held : (id : ℕ) (v : View) (b : Spot) (mine : IsIn b v.met) (word : ℕ) (saw : List (ℕ × ℕ)) (m : ℕ) → word ≡ 4 * m → (reads : List Read)
    → (a : Spot) (c : Content) (os : List Own) → v.own ≡ locked a c ∷ os → 2 ≤ a.shape.height → (x : ℕ) → x < 256 → (w : ℕ)
    → ((n : TableNode ℕ) → Encodes c n → n.form ≡ a.shape.form → HasBelow (lookup n.children x) (Some w)) → ((s : ℕ) → IsWord w (Below s) → s ≡ name_of b.shape)
    → acts.Learns IsMap id v b.number word saw reads (LearnsBelow a.number None v b.number word saw)
node_below_held id v b mine word saw m even reads a c os own tall x lo w had spells ns vs p seat low is free agree fits =
    let mb = met ns vs id v p seat b mine in
    let s : Shape = p.plan.shape b.number in
    let cur_b = is_current ns vs id v p seat b mine (free, (m, is ∙ even)) in
    let k = p.each_view id v seat in
    let l : IsLocked p.plan ns p.contents id a c = (subst (Each (IsOwn p.plan ns p.contents id)) own k.own).0 in
    let at_a : home_of p.plan (p.plan.shape a.number) ≡ a.number = ap (home_of p.plan) l.shaped ∙ l.current in
    let cur = p.tree.current a.number l.met.spot.below_root_word at_a in
    let new : Watch = watch a.number None (spot b.number s) in
    let below = had cur.its (subst (λ (z : Content). Encodes z cur.its) l.content cur.encodes) (cur.in_form ∙ l.met.spot.form) in
    let watched : IsWatched p.plan ns id new = record {
      below_root_word = l.met.spot.below_root_word;
      low = l.met.spot.low;
      later = tt;
      leads = λ _. leads_down p.plan ns p.contents p.pairs p.tree p.nodes a.number at_a x lo (lookup cur.its.children x) w below b mb.spot spells (p.plan.shape a.number).height refl (subst (λ (z : Shape). 2 ≤ z.height) (sym l.shaped) tall) (cur.under x lo);
    } in (
      [],
      tt,
      (
        watching v new,
        with_view ns vs id p (watching v new) record { seen = k.seen; met = k.met; own = k.own; watched = (watched, tt) },
        (λ e known_e same.
            let now = is_now ns vs id v p seat e known_e in
            let shape_is : p.plan.shape e.number ≡ s = ap p.plan.shape same in
            record {
              shape = s;
              is = record {
                now = subst (IsNow e) shape_is now;
                content = (node ns b.number).content;
                its = cur_b.its;
                agrees = agree;
                encodes = cur_b.encodes;
                in_form = cur_b.in_form ∙ (ap (λ (z : Shape). z.form) (sym shape_is) ∙ now.form);
                deep = cur_b.deep;
                prefixed = cur_b.prefixed;
              };
              watches = ap (λ (z : ℕ). watching v (watch a.number None (spot z s))) (sym same);
              one_name = λ f known_f as_e.
                  let of_f = met ns vs id v p seat f known_f in
                  let of_e = met ns vs id v p seat e known_e in
                  λ i. 256 * (sym of_f.spot.key ∙ (ap (λ (z : ℕ). (p.plan.shape z).key) as_e ∙ of_e.spot.key)) i + form_place ((sym of_f.spot.form ∙ (ap (λ (z : ℕ). (p.plan.shape z).form) as_e ∙ of_e.spot.form)) i);
            }),
      ),
    )
