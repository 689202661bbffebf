-- What the root word's check teaches: the root is met, and who begins enters this.
use Rattle.std.proofs.Common.{◌≡◌, ⊎_elim, ℕ, ◌-◌, List, [], ◌∷◌, ◌++◌, set, refl, sym, ap, ◌∙◌, subst, arith}
use mathlib.Core.Option.{some}
use lib.ListN.{get_elem?}
use Rattle.atomic_table.proofs.Lists.{set_again}
use Rattle.live_nodes.specs.Nodes.{at, Node, node}
use Rattle.live_nodes.specs.Seats.{Each}
use Rattle.live_nodes.specs.Levels.{up, Spot, spot, place_at}
use Rattle.live_nodes.specs.Views.{View, view_of}
use Rattle.live_nodes.specs.Tree.{IsMet, IsMap, Answers}
use Rattle.live_nodes.specs.Begun.{began}
use Rattle.live_nodes.specs.Roots.{History, MayLearnRoot}
use Rattle.live_nodes.proofs.Histories.{began_legal}
use Rattle.live_nodes.proofs.Looks.{with_view, with_entry, met_there}

abbrev first_of : List (ℕ × ℕ) → ℕ
first_of [] = 0
first_of (x ∷ xs) = x.1

-- THE ROOT is met, if the view that has met it may be the seat's
module _ (sees : History → History → Type 0) (id : ℕ) (v : View) where
  -- what is seen then, where that node is met
  abbrev Chooses : (ns : List Node) (vs : List View) → IsMap ns vs → Type 0
  Chooses ns vs p = (met : List Spot) → Each (IsMet p.plan ns) met → (h : History) × IsMap ns (set vs id (view_of h met v.own)) × sees v.seen h

  root_met : ((ns : List Node) (vs : List View) (p : IsMap ns vs) → get_elem? vs id ≡ some v → Chooses ns vs p) → MayLearnRoot sees id v
  root_met chooses word x reads ns vs p seat low is free agree fits = ⊎_elim
      (λ none. ([], tt, (v, subst (IsMap ns) (sym (set_again vs id v seat)) p, (λ x' e. ((λ some_root. absurd (let same : x ≡ x' = ap first_of e in let was : at (node ns 0).content 0 ≡ x = agree.0 in let zero_is = none.0 in omega (arith, same, some_root, was, zero_is))), (λ _. (refl, refl)))))))
      (λ there.
      let k : ℕ = p.plan.home 8 0 in
      let h = p.tree.housed 8 0 there.0 in
      let a : Spot = spot k (p.plan.shape k) in
      let knows = p.each_view id v seat in
      let chosen = chooses ns vs p seat (a ∷ v.met) (met_there ns vs p 8 0 there.0, knows.met) in (
        place_at a ∷ [],
        ((h.low, p.nodes.placed k there.0 h.low, p.nodes.long k there.0 h.low), tt),
        (
          view_of chosen.0 (a ∷ v.met) v.own,
          chosen.1,
          (λ x' e. (
            (λ some_root. record {
              spot = a;
              place = refl;
              is = refl;
              seen = chosen.2;
              named = sym (ap first_of e) ∙ (sym agree.0 ∙ there.2);
              height = p.tree.rooted there.0;
              top = sym (ap (λ (z : ℕ). up (8 - z) a.shape.top) (p.tree.rooted there.0)) ∙ h.below.1;
            }),
            (λ zero_is. absurd (let same : x ≡ x' = ap first_of e in let was : at (node ns 0).content 0 ≡ x = agree.0 in let some_root = there.1 in omega (arith, same, some_root, was, zero_is))),
          )),
        ),
      ))
      p.tree.root

-- by who has seen no more
pub root_learns : (id : ℕ) (v : View) → MayLearnRoot (λ old new. new ≡ old) id v
unfolding root_met
root_learns id v = root_met (λ old new. new ≡ old) id v (λ ns vs p seat met are_met.
    let k = p.each_view id v seat in (v.seen, with_view ns vs id p (view_of v.seen met v.own) record { seen = k.seen; met = are_met; own = k.own; watched = tt }, refl))

-- by a reader that begins
pub begins_there : (id : ℕ) (v : View) → MayLearnRoot (Answers id (began id)) id v
begins_there id v = root_met (Answers id (began id)) id v (λ ns vs p seat met are_met.
    let k = p.each_view id v seat in
    let legal = began_legal p.history p.pairs id p.legal in (
      p.history ++ began id ∷ [],
      with_entry ns vs id p v seat (began id) refl legal met are_met,
      record { whole = p.history; is = refl; fits = k.seen; legal = (p.pairs, legal) },
    ))
