use Rattle.std.proofs.Common.{◌≡◌, Some, refl, sym, subst}
use Rattle.slab.specs.Slab.{get}
use Rattle.olc_state.specs.declared.stage.NodeLife.TheVariants as place
use Rattle.olc_state.specs.inner.Slots.{SetsNode}
use Rattle.olc_state.specs.inner.World.{PlacedNode, is_linked}
use Rattle.olc_state.proofs.Slots.{sets_stored, sizes_stored, stood, with_stored}
use Rattle.olc_state.proofs.store.Store.publish.Goals as goal

pub returns-clause-sets : goal.returns-clause-sets
returns-clause-sets g c = λ a found.
    let store = c.args.self.now in
    let n = c.in-Some.node.now in
    let here : get store.nodes c.args.slot ≡ Some n = sym c.in-Some.ensures.value in
    let m = record n { place = place.Linked } in
    subst
    (λ (x : PlacedNode g.P.HasMeaning.Meaning). SetsNode g.P.HasMeaning.meaning store (with_stored g.P.HasMeaning.meaning store c.args.slot n here m) c.args.slot (Some (record x { lifetime = is_linked })))
    (sym (stood g.P.HasMeaning.meaning store c.args.slot n here a found))
    (sets_stored g.P.HasMeaning.meaning store c.args.slot n here m)

pub returns-clause-sizes : goal.returns-clause-sizes
returns-clause-sizes g c =
    let n = c.in-Some.node.now in
    sizes_stored g.P.HasMeaning.meaning c.args.self.now c.args.slot n (sym c.in-Some.ensures.value) (record n { place = place.Linked }) refl
