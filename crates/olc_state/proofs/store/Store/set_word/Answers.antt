use Rattle.std.proofs.Common.{◌≡◌, Some, refl, sym, subst}
use Rattle.slab.specs.Slab.{get}
use Rattle.olc_state.specs.inner.Meant.{meant_table}
use Rattle.olc_state.specs.inner.World.{PlacedNode}
use Rattle.olc_state.proofs.Slots.{sets_stored, sizes_stored, stood, with_stored}
use Rattle.olc_state.proofs.store.Store.set_word.Goals as goal

pub returns-clause-here : goal.returns-clause-here
returns-clause-here g c = λ a found.
    let store = c.args.self.now in
    let n = c.in-Some.node.now in
    let here : get store.nodes c.args.slot ≡ Some n = sym c.in-Some.ensures.value in
    let m = record n { word = c.args.word } in
    subst
    (λ (x : PlacedNode g.P.HasMeaning.Meaning). meant_table g.P.HasMeaning.meaning (with_stored g.P.HasMeaning.meaning store c.args.slot n here m) c.args.slot ≡ Some (record x { word = c.args.word }))
    (sym (stood g.P.HasMeaning.meaning store c.args.slot n here a found))
    (sets_stored g.P.HasMeaning.meaning store c.args.slot n here m).here

pub returns-clause-others : goal.returns-clause-others
returns-clause-others g c =
    let n = c.in-Some.node.now in
    (sets_stored g.P.HasMeaning.meaning c.args.self.now c.args.slot n (sym c.in-Some.ensures.value) (record n { word = c.args.word })).others

pub returns-clause-sizes : goal.returns-clause-sizes
returns-clause-sizes g c =
    let n = c.in-Some.node.now in
    sizes_stored g.P.HasMeaning.meaning c.args.self.now c.args.slot n (sym c.in-Some.ensures.value) (record n { word = c.args.word }) refl
