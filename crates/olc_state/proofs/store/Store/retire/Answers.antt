use Rattle.std.proofs.Common.{◌≡◌, ◌+◌, Some, inr, refl, sym, ap, ◌∙◌}
use Rattle.slab.specs.Slab.{get}
use Rattle.spec_olc.specs.Retirement.{stamp_at}
use Rattle.olc_words.specs.declared.epoch.Life.TheVariants.{Retired}
use Rattle.olc_state.specs.declared.stage.NodeLife.TheVariants as place
use Rattle.olc_state.specs.declared.stage.Stored.{Stored}
use Rattle.olc_state.specs.declared.store.Store.{Store}
use Rattle.olc_state.specs.inner.World.{PlacedNode, is_retired}
use Rattle.olc_state.proofs.Slots.{admitted_both, changed_here, changed_others, sizes_stored, stood, stored_as, updates, with_stored}
use Rattle.olc_state.proofs.store.Store.retire.Goals as goal

pub returns-clause-here : goal.returns-clause-here
returns-clause-here g c = λ a found.
    let old = c.args.self.now in
    let n = c.in-Some.node.now in
    let here : get old.nodes c.args.slot ≡ Some n = sym c.in-Some.ensures.value in
    let m : Stored g.row.P.Denot = record n { word = c.obsoleted-node.result; place = place.Retired } in
    let new : Store g.row.P.Denot = record (with_stored g.P.HasMeaning.meaning old c.args.slot n here m) { pins = c.retire.new.self } in
    let retired = is_retired (stamp_at old.pins.count) in
    let is = sym (stood g.P.HasMeaning.meaning old c.args.slot n here a found) in
    changed_here g.P.HasMeaning.meaning old new c.args.slot (Some m) (Some (Retired (stamp_at old.pins.count))) (updates g.P.HasMeaning.meaning old c.args.slot n here m) c.retire.ensures.life
    ∙ ap (λ w. Some (record { word = w; node = (stored_as g.P.HasMeaning.meaning old.pins.slots c.args.slot n).node; lifetime = retired })) c.obsoleted-node.ensures
    ∙ ap (λ (x : PlacedNode g.P.HasMeaning.Meaning). Some (record x { word = x.word + 1; lifetime = retired })) is

pub returns-clause-others : goal.returns-clause-others
returns-clause-others g c =
    let old = c.args.self.now in
    let n = c.in-Some.node.now in
    let here : get old.nodes c.args.slot ≡ Some n = sym c.in-Some.ensures.value in
    let m : Stored g.row.P.Denot = record n { word = c.obsoleted-node.result; place = place.Retired } in
    let new : Store g.row.P.Denot = record (with_stored g.P.HasMeaning.meaning old c.args.slot n here m) { pins = c.retire.new.self } in
    changed_others g.P.HasMeaning.meaning old new c.args.slot (Some m) (Some (Retired (stamp_at old.pins.count))) (updates g.P.HasMeaning.meaning old c.args.slot n here m) c.retire.ensures.life

pub returns-clause-sizes : goal.returns-clause-sizes
returns-clause-sizes g c =
    let n = c.in-Some.node.now in
    sizes_stored g.P.HasMeaning.meaning c.args.self.now c.args.slot n (sym c.in-Some.ensures.value) (record n { word = c.obsoleted-node.result; place = place.Retired }) refl

pub returns-clause-admitted : goal.returns-clause-admitted
returns-clause-admitted g c =
    let old = c.args.self.now in
    let n = c.in-Some.node.now in
    let here : get old.nodes c.args.slot ≡ Some n = sym c.in-Some.ensures.value in
    let m : Stored g.row.P.Denot = record n { word = c.obsoleted-node.result; place = place.Retired } in
    let new : Store g.row.P.Denot = record (with_stored g.P.HasMeaning.meaning old c.args.slot n here m) { pins = c.retire.new.self } in
    admitted_both g.P.HasMeaning.meaning old new c.args.slot (Some m) (Some (Retired (stamp_at old.pins.count))) (updates g.P.HasMeaning.meaning old c.args.slot n here m) c.retire.ensures.life
    c.requires.admitted (inr (stamp_at old.pins.count, refl))
