use Rattle.std.proofs.Common.{◌≡◌, ℕ, Some, inl, refl, sym, subst, ap, ◌∙◌}
use Rattle.slab.specs.Slab.{Slab, get, Updates}
use Rattle.olc_words.specs.Epoch.{ChangesLife, admitted, life_of}
use Rattle.olc_words.specs.declared.epoch.Life.TheVariants.{InUse}
use Rattle.olc_state.specs.declared.stage.NodeLife.TheVariants as place
use Rattle.olc_state.specs.declared.stage.Stored.{Stored}
use Rattle.olc_state.specs.declared.store.Store.{Store}
use Rattle.olc_state.specs.inner.Meant.{meant_node}
use Rattle.olc_state.specs.inner.Slots.{SetsNode}
use Rattle.olc_state.specs.inner.World.{is_private}
use Rattle.olc_state.proofs.Slots.{admitted_both, newly_used, sets_both, sizes_added}
use Rattle.olc_state.proofs.store.Store.add.Goals as goal

-- the room that was reserved changes no slot
updates_from : {T : Type 0} (old room new : Slab T) (key : ℕ) (value : T) → room ≡ record old { capacity = room.capacity } → Updates room new key (Some value) → Updates old new key (Some value)
updates_from old room new key value same updates =
    record { changed = updates.changed; others = λ o off. updates.others o off ∙ ap (λ s. get s o) same }

pub returns-clause-sets : goal.returns-clause-sets
returns-clause-sets g c =
    let old = c.args.self.now in
    let slot = c.insert_reserved.result in
    let n : Stored g.row.P.Denot = record { word = c.from_number.result; place = place.Private; node = c.args.node } in
    let new : Store g.row.P.Denot = record { nodes = c.insert_reserved.new.self; root = old.root; pins = c.admit.new.self } in
    let vacant = sym (ap (λ s. get s slot) c.reserve.ensures.rest_kept) ∙ c.insert_reserved.ensures.was_vacant in
    let updates = updates_from old.nodes c.reserve.new.self new.nodes slot n c.reserve.ensures.rest_kept c.insert_reserved.ensures.updates in
    let admits = subst (λ s. ChangesLife old.pins new.pins s (Some (admitted (life_of old.pins s)))) (c.vacant_key-slot.ensures.value ∙ sym c.insert_reserved.ensures.key) c.in_ok-admit.ensures.ok in
    let changes = subst (λ l. ChangesLife old.pins new.pins slot (Some l)) (newly_used g.P.HasMeaning.meaning old slot vacant c.requires.admitted) admits in
    subst
    (λ w. SetsNode g.P.HasMeaning.meaning old new slot (Some (record { word = w; node = meant_node g.P.HasMeaning.meaning c.args.node; lifetime = is_private })))
    c.from_number.ensures
    (sets_both g.P.HasMeaning.meaning old new slot (Some n) (Some InUse) updates changes refl c.in_ok-admit.ensures.count)

pub returns-clause-sizes : goal.returns-clause-sizes
returns-clause-sizes g c =
    let old = c.args.self.now in
    let slot = c.insert_reserved.result in
    let n : Stored g.row.P.Denot = record { word = c.from_number.result; place = place.Private; node = c.args.node } in
    let vacant = sym (ap (λ s. get s slot) c.reserve.ensures.rest_kept) ∙ c.insert_reserved.ensures.was_vacant in
    let updates = updates_from old.nodes c.reserve.new.self c.insert_reserved.new.self slot n c.reserve.ensures.rest_kept c.insert_reserved.ensures.updates in
    sizes_added old.nodes.slots c.insert_reserved.new.self.slots slot n vacant updates.changed updates.others

pub returns-clause-admitted : goal.returns-clause-admitted
returns-clause-admitted g c =
    let old = c.args.self.now in
    let slot = c.insert_reserved.result in
    let n : Stored g.row.P.Denot = record { word = c.from_number.result; place = place.Private; node = c.args.node } in
    let new : Store g.row.P.Denot = record { nodes = c.insert_reserved.new.self; root = old.root; pins = c.admit.new.self } in
    let vacant = sym (ap (λ s. get s slot) c.reserve.ensures.rest_kept) ∙ c.insert_reserved.ensures.was_vacant in
    let updates = updates_from old.nodes c.reserve.new.self new.nodes slot n c.reserve.ensures.rest_kept c.insert_reserved.ensures.updates in
    let admits = subst (λ s. ChangesLife old.pins new.pins s (Some (admitted (life_of old.pins s)))) (c.vacant_key-slot.ensures.value ∙ sym c.insert_reserved.ensures.key) c.in_ok-admit.ensures.ok in
    let changes = subst (λ l. ChangesLife old.pins new.pins slot (Some l)) (newly_used g.P.HasMeaning.meaning old slot vacant c.requires.admitted) admits in
    admitted_both g.P.HasMeaning.meaning old new slot (Some n) (Some InUse) updates changes c.requires.admitted (inl refl)
