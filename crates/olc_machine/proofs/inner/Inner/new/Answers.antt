use Rattle.std.proofs.Common.{◌≡◌, ◌≢◌, ℕ, None, rules, arith, sym, subst, ap, ◌∙◌, slice_index_or}
use Rattle.std.proofs.lemmas.Grind.{common_steps}
use Rattle.node_table.specs.Charge.{add_charge}
use Rattle.spec_olc.specs.Runs.{fresh}
use Rattle.olc_state.specs.inner.Facts.{IsSoundWorld}
use Rattle.olc_state.specs.inner.Meant.{meant_world}
use Rattle.olc_state.specs.inner.Shown.{state_of}
use Rattle.olc_state.specs.inner.World.{World}
use Rattle.olc_words.specs.Epoch.{PinsView}
use Rattle.olc_machine.proofs.Roots.{alone_is, root_fresh, meant_sound, root_admitted, none_admitted, none_seated}
use Rattle.olc_machine.proofs.inner.Inner.new.Goals as goal

pub returns-clause-sound : goal.returns-clause-sound
returns-clause-sound g c =
    let slots = c.insert_reserved-root.new.self.slots in
    let root = c.insert_reserved-root.result in
    let pins = c.admit.new.self in
    let off : (o : ℕ) → o ≢ root → slice_index_or slots o None ≡ None = λ o ne. grind (arith, common_steps, c.insert_reserved-root.ensures.updates.others o ne) in
    let charge = add_charge (g.A.Allocator.charge c.args.budget) 2104 in
    let life = c.in_ok-admit.ensures.ok in
    let count = c.admit.ensures.count ∙ ap (λ (p : PinsView). p.count) c.new-pins.ensures in
    let is = alone_is slots root pins c.new.result.entries (g.A.Allocator.charge c.allocate.new.self) charge (none_seated c.new-pins.result pins root c.new-pins.ensures life) count c.new.ensures.empty (search rules) in
    subst (λ (w : World g.row.P.Denot). IsSoundWorld g.P.Payload.always_shared g.P.HasMeaning.same_meaning (meant_world g.P.HasMeaning.meaning w)) (sym is)
    (meant_sound g.P.HasMeaning.meaning slots pins.slots root _ c.insert_reserved-root.ensures.updates.changed off c.from_number.ensures (search rules) c.in_ok-root.ensures g.P.Payload.always_shared g.P.HasMeaning.same_meaning
    (g.A.Allocator.charge c.args.budget) c.insert_reserved-root.type_inv (root_admitted c.new-pins.result pins root c.new-pins.ensures life) (none_admitted c.new-pins.result pins root c.new-pins.ensures life))

pub returns-clause-fresh : goal.returns-clause-fresh
returns-clause-fresh g c =
    let slots = c.insert_reserved-root.new.self.slots in
    let root = c.insert_reserved-root.result in
    let pins = c.admit.new.self in
    let off : (o : ℕ) → o ≢ root → slice_index_or slots o None ≡ None = λ o ne. grind (arith, common_steps, c.insert_reserved-root.ensures.updates.others o ne) in
    let charge = add_charge (g.A.Allocator.charge c.args.budget) 2104 in
    let life = c.in_ok-admit.ensures.ok in
    let count = c.admit.ensures.count ∙ ap (λ (p : PinsView). p.count) c.new-pins.ensures in
    let is = alone_is slots root pins c.new.result.entries (g.A.Allocator.charge c.allocate.new.self) charge (none_seated c.new-pins.result pins root c.new-pins.ensures life) count c.new.ensures.empty (search rules) in (
      root,
      subst (λ (w : World g.row.P.Denot). state_of w ≡ fresh root charge) (sym is)
          (root_fresh slots pins.slots root _ c.insert_reserved-root.ensures.updates.changed off c.from_number.ensures (search rules) c.in_ok-root.ensures charge),
    )
