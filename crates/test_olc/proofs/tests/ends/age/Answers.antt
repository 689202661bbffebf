use Rattle.std.proofs.Common.{◌≡◌, ◌≢◌, ℕ, ◌≤◌, Some, refl, sym, subst, ap, ◌∙◌, rules, arith}
use Rattle.spec_olc.specs.Lock.{IsFree}
use Rattle.olc_words.specs.Epoch.{PinsView}
use Rattle.olc_state.specs.declared.store.Store.{Store}
use Rattle.olc_state.specs.inner.Facts.{IsSoundWorld}
use Rattle.olc_state.specs.inner.Meant.{meant_calls, meant_slots}
use Rattle.olc_state.specs.inner.World.{table_on}
use Rattle.olc_state.proofs.Slots.{stored_as, table_has}
use Rattle.olc_machine.specs.inner.Inside.{meant_in}
use Rattle.olc_machine.proofs.Stocked.{meant_sizes}
use Rattle.test_olc.proofs.Aged.{aged, no_entry}
use Rattle.test_olc.proofs.tests.ends.age.Goals as goal

pub returns : goal.returns
returns g c =
    let meaning = g.P.HasMeaning.meaning in
    let machine = c.args.machine.now in
    let old = machine.stock.store in
    let new = c.set_word.new.self in
    let slots = meant_slots meaning new.nodes.slots in
    let n = c.in-Some.node.now in
    let here = table_has meaning old.pins.slots old.nodes.slots c.args.slot n (sym c.in-Some.ensures) in
    let a = stored_as meaning old.pins.slots c.args.slot n in
    let pins = ap (λ (s : Store g.row.P.Denot). s.pins) c.set_word.ensures.rest in
    let word = c.from_number.result in
    let is : word ≡ 18446744073709551612 = c.from_number.ensures in
    let free : IsFree n.word = search rules in
    let next : IsFree word = subst (λ z. IsFree z) (sym is) refl in
    let up : n.word ≤ word = omega (arith, is, c.number.ensures, c.if-number-gt-LAST.false) in
    let after = subst (λ (p : PinsView). table_on slots p.slots c.args.slot ≡ Some (record a { word = word })) pins (c.set_word.ensures.here a here) in
    let others : (o : ℕ) → o ≢ c.args.slot → table_on slots old.pins.slots o ≡ table_on (meant_slots meaning old.nodes.slots) old.pins.slots o = λ o off. subst (λ (p : PinsView). table_on slots p.slots o ≡ table_on (meant_slots meaning old.nodes.slots) old.pins.slots o) pins (c.set_word.ensures.others o off) in
    let sizes = meant_sizes meaning new.nodes.slots ∙ (c.set_word.ensures.sizes ∙ sym (meant_sizes meaning old.nodes.slots)) in
    let w = meant_in meaning g.A.Allocator.charge machine in
    let sound = aged g.P.Payload.always_shared g.P.HasMeaning.same_meaning w slots c.requires.sound (ap (meant_calls meaning) (no_entry machine.calls.entries (search rules))) c.args.slot word a here
    free next up after others sizes in
    record {
      sound = subst (λ (s : Store g.row.P.Denot). IsSoundWorld g.P.Payload.always_shared g.P.HasMeaning.same_meaning
          (meant_in meaning g.A.Allocator.charge (record machine { stock = record machine.stock { store = s } }))) (sym c.set_word.ensures.rest) sound;
    }
