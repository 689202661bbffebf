use Rattle.std.proofs.Common.{◌∙◌, ◌∷◌, [], length, length-append, ap, sym, subst, arith}
use Rattle.std.proofs.lemmas.List.Elements.{All-append}
use Rattle.std.specs.List.{All}
use Rattle.word_slots.specs.Slots.{IsSlotOf}
use Rattle.word_slots.proofs.Logs.{all_one}
use Rattle.word_slots.proofs.slots.Slots.filled.Goals as goal

pub loop-at-preserved : goal.loop-at-preserved
loop-at-preserved g c =
    let inv = c.loop-at.invariant in
    let less = c.loop-at-test.true in
    let xs = c.loop-at.slots.items in
    let x = c.in-Some.slot in
    let e = c.in-Some.ensures in
    let items = c.push_reserved.ensures.items in
    let cap = c.push_reserved.ensures.capacity in
    let P = IsSlotOf c.args.self.now in
    let is : P x = e.slot ∙ inv.3 in (
      omega (arith, less),
      omega (arith, inv.1, cap),
      omega (arith, ap length items, length-append xs (x ∷ []), inv.2),
      e.table ∙ inv.3,
      subst (All P) (sym items) (All-append P xs (x ∷ []) inv.4 (all_one P x is)),
    )
