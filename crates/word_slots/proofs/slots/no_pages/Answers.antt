use Rattle.std.proofs.Common.{◌∷◌, [], length, length-append, ap, sym, subst, arith}
use Rattle.std.proofs.lemmas.List.Elements.{All-append}
use Rattle.std.specs.List.{All}
use Rattle.word_slots.specs.Slots.{IsPageOf}
use Rattle.word_slots.proofs.Logs.{all_one}
use Rattle.word_slots.proofs.slots.no_pages.Goals as goal

pub loop-page-preserved : goal.loop-page-preserved
loop-page-preserved g c =
    let inv = c.loop-page.invariant in
    let less = c.loop-page-test.true in
    let xs = c.loop-page.pages.items in
    let x = c.new.result in
    let items = c.push_reserved.ensures.items in
    let cap = c.push_reserved.ensures.capacity in
    let P = IsPageOf c.args.tag.now.numbers in (
      omega (arith, less),
      omega (arith, inv.1, cap),
      omega (arith, ap length items, length-append xs (x ∷ []), inv.2),
      subst (All P) (sym items) (All-append P xs (x ∷ []) inv.3 (all_one P x c.new.ensures)),
    )
