use Rattle.std.proofs.Common.{rules, List, [], ◌∷◌, ◌++◌, take, sym, ap, ◌∙◌, subst}
use Rattle.std.proofs.lemmas.List.{take_more}
use Rattle.live_faces.specs.Inserted.{HaveInserted}
use Rattle.live_faces.proofs.ManyInserted.{inserted_more}
use Rattle.live_faces.proofs.typed_congee.Congee.insert_many.Goals as goal

pub loop-i-preserved : goal.loop-i-preserved
loop-i-preserved g c =
    let number = g.K.Word.number in
    let value = g.V.Word.number in
    let ps = c.args.pairs.now in
    let i = c.loop-i.i in
    let p = c.index-pairs-i.result in
    let k = c.args.guard.now in
    let n = c.insert.new.guard in
    let more = inserted_more number value g.V.Word.of_number (take i ps) p k c.loop-i.guard n c.in-Ok.field-0 c.loop-i.invariant.1 c.in-Ok.ensures.made in
    let one = take_more ps i p c.loop-i-test.true ∙ ap (λ z. take i ps ++ z ∷ []) (sym c.index-pairs-i.is) in
    (search rules, subst (λ (z : List (g.row.K.Denot × g.row.V.Denot)). HaveInserted number value z k n) (sym one) more)
