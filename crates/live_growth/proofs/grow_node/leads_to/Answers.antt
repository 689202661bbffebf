use Rattle.std.proofs.Common.{rules, ap, sym, subst, Some, ◌≡◌, ◌∙◌}
use Rattle.spec_map.specs.Map.{lookup}
use Rattle.live_layout.specs.Encodes.{IsBelow}
use Rattle.live_growth.proofs.grow_node.leads_to.Goals as goal

pub returns-in-Some-clause-some : goal.returns-in-Some-clause-some
returns-in-Some-clause-some g c = λ yes.
    let words = g.D.WriteWords.words c.args.draft.now in
    let same = ap words c.find.ensures.seat.others in
    let found : c.find.result ≡ Some c.in-Some.word = search rules in
    let is_name : c.slot_below.result ≡ c.args.name = search rules in (
      c.in-Some.word,
      λ n encodes formed. subst (λ z. IsBelow (lookup n.children c.args.byte) z) found (c.find.ensures.is (words c.args.seat.now) n (sym same) encodes formed),
      λ s spelt. sym (c.slot_below.ensures s spelt) ∙ is_name,
    )
