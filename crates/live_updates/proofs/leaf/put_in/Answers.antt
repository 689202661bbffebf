use Rattle.std.proofs.Common.{rules, ◌≡◌, ◌∙◌, None, refl, sym, ap, subst}
use Rattle.spec_map.specs.Map.{lookup}
use Rattle.spec_node.specs.declared.child.Child.TheVariants.{Payload}
use Rattle.live_layout.specs.Encodes.{Encodes}
use Rattle.live_nodes.specs.Tree.{HasValue}
use Rattle.live_growth.proofs.Values.{none_below}
use Rattle.live_updates.proofs.leaf.put_in.Goals as goal

pub returns-clause-is : goal.returns-clause-is
returns-clause-is g c = λ n encodes form deep.
    let words = g.D.WriteWords.words c.args.draft.now in
    let same = ap words c.find.ensures.seat.others in
    let none : c.find.result ≡ None = search rules in
    let absent = none_below (lookup n.children c.args.byte) c.find.result (c.find.ensures.is (words c.args.seat.now) n (sym same) encodes form) none in
    let still = ap words (c.is_full.ensures.seat.same ∙ c.find.ensures.seat.others) in (
      subst (λ z. HasValue z None) (sym absent) refl,
      c.put.ensures.is n (Payload c.args.new) (subst (λ z. Encodes z n) (sym still) encodes) form refl deep absent,
    )
