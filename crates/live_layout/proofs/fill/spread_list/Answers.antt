use Rattle.std.proofs.Common.{subst, sym, refl, Some, None}
use Rattle.node_base.specs.Form.{form_place}
use Rattle.node_base.specs.declared.base_node.NodeType.TheVariants.{N256}
use Rattle.live_layout.specs.Head.{IsHead}
use Rattle.live_layout.specs.ListCells.{HasList}
use Rattle.live_layout.proofs.StandLaws.{moved-encoded}
use Rattle.live_layout.proofs.fill.spread_list.Goals as goal

pub returns-clause-is : goal.returns-clause-is
returns-clause-is g c = λ n e o.
    let from = g.D.WriteWords.words c.args.from.now in
    let new = g.E.WriteWords.words c.args.to.now c.spread.new.seat in
    let kept = (c.requires.apart c.args.seat.now c.lay_head.new.seat c.lay_head.ensures.seat.others c.requires.may.0).1 in
    let head = subst (λ k. IsHead k (form_place N256) n.prefix) (sym c.spread.ensures.head) (c.lay_head.ensures.is (form_place n.form) n.prefix e.head) in
    moved-encoded (from c.args.seat.now) new n N256 (Some c.args.room) None o refl head (λ es h. c.spread.ensures.is es (subst (λ x. HasList c.args.room x es) (sym kept) h)) e
