use Rattle.std.proofs.Common.{Some, subst}
use Rattle.olc_write.specs.inner.Makings.{GivesUp}
use Rattle.olc_write.proofs.MakingStocks.{given_after}
use Rattle.olc_write.proofs.making.make_node.Goals as goal
use Rattle.olc_write.proofs.making.make_node.Goals.{in-Some+in_default-put_node, in_default}

pub returns-in-Some-made-clause-none : goal.returns-in-Some-made-clause-none
returns-in-Some-made-clause-none g c =
    let m = g.P.HasMeaning.meaning in
    let charge = g.A.Allocator.charge in
    let slot = c.in-Some-made.slot in
    rw c.in-Some-made.is
    (elim c.match-built.branch [
      | in-Some+in_default-put_node w ↦
          given_after m charge c.args.stock.now w.put_node.new.stock c.take_node.new.stock slot w.in_default-put_node.ensures.none
          (subst (λ s. GivesUp m charge s c.take_node.new.stock (Some slot)) w.stock-is c.take_node.ensures)
      | in_default w ↦ subst (λ s. GivesUp m charge s c.take_node.new.stock (Some slot)) w.stock-is c.take_node.ensures
    ])
