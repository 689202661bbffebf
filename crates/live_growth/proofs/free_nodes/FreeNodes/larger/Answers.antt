use Rattle.std.proofs.Common.{arith, sym, subst}
use Rattle.node_base.specs.declared.base_node.NodeType.TheVariants.{N256}
use Rattle.live_reads.specs.Paths.{Sights}
use Rattle.live_growth.proofs.free_nodes.FreeNodes.larger.Goals as goal

pub returns-then-near-ne0 : goal.returns-then-near-ne0
returns-then-near-ne0 c = λ v h some.
    let kept = c.get-near.ensures in
    subst (Sights v) (sym kept) (h.0 c.next_of-next.result (omega (arith, kept, some))).sighted

pub returns-then-far-ne0 : goal.returns-then-far-ne0
returns-then-far-ne0 c = λ v h some.
    let kept = c.get-far.ensures in
    subst (Sights v) (sym kept) (h.0 c.next_of.result (omega (arith, kept, some))).sighted

pub returns : goal.returns
returns c = λ v h some.
    let kept = c.get.ensures in
    subst (Sights v) (sym kept) (h.0 N256 (omega (arith, kept, some))).sighted
