use Rattle.spec_olc.proofs.Leaves.{root_has_none}
use Rattle.spec_node.specs.declared.child.Child.TheVariants.{Payload}
use Rattle.spec_olc.proofs.laws.payloads_are_in_leaves.Goals as goal

pub returns-clause-written : goal.returns-clause-written
returns-clause-written g c = λ old new id call env report out v w is. w.shape (Payload v) is

pub returns-clause-made : goal.returns-clause-made
returns-clause-made g c = λ s call a byte v n is. (n.entries byte (Payload v) is).0

pub returns-clause-root : goal.returns-clause-root
returns-clause-root g c = λ s a byte v w here is. root_has_none s a byte v w here is
