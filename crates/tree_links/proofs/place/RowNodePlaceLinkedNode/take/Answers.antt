use Rattle.std.proofs.Common.{Some, ap, sym, ◌∙◌}
use Rattle.node_table.proofs.KindLaws.{lookup-mapped_some, lookup-mapped_none}
use Rattle.tree_links.specs.Places.{as_link}
use Rattle.tree_links.proofs.PlaceLaws.{taken_link}
use Rattle.tree_links.proofs.place.RowNodePlaceLinkedNode.take.Goals as goal

pub returns-in-Some-clause-before : goal.returns-in-Some-clause-before
returns-in-Some-clause-before g c =
    ap (λ x. Some x) c.link_of.ensures ∙ sym (lookup-mapped_some as_link c.args.self.now.children c.args.byte c.in-Some.child (sym c.in-Some.ensures.before))

pub returns-in-Some-clause-after : goal.returns-in-Some-clause-after
returns-in-Some-clause-after g c = taken_link c.args.self.now _ c.args.byte c.in-Some.ensures.after

pub returns-in-None-clause-before : goal.returns-in-None-clause-before
returns-in-None-clause-before g c = sym (lookup-mapped_none as_link c.args.self.now.children c.args.byte (sym c.in-None.ensures.before))

pub returns-in-None-clause-after : goal.returns-in-None-clause-after
returns-in-None-clause-after g c = taken_link c.args.self.now _ c.args.byte c.in-None.ensures.after
