use Rattle.std.proofs.Common.{subst}
use Rattle.node_rows.specs.Spare.{IsSpareFor}
use Rattle.node_table.proofs.KindLaws.{length-mapped, mapped-absent, fits_here}
use Rattle.tree_links.specs.Places.{as_link}
use Rattle.tree_links.proofs.PlaceLaws.{put_link}
use Rattle.tree_links.proofs.place.RowNodePlaceLinkedNode.insert.Goals as goal

pub insert-requires-clause-absent : goal.insert-requires-clause-absent
insert-requires-clause-absent g c = mapped-absent as_link c.args.self.now.children c.args.byte c.requires.absent

pub insert-requires-clause-room : goal.insert-requires-clause-room
insert-requires-clause-room g c = fits_here as_link c.args.self.now.form c.args.self.now.children 1 c.requires.room

pub insert-requires-clause-spare : goal.insert-requires-clause-spare
insert-requires-clause-spare g c = λ form short.
    subst (λ n. IsSpareFor n c.args.spare) (length-mapped as_link c.args.self.now.children) (c.requires.spare form short)

pub returns : goal.returns
returns g c = put_link c.args.self.now _ c.args.byte _ _ c.child_of.ensures c.insert.ensures
