use Rattle.std.proofs.Common.{subst}
use Rattle.node_base.specs.Form.{Fits, smaller_form}
use Rattle.node_table.proofs.KindLaws.{length-mapped}
use Rattle.tree_links.specs.Places.{as_link}
use Rattle.tree_links.proofs.place.RowNodePlaceLinkedNode.shrink.Goals as goal

pub shrink-requires : goal.shrink-requires
shrink-requires g c = subst (λ k. Fits (smaller_form c.args.self.now.form) k) (length-mapped as_link c.args.self.now.children) c.requires
