use Rattle.std.proofs.Common.{get_or, ap, sym}
use Rattle.std.proofs.lemmas.Nat.{be_bytes_8}
use Rattle.node_table.proofs.KeyLaws.{AreBytes-from_items}
use Rattle.tree_path.proofs.PathEndLaws.{leads_there}
use Rattle.tree_edit.proofs.BesideLaws.{seeks_beside}
use Rattle.tree_edit.proofs.beside.end_of.Goals as goal

pub returns-in-Leaf-clause-ends : goal.returns-in-Leaf-clause-ends
returns-in-Leaf-clause-ends g c =
    seeks_beside _ _ _ c.requires.last _ (AreBytes-from_items _ (λ k l. c.fits-key k)) c.told-key _ c.node.ensures c.in-Leaf.ensures.0 c.in-Leaf.ensures.1 _
    (ap (λ i. get_or c.args.key.now i 0) (sym c.in-Leaf.ensures.1))

pub node-requires : goal.node-requires
node-requires g c = leads_there _ _ _ _ _ _ c.requires.last.leads

pub meet-requires : goal.meet-requires
meet-requires g c = be_bytes_8 _ _ c.told-key (λ k. c.fits-key k) c.from_be_bytes-word.ensures
