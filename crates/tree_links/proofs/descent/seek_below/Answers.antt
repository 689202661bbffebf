use Rattle.std.proofs.Common.{arith}
use Rattle.std.proofs.lemmas.Nat.{be_bytes_8}
use Rattle.node_table.proofs.KeyLaws.{AreBytes-from_items}
use Rattle.tree_path.proofs.PathEndLaws.{leads_start}
use Rattle.tree_links.specs.SeenTable.{links_of}
use Rattle.tree_links.proofs.FindLaws.{find_down}
use Rattle.tree_links.proofs.SeekLaws.{leads_to_node, leads_few, sought}
use Rattle.tree_links.proofs.descent.seek_below.Goals as goal

-- the word has the key's bytes
pub look-requires : goal.look-requires
look-requires g c = be_bytes_8 _ _ c.told-key (λ k. c.fits-key k) c.from_be_bytes-word.ensures

pub down-init : goal.down-init
down-init g c = record { leads = leads_start _ _ _ c.requires; counted = omega arith }

pub visit-node-requires : goal.visit-node-requires
visit-node-requires g c = leads_to_node (links_of g.N.LinkedNode.node c.args.nodes.now.slots) c.args.root c.args.key.now c.down.above c.down.slot _ c.down.invariant.leads

pub overflow_add-above : goal.overflow_add-above
overflow_add-above g c = let l = leads_few (links_of g.N.LinkedNode.node c.args.nodes.now.slots) c.args.root c.args.key.now c.down.above c.down.slot _ c.down.invariant.leads in omega (arith, l)

pub down-smaller : goal.down-smaller
down-smaller g c = let l = leads_few (links_of g.N.LinkedNode.node c.args.nodes.now.slots) c.args.root c.args.key.now c.down.above c.down.slot _ c.down.invariant.leads in omega (arith, l)

pub down-preserved : goal.down-preserved
down-preserved g c = record {
  leads = find_down (links_of g.N.LinkedNode.node c.args.nodes.now.slots) c.args.root c.args.key.now (AreBytes-from_items _ (λ k l. c.fits-key k)) c.told-key _ _ _ _ c.down.invariant.leads c.visit-node.ensures.node c.in-Down.below c.in-Down.ensures.0 c.in-Down.ensures.2;
  counted = omega arith;
}

-- where it ends, and that the nodes that were read are those on the path
pub returns-in-Here : goal.returns-in-Here
returns-in-Here g c =
    let x = sought (links_of g.N.LinkedNode.node c.args.nodes.now.slots) c.args.root c.args.key.now (AreBytes-from_items _ (λ k l. c.fits-key k)) c.told-key c.down.above c.down.parent c.down.slot _ c.down.invariant.leads c.visit-node.ensures.node c.in-Here.stop c.in-Here.ensures in
    record { ends = x.ends; pair = x.pair; reads = omega (arith, x.reads); few = x.few }
