use Rattle.std.proofs.Common.{◌≡◌}
use Rattle.slab.specs.Slab.{slab_len}
use Rattle.tree_links.specs.SeenTable.{links_of}
use Rattle.tree_links.proofs.OverLaws.{RedirectsBelow}
use Rattle.tree_links.proofs.compact.redirect_all.Given as goal

abbrev pub invariant-loop-slot : goal.invariant-loop-slot
invariant-loop-slot g l =
    record {
      each : RedirectsBelow l.slots (links_of g.N.LinkedNode.node l.initial.nodes.slots) (links_of g.N.LinkedNode.node l.nodes.slots) l.slot;
      len : slab_len l.nodes ≡ slab_len l.initial.nodes;
      capacity : l.nodes.capacity ≡ l.initial.nodes.capacity;
    }
