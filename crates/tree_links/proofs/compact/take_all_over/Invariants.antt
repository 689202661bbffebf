use Rattle.std.proofs.Common.{◌≡◌, ◌+◌, length, vec_len, vec_capacity}
use Rattle.slab.specs.Slab.{slab_len}
use Rattle.tree_links.specs.SeenTable.{links_of}
use Rattle.tree_links.proofs.OverLaws.{TakesOver}
use Rattle.tree_links.proofs.compact.take_all_over.Given as goal

abbrev pub invariant-loop-slot : goal.invariant-loop-slot
invariant-loop-slot g l =
    record {
      over : TakesOver (links_of g.N.LinkedNode.node l.initial.nodes.slots) (links_of g.N.LinkedNode.node l.nodes.slots) (links_of g.N.LinkedNode.node l.others.slots) l.slots.items l.slot;
      long : length l.slots.items ≡ l.slot;
      count : vec_len l.slots ≡ l.slot;
      listed : vec_capacity l.slots ≡ vec_capacity l.initial.slots;
      len : slab_len l.nodes + slab_len l.others ≡ slab_len l.initial.nodes;
      capacity : l.others.capacity ≡ l.initial.others.capacity;
    }
