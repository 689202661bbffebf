-- Where the descent of a key ends in a table of links, as an end in the table of nodes that is seen.
use Rattle.std.specs.Prelude.{◌≡◌, ◌≢◌, ℕ, ◌+◌, List, take, slice_index}
use Rattle.spec_node.specs.Key.{Begins, IsFirstDifference, next_byte}
use Rattle.node_table.specs.Table.{NodeTable}
use Rattle.tree_path.specs.declared.descent.PathEnd.{PathEnd}
use Rattle.tree_path.specs.declared.descent.Stop.TheVariants as seen
use Rattle.tree_links.specs.PairCalls.{HasLeaf}
use Rattle.tree_links.specs.SeenTable.{name_of, name_under}
use Rattle.tree_links.specs.declared.descent.LinkEnd.{LinkEnd}
use Rattle.tree_links.specs.declared.descent.LinkStop.{LinkStop}
use Rattle.tree_links.specs.declared.descent.LinkStop.TheVariants.{Differs, Absent, Leaf, Pair, PairBeside, PairDiffers}

-- the leaf of a pair is one node more
abbrev pub pairs_met : LinkStop → ℕ
pairs_met (Differs at) = 0
pairs_met (Absent b) = 0
pairs_met (Leaf b) = 0
pairs_met (Pair b) = 1
pairs_met (PairBeside b) = 1
pairs_met (PairDiffers b at) = 1

module _ (key : List ℕ) where
  -- a pair is met in its leaf, which is below the node
  abbrev pub seen_at : ℕ → ℕ → ℕ → LinkStop → PathEnd
  seen_at i j above (Differs at) = record { slot = name_of i; parent = name_of j; above = above; stop = seen.Differs at }
  seen_at i j above (Absent b) = record { slot = name_of i; parent = name_of j; above = above; stop = seen.Absent b }
  seen_at i j above (Leaf b) = record { slot = name_of i; parent = name_of j; above = above; stop = seen.Leaf b }
  seen_at i j above (Pair b) =
      record { slot = name_under i b; parent = name_of i; above = above + 1; stop = seen.Leaf (slice_index key 7) }
  seen_at i j above (PairBeside b) =
      record { slot = name_under i b; parent = name_of i; above = above + 1; stop = seen.Leaf (slice_index key 7) }
  seen_at i j above (PairDiffers b at) =
      record { slot = name_under i b; parent = name_of i; above = above + 1; stop = seen.Differs at }

  abbrev pub seen_end : LinkEnd → PathEnd
  seen_end e = seen_at e.slot e.parent e.above e.stop

  module _ {P : Type 0} (s : NodeTable P) where
    -- the inner node at i has a pair under the key's byte, whose leaf is seen below it
    pub record MeetsPair (i b : ℕ) : Type 0 where
      pub leaf : HasLeaf s (name_of i) b (name_under i b)
      pub begins : Begins leaf.below.node.prefix key
      pub byte : b ≡ next_byte leaf.below.node.prefix key

    -- that pair, and how its key compares
    abbrev pub KnowsPairAt : ℕ → LinkStop → Type 0
    KnowsPairAt i (Differs at) = Unit {0}
    KnowsPairAt i (Absent b) = Unit {0}
    KnowsPairAt i (Leaf b) = Unit {0}
    KnowsPairAt i (Pair b) = (m : MeetsPair i b) × (m.leaf.key ≡ key)
    KnowsPairAt i (PairBeside b) = (m : MeetsPair i b)
        × (take 7 m.leaf.key ≡ take 7 key) × (slice_index m.leaf.key 7 ≢ slice_index key 7)
    KnowsPairAt i (PairDiffers b at) =
        (m : MeetsPair i b) × IsFirstDifference (take 7 m.leaf.key) key at

-- what is known of the pair at which a descent ends, if it ends at one
abbrev pub KnowsPair : {P : Type 0} → NodeTable P → List ℕ → LinkEnd → Type 0
KnowsPair s key e = KnowsPairAt key s e.slot e.stop
