-- A look at a node on a key's path.
use Rattle.std.specs.Prelude.{◌≡◌, ℕ, ◌+◌, ◌<◌, List, length, drop, Some, None}
use Rattle.spec_map.specs.Map.{lookup}
use Rattle.spec_node.specs.Key.{Begins, IsFirstDifference, next_byte}
use Rattle.tree_links.specs.LinkNode.{LinkNode}
use Rattle.tree_links.specs.declared.link.Link.TheVariants as links
use Rattle.tree_links.specs.declared.descent.LinkStep.{LinkStep}
use Rattle.tree_links.specs.declared.descent.LinkStep.TheVariants.{Down, Here}
use Rattle.tree_links.specs.declared.descent.LinkStop.{LinkStop}
use Rattle.tree_links.specs.declared.descent.LinkStop.TheVariants.{Differs, Absent, Leaf, Pair, PairBeside, PairDiffers}

module _ (key : List ℕ) where
  -- how the rest of a pair's key compares with that of the key
  abbrev pub ComparesPair : ℕ → List ℕ → LinkStop → Type 0
  ComparesPair byte rest (Differs at) = ⊥
  ComparesPair byte rest (Absent b) = ⊥
  ComparesPair byte rest (Leaf b) = ⊥
  ComparesPair byte rest (Pair b) = (b ≡ byte) × (rest ≡ drop 1 key)
  ComparesPair byte rest (PairBeside b) = (b ≡ byte) × IsFirstDifference rest (drop 1 key) 6
  ComparesPair byte rest (PairDiffers b at) = (b ≡ byte)
      × ((i : ℕ) × (i < 6) × (at ≡ i + 1) × IsFirstDifference rest (drop 1 key) i)

  module _ {P : Type 0} where
    -- the node has a pair under the key's byte
    pub record IsAtPair (n : LinkNode P) (stop : LinkStop) : Type 0 where
      pub rest : List ℕ
      pub payload : P
      pub begins : Begins n.prefix key
      pub inner : length n.prefix < 7
      pub found : lookup n.links (next_byte n.prefix key) ≡ Some (links.Pair rest payload)
      pub long : length rest ≡ 7
      pub compares : ComparesPair (next_byte n.prefix key) rest stop

    -- where the descent ends. What a leaf has under the byte isn't known yet.
    abbrev pub Halts : LinkNode P → LinkStop → Type 0
    Halts n (Differs at) = IsFirstDifference n.prefix key at
    Halts n (Absent b) = (b ≡ next_byte n.prefix key) × Begins n.prefix key
        × (lookup n.links b ≡ None) × (length n.prefix < 7)
    Halts n (Leaf b) = (b ≡ next_byte n.prefix key) × Begins n.prefix key × (length n.prefix ≡ 7)
    Halts n (Pair b) = IsAtPair n (Pair b)
    Halts n (PairBeside b) = IsAtPair n (PairBeside b)
    Halts n (PairDiffers b at) = IsAtPair n (PairDiffers b at)

    -- the slot of the node below, or the end of the descent
    abbrev pub Meets : LinkNode P → LinkStep → Type 0
    Meets n (Down j) = Begins n.prefix key × (length n.prefix < 7)
        × (lookup n.links (next_byte n.prefix key) ≡ Some (links.Slot j))
    Meets n (Here stop) = Halts n stop
