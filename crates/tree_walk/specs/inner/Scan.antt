-- What a range scan finds and writes.
use Rattle.std.specs.Prelude.{◌≡◌, ℕ, suc, ◌+◌, ◌^◌, ◌<◌, ◌≤◌, List, [], ◌∷◌, ◌++◌, length, min, map, reverse, take, drop, Some}
use Rattle.spec_map.specs.Map.{Pairs, between, Rises}
use Rattle.spec_node.specs.Key.{low, high}
use Rattle.node_table.specs.Table.{NodeTable, node_at, pairs_of, pairs_at, IsSubtree}
use Rattle.node_table.specs.inner.Kinds.{mapped}
use Rattle.spec_node.specs.declared.child.Child.TheVariants as children
use Rattle.tree_links.specs.LinkNode.{LinkNode}
use Rattle.tree_links.specs.Places.{as_links}
use Rattle.tree_links.specs.SeenTable.{name_of, name_under, pair_in, seen_links, seen_node}
use Rattle.tree_links.specs.declared.link.Link.{Link}
use Rattle.tree_links.specs.declared.place.Place.{Place}
use Rattle.tree_walk.specs.declared.window.Window.{Window}

-- the keys of the range below this prefix are those under the bytes of the window
pub record IsWindow (p : List ℕ) (start end : ℕ) (w : Window) : Type 0 where
  pub first : w.first ≡ low p
  pub within : w.to ≤ 256
  pub before : (b : ℕ) → b < w.from → high (p ++ b ∷ []) ≤ start
  pub past : (b : ℕ) → b < 256 → w.to ≤ b → end ≤ low (p ++ b ∷ [])
  pub after_first : (b : ℕ) → w.from < b → start ≤ low (p ++ b ∷ [])
  pub before_last : (b : ℕ) → b + 1 < w.to → high (p ++ b ∷ []) ≤ end
  pub not_before : length p ≡ 7 → (b : ℕ) → w.from ≤ b → start ≤ low (p ++ b ∷ [])
  pub not_past : length p ≡ 7 → (b : ℕ) → b < w.to → low (p ++ b ∷ []) < end

-- what is written for the pairs of the range
abbrev pub entries_of : {P E : Type 0} → (ℕ → P → E) → ℕ → ℕ → Pairs P → List E
entries_of entry start end es = map (λ e. entry e.0 e.1) (between es start end)

-- the same, keys descending
abbrev pub entries_down : {P E : Type 0} → (ℕ → P → E) → ℕ → ℕ → Pairs P → List E
entries_down entry start end es = map (λ e. entry e.0 e.1) (reverse (between es start end))

-- what is written for the payloads of a leaf whose keys are those from a first one on
abbrev pub entries_under : {P E : Type 0} → (ℕ → P → E) → ℕ → List (ℕ × P) → List E
entries_under entry first es = map (λ e. entry (first + e.0) e.1) es

module _ {E : Type 0} where
  -- the buffer has the entries in its first places, as many as there are or as fit, and its old content after them
  pub record FillsBuffer (whole done : List E) (count : ℕ) (buffer : List E) : Type 0 where
    pub counted : count ≡ min (length whole) (length done)
    pub filled : buffer ≡ take count done ++ drop count whole

  -- these entries are written after those
  pub record AddsEntries (entries old : List E) (from : ℕ) (new : List E) (count : ℕ) : Type 0 where
    pub inside : count ≤ length new
    pub fills :
        (whole done : List E) → FillsBuffer whole done from old → FillsBuffer whole (done ++ entries) count new

module _ {P : Type 0} (s : NodeTable P) where
  -- the slot holds a subtree
  pub record HasSubtree (slot : ℕ) : Type 0 where
    pub levels : ℕ
    pub tree : IsSubtree s levels slot

  -- this holds of the pairs of the subtree in the slot, for any number of levels that it fits
  abbrev pub EachSubtree : ℕ → (Pairs P → Type 0) → Type 0
  EachSubtree slot Fact =
      (levels : ℕ) → IsSubtree s (suc levels) slot → Fact (pairs_at s (suc levels) slot)

  -- the keys of the subtree in the slot fit into a vector with this capacity, of which so many places are taken
  pub record KeysFit (slot taken capacity : ℕ) : Type 0 where
    pub levels : ℕ
    pub tree : IsSubtree s (suc levels) slot
    pub fits : taken + length (pairs_at s (suc levels) slot) ≤ capacity

  -- these are the node's links under some bytes one after another, and the node is in the slot
  pub record HasLinks (slot : ℕ) (n : LinkNode P) (left : List (ℕ × Link P)) : Type 0 where
    pub tree : HasSubtree (name_of slot)
    pub here : Some (seen_node slot n) ≡ node_at s (name_of slot)
    pub pairs : (byte : ℕ) → byte < 256 → pair_in (Some n) byte ≡ node_at s (name_under slot byte)
    pub ascending : Rises 0 256 n.links
    pub from : ℕ
    pub to : ℕ
    pub within : to ≤ 256
    pub are : left ≡ between n.links from to

  -- all pairs under these links of the slot's node are written
  abbrev pub AddsAll : {E : Type 0} → (ℕ → P → E) → ℕ → LinkNode P → List (ℕ × Link P) → List E → ℕ → List E → ℕ → Type 0
  AddsAll entry slot n left old count new result =
      (less : ℕ) → IsSubtree s (suc less) (name_of slot)
      → AddsEntries (entries_of entry 0 (2 ^ 64) (pairs_of (λ j. pairs_at s less j) n.prefix (seen_links slot left))) old count new result

-- places as links
abbrev pub links_at : {P : Type 0} → List (ℕ × Place P) → List (ℕ × Link P)
links_at es = as_links (mapped (λ c. children.Node c) es)
