-- The node that is remembered between two insertions. Only private contracts cite this.
use Rattle.std.specs.Prelude.{◌≡◌, ℕ}
use Rattle.tree_path.specs.declared.descent.PathEnd.{PathEnd}
use Rattle.tree_path.specs.declared.descent.Stop.TheVariants as seen
use Rattle.tree_links.specs.SeenTable.{name_of}
use Rattle.tree_links.specs.declared.descent.LinkEnd.{LinkEnd}
use Rattle.tree_links.specs.declared.descent.LinkStop.{LinkStop}
use Rattle.tree_links.specs.declared.descent.LinkStop.TheVariants.{Differs, Absent, Leaf, Pair, PairBeside, PairDiffers}

-- its place in the table that is seen; how a descent stopped there doesn't matter
abbrev pub at_end : LinkEnd → PathEnd
at_end e = record { slot = name_of e.slot; parent = name_of e.parent; above = e.above; stop = seen.Differs 0 }

-- it is the root
abbrev pub IsTop : ℕ → LinkEnd → Type 0
IsTop root e = (e.slot ≡ root) × (e.parent ≡ root) × (e.above ≡ 0)

-- it is the leaf where the descent ended, if that has a slot, and else the root
abbrev pub IsKept : ℕ → LinkEnd → LinkStop → LinkEnd → Type 0
IsKept root e (Differs at) k = IsTop root k
IsKept root e (Absent b) k = IsTop root k
IsKept root e (Leaf b) k = (k.slot ≡ e.slot) × (k.parent ≡ e.parent) × (k.above ≡ e.above)
IsKept root e (Pair b) k = IsTop root k
IsKept root e (PairBeside b) k = IsTop root k
IsKept root e (PairDiffers b at) k = IsTop root k
