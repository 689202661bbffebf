-- An insertion that remembers where it ended.
use Rattle.std.proofs.Common.{◌≡◌, ℕ, ◌+◌, List, [], length, Option, refl, ap, subst}
use Rattle.std.specs.Int.{from_be_bytes, w64}
use Rattle.node_table.specs.Charge.{Charge}
use Rattle.spec_node.specs.Key.{AreBytes}
use Rattle.node_table.specs.Table.{NodeTable, pairs_at, nodes_at}
use Rattle.tree_path.specs.inner.Descent.{SeeksTo}
use Rattle.tree_path.specs.inner.Root.{depth, HasTree}
use Rattle.tree_path.specs.inner.Supply.{Alike, SupplyView}
use Rattle.tree_edit.specs.Tree.{TreeView}
use Rattle.tree_edit.specs.inner.Beside.{IsReached, Puts}
use Rattle.tree_edit.specs.inner.Whole.{IsWhole}
use Rattle.tree_edit.proofs.BesideLaws.{reached_root}
use Rattle.tree_links.specs.SeenTable.{name_of}
use Rattle.tree_links.specs.Seeks.{seen_end}
use Rattle.tree_links.specs.declared.descent.LinkEnd.{LinkEnd}
use Rattle.tree_links.specs.declared.descent.LinkStop.{LinkStop}
use Rattle.tree_links.specs.declared.descent.LinkStop.TheVariants as stops
use Rattle.tree_edit.specs.inner.Kept.{at_end, IsKept, IsTop}
use Rattle.tree_edit.specs.inner.Gains.{GainsPair}
use Rattle.tree_edit.proofs.GainLaws.{gained}
use Rattle.tree_edit.proofs.ReadyLaws.{end_of}

module _ {P : Type 0} (t : NodeTable P) (root : ℕ) (whole : HasTree t (name_of root)) where
  pub reached_top : (k : LinkEnd) → IsTop root k → IsReached t (name_of root) (at_end k)
  reached_top k h = reached_root t (name_of root) whole (at_end k) (ap name_of h.0) (ap name_of h.1) h.2

  reached_same : (key : List ℕ) (e k : LinkEnd) (b : ℕ) → (k.slot ≡ e.slot) × (k.parent ≡ e.parent) × (k.above ≡ e.above) → IsReached t (name_of root) (seen_end key (end_of e.slot e.parent e.above (stops.Leaf b))) → IsReached t (name_of root) (at_end k)
  reached_same key e k b h r = record { key = r.key; leads = rw (h.0, h.1, h.2) r.leads }

  pub reached_kept : (key : List ℕ) (e k : LinkEnd) → IsKept root e e.stop k → IsReached t (name_of root) (seen_end key e) → IsReached t (name_of root) (at_end k)
  reached_kept key e k h r = at e.stop refl h
    where
      at : (stop : LinkStop) → e.stop ≡ stop → IsKept root e stop k → IsReached t (name_of root) (at_end k)
      at (stops.Differs i) is x = reached_top k x
      at (stops.Absent b) is x = reached_top k x
      at (stops.Leaf b) is x = reached_same key e k b x (subst (λ st. IsReached t (name_of root) (seen_end key (end_of e.slot e.parent e.above st))) is r)
      at (stops.Pair b) is x = reached_top k x
      at (stops.PairBeside b) is x = reached_top k x
      at (stops.PairDiffers b i) is x = reached_top k x

module _ {P A : Type 0} (charge : A → Option Charge) (s : NodeTable P) (root : ℕ) (old : SupplyView A) (key : List ℕ) (v : P) where
  -- at a leaf or elsewhere
  pub puts_kept : (e k : LinkEnd) (t : NodeTable P) (new : SupplyView A) (count : ℕ) → Puts charge s old (name_of root) (from_be_bytes w64 key) v (seen_end key e) t new count → IsKept root e e.stop k
      → Puts charge s old (name_of root) (from_be_bytes w64 key) v (at_end k) t new count
  puts_kept e k t new count x h = record { whole = x.whole; pairs = x.pairs; alike = x.alike; reached = reached_kept t root x.whole.tree key e k h x.reached }

  -- where something was made for the pair
  pub puts_top : (count : ℕ) (i : IsWhole s (name_of root) old.forms count) → AreBytes key → length key ≡ 8 → (e : LinkEnd) → SeeksTo s (name_of root) key (seen_end key e) → (t : NodeTable P) (new : SupplyView A) → GainsPair s t (name_of root) key v new.forms
      → Alike charge old new → (k : LinkEnd) → IsTop root k → Puts charge s old (name_of root) (from_be_bytes w64 key) v (at_end k) t new (count + 1)
  puts_top count i bytes full e ends t new gain alike k h =
      let w : TreeView P A = record { pairs = pairs_at s depth (name_of root); nodes = nodes_at s depth [] (name_of root); budget = old.budget } in
      let x = gained charge s (name_of root) old count i w refl key bytes full (seen_end key e) ends t new v gain alike in
      record { whole = x.whole; pairs = x.pairs; alike = alike; reached = reached_top t root x.whole.tree k h }
