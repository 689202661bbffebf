-- THE RULES OF A RANGE hold at a Check that passes, where the call looks from its reach on at the node that it checks.
use Rattle.std.proofs.Common.{◌≡◌, ℕ, ◌<◌, ◌≤◌, ◌^◌, max, [], ◌∷◌, ◌++◌, Some, None, refl, arith}
use Rattle.spec_node.specs.Key.{low, high}
use Rattle.spec_node.specs.declared.child.Child.TheVariants.{Payload, Node as below_at}
use Rattle.spec_olc.specs.Content.{IsStoredAt}
use Rattle.spec_olc.specs.Reading.{first_from, bound_at, NoneIsStored}
use Rattle.spec_olc.specs.State.{State}
use Rattle.olc_state.specs.inner.Tables.{IsLinked, IsPlaced}
use Rattle.olc_state.specs.inner.Turns.{ShowsNodes}
use Rattle.olc_state.specs.inner.World.{PlacedNode, NodeMap}
use Rattle.olc_state.proofs.Reaching.{linked_reaches, one, seen_at, stands_keeps}
use Rattle.olc_scan.specs.inner.Passed.{PassesNone, IsFirstChild}
use Rattle.olc_scan.proofs.Passing.{passes_all, first_low, first_before, first_from_cursor, passes_down, passes_over}

-- a payload that is found is at the reach or above
pub pair_after : {M : Type 0} (t : NodeMap M) (root slot : ℕ) (a : PlacedNode M) (c : ℕ) (placed : IsPlaced t root) (linked : IsLinked t slot a) (small : c < 2 ^ 64) (under : c < high a.node.prefix)
    (reach : ℕ) → reach ≡ max c (low a.node.prefix) → (y : ℕ) (u : M) → IsFirstChild (bound_at c a.node.prefix) a.node.children y (Payload u) → reach ≤ low (a.node.prefix ++ y ∷ [])
pair_after t root slot a c placed linked small under reach is y u first =
    omega (arith, is, first_from_cursor t root slot a c placed linked small under y u first, first_low t root slot a c placed linked small under y u first)

module _ {M : Type 0} (t : NodeMap M) (root : ℕ) (s : State M) (placed : IsPlaced t root) (shows : ShowsNodes t root s) (slot : ℕ) (a : PlacedNode M) (linked : IsLinked t slot a) (c : ℕ) (small : c < 2 ^ 64) (under : c < high a.node.prefix)
    (reach : ℕ) (is : reach ≡ max c (low a.node.prefix)) where
  none_stands : (top : ℕ) → PassesNone t c (low a.node.prefix) top → NoneIsStored s reach top
  none_stands top passes key v from to at_key =
      let h = stands_keeps t root s placed shows key v at_key in
      passes key v h.1 (omega (arith, is, from)) (omega (arith, is, from)) to h.0

  -- no child is left: no key with the node's prefix is stored
  pub none_below : first_from (bound_at c a.node.prefix) a.node.children ≡ None → NoneIsStored s reach (high a.node.prefix)
  none_below none = none_stands (high a.node.prefix) (passes_all t root slot a c placed linked small under none)

  -- the first child is a payload: its key is stored, and none before it
  module _ (y : ℕ) (u : M) (first : IsFirstChild (bound_at c a.node.prefix) a.node.children y (Payload u)) where
    pub pair_stands : (h : IsStoredAt s (low (a.node.prefix ++ y ∷ [])) u) × (h.slot ≡ slot)
    pair_stands = (
      record {
        slot = slot;
        byte = y;
        payload = record { above = one a; reaches = linked_reaches t root s placed shows slot a linked; here = seen_at t root s shows slot a linked.here; entry = first.here };
        key_is = refl;
      },
      refl,
    )

    pub none_before : NoneIsStored s reach (low (a.node.prefix ++ y ∷ []))
    none_before = none_stands (low (a.node.prefix ++ y ∷ [])) (first_before t root slot a c placed linked small under y u first)

  -- the first child is a node: no key before the first that it may contain is stored, or, if the cursor is past it,
  -- none up to the end of its byte
  module _ (y j : ℕ) (b : PlacedNode M) (first : IsFirstChild (bound_at c a.node.prefix) a.node.children y (below_at j)) (there : t j ≡ Some b) where
    pub none_until : NoneIsStored s reach (max c (low b.node.prefix))
    none_until key v from to at_key =
        none_stands (low b.node.prefix) (passes_down t root slot a c placed linked small under y j b first there) key v from (omega (arith, is, from, to)) at_key

    pub none_over : high b.node.prefix ≤ c → NoneIsStored s reach (high (a.node.prefix ++ y ∷ []))
    none_over past = none_stands (high (a.node.prefix ++ y ∷ [])) (passes_over t root slot a c placed linked small under y j b first there past)
