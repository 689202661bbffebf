-- What a client owes at a step: its seat has a new view, with which its rule holds again.
use Rattle.std.specs.Prelude.{◌≡◌, ◌≢◌, ℕ, ◌<◌, List, [], ◌∷◌, ◌++◌, length, slice_set, Some, None}
use mathlib.Core.Option.{some}
use lib.ListN.{get_elem?}
use Rattle.live_nodes.specs.Nodes.{Content, Node, node, node_at}
use Rattle.live_nodes.specs.Seats.{Place, Read, Each, Agree}
use Rattle.live_nodes.specs.Rule.{PlaceFits, ReadFits}

module _ {V : Type 0} (P : List Node → List V → Type 0) (id : ℕ) (v : V) where
  -- The nodes become others, and the seat's view is chosen.
  abbrev pub Goes : List Node → List V → (V → Type 0) → Type 0
  Goes ns vs told = (w : V) × P ns (slice_set vs id w) × told w

  abbrev pub Whatever : (List Node → List V → Type 0) → Type 0
  Whatever follows = (ns : List Node) (vs : List V) → P ns vs → get_elem? vs id ≡ some v → follows ns vs

  -- A free node's word was found again, so what was read of it is so now. What was read of other nodes is so where their
  -- words are still there. The client may know where other nodes lie.
  abbrev pub Learns : ℕ → ℕ → List (ℕ × ℕ) → List Read → (List Place → V → Type 0) → Type 0
  Learns k word saw reads told = Whatever (λ ns vs. k < length ns → (node ns k).word ≡ word
      → (node ns k).holder ≡ None → Agree (node ns k).content saw → Each (ReadFits ns) reads
      → (ps : List Place) × Each (PlaceFits ns) ps × Goes ns vs (told ps))

  abbrev pub held_as : Node → ℕ → ℕ → Node
  held_as a word seat = node_at a.place word a.content (Some seat)

  -- A node that no seat holds, by this word, is locked by the new one. Its content is known from now on.
  abbrev pub Locks : ℕ → ℕ → ℕ → (Content → V → Type 0) → Type 0
  Locks k word new told = Whatever (λ ns vs. k < length ns → (node ns k).word ≡ word → (node ns k).holder ≡ None
      → Goes (slice_set ns k (held_as (node ns k) new id)) vs (told (node ns k).content))

  -- A held node is free again, by this word. Its draft is its content.
  abbrev pub Frees : ℕ → ℕ → Content → (V → Type 0) → Type 0
  Frees k word draft told = Whatever (λ ns vs. k < length ns → (node ns k).holder ≡ Some id → (node ns k).word < word
      → Goes (slice_set ns k (node_at (node ns k).place word draft None)) vs told)

  -- A new node joins by this word, where no other lies. It is free, or obsolete, and nobody but the client knows of it.
  abbrev pub Makes : ℕ → ℕ → Content → (ℕ → V → Type 0) → Type 0
  Makes p word content told = Whatever (λ ns vs. ((k : ℕ) → k < length ns → (node ns k).place ≢ p)
      → Goes (ns ++ node_at p word content None ∷ []) vs (told (length ns)))

-- A new seat may come.
abbrev pub Admits : {V : Type 0} → (List Node → List V → Type 0) → V → Type 0
Admits {V} P v = (ns : List Node) (vs : List V) → P ns vs → P ns (vs ++ v ∷ [])

-- Two seats meet, and both views are chosen.
abbrev pub Meets : {V : Type 0} → (List Node → List V → Type 0) → ℕ → V → ℕ → V → (V → V → Type 0) → Type 0
Meets {V} P i v j w told = (ns : List Node) (vs : List V) → P ns vs → get_elem? vs i ≡ some v → get_elem? vs j ≡ some w → i ≢ j
    → (c : V) × (d : V) × P ns (slice_set (slice_set vs j d) i c) × told c d
