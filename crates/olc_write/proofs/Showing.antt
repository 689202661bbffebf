-- WHAT A READER SEES of a table that changed: the nodes of the next state, and the next state itself.
use Rattle.std.proofs.Common.{◌≡◌, ◌≢◌, ℕ, ◌+◌, ◌^◌, ◌<◌, ◌≤◌, ◌==◌, true, false, Bool, List, [], ◌∷◌, Option, Some, None, inl, inr, refl, sym, subst, ap, ◌∙◌, if◌then◌else◌, arith}
use Rattle.std.proofs.lemmas.Bool.{eq-eqb, ne_eqb}
use Rattle.std.proofs.lemmas.Bool.Decides.{eqb_tells}
use Rattle.spec_map.specs.Map.{lookup, put, without, IsMap, Rises}
use Rattle.spec_map.proofs.MapLaws.{lookup-put_same, lookup-put_other, Rises-put, lookup-without_same, lookup-without_other, Rises-without, same_from_lookups}
use Rattle.spec_olc.specs.Lists.{is_in}
use Rattle.spec_olc.specs.State.{State, CallState, publish, with_call}
use Rattle.spec_olc.specs.State as state
use Rattle.spec_olc.specs.Writing.{linked}
use Rattle.olc_state.specs.inner.Moves.{StoreCounts, counts_of, IsAfter}
use Rattle.olc_state.specs.inner.Shown.{shown}
use Rattle.olc_state.specs.inner.Turns.{ShowsNodes}
use Rattle.olc_state.specs.inner.World.{PlacedNode, NodeMap, is_linked}
use Rattle.olc_state.proofs.Options.{none_some}
use Rattle.olc_state.proofs.Reaching.{lookup-inside, one, seen_at}

module _ {M : Type 0} where
  -- these nodes are what a reader sees of a table
  abbrev pub ShownBy : NodeMap M → List (ℕ × state.VersionedNode M) → Type 0
  ShownBy t nodes = (slot : ℕ) → lookup nodes slot ≡ shown (t slot)

  -- one slot has another node, or none
  pub put_shown : (t t' : NodeMap M) (nodes : List (ℕ × state.VersionedNode M)) (slot : ℕ) (a : PlacedNode M) → ShownBy t nodes → t' slot ≡ Some a → ((o : ℕ) → o ≢ slot → t' o ≡ t o) → ShownBy t' (put nodes slot (one a))
  put_shown t t' nodes slot a by here others k =
      elim (eqb_tells k slot) [
        | inl e ↦ subst (λ z. lookup (put nodes slot (one a)) z ≡ shown (t' z)) (sym e.1) (lookup-put_same nodes slot (one a) ∙ sym (ap shown here))
        | inr far ↦ lookup-put_other nodes slot (one a) k far.1 ∙ (by k ∙ ap shown (sym (others k far.1)))
      ]

  pub without_shown : (t t' : NodeMap M) (nodes : List (ℕ × state.VersionedNode M)) (slot : ℕ) → IsMap nodes → ShownBy t nodes → t' slot ≡ None → ((o : ℕ) → o ≢ slot → t' o ≡ t o) → ShownBy t' (without nodes slot)
  without_shown t t' nodes slot map by here others k =
      elim (eqb_tells k slot) [
        | inl e ↦ subst (λ z. lookup (without nodes slot) z ≡ shown (t' z)) (sym e.1) (lookup-without_same 0 (2 ^ 64) nodes slot map ∙ sym (ap shown here))
        | inr far ↦ lookup-without_other nodes slot k far.1 ∙ (by k ∙ ap shown (sym (others k far.1)))
      ]

  -- the table in which one slot has another node, or none
  abbrev pub with_slot : NodeMap M → ℕ → Option (PlacedNode M) → NodeMap M
  with_slot t slot x o = if o == slot then x else t o

  pub with_here : (t : NodeMap M) (slot : ℕ) (x : Option (PlacedNode M)) → with_slot t slot x slot ≡ x
  with_here t slot x = rw (eq-eqb slot slot refl) refl

  pub with_others : (t : NodeMap M) (slot : ℕ) (x : Option (PlacedNode M)) (o : ℕ) → o ≢ slot → with_slot t slot x o ≡ t o
  with_others t slot x o other = rw (ne_eqb o slot other) refl

  -- the nodes in these slots are linked
  abbrev pub linked_there : List ℕ → ℕ → Option (PlacedNode M) → Option (PlacedNode M)
  linked_there made s None = None
  linked_there made s (Some a) = Some (if is_in s made then record a { lifetime = is_linked } else a)

  abbrev pub published_there : List ℕ → ℕ → Option (state.VersionedNode M) → Option (state.VersionedNode M)
  published_there made s None = None
  published_there made s (Some a) = Some (if is_in s made then publish a else a)

  look : (b : Bool) (e : ℕ × state.VersionedNode M) (rest : List (ℕ × state.VersionedNode M)) (s : ℕ)
      → lookup ((if b then (e.0, publish e.1) else e) ∷ rest) s ≡ (if e.0 == s then Some (if b then publish e.1 else e.1) else lookup rest s)
  look true e rest s = refl
  look false e rest s = refl

  pub lookup-linked : (made : List ℕ) (nodes : List (ℕ × state.VersionedNode M)) (s : ℕ) → lookup (linked made nodes) s ≡ published_there made s (lookup nodes s)
  lookup-linked made [] s = refl
  lookup-linked made (e ∷ es) s =
      look (is_in e.0 made) e (linked made es) s
      ∙ elim (eqb_tells e.0 s) [
        | inl at ↦ rw at.0 (ap (λ n. Some (if is_in n made then publish e.1 else e.1)) at.1)
        | inr far ↦ rw far.0 (lookup-linked made es s)
      ]

  key-kept : (b : Bool) (e : ℕ × state.VersionedNode M) → (if b then (e.0, publish e.1) else e).0 ≡ e.0
  key-kept true e = refl
  key-kept false e = refl

  pub Rises-linked : (low high : ℕ) (made : List ℕ) (nodes : List (ℕ × state.VersionedNode M)) → Rises low high nodes → Rises low high (linked made nodes)
  Rises-linked low high made [] h = tt
  Rises-linked low high made (e ∷ es) h =
      let same = key-kept (is_in e.0 made) e in
      (subst (λ k. low ≤ k) (sym same) h.0, subst (λ k. k < high) (sym same) h.1, subst (λ k. Rises (k + 1) high (linked made es)) (sym same) (Rises-linked (e.0 + 1) high made es h.2))

  one_linked : (b : Bool) (a : PlacedNode M) → (if b then publish (one a) else one a) ≡ one (if b then record a { lifetime = is_linked } else a)
  one_linked true a = refl
  one_linked false a = refl

  one_there : (made : List ℕ) (s : ℕ) (x : Option (PlacedNode M)) → published_there made s (shown x) ≡ shown (linked_there made s x)
  one_there made s None = refl
  one_there made s (Some a) = ap Some (one_linked (is_in s made) a)

  pub linked_shown : (t t' : NodeMap M) (made : List ℕ) (nodes : List (ℕ × state.VersionedNode M)) → ShownBy t nodes → ((s : ℕ) → t' s ≡ linked_there made s (t s)) → ShownBy t' (linked made nodes)
  linked_shown t t' made nodes by is s =
      lookup-linked made nodes s ∙ (ap (published_there made s) (by s) ∙ (one_there made s (t s) ∙ ap shown (sym (is s))))

-- THE NODES of the state after an event
module _ {M : Type 0} (t' : NodeMap M) (root : ℕ) (s' : State M) (shows' : ShowsNodes t' root s') (map' : IsMap s'.nodes) where
  pub nodes_are : (nodes : List (ℕ × state.VersionedNode M)) → IsMap nodes → ShownBy t' nodes → s'.nodes ≡ nodes
  nodes_are nodes map by = same_from_lookups 0 (2 ^ 64) 0 (2 ^ 64) s'.nodes nodes map' map (λ k. shows'.nodes k ∙ sym (by k))

  pub narrow_slot : (slot : ℕ) (a : PlacedNode M) → t' slot ≡ Some a → slot < 2 ^ 64
  narrow_slot slot a here = (lookup-inside 0 (2 ^ 64) s'.nodes slot (one a) map' (seen_at t' root s' shows' slot a here)).1

  pub put_map : (nodes : List (ℕ × state.VersionedNode M)) (slot : ℕ) (a : PlacedNode M) → IsMap nodes → t' slot ≡ Some a → IsMap (put nodes slot (one a))
  put_map nodes slot a map here = Rises-put 0 (2 ^ 64) nodes slot (one a) map (omega arith) (narrow_slot slot a here)

  module _ (t : NodeMap M) (s : State M) (shows : ShowsNodes t root s) (map : IsMap s.nodes) where
    pub nodes_same : ((o : ℕ) → t' o ≡ t o) → s'.nodes ≡ s.nodes
    nodes_same others = nodes_are s.nodes map (λ k. shows.nodes k ∙ ap shown (sym (others k)))

    pub nodes_put : (slot : ℕ) (a : PlacedNode M) → t' slot ≡ Some a → ((o : ℕ) → o ≢ slot → t' o ≡ t o) → s'.nodes ≡ put s.nodes slot (one a)
    nodes_put slot a here others = nodes_are (put s.nodes slot (one a)) (put_map s.nodes slot a map here) (put_shown t t' s.nodes slot a shows.nodes here others)

    pub nodes_without : (slot : ℕ) → t' slot ≡ None → ((o : ℕ) → o ≢ slot → t' o ≡ t o) → s'.nodes ≡ without s.nodes slot
    nodes_without slot here others = nodes_are (without s.nodes slot) (Rises-without 0 (2 ^ 64) s.nodes slot map) (without_shown t t' s.nodes slot map shows.nodes here others)

-- THE STATE after an event
module _ {M : Type 0} {s s' : State M} {id : ℕ} {next : CallState M} {books books' : StoreCounts} (after : IsAfter s s' id next books books') where
  pub after_is : (nodes : List (ℕ × state.VersionedNode M)) → s'.nodes ≡ nodes
      → s' ≡ with_call (record s { nodes = nodes; count = books'.count; charge = books'.charge; entries = books'.entries }) id next
  after_is nodes is = after.is ∙ ap (λ (n : List (ℕ × state.VersionedNode M)). with_call (record s { nodes = n; count = books'.count; charge = books'.charge; entries = books'.entries }) id next) is

  -- with these counts in place of those after the event, which they equal
  pub after_with : (nodes : List (ℕ × state.VersionedNode M)) (b : StoreCounts) → s'.nodes ≡ nodes → books' ≡ b
      → s' ≡ with_call (record s { nodes = nodes; count = b.count; charge = b.charge; entries = b.entries }) id next
  after_with nodes b is same = after_is nodes is ∙ ap (λ (z : StoreCounts). with_call (record s { nodes = nodes; count = z.count; charge = z.charge; entries = z.entries }) id next) same

  -- the counts are unchanged
  pub after_nodes : (nodes : List (ℕ × state.VersionedNode M)) → s'.nodes ≡ nodes → books' ≡ books → s' ≡ with_call (record s { nodes = nodes }) id next
  after_nodes nodes is same = after_with nodes (counts_of s) is (same ∙ sym after.was)

-- WORDS THAT ARE FORGOTTEN: all that are still remembered were so before
abbrev pub Among : List (ℕ × ℕ) → List (ℕ × ℕ) → Type 0
Among fewer remembered = (slot word : ℕ) → lookup fewer slot ≡ Some word → lookup remembered slot ≡ Some word

pub among_none : (remembered : List (ℕ × ℕ)) → Among [] remembered
among_none remembered slot word h = absurd (none_some word h)

-- only one is still remembered
pub among_one : (remembered : List (ℕ × ℕ)) (slot word : ℕ) → lookup remembered slot ≡ Some word → Among ((slot, word) ∷ []) remembered
among_one remembered slot word known k w h =
    elim (eqb_tells slot k) [
      | inl e ↦ subst (λ z. lookup remembered z ≡ Some w) e.1 (known ∙ subst (λ b. (if b then Some word else None) ≡ Some w) e.0 h)
      | inr far ↦ absurd (none_some w (subst (λ b. (if b then Some word else None) ≡ Some w) far.0 h))
    ]

pub among_last : (remembered : List (ℕ × ℕ)) (slot word : ℕ) → Among ((slot, word) ∷ []) (put remembered slot word)
among_last remembered slot word = among_one (put remembered slot word) slot word (lookup-put_same remembered slot word)
