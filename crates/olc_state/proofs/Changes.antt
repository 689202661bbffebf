-- What a reader sees where one slot's node changed, and what the content of a state depends on.
use Rattle.std.proofs.Common.{◌≡◌, ◌≢◌, ℕ, List, length, None, inl, inr, ap, sym, subst, ◌∙◌}
use Rattle.std.proofs.lemmas.Bool.{cases_eq}
use Rattle.spec_map.specs.Map.{Pairs, lookup, without}
use Rattle.spec_map.proofs.MapLaws.{Rises-without, lookup-without_same, lookup-without_other, same_from_lookups}
use Rattle.spec_node.specs.TableNode.{Child}
use Rattle.spec_olc.specs.Content.{Reaches, at_root, by_child, HasEntry, IsStoredAt, IsContent}
use Rattle.spec_olc.specs.State.{State}
use Rattle.spec_olc.specs.State as state
use Rattle.olc_state.specs.inner.Shown.{shown, state_of}
use Rattle.olc_state.specs.inner.World.{World, table_of}
use Rattle.olc_state.proofs.States.{shown_node, nodes_rise}

module _ {X : Type 0} (w w' : World X) where
  -- the nodes in all slots but one are as they were
  abbrev pub OtherNodesStay : ℕ → Type 0
  OtherNodesStay slot = (o : ℕ) → o ≢ slot → table_of w' o ≡ table_of w o

  -- and one slot that became empty
  pub node_gone : (slot : ℕ) → table_of w' slot ≡ None → OtherNodesStay slot → (state_of w').nodes ≡ without (state_of w).nodes slot
  node_gone slot gone others =
      let old : List (ℕ × state.VersionedNode X) = (state_of w).nodes in
      same_from_lookups 0 (length w'.slots) 0 (length w.slots) (state_of w').nodes (without old slot) (nodes_rise w') (Rises-without 0 (length w.slots) old slot (nodes_rise w)) (λ s.
      elim (cases_eq s slot) [
        | inl same ↦
            ap (lookup (state_of w').nodes) same ∙ shown_node w' slot ∙ ap shown gone ∙ sym (lookup-without_same 0 (length w.slots) old slot (nodes_rise w)) ∙ ap (lookup (without old slot)) (sym same)
        | inr other ↦ shown_node w' s ∙ ap shown (others s other) ∙ sym (shown_node w s) ∙ sym (lookup-without_other old slot s other)
      ])

module _ {M : Type 0} (s t : State M) (nodes : (slot : ℕ) → lookup t.nodes slot ≡ lookup s.nodes slot) (root : t.root ≡ s.root) where
  -- what is reachable depends on the nodes and the root alone
  pub same_reaches : (slot : ℕ) → Reaches s slot → Reaches t slot
  same_reaches _ at_root = subst (Reaches t) root at_root
  same_reaches c (by_child above byte a r here there) = by_child above byte a (same_reaches above r) (nodes above ∙ here) there

  abbrev pub same_entry : (slot byte : ℕ) (child : Child M) → HasEntry s slot byte child → HasEntry t slot byte child
  same_entry slot byte child e = record { above = e.above; reaches = same_reaches slot e.reaches; here = nodes slot ∙ e.here; entry = e.entry }

  pub same_stands : (key : ℕ) (value : M) → IsStoredAt s key value → IsStoredAt t key value
  same_stands key value h = record { slot = h.slot; byte = h.byte; payload = same_entry h.slot h.byte _ h.payload; key_is = h.key_is }

-- and so does the content
pub same_content_by : {M : Type 0} (s t : State M) → ((slot : ℕ) → lookup t.nodes slot ≡ lookup s.nodes slot) → t.root ≡ s.root → (m : Pairs M) → IsContent s m → IsContent t m
same_content_by s t nodes root m c = record {
  map = c.map;
  pairs = λ key v. (
    (λ e. same_stands s t nodes root key v ((c.pairs key v).0 e)),
    (λ h. (c.pairs key v).1 (same_stands t s (λ slot. sym (nodes slot)) (sym root) key v h)),
  );
}

pub same_content : {M : Type 0} (s t : State M) → t.nodes ≡ s.nodes → t.root ≡ s.root → (m : Pairs M) → IsContent s m → IsContent t m
same_content s t nodes root m c = same_content_by s t (λ slot. ap (λ ns. lookup ns slot) nodes) root m c
