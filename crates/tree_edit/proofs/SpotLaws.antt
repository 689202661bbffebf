-- How the path of a key ends where its descent did, once the key's payload there is known.
use Rattle.std.proofs.Common.{◌≡◌, ◌<◌, ℕ, List, [], length, get_or, Some, None, refl, ap, sym, subst, ◌∙◌, arith}
use Rattle.spec_map.specs.Map.{lookup}
use Rattle.spec_map.specs.Refusal.{NeedsNode}
use Rattle.spec_node.specs.Key.{AreBytes, key_number}
use Rattle.node_table.specs.Table.{NodeTable, node_at, pairs_at, nodes_at}
use Rattle.spec_node.specs.TableNode.{TableNode}
use Rattle.spec_node.specs.declared.child.Child.TheVariants.{Payload, Node}
use Rattle.tree_path.specs.inner.Descent.{FindsEnd, Halts, SeeksTo, EndsAt, End, Differs, Absent, Present}
use Rattle.tree_path.specs.inner.Root.{depth, HasRoot}
use Rattle.tree_path.specs.declared.descent.Stop.{Stop}
use Rattle.tree_path.specs.declared.descent.Stop.TheVariants as stops
use Rattle.tree_path.specs.declared.descent.PathEnd.{PathEnd}
use Rattle.tree_path.proofs.PathEndLaws.{leads_kind, place_of, ended, leaf_has, leaf_lacks, none_above}
use Rattle.tree_path.specs.inner.Supply.{with_form, CountsGrown, IsCounted, IsCountedAt}
use Rattle.tree_path.specs.declared.supply.FormCounts.{FormCounts}
use Rattle.tree_edit.specs.inner.Writes.{SameElsewhere, WritesChild, HasLeafAt, HasLeafFor, HasNothingUnder, NothingIsStored, WasChild, IsStoredWhere, Exchanges, Fills, MakesRoom, RefusesHere, IsReady}
use Rattle.tree_edit.proofs.ChargeLaws.{end_counted, fill_counted, add_counted, split_counted}
use Rattle.tree_edit.proofs.FormLaws.{grown_fits}
use Rattle.tree_edit.proofs.RefusalLaws.{needs_node-absent, needs_node-differs}
use Rattle.tree_edit.proofs.SlotLaws.{adds_here, adds_below, splits_then}
use Rattle.tree_edit.proofs.WholeLaws.{IsInsertion, change_inserts, add_inserts, split_inserts, parts_high}

module _ {P : Type 0} (s : NodeTable P) (root : ℕ) (key : List ℕ) (spot : PathEnd) (w : SeeksTo s root key spot) where
  abbrev ends_with : (end : End P) → FindsEnd key w.node end → EndsAt s root key (place_of s root key spot end)
  ends_with end found = record { leads = w.leads; node = w.node; here = w.here; end = found }

  ends_differs : (i : ℕ) → spot.stop ≡ stops.Differs i → EndsAt s root key (place_of s root key spot (Differs i))
  ends_differs i is = ends_with (Differs i) (subst (λ x. Halts key w.node x) is w.stop)

  abbrev ends_absent : (b : ℕ) → spot.stop ≡ stops.Absent b → EndsAt s root key (place_of s root key spot (Absent b))
  ends_absent b is =
      let h : Halts key w.node (stops.Absent b) = subst (λ x. Halts key w.node x) is w.stop in
      ends_with (Absent b) (h.0, h.1, h.2)

  module _ (b : ℕ) (is : spot.stop ≡ stops.Leaf b) where
    at_leaf : Halts key w.node (stops.Leaf b)
    at_leaf = subst (λ x. Halts key w.node x) is w.stop

    ready_leaf : HasLeafAt s spot.slot
    ready_leaf = record { node = w.node; here = w.here; seven = at_leaf.2; kind = leads_kind s root key spot.above spot.slot spot.parent w.node w.leads w.here }

    last_byte : b ≡ get_or key 7 0
    last_byte = at_leaf.0 ∙ ap (λ i. get_or key i 0) at_leaf.2

    -- the leaf has nothing under the byte
    abbrev ends_lacking : HasNothingUnder s spot.slot b → EndsAt s root key (place_of s root key spot (Absent b))
    ends_lacking none = ends_with (Absent b) (at_leaf.0, at_leaf.1, none w.node w.here)

    -- the leaf had this payload there
    ends_holding : (u : P) → WasChild s spot.slot b (Payload u) → EndsAt s root key (place_of s root key spot (Present b (record { ref_ptr = (0, 0); now = u })))
    ends_holding u was = ends_with (Present b (record { ref_ptr = (0, 0); now = u })) (at_leaf.0, at_leaf.1, was w.node w.here)

  pub leaf_for : HasLeafFor s spot.slot spot.stop
  leaf_for = at spot.stop refl
    where
      at : (stop : Stop) → spot.stop ≡ stop → HasLeafFor s spot.slot stop
      at (stops.Differs i) is = tt
      at (stops.Absent b) is = tt
      at (stops.Leaf b) is = ready_leaf b is

  -- what holds of the node where the descent ended holds of the slot's node
  of_node : (F : TableNode P → Type 0) → F w.node → (n : TableNode P) → node_at s spot.slot ≡ Some n → F n
  of_node F is n here =
      let both : Some w.node ≡ Some n = sym w.here ∙ here in
      let same : w.node ≡ n = cc in
      subst F same is

  pub differs_early : (at : ℕ) → spot.stop ≡ stops.Differs at → at < 7
  differs_early at is = parts_high s root key _ (ends_differs at is) at refl

  module _ (bytes : AreBytes key) (full : length key ≡ 8) where
    -- the key has no value
    pub nothing_there : NothingIsStored s spot.slot spot.stop → lookup (pairs_at s depth root) (key_number key) ≡ None
    nothing_there nothing = at spot.stop refl nothing
      where
        at : (stop : Stop) → spot.stop ≡ stop → NothingIsStored s spot.slot stop → lookup (pairs_at s depth root) (key_number key) ≡ None
        at (stops.Differs i) is none = none_above s root key bytes full spot w (λ b e. let clash = sym e ∙ is in absurd (cc))
        at (stops.Absent b) is none = none_above s root key bytes full spot w (λ c e. let clash = sym e ∙ is in absurd (cc))
        at (stops.Leaf b) is none = leaf_lacks s root key bytes full spot w w.node w.here b is (none w.node w.here)

    -- the key's current payload
    pub stands_there : (v : P) → IsStoredWhere s spot.slot spot.stop v → lookup (pairs_at s depth root) (key_number key) ≡ Some v
    stands_there v at_key = at spot.stop refl at_key
      where
        at : (stop : Stop) → spot.stop ≡ stop → IsStoredWhere s spot.slot stop v → lookup (pairs_at s depth root) (key_number key) ≡ Some v
        at (stops.Differs i) is was = absurd was
        at (stops.Absent b) is was = absurd was
        at (stops.Leaf b) is was = leaf_has s root key bytes full spot w w.node w.here b is v (was w.node w.here)

    pub stands_alone : (v : P) → IsStoredWhere s spot.slot spot.stop v → NothingIsStored s spot.slot spot.stop → ⊥
    stands_alone v at_key nothing = let clash = sym (stands_there v at_key) ∙ nothing_there nothing in cc

    module _ (rooted : HasRoot s root) where
      pub exchange_inserts : (t : NodeTable P) (v before : P) → IsStoredWhere s spot.slot spot.stop before → Exchanges s t spot.slot spot.stop v → IsInsertion s root key bytes full t v (Some before)
      exchange_inserts t v before at_key exchanges = at spot.stop refl at_key exchanges
        where
          at : (stop : Stop) → spot.stop ≡ stop → IsStoredWhere s spot.slot stop before → Exchanges s t spot.slot stop v → IsInsertion s root key bytes full t v (Some before)
          at (stops.Differs i) is was now = absurd was
          at (stops.Absent b) is was now = absurd was
          at (stops.Leaf b) is was now = change_inserts s root key bytes full rooted _ (ends_holding b is before was) t v b _ refl now.0 now.1 before was

    module _ (forms : FormCounts) (h : IsCounted forms (nodes_at s depth [] root)) where
      pub counted_there : IsCountedAt s spot.slot forms
      counted_there = let e = ended s root key spot w in end_counted s root key _ e.ends forms h

      -- and contains the pair then
      pub put_inserts : HasRoot s root → NothingIsStored s spot.slot spot.stop → (g t : NodeTable P) (v : P) (forms' : FormCounts) (leaf : ℕ) → IsReady s g spot.slot spot.stop key forms forms' leaf
          → SameElsewhere leaf g t → WritesChild g t leaf (get_or key 7 0) (Payload v) → IsInsertion s root key bytes full t v None × IsCounted forms' (nodes_at t depth [] root)
      put_inserts rooted nothing g t v forms' leaf x keeps writes = at spot.stop refl nothing x
        where
          at : (stop : Stop) → spot.stop ≡ stop → NothingIsStored s spot.slot stop → IsReady s g spot.slot stop key forms forms' leaf → IsInsertion s root key bytes full t v None × IsCounted forms' (nodes_at t depth [] root)
          at (stops.Differs i) is none x =
              let a = ends_differs i is in
              let splits = splits_then s g t spot.slot key v i leaf x.0 keeps writes in
              (split_inserts s root key bytes full rooted _ a t v i refl splits, split_counted s root key _ a forms h bytes full t v i forms' refl splits x.1)
          at (stops.Absent b) is none x =
              let a = ends_absent b is in
              let n : Halts key w.node (stops.Absent b) = subst (λ x. Halts key w.node x) is w.stop in
              let adds = adds_below s g t spot.slot key v b leaf x.0 (of_node (λ m. length m.prefix < 7) n.3) keeps writes in
              (add_inserts s root key bytes full rooted _ a t v b refl adds, add_counted s root key _ a forms h bytes full t v b forms' refl adds n.3 x.1)
          at (stops.Leaf b) is none x =
              let l = at_leaf b is in
              let a = ends_lacking b is none in
              let kept : SameElsewhere spot.slot g t = subst (λ j. SameElsewhere j g t) x.0 keeps in
              let written : WritesChild g t spot.slot b (Payload v) = subst (λ c. WritesChild g t spot.slot c (Payload v)) (sym (last_byte b is)) (subst (λ j. WritesChild g t j (get_or key 7 0) (Payload v)) x.0 writes) in
              let adds = adds_here s g t spot.slot key v b x.1 x.2 (of_node (λ m. length m.prefix ≡ 7) l.2) kept written in
              (add_inserts s root key bytes full rooted _ a t v b refl adds, fill_counted s root key _ a forms h bytes full t v b forms' refl adds l.2 x.3)

      -- the same without new nodes, where the leaf had room
      pub fill_inserts : HasRoot s root → (t : NodeTable P) (v : P) → Fills s t spot.slot spot.stop v → IsInsertion s root key bytes full t v None × IsCounted forms (nodes_at t depth [] root)
      fill_inserts rooted t v fills = at spot.stop refl fills
        where
          at : (stop : Stop) → spot.stop ≡ stop → Fills s t spot.slot stop v → IsInsertion s root key bytes full t v None × IsCounted forms (nodes_at t depth [] root)
          at (stops.Differs i) is x = absurd x
          at (stops.Absent b) is x = absurd x
          at (stops.Leaf b) is x =
              let l = at_leaf b is in
              let a = ends_lacking b is x.0 in
              let room : MakesRoom s s spot.slot = λ n here. (n, here, refl, refl, x.1 n here, sym (grown_fits n.form (length n.children) (x.1 n here))) in
              let grown : CountsGrown s spot.slot forms forms = λ n here. ap (λ f. with_form f forms) (sym (grown_fits n.form (length n.children) (x.1 n here))) in
              let adds = adds_here s s t spot.slot key v b (λ i other. refl) room (of_node (λ m. length m.prefix ≡ 7) l.2) x.2 x.3 in
              (add_inserts s root key bytes full rooted _ a t v b refl adds, fill_counted s root key _ a forms h bytes full t v b forms refl adds l.2 grown)

      -- memory is refused only where a node is needed
      pub refused_there : NothingIsStored s spot.slot spot.stop → RefusesHere s spot.slot spot.stop → NeedsNode (pairs_at s depth root) (key_number key)
      refused_there nothing refuses = at spot.stop refl nothing refuses
        where
          at : (stop : Stop) → spot.stop ≡ stop → NothingIsStored s spot.slot stop → RefusesHere s spot.slot stop → NeedsNode (pairs_at s depth root) (key_number key)
          at (stops.Differs i) is none here = needs_node-differs s root key bytes full _ (ends_differs i is) i refl
          at (stops.Absent b) is none here =
              let n : Halts key w.node (stops.Absent b) = subst (λ x. Halts key w.node x) is w.stop in
              needs_node-absent s root key bytes full _ (ends_absent b is) b refl (λ seven. absurd (omega (arith, n.3, seven)))
          at (stops.Leaf b) is none here = needs_node-absent s root key bytes full _ (ends_lacking b is none) b refl (λ seven. here w.node w.here)

-- a leaf has payloads alone
pub no_slot : {P : Type 0} (s : NodeTable P) (slot : ℕ) → HasLeafAt s slot → (n : TableNode P) → Some n ≡ node_at s slot → (b j : ℕ) → lookup n.children b ≡ Some (Node j) → ⊥
no_slot {P} s slot h n there b j found =
    let both : Some n ≡ Some h.node = there ∙ h.here in
    let is : n ≡ h.node = cc in
    let less : length h.node.prefix < 7 = h.kind b (Node j) (subst (λ (m : TableNode P). lookup m.children b ≡ Some (Node j)) is found) in
    omega (arith, less, h.seven)
