-- What a change at the end of a key's path does to the whole tree.
use Rattle.std.proofs.Common.{Bor, IsSome, ◌≡◌, ℕ, zero, suc, ◌+◌, ◌-◌, ◌<◌, ◌≤◌, List, [], ◌∷◌, ◌++◌, length, Option, Some, None, refl, ap, sym, subst, ◌∙◌, arith, inl, inr, length-append}
use Rattle.std.proofs.lemmas.Bool.{cases_eq}
use Rattle.node_table.proofs.BeginLaws.{after, begins_append}
use Rattle.spec_map.specs.Map.{lookup}
use Rattle.spec_node.specs.Key.{AreBytes, key_number, Begins}
use Rattle.node_table.proofs.KeyLaws.{goes_on}
use Rattle.spec_node.specs.TableNode.{TableNode, Child, MayHave}
use Rattle.node_table.specs.Table.{NodeTable, node_at, pairs_at, IsChild, IsTree}
use Rattle.spec_node.specs.Key.{next_byte}
use Rattle.tree_path.specs.inner.Descent.{PathTo, LeadsTo, FindsEnd, Halts, IsOfOneKind, SeeksTo, EndsAt, End, Differs, Absent, Present, EndPlace}
use Rattle.tree_path.specs.inner.Root.{depth}
use Rattle.spec_node.specs.declared.child.Child.TheVariants.{Payload, Node}
use Rattle.tree_path.specs.declared.descent.Stop.{Stop}
use Rattle.tree_path.specs.declared.descent.Stop.TheVariants as stops
use Rattle.tree_path.specs.declared.descent.PathEnd.{PathEnd}
use Rattle.node_table.proofs.TableLaws.{open_subtree, lookup-off_prefix, lookup-at_child, lookup-at_payload, lookup-at_node, IsChild-found}
use Rattle.node_table.proofs.DownLaws.{KeepsOthers, down}
use Rattle.node_table.proofs.NodesLaws.{none_below_seven}
use Rattle.spec_map.proofs.LocalLaws.{IsLocal}

pub depth_is : depth ≡ 8
unfolding depth
depth_is = refl

module _ {P : Type 0} (s : NodeTable P) (root : ℕ) (key : List ℕ) where
  pub leads_start : IsTree s depth [] root → LeadsTo s root key 0 root root
  leads_start h = record { levels = depth; q = []; path = (refl, refl, refl); up = tt; tree = h; begins = begins_append [] key; deep = omega arith; sum = omega (arith, depth_is) }

  step_at : (above levels slot : ℕ) (q : List ℕ) (n : TableNode P) → PathTo s root key above levels q slot → IsTree s levels q slot → Begins q key → above ≤ length q → above + levels ≡ 8
      → node_at s slot ≡ Some n → Begins n.prefix key → AreBytes key → length key ≡ 8 → (j : ℕ) → lookup n.children (next_byte n.prefix key) ≡ Some (Node j)
      → LeadsTo s root key (suc above) j slot
  step_at above zero slot q n path h begins deep sum here goes bytes full j found = absurd h
  step_at above (suc levels) slot q n path h begins deep sum here goes bytes full j found =
      let both : Some h.node ≡ Some n = sym h.here ∙ here in
      let is : n ≡ h.node = cc in
      let goes' : Begins h.node.prefix key = subst (λ (m : TableNode P). Begins m.prefix key) is goes in
      let found' : lookup h.node.children (next_byte h.node.prefix key) ≡ Some (Node j) = subst (λ (m : TableNode P). lookup m.children (next_byte m.prefix key) ≡ Some (Node j)) is found in
      let on = goes_on h.node.prefix key goes' bytes h.sound.short full in
      let child = IsChild-found s levels h.node.prefix h.node.children (next_byte h.node.prefix key) (Node j) h.children found' in
      let one = length-append h.node.prefix (next_byte h.node.prefix key ∷ []) in
      let long = simp length-append at (ap length (after h.begins).is) in
      record {
        levels = levels;
        q = h.node.prefix ++ next_byte h.node.prefix key ∷ [];
        path = record { parent = slot; parent_q = q; tree = h; path = path; begins = goes'; found = found'; is = refl };
        up = refl;
        tree = child;
        begins = on.begins;
        deep = omega (arith, one, long, deep);
        sum = omega (arith, sum);
      }

  pub leads_step : (above slot parent : ℕ) (n : TableNode P) → LeadsTo s root key above slot parent → node_at s slot ≡ Some n → Begins n.prefix key → AreBytes key → length key ≡ 8 → (j : ℕ)
      → lookup n.children (next_byte n.prefix key) ≡ Some (Node j) → LeadsTo s root key (above + 1) j slot
  leads_step above slot parent n w here goes bytes full j found =
      let more : suc above ≡ above + 1 = omega arith in
      subst (λ a. LeadsTo s root key a j slot) more (step_at above w.levels slot w.q n w.path w.tree w.begins w.deep w.sum here goes bytes full j found)

  pub leads_there : (above slot parent : ℕ) → LeadsTo s root key above slot parent → IsSome (node_at s slot)
  leads_there above slot parent w = there w.levels w.q w.tree
    where
      there : (levels : ℕ) (q : List ℕ) → IsTree s levels q slot → IsSome (node_at s slot)
      there zero q h = absurd h
      there (suc levels) q h = rw h.here refl

  levels_left : (levels slot : ℕ) (q : List ℕ) → IsTree s levels q slot → 1 ≤ levels
  levels_left zero slot q h = absurd h
  levels_left (suc levels) slot q h = omega arith

  pub leads_short : (above slot parent : ℕ) → LeadsTo s root key above slot parent → above < 8
  leads_short above slot parent w = let l = levels_left w.levels slot w.q w.tree in omega (arith, w.sum)

  -- payloads are in leaves alone, and nodes above them
  child_kind : (levels : ℕ) (p : List ℕ) (b : ℕ) (c : Child P) → length p ≤ 7 → IsChild (λ q j. IsTree s levels q j) p b c → MayHave p c
  child_kind levels p b (Payload v) short h = h
  child_kind levels p b (Node j) short h = elim (cases_eq (length p) 7) [
    | inl seven ↦ absurd (none_below_seven s levels p b j seven h)
    | inr other ↦ omega (arith, short, other)
  ]

  pub leads_kind : (above slot parent : ℕ) (n : TableNode P) → LeadsTo s root key above slot parent → node_at s slot ≡ Some n → IsOfOneKind n
  leads_kind above slot parent n w here b c found =
      let o = open_subtree s w.levels slot n (record { above = w.q; tree = w.tree }) (sym here) in
      child_kind o.less n.prefix b c o.sound.short (IsChild-found s o.less n.prefix n.children b c o.children found)

  -- the leaf where a descent ends, which has no slots
  pub record LeafAt (spot : PathEnd) (n : TableNode P) (b : ℕ) : Type 0 where
    pub is : b ≡ next_byte n.prefix key
    pub begins : Begins n.prefix key
    pub none : (j : ℕ) → lookup n.children b ≡ Some (Node j) → ⊥

  pub leaf_at : (spot : PathEnd) → SeeksTo s root key spot → (n : TableNode P) → node_at s spot.slot ≡ Some n → (b : ℕ) → spot.stop ≡ stops.Leaf b → LeafAt spot n b
  leaf_at spot w n here b is =
      let both : Some w.node ≡ Some n = sym w.here ∙ here in
      let same : w.node ≡ n = cc in
      let h : Halts key n (stops.Leaf b) = subst (λ m. Halts key m (stops.Leaf b)) same (subst (λ x. Halts key w.node x) is w.stop) in
      record {
        is = h.0;
        begins = h.1;
        none = λ j found. let less : length n.prefix < 7 = leads_kind spot.above spot.slot spot.parent n w.leads here b (Node j) found in omega (arith, less, h.2);
      }

  -- where the path ends, once it is known what the node has there
  abbrev pub place_of : PathEnd → End P → EndPlace P
  place_of spot end = record { slot = spot.slot; parent = spot.parent; above = spot.above; end = end }

  -- a descent that ends is a path that ends
  pub record Ended (spot : PathEnd) : Type 0 where
    pub end : End P
    pub ends : EndsAt s root key (place_of spot end)

  pub ended : (spot : PathEnd) → SeeksTo s root key spot → Ended spot
  ended spot w = at spot.stop refl
    where
      in_leaf : (b : ℕ) → spot.stop ≡ stops.Leaf b → LeafAt spot w.node b → (c : Option (Child P)) → lookup w.node.children b ≡ c → Ended spot
      in_leaf b is l None found = record { end = Absent b; ends = record { leads = w.leads; node = w.node; here = w.here; end = (l.is, l.begins, found) } }
      in_leaf b is l (Some (Payload v)) found =
          record { end = Present b (record { ref_ptr = (0, 0); now = v }); ends = record { leads = w.leads; node = w.node; here = w.here; end = (l.is, l.begins, found) } }
      in_leaf b is l (Some (Node j)) found = absurd (l.none j found)

      at : (stop : Stop) → spot.stop ≡ stop → Ended spot
      at (stops.Differs i) is =
          record { end = Differs i; ends = record { leads = w.leads; node = w.node; here = w.here; end = subst (λ x. Halts key w.node x) is w.stop } }
      at (stops.Absent b) is =
          let h : Halts key w.node (stops.Absent b) = subst (λ x. Halts key w.node x) is w.stop in
          record { end = Absent b; ends = record { leads = w.leads; node = w.node; here = w.here; end = (h.0, h.1, h.2) } }
      at (stops.Leaf b) is = in_leaf b is (leaf_at spot w w.node w.here b is) (lookup w.node.children b) refl

  -- the subtree at the end of the key's path, below this node, and what was found there
  pub record EndsIn (place : EndPlace P) (n : TableNode P) (e : End P) : Type 0 where
    pub levels : ℕ
    pub q : List ℕ
    pub path : PathTo s root key place.above (suc levels) q place.slot
    pub tree : IsTree s (suc levels) q place.slot
    pub is : n ≡ tree.node
    pub begins : Begins q key
    pub deep : place.above ≤ length q
    pub sum : place.above + suc levels ≡ 8
    pub end : FindsEnd key tree.node e

  pub ends_in : (place : EndPlace P) (a : EndsAt s root key place) (e : End P) → place.end ≡ e → EndsIn place a.node e
  ends_in place a e found = let w = a.leads in at w.levels w.q w.path w.tree w.begins w.deep w.sum
    where
      at : (levels : ℕ) (q : List ℕ) → PathTo s root key place.above levels q place.slot → IsTree s levels q place.slot → Begins q key → place.above ≤ length q → place.above + levels ≡ 8 → EndsIn place a.node e
      at zero q path h begins deep sum = absurd h
      at (suc levels) q path h begins deep sum =
          let both : Some a.node ≡ Some h.node = sym a.here ∙ h.here in
          let is : a.node ≡ h.node = cc in
          record {
            levels = levels;
            q = q;
            path = path;
            tree = h;
            is = is;
            begins = begins;
            deep = deep;
            sum = sum;
            end = subst (λ m. FindsEnd key m e) is (subst (λ x. FindsEnd key a.node x) found a.end);
          }

  module _ (bytes : AreBytes key) (full : length key ≡ 8) where
    -- what is found in the whole is found at the end of the path
    pub lookup_along : (above levels slot : ℕ) (q : List ℕ) → PathTo s root key above levels q slot → lookup (pairs_at s depth root) (key_number key) ≡ lookup (pairs_at s levels slot) (key_number key)
    lookup_along zero levels slot q path = rw (path.0, path.2) refl
    lookup_along (suc above) levels slot q path =
        let h = path.tree in
        let o = open_subtree s (suc levels) path.parent h.node (record { above = path.parent_q; tree = h }) (sym h.here) in
        let less : suc levels - 1 ≡ levels = omega arith in
        lookup_along above (suc levels) path.parent path.parent_q path.path
        ∙ lookup-at_node s (suc levels) path.parent h.node o h.node.prefix key refl bytes full path.begins slot (sym path.found)
        ∙ ap (λ l. lookup (pairs_at s l slot) (key_number key)) less

    -- a change at the key in the subtree at the end of the path is one of the whole
    pub along : (t : NodeTable P) (f : List (ℕ × P) → List (ℕ × P)) → IsLocal (key_number key) f → (above levels slot : ℕ) (q : List ℕ) → PathTo s root key above levels q slot
        → IsTree t levels q slot → pairs_at t levels slot ≡ f (pairs_at s levels slot) → KeepsOthers q s t
        → IsTree t depth [] root × (pairs_at t depth root ≡ f (pairs_at s depth root))
    along t f local zero levels slot q path tree pairs others = (
      subst (λ i. IsTree t depth [] i) path.2 (subst (λ r. IsTree t depth r slot) path.1 (subst (λ l. IsTree t l q slot) path.0 tree)),
      subst (λ i. pairs_at t depth i ≡ f (pairs_at s depth i)) path.2 (subst (λ l. pairs_at t l slot ≡ f (pairs_at s l slot)) path.0 pairs),
    )
    along t f local (suc above) levels slot q path tree pairs others =
        let h = path.tree in
        let p = h.node.prefix in
        let b = next_byte p key in
        let on = goes_on p key path.begins bytes h.sound.short full in
        let d = down s t levels path.parent_q path.parent b slot (key_number key) f local h path.found
        (subst (λ r. KeepsOthers r s t) path.is others) (subst (λ r. IsTree t levels r slot) path.is tree) pairs on.at_least on.below in
        along t f local above (suc levels) path.parent path.parent_q path.path d.0 d.1 d.2

    pub lookup_end : (place : EndPlace P) → EndsAt s root key place → (e : End P) → e ≡ place.end → ((b : ℕ) (v : Bor P) → e ≡ Present b v → ⊥) → lookup (pairs_at s depth root) (key_number key) ≡ None
    lookup_end place a (Differs at) is absent =
        let w = a.leads in
        let o = open_subtree s w.levels place.slot a.node (record { above = w.q; tree = w.tree }) (sym a.here) in
        let d : FindsEnd key a.node (Differs at) = subst (λ e. FindsEnd key a.node e) (sym is) a.end in
        lookup_along place.above w.levels place.slot w.q w.path ∙ lookup-off_prefix s w.levels place.slot a.node o a.node.prefix key refl bytes full at d
    lookup_end place a (Absent b) is absent =
        let w = a.leads in
        let o = open_subtree s w.levels place.slot a.node (record { above = w.q; tree = w.tree }) (sym a.here) in
        let d : FindsEnd key a.node (Absent b) = subst (λ e. FindsEnd key a.node e) (sym is) a.end in
        lookup_along place.above w.levels place.slot w.q w.path
        ∙ lookup-at_child s w.levels place.slot a.node o a.node.prefix key refl bytes full d.1 None (sym (subst (λ x. lookup a.node.children x ≡ None) d.0 d.2))
    lookup_end place a (Present b v) is absent = absurd (absent b v refl)

    pub lookup_present : (place : EndPlace P) → EndsAt s root key place → (b : ℕ) (v : Bor P) → place.end ≡ Present b v → lookup (pairs_at s depth root) (key_number key) ≡ Some v.now
    lookup_present place a b v is =
        let w = a.leads in
        let o = open_subtree s w.levels place.slot a.node (record { above = w.q; tree = w.tree }) (sym a.here) in
        let d : FindsEnd key a.node (Present b v) = subst (λ e. FindsEnd key a.node e) is a.end in
        lookup_along place.above w.levels place.slot w.q w.path
        ∙ lookup-at_payload s w.levels place.slot a.node o a.node.prefix key refl bytes full d.1 v.now (sym (subst (λ x. lookup a.node.children x ≡ Some (Payload v.now)) d.0 d.2))

    -- that payload, read another time
    pub lookup_held : (place : EndPlace P) (a : EndsAt s root key place) (b : ℕ) (v : Bor P) → place.end ≡ Present b v → (u : P) → lookup a.node.children b ≡ Some (Payload u) → lookup (pairs_at s depth root) (key_number key) ≡ Some u
    lookup_held place a b v is u found =
        let d : FindsEnd key a.node (Present b v) = subst (λ e. FindsEnd key a.node e) is a.end in
        let both : Some (Payload v.now) ≡ Some (Payload u) = sym d.2 ∙ found in
        let same : v.now ≡ u = cc in
        lookup_present place a b v is ∙ ap (λ x. Some x) same

    -- what the leaf has at the end of a descent is the key's value
    pub leaf_has : (spot : PathEnd) → SeeksTo s root key spot → (n : TableNode P) → node_at s spot.slot ≡ Some n → (b : ℕ) → spot.stop ≡ stops.Leaf b → (v : P) → lookup n.children b ≡ Some (Payload v) → lookup (pairs_at s depth root) (key_number key) ≡ Some v
    leaf_has spot w n here b is v found =
        let l = leaf_at spot w n here b is in
        let end = Present b (record { ref_ptr = (0, 0); now = v }) in
        lookup_present (place_of spot end) (record { leads = w.leads; node = n; here = here; end = (l.is, l.begins, found) }) b _ refl

    pub leaf_lacks : (spot : PathEnd) → SeeksTo s root key spot → (n : TableNode P) → node_at s spot.slot ≡ Some n → (b : ℕ) → spot.stop ≡ stops.Leaf b → lookup n.children b ≡ None → lookup (pairs_at s depth root) (key_number key) ≡ None
    leaf_lacks spot w n here b is none =
        let l = leaf_at spot w n here b is in
        lookup_end (place_of spot (Absent b)) (record { leads = w.leads; node = n; here = here; end = (l.is, l.begins, none) }) (Absent b) refl (λ c v e. absurd (cc))

    -- a key whose descent ends above the leaves is absent
    pub none_above : (spot : PathEnd) (w : SeeksTo s root key spot) → ((b : ℕ) → spot.stop ≡ stops.Leaf b → ⊥) → lookup (pairs_at s depth root) (key_number key) ≡ None
    none_above spot w no_leaf = at spot.stop refl
      where
        ends_with : (end : End P) → FindsEnd key w.node end → EndsAt s root key (place_of spot end)
        ends_with end found = record { leads = w.leads; node = w.node; here = w.here; end = found }

        at : (stop : Stop) → spot.stop ≡ stop → lookup (pairs_at s depth root) (key_number key) ≡ None
        at (stops.Differs i) is = lookup_end _ (ends_with (Differs i) (subst (λ x. Halts key w.node x) is w.stop)) (Differs i) refl (λ c v e. absurd (cc))
        at (stops.Absent b) is =
            let h : Halts key w.node (stops.Absent b) = subst (λ x. Halts key w.node x) is w.stop in
            lookup_end _ (ends_with (Absent b) (h.0, h.1, h.2)) (Absent b) refl (λ c v e. absurd (cc))
        at (stops.Leaf b) is = absurd (no_leaf b is)
