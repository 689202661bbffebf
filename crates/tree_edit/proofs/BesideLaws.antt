-- The leaf where one key's descent ended is on the path of each key with the same first seven bytes, also once that leaf
-- alone has changed.
use Rattle.std.proofs.Common.{◌≡◌, ◌≢◌, ℕ, zero, suc, ◌+◌, ◌<◌, ◌≤◌, List, [], ◌∷◌, ◌++◌, length, length-append, take, fold, get_or, Option, Some, None, refl, ap, sym, subst, ◌∙◌, arith}
use Rattle.std.proofs.lemmas.List.Sums.{fold_more}
use Rattle.std.specs.Int.{from_be_bytes, w64}
use Rattle.node_table.specs.Charge.{Charge}
use Rattle.node_table.proofs.BeginLaws.{after, begins_append}
use Rattle.node_table.proofs.DownLaws.{Begins-trans, one_byte}
use Rattle.node_table.proofs.KeyLaws.{goes_on}
use Rattle.node_table.proofs.NodesLaws.{none_below_seven}
use Rattle.node_table.proofs.TableLaws.{IsChild-found}
use Rattle.spec_node.specs.Key.{AreBytes, Begins, next_byte}
use Rattle.node_table.specs.Table.{NodeTable, node_at, pairs_at, nodes_at, IsTree}
use Rattle.spec_node.specs.TableNode.{TableNode}
use Rattle.spec_node.specs.declared.child.Child.TheVariants.{Node}
use Rattle.spec_map.specs.Map.{Pairs, lookup, put}
use Rattle.tree_path.proofs.PathEndLaws.{leads_start}
use Rattle.tree_path.specs.declared.descent.PathEnd.{PathEnd}
use Rattle.tree_path.specs.declared.descent.Stop.{Stop}
use Rattle.tree_path.specs.declared.descent.Stop.TheVariants as stops
use Rattle.tree_path.specs.inner.Descent.{PathTo, HasParent, LeadsTo, Halts, SeeksTo}
use Rattle.tree_path.specs.inner.Root.{depth}
use Rattle.tree_path.specs.inner.Supply.{SupplyView, Alike}
use Rattle.tree_edit.proofs.CallLaws.{exchanged, filled, insert_refused}
use Rattle.tree_edit.specs.Tree.{TreeView}
use Rattle.tree_edit.specs.inner.Beside.{IsReached, Puts, Refuses}
use Rattle.tree_edit.specs.inner.Whole.{IsWhole}
use Rattle.tree_edit.specs.inner.Writes.{SameElsewhere, NothingIsStored, Sets, RefusesHere}

module _ {P : Type 0} (s : NodeTable P) (root : ℕ) where
  -- the path of another key that begins with the same bytes
  module _ (key other : List ℕ) (bytes : AreBytes other) (full : length other ≡ 8) where
    path_for : (above levels : ℕ) (q : List ℕ) (slot : ℕ) → PathTo s root key above levels q slot → Begins q other → PathTo s root other above levels q slot
    path_for zero levels q slot path begins = path
    path_for (suc above) levels q slot path begins =
        let h = path.tree in
        let p = h.node.prefix in
        let b = next_byte p key in
        let on_child : Begins (p ++ b ∷ []) other = subst (λ r. Begins r other) path.is begins in
        let on_node : Begins p other = Begins-trans p (p ++ b ∷ []) other (begins_append p (b ∷ [])) on_child in
        let goes = goes_on p other on_node bytes h.sound.short full in
        let same : b ≡ next_byte p other = one_byte p other b (next_byte p other) on_child goes.begins in
        record {
          parent = path.parent;
          parent_q = path.parent_q;
          tree = h;
          path = path_for above (suc levels) path.parent_q path.parent path.path (Begins-trans path.parent_q p other h.begins on_node);
          begins = on_node;
          found = subst (λ c. lookup h.node.children c ≡ Some (Node slot)) same path.found;
          is = subst (λ c. q ≡ p ++ c ∷ []) same path.is;
        }

    parent_for : (above levels : ℕ) (q : List ℕ) (slot : ℕ) (path : PathTo s root key above levels q slot) (begins : Begins q other) (parent : ℕ)
        → HasParent s root key above levels q slot path parent → HasParent s root other above levels q slot (path_for above levels q slot path begins) parent
    unfolding path_for
    parent_for zero levels q slot path begins parent up = tt
    parent_for (suc above) levels q slot path begins parent up = up

    begins_at : (levels : ℕ) (q : List ℕ) (slot : ℕ) (n : TableNode P) → IsTree s levels q slot → node_at s slot ≡ Some n → Begins n.prefix other → Begins q other
    begins_at zero q slot n h here begins = absurd h
    begins_at (suc levels) q slot n h here begins =
        let both : Some n ≡ Some h.node = sym here ∙ h.here in
        let is : n ≡ h.node = cc in
        Begins-trans q h.node.prefix other h.begins (subst (λ (m : TableNode P). Begins m.prefix other) is begins)

    leads_for : (above slot parent : ℕ) (n : TableNode P) → LeadsTo s root key above slot parent → node_at s slot ≡ Some n → Begins n.prefix other → LeadsTo s root other above slot parent
    leads_for above slot parent n w here begins =
        let below = begins_at w.levels w.q slot n w.tree here begins in
        record {
          levels = w.levels;
          q = w.q;
          path = path_for above w.levels w.q slot w.path below;
          up = parent_for above w.levels w.q slot w.path below parent w.up;
          tree = w.tree;
          begins = below;
          deep = w.deep;
          sum = w.sum;
        }

    short_way : (levels : ℕ) (q : List ℕ) (slot : ℕ) → IsTree s levels q slot → length q ≤ 7
    short_way zero q slot h = absurd h
    short_way (suc levels) q slot h = let a = after h.begins in omega (arith, ap length a.is, length-append q a.rest, h.sound.short)

    -- the same for each node above a leaf, if the keys have the same first seven bytes
    pub leads_alike : ((q : List ℕ) → length q ≤ 7 → Begins q key → Begins q other) → (above slot parent : ℕ) → LeadsTo s root key above slot parent → LeadsTo s root other above slot parent
    leads_alike alike above slot parent w =
        let below = alike w.q (short_way w.levels w.q slot w.tree) w.begins in
        record {
          levels = w.levels;
          q = w.q;
          path = path_for above w.levels w.q slot w.path below;
          up = parent_for above w.levels w.q slot w.path below parent w.up;
          tree = w.tree;
          begins = below;
          deep = w.deep;
          sum = w.sum;
        }

  -- the remembered node is the key's leaf
  pub seeks_beside : (last : PathEnd) → IsReached s root last → (key : List ℕ) → AreBytes key → length key ≡ 8 → (n : TableNode P) → node_at s last.slot ≡ Some n → Begins n.prefix key → length n.prefix ≡ 7
      → (b : ℕ) → b ≡ next_byte n.prefix key → SeeksTo s root key (record { slot = last.slot; parent = last.parent; above = last.above; stop = stops.Leaf b })
  seeks_beside last r key bytes full n here begins seven b is =
      record { leads = leads_for r.key key bytes full last.above last.slot last.parent n r.leads here begins; node = n; here = here; stop = (is, begins, seven) }

  pub reached_root : IsTree s depth [] root → (last : PathEnd) → last.slot ≡ root → last.parent ≡ root → last.above ≡ 0 → IsReached s root last
  reached_root h last slot parent above = record { key = []; leads = rw (slot, parent, above) (leads_start s root [] h) }

-- a tree in which a leaf alone has changed
module _ {P : Type 0} (s t : NodeTable P) (root leaf : ℕ) (n : TableNode P) (here : node_at s leaf ≡ Some n) (seven : length n.prefix ≡ 7) (keeps : SameElsewhere leaf s t) (whole : IsTree t depth [] root) (key : List ℕ) where
  -- a node with another below it is no leaf
  not_leaf : (levels : ℕ) (q : List ℕ) (slot b j : ℕ) (h : IsTree s (suc levels) q slot) → lookup h.node.children b ≡ Some (Node j) → slot ≢ leaf
  not_leaf levels q slot b j h found same =
      let there : node_at s slot ≡ Some n = subst (λ i. node_at s i ≡ Some n) (sym same) here in
      let both : Some n ≡ Some h.node = sym there ∙ h.here in
      let is : n ≡ h.node = cc in
      none_below_seven s levels h.node.prefix b j (subst (λ (m : TableNode P). length m.prefix ≡ 7) is seven) (IsChild-found s levels h.node.prefix h.node.children b (Node j) h.children found)

  pub record Kept (above levels : ℕ) (q : List ℕ) (slot : ℕ) : Type 0 where
    pub path : PathTo t root key above levels q slot
    pub tree : IsTree t levels q slot

  kept : (above levels : ℕ) (q : List ℕ) (slot : ℕ) → PathTo s root key above levels q slot → Kept above levels q slot
  kept zero levels q slot path = record {
    path = path;
    tree = subst (λ l. IsTree t l q slot) (sym path.0) (subst (λ r. IsTree t depth r slot) (sym path.1) (subst (λ i. IsTree t depth [] i) (sym path.2) whole));
  }
  kept (suc above) levels q slot path =
      let up = kept above (suc levels) path.parent_q path.parent path.path in
      let h = path.tree in
      let k : IsTree t (suc levels) path.parent_q path.parent = up.tree in
      let other = not_leaf levels path.parent_q path.parent (next_byte h.node.prefix key) slot h path.found in
      let both : Some h.node ≡ Some k.node = sym (keeps path.parent other ∙ h.here) ∙ k.here in
      let is : h.node ≡ k.node = cc in
      let found : lookup k.node.children (next_byte k.node.prefix key) ≡ Some (Node slot) = subst (λ (m : TableNode P). lookup m.children (next_byte m.prefix key) ≡ Some (Node slot)) is path.found in
      let below : q ≡ k.node.prefix ++ next_byte k.node.prefix key ∷ [] = subst (λ (m : TableNode P). q ≡ m.prefix ++ next_byte m.prefix key ∷ []) is path.is in
      let child : IsTree t levels (k.node.prefix ++ next_byte k.node.prefix key ∷ []) slot = IsChild-found t levels k.node.prefix k.node.children (next_byte k.node.prefix key) (Node slot) k.children found in
      record {
        path = record {
          parent = path.parent;
          parent_q = path.parent_q;
          tree = k;
          path = up.path;
          begins = subst (λ (m : TableNode P). Begins m.prefix key) is path.begins;
          found = found;
          is = below;
        };
        tree = subst (λ r. IsTree t levels r slot) (sym below) child;
      }

  parent_kept : (above levels : ℕ) (q : List ℕ) (slot : ℕ) (path : PathTo s root key above levels q slot) (parent : ℕ) → HasParent s root key above levels q slot path parent
      → HasParent t root key above levels q slot (kept above levels q slot path).path parent
  unfolding kept
  parent_kept zero levels q slot path parent up = tt
  parent_kept (suc above) levels q slot path parent up = up

  pub leads_kept : (above slot parent : ℕ) → LeadsTo s root key above slot parent → LeadsTo t root key above slot parent
  leads_kept above slot parent w =
      let k = kept above w.levels w.q slot w.path in
      record {
        levels = w.levels;
        q = w.q;
        path = k.path;
        up = parent_kept above w.levels w.q slot w.path parent w.up;
        tree = k.tree;
        begins = w.begins;
        deep = w.deep;
        sum = w.sum;
      }

-- what each end of an insertion leaves
module _ {P A : Type 0} (charge : A → Option Charge) (s : NodeTable P) (root : ℕ) (old : SupplyView A) (count : ℕ) (i : IsWhole s root old.forms count) (key : List ℕ) (bytes : AreBytes key) (full : length key ≡ 8) (spot : PathEnd) (ends : SeeksTo s root key spot) where
  abbrev number : ℕ
  number = from_be_bytes w64 key

  -- the tree as contracts see it
  abbrev seen : TreeView P A
  seen = record { pairs = pairs_at s depth root; nodes = nodes_at s depth [] root; budget = old.budget }

  -- the leaf where the descent ended, once that leaf alone has changed
  reached_leaf : (t : NodeTable P) (b : ℕ) → spot.stop ≡ stops.Leaf b → SameElsewhere spot.slot s t → IsTree t depth [] root → IsReached t root spot
  reached_leaf t b is keeps whole =
      let h : Halts key ends.node (stops.Leaf b) = subst (λ x. Halts key ends.node x) is ends.stop in
      record { key = key; leads = leads_kept s t root spot.slot ends.node ends.here h.2 keeps whole key spot.above spot.slot spot.parent ends.leads }

  reached_set : (t : NodeTable P) (v : P) (before : Option P) → Sets s t spot.slot spot.stop v before → IsTree t depth [] root → IsReached t root spot
  reached_set t v before sets whole = at spot.stop refl before sets
    where
      at : (stop : Stop) → spot.stop ≡ stop → (before : Option P) → Sets s t spot.slot stop v before → IsReached t root spot
      at (stops.Differs j) is (Some w) x = absurd x.0
      at (stops.Differs j) is None x = absurd x
      at (stops.Absent b) is (Some w) x = absurd x.0
      at (stops.Absent b) is None x = absurd x
      at (stops.Leaf b) is (Some w) x = reached_leaf t b is x.1.0 whole
      at (stops.Leaf b) is None x = reached_leaf t b is x.2 whole

  pub puts_over : (t : NodeTable P) (v before : P) → Sets s t spot.slot spot.stop v (Some before) → Puts charge s old root number v spot t old count
  puts_over t v before sets =
      let x = exchanged charge s root old count i seen refl key bytes full spot ends t v before sets.0 sets.1 in
      record { whole = x.whole; pairs = x.pairs; alike = refl; reached = reached_set t v (Some before) sets x.whole.tree }

  pub puts_new : (t : NodeTable P) (v : P) → Sets s t spot.slot spot.stop v None → Puts charge s old root number v spot t old (count + 1)
  puts_new t v sets =
      let x = filled charge s root old count i seen refl key bytes full spot ends t v sets in
      record { whole = x.whole; pairs = x.pairs; alike = refl; reached = reached_set t v None sets x.whole.tree }

  pub refuses : {E : Type 0} (e : E) (v : P) (t : NodeTable P) (new : SupplyView A) → t ≡ s → new.forms ≡ old.forms → Alike charge old new → NothingIsStored s spot.slot spot.stop → RefusesHere s spot.slot spot.stop
      → Refuses charge s old root number t new count
  refuses e v t new same forms alike nothing refused =
      let x = insert_refused charge s root old count i seen refl key bytes full spot ends e t new same forms alike nothing refused v in
      record { whole = rw (same, forms) i; pairs = rw same refl; alike = alike; needs = rw same x.refused }

-- one pair more of a slice is inserted
pub put_next : {K V : Type 0} (key : K → ℕ) (value : V → ℕ) (m now : Pairs ℕ) (pairs : List (K × V)) (i : ℕ) (e : K × V) (k v : ℕ) → i < length pairs → e ≡ get_or pairs i e → k ≡ key e.0 → v ≡ value e.1
    → now ≡ fold (λ es x. put es (key x.0) (value x.1)) m (take i pairs) → put now k v ≡ fold (λ es x. put es (key x.0) (value x.1)) m (take (i + 1) pairs)
put_next key value m now pairs i e k v less is k_is v_is same =
    rw (k_is, v_is, same) (ap (λ x. put (fold (λ es y. put es (key y.0) (value y.1)) m (take i pairs)) (key x.0) (value x.1)) is ∙ sym (fold_more (λ es y. put es (key y.0) (value y.1)) m pairs i e less))
