-- A key's path in a table that has changed at its end, and the paths of other keys through the same nodes.
use Rattle.std.proofs.Common.{◌≡◌, ℕ, zero, suc, ◌≤◌, List, [], ◌∷◌, ◌++◌, length, Some, refl, ap, sym, subst, ◌∙◌, arith}
use Rattle.spec_map.specs.Map.{lookup}
use Rattle.spec_node.specs.Key.{AreBytes, Begins, next_byte}
use Rattle.node_table.specs.Table.{NodeTable, node_at, IsTree}
use Rattle.spec_node.specs.declared.child.Child.TheVariants.{Node}
use Rattle.node_table.proofs.BeginLaws.{begins_append}
use Rattle.node_table.proofs.DownLaws.{KeepsOthers, Begins-trans, one_byte}
use Rattle.node_table.proofs.KeyLaws.{goes_on}
use Rattle.tree_path.specs.inner.Descent.{PathTo, LeadsTo}
use Rattle.tree_path.specs.inner.Root.{depth}
use Rattle.tree_path.proofs.PathEndLaws.{leads_start, leads_step}
use Rattle.tree_links.proofs.TreeLaws.{not_longer}

-- the byte under which a key goes on
pub next_is : (p key : List ℕ) (b : ℕ) → Begins (p ++ b ∷ []) key → AreBytes key → length p ≤ 7 → length key ≡ 8 → b ≡ next_byte p key
next_is p key b h bytes short full =
    let on = goes_on p key (Begins-trans p (p ++ b ∷ []) key (begins_append p (b ∷ [])) h) bytes short full in
    one_byte p key b (next_byte p key) h on.begins

module _ {P : Type 0} (s : NodeTable P) (root : ℕ) (key : List ℕ) (bytes : AreBytes key) (full : length key ≡ 8) where
  -- the node above the end of a path, or the root itself
  abbrev pub parent_of : (above levels : ℕ) (q : List ℕ) (slot : ℕ) → PathTo s root key above levels q slot → ℕ
  parent_of zero levels q slot path = root
  parent_of (suc above) levels q slot path = path.parent

  -- a path goes on as it did, where all nodes above its end are kept
  pub leads_kept : (t : NodeTable P) → IsTree t depth [] root → (above levels slot : ℕ) (q : List ℕ) (path : PathTo s root key above levels q slot) → KeepsOthers q s t → LeadsTo t root key above slot (parent_of above levels q slot path)
  leads_kept t tree zero levels slot q path others = subst (λ i. LeadsTo t root key 0 i root) (sym path.2) (leads_start t root key tree)
  leads_kept t tree (suc above) levels slot q path others =
      let h = path.tree in
      let n = h.node in
      let b = next_byte n.prefix key in
      let below : KeepsOthers (n.prefix ++ b ∷ []) s t = subst (λ r. KeepsOthers r s t) path.is others in
      let up : KeepsOthers path.parent_q s t = λ i m here not_below. below i m here (λ deep. not_below (Begins-trans path.parent_q n.prefix m.prefix h.begins (Begins-trans n.prefix (n.prefix ++ b ∷ []) m.prefix (begins_append n.prefix (b ∷ [])) deep))) in
      let there : node_at t path.parent ≡ Some n = below path.parent n h.here (λ deep. not_longer n n.prefix b deep refl) in
      let w = leads_kept t tree above (suc levels) path.parent path.parent_q path.path up in
      subst (λ a. LeadsTo t root key a slot path.parent) (omega arith)
      (leads_step t root key above path.parent (parent_of above (suc levels) path.parent_q path.parent path.path) n w there path.begins bytes full slot path.found)

-- a path is that of each key that begins with the bytes at its end
pub path_other : {P : Type 0} (s : NodeTable P) (root : ℕ) (key other : List ℕ) → AreBytes other → length other ≡ 8 → (above levels slot : ℕ) (q : List ℕ) → PathTo s root key above levels q slot → Begins q other → PathTo s root other above levels q slot
path_other s root key other bytes full zero levels slot q path begins = path
path_other s root key other bytes full (suc above) levels slot q path begins =
    let n = path.tree.node in
    let b = next_byte n.prefix key in
    let through : Begins (n.prefix ++ b ∷ []) other = subst (λ r. Begins r other) path.is begins in
    let next : b ≡ next_byte n.prefix other = next_is n.prefix other b through bytes path.tree.sound.short full in
    let goes : Begins n.prefix other = Begins-trans n.prefix (n.prefix ++ b ∷ []) other (begins_append n.prefix (b ∷ [])) through in
    record {
      parent = path.parent;
      parent_q = path.parent_q;
      tree = path.tree;
      path = path_other s root key other bytes full above (suc levels) path.parent path.parent_q path.path (Begins-trans path.parent_q n.prefix other path.tree.begins goes);
      begins = goes;
      found = subst (λ c. lookup n.children c ≡ Some (Node slot)) next path.found;
      is = path.is ∙ ap (λ c. n.prefix ++ c ∷ []) next;
    }
