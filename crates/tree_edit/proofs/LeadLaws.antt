-- Paths in a table that has changed at the end of one.
use Rattle.std.proofs.Common.{◌≡◌, ◌≢◌, ℕ, suc, ◌+◌, ◌<◌, List, [], ◌∷◌, ◌++◌, length, Some, refl, ap, sym, subst, ◌∙◌, arith}
use Rattle.spec_map.specs.Map.{lookup, put}
use Rattle.spec_map.proofs.MapLaws.{lookup-put_same}
use Rattle.spec_node.specs.Key.{AreBytes, Begins, next_byte}
use Rattle.spec_node.specs.TableNode.{TableNode}
use Rattle.node_table.specs.Table.{NodeTable, node_at, IsTree}
use Rattle.spec_node.specs.declared.child.Child.TheVariants.{Node}
use Rattle.node_table.proofs.BeginLaws.{begins_append}
use Rattle.node_table.proofs.DownLaws.{KeepsOthers, Begins-trans}
use Rattle.node_table.proofs.KeyLaws.{goes_on}
use Rattle.tree_path.specs.inner.Descent.{Halts, PathTo, LeadsTo, SeeksTo}
use Rattle.tree_path.specs.inner.Root.{HasTree}
use Rattle.tree_path.specs.declared.descent.Stop.{Stop}
use Rattle.tree_path.proofs.PathEndLaws.{leads_step, leads_kind}
use Rattle.tree_edit.specs.inner.Writes.{SameElsewhere}
use Rattle.tree_links.specs.MovesNode.{MovesNode}
use Rattle.tree_links.specs.SameTree.{GoesOnAt}
use Rattle.tree_links.proofs.LeadLaws.{leads_kept, parent_of}
use Rattle.tree_links.proofs.TreeLaws.{moved_at, leaf_under, not_longer}

module _ {P : Type 0} (s : NodeTable P) (root : ℕ) (key : List ℕ) (bytes : AreBytes key) (full : length key ≡ 8) where
  -- where the node at the end has gone into another place
  leads_moved_at : (g : NodeTable P) (byte i j above levels : ℕ) (q : List ℕ) (path : PathTo s root key (suc above) levels q i) → HasTree g root → MovesNode s g path.parent byte i j → byte ≡ next_byte path.tree.node.prefix key
      → LeadsTo g root key (above + 1) j path.parent
  leads_moved_at g byte i j above levels q path tree w byte_is =
      let h = path.tree in
      let n = h.node in
      let b = next_byte n.prefix key in
      let on = goes_on n.prefix key path.begins bytes h.sound.short full in
      let m : MovesNode s g path.parent b i j = subst (λ c. MovesNode s g path.parent c i j) byte_is w in
      let x = moved_at s g levels path.parent b i j path.parent_q h on.byte m in
      let lead = leads_kept s root key bytes full g tree above (suc levels) path.parent path.parent_q path.path x.others in
      let both : Some n ≡ Some m.node = sym h.here ∙ m.here in
      let is : n ≡ m.node = cc in
      let then : TableNode P = record m.node { children = put m.node.children b (Node j) } in
      let begins : Begins then.prefix key = subst (λ (y : TableNode P). Begins y.prefix key) is path.begins in
      let next : b ≡ next_byte then.prefix key = ap (λ (y : TableNode P). next_byte y.prefix key) is in
      let found : lookup then.children (next_byte then.prefix key) ≡ Some (Node j) = subst (λ c. lookup then.children c ≡ Some (Node j)) next (lookup-put_same m.node.children b (Node j)) in
      leads_step g root key above path.parent (parent_of s root key bytes full above (suc levels) path.parent_q path.parent path.path) then lead m.there begins bytes full j found

  pub leads_moved : (g : NodeTable P) (parent byte i j above : ℕ) → LeadsTo s root key (above + 1) i parent → HasTree g root → (w : MovesNode s g parent byte i j) → byte ≡ next_byte w.node.prefix key → LeadsTo g root key (above + 1) j parent
  leads_moved g parent byte i j above l tree w byte_is =
      let more : above + 1 ≡ suc above = omega arith in
      at (subst (λ a. LeadsTo s root key a i parent) more l)
    where
      at : LeadsTo s root key (suc above) i parent → LeadsTo g root key (above + 1) j parent
      at k =
          let p = k.path in
          let both : Some p.tree.node ≡ Some w.node = sym p.tree.here ∙ ap (λ z. node_at s z) k.up ∙ w.here in
          let is : w.node ≡ p.tree.node = cc in
          let next : byte ≡ next_byte p.tree.node.prefix key = byte_is ∙ ap (λ (y : TableNode P). next_byte y.prefix key) is in
          subst (λ z. LeadsTo g root key (above + 1) j z) k.up
          (leads_moved_at g byte i j above k.levels k.q p tree (subst (λ z. MovesNode s g z byte i j) (sym k.up) w) next)

  -- so a descent that ended there ends at the new place
  pub seeks_moved : (g : NodeTable P) (parent byte i j above : ℕ) (stop : Stop) → SeeksTo s root key (record { slot = i; parent = parent; above = above + 1; stop = stop }) → HasTree g root → (w : MovesNode s g parent byte i j) → byte ≡ next_byte w.node.prefix key
      → SeeksTo g root key (record { slot = j; parent = parent; above = above + 1; stop = stop })
  seeks_moved g parent byte i j above stop k tree w byte_is =
      let both : Some k.node ≡ Some w.moved = sym k.here ∙ w.was in
      let is : k.node ≡ w.moved = cc in
      record {
        leads = leads_moved g parent byte i j above k.leads tree w byte_is;
        node = w.moved;
        here = w.is;
        stop = subst (λ (n : TableNode P). Halts key n stop) is k.stop;
      }

  -- THE NODE ABOVE the end of a path
  pub record StepAbove (above slot parent : ℕ) : Type 0 where
    pub node : TableNode P
    pub here : node_at s parent ≡ Some node
    pub begins : Begins node.prefix key
    pub inner : length node.prefix < 7
    pub found : lookup node.children (next_byte node.prefix key) ≡ Some (Node slot)
    pub apart : slot ≢ parent
    pub below : (m : TableNode P) → node_at s slot ≡ Some m → Begins (node.prefix ++ next_byte node.prefix key ∷ []) m.prefix
    pub goes : GoesOnAt s root key parent (next_byte node.prefix key)

  step_at : (above levels slot : ℕ) (q : List ℕ) (path : PathTo s root key (suc above) levels q slot) → IsTree s levels q slot → HasTree s root → StepAbove above slot path.parent
  step_at above levels slot q path tree whole =
      let h = path.tree in
      let n = h.node in
      let b = next_byte n.prefix key in
      let lead = leads_kept s root key bytes full s whole above (suc levels) path.parent path.parent_q path.path (λ o m at other. at) in
      let kind = leads_kind s root key above path.parent (parent_of s root key bytes full above (suc levels) path.parent_q path.parent path.path) n lead h.here in
      let child : IsTree s levels (n.prefix ++ b ∷ []) slot = subst (λ r. IsTree s levels r slot) path.is tree in
      let longer : (m : TableNode P) → node_at s slot ≡ Some m → Begins (n.prefix ++ b ∷ []) m.prefix = λ m at. leaf_under s levels (n.prefix ++ b ∷ []) slot child m at in
      record {
        node = n;
        here = h.here;
        begins = path.begins;
        inner = kind b (Node slot) path.found;
        found = path.found;
        apart = λ e. not_longer n n.prefix b (longer n (ap (λ z. node_at s z) e ∙ h.here)) refl;
        below = longer;
        goes = record { bytes = bytes; full = full; above = above; parent = parent_of s root key bytes full above (suc levels) path.parent_q path.parent path.path; leads = lead; node = n; here = h.here; begins = path.begins; next = refl };
      }

  pub step_above : (above slot parent : ℕ) → LeadsTo s root key (suc above) slot parent → HasTree s root → StepAbove above slot parent
  step_above above slot parent l whole = subst (λ z. StepAbove above slot z) l.up (step_at above l.levels slot l.q l.path l.tree whole)

  -- that node still goes on there, where the one at the end alone has changed
  still_at : (t : NodeTable P) → HasTree t root → (above levels slot : ℕ) (q : List ℕ) (path : PathTo s root key (suc above) levels q slot) → IsTree s levels q slot → (x : StepAbove above slot path.parent) → SameElsewhere slot s t
      → GoesOnAt t root key path.parent (next_byte x.node.prefix key)
  still_at t whole above levels slot q path tree x same =
      let h = path.tree in
      let both : Some h.node ≡ Some x.node = sym h.here ∙ x.here in
      let is : h.node ≡ x.node = cc in
      let q_x : Begins path.parent_q x.node.prefix = subst (λ (n : TableNode P). Begins path.parent_q n.prefix) is h.begins in
      let others : KeepsOthers path.parent_q s t = λ o m at not_below. same o (λ e.
      let deep = x.below m (subst (λ z. node_at s z ≡ Some m) e at) in
      not_below (Begins-trans path.parent_q x.node.prefix m.prefix q_x (Begins-trans x.node.prefix (x.node.prefix ++ next_byte x.node.prefix key ∷ []) m.prefix (begins_append x.node.prefix (next_byte x.node.prefix key ∷ [])) deep))) ∙ at in
      let lead = leads_kept s root key bytes full t whole above (suc levels) path.parent path.parent_q path.path others in
      record { bytes = bytes; full = full; above = above; parent = _; leads = lead; node = x.node; here = same path.parent (λ e. x.apart (sym e)) ∙ x.here; begins = x.begins; next = refl }

  pub goes_still : (t : NodeTable P) → HasTree t root → (above slot parent : ℕ) (l : LeadsTo s root key (suc above) slot parent) (tree : HasTree s root) → SameElsewhere slot s t → GoesOnAt t root key parent (next_byte (step_above above slot parent l tree).node.prefix key)
  goes_still t whole above slot parent l tree same =
      let x = step_above above slot parent l tree in
      let y : StepAbove above slot l.path.parent = subst (λ z. StepAbove above slot z) (sym l.up) x in
      let both : Some y.node ≡ Some x.node = sym y.here ∙ ap (λ z. node_at s z) l.up ∙ x.here in
      let is : y.node ≡ x.node = cc in
      let g = still_at t whole above l.levels slot l.q l.path l.tree y same in
      subst (λ z. GoesOnAt t root key z (next_byte x.node.prefix key)) l.up (subst (λ (n : TableNode P). GoesOnAt t root key l.path.parent (next_byte n.prefix key)) is g)
