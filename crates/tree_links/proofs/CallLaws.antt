-- What a call requires of the table that is seen is what it requires of the nodes.
use Rattle.std.proofs.Common.{◌≡◌, ℕ, ◌+◌, ◌-◌, ◌<◌, List, [], ◌∷◌, ◌++◌, length, Option, Some, None, IsSome, refl, ap, sym, subst, ◌∙◌}
use Rattle.std.specs.Option.{option_map}
use Rattle.spec_map.specs.Map.{lookup}
use Rattle.node_base.specs.Form.{Fits}
use Rattle.spec_node.specs.Key.{Begins, IsFirstDifference}
use Rattle.spec_node.specs.TableNode.{TableNode}
use Rattle.node_table.specs.Table.{NodeTable, node_at}
use Rattle.spec_node.specs.declared.child.Child.TheVariants as children
use Rattle.tree_links.specs.LinkNode.{LinkNode}
use Rattle.tree_links.specs.LinksView.{LinksView}
use Rattle.tree_links.specs.PairCalls.{IsOpenFor, HasBelow, HasLeaf}
use Rattle.tree_links.specs.SeenTable.{LinkTable, bytes, name_of, name_under, link_at, seen_links, seen_node, seen_table}
use Rattle.tree_links.specs.SplitsChild.{IsParted}
use Rattle.tree_links.specs.declared.link.Link.{Link}
use Rattle.tree_links.specs.declared.link.Link.TheVariants.{Slot, Pair}
use Rattle.tree_links.specs.inner.Slots.{HasLink, LacksLink, IsPresentAt}
use Rattle.tree_links.proofs.SeenLaws.{slot_at, pair_under, slot_under, none_under, length-seen, seen_slot}

module _ {P : Type 0} (t : LinkTable P) (i b : ℕ) (inside : b < bytes) where
  -- the inner node in the slot, and what it has under the byte
  pub record Below (c : Link P) : Type 0 where
    pub node : LinkNode P
    pub here : link_at t i ≡ Some node
    pub inner : length node.prefix < 7
    pub found : lookup node.links b ≡ Some c

  pub record PairBelow : Type 0 where
    pub rest : List ℕ
    pub payload : P
    pub below : Below (Pair rest payload)

  pub pair_below : HasBelow (seen_table t) (name_of i) b (name_under i b) → PairBelow
  pair_below h =
      let n = slot_at t i h.node h.here in
      let p = pair_under i b n.node.links inside (subst (λ (m : TableNode P). lookup m.children b ≡ Some (children.Node (name_under i b))) n.is h.found) in
      record { rest = p.rest; payload = p.payload; below = record { node = n.node; here = n.here; inner = subst (λ (m : TableNode P). length m.prefix < 7) n.is h.inner; found = p.found } }

  pub slot_below : (j : ℕ) → HasBelow (seen_table t) (name_of i) b (name_of j) → Below (Slot j)
  slot_below j h =
      let n = slot_at t i h.node h.here in
      record {
        node = n.node;
        here = n.here;
        inner = subst (λ (m : TableNode P). length m.prefix < 7) n.is h.inner;
        found = slot_under i b j n.node.links inside (subst (λ (m : TableNode P). lookup m.children b ≡ Some (children.Node (name_of j))) n.is h.found);
      }

  pub has_slot : (c : Link P) (j : ℕ) → Below c → HasLink t i b (Slot j)
  has_slot c j x = record { node = x.node; here = x.here; present = rw x.found refl; kind = x.inner }

  pub has_pair : (c : Link P) (rest : List ℕ) (v : P) → Below c → HasLink t i b (Pair rest v)
  has_pair c rest v x = record { node = x.node; here = x.here; present = rw x.found refl; kind = x.inner }

  pub is_present : (c : Link P) → Below c → IsPresentAt t i b
  is_present c x = record { node = x.node; here = x.here; present = rw x.found refl }

  -- what was there is what was found
  pub same_link : (c d : Link P) → Below c → (n : LinkNode P) → link_at t i ≡ Some n → lookup n.links b ≡ Some d → d ≡ c
  same_link c d x n here found =
      let both : Some x.node ≡ Some n = sym x.here ∙ here in
      let is : n ≡ x.node = cc in
      let two : Some c ≡ Some d = sym x.found ∙ subst (λ (m : LinkNode P). lookup m.links b ≡ Some d) is found in
      cc

  pub lacks_pair : (key rest : List ℕ) (v : P) → IsOpenFor (seen_table t) (name_of i) b key → LacksLink t i b (Pair rest v)
  lacks_pair key rest v h =
      let n = slot_at t i h.node h.here in
      let room : Fits n.node.form (length (seen_links i n.node.links) + 1) = subst (λ (m : TableNode P). Fits m.form (length m.children + 1)) n.is h.room in
      record {
        node = n.node;
        here = n.here;
        absent = none_under i b n.node.links (subst (λ (m : TableNode P). lookup m.children b ≡ None) n.is h.absent);
        room = subst (λ x. Fits n.node.form (x + 1)) (length-seen i n.node.links) room;
        kind = subst (λ (m : TableNode P). length m.prefix < 7) n.is h.inner;
      }

  pub key_begins : (key : List ℕ) → IsOpenFor (seen_table t) (name_of i) b key → (n : LinkNode P) → link_at t i ≡ Some n → Begins (n.prefix ++ b ∷ []) key
  key_begins key h n here =
      let x = slot_at t i h.node h.here in
      let both : Some x.node ≡ Some n = sym x.here ∙ here in
      let is : x.node ≡ n = cc in
      subst (λ (m : LinkNode P). Begins (m.prefix ++ b ∷ []) key) is (subst (λ (m : TableNode P). Begins (m.prefix ++ b ∷ []) key) x.is h.begins)

-- what is seen of the whole
module _ {P : Type 0} (t : LinkTable P) (capacity used : ℕ) (w : LinksView P) (view : ◌≡◌ {A = LinksView P} (record { table = seen_table t; free = capacity - used }) w) where
  pub table_is : seen_table t ≡ w.table
  table_is = ap (λ (v : LinksView P). v.table) view

  pub free_is : capacity - used ≡ w.free
  free_is = ap (λ (v : LinksView P). v.free) view

-- a node that is seen is there
pub has_node : {P : Type 0} (t : LinkTable P) (i : ℕ) → IsSome (node_at (seen_table t) (name_of i)) → IsSome (link_at t i)
has_node {P} t i h = at (link_at t i) refl
  where
    at : (x : Option (LinkNode P)) → link_at t i ≡ x → IsSome (link_at t i)
    at None e = absurd (let none = seen_slot t i ∙ ap (option_map (λ n. seen_node i n)) e in let clash = rw none at h in cc)
    at (Some n) e = rw e refl

-- it is there still, where another slot changes
pub below_still : {P : Type 0} (t u : LinkTable P) (i b : ℕ) (inside : b < bytes) (c : Link P) → Below t i b inside c → link_at u i ≡ link_at t i → Below u i b inside c
below_still t u i b inside c x same = record { node = x.node; here = same ∙ x.here; inner = x.inner; found = x.found }

-- the key of the leaf below has the node's bytes first
pub below_begins : {P : Type 0} (t : LinkTable P) (i b : ℕ) (inside : b < bytes) (j : ℕ) (h : HasLeaf (seen_table t) (name_of i) b (name_of j)) (n : LinkNode P) → link_at t i ≡ Some n → Begins (n.prefix ++ b ∷ []) h.key
below_begins {P} t i b inside j h n here =
    let x = slot_at t i h.below.node h.below.here in
    let both : Some x.node ≡ Some n = sym x.here ∙ here in
    let is : x.node ≡ n = cc in
    subst (λ (m : LinkNode P). Begins (m.prefix ++ b ∷ []) h.key) is (subst (λ (m : TableNode P). Begins (m.prefix ++ b ∷ []) h.key) x.is h.begins)

-- where the prefix of a node that is seen differs
pub parted_is : {P : Type 0} (s : NodeTable P) (i : ℕ) (m : TableNode P) (key : List ℕ) (at : ℕ) → node_at s i ≡ Some m → IsParted s i key at → IsFirstDifference m.prefix key at
parted_is {P} s i m key at here h =
    let both : Some h.node ≡ Some m = sym h.here ∙ here in
    let is : h.node ≡ m = cc in
    subst (λ (n : TableNode P). IsFirstDifference n.prefix key at) is h.differs
