-- Walks over all pairs below a node.
use Rattle.std.proofs.Common.{◌≡◌, ℕ, zero, suc, ◌+◌, ◌^◌, ◌<◌, ◌≤◌, List, [], ◌∷◌, ◌++◌, length, map, Some, None, refl, ap, sym, subst, ◌∙◌, arith, append_assoc, length-append}
use Rattle.std.proofs.lemmas.List.{map-append, length-map}
use Rattle.spec_map.specs.Map.{Pairs, lookup, without, between, Rises}
use Rattle.spec_node.specs.Key.{low}
use Rattle.spec_node.specs.TableNode.{TableNode, Child}
use Rattle.node_table.specs.Table.{NodeTable, node_at, pairs_under, pairs_of, pairs_at, IsTree, IsSubtree}
use Rattle.spec_node.specs.declared.child.Child.TheVariants.{Payload, Node}
use Rattle.spec_map.proofs.RangeLaws.{between-all}
use Rattle.node_table.proofs.KeyLaws.{least-bound, room-positive, AreBytes-append}
use Rattle.tree_walk.specs.Scan.{from_key, first_number}
use Rattle.tree_walk.specs.inner.Scan.{HasSubtree, KeysFit}
use Rattle.tree_walk.proofs.WindowLaws.{low-leaf}
use Rattle.tree_walk.proofs.ScanLaws.{at_node, pairs_from, in_leaf, child_at, next_inside, root_tree}
use Rattle.tree_path.specs.inner.Root.{depth}
use Rattle.tree_path.proofs.PathEndLaws.{depth_is}

module _ {P : Type 0} (s : NodeTable P) where
  -- a child's pairs, and those after it
  pub pairs_next : (less : ℕ) (n : TableNode P) (from byte : ℕ) (c : Child P) → between n.children from 256 ≡ (byte, c) ∷ between n.children (byte + 1) 256
      → pairs_from s less n from ≡ pairs_under (λ j. pairs_at s less j) n.prefix byte c ++ pairs_from s less n (byte + 1)
  pairs_next less n from byte c next = ap (λ es. pairs_of (λ j. pairs_at s less j) n.prefix es) next

  pub pairs_first : (less slot : ℕ) (n : TableNode P) → IsSubtree s (suc less) slot → Some n ≡ node_at s slot → pairs_at s (suc less) slot ≡ pairs_from s less n 0
  pairs_first less slot n tree here =
      let a = at_node s less slot n tree here in
      a.pairs ∙ ap (λ es. pairs_of (λ j. pairs_at s less j) n.prefix es) (sym (between-all 0 256 0 256 n.children a.sound.ordered (omega arith) (omega arith)))

  -- a leaf's key
  pub key_fits : (slot : ℕ) (n : TableNode P) (from byte : ℕ) (v : P) (rest : List (ℕ × Child P)) → HasSubtree s slot → Some n ≡ node_at s slot → between n.children from 256 ≡ (byte, Payload v) ∷ rest → low n.prefix + byte < 2 ^ 64
  key_fits slot n from byte v rest h here next =
      let seven = in_leaf s slot n from byte v rest h here next in
      let a = next_inside s slot n from byte (Payload v) rest h here next in
      let bound = least-bound 8 (n.prefix ++ byte ∷ []) (AreBytes-append n.prefix (byte ∷ []) a.bytes (a.inside, tt)) (simp length-append (omega arith)) in
      let some = room-positive 8 (n.prefix ++ byte ∷ []) in
      let key = low-leaf n.prefix byte seven in
      omega arith

module _ {P K : Type 0} (key : ℕ → K) (s : NodeTable P) where
  abbrev pub keys_of : Pairs P → List K
  keys_of es = map (λ pair. key pair.0) es

  keys-append : (xs ys : Pairs P) → keys_of (xs ++ ys) ≡ keys_of xs ++ keys_of ys
  keys-append xs ys = map-append (λ pair. key pair.0) xs ys

  -- what must still be added to a list of keys: those under the bytes from one on
  pub record KeysLeft (less slot : ℕ) (n : TableNode P) (from : ℕ) (old new : List K) : Type 0 where
    pub whole : new ++ keys_of (pairs_from s less n from) ≡ old ++ keys_of (pairs_at s (suc less) slot)

  module _ (less slot : ℕ) (n : TableNode P) (tree : IsSubtree s (suc less) slot) (here : Some n ≡ node_at s slot) where
    pub keys_start : (old : List K) → KeysLeft less slot n 0 old old
    keys_start old = record { whole = ap (λ es. old ++ keys_of es) (sym (pairs_first s less slot n tree here)) }

    module _ (from : ℕ) (old new : List K) (left : KeysLeft less slot n from old new) where
      module _ (byte : ℕ) (c : Child P) (next : between n.children from 256 ≡ (byte, c) ∷ between n.children (byte + 1) 256) where
        here_and_rest : keys_of (pairs_from s less n from) ≡ keys_of (pairs_under (λ j. pairs_at s less j) n.prefix byte c) ++ keys_of (pairs_from s less n (byte + 1))
        here_and_rest = ap keys_of (pairs_next s less n from byte c next) ∙ keys-append (pairs_under (λ j. pairs_at s less j) n.prefix byte c) (pairs_from s less n (byte + 1))

        keys_on : (more : List K) → keys_of (pairs_under (λ j. pairs_at s less j) n.prefix byte c) ≡ more → KeysLeft less slot n (byte + 1) old (new ++ more)
        keys_on more is =
            record {
              whole =
                  append_assoc new more (keys_of (pairs_from s less n (byte + 1)))
                  ∙ ap (λ t. new ++ t) (ap (λ t. t ++ keys_of (pairs_from s less n (byte + 1))) (sym is) ∙ sym here_and_rest)
                  ∙ left.whole;
            }

        keys_room : (taken capacity : ℕ) → taken + length (pairs_at s (suc less) slot) ≤ capacity → taken ≡ length old → length new + length (pairs_under (λ j. pairs_at s less j) n.prefix byte c) ≤ capacity
        keys_room taken capacity fits is =
            let a = simp length-append at (ap length left.whole) in
            let b = length-map (pairs_at s (suc less) slot) (λ pair. key pair.0) in
            let d = simp length-append at (ap length here_and_rest) in
            let e = length-map (pairs_under (λ j. pairs_at s less j) n.prefix byte c) (λ pair. key pair.0) in
            omega (arith, a, b, d, e)

      pub keys_payload : (byte : ℕ) (v : P) (first : ℕ) → between n.children from 256 ≡ (byte, Payload v) ∷ between n.children (byte + 1) 256 → first ≡ low n.prefix → KeysLeft less slot n (byte + 1) old (new ++ key (first + byte) ∷ [])
      keys_payload byte v first next is =
          let seven : length n.prefix ≡ 7 = child_at s less slot n from byte (Payload v) _ tree here next in
          keys_on byte (Payload v) next (key (first + byte) ∷ []) (ap (λ k. key k ∷ []) (low-leaf n.prefix byte seven ∙ ap (λ x. x + byte) (sym is)))

      pub keys_node : (byte j : ℕ) → between n.children from 256 ≡ (byte, Node j) ∷ between n.children (byte + 1) 256 → (after : List K)
          → ((l : ℕ) → IsSubtree s (suc l) j → after ≡ new ++ keys_of (pairs_at s (suc l) j)) → KeysLeft less slot n (byte + 1) old after
      keys_node byte j next after adds =
          let child : IsTree s less (n.prefix ++ byte ∷ []) j = child_at s less slot n from byte (Node j) _ tree here next in
          subst (λ t. KeysLeft less slot n (byte + 1) old t) (sym (go less child)) (keys_on byte (Node j) next _ refl)
        where
          go : (l : ℕ) → IsTree s l (n.prefix ++ byte ∷ []) j → after ≡ new ++ keys_of (pairs_at s l j)
          go zero h = absurd h
          go (suc l) h = adds l (record { above = n.prefix ++ byte ∷ []; tree = h })

      pub keys_room_payload : (byte : ℕ) (v : P) → between n.children from 256 ≡ (byte, Payload v) ∷ between n.children (byte + 1) 256 → (taken capacity : ℕ)
          → taken + length (pairs_at s (suc less) slot) ≤ capacity → taken ≡ length old → length new < capacity
      keys_room_payload byte v next taken capacity fits is = let r = keys_room byte (Payload v) next taken capacity fits is in omega arith

      pub keys_room_node : (byte j : ℕ) → between n.children from 256 ≡ (byte, Node j) ∷ between n.children (byte + 1) 256 → (taken capacity : ℕ)
          → taken + length (pairs_at s (suc less) slot) ≤ capacity → taken ≡ length old → KeysFit s j (length new) capacity
      keys_room_node byte j next taken capacity fits is =
          let child : IsTree s less (n.prefix ++ byte ∷ []) j = child_at s less slot n from byte (Node j) _ tree here next in
          go less child (keys_room byte (Node j) next taken capacity fits is)
        where
          go : (l : ℕ) → IsTree s l (n.prefix ++ byte ∷ []) j → length new + length (pairs_at s l j) ≤ capacity → KeysFit s j (length new) capacity
          go zero h r = absurd h
          go (suc l) h r = record { levels = l; tree = record { above = n.prefix ++ byte ∷ []; tree = h }; fits = r }

module _ {P : Type 0} where
  first-none : (xs : Pairs P) → first_number xs ≡ None → xs ≡ []
  first-none [] is = refl
  first-none (x ∷ xs) is = absurd (cc)

module _ {P : Type 0} (s : NodeTable P) (start less slot : ℕ) (n : TableNode P) where
  -- no pair from the key on is under the bytes before this one
  pub record SeekLeft (from : ℕ) : Type 0 where
    pub whole : from_key start (pairs_at s (suc less) slot) ≡ from_key start (pairs_from s less n from)

module _ {P : Type 0} (s : NodeTable P) where
  pub stands_with_room : (slot taken capacity : ℕ) → KeysFit s slot taken capacity → HasSubtree s slot
  stands_with_room slot taken capacity h = record { levels = suc h.levels; tree = h.tree }

module _ {P : Type 0} (s : NodeTable P) (root : ℕ) (tree : IsTree s depth [] root) where
  pub root_room : (count capacity : ℕ) → count ≡ length (pairs_at s depth root) → count ≤ capacity → KeysFit s root 0 capacity
  root_room count capacity is fits =
      let all : count ≡ length (pairs_at s 8 root) = subst (λ d. count ≡ length (pairs_at s d root)) depth_is is in
      record { levels = 7; tree = root_tree s root tree; fits = omega arith }

  pub root_keys : {K : Type 0} (key : ℕ → K) (m : Pairs P) (old items : List K) → pairs_at s depth root ≡ m → old ≡ []
      → ((levels : ℕ) → IsSubtree s (suc levels) root → items ≡ old ++ map (λ pair. key pair.0) (pairs_at s (suc levels) root)) → items ≡ map key (map (λ pair. pair.0) m)
  root_keys {K} key m old items is none adds =
      adds 7 (root_tree s root tree)
      ∙ ap (λ (t : List K). t ++ map (λ pair. key pair.0) (pairs_at s 8 root)) none
      ∙ ap (λ (es : Pairs P). map (λ pair. key pair.0) es) (subst (λ d. pairs_at s d root ≡ m) depth_is is)
      ∙ two key m
    where
      two : (key : ℕ → K) (es : Pairs P) → map (λ pair. key pair.0) es ≡ map key (map (λ pair. pair.0) es)
      two key [] = refl
      two key (e ∷ es) = ap (λ t. key e.0 ∷ t) (two key es)

-- the first of the pairs that are left, none of which is below a key
module _ {P : Type 0} where
  pub none_left : (from : ℕ) (m : Pairs P) → Rises from (2 ^ 64) m → None ≡ first_number (from_key from m) → m ≡ []
  none_left from m h is = sym (between-all from (2 ^ 64) from (2 ^ 64) m h (omega arith) (omega arith)) ∙ first-none (from_key from m) (sym is)

  pub record FirstLeft (m : Pairs P) (k : ℕ) : Type 0 where
    pub value : P
    pub rest : Pairs P
    pub is : m ≡ (k, value) ∷ rest
    pub found : lookup m k ≡ Some value
    pub others : without m k ≡ rest
    pub above : Rises (k + 1) (2 ^ 64) rest

  pub left_after : (m : Pairs P) (k : ℕ) (f : FirstLeft m k) (v : P) (n : Pairs P) → Some v ≡ lookup m k → n ≡ without m k → m ≡ (k, v) ∷ n
  left_after m k f v n here others =
      let both : Some v ≡ Some f.value = here ∙ f.found in
      let same : v ≡ f.value = cc in
      f.is ∙ ap (λ w. (k, w) ∷ f.rest) (sym same) ∙ ap (λ t. (k, v) ∷ t) (sym f.others ∙ sym others)
