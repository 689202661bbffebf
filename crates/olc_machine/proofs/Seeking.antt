-- The first pair from a key on, by a search child by child.
use Rattle.std.proofs.Common.{◌≡◌, ◌≢◌, ℕ, zero, suc, ◌+◌, ◌-◌, ◌*◌, ◌/◌, ◌^◌, ◌<◌, ◌≤◌, true, false, List, [], ◌∷◌, ◌++◌, length, map, Option, Some, None, refl, ap, sym, subst, ◌∙◌, arith, slice_index_or, replicate, w64}
use Rattle.std.specs.Borrow.{Bor}
use Rattle.std.specs.Int.{from_be_bytes}
use Rattle.std.specs.Option.{is_some}
use Rattle.std.proofs.lemmas.List.{append-nil}
use Rattle.std.proofs.lemmas.List.Elements.{filter-append}
use Rattle.std.proofs.lemmas.Bool.{lt-ltb, le-leb}
use Rattle.spec_map.specs.Map.{Pairs, between}
use Rattle.spec_node.specs.Key.{low}
use Rattle.spec_node.specs.TableNode.{TableNode, Child, looked_at}
use Rattle.node_table.specs.Table.{NodeTable, node_at, pairs_under, pairs_of, pairs_at, IsTree, IsSubtree}
use Rattle.spec_node.specs.declared.child.Child.TheVariants.{Payload, Node}
use Rattle.spec_node.specs.declared.child.ChildRef.{ChildRef}
use Rattle.spec_node.specs.declared.child.ChildRef.TheVariants as borrowed
use Rattle.spec_olc.specs.Meaning.{child_of}
use Rattle.olc_state.specs.declared.stage.Stored.{Stored}
use Rattle.olc_state.specs.inner.Meant.{meant_node}
use Rattle.olc_state.specs.inner.Walks.{meant_nodes}
use Rattle.olc_state.proofs.WalkLaws.{stored_there, child_next, child_none}
use Rattle.tree_walk.specs.Scan.{from_key, first_pair}
use Rattle.tree_walk.specs.inner.Scan.{HasSubtree, EachSubtree}
use Rattle.tree_walk.proofs.ScanLaws.{GoesDown, at_node, child_at, first_number_is, goes_down, pairs_from, skip}
use Rattle.tree_walk.proofs.WalkLaws.{KeysLeft, SeekLeft, key_fits, keys_node, keys_payload, keys_start, pairs_next}
use Rattle.tree_walk.proofs.WindowLaws.{low-leaf, window_none}
use Rattle.olc_machine.specs.First.{meant_pair}
use Rattle.olc_machine.specs.inner.FirstByte.{IsFirstByte}

pub first_byte_is : (p : List ℕ) (start from : ℕ) → length p ≤ 7 → from ≡ (start - low p) / 2 ^ (8 * (7 - length p)) → IsFirstByte p start from
first_byte_is p start from short is =
    let w = window_none p start 0 short (record { first = low p; from = from; to = 0 }) refl is (omega arith) refl in
    record { before = w.before; not_before = w.not_before }

module _ {V : Type 0} where
  first-append : (xs ys : Pairs V) → first_pair xs ≢ None → first_pair (xs ++ ys) ≡ first_pair xs
  first-append [] ys some = absurd (some refl)
  first-append (x ∷ xs) ys some = refl

  first-none : (xs : Pairs V) → first_pair xs ≡ None → xs ≡ []
  first-none [] is = refl
  first-none (x ∷ xs) is = absurd (cc)

module _ {P M : Type 0} (meaning : P → M) where
  pub found_some : (o : Option (ℕ × Bor P)) → is_some o ≡ true → meant_pair meaning o ≢ None
  found_some None is = absurd (cc)
  found_some (Some found) is = λ none. absurd (cc)

  pub found_none : (o : Option (ℕ × Bor P)) → is_some o ≡ false → None ≡ meant_pair meaning o
  found_none None is = refl
  found_none (Some found) is = absurd (cc)

-- the least key of a node, as `first_key` returns it
pub first_is : {P : Type 0} (s : NodeTable P) (slot : ℕ) (n : TableNode P) → HasSubtree s slot → Some n ≡ node_at s slot → (p : List ℕ) → p ≡ n.prefix
    → from_be_bytes w64 (p ++ replicate (8 - length p) 0) ≡ low n.prefix
first_is s slot n h here p is = go h.levels h.tree
  where
    go : (levels : ℕ) → IsSubtree s levels slot → from_be_bytes w64 (p ++ replicate (8 - length p) 0) ≡ low n.prefix
    go zero t = absurd t.tree
    go (suc less) t = first_number_is s less slot n t here p is

module _ {P : Type 0} (s : NodeTable P) (start less slot : ℕ) (n : TableNode P) (tree : IsSubtree s (suc less) slot) (here : Some n ≡ node_at s slot) where
  pub seek_first : (from : ℕ) → IsFirstByte n.prefix start from → SeekLeft s start less slot n from
  seek_first from is =
      let a = at_node s less slot n tree here in
      record { whole = ap (from_key start) a.pairs ∙ skip s less n.prefix n.children 0 from start (2 ^ 64) a.sound.ordered a.children is.before }

  module _ (from : ℕ) (left : SeekLeft s start less slot n from) where
    pub first_end : between n.children from 256 ≡ [] → None ≡ first_pair (from_key start (pairs_at s (suc less) slot))
    first_end none = sym (ap first_pair left.whole ∙ ap (λ es. first_pair (from_key start (pairs_of (λ j. pairs_at s less j) n.prefix es))) none)

    module _ (byte : ℕ) (c : Child P) (next : between n.children from 256 ≡ (byte, c) ∷ between n.children (byte + 1) 256) where
      here_and_more : from_key start (pairs_at s (suc less) slot) ≡ from_key start (pairs_under (λ j. pairs_at s less j) n.prefix byte c) ++ from_key start (pairs_from s less n (byte + 1))
      here_and_more = left.whole ∙ ap (from_key start) (pairs_next s less n from byte c next) ∙ filter-append _ (pairs_under (λ j. pairs_at s less j) n.prefix byte c) (pairs_from s less n (byte + 1))

      pub first_found : (o : Option (ℕ × P)) → o ≡ first_pair (from_key start (pairs_under (λ j. pairs_at s less j) n.prefix byte c)) → o ≢ None → o ≡ first_pair (from_key start (pairs_at s (suc less) slot))
      first_found o is some = is ∙ sym (ap first_pair here_and_more ∙ first-append _ _ (λ none. some (is ∙ none)))

      pub first_on : None ≡ first_pair (from_key start (pairs_under (λ j. pairs_at s less j) n.prefix byte c)) → SeekLeft s start less slot n (byte + 1)
      first_on is = record { whole = here_and_more ∙ ap (λ t. t ++ from_key start (pairs_from s less n (byte + 1))) (first-none _ (sym is)) }

  module _ (from byte : ℕ) where
    pub first_payload : (v : P) (first begin : ℕ) → between n.children from 256 ≡ (byte, Payload v) ∷ between n.children (byte + 1) 256 → IsFirstByte n.prefix start begin → begin ≤ byte → first ≡ low n.prefix
        → low n.prefix + byte < 2 ^ 64 → Some (first + byte, v) ≡ first_pair (from_key start (pairs_under (λ j. pairs_at s less j) n.prefix byte (Payload v)))
    first_payload v first begin next is not_before least fits =
        let seven : length n.prefix ≡ 7 = child_at s less slot n from byte (Payload v) _ tree here next in
        let key = low-leaf n.prefix byte seven in
        let k = low (n.prefix ++ byte ∷ []) in
        rw (le-leb start k (is.not_before seven byte not_before), lt-ltb k (2 ^ 64) (omega arith)) (ap (λ x. Some (x, v)) (ap (λ x. x + byte) least ∙ sym key))

    pub first_node : (j : ℕ) → between n.children from 256 ≡ (byte, Node j) ∷ between n.children (byte + 1) 256 → (o : Option (ℕ × P))
        → ((l : ℕ) → IsSubtree s (suc l) j → o ≡ first_pair (from_key start (pairs_at s (suc l) j))) → o ≡ first_pair (from_key start (pairs_under (λ j. pairs_at s less j) n.prefix byte (Node j)))
    first_node j next o found = go less (child_at s less slot n from byte (Node j) _ tree here next)
      where
        go : (l : ℕ) → IsTree s l (n.prefix ++ byte ∷ []) j → o ≡ first_pair (from_key start (pairs_at s l j))
        go zero h = absurd h
        go (suc l) h = found l (record { above = n.prefix ++ byte ∷ []; tree = h })

-- the same over stored nodes, with payloads replaced by their meanings
module _ {P M : Type 0} (meaning : P → M) (slots : List (Option (Stored P))) (slot : ℕ) (n : Stored P) (at_key : HasSubtree (meant_nodes meaning slots) slot) (at : Some n ≡ slice_index_or slots slot None) where
  abbrev nodes : NodeTable M
  nodes = meant_nodes meaning slots

  node_there : Some (meant_node meaning n.node) ≡ node_at nodes slot
  node_there = stored_there meaning slots slot n at

  pub least_is : (first : ℕ) (p : List ℕ) → first ≡ from_be_bytes w64 (p ++ replicate (8 - length p) 0) → p ≡ n.node.prefix → first ≡ low n.node.prefix
  least_is first p is same = is ∙ first_is nodes slot (meant_node meaning n.node) at_key node_there p same

  module _ (from byte : ℕ) (child : ChildRef P ℕ) (next : between n.node.children from 256 ≡ (byte, looked_at child) ∷ between n.node.children (byte + 1) 256) where
    next_is : (c : Child P) → looked_at child ≡ c → between (meant_node meaning n.node).children from 256 ≡ (byte, child_of meaning c) ∷ between (meant_node meaning n.node).children (byte + 1) 256
    next_is c is = child_next meaning slots n.node from byte c (subst (λ (x : Child P). between n.node.children from 256 ≡ (byte, x) ∷ between n.node.children (byte + 1) 256) is next)

    -- the key of a payload fits into 64 bits, and a node below is the top of a smaller tree
    pub key_small : (payload : Bor P) → child ≡ borrowed.Payload payload → low n.node.prefix + byte < 2 ^ 64
    key_small payload is = key_fits nodes slot (meant_node meaning n.node) from byte (meaning payload.now) _ at_key node_there (next_is (Payload payload.now) (ap looked_at is))

    pub below_is : (j : ℕ) → child ≡ borrowed.Node j → GoesDown nodes slot j
    below_is j is = goes_down nodes slot (meant_node meaning n.node) from byte j _ at_key node_there (next_is (Node j) (ap looked_at is))

    module _ (start less : ℕ) (tree : IsSubtree nodes (suc less) slot) (found : Option (ℕ × Bor P)) where
      -- what was found is the first pair from the start on under the child's byte
      abbrev pub IsFirstUnder : Type 0
      IsFirstUnder = meant_pair meaning found ≡ first_pair (from_key start (pairs_under (λ j. pairs_at nodes less j) n.node.prefix byte (child_of meaning (looked_at child))))

      pub under_payload : (payload : Bor P) (first begin : ℕ) → child ≡ borrowed.Payload payload → found ≡ Some (first + byte, payload) → first ≡ low n.node.prefix → IsFirstByte n.node.prefix start begin → begin ≤ byte → IsFirstUnder
      under_payload payload first begin is found_is least least_byte not_before =
          let c : Child P = Payload payload.now in
          ap (meant_pair meaning) found_is
          ∙ first_payload nodes start less slot (meant_node meaning n.node) tree node_there from byte (meaning payload.now) first begin (next_is c (ap looked_at is)) least_byte not_before least (key_small payload is)
          ∙ ap (λ x. first_pair (from_key start (pairs_under (λ j. pairs_at nodes less j) n.node.prefix byte (child_of meaning (looked_at x))))) (sym is)

      pub under_node : (j : ℕ) (result : Option (ℕ × Bor P)) → child ≡ borrowed.Node j → found ≡ result → EachSubtree nodes j (λ pairs. meant_pair meaning result ≡ first_pair (from_key start pairs)) → IsFirstUnder
      under_node j result is found_is first =
          ap (meant_pair meaning) found_is
          ∙ first_node nodes start less slot (meant_node meaning n.node) tree node_there from byte j (next_is (Node j) (ap looked_at is)) (meant_pair meaning result) first
          ∙ ap (λ x. first_pair (from_key start (pairs_under (λ j. pairs_at nodes less j) n.node.prefix byte (child_of meaning (looked_at x))))) (sym is)

      -- so it is the first of all, if there is one; else the search goes on with the next child
      module _ (left : SeekLeft nodes start less slot (meant_node meaning n.node) from) (under : IsFirstUnder) where
        pub found_is_first : is_some found ≡ true → meant_pair meaning found ≡ first_pair (from_key start (pairs_at nodes (suc less) slot))
        found_is_first some =
            first_found nodes start less slot (meant_node meaning n.node) tree node_there from left byte (child_of meaning (looked_at child)) (next_is (looked_at child) refl) (meant_pair meaning found) under (found_some meaning found some)

        pub none_goes_on : is_some found ≡ false → SeekLeft nodes start less slot (meant_node meaning n.node) (byte + 1)
        none_goes_on none =
            first_on nodes start less slot (meant_node meaning n.node) tree node_there from left byte (child_of meaning (looked_at child)) (next_is (looked_at child) refl) (found_none meaning found none ∙ under)

  module _ (start less : ℕ) (tree : IsSubtree nodes (suc less) slot) where
    pub starts_at : (from : ℕ) → IsFirstByte n.node.prefix start from → SeekLeft nodes start less slot (meant_node meaning n.node) from
    starts_at from is = seek_first nodes start less slot (meant_node meaning n.node) tree node_there from is

    pub ends_with_none : (from : ℕ) → SeekLeft nodes start less slot (meant_node meaning n.node) from → between n.node.children from 256 ≡ [] → None ≡ first_pair (from_key start (pairs_at nodes (suc less) slot))
    ends_with_none from left none = first_end nodes start less slot (meant_node meaning n.node) tree node_there from left (child_none meaning slots n.node from none)

  -- THE KEYS of the subtree, added to the end of a list
  module _ {K : Type 0} (key : ℕ → K) (less : ℕ) (tree : IsSubtree nodes (suc less) slot) where
    pub keys_begin : (old : List K) → KeysLeft key nodes less slot (meant_node meaning n.node) 0 old old
    keys_begin old = keys_start key nodes less slot (meant_node meaning n.node) tree node_there old

    module _ (from byte : ℕ) (child : ChildRef P ℕ) (next : between n.node.children from 256 ≡ (byte, looked_at child) ∷ between n.node.children (byte + 1) 256) (old mid new : List K) (left : KeysLeft key nodes less slot (meant_node meaning n.node) from old mid) where
      pub key_added : (payload : Bor P) (first : ℕ) → child ≡ borrowed.Payload payload → first ≡ low n.node.prefix → new ≡ mid ++ key (first + byte) ∷ [] → KeysLeft key nodes less slot (meant_node meaning n.node) (byte + 1) old new
      key_added payload first is least new_is =
          subst (λ (x : List K). KeysLeft key nodes less slot (meant_node meaning n.node) (byte + 1) old x) (sym new_is)
          (keys_payload key nodes less slot (meant_node meaning n.node) tree node_there from old mid left byte (meaning payload.now) first (next_is from byte child next (Payload payload.now) (ap looked_at is)) least)

      pub keys_added : (j : ℕ) → child ≡ borrowed.Node j → EachSubtree nodes j (λ pairs. new ≡ mid ++ map (λ pair. key pair.0) pairs) → KeysLeft key nodes less slot (meant_node meaning n.node) (byte + 1) old new
      keys_added j is adds = keys_node key nodes less slot (meant_node meaning n.node) tree node_there from old mid left byte j (next_is from byte child next (Node j) (ap looked_at is)) new adds

    pub keys_end : (from : ℕ) (old new : List K) → KeysLeft key nodes less slot (meant_node meaning n.node) from old new → between n.node.children from 256 ≡ [] → new ≡ old ++ map (λ pair. key pair.0) (pairs_at nodes (suc less) slot)
    keys_end from old new left none =
        let end : between (meant_node meaning n.node).children from 256 ≡ [] = child_none meaning slots n.node from none in
        sym (append-nil new) ∙ ap (λ es. new ++ map (λ pair. key pair.0) (pairs_of (λ j. pairs_at nodes less j) n.node.prefix es)) (sym end) ∙ left.whole
