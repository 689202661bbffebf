-- The search below a node for the pair nearest to a key.
use Rattle.std.proofs.Common.{◌≡◌, ℕ, zero, suc, ◌+◌, ◌-◌, ◌^◌, ◌<◌, ◌≤◌, ◌≢◌, true, false, List, [], ◌∷◌, ◌++◌, length, Option, Some, None, option_map, refl, ap, sym, subst, ◌∙◌, arith, inl, inr, append_assoc}
use Rattle.std.specs.Option.{is_some}
use Rattle.std.proofs.lemmas.List.{append-nil}
use Rattle.std.proofs.lemmas.List.Elements.{filter-append}
use Rattle.std.proofs.lemmas.Bool.{lt-ltb, le-leb, lt-leb, eq-eqb, ne_eqb, cases_order}
use Rattle.spec_map.specs.Map.{Pairs, lookup, between, Rises}
use Rattle.spec_map.specs.Near.{first_of, last_of, below_of, floor_of, ceiling_of}
use Rattle.spec_map.proofs.MapLaws.{lookup-below}
use Rattle.spec_map.proofs.RangeLaws.{between-above, between-split}
use Rattle.spec_map.proofs.NearLaws.{no_first, no_last, greatest_between, stored_between, below_split}
use Rattle.spec_node.specs.Key.{low}
use Rattle.spec_node.specs.TableNode.{TableNode, Child}
use Rattle.node_table.specs.Table.{NodeTable, node_at, pairs_under, pairs_of, pairs_at, IsTree, IsSubtree}
use Rattle.spec_node.specs.declared.child.Child.TheVariants.{Payload, Node}
use Rattle.tree_walk.specs.Scan.{from_key}
use Rattle.tree_walk.specs.inner.Scan.{IsWindow}
use Rattle.tree_walk.specs.declared.window.Window.{Window}
use Rattle.tree_walk.proofs.WindowLaws.{low-leaf}
use Rattle.tree_walk.proofs.ScanLaws.{at_node, pairs_from, skip, clip, child_at, root_tree}
use Rattle.tree_walk.proofs.WalkLaws.{SeekLeft, pairs_next}
use Rattle.tree_path.specs.inner.Root.{depth}
use Rattle.tree_path.proofs.PathEndLaws.{depth_is}

-- what was found, or that nothing was
module _ {A B : Type 0} (f : A → B) where
  pub is_not_none : (o : Option A) → is_some o ≡ true → option_map f o ≢ None
  is_not_none None is = absurd (cc)
  is_not_none (Some x) is = λ none. absurd (cc)

  pub is_none : (o : Option A) → is_some o ≡ false → None ≡ option_map f o
  is_none None is = refl
  is_none (Some x) is = absurd (cc)

module _ {P : Type 0} where
  first-append : (xs ys : Pairs P) → first_of xs ≢ None → first_of (xs ++ ys) ≡ first_of xs
  first-append [] ys some = absurd (some refl)
  first-append (x ∷ xs) ys some = refl

  last-append : (xs ys : Pairs P) → last_of ys ≢ None → last_of (xs ++ ys) ≡ last_of ys
  last-append [] ys some = refl
  last-append (x ∷ []) [] some = absurd (some refl)
  last-append (x ∷ []) (y ∷ ys) some = refl
  last-append (x ∷ z ∷ xs) ys some = last-append (z ∷ xs) ys some

-- a byte and its child
module _ {C : Type 0} where
  pub one_between : (a b : ℕ) (es : List (ℕ × C)) (k : ℕ) (c : C) → Rises a b es → lookup es k ≡ Some c → between es k (k + 1) ≡ (k, c) ∷ []
  one_between a b [] k c h is = absurd (cc)
  one_between a b ((j, v) ∷ xs) k c h is =
      elim (cases_order j k) [
        | inl same ↦
            let both : Some v ≡ Some c = rw (eq-eqb j k same) at is in
            let value : v ≡ c = cc in
            let none = between-above (j + 1) b k (k + 1) xs h.2 (omega arith) in
            rw (le-leb k j (omega arith), lt-ltb j (k + 1) (omega arith), none, same, value) refl
        | inr (inl less) ↦ rw (lt-leb k j less) (one_between (j + 1) b xs k c h.2 (rw (ne_eqb j k (omega arith)) at is))
        | inr (inr more) ↦ absurd (let is' : lookup xs k ≡ Some c = rw (ne_eqb j k (omega arith)) at is in let none = lookup-below (j + 1) b xs k h.2 (omega arith) in cc)
      ]

  module _ (es : List (ℕ × C)) (h : Rises 0 256 es) (to : ℕ) (within : to ≤ 256) (byte : ℕ) (c : C) (is : Some (byte, c) ≡ below_of es to) where
    pub byte_before : byte < to
    byte_before = (greatest_between 0 to 0 256 es (byte, c) h (sym is)).to

    -- it is the first from its own byte on
    pub next_at : between es byte 256 ≡ (byte, c) ∷ between es (byte + 1) 256
    next_at =
        let l = greatest_between 0 to 0 256 es (byte, c) h (sym is) in
        let there = stored_between 0 to es (byte, c) (omega arith) l.to l.stored in
        between-split 0 256 byte (byte + 1) 256 es h (omega arith) (omega (arith, l.to, within)) ∙ ap (λ t. t ++ between es (byte + 1) 256) (one_between 0 256 es byte c h there)

  -- what is under the byte before one is the last below it
  pub below_found : (es : List (ℕ × C)) (to : ℕ) (c : C) → Rises 0 256 es → 0 < to → to ≤ 256 → Some c ≡ lookup es (to - 1) → Some (to - 1, c) ≡ below_of es to
  below_found es to c h some within is =
      let byte = to - 1 in
      let one = one_between 0 256 es byte c h (sym is) in
      let next : byte + 1 ≡ to = omega (arith, some) in
      let here : between es byte to ≡ (byte, c) ∷ [] = subst (λ t. between es byte t ≡ (byte, c) ∷ []) next one in
      let whole = between-split 0 256 0 byte to es h (omega arith) (omega arith) in
      sym (ap last_of (whole ∙ ap (λ t. between es 0 byte ++ t) here) ∙ last-append (between es 0 byte) ((byte, c) ∷ []) (λ none. absurd (cc)))

module _ {P : Type 0} (s : NodeTable P) (start less slot : ℕ) (n : TableNode P) (tree : IsSubtree s (suc less) slot) (here : Some n ≡ node_at s slot) where
  pub seek_start : (w : Window) (end : ℕ) → IsWindow n.prefix start end w → SeekLeft s start less slot n w.from
  seek_start w end is =
      let a = at_node s less slot n tree here in
      record { whole = ap (from_key start) a.pairs ∙ skip s less n.prefix n.children 0 w.from start (2 ^ 64) a.sound.ordered a.children is.before }

  module _ (from : ℕ) (left : SeekLeft s start less slot n from) where
    pub seek_end : between n.children from 256 ≡ [] → None ≡ ceiling_of (pairs_at s (suc less) slot) start
    seek_end none = sym (ap (λ es. first_of es) left.whole ∙ ap (λ es. first_of (from_key start (pairs_of (λ j. pairs_at s less j) n.prefix es))) none)

    module _ (byte : ℕ) (c : Child P) (next : between n.children from 256 ≡ (byte, c) ∷ between n.children (byte + 1) 256) where
      here_and_more : from_key start (pairs_at s (suc less) slot) ≡ from_key start (pairs_under (λ j. pairs_at s less j) n.prefix byte c) ++ from_key start (pairs_from s less n (byte + 1))
      here_and_more = left.whole ∙ ap (from_key start) (pairs_next s less n from byte c next) ∙ filter-append _ (pairs_under (λ j. pairs_at s less j) n.prefix byte c) (pairs_from s less n (byte + 1))

      pub seek_found : (o : Option (ℕ × P)) → o ≡ ceiling_of (pairs_under (λ j. pairs_at s less j) n.prefix byte c) start → o ≢ None → o ≡ ceiling_of (pairs_at s (suc less) slot) start
      seek_found o is some = is ∙ sym (ap (λ es. first_of es) here_and_more ∙ first-append _ _ (λ none. some (is ∙ none)))

      pub seek_on : None ≡ ceiling_of (pairs_under (λ j. pairs_at s less j) n.prefix byte c) start → SeekLeft s start less slot n (byte + 1)
      seek_on is = record { whole = here_and_more ∙ ap (λ t. t ++ from_key start (pairs_from s less n (byte + 1))) (no_first _ (sym is)) }

    pub seek_payload : (byte : ℕ) (v : P) → between n.children from 256 ≡ (byte, Payload v) ∷ between n.children (byte + 1) 256 → (w : Window) (end : ℕ) → IsWindow n.prefix start end w → w.from ≤ byte → low n.prefix + byte < 2 ^ 64
        → Some (w.first + byte, v) ≡ ceiling_of (pairs_under (λ j. pairs_at s less j) n.prefix byte (Payload v)) start
    seek_payload byte v next w end is not_before fits =
        let seven : length n.prefix ≡ 7 = child_at s less slot n from byte (Payload v) _ tree here next in
        let key = low-leaf n.prefix byte seven in
        let k = low (n.prefix ++ byte ∷ []) in
        rw (le-leb start k (is.not_before seven byte not_before), lt-ltb k (2 ^ 64) (omega arith)) (ap (λ x. Some (x, v)) (ap (λ x. x + byte) is.first ∙ sym key))

    pub seek_node : (byte j : ℕ) → between n.children from 256 ≡ (byte, Node j) ∷ between n.children (byte + 1) 256 → (o : Option (ℕ × P))
        → ((l : ℕ) → IsSubtree s (suc l) j → o ≡ ceiling_of (pairs_at s (suc l) j) start) → o ≡ ceiling_of (pairs_under (λ j. pairs_at s less j) n.prefix byte (Node j)) start
    seek_node byte j next o found = go less (child_at s less slot n from byte (Node j) _ tree here next)
      where
        go : (l : ℕ) → IsTree s l (n.prefix ++ byte ∷ []) j → o ≡ ceiling_of (pairs_at s l j) start
        go zero h = absurd h
        go (suc l) h = found l (record { above = n.prefix ++ byte ∷ []; tree = h })

pub pairs_of-append : {P : Type 0} (below : ℕ → Pairs P) (p : List ℕ) (xs ys : List (ℕ × Child P)) → pairs_of below p (xs ++ ys) ≡ pairs_of below p xs ++ pairs_of below p ys
pairs_of-append below p [] ys = refl
pairs_of-append below p (x ∷ xs) ys = ap (λ t. pairs_under below p x.0 x.1 ++ t) (pairs_of-append below p xs ys) ∙ sym (append_assoc (pairs_under below p x.0 x.1) (pairs_of below p xs) (pairs_of below p ys))

module _ {P : Type 0} (s : NodeTable P) (last less slot : ℕ) (n : TableNode P) where
  -- the pairs below a node under the bytes below one
  abbrev pub pairs_before : ℕ → Pairs P
  pairs_before to = pairs_of (λ j. pairs_at s less j) n.prefix (between n.children 0 to)

  -- no pair up to the key is under the bytes from this one on
  pub record SeekRight (to : ℕ) : Type 0 where
    pub whole : between (pairs_at s (suc less) slot) 0 (last + 1) ≡ between (pairs_before to) 0 (last + 1)

module _ {P : Type 0} (s : NodeTable P) (last less slot : ℕ) (n : TableNode P) (tree : IsSubtree s (suc less) slot) (here : Some n ≡ node_at s slot) where
  pub down_start : (w : Window) → IsWindow n.prefix 0 (last + 1) w → SeekRight s last less slot n w.to
  down_start w is =
      let a = at_node s less slot n tree here in
      record { whole = ap (λ es. between es 0 (last + 1)) a.pairs ∙ clip s less n.prefix n.children 0 0 w.to 0 (last + 1) a.sound.ordered a.children (λ b none. absurd (omega (arith, none))) is.past }

  module _ (to : ℕ) (right : SeekRight s last less slot n to) where
    pub down_end : None ≡ below_of n.children to → None ≡ floor_of (pairs_at s (suc less) slot) last
    down_end none = sym (ap (λ es. last_of es) right.whole ∙ ap (λ es. last_of (between (pairs_of (λ j. pairs_at s less j) n.prefix es) 0 (last + 1))) (no_last (between n.children 0 to) (sym none)))

    module _ (byte : ℕ) (c : Child P) (is : Some (byte, c) ≡ below_of n.children to) where
      rest_and_here : between (pairs_at s (suc less) slot) 0 (last + 1) ≡ between (pairs_before s last less slot n byte) 0 (last + 1) ++ between (pairs_under (λ j. pairs_at s less j) n.prefix byte c) 0 (last + 1)
      rest_and_here =
          let a = at_node s less slot n tree here in
          let pairs = λ (es : List (ℕ × Child P)). pairs_of (λ j. pairs_at s less j) n.prefix es in
          let under = pairs_under (λ j. pairs_at s less j) n.prefix byte c in
          right.whole
          ∙ ap (λ es. between (pairs es) 0 (last + 1)) (below_split 0 256 n.children to (byte, c) a.sound.ordered (sym is))
          ∙ ap (λ es. between es 0 (last + 1)) (pairs_of-append (λ j. pairs_at s less j) n.prefix (between n.children 0 byte) ((byte, c) ∷ []) ∙ ap (λ t. pairs (between n.children 0 byte) ++ t) (append-nil under))
          ∙ filter-append _ (pairs (between n.children 0 byte)) under

      pub down_found : (o : Option (ℕ × P)) → o ≡ floor_of (pairs_under (λ j. pairs_at s less j) n.prefix byte c) last → o ≢ None → o ≡ floor_of (pairs_at s (suc less) slot) last
      down_found o found some = found ∙ sym (ap (λ es. last_of es) rest_and_here ∙ last-append (between (pairs_before s last less slot n byte) 0 (last + 1)) (between (pairs_under (λ j. pairs_at s less j) n.prefix byte c) 0 (last + 1)) (λ none. some (found ∙ none)))

      pub down_on : None ≡ floor_of (pairs_under (λ j. pairs_at s less j) n.prefix byte c) last → SeekRight s last less slot n byte
      down_on none = record { whole = rest_and_here ∙ ap (λ t. between (pairs_before s last less slot n byte) 0 (last + 1) ++ t) (no_last _ (sym none)) ∙ append-nil (between (pairs_before s last less slot n byte) 0 (last + 1)) }

    pub down_payload : (byte : ℕ) (v : P) → length n.prefix ≡ 7 → (w : Window) → IsWindow n.prefix 0 (last + 1) w → byte < w.to
        → Some (w.first + byte, v) ≡ floor_of (pairs_under (λ j. pairs_at s less j) n.prefix byte (Payload v)) last
    down_payload byte v seven w is inside =
        let key = low-leaf n.prefix byte seven in
        let k = low (n.prefix ++ byte ∷ []) in
        rw (le-leb 0 k (omega arith), lt-ltb k (last + 1) (is.not_past seven byte inside)) (ap (λ x. Some (x, v)) (ap (λ x. x + byte) is.first ∙ sym key))

    pub down_node : (from byte j : ℕ) → between n.children from 256 ≡ (byte, Node j) ∷ between n.children (byte + 1) 256 → (o : Option (ℕ × P))
        → ((l : ℕ) → IsSubtree s (suc l) j → o ≡ floor_of (pairs_at s (suc l) j) last) → o ≡ floor_of (pairs_under (λ j. pairs_at s less j) n.prefix byte (Node j)) last
    down_node from byte j next o found = go less (child_at s less slot n from byte (Node j) _ tree here next)
      where
        go : (l : ℕ) → IsTree s l (n.prefix ++ byte ∷ []) j → o ≡ floor_of (pairs_at s l j) last
        go zero h = absurd h
        go (suc l) h = found l (record { above = n.prefix ++ byte ∷ []; tree = h })

-- in the whole tree
module _ {P : Type 0} (s : NodeTable P) (root : ℕ) (tree : IsTree s depth [] root) (m : Pairs P) (is : pairs_at s depth root ≡ m) where
  pub at_root : {A : Type 0} (o : A) (f : Pairs P → A) → ((levels : ℕ) → IsSubtree s (suc levels) root → o ≡ f (pairs_at s (suc levels) root)) → o ≡ f m
  at_root o f found = found 7 (root_tree s root tree) ∙ ap f (subst (λ d. pairs_at s d root ≡ m) depth_is is)
