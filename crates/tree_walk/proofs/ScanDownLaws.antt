-- A scan of the pairs of a range below a node, keys descending.
use Rattle.std.proofs.Common.{◌≡◌, ℕ, zero, suc, ◌+◌, ◌<◌, ◌≤◌, List, [], ◌∷◌, ◌++◌, length, map, min, take, drop, reverse, Some, None, refl, ap, sym, subst, ◌∙◌, arith}
use Rattle.std.proofs.lemmas.List.{append-nil, map-append, length-map, reverse-append, length-reverse}
use Rattle.std.proofs.lemmas.List.Elements.{filter-append}
use Rattle.spec_map.specs.Map.{Pairs, lookup, between, Rises}
use Rattle.spec_map.specs.Near.{below_of}
use Rattle.spec_map.proofs.RangeLaws.{between-split}
use Rattle.spec_map.proofs.NearLaws.{no_last, none_between, none-between, absent_between, stored_between, greatest_between}
use Rattle.spec_node.specs.TableNode.{TableNode, Child}
use Rattle.node_table.specs.Table.{NodeTable, node_at, pairs_of, pairs_at, IsChild, IsTree, IsSubtree}
use Rattle.spec_node.specs.declared.child.Child.TheVariants.{Payload, Node}
use Rattle.node_table.specs.inner.Kinds.{mapped}
use Rattle.tree_walk.specs.inner.Scan.{IsWindow, HasSubtree, FillsBuffer, AddsEntries, entries_down, entries_under}
use Rattle.tree_walk.specs.declared.window.Window.{Window}
use Rattle.tree_walk.proofs.FillLaws.{Written, written-none, written-more, written-end, written-full, fills-none}
use Rattle.tree_walk.proofs.NearestLaws.{one_between, next_at, pairs_of-append}
use Rattle.tree_walk.proofs.ScanLaws.{at_node, window_pairs, child_at, in_leaf, in_leaf_window, goes_down, GoesDown, root_tree}
use Rattle.tree_path.specs.inner.Root.{depth}
use Rattle.tree_path.proofs.PathEndLaws.{depth_is}

-- the last child below a byte, and those from another byte on
module _ {C : Type 0} (es : List (ℕ × C)) (h : Rises 0 256 es) (from to : ℕ) (within : to ≤ 256) where
  pub down_none : None ≡ below_of es to → between es from to ≡ []
  down_none none = none-between es from to (λ j at_least less. none_between 0 to es j (omega arith) less (no_last (between es 0 to) (sym none)))

  module _ (byte : ℕ) (c : C) (is : Some (byte, c) ≡ below_of es to) where
    nothing_after : (j : ℕ) → byte < j → j < to → lookup es j ≡ None
    nothing_after j more less = absent_between 0 to es j (omega arith) less ((greatest_between 0 to 0 256 es (byte, c) h (sym is)).nothing j more)

    pub down_past : byte < from → between es from to ≡ []
    down_past past = none-between es from to (λ j at_least less. nothing_after j (omega arith) less)

    pub down_split : from ≤ byte → between es from to ≡ between es from byte ++ (byte, c) ∷ []
    down_split at_least =
        let l = greatest_between 0 to 0 256 es (byte, c) h (sym is) in
        let there = stored_between 0 to es (byte, c) (omega arith) l.to l.stored in
        between-split 0 256 from byte to es h at_least (omega (arith, l.to))
        ∙ ap (λ t. between es from byte ++ t)
        (between-split 0 256 byte (byte + 1) to es h (omega arith) (omega (arith, l.to))
        ∙ ap (λ t. between es byte (byte + 1) ++ t) (none-between es (byte + 1) to (λ j more less. nothing_after j (omega arith) less))
        ∙ append-nil (between es byte (byte + 1))
        ∙ one_between 0 256 es byte c h there)

map-reverse : {A B : Type 0} (f : A → B) (xs : List A) → map f (reverse xs) ≡ reverse (map f xs)
map-reverse f [] = refl
map-reverse f (x ∷ xs) =
    ap (λ t. map f t) (reverse-append (x ∷ []) xs) ∙ map-append f (reverse xs) (x ∷ []) ∙ ap (λ t. t ++ f x ∷ []) (map-reverse f xs)
    ∙ sym (reverse-append (f x ∷ []) (map f xs))

module _ {P E : Type 0} (entry : ℕ → P → E) (start end : ℕ) where
  down-append : (xs ys : Pairs P) → entries_down entry start end (xs ++ ys) ≡ entries_down entry start end ys ++ entries_down entry start end xs
  down-append xs ys =
      ap (λ es. map (λ e. entry e.0 e.1) (reverse es)) (filter-append _ xs ys)
      ∙ ap (λ es. map (λ e. entry e.0 e.1) es) (reverse-append (between xs start end) (between ys start end))
      ∙ map-append (λ e. entry e.0 e.1) (reverse (between ys start end)) (reverse (between xs start end))

  module _ (s : NodeTable P) where
    abbrev pub all_down : ℕ → ℕ → List E
    all_down less slot = entries_down entry start end (pairs_at s (suc less) slot)

    abbrev pub down_of : ℕ → TableNode P → List (ℕ × Child P) → List E
    down_of less n es = entries_down entry start end (pairs_of (λ j. pairs_at s less j) n.prefix es)

    -- the pairs under a node's bytes from one on and below another are left, and the others are written
    pub record Down (less slot : ℕ) (n : TableNode P) (from to : ℕ) (old : List E) (first : ℕ) (new : List E) (count : ℕ) : Type 0 where
      pub written : Written (all_down less slot) (down_of less n (between n.children from to)) old first new count

    module _ (less slot : ℕ) (n : TableNode P) (tree : IsSubtree s (suc less) slot) (here : Some n ≡ node_at s slot) where
      pub down_start : (w : Window) → IsWindow n.prefix start end w → (b : List E) (count : ℕ) → count ≤ length b → Down less slot n w.from w.to b count b count
      down_start w is b count inside =
          record {
            written = subst (λ t. Written t (down_of less n (between n.children w.from w.to)) b count b count)
                (ap (λ es. map (λ e. entry e.0 e.1) (reverse es)) (sym (window_pairs s less slot n tree here w start end is))) (written-none _ b count inside);
          }

      -- a leaf's payloads, the last first
      pub down_leaf : (w : Window) → IsWindow n.prefix start end w → (es : List (ℕ × P)) → length n.prefix ≡ 7 → mapped (λ v. Payload v) es ≡ between n.children w.from w.to → entries_under entry w.first (reverse es) ≡ all_down less slot
      down_leaf w is es seven is_left =
          map-reverse (λ e. entry (w.first + e.0) e.1) es ∙ ap (λ t. reverse t) (in_leaf_window entry start end s less slot n tree here w is es seven is_left)
          ∙ sym (map-reverse (λ e. entry e.0 e.1) (between (pairs_at s (suc less) slot) start end))

      module _ (from to : ℕ) (old new : List E) (first count : ℕ) (d : Down less slot n from to old first new count) where
        pub down_end : between n.children from to ≡ [] → AddsEntries (all_down less slot) old first new count
        down_end none = written-end _ _ old new first count d.written (ap (down_of less n) none)

        pub down_full : length new ≤ count → AddsEntries (all_down less slot) old first new count
        down_full full = written-full _ _ old new first count d.written full

        module _ (within : to ≤ 256) (byte : ℕ) (c : Child P) (is : Some (byte, c) ≡ below_of n.children to) (at_least : from ≤ byte) where
          last_and_rest : down_of less n (between n.children from to) ≡ down_of less n ((byte, c) ∷ []) ++ down_of less n (between n.children from byte)
          last_and_rest =
              let a = at_node s less slot n tree here in
              ap (down_of less n) (down_split n.children a.sound.ordered from to within byte c is at_least)
              ∙ ap (entries_down entry start end) (pairs_of-append (λ j. pairs_at s less j) n.prefix (between n.children from byte) ((byte, c) ∷ []))
              ∙ down-append (pairs_of (λ j. pairs_at s less j) n.prefix (between n.children from byte)) (pairs_of (λ j. pairs_at s less j) n.prefix ((byte, c) ∷ []))

          pub down_more : (b : List E) (k : ℕ) → AddsEntries (down_of less n ((byte, c) ∷ [])) new count b k → Down less slot n from byte old first b k
          down_more b k adds = record { written = written-more _ _ old new first count d.written (down_of less n ((byte, c) ∷ [])) _ b k last_and_rest adds }

          child_here : IsChild (λ q j. IsTree s less q j) n.prefix byte c
          child_here =
              let a = at_node s less slot n tree here in
              child_at s less slot n byte byte c _ tree here (next_at n.children a.sound.ordered to within byte c is)

        pub down_node : (within : to ≤ 256) (byte j : ℕ) → Some (byte, Node j) ≡ below_of n.children to → from ≤ byte → (b : List E) (k : ℕ)
            → ((l : ℕ) → IsSubtree s (suc l) j → AddsEntries (all_down l j) new count b k) → Down less slot n from byte old first b k
        down_node within byte j is at_least b k adds =
            let one : down_of less n ((byte, Node j) ∷ []) ≡ entries_down entry start end (pairs_at s less j) = ap (entries_down entry start end) (append-nil (pairs_at s less j)) in
            down_more within byte (Node j) is at_least b k (subst (λ t. AddsEntries t new count b k) (sym one) (go less (child_here within byte (Node j) is at_least)))
          where
            go : (l : ℕ) → IsTree s l (n.prefix ++ byte ∷ []) j → AddsEntries (entries_down entry start end (pairs_at s l j)) new count b k
            go zero h = absurd h
            go (suc l) h = adds l (record { above = n.prefix ++ byte ∷ []; tree = h })

-- what is under the last byte of a node below another
module _ {P : Type 0} (s : NodeTable P) (slot : ℕ) (n : TableNode P) (h : HasSubtree s slot) (here : Some n ≡ node_at s slot) (to : ℕ) (within : to ≤ 256) (ascending : Rises 0 256 n.children) where
  pub last_down : (byte j : ℕ) → Some (byte, Node j) ≡ below_of n.children to → GoesDown s slot j
  last_down byte j is = goes_down s slot n byte byte j _ h here (next_at n.children ascending to within byte (Node j) is)

  pub last_in_leaf : (byte : ℕ) (v : P) → Some (byte, Payload v) ≡ below_of n.children to → length n.prefix ≡ 7
  last_in_leaf byte v is = in_leaf s slot n byte byte v _ h here (next_at n.children ascending to within byte (Payload v) is)

-- in the whole tree
module _ {P E : Type 0} (entry : ℕ → P → E) (start end : ℕ) (s : NodeTable P) (root : ℕ) (tree : IsTree s depth [] root) (old new : List E) (count : ℕ)
    (adds : (levels : ℕ) → IsSubtree s (suc levels) root → AddsEntries (entries_down entry start end (pairs_at s (suc levels) root)) old 0 new count)
    (m : Pairs P) (is : pairs_at s depth root ≡ m) where
  down_fills : FillsBuffer old (entries_down entry start end m) count new
  down_fills =
      subst (λ es. FillsBuffer old (entries_down entry start end es) count new) (subst (λ d. pairs_at s d root ≡ m) depth_is is)
      ((adds 7 (root_tree s root tree)).fills old [] (fills-none old))

  pub down_count : count ≡ min (length old) (length (between m start end))
  down_count =
      down_fills.counted
      ∙ ap (λ k. min (length old) k) (length-map (reverse (between m start end)) (λ e. entry e.0 e.1) ∙ length-reverse (between m start end))

  pub down_written : new ≡ take count (map (λ e. entry e.0 e.1) (reverse (between m start end))) ++ drop count old
  down_written = down_fills.filled
