-- The path to the first pair of a tree, or to the last, where it may end at a pair in its parent.
use Rattle.std.proofs.Common.{◌≡◌, ℕ, zero, suc, ◌+◌, ◌-◌, ◌<◌, ◌≤◌, List, [], ◌∷◌, ◌++◌, length, map, take, drop, get_or, replicate, set, Option, Some, None, IfSome, IfNone, option_map, refl, ap, sym, subst, ◌∙◌, arith, inl, inr, append_assoc, length-append, w64}
use Rattle.std.specs.Int.{from_be_bytes, to_be_bytes}
use Rattle.std.proofs.lemmas.Bool.{eq-eqb, ne_eqb, cases_eq}
use Rattle.std.proofs.lemmas.List.{length-map, length-set, length-take, map-set, take-append-drop}
use Rattle.std.proofs.lemmas.Nat.{be_bytes_8}
use Rattle.spec_map.specs.Map.{lookup, between, Rises}
use Rattle.spec_map.specs.Near.{first_of, last_of}
use Rattle.spec_map.proofs.MapLaws.{lookup-below}
use Rattle.spec_map.proofs.RangeLaws.{between-all}
use Rattle.spec_node.specs.Key.{AreBytes, Begins, key_number, next_byte}
use Rattle.spec_node.specs.TableNode.{TableNode}
use Rattle.node_table.specs.Table.{NodeTable, node_at, pairs_at, IsTree}
use Rattle.spec_node.specs.declared.child.Child.TheVariants as children
use Rattle.node_table.proofs.BeginLaws.{after as after_prefix, begins_append, begins_by}
use Rattle.node_table.proofs.DownLaws.{Begins-trans}
use Rattle.node_table.proofs.KeyLaws.{AreBytes-append, key_number-be_bytes}
use Rattle.node_table.proofs.TableLaws.{open_subtree, IsChild-found}
use Rattle.tree_path.specs.inner.Descent.{IsTrail, SeeksTo}
use Rattle.tree_path.specs.inner.Root.{depth}
use Rattle.tree_path.specs.declared.descent.Stop.TheVariants as stops
use Rattle.tree_edit.specs.declared.ends.Side.{Side}
use Rattle.tree_edit.specs.declared.ends.Side.TheVariants.{First, Last}
use Rattle.tree_edit.specs.inner.Ends.{at_side}
use Rattle.tree_edit.proofs.CallLaws.{byte_at}
use Rattle.tree_edit.proofs.EndLaws.{OnWay, side_one, side_stored, way_short, way_step, way_end}
use Rattle.tree_links.specs.LinkNode.{LinkNode, looked_at}
use Rattle.tree_links.specs.Seeks.{seen_at, KnowsPairAt, MeetsPair}
use Rattle.tree_links.specs.SeenTable.{name_of, name_under, key_under, leaf_of, seen_link, seen_links, seen_node, pair_at, pair_in}
use Rattle.tree_links.specs.declared.descent.LinkStop.TheVariants.{Pair as AtPair}
use Rattle.tree_links.specs.declared.link.Link.{Link}
use Rattle.tree_links.specs.declared.link.Link.TheVariants.{Pair}
use Rattle.tree_links.specs.declared.link.LinkRef.{LinkRef}
use Rattle.tree_links.proofs.KeyLaws.{eight, key_long}
use Rattle.tree_links.proofs.SeenLaws.{lookup-seen}

-- what a node is asked for at a side
module _ {P : Type 0} (es : List (ℕ × Link P)) (h : Rises 0 256 es) where
  all_there : between es 0 256 ≡ es
  all_there = between-all 0 256 0 256 es h (omega arith) (omega arith)

  pub first_linked : (o : Option (ℕ × LinkRef P)) → IfNone o (between es 0 256 ≡ []) → IfSome o (λ found. between es 0 256 ≡ (found.0, looked_at found.1) ∷ between es (found.0 + 1) 256)
      → option_map (λ found. (found.0, looked_at found.1)) o ≡ first_of es
  first_linked None none some = ap (λ t. first_of t) (sym none ∙ all_there)
  first_linked (Some found) none some = ap (λ t. first_of t) (sym some ∙ all_there)

  pub last_linked : (o : Option (ℕ × Link P)) → o ≡ last_of (between es 0 256) → o ≡ last_of es
  last_linked o is = is ∙ ap (λ t. last_of t) all_there

-- a link that is found under a byte that nothing comes before is the first
module _ {P : Type 0} where
  pub found_is_first : (es : List (ℕ × Link P)) → Rises 0 256 es → (b : ℕ) (c : Link P) → lookup es b ≡ Some c → ((d : ℕ) (e : Link P) → first_of es ≡ Some (d, e) → b ≤ d) → Some (b, c) ≡ first_of es
  found_is_first [] h b c found bound = absurd (cc)
  found_is_first ((d, e) ∷ es) h b c found bound =
      let from : b ≤ d = bound d e refl in
      elim (cases_eq d b) [
        | inl same ↦
            let both : Some e ≡ Some c = rw (eq-eqb d b same) at found in
            let is : e ≡ c = cc in
            sym (ap (λ k. Some (k, e)) same ∙ ap (λ x. Some (b, x)) is)
        | inr other ↦
            let further : lookup es b ≡ Some c = rw (ne_eqb d b other) at found in
            let none = lookup-below (d + 1) 256 es b h.2 (omega (arith, from)) in
            absurd (let clash : ◌≡◌ {A = Option (Link P)} None (Some c) = sym none ∙ further in cc)
      ]

-- the link at a side, as the child that is seen
module _ {P : Type 0} (i : ℕ) where
  first_seen : (es : List (ℕ × Link P)) → first_of (seen_links i es) ≡ option_map (λ p. (p.0, seen_link i p.0 p.1)) (first_of es)
  first_seen [] = refl
  first_seen (e ∷ es) = refl

  last_seen : (es : List (ℕ × Link P)) → last_of (seen_links i es) ≡ option_map (λ p. (p.0, seen_link i p.0 p.1)) (last_of es)
  last_seen [] = refl
  last_seen (e ∷ []) = refl
  last_seen (e ∷ d ∷ es) = last_seen (d ∷ es)

  side_seen : (side : Side) (es : List (ℕ × Link P)) → at_side side (seen_links i es) ≡ option_map (λ p. (p.0, seen_link i p.0 p.1)) (at_side side es)
  side_seen First es = first_seen es
  side_seen Last es = last_seen es

  pub side_link : (side : Side) (es : List (ℕ × Link P)) (b : ℕ) (c : Link P) → Some (b, c) ≡ at_side side es → Some (b, seen_link i b c) ≡ at_side side (seen_links i es)
  side_link side es b c is = ap (λ o. option_map (λ p. (p.0, seen_link i p.0 p.1)) o) is ∙ sym (side_seen side es)

  pub no_side_link : (side : Side) (es : List (ℕ × Link P)) → None ≡ at_side side es → None ≡ at_side side (seen_links i es)
  no_side_link side es is = ap (λ o. option_map (λ p. (p.0, seen_link i p.0 p.1)) o) is ∙ sym (side_seen side es)

-- the number of a leaf's key
leaf_number : (p : List ℕ) (b : ℕ) → length p ≡ 7 → from_be_bytes w64 (p ++ replicate (8 - length p) 0) + b ≡ from_be_bytes w64 (p ++ b ∷ [])
leaf_number (a ∷ c ∷ d ∷ e ∷ f ∷ g ∷ h ∷ []) b seven = omega arith
leaf_number _ b seven = absurd (omega arith)

next_there : (p : List ℕ) (b : ℕ) (r : List ℕ) → get_or (p ++ b ∷ r) (length p) 0 ≡ b
next_there [] b r = refl
next_there (x ∷ p) b r = next_there p b r

next_is : (p : List ℕ) (b : ℕ) (key : List ℕ) → Begins (p ++ b ∷ []) key → b ≡ next_byte p key
next_is p b key h =
    let x = after_prefix h in
    let is : key ≡ p ++ b ∷ x.rest = x.is ∙ append_assoc p (b ∷ []) x.rest in
    sym (ap (λ k. get_or k (length p) 0) is ∙ next_there p b x.rest)

-- the path's slots, remembered
pub names_set : (trail : List ℕ) (n i : ℕ) → set (map name_of trail) n (name_of i) ≡ map name_of (set trail n i)
names_set trail n i = sym (map-set name_of trail n i)

pub names_long : (trail : List ℕ) → length (map name_of trail) ≡ length trail
names_long trail = length-map trail name_of

module _ {P : Type 0} (side : Side) (s : NodeTable P) (root above i parent : ℕ) (trail : List ℕ) (w : OnWay side s root above (name_of i) parent trail) (eight_long : length trail ≡ 8)
    (n : LinkNode P) (here : node_at s (name_of i) ≡ Some (seen_node i n)) (pairs : (b : ℕ) → b < 256 → pair_in (Some n) b ≡ node_at s (name_under i b)) (ascending : Rises 0 256 n.links)
    (b : ℕ) (rest : List ℕ) (v : P) (is : Some (b, Pair rest v) ≡ at_side side n.links) (seven_long : length rest ≡ 7) (number : ℕ) (number_is : number ≡ key_number (key_under n.prefix b rest)) where
  abbrev key : List ℕ
  key = key_under n.prefix b rest

  abbrev leaf : TableNode P
  leaf = leaf_of key v

  abbrev last : ℕ
  last = get_or key 7 0

  full : length key ≡ 8
  full = key_long n.prefix b rest seven_long

  seven : length (take 7 key) ≡ 7
  seven = length-take 7 key ∙ omega (arith, full)

  room : above < length trail
  room = let short = way_short side s root above (name_of i) parent trail w in omega (arith, short, eight_long)

  found : lookup n.links b ≡ Some (Pair rest v)
  found = (side_stored side 0 256 n.links (b, Pair rest v) ascending (sym is)).stored

  inside : b < 256
  inside = (side_stored side 0 256 n.links (b, Pair rest v) ascending (sym is)).inside

  leaf_is : node_at s (name_under i b) ≡ Some leaf
  leaf_is = sym (pairs b inside) ∙ ap (pair_at n.prefix b) found

  -- one step down more
  down : OnWay side s root (above + 1) (name_under i b) (name_of i) (set trail above (name_of i))
  down = way_step side s root above (name_of i) parent trail w room (seen_node i n) here b (name_under i b) (side_link i side n.links b (Pair rest v) is)

  -- the leaf in the tree
  record InTree (q : List ℕ) : Type 0 where
    begins : Begins q key
    bytes : AreBytes key

  in_tree : (levels : ℕ) (q : List ℕ) → IsTree s levels q (name_under i b) → InTree q
  in_tree zero q h = absurd h
  in_tree (suc levels) q h =
      let both : Some h.node ≡ Some leaf = sym h.here ∙ leaf_is in
      let same : h.node ≡ leaf = cc in
      let begins : Begins q (take 7 key) = subst (λ (m : TableNode P). Begins q m.prefix) same h.begins in
      let bytes : AreBytes (take 7 key) = subst (λ (m : TableNode P). AreBytes m.prefix) same h.sound.bytes in
      let order : Rises 0 256 leaf.children = subst (λ (m : TableNode P). Rises 0 256 m.children) same h.sound.ordered in
      record {
        begins = Begins-trans q (take 7 key) key begins (begins_by (take 7 key) (drop 7 key) key (sym (take-append-drop 7 key)));
        bytes = subst AreBytes (sym (eight key full)) (AreBytes-append (take 7 key) (last ∷ []) bytes (order.1, tt));
      }

  below : InTree (n.prefix ++ b ∷ [])
  below =
      let o = open_subtree s w.levels (name_of i) (seen_node i n) (record { above = w.q; tree = w.tree }) (sym here) in
      let seen = lookup-seen i n.links b ∙ ap (λ x. option_map (λ c. seen_link i b c) x) found in
      in_tree o.less (n.prefix ++ b ∷ []) (IsChild-found s o.less n.prefix (seen_links i n.links) b (children.Node (name_under i b)) o.children seen)

  whole : number ≡ from_be_bytes w64 key
  whole = number_is ∙ key_number-be_bytes key full

  back : to_be_bytes w64 number ≡ key
  back = be_bytes_8 key number full (λ k. byte_at key below.bytes k) whole

  -- THE END at a pair
  pub record PairEnd : Type 0 where
    pub key_is : Some number ≡ option_map (λ e. e.0) (at_side side (pairs_at s depth root))
    pub ends : (above_slot : ℕ) → SeeksTo s root (to_be_bytes w64 number) (seen_at (to_be_bytes w64 number) i above_slot above (AtPair b))
    pub pair : KnowsPairAt (to_be_bytes w64 number) s i (AtPair b)
    pub on : IsTrail s root (to_be_bytes w64 number) (set trail above (name_of i)) (above + 1)

  meets : MeetsPair key s i b
  meets = record {
    leaf = record {
      below = record {
        node = seen_node i n;
        here = here;
        inner = inner;
        found = lookup-seen i n.links b ∙ ap (λ x. option_map (λ c. seen_link i b c) x) found;
      };
      key = key;
      payload = v;
      full = full;
      begins = below.begins;
      is = leaf_is;
    };
    begins = Begins-trans n.prefix (n.prefix ++ b ∷ []) key (begins_append n.prefix (b ∷ [])) below.begins;
    byte = next_is n.prefix b key below.begins;
  }
    where
      inner : length n.prefix < 7
      inner =
          let o = open_subtree s w.levels (name_of i) (seen_node i n) (record { above = w.q; tree = w.tree }) (sym here) in
          let seen = lookup-seen i n.links b ∙ ap (λ x. option_map (λ c. seen_link i b c) x) found in
          deep o.less (IsChild-found s o.less n.prefix (seen_links i n.links) b (children.Node (name_under i b)) o.children seen)
        where
          deep : (levels : ℕ) → IsTree s levels (n.prefix ++ b ∷ []) (name_under i b) → length n.prefix < 7
          deep zero h = absurd h
          deep (suc levels) h =
              let both : Some h.node ≡ Some leaf = sym h.here ∙ leaf_is in
              let same : h.node ≡ leaf = cc in
              let x = after_prefix (subst (λ (m : TableNode P). Begins (n.prefix ++ b ∷ []) m.prefix) same h.begins) in
              let long = ap length x.is in
              omega (arith, long, seven, length-append (n.prefix ++ b ∷ []) x.rest, length-append n.prefix (b ∷ []))

  pub pair_end : PairEnd
  unfolding meets
  pair_end =
      let long : above + 1 < length (set trail above (name_of i)) = let short = way_short side s root (above + 1) (name_under i b) (name_of i) (set trail above (name_of i)) down in omega (arith, short, eight_long, length-set trail above (name_of i)) in
      let first = from_be_bytes w64 (take 7 key ++ replicate (8 - length (take 7 key)) 0) in
      let e = way_end side s root (above + 1) (name_under i b) (name_of i) (set trail above (name_of i)) down long leaf leaf_is last v (sym (side_one side (last, children.Payload v))) (take 7 key) refl first refl in
      let same : first + last ≡ number = leaf_number (take 7 key) last seven ∙ ap (λ k. from_be_bytes w64 k) (sym (eight key full)) ∙ sym whole in
      let byte : last ≡ get_or (to_be_bytes w64 number) 7 0 = ap (λ k. get_or k 7 0) (sym back) in
      let seen : SeeksTo s root (to_be_bytes w64 number) (record { slot = name_under i b; parent = name_of i; above = above + 1; stop = stops.Leaf last }) =
      subst (λ k. SeeksTo s root (to_be_bytes w64 k) (record { slot = name_under i b; parent = name_of i; above = above + 1; stop = stops.Leaf last })) same e.ends
      in
      let q_begins = (in_tree down.levels down.q down.tree).begins in
      record {
        key_is = subst (λ k. Some k ≡ option_map (λ e. e.0) (at_side side (pairs_at s depth root))) same e.is;
        ends = λ above_slot. subst (λ x. SeeksTo s root (to_be_bytes w64 number) (record { slot = name_under i b; parent = name_of i; above = above + 1; stop = stops.Leaf x })) byte seen;
        pair = subst (λ k. KnowsPairAt k s i (AtPair b)) (sym back) (meets, refl);
        on = subst (λ k. IsTrail s root k (set trail above (name_of i)) (above + 1)) (sym back) (down.on key below.bytes full q_begins);
      }
