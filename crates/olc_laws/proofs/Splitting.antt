-- A SPLIT: a private middle node, which has a locked node and a leaf with one pair, takes that node's place below its
-- locked parent.
use Rattle.std.proofs.Common.{◌≡◌, ◌≢◌, ℕ, zero, suc, ◌+◌, ◌^◌, ◌<◌, ◌≤◌, List, [], ◌∷◌, length, get_or, Option, Some, None, ◌⊎◌, inl, inr, refl, sym, subst, ap, ◌∙◌, arith}
use Rattle.std.proofs.lemmas.Bool.{cases_eq, ne_eqb}
use Rattle.std.proofs.lemmas.Bool.Decides.{eqb_tells}
use Rattle.spec_map.specs.Map.{lookup, put, Rises}
use Rattle.spec_map.proofs.MapLaws.{lookup-put_same, lookup-put_other, Rises-put}
use Rattle.spec_node.specs.Key.{Begins, AreBytes, next_byte}
use Rattle.spec_node.specs.TableNode.{TableNode, Child}
use Rattle.spec_node.specs.declared.child.Child.TheVariants.{Payload, Node as below_at}
use Rattle.node_table.proofs.BeginLaws.{after}
use Rattle.node_table.proofs.KeyLaws.{AreBytes-append_left}
use Rattle.spec_olc.specs.Calls.{bytes_of}
use Rattle.olc_state.specs.inner.World.{PlacedNode, NodeMap, entry}
use Rattle.olc_state.specs.inner.Tables.{byte_at, IsLinked, IsPlaced, NeedsHolder}
use Rattle.olc_state.proofs.Options.{none_some, some_same}
use Rattle.olc_laws.proofs.Below.{Inside, ChangesChild}
use Rattle.olc_laws.proofs.Effects.{OthersStay, Effect, effect}
use Rattle.olc_laws.proofs.Pairs.{PutsPair, OtherPays, puts_pair}
use Rattle.olc_laws.proofs.Prefixes.{begins_next, begins_on, key_byte}
use Rattle.olc_laws.proofs.Trees.{Tree, IsTree, IsShaped, tree_of, linked_in, tree_at, placed_tree, override, override_here, override_other}
use Rattle.olc_laws.proofs.TreeCopies.{InsertsMiddle, middle_tree}
use Rattle.olc_laws.proofs.TreeLeaves.{LinksLeaf, linked_tree}
use Rattle.olc_laws.proofs.Writing.{answered, WritesBelow, Publishes, IsLeafFor, leaf_has, leaf_only, leaf_nodes, leaf_shaped, single_same, single_only, below_payload, written_at, written_changes, written_steps, published_tree, published_vacant, published_steps, published_needs, published_new, other_pays, vacant_pays, only_pays, parent_to, parent_from}

byte_small : (p : List ℕ) (i : ℕ) → AreBytes p → get_or p i 0 < 256
byte_small [] i bytes = omega arith
byte_small (b ∷ p) zero bytes = bytes.0
byte_small (b ∷ p) (suc i) bytes = byte_small p i bytes.1

-- a key that is found is in the range
pub found_below : {V : Type 0} (a b : ℕ) (es : List (ℕ × V)) (k : ℕ) (v : V) → Rises a b es → lookup es k ≡ Some v → k < b
found_below a b [] k v rises e = absurd (none_some v e)
found_below a b (x ∷ es) k v rises e =
    elim (cases_eq x.0 k) [
      | inl same ↦ let high : x.0 < b = rises.1 in omega (arith, same, high)
      | inr far ↦ found_below (x.0 + 1) b es k v rises.2 (rw (ne_eqb x.0 k far) at e)
    ]

module _ {M : Type 0} where
  -- the middle node begins the old one and the key, which part there, and leads to both
  pub record IsMiddle (m old : TableNode M) (key q o : ℕ) : Type 0 where
    pub begins_old : Begins m.prefix old.prefix
    pub begins_key : Begins m.prefix (bytes_of key)
    pub shorter : length m.prefix < length old.prefix
    pub apart : next_byte m.prefix old.prefix ≢ next_byte m.prefix (bytes_of key)
    pub has_old : lookup m.children (next_byte m.prefix old.prefix) ≡ Some (below_at q)
    pub has_new : lookup m.children (next_byte m.prefix (bytes_of key)) ≡ Some (below_at o)
    pub only : (y : ℕ) (c : Child M) → lookup m.children y ≡ Some c → (y ≡ next_byte m.prefix old.prefix) ⊎ (y ≡ next_byte m.prefix (bytes_of key))
    pub ordered : Rises 0 256 m.children

  -- a node with these two entries is one
  pub middle_of : (m old : TableNode M) (key q o : ℕ) → length m.prefix ≤ 7 → AreBytes old.prefix → Begins m.prefix old.prefix → Begins m.prefix (bytes_of key)
      → length m.prefix < length old.prefix → next_byte m.prefix old.prefix ≢ next_byte m.prefix (bytes_of key)
      → m.children ≡ put ((next_byte m.prefix old.prefix, below_at q) ∷ []) (next_byte m.prefix (bytes_of key)) (below_at o) → IsMiddle m old key q o
  middle_of m old key q o short also begins_old begins_key shorter apart children =
      let u = next_byte m.prefix old.prefix in
      let z = next_byte m.prefix (bytes_of key) in
      let single : List (ℕ × Child M) = (u, below_at q) ∷ [] in
      let small : u < 256 = byte_small old.prefix (length m.prefix) also in
      let rises : Rises 0 256 single = (omega arith, small, tt) in
      record {
        begins_old = begins_old;
        begins_key = begins_key;
        shorter = shorter;
        apart = apart;
        has_old = rw children (lookup-put_other single z (below_at o) u apart ∙ single_same u (below_at q));
        has_new = rw children (lookup-put_same single z (below_at o));
        only = λ y c e.
            elim (eqb_tells y z) [
              | inl same ↦ inr same.1
              | inr far ↦
                  let there : lookup (put single z (below_at o)) y ≡ Some c = subst (λ (es : List (ℕ × Child M)). lookup es y ≡ Some c) children e in
                  inl (single_only u y (below_at q) c (sym (lookup-put_other single z (below_at o) y far.1) ∙ there)).0
            ];
        ordered = subst (λ (es : List (ℕ × Child M)). Rises 0 256 es) (sym children) (Rises-put 0 256 single z (below_at o) rises (omega arith) (key_byte m.prefix key begins_key short));
      }

  pub record Splits (t t' : NodeMap M) (p q r o key : ℕ) (a b m d : PlacedNode M) (v : M) : Type 0 where
    pub write : WritesBelow t t' p key a (Some (below_at r))
    pub under : entry a (byte_at a (bytes_of key)) ≡ Some (below_at q)
    pub old : IsLinked t q b
    pub middle_new : Publishes t t' r m
    pub longer : length a.node.prefix < length m.node.prefix
    pub middle : IsMiddle m.node b.node key q o
    pub leaf_new : Publishes t t' o d
    pub leaf : IsLeafFor d.node key v
    pub small : key < 2 ^ 64
    pub others : OthersStay t t' (p ∷ r ∷ o ∷ [])

  -- the middle node before it has the leaf
  abbrev half : TableNode M → TableNode M → ℕ → TableNode M
  half m old q = record m { children = (next_byte m.prefix old.prefix, below_at q) ∷ [] }

module _ {M : Type 0} {t t' : NodeMap M} {p q r o key : ℕ} {a b m d : PlacedNode M} {v : M} (g : Splits t t' p q r o key a b m d v) (root : ℕ) (placed : IsPlaced t root) where
  tree : IsTree (tree_of t) root
  tree = placed_tree t root placed

  old_here : tree_of t q ≡ Some b.node
  old_here = tree_at t q b g.old

  old_shaped : IsShaped b.node
  old_shaped = tree.shaped q b.node old_here

  abbrev old_byte : ℕ
  old_byte = next_byte m.node.prefix b.node.prefix

  abbrev new_byte : ℕ
  new_byte = next_byte m.node.prefix (bytes_of key)

  changes_here : ChangesChild (tree_of t) (tree_of t') p (byte_at a (bytes_of key)) a.node (answered a (byte_at a (bytes_of key)) (Some (below_at r))).node
  changes_here = written_changes g.write root placed (λ w e. absurd (below_payload r w e))

  p_not_r : p ≢ r
  p_not_r = published_new g.middle_new p a g.write.here

  p_not_o : p ≢ o
  p_not_o = published_new g.leaf_new p a g.write.here

  middle_short : length m.node.prefix < 7
  middle_short = let short : length b.node.prefix ≤ 7 = old_shaped.short in omega (arith, short, g.middle.shorter)

  r_not_o : r ≢ o
  r_not_o e =
      let same : m ≡ d = some_same m d (sym g.middle_new.made ∙ subst (λ z. t z ≡ Some d) (sym e) g.leaf_new.made) in
      let even : length m.node.prefix ≡ length d.node.prefix = ap (λ (z : PlacedNode M). length z.node.prefix) same in
      omega (arith, even, middle_short, g.leaf.full)

  middle_bytes : AreBytes m.node.prefix
  middle_bytes = let rest = after g.middle.begins_old in AreBytes-append_left m.node.prefix rest.rest (subst AreBytes rest.is old_shaped.bytes)

  -- it has no payloads
  middle_pays : (y : ℕ) (w : M) → lookup m.node.children y ≡ Some (Payload w) → ⊥
  middle_pays y w e =
      elim (g.middle.only y (Payload w) e) [
        | inl is ↦ below_payload q w (sym g.middle.has_old ∙ subst (λ z. lookup m.node.children z ≡ Some (Payload w)) is e)
        | inr is ↦ below_payload o w (sym g.middle.has_new ∙ subst (λ z. lookup m.node.children z ≡ Some (Payload w)) is e)
      ]

  middle_shaped : IsShaped m.node
  middle_shaped = record { short = omega (arith, middle_short); bytes = middle_bytes; ordered = g.middle.ordered; leaf = λ y w e. absurd (middle_pays y w e) }

  half_shaped : IsShaped (half m.node b.node q)
  half_shaped = record {
    short = omega (arith, middle_short);
    bytes = middle_bytes;
    ordered = (omega arith, found_below 0 256 m.node.children old_byte (below_at q) g.middle.ordered g.middle.has_old, tt);
    leaf = λ y w e. absurd (below_payload q w (ap (λ z. Some z) (sym (single_only old_byte y (below_at q) (Payload w) e).1)));
  }

  inside_middle : Inside a.node.prefix (byte_at a (bytes_of key)) m.node.prefix
  inside_middle = begins_next a.node.prefix m.node.prefix (bytes_of key) g.write.begins g.middle.begins_key g.longer

  -- no child but the two
  other_child : (y : ℕ) (c : Option (Child M)) → lookup m.node.children y ≡ c → y ≢ new_byte → c ≡ lookup (half m.node b.node q).children y
  other_child y None e far =
      let off : old_byte ≢ y = λ i. none_some (below_at q) (sym e ∙ subst (λ z. lookup m.node.children z ≡ Some (below_at q)) i g.middle.has_old) in
      rw (ne_eqb old_byte y off) refl
  other_child y (Some c) e far =
      elim (g.middle.only y c e) [
        | inr is ↦ absurd (far is)
        | inl is ↦
            let there : Some (below_at q) ≡ Some c = sym g.middle.has_old ∙ subst (λ z. lookup m.node.children z ≡ Some c) is e in
            sym (subst (λ z. lookup (half m.node b.node q).children z ≡ Some (below_at q)) (sym is) (single_same old_byte (below_at q)) ∙ there)
      ]

  split_tree : IsTree (tree_of t) root → IsTree (tree_of t') root
  split_tree before =
      let x = byte_at a (bytes_of key) in
      let n : TableNode M = (answered a x (Some (below_at r))).node in
      let h : TableNode M = half m.node b.node q in
      let e : Tree M = override (tree_of t) p n in
      let f : Tree M = override e r h in
      let on_e : (s : ℕ) → s ≢ p → e s ≡ tree_of t s = override_other (tree_of t) p n in
      let on_f : (s : ℕ) → s ≢ r → f s ≡ e s = override_other e r h in
      let at_p : f p ≡ Some n = on_f p p_not_r ∙ override_here (tree_of t) p n in
      let at_r : f r ≡ Some h = override_here e r h in
      let first : InsertsMiddle (tree_of t) f p x q r old_byte a.node n b.node h = record {
        at = record { before = changes_here.before; after = at_p; prefix = refl; form = refl; shaped = changes_here.shaped; children = changes_here.children };
        old_child = g.under;
        new_child = written_at g.write root placed;
        old = old_here;
        vacant = published_vacant g.middle_new;
        new = at_r;
        begins = inside_middle;
        below = begins_on m.node.prefix b.node.prefix g.middle.begins_old g.middle.shorter;
        child = single_same old_byte (below_at q);
        only = λ z c i. (single_only old_byte z (below_at q) (below_at c) i).0;
        shaped = half_shaped;
        others = λ s not_p not_r. on_f s not_r ∙ on_e s not_p;
      } in
      let second : LinksLeaf f (tree_of t') r new_byte o h m.node d.node = record {
        at = record {
          before = at_r;
          after = published_tree g.middle_new;
          prefix = refl;
          form = refl;
          shaped = middle_shaped;
          children = λ y far. other_child y (lookup m.node.children y) refl far;
        };
        empty = rw (ne_eqb old_byte new_byte g.middle.apart) refl;
        child = g.middle.has_new;
        vacant = on_f o (λ i. r_not_o (sym i)) ∙ (on_e o (λ i. p_not_o (sym i)) ∙ published_vacant g.leaf_new);
        linked = published_tree g.leaf_new;
        begins = begins_next m.node.prefix d.node.prefix (bytes_of key) g.middle.begins_key g.leaf.begins (omega (arith, middle_short, g.leaf.full));
        shaped = leaf_shaped g.leaf;
        leaf = leaf_nodes g.leaf;
        others = λ s not_r not_o.
            elim (eqb_tells s p) [
              | inl is ↦ subst (λ z. tree_of t' z ≡ f z) (sym is.1) (changes_here.after ∙ sym at_p)
              | inr not_p ↦
                  ap linked_in (g.others s (λ one. elim one [
                    | inl i ↦ not_p.1 (sym i)
                    | inr (inl i) ↦ not_r (sym i)
                    | inr (inr (inl i)) ↦ not_o (sym i)
                    | inr (inr (inr none)) ↦ none
                  ])) ∙ sym (on_f s not_r ∙ on_e s not_p.1)
            ];
      } in
      linked_tree second root (middle_tree first root before)

  pub split_effect : (Mine May : ℕ → Type 0) → Mine p → Mine r → Mine o → Effect t t' root Mine May (p ∷ r ∷ o ∷ []) (p ∷ [])
  split_effect Mine May mine middle leaf =
      effect t t' root Mine May (p ∷ r ∷ o ∷ []) (p ∷ []) placed g.others
      (written_steps g.write root placed Mine May mine, (published_steps g.middle_new Mine May middle, (published_steps g.leaf_new Mine May leaf, tt)))
      ((λ (need : NeedsHolder t' p). inl refl), ((λ (need : NeedsHolder t' r). absurd (published_needs g.middle_new need)), ((λ (need : NeedsHolder t' o). absurd (published_needs g.leaf_new need)), tt)))
      split_tree

  split_others : OtherPays (tree_of t) (tree_of t') d.node.prefix (byte_at d (bytes_of key))
  split_others =
      let prefix = d.node.prefix in
      let byte = byte_at d (bytes_of key) in
      other_pays t t' prefix byte (p ∷ r ∷ o ∷ []) g.others (
        parent_to g.write root placed prefix byte (λ w e. below_payload q w (sym g.under ∙ e)),
        (vacant_pays (tree_of t) (tree_of t') prefix byte r (published_vacant g.middle_new), (vacant_pays (tree_of t) (tree_of t') prefix byte o (published_vacant g.leaf_new), tt)),
      ) (
        parent_from g.write root placed prefix byte (λ w e. below_payload r w e),
        (
          only_pays (tree_of t') (tree_of t) prefix byte r m.node (published_tree g.middle_new) (λ y w far e. middle_pays y w e),
          (only_pays (tree_of t') (tree_of t) prefix byte o d.node (published_tree g.leaf_new) (λ y w far e. far refl (leaf_only g.leaf y (Payload w) e).0), tt),
        ),
      )

  pub split_puts : PutsPair t t' key v
  split_puts =
      puts_pair t t' d.node.prefix key g.leaf.full g.leaf.begins g.small split_others v
      (record { slot = o; node = d.node; here = published_tree g.leaf_new; same = refl; child = leaf_has g.leaf })
