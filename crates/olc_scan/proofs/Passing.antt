-- What follows for a range from a Check that passes.
use Rattle.std.proofs.Common.{◌≡◌, ℕ, suc, ◌+◌, ◌<◌, ◌≤◌, ◌^◌, Bool, true, false, List, [], ◌∷◌, ◌++◌, length, take, get_or, Some, None, ◌⊎◌, inl, inr, refl, ap, sym, subst, ◌∙◌, arith, length-append}
use Rattle.std.proofs.lemmas.Bool.{lt-ltb, le-ltb, eq-eqb, ne_eqb, cases_order, cases_eq, cases_lt}
use Rattle.spec_map.specs.Map.{lookup, Rises}
use Rattle.spec_node.specs.Key.{Begins, AreBytes, begins, IsFirstDifference, low, high, key_number, next_byte}
use Rattle.spec_node.specs.TableNode.{Child}
use Rattle.spec_node.specs.declared.child.Child.TheVariants.{Payload, Node as below_at}
use Rattle.spec_map.proofs.MapLaws.{lookup-below}
use Rattle.node_table.proofs.BeginLaws.{begins_append}
use Rattle.node_table.proofs.KeyLaws.{off_prefix, goes_on, byte_order, low-begins, high-begins, key_number_at, room-positive, AreBytes-append}
use Rattle.spec_olc.specs.Calls.{bytes_of}
use Rattle.spec_olc.specs.Reading.{first_from, bound_at}
use Rattle.olc_state.specs.inner.Tables.{byte_at, IsLinked, IsBelow, LeadsOn, IsPlaced, Keeps}
use Rattle.olc_state.specs.inner.World.{PlacedNode, NodeMap, entry}
use Rattle.olc_state.proofs.Ways.{toward_leaf, leaf_entry, present_here}
use Rattle.olc_state.proofs.Reaching.{bytes-of_key, key-of_bytes, bytes-again, key-small, lookup-inside, last-byte}
use Rattle.olc_state.proofs.Options.{none_some, some_same}
use Rattle.olc_scan.specs.inner.Passed.{PassesNone, IsFirstChild}

-- the position at which a list that doesn't begin another differs from it
differs : (p q : List ℕ) → length p ≤ length q → begins p q ≡ false → (i : ℕ) × IsFirstDifference p q i
differs [] q l e = absurd (cc)
differs (b ∷ p) [] l e = absurd (omega arith)
differs (b ∷ p) (c ∷ q) l e =
    elim (cases_eq b c) [
      | inl same ↦
          let e' : begins p q ≡ false = rw (eq-eqb b c same) at e in
          let d = differs p q (omega arith) e' in
          (suc d.0, record { inside = omega (arith, d.1.inside); same_before = ap (λ t. b ∷ t) d.1.same_before ∙ ap (λ x. x ∷ take d.0 q) same; differ = d.1.differ })
      | inr other ↦ (0, record { inside = omega arith; same_before = refl; differ = other })
    ]

by_test : (b : Bool) → (b ≡ true) ⊎ (b ≡ false)
by_test true = inl refl
by_test false = inr refl

-- a key among those below a prefix begins with it
in_prefix : (p key : List ℕ) → AreBytes p → AreBytes key → length p ≤ 7 → length key ≡ 8 → low p ≤ key_number key → key_number key < high p → Begins p key
in_prefix p key hp hk short full from to =
    elim (by_test (begins p key)) [
      | inl holds ↦ record { holds = holds }
      | inr off ↦
          let d = differs p key (omega arith) off in
          elim (off_prefix p key d.0 d.1 hp hk short full) [
            | inl above ↦ absurd (omega arith)
            | inr below ↦ absurd (omega arith)
          ]
    ]

-- of two keys below a prefix, the smaller goes on with no larger byte
byte_from : (p c k : List ℕ) → Begins p c → Begins p k → AreBytes c → AreBytes k → length p ≤ 7 → length c ≡ 8 → length k ≡ 8 → key_number c ≤ key_number k → get_or c (length p) 0 ≤ get_or k (length p) 0
byte_from p c k bc bk hc hk short fc fk le =
    let x = goes_on p c bc hc short fc in
    let y = goes_on p k bk hk short fk in
    elim (cases_lt (get_or k (length p) 0) (get_or c (length p) 0)) [
      | inl less ↦
          let o = byte_order 8 p (get_or k (length p) 0) (get_or c (length p) 0) less (omega arith) in
          absurd (omega (arith, o, x.at_least, y.below))
      | inr more ↦ more
    ]

below_prefix : (p : List ℕ) (k : ℕ) → AreBytes p → length p ≤ 7 → k < 2 ^ 64 → low p ≤ k → k < high p → Begins p (bytes_of k)
below_prefix p k hp short small from to =
    let n = key-of_bytes k small in
    in_prefix p (bytes_of k) hp (bytes-of_key k) short refl (omega (arith, n)) (omega (arith, n))

-- a key from the cursor on goes on with no byte below the bound
from_bound : (p : List ℕ) (c k : ℕ) → AreBytes p → length p ≤ 7 → c < 2 ^ 64 → k < 2 ^ 64 → c < high p → Begins p (bytes_of k) → c ≤ k → bound_at c p ≤ next_byte p (bytes_of k)
from_bound p c k hp short cs ks under b le =
    elim (cases_lt c (low p)) [
      | inl less ↦ rw (lt-ltb c (low p) less) (omega arith)
      | inr more ↦
          let n = key-of_bytes k ks in
          let m = key-of_bytes c cs in
          rw (le-ltb c (low p) more)
          (byte_from p (bytes_of c) (bytes_of k) (below_prefix p c hp short cs more under) b (bytes-of_key c) (bytes-of_key k) short refl refl (omega (arith, n, m)))
    ]

module _ {C : Type 0} where
  -- no child from the byte on
  pub none_from : (es : List (ℕ × C)) (b z : ℕ) → first_from b es ≡ None → b ≤ z → lookup es z ≡ None
  none_from [] b z e le = refl
  none_from (x ∷ es) b z e le =
      elim (cases_lt x.0 b) [
        | inl less ↦ let e' = rw (lt-ltb x.0 b less) at e in rw (ne_eqb x.0 z (omega arith)) (none_from es b z e' le)
        | inr more ↦ absurd (let e' = rw (le-ltb x.0 b more) at e in none_some x.1 (sym e'))
      ]

  -- the first child
  pub first_found : (a top : ℕ) (es : List (ℕ × C)) (b : ℕ) (d : C) → Rises a top es → first_from b es ≡ Some d → (y : ℕ) × IsFirstChild b es y d
  first_found a top [] b d h e = absurd (none_some d e)
  first_found a top (x ∷ es) b d h e =
      elim (cases_lt x.0 b) [
        | inl less ↦
            let e' = rw (lt-ltb x.0 b less) at e in
            let f = first_found (x.0 + 1) top es b d h.2 e' in (
              f.0,
              record {
                at_least = f.1.at_least;
                here = rw (ne_eqb x.0 f.0 (omega (arith, f.1.at_least))) f.1.here;
                before = λ z p q. rw (ne_eqb x.0 z (omega arith)) (f.1.before z p q);
              },
            )
        | inr more ↦
            let e' : Some x.1 ≡ Some d = rw (le-ltb x.0 b more) at e in (
              x.0,
              record {
                at_least = more;
                here = rw (eq-eqb x.0 x.0 refl) e';
                before = λ z p q. rw (ne_eqb x.0 z (omega arith)) (lookup-below (x.0 + 1) top es z h.2 (omega arith));
              },
            )
      ]

module _ {P : Type 0} (t : NodeMap P) (root s : ℕ) (a : PlacedNode P) (c : ℕ) (placed : IsPlaced t root) (ha : IsLinked t s a) (cs : c < 2 ^ 64) (under : c < high a.node.prefix) where
  -- a key stored below the node, at the cursor or above: its next byte isn't below the bound, and under that byte is
  -- its payload, or a node on its path
  record Below (k : ℕ) (v : P) : Type 0 where
    pub begins : Begins a.node.prefix (bytes_of k)
    pub bound : bound_at c a.node.prefix ≤ byte_at a (bytes_of k)
    pub at_least : low (a.node.prefix ++ byte_at a (bytes_of k) ∷ []) ≤ k
    pub below : k < high (a.node.prefix ++ byte_at a (bytes_of k) ∷ [])
    pub way : (entry a (byte_at a (bytes_of k)) ≡ Some (Payload v)) ⊎ LeadsOn t a (bytes_of k)

  stands_below : (k : ℕ) (v : P) → k < 2 ^ 64 → c ≤ k → low a.node.prefix ≤ k → k < high a.node.prefix → Keeps t (bytes_of k) v → Below k v
  stands_below k v ks le from to h =
      let short = placed.short s a ha in
      let b = below_prefix a.node.prefix k (placed.bytes s a ha) short ks from to in
      let on = goes_on a.node.prefix (bytes_of k) b (bytes-of_key k) short refl in
      let n = key-of_bytes k ks in
      record {
        begins = b;
        bound = from_bound a.node.prefix c k (placed.bytes s a ha) short cs ks under b le;
        at_least = omega (arith, on.at_least, n);
        below = omega (arith, on.below, n);
        way =
            elim (toward_leaf t root (bytes_of k) placed s h.slot a h.leaf ha h.linked b h.begins h.full) [
              | inl e ↦ inl (leaf_entry t root (bytes_of k) placed s a v h ha e)
              | inr on ↦ inr on
            ];
      }

  -- so there is a child under that byte
  no_entry : (k : ℕ) (v : P) → Below k v → entry a (byte_at a (bytes_of k)) ≡ None → ⊥
  no_entry k v h none =
      elim h.way [
        | inl e ↦ none_some (Payload v) (sym none ∙ e)
        | inr on ↦ none_some (below_at on.slot) (sym none ∙ on.entry_is)
      ]

  pub passes_all : first_from (bound_at c a.node.prefix) a.node.children ≡ None → PassesNone t c (low a.node.prefix) (high a.node.prefix)
  passes_all none k v ks le from to h =
      let b = stands_below k v ks le from to h in
      no_entry k v b (none_from a.node.children (bound_at c a.node.prefix) (byte_at a (bytes_of k)) none b.bound)

  module _ (y : ℕ) (d : Child P) (first : IsFirstChild (bound_at c a.node.prefix) a.node.children y d) where
    y_byte : y < 256
    y_byte = (lookup-inside 0 256 a.node.children y d (placed.ordered s a ha) first.here).1

    grown : length (a.node.prefix ++ y ∷ []) ≤ 8
    grown = let l : length (a.node.prefix ++ y ∷ []) ≡ length a.node.prefix + 1 = length-append a.node.prefix (y ∷ []) in omega (arith, placed.short s a ha)

    grown_bytes : AreBytes (a.node.prefix ++ y ∷ [])
    grown_bytes = AreBytes-append a.node.prefix (y ∷ []) (placed.bytes s a ha) (y_byte, tt)

    grown_low : low a.node.prefix ≤ low (a.node.prefix ++ y ∷ [])
    grown_low = low-begins a.node.prefix (a.node.prefix ++ y ∷ []) (begins_append a.node.prefix (y ∷ [])) grown_bytes grown

    grown_high : high (a.node.prefix ++ y ∷ []) ≤ high a.node.prefix
    grown_high = high-begins a.node.prefix (a.node.prefix ++ y ∷ []) (begins_append a.node.prefix (y ∷ [])) grown_bytes grown

    -- the next byte of a key that is stored before the first child's end is that child's byte
    at_first : (k : ℕ) (v : P) → Below k v → k < high (a.node.prefix ++ y ∷ []) → byte_at a (bytes_of k) ≡ y
    at_first k v b to =
        elim (cases_order (byte_at a (bytes_of k)) y) [
          | inl same ↦ same
          | inr (inl less) ↦ absurd (no_entry k v b (first.before (byte_at a (bytes_of k)) b.bound less))
          | inr (inr more) ↦
              let o = byte_order 8 a.node.prefix y (byte_at a (bytes_of k)) more (omega (arith, placed.short s a ha)) in
              absurd (omega (arith, o, b.at_least))
        ]

  -- A payload is first: its key is stored, is at the cursor or above, and no key before it is stored.
  module _ (y : ℕ) (u : P) (first : IsFirstChild (bound_at c a.node.prefix) a.node.children y (Payload u)) where
    full : length a.node.prefix ≡ 7
    full = placed.leaf s a ha y u first.here

    eight : length (a.node.prefix ++ y ∷ []) ≡ 8
    eight = let l : length (a.node.prefix ++ y ∷ []) ≡ length a.node.prefix + 1 = length-append a.node.prefix (y ∷ []) in omega (arith, full)

    again : bytes_of (low (a.node.prefix ++ y ∷ [])) ≡ a.node.prefix ++ y ∷ []
    again = bytes-again (a.node.prefix ++ y ∷ []) (grown_bytes y (Payload u) first) eight

    begins_key : Begins a.node.prefix (bytes_of (low (a.node.prefix ++ y ∷ [])))
    begins_key = subst (λ z. Begins a.node.prefix z) (sym again) (begins_append a.node.prefix (y ∷ []))

    byte_is : byte_at a (bytes_of (low (a.node.prefix ++ y ∷ []))) ≡ y
    byte_is = ap (λ z. get_or z (length a.node.prefix) 0) again ∙ last-byte a.node.prefix y

    pub first_stands : Keeps t (bytes_of (low (a.node.prefix ++ y ∷ []))) u
    first_stands =
        present_here t root (bytes_of (low (a.node.prefix ++ y ∷ []))) placed s a u ha begins_key
        (subst (λ z. entry a z ≡ Some (Payload u)) (sym byte_is) first.here)

    pub first_small : low (a.node.prefix ++ y ∷ []) < 2 ^ 64
    first_small = key-small (a.node.prefix ++ y ∷ []) (grown_bytes y (Payload u) first) eight

    pub first_low : low a.node.prefix ≤ low (a.node.prefix ++ y ∷ [])
    first_low = grown_low y (Payload u) first

    pub first_before : PassesNone t c (low a.node.prefix) (low (a.node.prefix ++ y ∷ []))
    first_before k v ks le from to h =
        let room = room-positive 8 (a.node.prefix ++ y ∷ []) in
        let high' = grown_high y (Payload u) first in
        let b = stands_below k v ks le from (omega arith) h in
        let same = at_first y (Payload u) first k v b (omega arith) in
        let at : low (a.node.prefix ++ y ∷ []) ≤ k = subst (λ z. low (a.node.prefix ++ z ∷ []) ≤ k) same b.at_least in
        omega arith

    -- the key isn't below the cursor
    pub first_from_cursor : c ≤ low (a.node.prefix ++ y ∷ [])
    first_from_cursor =
        elim (cases_lt (low (a.node.prefix ++ y ∷ [])) c) [
          | inl less ↦
              let short = placed.short s a ha in
              let high_c : c < high a.node.prefix = under in
              let b = below_prefix a.node.prefix c (placed.bytes s a ha) short cs (omega (arith, first_low)) high_c in
              let on = goes_on a.node.prefix (bytes_of c) b (bytes-of_key c) short refl in
              let n = key-of_bytes c cs in
              let bound : bound_at c a.node.prefix ≡ get_or (bytes_of c) (length a.node.prefix) 0 = rw (le-ltb c (low a.node.prefix) (omega (arith, first_low))) refl in
              elim (cases_lt (get_or (bytes_of c) (length a.node.prefix) 0) y) [
                | inl under_y ↦
                    let o = byte_order 8 a.node.prefix (get_or (bytes_of c) (length a.node.prefix) 0) y under_y (omega (arith, full)) in
                    absurd (omega (arith, o, on.below, n))
                | inr from_y ↦
                    let same : get_or (bytes_of c) (length a.node.prefix) 0 ≡ y = omega (arith, first.at_least, bound) in
                    let whole : bytes_of c ≡ a.node.prefix ++ y ∷ [] =
                    key_number_at a.node.prefix (bytes_of c) y (subst (λ z. Begins (a.node.prefix ++ z ∷ []) (bytes_of c)) same on.begins) full refl in
                    let is : key_number (bytes_of c) ≡ low (a.node.prefix ++ y ∷ []) = ap low whole in
                    absurd (omega (arith, is, n))
              ]
          | inr more ↦ more
        ]

  -- A node is first: each key stored up to the end of its byte begins with its prefix.
  module _ (y j : ℕ) (b : PlacedNode P) (first : IsFirstChild (bound_at c a.node.prefix) a.node.children y (below_at j)) (there : t j ≡ Some b) where
    slots_same : (x z : ℕ) → let p : Child P = below_at x in let q : Child P = below_at z in Some p ≡ Some q → x ≡ z
    slots_same x z e = cc

    payload_below : (v : P) (r : ℕ) → let q : Child P = below_at r in Some q ≡ Some (Payload v) → ⊥
    payload_below v r e = cc

    child_short : length b.node.prefix ≤ 7
    child_short =
        let below : IsBelow t a y j = placed.below s a ha y j first.here in
        let same : below.node ≡ b = some_same below.node b (sym below.linked.here ∙ there) in
        subst (λ (z : PlacedNode P). length z.node.prefix ≤ 7) same (placed.short j below.node below.linked)

    child_begins : Begins (a.node.prefix ++ y ∷ []) b.node.prefix
    child_begins =
        let below : IsBelow t a y j = placed.below s a ha y j first.here in
        let same : below.node ≡ b = some_same below.node b (sym below.linked.here ∙ there) in
        subst (λ (z : PlacedNode P). Begins (a.node.prefix ++ y ∷ []) z.node.prefix) same below.begins

    child_bytes : AreBytes b.node.prefix
    child_bytes =
        let below : IsBelow t a y j = placed.below s a ha y j first.here in
        let same : below.node ≡ b = some_same below.node b (sym below.linked.here ∙ there) in
        subst (λ (z : PlacedNode P). AreBytes z.node.prefix) same (placed.bytes j below.node below.linked)

    in_child : (k : ℕ) (v : P) → k < 2 ^ 64 → c ≤ k → low a.node.prefix ≤ k → k < high (a.node.prefix ++ y ∷ []) → Keeps t (bytes_of k) v → (low b.node.prefix ≤ k) × (k < high b.node.prefix)
    in_child k v ks le from to h =
        let high' = grown_high y (below_at j) first in
        let at = stands_below k v ks le from (omega arith) h in
        let same = at_first y (below_at j) first k v at to in
        let found : entry a (byte_at a (bytes_of k)) ≡ Some (below_at j) = subst (λ z. entry a z ≡ Some (below_at j)) (sym same) first.here in
        let way : Begins b.node.prefix (bytes_of k) =
        elim at.way [
          | inl e ↦ absurd (payload_below v j (sym found ∙ e))
          | inr on ↦
              let slot : j ≡ on.slot = slots_same j on.slot (sym found ∙ on.entry_is) in
              let node : on.node ≡ b = some_same on.node b (sym on.linked.here ∙ (ap t (sym slot) ∙ there)) in
              subst (λ (z : PlacedNode P). Begins z.node.prefix (bytes_of k)) node on.begins
        ]
        in
        let n = key-of_bytes k ks in
        let l = low-begins b.node.prefix (bytes_of k) way (bytes-of_key k) (omega arith) in
        let g = goes_on b.node.prefix (bytes_of k) way (bytes-of_key k) child_short refl in
        let r = high-begins b.node.prefix (b.node.prefix ++ get_or (bytes_of k) (length b.node.prefix) 0 ∷ []) (begins_append b.node.prefix _)
        (AreBytes-append b.node.prefix _ child_bytes (g.byte, tt)) (let e : length (b.node.prefix ++ get_or (bytes_of k) (length b.node.prefix) 0 ∷ []) ≡ length b.node.prefix + 1 = length-append b.node.prefix _ in omega (arith, child_short)) in
        (omega (arith, l, n), omega (arith, g.below, r, n))

    pub passes_down : PassesNone t c (low a.node.prefix) (low b.node.prefix)
    passes_down k v ks le from to h =
        let room = room-positive 8 b.node.prefix in
        let inside = high-begins (a.node.prefix ++ y ∷ []) b.node.prefix child_begins child_bytes (omega (arith, child_short)) in
        let k' = in_child k v ks le from (omega arith) h in
        absurd (omega (arith, k'.0))

    pub passes_over : high b.node.prefix ≤ c → PassesNone t c (low a.node.prefix) (high (a.node.prefix ++ y ∷ []))
    passes_over past k v ks le from to h = let k' = in_child k v ks le from to h in absurd (omega (arith, k'.1))

    -- the cursor isn't past the end of the byte
    pub within : c ≤ high (a.node.prefix ++ y ∷ [])
    within =
        elim (cases_lt (high (a.node.prefix ++ y ∷ [])) c) [
          | inl past ↦
              let short = placed.short s a ha in
              let room = room-positive 8 (a.node.prefix ++ y ∷ []) in
              let from : low a.node.prefix ≤ c = omega (arith, grown_low y (below_at j) first) in
              let begins = below_prefix a.node.prefix c (placed.bytes s a ha) short cs from under in
              let on = goes_on a.node.prefix (bytes_of c) begins (bytes-of_key c) short refl in
              let n = key-of_bytes c cs in
              let bound : bound_at c a.node.prefix ≡ get_or (bytes_of c) (length a.node.prefix) 0 = rw (le-ltb c (low a.node.prefix) from) refl in
              elim (cases_lt (get_or (bytes_of c) (length a.node.prefix) 0) y) [
                | inl less ↦
                    let o = byte_order 8 a.node.prefix (get_or (bytes_of c) (length a.node.prefix) 0) y less (omega arith) in
                    absurd (omega (arith, o, on.below, n))
                | inr more ↦
                    let same : get_or (bytes_of c) (length a.node.prefix) 0 ≡ y = omega (arith, first.at_least, bound) in
                    let to : key_number (bytes_of c) < high (a.node.prefix ++ y ∷ []) = subst (λ z. key_number (bytes_of c) < high (a.node.prefix ++ z ∷ [])) same on.below in
                    absurd (omega (arith, to, n))
              ]
          | inr more ↦ more
        ]
