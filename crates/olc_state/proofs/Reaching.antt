-- A slot is reachable exactly if it is linked, and the stored pairs are those of the linked leaves.
use Rattle.std.proofs.Common.{◌≡◌, ℕ, zero, suc, ◌+◌, ◌^◌, ◌<◌, ◌≤◌, List, [], ◌∷◌, ◌++◌, length, length-append, get_or, Option, Some, None, inl, inr, refl, sym, subst, ap, ◌∙◌, arith}
use Rattle.std.proofs.lemmas.Nat.{be_bytes_8, from_be_bytes-to_be_bytes_8}
use Rattle.std.proofs.lemmas.Bool.Decides.{eqb_tells}
use Rattle.std.proofs.lemmas.Bool.{ne_eqb}
use Rattle.spec_map.specs.Map.{lookup, Rises}
use Rattle.spec_node.specs.Key.{Begins, AreBytes, low, key_number, span, room, least}
use Rattle.spec_node.specs.declared.child.Child.TheVariants.{Payload, Node as below_at}
use Rattle.node_table.proofs.KeyLaws.{goes_on, key_number_at, key_number-be_bytes, least-bound, room-positive, AreBytes-append}
use Rattle.node_table.proofs.BeginLaws.{begins_append}
use Rattle.spec_olc.specs.Calls.{bytes_of}
use Rattle.spec_olc.specs.Content.{Reaches, at_root, by_child, IsStoredAt}
use Rattle.spec_olc.specs.State.{State}
use Rattle.spec_olc.specs.State as state
use Rattle.olc_state.specs.inner.Shown.{lifetime, shown}
use Rattle.olc_state.specs.inner.Tables.{byte_at, IsLinked, IsBelow, LeadsOn, IsPlaced, Keeps}
use Rattle.olc_state.specs.inner.Turns.{ShowsNodes}
use Rattle.olc_state.specs.inner.World.{PlacedNode, NodeMap, entry}
use Rattle.olc_state.proofs.Ways.{longer-begins, length-begins}
use Rattle.olc_state.proofs.Options.{none_some, some_same}

-- the bytes of a key, and the key of eight bytes
pub bytes-of_key : (key : ℕ) → AreBytes (bytes_of key)
bytes-of_key key = (omega arith, (omega arith, (omega arith, (omega arith, (omega arith, (omega arith, (omega arith, (omega arith, tt))))))))

pub key-of_bytes : (key : ℕ) → key < 2 ^ 64 → key_number (bytes_of key) ≡ key
key-of_bytes key small = key_number-be_bytes (bytes_of key) refl ∙ from_be_bytes-to_be_bytes_8 key small

byte-small : (p : List ℕ) → AreBytes p → (i : ℕ) → get_or p i 0 < 256
byte-small [] h i = omega arith
byte-small (b ∷ p) h zero = h.0
byte-small (b ∷ p) h (suc i) = byte-small p h.1 i

pub bytes-again : (p : List ℕ) → AreBytes p → length p ≡ 8 → bytes_of (low p) ≡ p
bytes-again p h l = be_bytes_8 p (low p) l (byte-small p h) (key_number-be_bytes p l)

pub key-small : (p : List ℕ) → AreBytes p → length p ≡ 8 → low p < 2 ^ 64
key-small p h l =
    let bound : least 8 p + room 8 p ≤ span 8 = least-bound 8 p h (omega arith) in
    let some : 0 < room 8 p = room-positive 8 p in
    let is : span 8 ≡ 2 ^ 64 = refl in omega arith

-- a key that is found is in the range
pub lookup-inside : {V : Type 0} (a b : ℕ) (es : List (ℕ × V)) (k : ℕ) (v : V) → Rises a b es → lookup es k ≡ Some v → (a ≤ k) × (k < b)
lookup-inside a b [] k v h e = absurd (none_some v e)
lookup-inside {V} a b (x ∷ es) k v h e =
    elim (eqb_tells x.0 k) [
      | inl same ↦ let i : x.0 ≡ k = same.1 in (omega arith, omega arith)
      | inr off ↦
          let next : lookup es k ≡ Some v = subst (λ (o : Option V). o ≡ Some v) (rw (ne_eqb x.0 k off.1) refl) e in
          let r = lookup-inside (x.0 + 1) b es k v h.2 next in (omega arith, r.1)
    ]

-- the byte after a list
pub last-byte : (p : List ℕ) (b : ℕ) → get_or (p ++ b ∷ []) (length p) 0 ≡ b
last-byte [] b = refl
last-byte (x ∷ p) b = last-byte p b

module _ {M : Type 0} where
  -- what a reader sees of a node
  abbrev pub one : PlacedNode M → state.VersionedNode M
  one a = record { word = a.word; lifetime = lifetime a.lifetime; node = a.node }

  shown_same : (a b : state.VersionedNode M) → Some a ≡ Some b → b ≡ a
  shown_same a b e = cc

  -- what a reader sees is a node's
  pub shown_at : (x : Option (PlacedNode M)) (b : state.VersionedNode M) → shown x ≡ Some b → (a : PlacedNode M) × (x ≡ Some a) × (b ≡ one a)
  shown_at None b e = absurd (none_some b e)
  shown_at (Some a) b e = (a, refl, shown_same (one a) b e)

  pub seen_at : (t : NodeMap M) (root : ℕ) (s : State M) → ShowsNodes t root s → (slot : ℕ) (a : PlacedNode M) → t slot ≡ Some a → lookup s.nodes slot ≡ Some (one a)
  seen_at t root s shows slot a at = shows.nodes slot ∙ ap shown at

module _ {M : Type 0} (t : NodeMap M) (root : ℕ) (s : State M) (placed : IsPlaced t root) (shows : ShowsNodes t root s) where
  -- what is reachable is linked
  pub reaches_linked : (slot : ℕ) → Reaches s slot → (a : PlacedNode M) × IsLinked t slot a
  reaches_linked slot at_root = (placed.top, subst (λ (z : ℕ). IsLinked t z placed.top) (sym shows.root_is) placed.top_linked)
  reaches_linked c (by_child above byte b r here there) =
      let f = reaches_linked above r in
      let x = shown_at (t above) b (sym (shows.nodes above) ∙ here) in
      let same : x.0 ≡ f.0 = some_same x.0 f.0 (sym x.1 ∙ f.1.here) in
      let e : entry x.0 byte ≡ Some (below_at c) = subst (λ (z : state.VersionedNode M). lookup z.node.children byte ≡ Some (below_at c)) x.2 there in
      let g : IsBelow t f.0 byte c = placed.below above f.0 f.1 byte c (subst (λ (z : PlacedNode M). entry z byte ≡ Some (below_at c)) same e) in
      (g.node, g.linked)

  -- a node that leads on has a shorter prefix than the next, which is no longer than the key
  pub onward : (slot : ℕ) (a : PlacedNode M) (k : List ℕ) → IsLinked t slot a → (on : LeadsOn t a k) → (length a.node.prefix < length on.node.node.prefix) × (length on.node.node.prefix ≤ length k)
  onward slot a k ha on =
      let below : IsBelow t a (byte_at a k) on.slot = placed.below slot a ha (byte_at a k) on.slot on.entry_is in
      let same : below.node ≡ on.node = some_same below.node on.node (sym below.linked.here ∙ on.linked.here) in (
        subst (λ (z : PlacedNode M). length a.node.prefix < length z.node.prefix) same (longer-begins a.node.prefix below.node.node.prefix (byte_at a k) below.begins),
        length-begins on.node.node.prefix k on.begins,
      )

  -- from a reachable linked node to another whose prefix begins with its own
  descends : (n : ℕ) (p r : ℕ) (a b : PlacedNode M) → Reaches s p → IsLinked t p a → IsLinked t r b → Begins a.node.prefix b.node.prefix
      → length b.node.prefix ≤ length a.node.prefix + n → Reaches s r
  descends zero p r a b reach ha hb h le =
      elim (placed.leads p r a b ha hb h) [
        | inl e ↦ subst (λ (z : ℕ). Reaches s z) e reach
        | inr on ↦ let l = onward p a b.node.prefix ha on in absurd (omega (arith, l.0, l.1, le))
      ]
  descends (suc n) p r a b reach ha hb h le =
      elim (placed.leads p r a b ha hb h) [
        | inl e ↦ subst (λ (z : ℕ). Reaches s z) e reach
        | inr on ↦
            let l = onward p a b.node.prefix ha on in
            descends n on.slot r on.node b (by_child p (byte_at a b.node.prefix) (one a) reach (seen_at t root s shows p a ha.here) on.entry_is) on.linked hb on.begins (omega (arith, l.0, le))
      ]

  -- and what is linked is reachable
  pub linked_reaches : (slot : ℕ) (a : PlacedNode M) → IsLinked t slot a → Reaches s slot
  linked_reaches slot a ha =
      let top : Begins placed.top.node.prefix a.node.prefix = subst (λ (z : List ℕ). Begins z a.node.prefix) (sym placed.top_prefix) (record { holds = refl }) in
      let le : length a.node.prefix ≤ length placed.top.node.prefix + length a.node.prefix = omega arith in
      let first : Reaches s root = subst (λ (z : ℕ). Reaches s z) shows.root_is at_root in
      descends (length a.node.prefix) root slot placed.top a first placed.top_linked ha top le

  -- a pair of a linked leaf is stored
  pub keeps_stands : (key : ℕ) (v : M) → key < 2 ^ 64 → Keeps t (bytes_of key) v → IsStoredAt s key v
  keeps_stands key v small h =
      let on = goes_on h.leaf.node.prefix (bytes_of key) h.begins (bytes-of_key key) (placed.short h.slot h.leaf h.linked) refl in
      let split : bytes_of key ≡ h.leaf.node.prefix ++ byte_at h.leaf (bytes_of key) ∷ [] = key_number_at h.leaf.node.prefix (bytes_of key) (byte_at h.leaf (bytes_of key)) on.begins h.full refl in
      record {
        slot = h.slot;
        byte = byte_at h.leaf (bytes_of key);
        payload = record {
          above = one h.leaf;
          reaches = linked_reaches h.slot h.leaf h.linked;
          here = seen_at t root s shows h.slot h.leaf h.linked.here;
          entry = h.payload;
        };
        key_is = sym (key-of_bytes key small) ∙ ap low split;
      }

  -- and a stored pair is in a linked leaf
  pub stands_keeps : (key : ℕ) (v : M) → IsStoredAt s key v → Keeps t (bytes_of key) v × (key < 2 ^ 64)
  stands_keeps key v h =
      let f = reaches_linked h.slot h.payload.reaches in
      let x = shown_at (t h.slot) h.payload.above (sym (shows.nodes h.slot) ∙ h.payload.here) in
      let same : x.0 ≡ f.0 = some_same x.0 f.0 (sym x.1 ∙ f.1.here) in
      let leaf : h.payload.above ≡ one f.0 = x.2 ∙ ap one same in
      let e : entry f.0 h.byte ≡ Some (Payload v) = subst (λ (z : state.VersionedNode M). lookup z.node.children h.byte ≡ Some (Payload v)) leaf h.payload.entry in
      let full : length f.0.node.prefix ≡ 7 = placed.leaf h.slot f.0 f.1 h.byte v e in
      let inside = lookup-inside 0 256 f.0.node.children h.byte (Payload v) (placed.ordered h.slot f.0 f.1) e in
      let whole : List ℕ = f.0.node.prefix ++ h.byte ∷ [] in
      let bytes : AreBytes whole = AreBytes-append f.0.node.prefix (h.byte ∷ []) (placed.bytes h.slot f.0 f.1) (inside.1, tt) in
      let grown : length whole ≡ length f.0.node.prefix + 1 = length-append f.0.node.prefix (h.byte ∷ []) in
      let eight : length whole ≡ 8 = omega arith in
      let key_is : key ≡ low whole = subst (λ (z : state.VersionedNode M). key ≡ low (z.node.prefix ++ h.byte ∷ [])) leaf h.key_is in
      let again : bytes_of key ≡ whole = ap bytes_of key_is ∙ bytes-again whole bytes eight in
      let begins : Begins f.0.node.prefix (bytes_of key) = subst (λ z. Begins f.0.node.prefix z) (sym again) (begins_append f.0.node.prefix (h.byte ∷ [])) in
      let byte : byte_at f.0 (bytes_of key) ≡ h.byte = ap (λ z. get_or z (length f.0.node.prefix) 0) again ∙ last-byte f.0.node.prefix h.byte in (
        record { slot = h.slot; leaf = f.0; linked = f.1; full = full; begins = begins; payload = subst (λ z. entry f.0 z ≡ Some (Payload v)) (sym byte) e },
        subst (λ z. z < 2 ^ 64) (sym key_is) (key-small whole bytes eight),
      )
