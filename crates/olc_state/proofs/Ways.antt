-- What a checked read proves about the map.
use Rattle.std.proofs.Common.{◌≡◌, ℕ, zero, suc, ◌+◌, ◌<◌, ◌≤◌, Bool, true, false, List, [], ◌∷◌, ◌++◌, length, get_or, Some, None, ◌⊎◌, inl, inr, sym, ap, refl, ◌∙◌, subst, arith, length-append, append_assoc}
use Rattle.spec_node.specs.Key.{Begins}
use Rattle.node_table.proofs.BeginLaws.{after, begins_by}
use Rattle.spec_node.specs.TableNode.{Child}
use Rattle.spec_node.specs.declared.child.Child.TheVariants.{Payload, Node as below_at}
use Rattle.spec_olc.specs.Lock.{IsFree}
use Rattle.olc_state.specs.inner.World.{PlacedNode, NodeMap, NodeLifetime, entry}
use Rattle.olc_state.specs.inner.Tables.{IsSafe, byte_at, IsLinked, IsBelow, LeadsOn, IsPlaced, Keeps, Known, IsThere, LedTo, OnPath, TestOf}
use Rattle.olc_state.specs.declared.stage.Spot.{Spot}
use Rattle.olc_state.specs.declared.stage.Path.{Path}
use Rattle.olc_state.proofs.Options.{none_some, some_same}

-- a beginning is no longer
pub length-begins : (p q : List ℕ) → Begins p q → length p ≤ length q
length-begins p q b =
    let a = after b in
    let e : length q ≡ length p + length a.rest = ap length a.is ∙ length-append p a.rest in omega arith

pub Begins-trans : (p q r : List ℕ) → Begins p q → Begins q r → Begins p r
Begins-trans p q r b c =
    let x = after b in
    let y = after c in
    begins_by p (x.rest ++ y.rest) r (y.is ∙ ap (λ z. z ++ y.rest) x.is ∙ append_assoc p x.rest y.rest)

-- two beginnings of one list: the shorter begins the longer
both_at : (p q x y : List ℕ) → p ++ x ≡ q ++ y → length p ≤ length q → (r : List ℕ) × (q ≡ p ++ r)
both_at [] q x y e h = (q, refl)
both_at (a ∷ p) [] x y e h = absurd (omega arith)
both_at (a ∷ p) (b ∷ q) x y e h =
    let head : a ≡ b = cc in
    let tail : p ++ x ≡ q ++ y = cc in
    let k = both_at p q x y tail (omega arith) in
    (k.0, (ap (λ z. b ∷ z) k.1 ∙ ap (λ z. z ∷ (p ++ k.0)) (sym head)))

pub Begins-both : (p q k : List ℕ) → Begins p k → Begins q k → length p ≤ length q → Begins p q
Begins-both p q k b c h =
    let x = after b in
    let y = after c in
    let r = both_at p q x.rest y.rest (sym x.is ∙ y.is) h in
    begins_by p r.0 q r.1

-- a byte of a beginning is that byte of the list
get_or-left : (p r : List ℕ) (i : ℕ) → i < length p → get_or (p ++ r) i 0 ≡ get_or p i 0
get_or-left [] r i h = absurd (omega arith)
get_or-left (a ∷ p) r zero h = refl
get_or-left (a ∷ p) r (suc i) h = get_or-left p r i (omega arith)

pub get_or-begins : (q k : List ℕ) (i : ℕ) → Begins q k → i < length q → get_or q i 0 ≡ get_or k i 0
get_or-begins q k i b h =
    let x = after b in
    subst (λ (z : List ℕ). get_or q i 0 ≡ get_or z i 0) (sym x.is) (sym (get_or-left q x.rest i h))

-- a list with one byte more is longer
pub longer-begins : (p q : List ℕ) (b : ℕ) → Begins (p ++ b ∷ []) q → length p < length q
longer-begins p q b h =
    let l = length-begins (p ++ b ∷ []) q h in
    let e : length (p ++ b ∷ []) ≡ length p + 1 = length-append p (b ∷ []) in omega arith

module _ {P : Type 0} where
  pub slots_same : (s r : ℕ) → let c : Child P = below_at s in let d : Child P = below_at r in Some c ≡ Some d → s ≡ r
  slots_same s r e = cc

  pub payload_below : (v : P) (r : ℕ) → let c : Child P = below_at r in Some c ≡ Some (Payload v) → ⊥
  payload_below v r e = cc

  module _ (t : NodeMap P) (root : ℕ) (k : List ℕ) (placed : IsPlaced t root) where
    -- a linked node and a linked leaf of one key: they are one, or the node leads on by the key's byte
    pub toward_leaf : (s r : ℕ) (a l : PlacedNode P) → IsLinked t s a → IsLinked t r l → Begins a.node.prefix k → Begins l.node.prefix k → length l.node.prefix ≡ 7 → (s ≡ r) ⊎ LeadsOn t a k
    toward_leaf s r a l ha hl ba bl len =
        let short : length a.node.prefix ≤ 7 = placed.short s a ha in
        let b : Begins a.node.prefix l.node.prefix = Begins-both a.node.prefix l.node.prefix k ba bl (omega arith) in
        elim (placed.leads s r a l ha hl b) [
          | inl e ↦ inl e
          | inr on ↦
              let below : IsBelow t a (byte_at a l.node.prefix) on.slot = placed.below s a ha (byte_at a l.node.prefix) on.slot on.entry_is in
              let same : below.node ≡ on.node = some_same below.node on.node (sym below.linked.here ∙ on.linked.here) in
              let shorter : length on.node.node.prefix ≤ length l.node.prefix = length-begins on.node.node.prefix l.node.prefix on.begins in
              let longer : length a.node.prefix < length on.node.node.prefix =
              subst (λ (z : PlacedNode P). length a.node.prefix < length z.node.prefix) same (longer-begins a.node.prefix below.node.node.prefix (byte_at a l.node.prefix) below.begins) in
              let byte : byte_at a l.node.prefix ≡ byte_at a k = get_or-begins l.node.prefix k (length a.node.prefix) bl (omega arith) in
              inr (record {
                slot = on.slot;
                node = on.node;
                entry_is = subst (λ (z : ℕ). entry a z ≡ Some (below_at on.slot)) byte on.entry_is;
                linked = on.linked;
                begins = Begins-trans on.node.node.prefix l.node.prefix k on.begins bl;
              })
        ]

    -- what a leaf that is this node has under the key's byte
    pub leaf_entry : (s : ℕ) (a : PlacedNode P) (v : P) (h : Keeps t k v) → IsLinked t s a → s ≡ h.slot → entry a (byte_at a k) ≡ Some (Payload v)
    leaf_entry s a v h ha e =
        let at : t s ≡ Some h.leaf = subst (λ (z : ℕ). t z ≡ Some h.leaf) (sym e) h.linked.here in
        let same : a ≡ h.leaf = some_same a h.leaf (sym ha.here ∙ at) in
        subst (λ (z : PlacedNode P). entry z (byte_at z k) ≡ Some (Payload v)) (sym same) h.payload

    -- nothing under the key's byte of a linked node on its way: the key is absent
    pub absent_here : (s : ℕ) (a : PlacedNode P) → IsLinked t s a → Begins a.node.prefix k → entry a (byte_at a k) ≡ None → (v : P) → Keeps t k v → ⊥
    absent_here s a ha ba none v h =
        elim (toward_leaf s h.slot a h.leaf ha h.linked ba h.begins h.full) [
          | inl e ↦ none_some (Payload v) (sym none ∙ leaf_entry s a v h ha e)
          | inr on ↦ none_some (below_at on.slot) (sym none ∙ on.entry_is)
        ]

    -- the child on the key's way has another prefix: the key is absent
    pub absent_mismatch : (s c : ℕ) (a b : PlacedNode P) → IsLinked t s a → Begins a.node.prefix k → entry a (byte_at a k) ≡ Some (below_at c) → t c ≡ Some b
        → (Begins b.node.prefix k → ⊥) → (v : P) → Keeps t k v → ⊥
    absent_mismatch s c a b ha ba child hb other v h =
        elim (toward_leaf s h.slot a h.leaf ha h.linked ba h.begins h.full) [
          | inl e ↦ payload_below v c (sym child ∙ leaf_entry s a v h ha e)
          | inr on ↦
              let slot : c ≡ on.slot = slots_same c on.slot (sym child ∙ on.entry_is) in
              let at : t c ≡ Some on.node = subst (λ (z : ℕ). t z ≡ Some on.node) (sym slot) on.linked.here in
              let same : on.node ≡ b = some_same on.node b (sym at ∙ hb) in
              other (subst (λ (z : PlacedNode P). Begins z.node.prefix k) same on.begins)
        ]

    -- a payload under the key's byte of a linked node on its way: the key is present
    pub present_here : (s : ℕ) (a : PlacedNode P) (v : P) → IsLinked t s a → Begins a.node.prefix k → entry a (byte_at a k) ≡ Some (Payload v) → Keeps t k v
    present_here s a v ha ba there = record { slot = s; leaf = a; linked = ha; full = placed.leaf s a ha (byte_at a k) v there; begins = ba; payload = there }

    -- a remembered node whose word is the remembered one is linked
    pub known_linked : (pin : ℕ) (spot : Spot) (a : PlacedNode P) → Known t pin spot → t spot.slot ≡ Some a → a.word ≡ spot.word → IsLinked t spot.slot a
    known_linked pin spot a kn at w =
        let same : kn.node ≡ a = some_same kn.node a (sym kn.here ∙ at) in
        let safe : IsSafe pin a.lifetime = subst (λ (z : PlacedNode P). IsSafe pin z.lifetime) same kn.safe in
        let free : IsFree a.word = subst (λ (z : ℕ). IsFree z) (sym w) kn.free in
        elim (placed.free spot.slot a at free) [
          | inl e ↦ record { here = at; lifetime = e }
          | inr e ↦ absurd (subst (λ (z : NodeLifetime). IsSafe pin z) e safe)
        ]

    module _ (pin : ℕ) (path : Path) (a : PlacedNode P) (on : OnPath t root pin k path) (at : t path.here.slot ≡ Some a) (word : a.word ≡ path.here.word) where
      linked : IsLinked t path.here.slot a
      linked = known_linked pin path.here a on.here at word

      -- the word is unchanged, and nothing was read: the key is absent
      pub check_absent : entry a (byte_at a k) ≡ None → (v : P) → Keeps t k v → ⊥
      check_absent none = absent_here path.here.slot a linked (on.way a at) none

      -- a payload was read: the key is present
      pub check_present : (v : P) → entry a (byte_at a k) ≡ Some (Payload v) → Keeps t k v
      check_present v there = present_here path.here.slot a v linked (on.way a at) there

      -- a node was read: it is there and safe
      pub check_below : (slot : ℕ) → entry a (byte_at a k) ≡ Some (below_at slot) → IsThere t pin slot
      check_below slot there =
          let below : IsBelow t a (byte_at a k) slot = placed.below path.here.slot a linked (byte_at a k) slot there in
          record { node = below.node; here = below.linked.here; safe = subst (λ (z : NodeLifetime). IsSafe pin z) (sym below.linked.lifetime) tt }

      -- the node that was read has another prefix: the key is absent
      pub check_mismatch : (below : Spot) (fits : Bool) → LedTo t path.here k below.slot → Known t pin below → TestOf t below.slot k fits → fits ≡ false → (v : P) → Keeps t k v → ⊥
      check_mismatch below fits led kn test off =
          absent_mismatch path.here.slot below.slot a kn.node linked (on.way a at) (led a at word) kn.here
          (λ (b : Begins kn.node.node.prefix k). let reports : fits ≡ true = (test kn.node kn.here).1 b in cc)
