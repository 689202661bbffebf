-- What a node shows of keys that aren't there, and of those of a leaf.
use Rattle.std.proofs.Common.{◌≡◌, ◌≢◌, ℕ, zero, suc, ◌+◌, ◌-◌, ◌*◌, ◌/◌, ◌%◌, ◌<◌, ◌≤◌, Bool, true, false, cond, List, Option, Some, None, refl, sym, ap, ◌∙◌, subst, arith}
use Rattle.spec_map.specs.Map.{Pairs, lookup, Rises}
use Rattle.spec_node.specs.TableNode.{Child}
use Rattle.spec_node.specs.declared.child.Child.TheVariants.{Payload, Node as Below}
use Rattle.word_book.specs.Book.{Book, Name}
use Rattle.live_nodes.specs.Seats.{SeatView}
use Rattle.live_layout.specs.Encodes.{IsBelow, payload_of}
use Rattle.live_layout.specs.Order.{IsFrom, HasNearest}
use Rattle.live_layout.specs.Page.{AreListed}
use Rattle.live_nodes.specs.Levels.{up, digit, Covers, Shape, Spot}
use Rattle.live_nodes.specs.Views.{View}
use Rattle.live_nodes.specs.Tree.{IsOfKind}
use Rattle.live_nodes.proofs.Plans.{bytes_above-key, joined, digit-low}
use Rattle.live_reads.specs.Paths.{Names}
use Rattle.live_scans.specs.inner.Moments.{HasUnder, IsRead, HasNone, IsWithin, Reads}
use Rattle.live_scans.specs.inner.Directions.{low_of, high_of}
use Rattle.live_scans.proofs.Uppers.{up-rises}
use Rattle.live_scans.proofs.Composed.{one_moment}

abbrev Seen : Type 0
Seen = SeatView View

-- AT A NODE
module _ (id : ℕ) (v w : Seen) (name key height : ℕ) (n : Names v name key height) (word : ℕ) (saw : List (ℕ × ℕ)) (x : IsRead id v.client n.spot n.spot.shape word saw w.client) where
  pub covers_like : (k : ℕ) → up height k ≡ up height key → Covers n.spot.shape k
  covers_like k e = subst (λ (z : ℕ). up z k ≡ up z key) (sym n.high) e ∙ n.covers

  pub at_digit : (k : ℕ) → HasUnder v.client n.spot.number word x.pairs k (lookup x.node.its.children (digit n.spot.shape.height k)) → HasUnder v.client n.spot.number word x.pairs k (lookup x.node.its.children (digit height k))
  at_digit k h = subst (λ (z : ℕ). HasUnder v.client n.spot.number word x.pairs k (lookup x.node.its.children (digit z k))) n.high h

  pub has_none_from : (rising : Bool) → (byte b : ℕ) → byte ≡ digit height key → HasNearest rising x.node.its.children byte None → HasNone id v w (IsWithin rising height key b)
  has_none_from rising byte b is near = record {
    fits = x.fits;
    pairs = x.pairs;
    legal = x.legal;
    none = λ k l.
        let none : lookup x.node.its.children (digit height k) ≡ None = near (digit height k) (subst (λ (z : ℕ). IsFrom rising z (digit height k)) (sym is) l.1) in
        subst (λ (o : Option (Child ℕ)). HasUnder v.client n.spot.number word x.pairs k o) none (at_digit k (x.under k (covers_like k l.0)));
  }

-- A LEAF
pub leaf_value : (v : View) (number word : ℕ) (m : Pairs ℕ) (k : ℕ) (o : Option (Child ℕ)) → IsOfKind 1 o → HasUnder v number word m k o → payload_of o ≡ lookup m k
leaf_value v number word m k None kind u = sym u
leaf_value v number word m k (Some (Payload x)) kind u = sym u
leaf_value v number word m k (Some (Below s)) kind u = absurd kind

-- what the map has at a key of the leaf
pub value_at : (id : ℕ) (v w : Seen) (a : Spot) (s : Shape) (base from to : ℕ) → s.height ≡ 1 → Covers s (base + from) → (word : ℕ) (saw : List (ℕ × ℕ)) (x : IsRead id v.client a s word saw w.client) → base % 256 ≡ 0 → from ≤ 255 → to ≤ 255 → (k : ℕ) → base ≤ k → k < base + to + 1 → payload_of (lookup x.node.its.children (k - base)) ≡ lookup x.pairs k
value_at id v w a s base from to high_is covers_it word saw x whole small high k lk hk =
    let b : ℕ = k - base in
    let is : base + b ≡ k = omega (arith, lk) in
    let up1 : up 1 k ≡ up 1 (base + from) = omega (arith, whole, lk, hk, high, small) in
    let dig : digit 1 k ≡ b = omega (arith, whole, lk, hk, high) in
    let covers : Covers s k = subst (λ (z : ℕ). up z k ≡ up z (base + from)) (sym high_is) up1 ∙ covers_it in
    let kind : IsOfKind 1 (lookup x.node.its.children b) = subst (λ (z : ℕ). IsOfKind z (lookup x.node.its.children b)) high_is (x.of_kind b (omega (arith, hk, high, is))) in
    let under : HasUnder v.client a.number word x.pairs k (lookup x.node.its.children b) = subst (λ (z : ℕ). HasUnder v.client a.number word x.pairs k (lookup x.node.its.children z)) (ap (λ (z : ℕ). digit z k) high_is ∙ dig) (x.under k covers) in
    leaf_value v.client a.number word x.pairs k (lookup x.node.its.children b) kind under

pub leaf_reads : (up : Bool) (id : ℕ) (v w : Seen) (a : Spot) (s : Shape) (base first from to : ℕ) → s.height ≡ 1 → Covers s (base + first) → (word : ℕ) (saw : List (ℕ × ℕ)) (x : IsRead id v.client a s word saw w.client) (ps : Pairs ℕ) → base % 256 ≡ 0 → first ≤ 255 → to ≤ 255 → AreListed x.node.its base from (to + 1) ps → Reads up id v w (base + from) (base + to + 1) ps
leaf_reads up id v w a s base first from to high_is covers word saw x ps whole low high listed = record {
  fits = x.fits;
  legal = (x.pairs, x.legal);
  read = one_moment up v.client.seen w.client.seen x.pairs (base + from) (base + to + 1) ps x.fits.begins x.legal
      (subst (λ (z : ℕ). Rises (base + from) z ps) (let e : base + (to + 1) ≡ base + to + 1 = omega arith in e) listed.ascend)
      (λ k lk hk.
      let b : ℕ = k - base in
      let is : base + b ≡ k = omega (arith, lk) in
      let value = value_at id v w a s base first to high_is covers word saw x whole low high k (omega (arith, lk)) hk in
      subst (λ (z : ℕ). lookup ps z ≡ lookup x.pairs k) is (listed.value b (omega (arith, lk, is)) (omega (arith, hk, is)) ∙ value));
}

-- a part of the leaf, up to where it was read in that direction
pub part_reads : (up : Bool) (id : ℕ) (v w : Seen) (a : Spot) (s : Shape) (base first last reached : ℕ) → s.height ≡ 1 → Covers s (base + first) → (word : ℕ) (saw : List (ℕ × ℕ)) (x : IsRead id v.client a s word saw w.client) (ps : Pairs ℕ) → base % 256 ≡ 0 → first ≤ last → last ≤ 255 → reached ≤ last → AreListed x.node.its base (cond up first reached) (cond up (reached + 1) (last + 1)) ps
    → Reads up id v w (low_of up (base + cond up first last) (base + reached)) (high_of up (base + cond up first last) (base + reached)) ps
part_reads true id v w a s base first last reached high_is covers word saw x ps whole order high within listed = leaf_reads true id v w a s base first first reached high_is covers word saw x ps whole (omega (arith, order, high)) (omega (arith, within, high)) listed
part_reads false id v w a s base first last reached high_is covers word saw x ps whole order high within listed = leaf_reads false id v w a s base first reached last high_is covers word saw x ps whole (omega (arith, order, high)) high listed

-- RANGES of keys
within : (rising : Bool) → (h key last b k : ℕ) → b < 256 → up h last ≡ 256 * up (suc h) key + b → IsFrom rising key k → IsFrom rising k last → IsWithin rising (suc h) key b k
within true h key last b k low is from to =
    let x = up-rises h key k from in
    let y = up-rises h k last to in
    (omega (arith, x, y, is, low), omega (arith, x, y, is, low), omega (arith, x, y, is, low))
within false h key last b k low is from to =
    let x = up-rises h k key from in
    let y = up-rises h last k to in
    (omega (arith, x, y, is, low), omega (arith, x, y, is, low), omega (arith, x, y, is, low))

pub is_within : (rising : Bool) → (height key last b k : ℕ) → 1 ≤ height → b < 256 → up (height - 1) last ≡ 256 * up height key + b → IsFrom rising key k → IsFrom rising k last → IsWithin rising height key b k
is_within rising height key last b k some low is from to =
    let e : suc (height - 1) ≡ height = omega (arith, some) in
    subst (λ (z : ℕ). IsWithin rising z key b k) e (within rising (height - 1) key last b k low (subst (λ (z : ℕ). up (height - 1) last ≡ 256 * up z key + b) (sym e) is) from to)
