-- What a key sees of a node, by the node's prefix.
use Rattle.std.proofs.Common.{◌≡◌, ℕ, zero, suc, ◌+◌, ◌-◌, ◌*◌, ◌%◌, ◌<◌, ◌≤◌, ◌^◌, List, [], ◌∷◌, length, get_or, refl, sym, ap, ◌∙◌, subst, arith}
use Rattle.word_book.specs.Book.{Book, Name}
use Rattle.live_nodes.specs.Seats.{SeatView}
use Rattle.node_base.specs.Form.{form_place}
use Rattle.live_nodes.specs.Nodes.{Content}
use Rattle.live_nodes.specs.Seats.{Agree}
use Rattle.live_layout.specs.Words as cells
use Rattle.live_layout.specs.Head.{IsHead}
use Rattle.live_nodes.specs.Levels.{up, digit, Shape, Covers, bytes_above, Spot, place_at}
use Rattle.live_nodes.specs.Views.{View}
use Rattle.live_nodes.specs.Tree.{HasPrefix, IsOf}
use Rattle.live_nodes.proofs.Plans.{root-top, joined, bytes_above-key}
use Rattle.live_reads.specs.Paths.{Names, Sights, Leaves, Keeps}
use Rattle.live_reads.proofs.Views.{IsHeaded}
use Rattle.live_reads.specs.Sees.{Alike, Sees, HasMet}
use Rattle.live_reads.specs.declared.prefix_match.PrefixMatch.{PrefixMatch}
use Rattle.live_reads.specs.declared.prefix_match.PrefixMatch.TheVariants as prefix_matches

abbrev Seen : Type 0
Seen = SeatView View

-- keys with the same bytes down to a height
pub same_bytes_above : (n k l : ℕ) → n ≤ 8 → k < 2 ^ 64 → l < 2 ^ 64 → ((i : ℕ) → i < n → digit (8 - i) k ≡ digit (8 - i) l) → up (8 - n) k ≡ up (8 - n) l
same_bytes_above zero k l low fits fits' same = root-top k fits ∙ sym (root-top l fits')
same_bytes_above (suc n) k l low fits fits' same =
    let above = same_bytes_above n k l (omega (arith, low)) fits fits' (λ i h. same i (omega (arith, h))) in
    let next : suc (8 - suc n) ≡ 8 - n = omega (arith, low) in
    let byte : digit (suc (8 - suc n)) k ≡ digit (suc (8 - suc n)) l = subst (λ (z : ℕ). digit z k ≡ digit z l) (sym next) (same n (omega arith)) in
    let above' : up (suc (8 - suc n)) k ≡ up (suc (8 - suc n)) l = subst (λ (z : ℕ). up z k ≡ up z l) (sym next) above in
    sym (joined (8 - suc n) k (up (suc (8 - suc n)) k) refl) ∙ (ap (λ (z : ℕ × ℕ). 256 * z.0 + z.1) (λ i. (above' i, byte i)) ∙ joined (8 - suc n) l (up (suc (8 - suc n)) l) refl)

module _ (p : List ℕ) (s : Shape) (key : ℕ) (fits : key < 2 ^ 64) (deep : length p + s.height ≡ 8) (has : HasPrefix p s) where
  -- down to the n-th byte
  bytes_above_down : (n : ℕ) → n ≤ length p → Alike p key n → up (8 - n) has.key ≡ up (8 - n) key
  bytes_above_down n low alike = same_bytes_above n has.key key (omega (arith, low, deep)) has.fits fits (λ i h. sym (has.bytes i (omega (arith, h, low))) ∙ alike i h)

  pub sees_cover : Alike p key (length p) → Covers s key
  sees_cover alike = let high : 8 - length p ≡ s.height = omega (arith, deep) in
      sym (subst (λ (z : ℕ). up z has.key ≡ up z key) high (bytes_above_down (length p) (omega arith) alike)) ∙ has.covers

  -- or to another byte
  module _ (h b : ℕ) (some_height : 1 ≤ h) (level : h ≤ 8) (inside : 8 - h < length p) (byte : get_or p (8 - h) 0 ≡ b) (alike : Alike p key (8 - h)) where
    pub leaves_lower : s.height < h
    leaves_lower = omega (arith, inside, deep, level)

    same_above : up h has.key ≡ up h key
    same_above = subst (λ (z : ℕ). up z has.key ≡ up z key) (let e : 8 - (8 - h) ≡ h = omega (arith, level) in e) (bytes_above_down (8 - h) (omega (arith, inside)) alike)

    pub leaves_top : bytes_above s h ≡ up h key
    leaves_top = bytes_above-key s h has.key has.covers (let l = leaves_lower in omega (arith, l)) ∙ same_above

    pub leaves_byte : bytes_above s (h - 1) ≡ 256 * up h key + b
    leaves_byte =
        let next : suc (h - 1) ≡ h = omega (arith, some_height) in
        let its : digit h has.key ≡ b = sym (ap (λ (z : ℕ). digit z has.key) (let e : 8 - (8 - h) ≡ h = omega (arith, level) in e)) ∙ (sym (has.bytes (8 - h) inside) ∙ byte) in
        let split : 256 * up h has.key + digit h has.key ≡ up (h - 1) has.key = subst (λ (z : ℕ). 256 * up z has.key + digit z has.key ≡ up (h - 1) has.key) next (joined (h - 1) has.key (up (suc (h - 1)) has.key) refl) in
        bytes_above-key s (h - 1) has.key has.covers (let l = leaves_lower in omega (arith, l)) ∙ (sym split ∙ ap (λ (z : ℕ × ℕ). 256 * z.0 + z.1) (λ i. (same_above i, its i)))

-- a key that leaves a node's path has no place there
pub leaves_none : (v : Seen) (name key h b : ℕ) → (l : Leaves v name key h b) → Covers l.sighted.spot.shape key → ⊥
leaves_none v name key h b l covers =
    let s : Shape = l.sighted.spot.shape in
    let lower = l.lower in
    let next : suc (h - 1) ≡ h = omega (arith, lower) in
    let w = bytes_above-key s (h - 1) key covers (omega (arith, lower)) in
    let split : 256 * up h key + digit h key ≡ up (h - 1) key = subst (λ (z : ℕ). 256 * up z key + digit z key ≡ up (h - 1) key) next (joined (h - 1) key (up (suc (h - 1)) key) refl) in
    let is = l.byte_is in
    l.other (omega (arith, w, split, is))

abbrev pub sights_kept : (v w : Seen) → Keeps v w → (name : ℕ) → Sights v name → Sights w name
sights_kept v w k name n = record { spot = n.spot; met = k.met n.spot n.met; placed = k.places (place_at n.spot) n.placed; named = n.named }

-- what a node's head says that was read with the others
module _ (key : ℕ) (fits : key < 2 ^ 64) (saw : List (ℕ × ℕ)) (head : ℕ) (at_head : (c : Content) → Agree c saw → cells.at c 0 ≡ head) where
  -- of the node's height, and that it covers the key
  module _ (h : ℕ) (sees : (form : ℕ) (p : List ℕ) → IsHead head form p → Sees p key (prefix_matches.Covers h)) where
    pub covers_by : (a : Spot) (s : Shape) → IsOf a s saw → (s.height ≡ h) × Covers s key
    covers_by a s is =
        let word : IsHead head (form_place is.its.form) is.its.prefix = subst (λ (z : ℕ). IsHead z (form_place is.its.form) is.its.prefix) (at_head is.content is.agrees) is.encodes.head in
        let e = sees (form_place is.its.form) is.its.prefix word in
        let deep = is.deep in
        let long = e.0 in
        (omega (arith, deep, long), sees_cover is.its.prefix s key fits is.deep is.prefixed e.1)

    -- so what it is, is one thing
    pub sure_by : (a : Spot) → a.shape.height ≡ h → Covers a.shape key → (s : Shape) → IsOf a s saw → s ≡ a.shape
    sure_by a high covers s is =
        let by = covers_by a s is in
        let same_high : s.height ≡ a.shape.height = by.0 ∙ sym high in
        let same_top : s.top ≡ a.shape.top = sym by.1 ∙ (ap (λ (z : ℕ). up z key) same_high ∙ covers) in
        λ i. record { key = is.now.key i; form = is.now.form i; height = same_high i; top = same_top i }

-- the root's shape is one thing
pub sure_root : (a : Spot) (saw : List (ℕ × ℕ)) → a.shape.height ≡ 8 → (s : Shape) → IsOf a s saw → s ≡ a.shape
sure_root a saw high s is = is.now.lasts high

-- what is known of a node whose head was read
module _ (w : Seen) (b : Book) (words : List Name) (t name key : ℕ) (fits : key < 2 ^ 64) (saw : List (ℕ × ℕ)) (head : ℕ) (at_head : (c : Content) → Agree c saw → cells.at c 0 ≡ head) (x : IsHeaded w b words t name saw) (free : t % 4 ≡ 0) where
  abbrev its : Spot
  its = x.sighted.spot

  pub sees_head : (o : PrefixMatch) → ((form : ℕ) (p : List ℕ) → IsHead head form p → Sees p key o) → HasMet w b words t name key o
  sees_head (prefix_matches.Covers h) sees =
      let by = covers_by key fits saw head at_head h sees its its.shape x.is in
      let deep = x.is.deep in
      let short = x.is.encodes.head.short in
      let high = by.0 in (
        record {
          names = record {
            spot = its;
            met = x.sighted.met;
            placed = x.sighted.placed;
            named = x.sighted.named;
            high = high;
            covers = by.1;
          };
          opened = record { are = x.are; saw = saw; before = x.before; reads = x.reads };
          free = free;
          sure = sure_by key fits saw head at_head h sees its high by.1;
        },
        omega (arith, deep, short, high),
        omega (arith, deep, high),
      )
  sees_head (prefix_matches.Leaves h b) all =
      let p = x.is.its.prefix in
      let deep = x.is.deep in
      let short = x.is.encodes.head.short in
      let has = x.is.prefixed in
      let s = all (form_place x.is.its.form) p (subst (λ (z : ℕ). IsHead z (form_place x.is.its.form) p) (at_head x.is.content x.is.agrees) x.is.encodes.head) in record {
        sighted = x.sighted;
        some_height = omega (arith, deep, short);
        lower = leaves_lower p its.shape key fits deep has h b s.0 s.1 s.2 s.3 s.6;
        level = s.1;
        top = leaves_top p its.shape key fits deep has h b s.0 s.1 s.2 s.3 s.6;
        low = s.4;
        byte_is = leaves_byte p its.shape key fits deep has h b s.0 s.1 s.2 s.3 s.6;
        other = s.5;
      }

-- the same node by its height
pub names_sight : (v : Seen) (name key : ℕ) (s : Sights v name) → Covers s.spot.shape key → (h : ℕ) → s.spot.shape.height ≡ h → Names v name key h
names_sight v name key s covers h high = record { spot = s.spot; met = s.met; placed = s.placed; named = s.named; high = high; covers = covers }

abbrev pub sights_names : (v : Seen) (name key h : ℕ) → Names v name key h → Sights v name
sights_names v name key h n = record { spot = n.spot; met = n.met; placed = n.placed; named = n.named }

-- the bytes of a key, one by one
pub eight : (key a b c d e f g h : ℕ) → a ≡ digit 8 key → b ≡ digit 7 key → c ≡ digit 6 key → d ≡ digit 5 key → e ≡ digit 4 key → f ≡ digit 3 key → g ≡ digit 2 key → h ≡ digit 1 key
    → (i : ℕ) → i < 8 → get_or (a ∷ b ∷ c ∷ d ∷ e ∷ f ∷ g ∷ h ∷ []) i 0 ≡ digit (8 - i) key
eight key a b c d e f g h ea eb ec ed ee ef eg eh zero l = ea
eight key a b c d e f g h ea eb ec ed ee ef eg eh (suc zero) l = eb
eight key a b c d e f g h ea eb ec ed ee ef eg eh (suc (suc zero)) l = ec
eight key a b c d e f g h ea eb ec ed ee ef eg eh (suc (suc (suc zero))) l = ed
eight key a b c d e f g h ea eb ec ed ee ef eg eh (suc (suc (suc (suc zero)))) l = ee
eight key a b c d e f g h ea eb ec ed ee ef eg eh (suc (suc (suc (suc (suc zero))))) l = ef
eight key a b c d e f g h ea eb ec ed ee ef eg eh (suc (suc (suc (suc (suc (suc zero)))))) l = eg
eight key a b c d e f g h ea eb ec ed ee ef eg eh (suc (suc (suc (suc (suc (suc (suc zero))))))) l = eh
eight key a b c d e f g h ea eb ec ed ee ef eg eh (suc (suc (suc (suc (suc (suc (suc (suc i)))))))) l = absurd (omega (arith, l))
