-- A node is made of a seat's room.
use Rattle.std.proofs.Common.{◌≡◌, ℕ, ◌+◌, ◌-◌, ◌*◌, ◌<◌, ◌≤◌, zero, suc, drop, List, [], ◌∷◌, length, length-take, length-drop, length-set, set, refl, sym, ap, ◌∙◌, subst, inl, inr, arith}
use mathlib.Core.Option.{some}
use lib.ListN.{get_elem?, replicate}
use Rattle.node_base.specs.Form.{form_place}
use Rattle.node_base.specs.declared.base_node.NodeType.{NodeType}
use Rattle.node_base.specs.declared.base_node.NodeType.TheVariants.{N4, N16, N48, N256}
use Rattle.word_book.specs.Book.{writes, none_joined}
use Rattle.live_nodes.specs.Nodes.{Content}
use Rattle.live_nodes.specs.Seats.{Place, place, Room, room_at, SeatView, IsIn}
use Rattle.live_nodes.specs.Plays.{new_content, put, made, Puts, Makes}
use Rattle.live_nodes.specs.Calls.{InRoom, MayMake}
use Rattle.live_layout.specs.Encodes.{words_of}
use Rattle.live_nodes.specs.Levels.{Spot, place_at}
use Rattle.live_nodes.specs.Views.{View, with_met}
use Rattle.live_nodes.specs.Tree.{IsMap, IsMade}
use Rattle.live_nodes.proofs.Makes.{node_makes}
use Rattle.live_reads.specs.Paths.{Sights}
use Rattle.live_growth.specs.Rooms.{HasRoom, HasMade, HasGrown}

abbrev Seen : Type 0
Seen = SeatView View

pub some_words : (f : NodeType) → (1 ≤ words_of f) × (words_of f ≤ 262)
some_words N4 = (omega arith, omega arith)
some_words N16 = (omega arith, omega arith)
some_words N48 = (omega arith, omega arith)
some_words N256 = (omega arith, omega arith)

drop_zeros : (n k : ℕ) → drop k (replicate {A = ℕ} n 0) ≡ replicate (n - k) 0
drop_zeros zero zero = refl
drop_zeros zero (suc k) = ap (λ (z : ℕ). replicate z 0) (let e : 0 ≡ 0 - suc k = omega arith in e)
drop_zeros (suc n) zero = ap (λ (z : ℕ). replicate z 0) (let e : suc n ≡ suc n - 0 = omega arith in e)
drop_zeros (suc n) (suc k) = drop_zeros n k ∙ ap (λ (z : ℕ). replicate z 0) (let e : n - k ≡ suc n - suc k = omega arith in e)

-- the zeros behind a first word
drop_behind : (n k x : ℕ) → drop (suc k) (set (replicate {A = ℕ} n 0) 0 x) ≡ replicate (n - suc k) 0
drop_behind zero k x = ap (λ (z : ℕ). replicate z 0) (let e : 0 ≡ 0 - suc k = omega arith in e)
drop_behind (suc n) k x = drop_zeros n k ∙ ap (λ (z : ℕ). replicate z 0) (let e : n - k ≡ suc n - suc k = omega arith in e)

first_set : (n x : ℕ) → 1 ≤ n → get_elem? (set (replicate {A = ℕ} n 0) 0 x) 0 ≡ some x
first_set zero x l = absurd (omega (arith, l))
first_set (suc n) x l = refl

-- the length of a new content
content_long : (draft : Content) (n x : ℕ) → n < length draft → length (new_content draft n x) ≡ n
content_long draft n x low =
    let l = length-take n (drop 1 (set draft n x)) in
    let m = length-drop 1 (set draft n x) in
    let s = length-set draft n x in
    omega (arith, l, m, s, low)

module _ (v : Seen) (start left : ℕ) (form : NodeType) (r : HasRoom v start left) (enough : words_of form + 1 ≤ left) where
  some_count : words_of form + 1 ≤ r.count
  some_count = let e = r.enough in omega (arith, e, enough)

  room_long : length v.room.draft ≡ r.count
  room_long = ap (λ (z : Room). length z.draft) r.is ∙ lib.ListN.length-replicate {A = ℕ} r.count 0

  pub first_in_room : (k : ℕ) → start ≡ k → InRoom v k
  first_in_room k at_k = (0, (let l = some_count in omega (arith, l, room_long)), (let s = ap (λ (z : Room). z.start) r.is in omega (arith, s, at_k)))

  -- the first word says that the node is obsolete
  module _ (u : Seen) (k : ℕ) (at_k : start ≡ k) (told : Puts (writes k 3) v 3 none_joined u) where
    put_is : u ≡ put v 0 3
    put_is = told 0 (let s = ap (λ (z : Room). z.start) r.is in omega (arith, s, at_k))

    its_room : u.room ≡ room_at start (set (replicate r.count 0) 0 3)
    its_room = ap (λ (z : Seen). z.room) put_is ∙ ap (λ (z : Room). room_at z.start (set z.draft 0 3)) r.is

    its_long : length u.room.draft ≡ r.count
    its_long = ap (λ (z : Room). length z.draft) its_room ∙ (length-set (replicate r.count 0) 0 3 ∙ lib.ListN.length-replicate {A = ℕ} r.count 0)

    module _ (j : ℕ) (at_j : start + words_of form ≡ j) where
      at_last : u.room.start + words_of form ≡ j
      at_last = ap (λ (z : Room). z.start + words_of form) its_room ∙ at_j

      low : words_of form < length u.room.draft
      low = let l = some_count in omega (arith, l, its_long)

      pub may_make : (id : ℕ) → MayMake u j IsMap id (IsMade form) 0
      may_make id = (
        words_of form,
        3,
        (some_words form).0,
        low,
        at_last,
        ap (λ (z : Room). get_elem? z.draft 0) its_room ∙ first_set r.count 3 (let l = some_count in omega (arith, l)),
        (0, inr (omega arith)),
        node_makes form id u.client u.room.start 3 0 (omega arith) (new_content u.room.draft (words_of form) 0) (content_long u.room.draft (words_of form) 0 low),
      )

      module _ (w : Seen) (made_told : Makes (IsMade form) (writes j 0) u 0 none_joined w) where
        new : (n : ℕ) × (c : View) × (w ≡ made u c n (words_of form)) × IsMade form u.client u.room.start (new_content u.room.draft (words_of form) 0) n c
        new = made_told (words_of form) at_last

        pub has_made : (name : ℕ) → name ≡ 256 * start + form_place form → HasMade v w form name
        has_made name named =
            let i = new.3 in
            let a : Spot = i.spot in
            let starts : u.room.start ≡ start = ap (λ (z : Room). z.start) its_room in
            let place_is : place new.0 u.room.start (words_of form) ≡ place_at a = λ t. place (sym i.number t) (sym i.placed t) (words_of (sym i.in_form t)) in
            let client : u.client ≡ v.client = ap (λ (z : Seen). z.client) put_is in record {
              spot = a;
              in_form = i.in_form;
              client = ap (λ (z : Seen). z.client) new.2 ∙ (i.is ∙ ap (λ (z : View). with_met z (a ∷ z.met)) client);
              places = ap (λ (z : Seen). z.places) new.2 ∙ (ap (λ (z : Place). z ∷ u.places) place_is ∙ ap (λ (z : Seen). place_at a ∷ z.places) put_is);
              holds = ap (λ (z : Seen). z.holds) new.2 ∙ ap (λ (z : Seen). z.holds) put_is;
              named = named ∙ (λ t. 256 * ((sym starts ∙ sym i.placed) t) + form_place (sym i.in_form t));
            }

        pub has_room : HasRoom w (start + words_of form + 1) (left - (words_of form + 1))
        has_room = record {
          count = r.count - (words_of form + 1);
          enough = (let e = r.enough in omega (arith, e));
          is = ap (λ (z : Seen). z.room) new.2 ∙ (ap (λ (z : Room). room_at (z.start + words_of form + 1) (drop {A = ℕ} (words_of form + 1) z.draft)) its_room
              ∙ ap (λ (z : List ℕ). room_at (start + words_of form + 1) z) (subst (λ (z : ℕ). drop {A = ℕ} z (set (replicate {A = ℕ} r.count 0) 0 3) ≡ replicate {A = ℕ} (r.count - z) 0) (let e : suc (words_of form) ≡ words_of form + 1 = omega arith in e) (drop_behind r.count (words_of form) 3)));
        }

-- It has met the node.
pub made_sighted : (v w : Seen) (form : NodeType) (name : ℕ) → HasMade v w form name → Sights w name
made_sighted v w form name m = record {
  spot = m.spot;
  met = subst (λ (l : List Spot). IsIn m.spot l) (sym (ap (λ (z : View). z.met) m.client)) (inl refl);
  placed = subst (λ (ps : List Place). IsIn (place_at m.spot) ps) (sym m.places) (inl refl);
  named = m.named;
}

-- A seat that has made a node has grown.
pub made_grown : (v w : Seen) (form : NodeType) (name : ℕ) → HasMade v w form name → v.client.own ≡ [] → v.holds ≡ [] → HasGrown v w
made_grown v w form name m own holds = record {
  own = ap (λ (z : View). z.own) m.client ∙ own;
  holds = m.holds ∙ holds;
  places = λ p h. subst (λ (ps : List Place). IsIn p ps) (sym m.places) (inr h);
  met = λ s h. subst (λ (l : List Spot). IsIn s l) (sym (ap (λ (z : View). z.met) m.client)) (inr h);
  seen = ap (λ (z : View). z.seen) m.client;
}

pub grown_twice : (v w x : Seen) → HasGrown v w → HasGrown w x → HasGrown v x
grown_twice v w x g h = record {
  own = h.own;
  holds = h.holds;
  places = λ p i. h.places p (g.places p i);
  met = λ s i. h.met s (g.met s i);
  seen = h.seen ∙ g.seen;
}

pub grown_same : (v : Seen) → v.client.own ≡ [] → v.holds ≡ [] → HasGrown v v
grown_same v own holds = record { own = own; holds = holds; places = λ p i. i; met = λ s i. i; seen = refl }
