-- A node is used again: it is locked, written, and leads on from a node above.
use Rattle.std.proofs.Common.{◌≡◌, ◌≢◌, ℕ, ◌+◌, ◌-◌, ◌*◌, ◌%◌, ◌<◌, ◌≤◌, ◌^◌, Bool, cond, nat_eq, List, [], ◌∷◌, ◌++◌, length, take, length-take, slice_index, Some, refl, sym, ap, ◌∙◌, subst, inl, inr, arith, eq-eqb, ne_eqb}
use Rattle.std.proofs.lemmas.List.{get_or-take}
use Rattle.node_base.specs.declared.base_node.NodeType.{NodeType}
use Rattle.spec_node.specs.declared.child.Child.TheVariants.{Node as Below}
use Rattle.spec_map.specs.Map.{put}
use Rattle.word_book.specs.Book.{Book, Name, writes, compares, none_joined, Joined}
use Rattle.live_nodes.specs.Nodes.{Content}
use Rattle.live_nodes.specs.Seats.{Place, Hold, hold, SeatView, seat_view, IsIn, Each, with_draft, without}
use Rattle.live_nodes.specs.Acts as acts
use Rattle.live_nodes.specs.Plays as plays
use Rattle.live_nodes.specs.Plays.{hold_of, Locks}
use Rattle.live_nodes.specs.Calls.{MayLock, MayFree}
use Rattle.live_nodes.specs.Rows.{AreOf, nth, draft_of, undrafted, without_draft}
use Rattle.live_layout.specs.Encodes.{words_of, Encodes, empty_node, with_child}
use Rattle.live_nodes.specs.Levels.{up, digit, Spot, spot, name_of, place_at}
use Rattle.live_nodes.specs.Views.{View, view_of, Own, locked, detached, rest_of, Ask}
use Rattle.live_nodes.specs.Tree.{IsMap, IsApart, IsReclaimed, LearnsReclaimed, again, leads_again, left_again}
use Rattle.live_nodes.proofs.Locks.{node_reclaims}
use Rattle.live_nodes.proofs.Joins.{IsEmptyNode, IsSplit}
use Rattle.live_reads.specs.Paths.{Names, Sights, AreNamed, Keeps}
use Rattle.live_growth.specs.Holds.{Alike, HoldsOne, HasReclaimed}
use Rattle.live_growth.specs.Rooms.{HasGrown}
use Rattle.live_reads.proofs.Views.{reading, same_place, same_named}
use Rattle.live_growth.proofs.Locks.{hold_head, alike_read}
use Rattle.live_growth.proofs.Pairs.{Pair}

abbrev Seen : Type 0
Seen = SeatView View

-- An obsolete node is locked.
module _ (v : Seen) (name : ℕ) (s : Sights v name) (v₁ : Seen) (t : ℕ) (taken : v₁ ≡ reading v s.spot.number t []) (k : ℕ) (at_k : s.spot.shape.key ≡ k) where
  pub may_reclaim : (id m : ℕ) → t ≡ 4 * m + 3 → MayLock v₁ k IsMap id LearnsReclaimed t (t + 3)
  may_reclaim id m odd = subst (λ (z : Seen). MayLock z k IsMap id LearnsReclaimed t (t + 3)) (sym taken) (place_at s.spot, (s.placed, at_k), node_reclaims id v.client s.spot s.met t m odd (t + 3) (omega arith))

  module _ (v₂ : Seen) (m : ℕ) (j : Joined) (told : Locks LearnsReclaimed (compares k t (t + 3)) v₁ m j v₂) where
    tried : plays.Tried (LearnsReclaimed v.client s.spot.number) s.spot.number t (t + 3) (words_of s.spot.shape.form) (reading v s.spot.number t []) m v₂
    tried = subst (λ (z : Seen). Locks LearnsReclaimed (compares k t (t + 3)) z m j v₂) taken told (place_at s.spot) s.placed at_k

    pub not_reclaimed : m ≢ t → Alike v v₂ × (v₂.client ≡ v.client) × (v₂.holds ≡ v.holds)
    not_reclaimed ne = alike_read v v₂ s.spot.number t [] (tried.lost ne)

    pub is_reclaimed : m ≡ t → t % 4 ≡ 3 → t < 2 ^ 62 → HasReclaimed v v₂ name (t + 1)
    is_reclaimed hit odd small =
        let w = tried.won hit in
        let h : IsReclaimed v.client s.spot w.1 = w.4 s.spot s.met refl in
        let places : v₂.places ≡ v.places = ap (λ (z : Seen). z.places) w.3 in record {
          spot = spot s.spot.number h.shape;
          named = s.named ∙ sym (same_named s.spot h.shape h.now);
          content = w.0;
          long = w.2 ∙ ap words_of (sym h.now.form);
          own = ap (λ (z : Seen). z.client.own) w.3 ∙ ap (λ (z : View). z.own) h.is;
          holds = ap (λ (z : Seen). z.holds) w.3 ∙ ap (λ (z : ℕ). hold s.spot.number z w.0 ∷ v.holds) (let e : t + 3 ≡ t + 1 + 2 = omega arith in e);
          placed = subst (λ (p : Place). IsIn p v₂.places) (sym (same_place s.spot h.shape h.now)) (subst (λ (ps : List Place). IsIn (place_at s.spot) ps) (sym places) s.placed);
          alike = record {
            places = places;
            met = ap (λ (z : Seen). z.client.met) w.3 ∙ ap (λ (z : View). z.met) h.is;
            room = ap (λ (z : Seen). z.room) w.3;
          };
          seen = ap (λ (z : Seen). z.client.seen) w.3 ∙ ap (λ (z : View). z.seen) h.is;
          even = omega (arith, odd);
          small = omega (arith, small);
          apart = h.apart;
        }

-- what is held, but for the draft of the last one
abbrev pub hold_number : List Hold → ℕ
hold_number [] = 0
hold_number (h ∷ hs) = h.number

abbrev pub hold_word : List Hold → ℕ
hold_word [] = 0
hold_word (h ∷ hs) = h.word

abbrev pub rest_holds : List Hold → List Hold
rest_holds [] = []
rest_holds (h ∷ hs) = hs

abbrev pub first_hold : List Hold → Hold
first_hold [] = hold 0 0 []
first_hold (h ∷ hs) = h

pub no_holds : (h : Hold) (hs : List Hold) → [] ≡ h ∷ hs → ⊥
no_holds h hs e = cc

abbrev pub Beside : ℕ → Hold → Type 0
Beside k h = h.number ≢ k

pub undrafted_head : (k : ℕ) (x h : Hold) → Beside k h → cond (nat_eq k x.number) (hold k x.word []) x ≡ h → x ≡ h
undrafted_head k x h ne e =
    let differ : k ≢ x.number = λ s. ne (sym (ap (λ (z : Hold). z.number) e) ∙ (ap (λ (t : Bool). (cond t (hold k x.word []) x).number) (eq-eqb k x.number s))) in
    sym (ap (λ (t : Bool). cond t (hold k x.word []) x) (ne_eqb k x.number differ)) ∙ e

undrafted_rest : (k : ℕ) (xs hs : List Hold) → Each (Beside k) hs → with_draft k [] xs ≡ hs → xs ≡ hs
undrafted_rest k [] hs apart e = e
undrafted_rest k (x ∷ xs) [] apart e = absurd (no_holds (cond (nat_eq k x.number) (hold k x.word []) x) (with_draft k [] xs) (sym e))
undrafted_rest k (x ∷ xs) (h ∷ hs) apart e =
    let first = undrafted_head k x h apart.0 (ap first_hold e) in
    let rest = undrafted_rest k xs hs apart.1 (ap rest_holds e) in
    (λ i. first i ∷ rest i)

pub first_drafted : (xs : List Hold) (k m : ℕ) (hs : List Hold) → Each (Beside k) hs → undrafted (nth 0 xs) xs ≡ hold k m [] ∷ hs → xs ≡ hold k m (draft_of (nth 0 xs)) ∷ hs
first_drafted [] k m hs apart e = absurd (no_holds (hold k m []) hs e)
first_drafted (x ∷ xs) k m hs apart e =
    let f : hold x.number x.word [] ∷ with_draft x.number [] xs ≡ hold k m [] ∷ hs = sym (ap (λ (b : Bool). cond b (hold x.number x.word []) x ∷ with_draft x.number [] xs) (eq-eqb x.number x.number refl)) ∙ e in
    let number : x.number ≡ k = ap hold_number f in
    let rest : xs ≡ hs = undrafted_rest x.number xs hs (subst (λ (z : ℕ). Each (Beside z) hs) (sym number) apart) (ap rest_holds f) in
    (λ i. hold (number i) (hold_word (f i)) x.draft ∷ rest i)

-- The last one is freed, and the others stay.
without_beside : (k : ℕ) (hs : List Hold) → Each (Beside k) hs → without k hs ≡ hs
without_beside k [] apart = refl
without_beside k (h ∷ hs) apart = ap (λ (t : Bool). cond t (without k hs) (h ∷ without k hs)) (ne_eqb k h.number (λ s. apart.0 (sym s))) ∙ ap (λ (z : List Hold). h ∷ z) (without_beside k hs apart.1)

module _ (v : Seen) (a : Spot) (free : ℕ) (d : Content) (hs : List Hold) (holds : v.holds ≡ hold a.number (free + 2) d ∷ hs) (placed : IsIn (place_at a) v.places) (k : ℕ) (at_k : a.shape.key ≡ k) (told : View → ℕ → Content → View → Type 0) where
  first_found : hold_of a.number v.holds ≡ Some (hold a.number (free + 2) d)
  first_found = ap (hold_of a.number) holds ∙ hold_head a.number (free + 2) d hs

  pub first_frees : (id n : ℕ) → acts.Frees IsMap id v.client a.number n d (told v.client a.number d) → MayFree v k IsMap id told (free + 2) n
  first_frees id n frees = (place_at a, hold a.number (free + 2) d, (placed, at_k), first_found, refl, frees)

  pub first_freed : Each (Beside a.number) hs → (w : Seen) (n : ℕ) → plays.Frees told (writes k n) v n none_joined w → (e : View) × (w ≡ seat_view e v.places v.reads hs v.room) × told v.client a.number d e
  first_freed apart w n t =
      let s = t (place_at a) (hold a.number (free + 2) d) placed at_k first_found in
      let left : without a.number v.holds ≡ hs = ap (without a.number) holds ∙ (ap (λ (z : Bool). cond z (without a.number hs) (hold a.number (free + 2) d ∷ without a.number hs)) (eq-eqb a.number a.number refl) ∙ without_beside a.number hs apart) in
      (s.0, s.1 ∙ ap (λ (z : List Hold). seat_view s.0 v.places v.reads z v.room) left, s.2)

-- A node is used again while the one above it is held.
pub pair_reclaimed : (v w : Seen) (b b' : Book) (words_r words_p : List Name) (free_r free_p name : ℕ) (h : HasReclaimed v w name free_r) (p : Spot) (c : Content) → b' ≡ b → HoldsOne v b words_p free_p p c c → AreNamed b' name words_r → Pair w b' words_r words_p free_r free_p h.spot (place_at p) h.content c
pair_reclaimed v w b b' words_r words_p free_r free_p name h p c same one are = record {
  holds = h.holds ∙ ap (λ (hs : List Hold). hold h.spot.number (free_r + 2) h.content ∷ hs) one.holds;
  apart = (subst (Each (IsApart h.spot.number)) one.own h.apart).0;
  placed_x = h.placed;
  placed_p = subst (λ (ps : List Place). IsIn (place_at p) ps) (sym h.alike.places) one.placed;
  are_x = are h.spot h.named;
  are_p = subst (λ (z : Book). AreOf (place_at p) z words_p) (sym same) one.are;
}

-- More is known, and both are held as before.
pub pair_keeps : (v : Seen) (b : Book) (words_x words_p : List Name) (free_x free_p : ℕ) (x : Spot) (p : Place) (dx dp : Content) → Pair v b words_x words_p free_x free_p x p dx dp → (w : Seen) (b' : Book) → b' ≡ b → Keeps v w → Pair w b' words_x words_p free_x free_p x p dx dp
pair_keeps v b words_x words_p free_x free_p x p dx dp h w b' same k = record {
  holds = k.holds ∙ h.holds;
  apart = h.apart;
  placed_x = k.places (place_at x) h.placed_x;
  placed_p = k.places p h.placed_p;
  are_x = subst (λ (z : Book). AreOf (place_at x) z words_x) (sym same) h.are_x;
  are_p = subst (λ (z : Book). AreOf p z words_p) (sym same) h.are_p;
}

-- and written
pub pair_filled : (v : Seen) (b : Book) (words_x words_p : List Name) (free_x free_p : ℕ) (x : Spot) (p : Place) (dx dp : Content) → Pair v b words_x words_p free_x free_p x p dx dp → (w : Seen) (b' : Book) → b' ≡ b → without_draft 0 w ≡ without_draft 0 v → Pair w b' words_x words_p free_x free_p x p (draft_of (nth 0 w.holds)) dp
pair_filled v b words_x words_p free_x free_p x p dx dp h w b' same e =
    let before : undrafted (nth 0 v.holds) v.holds ≡ hold x.number (free_x + 2) [] ∷ hold p.number (free_p + 2) dp ∷ [] =
    ap (λ (hs : List Hold). undrafted (nth 0 hs) hs) h.holds
    ∙ (ap (λ (t : Bool). cond t (hold x.number (free_x + 2) []) (hold x.number (free_x + 2) dx) ∷ cond (nat_eq x.number p.number) (hold x.number (free_p + 2) []) (hold p.number (free_p + 2) dp) ∷ []) (eq-eqb x.number x.number refl)
    ∙ ap (λ (t : Bool). hold x.number (free_x + 2) [] ∷ cond t (hold x.number (free_p + 2) []) (hold p.number (free_p + 2) dp) ∷ []) (ne_eqb x.number p.number (λ s. h.apart (sym s)))) in
    record {
      holds = first_drafted w.holds x.number (free_x + 2) (hold p.number (free_p + 2) dp ∷ []) (h.apart, tt) (ap (λ (z : Seen). z.holds) e ∙ before);
      apart = h.apart;
      placed_x = subst (λ (ps : List Place). IsIn (place_at x) ps) (sym (ap (λ (z : Seen). z.places) e)) h.placed_x;
      placed_p = subst (λ (ps : List Place). IsIn p ps) (sym (ap (λ (z : Seen). z.places) e)) h.placed_p;
      are_x = subst (λ (z : Book). AreOf (place_at x) z words_x) (sym same) h.are_x;
      are_p = subst (λ (z : Book). AreOf p z words_p) (sym same) h.are_p;
    }

-- a node without children, for the path of a key
pub empty_again : (q : Ask) (r : Spot) (key height : ℕ) (bytes : List ℕ) → length bytes ≡ 8 → ((i : ℕ) → i < 8 → slice_index bytes i ≡ digit (8 - i) key) → key < 2 ^ 64 → q.key ≡ key → q.height ≡ height → 1 ≤ height → height ≤ 8 → (form : NodeType) → form ≡ r.shape.form → (d : Content) → Encodes d (empty_node form (take (8 - height) bytes)) → IsEmptyNode (again q r) d
empty_again q r key height bytes long is fits asks_key asks_height low high form form_is d encodes =
    let short : length (take (8 - height) bytes) ≡ 8 - height = (let l = length-take (8 - height) bytes in omega (arith, l, long)) in record {
      its = empty_node form (take (8 - height) bytes);
      encodes = encodes;
      in_form = form_is;
      deep = omega (arith, short, asks_height, low, high);
      prefixed = record {
        key = q.key;
        fits = subst (λ (z : ℕ). z < 2 ^ 64) (sym asks_key) fits;
        covers = refl;
        bytes = λ i l. get_or-take (8 - height) bytes i 0 (omega (arith, l, short)) ∙ (is i (omega (arith, l, short)) ∙ ap (digit (8 - i)) (sym asks_key));
      };
      empty = refl;
    }

-- a node with one child, for the path of a key
pub again_split : (q : Ask) (r x : Spot) (key height : ℕ) (bytes : List ℕ) → length bytes ≡ 8 → ((i : ℕ) → i < 8 → slice_index bytes i ≡ digit (8 - i) key) → key < 2 ^ 64 → q.key ≡ key → q.height ≡ height → 1 ≤ height → height ≤ 8 → (form : NodeType) → form ≡ r.shape.form → (d : Content) (byte below : ℕ) → below ≡ name_of x.shape
    → Encodes d (with_child (empty_node form (take (8 - height) bytes)) byte (Some (Below below))) → IsSplit (again q r) x byte d
again_split q r x key height bytes long is fits asks_key asks_height low high form form_is d byte below named encodes =
    let short : length (take (8 - height) bytes) ≡ 8 - height = (let l = length-take (8 - height) bytes in omega (arith, l, long)) in record {
      its = with_child (empty_node form (take (8 - height) bytes)) byte (Some (Below below));
      encodes = encodes;
      in_form = form_is;
      deep = omega (arith, short, asks_height, low, high);
      prefixed = record {
        key = q.key;
        fits = subst (λ (z : ℕ). z < 2 ^ 64) (sym asks_key) fits;
        covers = refl;
        bytes = λ i l. get_or-take (8 - height) bytes i 0 (omega (arith, l, short)) ∙ (is i (omega (arith, l, short)) ∙ ap (digit (8 - i)) (sym asks_key));
      };
      one = ap (λ (z : ℕ). put [] byte (Below z)) named;
    }

-- what a seat knows once a node that is used again is linked
pub again_grown_on : (v n z x : Seen) (e e2 : View) (q : Ask) (cy : Content) (r p : Spot) (cp : Content) (hs : List Hold) → ((a : Place) → IsIn a v.places → IsIn a n.places) → ((a : Spot) → IsIn a v.client.met → IsIn a n.client.met) → n.client.seen ≡ v.client.seen → n.client.own ≡ detached r ∷ locked p cp ∷ []
    → z ≡ seat_view e n.places n.reads hs n.room → e ≡ view_of n.client.seen (leads_again q n.client.own ++ n.client.met) (left_again q cy n.client.own)
    → x ≡ seat_view e2 z.places z.reads [] z.room → e2 ≡ view_of z.client.seen z.client.met (rest_of z.client.own) → HasGrown v x
again_grown_on v n z x e e2 q cy r p cp hs places met seen own z_is e_is x_is e2_is =
    let z_client = ap (λ (t : Seen). t.client) z_is ∙ e_is in
    let x_client = ap (λ (t : Seen). t.client) x_is ∙ e2_is in
    let x_places : x.places ≡ n.places = ap (λ (t : Seen). t.places) x_is ∙ ap (λ (t : Seen). t.places) z_is in
    let x_met : x.client.met ≡ again q r ∷ n.client.met = ap (λ (t : View). t.met) x_client ∙ (ap (λ (t : View). t.met) z_client ∙ ap (λ (os : List Own). leads_again q os ++ n.client.met) own) in record {
      own = ap (λ (t : View). t.own) x_client ∙ (ap (λ (t : View). rest_of t.own) z_client ∙ ap (λ (os : List Own). rest_of (left_again q cy os)) own);
      holds = ap (λ (t : Seen). t.holds) x_is;
      places = λ a h. subst (λ (ps : List Place). IsIn a ps) (sym x_places) (places a h);
      met = λ a h. subst (λ (l : List Spot). IsIn a l) (sym x_met) (inr (met a h));
      seen = ap (λ (t : View). t.seen) x_client ∙ (ap (λ (t : View). t.seen) z_client ∙ seen);
    }

-- and that it has the name of that one then
pub again_names : (n z x : Seen) (e e2 : View) (q : Ask) (cy : Content) (r p : Spot) (cp : Content) (hs : List Hold) (key height name : ℕ) → IsIn (place_at r) n.places → name ≡ name_of r.shape → q.key ≡ key → q.height ≡ height → n.client.own ≡ detached r ∷ locked p cp ∷ []
    → z ≡ seat_view e n.places n.reads hs n.room → e ≡ view_of n.client.seen (leads_again q n.client.own ++ n.client.met) (left_again q cy n.client.own)
    → x ≡ seat_view e2 z.places z.reads [] z.room → e2 ≡ view_of z.client.seen z.client.met (rest_of z.client.own) → Names x name key height
again_names n z x e e2 q cy r p cp hs key height name placed named key_is height_is own z_is e_is x_is e2_is =
    let z_client = ap (λ (t : Seen). t.client) z_is ∙ e_is in
    let x_client = ap (λ (t : Seen). t.client) x_is ∙ e2_is in
    let x_places : x.places ≡ n.places = ap (λ (t : Seen). t.places) x_is ∙ ap (λ (t : Seen). t.places) z_is in
    let x_met : x.client.met ≡ again q r ∷ n.client.met = ap (λ (t : View). t.met) x_client ∙ (ap (λ (t : View). t.met) z_client ∙ ap (λ (os : List Own). leads_again q os ++ n.client.met) own) in record {
      spot = again q r;
      met = subst (λ (l : List Spot). IsIn (again q r) l) (sym x_met) (inl refl);
      placed = subst (λ (ps : List Place). IsIn (place_at r) ps) (sym x_places) placed;
      named = named;
      high = height_is;
      covers = ap (up q.height) (sym key_is);
    }

pub again_grown : (v n z x : Seen) (e e2 : View) (q : Ask) (cy : Content) (r p : Spot) (cp : Content) (hs : List Hold) → n.places ≡ v.places → n.client.met ≡ v.client.met → n.client.seen ≡ v.client.seen → n.client.own ≡ detached r ∷ locked p cp ∷ []
    → z ≡ seat_view e n.places n.reads hs n.room → e ≡ view_of n.client.seen (leads_again q n.client.own ++ n.client.met) (left_again q cy n.client.own)
    → x ≡ seat_view e2 z.places z.reads [] z.room → e2 ≡ view_of z.client.seen z.client.met (rest_of z.client.own) → HasGrown v x
again_grown v n z x e e2 q cy r p cp hs places met seen own z_is e_is x_is e2_is =
    again_grown_on v n z x e e2 q cy r p cp hs (λ a h. subst (λ (ps : List Place). IsIn a ps) (sym places) h) (λ a h. subst (λ (l : List Spot). IsIn a l) (sym met) h) seen own z_is e_is x_is e2_is
