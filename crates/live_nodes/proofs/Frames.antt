-- What a change of one word leaves of nodes, rooms and what seats know.
use Rattle.std.proofs.Common.{◌≡◌, ◌≢◌, ℕ, suc, zero, ◌+◌, ◌*◌, ◌<◌, ◌≤◌, Bool, cond, nat_eq, List, [], ◌∷◌, ◌++◌, length, set, sym, refl, ap, ◌∙◌, subst, ⊎_elim, arith, length-set, length-append, get_or-set_same, get_or-set_other, eq-eqb, ne_eqb, Option, Some, None}
use mathlib.Core.Option.{some, some-injective, some-ne-none}
use mathlib.Core.Logic.{dite}
use native.Mathlib.Decide.{ℕ_discrete}
use lib.ListN.{get_elem?}
use Rattle.atomic_table.proofs.Lists.{at_set, set_here, set_else, at_longer}
use Rattle.live_nodes.specs.Nodes.{Content, at, Node, node, node_at, Owner, counts, in_node, in_room, shown, WordFits, IsNode}
use Rattle.live_nodes.specs.Seats.{Place, Read, Hold, hold, Room, room_at, SeatView, Each, IsIn, Agree, without, with_draft}
use Rattle.live_nodes.specs.Rule.{PlaceFits, ReadFits, HoldFits, Knows, RoomFits}

pub below : {A : Type 0} (l : List A) (i : ℕ) (a : A) → get_elem? l i ≡ some a → i < length l
below [] i a e = absurd (some-ne-none a (sym e))
below (x ∷ xs) zero a e = omega arith
below (x ∷ xs) (suc i) a e = let l : i < length xs = below xs i a e in omega arith

pub one_only : {A : Type 0} (l : List A) (i : ℕ) (a b : A) → get_elem? l i ≡ some a → get_elem? l i ≡ some b → a ≡ b
one_only l i a b p q = some-injective a b (sym p ∙ q)

pub each_map : {A : Type 0} (Q R : A → Type 0) (xs : List A) → ((x : A) → Q x → R x) → Each Q xs → Each R xs
each_map Q R [] f all = tt
each_map Q R (x ∷ xs) f all = (f x all.0, each_map Q R xs f all.1)

pub each_both : {A : Type 0} (Q : A → Type 0) (xs ys : List A) → Each Q xs → Each Q ys → Each Q (xs ++ ys)
each_both Q [] ys a b = b
each_both Q (x ∷ xs) ys a b = (a.0, each_both Q xs ys a.1 b)

pub each_in : {A : Type 0} (Q : A → Type 0) (xs : List A) (x : A) → IsIn x xs → Each Q xs → Q x
each_in Q [] x h all = absurd h
each_in Q (y ∷ ys) x h all = ⊎_elim (λ e. subst Q e all.0) (λ later. each_in Q ys x later all.1) h

-- the draft of one node changes
abbrev pub put_at : (ℕ → Content) → ℕ → Content → ℕ → Content
put_at f k d j = cond (nat_eq j k) d (f j)

pub put_here : (f : ℕ → Content) (k : ℕ) (d : Content) → put_at f k d k ≡ d
put_here f k d = ap (λ (b : Bool). cond b d (f k)) (eq-eqb k k refl)

pub put_else : (f : ℕ → Content) (k : ℕ) (d : Content) (j : ℕ) → j ≢ k → put_at f k d j ≡ f j
put_else f k d j ne = ap (λ (b : Bool). cond b d (f j)) (ne_eqb j k ne)

abbrev nothing : Node
nothing = node_at 0 0 [] None

pub node_here : (ns : List Node) (k : ℕ) (b : Node) → k < length ns → node (set ns k b) k ≡ b
node_here ns k b low = get_or-set_same ns k b nothing low

pub node_else : (ns : List Node) (k j : ℕ) (b : Node) → j ≢ k → node (set ns k b) j ≡ node ns j
node_else ns k j b ne = get_or-set_other ns k j b nothing ne

-- whose a word is, is one thing
abbrev node_of : Owner → ℕ
node_of counts = 0
node_of (in_node k) = k
node_of (in_room id) = 0

abbrev room_of : Owner → ℕ
room_of counts = 0
room_of (in_node k) = 0
room_of (in_room id) = id

abbrev kind : Owner → ℕ
kind counts = 0
kind (in_node k) = 1
kind (in_room id) = 2

pub same_node : (j k : ℕ) → in_node j ≡ in_node k → j ≡ k
same_node j k e = ap node_of e

pub same_room : (j k : ℕ) → in_room j ≡ in_room k → j ≡ k
same_room j k e = ap room_of e

pub no_count : (k : ℕ) → counts ≢ in_node k
no_count k e = let z : 0 ≡ 1 = ap kind e in absurd (omega (arith, z))

pub no_count_room : (id : ℕ) → counts ≢ in_room id
no_count_room id e = let z : 0 ≡ 2 = ap kind e in absurd (omega (arith, z))

pub no_room_node : (id k : ℕ) → in_room id ≢ in_node k
no_room_node id k e = let z : 2 ≡ 1 = ap kind e in absurd (omega (arith, z))

pub no_node_room : (k id : ℕ) → in_node k ≢ in_room id
no_node_room k id e = let z : 1 ≡ 2 = ap kind e in absurd (omega (arith, z))

module _ (owner : ℕ → Owner) (k : ℕ) where
  -- a word that is another's changes
  pub other_word : (a : Node) (d : Content) (ws : List ℕ) (key x : ℕ) → owner key ≢ in_node k → IsNode owner k a d ws → IsNode owner k a d (set ws key x)
  other_word a d ws key x ne n = record {
    drafted = n.drafted;
    version = set_else ws key a.place x (λ e. ne (ap owner (sym e) ∙ n.version_is)) ∙ n.version;
    version_is = n.version_is;
    cells = λ i h. set_else ws key (a.place + i + 1) x (λ e. ne (ap owner (sym e) ∙ n.cells_are i h)) ∙ n.cells i h;
    cells_are = n.cells_are;
    bits = n.bits;
  }

  pub more_words : (a : Node) (d : Content) (ws more : List ℕ) → IsNode owner k a d ws → IsNode owner k a d (ws ++ more)
  more_words a d ws more n = record {
    drafted = n.drafted;
    version = at_longer ws more a.place a.word n.version;
    version_is = n.version_is;
    cells = λ i h. at_longer ws more (a.place + i + 1) (at (shown a.holder a.content d) i) (n.cells i h);
    cells_are = n.cells_are;
    bits = n.bits;
  }

  pub other_owner : (a : Node) (d : Content) (ws : List ℕ) (owner' : ℕ → Owner) → ((x : ℕ) → x < length ws → owner x ≡ in_node k → owner' x ≡ in_node k) → IsNode owner k a d ws → IsNode owner' k a d ws
  other_owner a d ws owner' keeps n = record {
    drafted = n.drafted;
    version = n.version;
    version_is = keeps a.place (below ws a.place a.word n.version) n.version_is;
    cells = n.cells;
    cells_are = λ i h. keeps (a.place + i + 1) (below ws (a.place + i + 1) (at (shown a.holder a.content d) i) (n.cells i h)) (n.cells_are i h);
    bits = n.bits;
  }

  -- the version word changes, and what the others show does not
  pub node_version : (a b : Node) (d d' : Content) (ws : List ℕ) → IsNode owner k a d ws → b.place ≡ a.place → length b.content ≡ length a.content → length d' ≡ length b.content
      → shown b.holder b.content d' ≡ shown a.holder a.content d → WordFits b.holder b.word → IsNode owner k b d' (set ws a.place b.word)
  node_version a b d d' ws n place len drafted same bits = record {
    drafted = drafted;
    version = ap (λ (z : ℕ). get_elem? (set ws a.place b.word) z) place ∙ set_here ws a.place b.word (below ws a.place a.word n.version);
    version_is = ap owner place ∙ n.version_is;
    cells = λ i h. let h' : i < length a.content = omega (arith, h, len) in ap (λ (z : ℕ). get_elem? (set ws a.place b.word) (z + i + 1)) place
        ∙ (set_else ws a.place (a.place + i + 1) b.word (λ e. absurd (omega (arith, e))) ∙ (n.cells i h' ∙ ap (λ (z : Content). some (at z i)) (sym same)));
    cells_are = λ i h. ap (λ (z : ℕ). owner (z + i + 1)) place ∙ n.cells_are i (omega (arith, h, len));
    bits = bits;
  }

  shown_held : (h : Option ℕ) (id : ℕ) (c d : Content) → h ≡ Some id → shown h c d ≡ d
  shown_held h id c d e = ap (λ (z : Option ℕ). shown z c d) e

  -- a word of a held node's content changes
  pub node_cell : (a : Node) (id : ℕ) (d : Content) (ws : List ℕ) (i x : ℕ) → IsNode owner k a d ws → a.holder ≡ Some id → i < length a.content → IsNode owner k a (set d i x) (set ws (a.place + i + 1) x)
  node_cell a id d ws i x n held low =
      let key : ℕ = a.place + i + 1 in let there : key < length ws = below ws key (at (shown a.holder a.content d) i) (n.cells i low) in
      let low' : i < length d = omega (arith, n.drafted, low) in
      let show : (e : Content) → shown a.holder a.content e ≡ e = λ e. shown_held a.holder id a.content e held in record {
        drafted = length-set d i x ∙ n.drafted;
        version = set_else ws key a.place x (λ e. absurd (omega (arith, e))) ∙ n.version;
        version_is = n.version_is;
        cells = λ j h. dite (ℕ_discrete j i)
            (λ e. subst (λ (z : ℕ). get_elem? (set ws key x) (a.place + z + 1) ≡ some (at (shown a.holder a.content (set d i x)) z)) (sym e)
            (set_here ws key x there ∙ ap some (sym (ap (λ (z : Content). at z i) (show (set d i x)) ∙ get_or-set_same d i x 0 low'))))
            (λ ne. set_else ws key (a.place + j + 1) x (λ e. ne (omega (arith, e)))
            ∙ (n.cells j h ∙ ap some (ap (λ (z : Content). at z j) (show d) ∙ sym (ap (λ (z : Content). at z j) (show (set d i x)) ∙ get_or-set_other d i j x 0 ne))));
        cells_are = n.cells_are;
        bits = n.bits;
      }

-- a room's words
module _ (owner : ℕ → Owner) (id : ℕ) where
  pub room_else : (ws : List ℕ) (key x : ℕ) (r : Room) → owner key ≢ in_room id → RoomFits owner ws id r → RoomFits owner (set ws key x) id r
  room_else ws key x r ne f i n e = (set_else ws key (r.start + i) x (λ is. ne (ap owner (sym is) ∙ (f i n e).1)) ∙ (f i n e).0, (f i n e).1)

  pub room_longer : (ws more : List ℕ) (r : Room) → RoomFits owner ws id r → RoomFits owner (ws ++ more) id r
  room_longer ws more r f i n e = (at_longer ws more (r.start + i) n (f i n e).0, (f i n e).1)

  pub room_owner : (ws : List ℕ) (owner' : ℕ → Owner) (r : Room) → ((x : ℕ) → x < length ws → owner x ≡ in_room id → owner' x ≡ in_room id) → RoomFits owner ws id r → RoomFits owner' ws id r
  room_owner ws owner' r keeps f i n e = ((f i n e).0, keeps (r.start + i) (below ws (r.start + i) n (f i n e).0) (f i n e).1)

  pub room_put : (ws : List ℕ) (i x n : ℕ) (r : Room) → get_elem? r.draft i ≡ some n → RoomFits owner ws id r → RoomFits owner (set ws (r.start + i) x) id (room_at r.start (set r.draft i x))
  room_put ws i x n r there f j m e = ⊎_elim
      (λ t. (
        subst (λ (z : ℕ × ℕ). get_elem? (set ws (r.start + i) x) (r.start + z.0) ≡ some z.1) (λ l. (sym t.0 l, t.1 l)) (set_here ws (r.start + i) x (below ws (r.start + i) n (f i n there).0)),
        subst (λ (z : ℕ). owner (r.start + z) ≡ in_room id) (sym t.0) (f i n there).1,
      ))
      (λ t. let ne = t.0 in (set_else ws (r.start + i) (r.start + j) x (λ e'. ne (omega (arith, e'))) ∙ (f j m t.1).0, (f j m t.1).1))
      (at_set r.draft i j x m e)

-- what a change of a node leaves to what others remember of it
pub record Lasts (a b : Node) : Type 0 where
  pub place : b.place ≡ a.place
  pub len : length b.content ≡ length a.content
  pub later : (w m : ℕ) → w ≡ 4 * m → w ≤ a.word → (w ≤ b.word) × (w ≡ b.word → (w ≡ a.word) × (b.content ≡ a.content))

module _ (ns : List Node) (ds : ℕ → Content) (k : ℕ) (b : Node) (d' : Content) (low : k < length ns) (lasts : Lasts (node ns k) b) where
  abbrev ns' : List Node
  ns' = set ns k b

  now_at : (j : ℕ) → j ≡ k → node ns' j ≡ b
  now_at j e = ap (λ (z : ℕ). node ns' z) e ∙ node_here ns k b low

  pub place_lasts : (p : Place) → PlaceFits ns p → PlaceFits ns' p
  place_lasts p f = dite (ℕ_discrete p.number k)
      (λ e. let was = ap (λ (z : ℕ). node ns z) e in (
        omega (arith, f.0, length-set ns k b),
        ap (λ (z : Node). z.place) (now_at p.number e) ∙ (lasts.place ∙ (ap (λ (z : Node). z.place) (sym was) ∙ f.1)),
        ap (λ (z : Node). length z.content) (now_at p.number e) ∙ (lasts.len ∙ (ap (λ (z : Node). length z.content) (sym was) ∙ f.2)),
      ))
      (λ ne. let same = node_else ns k p.number b ne in
      (omega (arith, f.0, length-set ns k b), ap (λ (z : Node). z.place) same ∙ f.1, ap (λ (z : Node). length z.content) same ∙ f.2))

  read_lasts : (r : Read) → ReadFits ns r → ReadFits ns' r
  read_lasts r f = (
    omega (arith, f.0, length-set ns k b),
    λ m free. let old = f.1 m free in dite (ℕ_discrete r.number k)
        (λ e. let was = ap (λ (z : ℕ). node ns z) e in let now = now_at r.number e in
        let t = lasts.later r.word m free (subst (λ (z : Node). r.word ≤ z.word) was old.0) in (
          subst (λ (z : Node). r.word ≤ z.word) (sym now) t.0,
          λ hit. let u = t.1 (hit ∙ ap (λ (z : Node). z.word) now) in
              subst (λ (z : Content). Agree z r.saw) (sym (ap (λ (z : Node). z.content) now ∙ (u.1 ∙ ap (λ (z : Node). z.content) (sym was)))) (old.1 (u.0 ∙ ap (λ (z : Node). z.word) (sym was))),
        ))
        (λ ne. let same = node_else ns k r.number b ne in
        (subst (λ (z : Node). r.word ≤ z.word) (sym same) old.0, λ hit. subst (λ (z : Node). Agree z.content r.saw) (sym same) (old.1 (hit ∙ ap (λ (z : Node). z.word) same)))),
  )

  -- a hold of another node, or of this one by another seat: then it is no hold
  hold_lasts : (id : ℕ) → ((node ns k).holder ≡ Some id → ⊥) → (h : Hold) → HoldFits ns ds id h → HoldFits ns' (put_at ds k d') id h
  hold_lasts id apart h f = dite (ℕ_discrete h.number k)
      (λ e. absurd (apart (ap (λ (z : Node). z.holder) (sym (ap (λ (z : ℕ). node ns z) e)) ∙ f.1)))
      (λ ne. (omega (arith, f.0, length-set ns k b), ap (λ (z : Node). z.holder) (node_else ns k h.number b ne) ∙ f.1, put_else ds k d' h.number ne ∙ f.2, ap (λ (z : Node). z.word) (node_else ns k h.number b ne) ∙ f.3))

  pub knows_lasts : {V : Type 0} (id : ℕ) (v : SeatView V) → ((node ns k).holder ≡ Some id → ⊥) → Knows ns ds id v → Knows ns' (put_at ds k d') id v
  knows_lasts id v apart f = record {
    places = each_map (PlaceFits ns) (PlaceFits ns') v.places place_lasts f.places;
    reads = each_map (ReadFits ns) (ReadFits ns') v.reads read_lasts f.reads;
    holds = each_map (HoldFits ns ds id) (HoldFits ns' (put_at ds k d') id) v.holds (hold_lasts id apart) f.holds;
  }

  pub places_last : (ps : List Place) → Each (PlaceFits ns) ps → Each (PlaceFits ns') ps
  places_last ps all_ = each_map (PlaceFits ns) (PlaceFits ns') ps place_lasts all_

  pub reads_last : (rs : List Read) → Each (ReadFits ns) rs → Each (ReadFits ns') rs
  reads_last rs all_ = each_map (ReadFits ns) (ReadFits ns') rs read_lasts all_

  module _ (id : ℕ) where
    abbrev F : Hold → Type 0
    F = HoldFits ns' (put_at ds k d') id

    other_hold : (h : Hold) → k ≢ h.number → HoldFits ns ds id h → F h
    other_hold h ne f = let ne' : h.number ≢ k = λ e. ne (sym e) in
        (omega (arith, f.0, length-set ns k b), ap (λ (z : Node). z.holder) (node_else ns k h.number b ne') ∙ f.1, put_else ds k d' h.number ne' ∙ f.2, ap (λ (z : Node). z.word) (node_else ns k h.number b ne') ∙ f.3)

    -- what the seat itself keeps: its other holds
    pub without_lasts : (hs : List Hold) → Each (HoldFits ns ds id) hs → Each F (without k hs)
    without_lasts [] all_ = tt
    without_lasts (h ∷ hs) all_ = let Part : Bool → Type 0 = λ z. Each F (cond z (without k hs) (h ∷ without k hs)) in dite (ℕ_discrete k h.number)
        (λ e. subst Part (sym (eq-eqb k h.number e)) (without_lasts hs all_.1))
        (λ ne. subst Part (sym (ne_eqb k h.number ne)) (other_hold h ne all_.0, without_lasts hs all_.1))

    -- with a new draft, where it still holds the node
    pub drafts_last : b.holder ≡ Some id → b.word ≡ (node ns k).word → (hs : List Hold) → Each (HoldFits ns ds id) hs → Each F (with_draft k d' hs)
    drafts_last held same [] all_ = tt
    drafts_last held same (h ∷ hs) all_ = let Part : Bool → Type 0 = λ z. Each F (cond z (hold k h.word d') h ∷ with_draft k d' hs) in dite (ℕ_discrete k h.number)
        (λ e. subst Part (sym (eq-eqb k h.number e))
        ((omega (arith, low, length-set ns k b), ap (λ (z : Node). z.holder) (node_here ns k b low) ∙ held, put_here ds k d', ap (λ (z : Node). z.word) (node_here ns k b low) ∙ (same ∙ (ap (λ (z : ℕ). (node ns z).word) e ∙ all_.0.3))), drafts_last held same hs all_.1))
        (λ ne. subst Part (sym (ne_eqb k h.number ne)) (other_hold h ne all_.0, drafts_last held same hs all_.1))

-- a new node joins
module _ (ns : List Node) (ds : ℕ → Content) (b : Node) (d' : Content) where
  abbrev longer : List Node
  longer = ns ++ b ∷ []

  pub node_before : (j : ℕ) → j < length ns → node longer j ≡ node ns j
  node_before j low = lib.ListN.get_or-append ns (b ∷ []) nothing j low

  pub node_last : node longer (length ns) ≡ b
  node_last = lib.Seq.get_or_at ns b [] nothing (length ns) refl

  pub one_more : length longer ≡ length ns + 1
  one_more = length-append ns (b ∷ [])

  pub place_joined : (p : Place) → PlaceFits ns p → PlaceFits longer p
  place_joined p f = let same = node_before p.number f.0 in (omega (arith, f.0, one_more), ap (λ (z : Node). z.place) same ∙ f.1, ap (λ (z : Node). length z.content) same ∙ f.2)

  read_joined : (r : Read) → ReadFits ns r → ReadFits longer r
  read_joined r f = let same = node_before r.number f.0 in (
    omega (arith, f.0, one_more),
    λ m free. let old = f.1 m free in
        (subst (λ (z : Node). r.word ≤ z.word) (sym same) old.0, λ hit. subst (λ (z : Node). Agree z.content r.saw) (sym same) (old.1 (hit ∙ ap (λ (z : Node). z.word) same))),
  )

  hold_joined : (id : ℕ) (h : Hold) → HoldFits ns ds id h → HoldFits longer (put_at ds (length ns) d') id h
  hold_joined id h f = let same = node_before h.number f.0 in
      (omega (arith, f.0, one_more), ap (λ (z : Node). z.holder) same ∙ f.1, put_else ds (length ns) d' h.number (λ e. let low = f.0 in omega (arith, low, e)) ∙ f.2, ap (λ (z : Node). z.word) same ∙ f.3)

  pub knows_joined : {V : Type 0} (id : ℕ) (v : SeatView V) → Knows ns ds id v → Knows longer (put_at ds (length ns) d') id v
  knows_joined id v f = record {
    places = each_map (PlaceFits ns) (PlaceFits longer) v.places place_joined f.places;
    reads = each_map (ReadFits ns) (ReadFits longer) v.reads read_joined f.reads;
    holds = each_map (HoldFits ns ds id) (HoldFits longer (put_at ds (length ns) d') id) v.holds (hold_joined id) f.holds;
  }
