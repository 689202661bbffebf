-- Each step keeps the rule.
use Rattle.std.proofs.Common.{◌≡◌, ◌≢◌, ◌⊎◌, ℕ, ◌+◌, ◌*◌, ◌<◌, Bool, cond, List, [], ◌∷◌, map, length, set, sym, refl, ap, ◌∙◌, subst, inl, inr, ⊎_elim, arith, length-set, eq-eqb, ne_eqb, Option, Some, None}
use Rattle.std.proofs.lemmas.List.{append-nil}
use Rattle.std.proofs.lemmas.Option.{none-some}
use mathlib.Core.Logic.{dite}
use mathlib.Core.Option.{some}
use native.Mathlib.Decide.{ℕ_discrete}
use lib.ListN.{get_elem?}
use lib.Seq.{map-set, set-get_or}
use Rattle.atomic_table.proofs.Lists.{at_set, at_map, at_snoc, set_again, set_else}
use Rattle.word_book.specs.Book.{State, looked, changed, grown, Loads, Stores, Exchanges, Enters}
use Rattle.live_nodes.specs.Nodes.{Content, at, Node, node, node_at, in_node, in_room, shown, WordFits, IsNode}
use Rattle.live_nodes.specs.Seats.{Place, place, Read, read, Hold, no_room, SeatView, seat_view, IsIn, Each, Agree}
use Rattle.live_nodes.specs.Rule.{PlaceFits, ReadFits, HoldFits, Knows, RoomFits, client, IsLive}
use Rattle.live_nodes.specs.Acts as acts
use Rattle.live_nodes.specs.Plays as plays
use Rattle.live_nodes.specs.Plays.{read_of, hold_of, saw_in, took, saw, learned, locked, wrote, freed, Fits, Checked, Tried}
use Rattle.live_nodes.proofs.Frames.{one_only, each_both, each_in, put_at, put_here, put_else, node_here, node_else, same_node, no_count, no_room_node, other_word, node_version, node_cell, room_else, Lasts, place_lasts, knows_lasts, places_last, reads_last, without_lasts, drafts_last}

abbrev value_or : {A : Type 0} → A → Option A → A
value_or d None = d
value_or d (Some x) = x

some_one : {A : Type 0} (a b : A) → Some a ≡ Some b → a ≡ b
some_one a b e = ap (value_or a) e

no_some : {A : Type 0} (a : A) → None ≡ Some a → ⊥
no_some a e = none-some a e

-- what is found in a list is in it
read_found : (k : ℕ) (rs : List Read) (r : Read) → read_of k rs ≡ Some r → IsIn r rs × (r.number ≡ k)
read_found k [] r e = absurd (no_some r e)
read_found k (x ∷ xs) r e = let Part : Bool → Type 0 = λ b. cond b (Some x) (read_of k xs) ≡ Some r in dite (ℕ_discrete k x.number)
    (λ is. let same : x ≡ r = some_one x r (subst Part (eq-eqb k x.number is) e) in (inl same, ap (λ (z : Read). z.number) (sym same) ∙ sym is))
    (λ ne. let later = read_found k xs r (subst Part (ne_eqb k x.number ne) e) in (inr later.0, later.1))

hold_found : (k : ℕ) (hs : List Hold) (h : Hold) → hold_of k hs ≡ Some h → IsIn h hs × (h.number ≡ k)
hold_found k [] h e = absurd (no_some h e)
hold_found k (x ∷ xs) h e = let Part : Bool → Type 0 = λ b. cond b (Some x) (hold_of k xs) ≡ Some h in dite (ℕ_discrete k x.number)
    (λ is. let same : x ≡ h = some_one x h (subst Part (eq-eqb k x.number is) e) in (inl same, ap (λ (z : Hold). z.number) (sym same) ∙ sym is))
    (λ ne. let later = hold_found k xs h (subst Part (ne_eqb k x.number ne) e) in (inr later.0, later.1))

each_saw : (Q : Read → Type 0) (k : ℕ) (x : ℕ × ℕ) (rs : List Read) → ((r : Read) → r.number ≡ k → Q r → Q (read r.number r.word (x ∷ r.saw))) → Each Q rs → Each Q (saw_in k x rs)
each_saw Q k x [] more all_ = tt
each_saw Q k x (r ∷ rs) more all_ = let Part : Bool → Type 0 = λ b. Each Q (cond b (read r.number r.word (x ∷ r.saw) ∷ rs) (r ∷ saw_in k x rs)) in dite (ℕ_discrete k r.number)
    (λ is. subst Part (sym (eq-eqb k r.number is)) (more r (sym is) all_.0, all_.1))
    (λ ne. subst Part (sym (ne_eqb k r.number ne)) (all_.0, each_saw Q k x rs more all_.1))

module _ {V : Type 0} (root : ℕ) (P : List Node → List V → Type 0) where
  abbrev View : Type 0
  View = SeatView V

  abbrev St : Type 0
  St = State View

  abbrev R : St → Type 0
  R = IsLive root P

  pub seats_stay : (K : ℕ → View → Type 0) (vs : List View) (id : ℕ) (w : View) → K id w → ((j : ℕ) (d : View) → j ≢ id → get_elem? vs j ≡ some d → K j d)
      → (j : ℕ) (d : View) → get_elem? (set vs id w) j ≡ some d → K j d
  seats_stay K vs id w mine others j d e = ⊎_elim (λ (t : (j ≡ id) × (w ≡ d)). subst (λ (x : ℕ × View). K x.0 x.1) (λ i. (sym t.0 i, t.1 i)) mine)
      (λ (t : (j ≢ id) × (get_elem? vs j ≡ some d)). others j d t.0 t.1) (at_set vs id j w d e)

  pub client_at : (s : St) (id : ℕ) (v : View) → get_elem? s.views id ≡ some v → get_elem? (map client s.views) id ≡ some v.client
  client_at s id v e = at_map client s.views id v e

  pub agreed_with : (ns : List Node) (vs : List View) (id : ℕ) (w : View) → P ns (set (map client vs) id w.client) → P ns (map client (set vs id w))
  agreed_with ns vs id w p = subst (P ns) (sym (map-set client vs id w)) p

  pub same_client : (ns : List Node) (s : St) (id : ℕ) (v : View) (c : V) → get_elem? s.views id ≡ some v → c ≡ v.client → P ns (map client s.views) → P ns (set (map client s.views) id c)
  same_client ns s id v c seat same p = subst (P ns) (sym (ap (λ (x : V). set (map client s.views) id x) same ∙ set_again (map client s.views) id v.client (client_at s id v seat))) p

  -- only a view changes
  quiet : (s : St) (r : R s) (id : ℕ) (w : View) → Knows r.nodes r.drafts id w → RoomFits r.owner s.words id w.room → P r.nodes (set (map client s.views) id w.client) → R (looked s id w)
  quiet s r id w mine room p = record {
    nodes = r.nodes;
    drafts = r.drafts;
    owner = r.owner;
    counted = r.counted;
    long = r.long;
    rooted = r.rooted;
    each_node = r.each_node;
    each_seat = seats_stay (Knows r.nodes r.drafts) s.views id w mine (λ j d _ e. r.each_seat j d e);
    each_room = seats_stay (λ j d. RoomFits r.owner s.words j d.room) s.views id w room (λ j d _ e. r.each_room j d e);
    agreed = agreed_with r.nodes s.views id w p;
  }

  pub silent : (s : St) (r : R s) (id : ℕ) (v w : View) → get_elem? s.views id ≡ some v → w.client ≡ v.client → w.room ≡ v.room → Knows r.nodes r.drafts id w → R (looked s id w)
  silent s r id v w seat same room mine =
      quiet s r id w mine (subst (RoomFits r.owner s.words id) (sym room) (r.each_room id v seat)) (same_client r.nodes s id v w.client seat same r.agreed)

  -- one word of a node changes
  stepped : (s : St) (r : R s) (k key x : ℕ) (b : Node) (d' : Content) (id : ℕ) (w : View) → k < length r.nodes → r.owner key ≡ in_node k
      → IsNode r.owner k b d' (set s.words key x) → Lasts (node r.nodes k) b → ((j : ℕ) → j ≢ id → (node r.nodes k).holder ≡ Some j → ⊥)
      → Knows (set r.nodes k b) (put_at r.drafts k d') id w → RoomFits r.owner s.words id w.room
      → P (set r.nodes k b) (set (map client s.views) id w.client) → R (changed s key x id w)
  stepped s r k key x b d' id w low mine_is is lasts apart mine room p =
      let ns' : List Node = set r.nodes k b in let ds' : ℕ → Content = put_at r.drafts k d' in let ws' : List ℕ = set s.words key x in
      let many : length ns' ≡ length r.nodes = length-set r.nodes k b in
      let no_room_is : (j : ℕ) → r.owner key ≢ in_room j = λ j e. no_room_node j k (sym e ∙ mine_is) in record {
        nodes = ns';
        drafts = ds';
        owner = r.owner;
        counted = r.counted;
        long = λ n e. length-set s.words key x ∙ r.long n (sym (set_else s.words key 0 x (λ z. no_count k (sym r.counted ∙ (ap r.owner z ∙ mine_is)))) ∙ e);
        rooted = place_lasts r.nodes r.drafts k b d' low lasts (place 0 1 root) r.rooted;
        each_node = λ j h. dite (ℕ_discrete j k)
            (λ e. subst (λ (z : ℕ). IsNode r.owner z (node ns' z) (ds' z) ws') (sym e)
            (subst (λ (t : Node × Content). IsNode r.owner k t.0 t.1 ws') (λ t. (sym (node_here r.nodes k b low) t, sym (put_here r.drafts k d') t)) is))
            (λ ne. let h' : j < length r.nodes = omega (arith, h, many) in
            subst (λ (t : Node × Content). IsNode r.owner j t.0 t.1 ws') (λ t. (sym (node_else r.nodes k j b ne) t, sym (put_else r.drafts k d' j ne) t))
            (other_word r.owner j (node r.nodes j) (r.drafts j) s.words key x (λ e. ne (same_node j k (sym e ∙ mine_is))) (r.each_node j h')));
        each_seat = seats_stay (Knows ns' ds') s.views id w mine (λ j v ne e. knows_lasts r.nodes r.drafts k b d' low lasts j v (apart j ne) (r.each_seat j v e));
        each_room = seats_stay (λ j d. RoomFits r.owner ws' j d.room) s.views id w (room_else r.owner id s.words key x w.room (no_room_is id) room)
            (λ j v ne e. room_else r.owner j s.words key x v.room (no_room_is j) (r.each_room j v e));
        agreed = agreed_with ns' s.views id w p;
      }

  -- a word that isn't a held node's
  shown_none : (h : Option ℕ) (c d : Content) (w : ℕ) → WordFits h w → ((m : ℕ) → w ≢ 4 * m + 2) → (h ≡ None) × (shown h c d ≡ c)
  shown_none None c d w f ne = (refl, refl)
  shown_none (Some j) c d w f ne = absurd (ne f.0 f.1)

  not_held : (w m : ℕ) → w ≡ 4 * m → (x : ℕ) → w ≢ 4 * x + 2
  not_held w m e x f = absurd (omega (arith, e, f))

  shown_open : (h : Option ℕ) (c d : Content) (w m : ℕ) → WordFits h w → w ≡ 4 * m → (h ≡ None) × (shown h c d ≡ c)
  shown_open h c d w m f e = shown_none h c d w f (not_held w m e)

  none_held : (h : Option ℕ) (j : ℕ) → h ≡ None → h ≡ Some j → ⊥
  none_held h j e f = no_some j (sym e ∙ f)

  one_holder : (h : Option ℕ) (id j : ℕ) → h ≡ Some id → j ≢ id → h ≡ Some j → ⊥
  one_holder h id j e ne f = ne (some_one j id (sym f ∙ e))

  -- a node that a seat knows
  module _ (s : St) (r : R s) (id : ℕ) (v : View) (seat : get_elem? s.views id ≡ some v) where
    here : (p : Place) → IsIn p v.places → PlaceFits r.nodes p
    here p known = each_in (PlaceFits r.nodes) v.places p known (r.each_seat id v seat).places

    abbrev its : Place → Node
    its p = node r.nodes p.number

    is_node : (p : Place) → IsIn p v.places → IsNode r.owner p.number (its p) (r.drafts p.number) s.words
    is_node p known = r.each_node p.number (here p known).0

    -- whose its version word is, and whose the words of its content are
    word_of : (p : Place) → IsIn p v.places → r.owner p.key ≡ in_node p.number
    word_of p known = ap r.owner (sym (here p known).1) ∙ (is_node p known).version_is

    cell_of : (p : Place) (i : ℕ) → IsIn p v.places → i < p.len → r.owner (p.key + i + 1) ≡ in_node p.number
    cell_of p i known low = ap (λ (z : ℕ). r.owner (z + i + 1)) (sym (here p known).1) ∙ (is_node p known).cells_are i (omega (arith, low, (here p known).2))

    one_place : (p p' : Place) → IsIn p v.places → IsIn p' v.places → p.key ≡ p'.key → p.number ≡ p'.number
    one_place p p' known known' e = same_node p.number p'.number (sym (word_of p known) ∙ (ap r.owner e ∙ word_of p' known'))

    one_cell : (p p' : Place) (i i' : ℕ) → IsIn p v.places → IsIn p' v.places → i < p.len → i' < p'.len → p.key + i + 1 ≡ p'.key + i' + 1 → (p.number ≡ p'.number) × (i ≡ i')
    one_cell p p' i i' known known' low low' e =
        let number : p.number ≡ p'.number = same_node p.number p'.number (sym (cell_of p i known low) ∙ (ap r.owner e ∙ cell_of p' i' known' low')) in
        let key : p.key ≡ p'.key = sym (here p known).1 ∙ (ap (λ (z : ℕ). (node r.nodes z).place) number ∙ (here p' known').1) in (number, omega (arith, key, e))

    -- what is found there
    word_found : (p : Place) (n : ℕ) → IsIn p v.places → get_elem? s.words p.key ≡ some n → n ≡ (its p).word
    word_found p n known there = one_only s.words p.key n (its p).word there (ap (get_elem? s.words) (sym (here p known).1) ∙ (is_node p known).version)

    cell_found : (p : Place) (i n : ℕ) → IsIn p v.places → i < p.len → get_elem? s.words (p.key + i + 1) ≡ some n → n ≡ at (shown (its p).holder (its p).content (r.drafts p.number)) i
    cell_found p i n known low there = one_only s.words (p.key + i + 1) n (at (shown (its p).holder (its p).content (r.drafts p.number)) i) there
        (ap (λ (z : ℕ). get_elem? s.words (z + i + 1)) (sym (here p known).1) ∙ (is_node p known).cells i (omega (arith, low, (here p known).2)))

  -- TAKE
  pub may_take : (id : ℕ) (v : View) (p : Place) → IsIn p v.places → Loads R plays.Takes id v p.key
  may_take id v p known s n r seat there =
      let f = r.each_seat id v seat in let word = word_found s r id v seat p n known there in let w : View = took v p.number n in (
        w,
        silent s r id v w seat refl refl (record { places = f.places; reads = (((here s r id v seat p known).0, λ m free. ((let same : n ≡ (node r.nodes p.number).word = word in omega arith), λ _. tt)), f.reads); holds = f.holds }),
        (λ p' known' key. ap (λ (z : ℕ). took v z n) (one_place s r id v seat p p' known known' (sym key))),
      )

  pub may_idle : (id : ℕ) (v : View) (key : ℕ) → Loads R plays.Idles id v key
  may_idle id v key s n r seat there = (v, silent s r id v v seat refl refl (r.each_seat id v seat), refl)

  -- SEE
  pub may_see : (id : ℕ) (v : View) (p : Place) (i : ℕ) → IsIn p v.places → i < p.len → Loads R plays.Sees id v (p.key + i + 1)
  may_see id v p i known low s n r seat there =
      let f = r.each_seat id v seat in let k : ℕ = p.number in let a : Node = node r.nodes k in let w : View = saw v k (i, n) in
      let cell = cell_found s r id v seat p i n known low there in let is = is_node s r id v seat p known in
      let more : (rd : Read) → rd.number ≡ k → ReadFits r.nodes rd → ReadFits r.nodes (read rd.number rd.word ((i, n) ∷ rd.saw)) = λ rd same old. (
        old.0,
        λ m free. let o = old.1 m free in (
          o.0,
          λ hit. (
            subst (λ (z : ℕ). at (node r.nodes z).content i ≡ n) (sym same)
                (let e : a.word ≡ 4 * m = ap (λ (z : ℕ). (node r.nodes z).word) (sym same) ∙ (sym hit ∙ free) in
                sym (cell ∙ ap (λ (z : Content). at z i) (shown_open a.holder a.content (r.drafts k) a.word m is.bits e).1)),
            o.1 hit,
          ),
        ),
      ) in (
        w,
        silent s r id v w seat refl refl (record { places = f.places; reads = each_saw (ReadFits r.nodes) k (i, n) v.reads more f.reads; holds = f.holds }),
        (λ p' i' known' low' key. let one = one_cell s r id v seat p p' i i' known known' low low' (sym key) in λ j. saw v (one.0 j) (one.1 j, n)),
      )

  -- CHECK
  pub may_check : (id : ℕ) (v : View) (p : Place) (rd : Read) (q : ℕ) (told : V → ℕ → ℕ → List (ℕ × ℕ) → List Place → V → Type 0) → IsIn p v.places
      → read_of p.number v.reads ≡ Some rd → rd.word ≡ 4 * q → acts.Learns P id v.client p.number rd.word rd.saw v.reads (told v.client p.number rd.word rd.saw) → Loads R (plays.Checks told) id v p.key
  may_check id v p rd q told known last free learns s n r seat there =
      let f = r.each_seat id v seat in let k : ℕ = p.number in let a : Node = node r.nodes k in let T = told v.client k rd.word rd.saw in
      let is = is_node s r id v seat p known in let version = word_found s r id v seat p n known there in let found = read_found k v.reads rd last in
      let fits = each_in (ReadFits r.nodes) v.reads rd found.0 f.reads in
      let all_alike : (w : View) → Checked T rd.word v n w → (p' : Place) (rd' : Read) → IsIn p' v.places → p'.key ≡ p.key → read_of p'.number v.reads ≡ Some rd' → Checked (told v.client p'.number rd'.word rd'.saw) rd'.word v n w =
      λ w c p' rd' known' key last'. let number : p'.number ≡ k = one_place s r id v seat p' p known' known key in
      let same : rd ≡ rd' = some_one rd rd' (sym last ∙ (ap (λ (z : ℕ). read_of z v.reads) (sym number) ∙ last')) in
      subst (λ (t : ℕ × Read). Checked (told v.client t.0 t.1.word t.1.saw) t.1.word v n w) (λ j. (sym number j, same j)) c in
      dite (ℕ_discrete n rd.word)
      (λ hit.
      let word : a.word ≡ rd.word = sym version ∙ hit in let open' = (shown_open a.holder a.content (r.drafts k) a.word q is.bits (word ∙ free)).0 in
      let agree : Agree a.content rd.saw = subst (λ (z : ℕ). Agree (node r.nodes z).content rd.saw) found.1 ((fits.1 q free).1 (sym word ∙ ap (λ (z : ℕ). (node r.nodes z).word) (sym found.1))) in
      let g = learns r.nodes (map client s.views) r.agreed (client_at s id v seat) (here s r id v seat p known).0 word open' agree f.reads in
      let w : View = learned v g.0 g.2.0 in (
        w,
        quiet s r id w (record { places = each_both (PlaceFits r.nodes) g.0 v.places g.1 f.places; reads = f.reads; holds = f.holds }) (r.each_room id v seat) g.2.1,
        all_alike w (record { hit = λ _. (g.0, g.2.0, refl {a = w}, g.2.2); miss = λ ne. absurd {A = w ≡ v} (ne hit) }),
      ))
      (λ ne. (v, silent s r id v v seat refl refl f, all_alike v (record { hit = λ hit. absurd (ne hit); miss = λ _. refl })))

  no_more : (s : St) (key x id : ℕ) (w : View) → R (changed s key x id w) → R (grown s key x id w 0)
  no_more s key x id w h = subst (λ (ns : List ℕ). R record { words = ns; views = set s.views id w }) (sym (append-nil (set s.words key x))) h

  -- what was read under a free node's word is in its content
  reads_fit : (ns : List Node) (k word : ℕ) → word ≡ (node ns k).word → (m : ℕ) → word ≡ 4 * m → (rs : List Read) → Each (ReadFits ns) rs → Each (Fits k word (node ns k).content) rs
  reads_fit ns k word is m free [] all_ = tt
  reads_fit ns k word is m free (r ∷ rs) all_ = (
    (λ number same. subst (λ (z : ℕ). Agree (node ns z).content r.saw) number ((all_.0.1 m (same ∙ free)).1 (same ∙ (is ∙ ap (λ (z : ℕ). (node ns z).word) (sym number))))),
    reads_fit ns k word is m free rs all_.1,
  )

  -- LOCK: a free node, or one that is obsolete
  pub may_lock : (id : ℕ) (v : View) (p : Place) (word next m : ℕ) (told : V → ℕ → Content → V → Type 0) → IsIn p v.places → ((x : ℕ) → word ≢ 4 * x + 2) → next ≡ 4 * m + 2 → word < next
      → acts.Locks P id v.client p.number word next (told v.client p.number) → Exchanges R (plays.Locks told) id v p.key word next
  may_lock id v p old next m₀ told known no_holder odd rises locks s n r seat there =
      let f = r.each_seat id v seat in let k : ℕ = p.number in let a : Node = node r.nodes k in let T = told v.client k in let at_p = here s r id v seat p known in
      let is = is_node s r id v seat p known in let version = word_found s r id v seat p n known there in
      let all_alike : (w : View) (m : ℕ) → Tried T k old next p.len v m w → (p' : Place) → IsIn p' v.places → p'.key ≡ p.key → Tried (told v.client p'.number) p'.number old next p'.len v m w =
      λ w m c p' known' key. let number : p'.number ≡ k = one_place s r id v seat p' p known' known key in
      let len : p'.len ≡ p.len = sym (here s r id v seat p' known').2 ∙ (ap (λ (z : ℕ). length (node r.nodes z).content) number ∙ at_p.2) in
      subst (λ (t : ℕ × ℕ). Tried (told v.client t.0) t.0 old next t.1 v m w) (λ j. (sym number j, sym len j)) c in (
        (λ (hit : n ≡ old).
            let word : a.word ≡ old = sym version ∙ hit in let open' = shown_none a.holder a.content (r.drafts k) a.word is.bits (λ x e. no_holder x (sym word ∙ e)) in let b : Node = acts.held_as P id v.client a next id in
            let g = locks r.nodes (map client s.views) r.agreed (client_at s id v seat) at_p.0 word open'.0 in let w : View = locked v g.0 k next a.content in
            let lasts : Lasts a b = record { place = refl; len = refl; later = λ x m e low. (omega (arith, low, word, rises), λ x'. absurd (omega (arith, e, x', odd))) } in
            let apart : (j : ℕ) → a.holder ≡ Some j → ⊥ = λ j e. none_held a.holder j open'.0 e in
            let still = knows_lasts r.nodes r.drafts k b a.content at_p.0 lasts id v (apart id) f in let now = node_here r.nodes k b at_p.0 in
            let mine : Knows (set r.nodes k b) (put_at r.drafts k a.content) id w = record {
              places = still.places;
              reads = still.reads;
              holds = ((omega (arith, at_p.0, length-set r.nodes k b), ap (λ (z : Node). z.holder) now, put_here r.drafts k a.content, ap (λ (z : Node). z.word) now), still.holds);
            } in
            let made = node_version r.owner k a b (r.drafts k) a.content s.words is refl refl refl (sym open'.1) (m₀, odd) in
            let new' : IsNode r.owner k b a.content (set s.words p.key next) = subst (λ (z : ℕ). IsNode r.owner k b a.content (set s.words z next)) at_p.1 made in (
              w,
              0,
              no_more s p.key next id w (stepped s r k p.key next b a.content id w at_p.0 (word_of s r id v seat p known) new' lasts (λ j _ e. apart j e) mine (r.each_room id v seat) g.1),
              all_alike w old (record { won = λ _. (a.content, g.0, at_p.2, refl {a = w}, g.2, λ m free. reads_fit r.nodes k old (sym word) m free v.reads f.reads); lost = λ ne. absurd (ne refl) }),
            )),
        (λ ne. (v, silent s r id v v seat refl refl f, all_alike v n (record { won = λ hit. absurd (ne hit); lost = λ _. refl }))),
      )

  -- a node that the seat holds
  module _ (s : St) (r : R s) (id : ℕ) (v : View) (seat : get_elem? s.views id ≡ some v) (p : Place) (h : Hold) (known : IsIn p v.places) (mine : hold_of p.number v.holds ≡ Some h) where
    fits : HoldFits r.nodes r.drafts id h
    fits = each_in (HoldFits r.nodes r.drafts id) v.holds h (hold_found p.number v.holds h mine).0 (r.each_seat id v seat).holds

    number_is : h.number ≡ p.number
    number_is = (hold_found p.number v.holds h mine).1

    held : (node r.nodes p.number).holder ≡ Some id
    held = ap (λ (z : ℕ). (node r.nodes z).holder) (sym number_is) ∙ fits.1

    draft : r.drafts p.number ≡ h.draft
    draft = ap r.drafts (sym number_is) ∙ fits.2

    word : (node r.nodes p.number).word ≡ h.word
    word = ap (λ (z : ℕ). (node r.nodes z).word) (sym number_is) ∙ fits.3

    -- one hold of one node
    one_hold : (p' : Place) (h' : Hold) → p'.number ≡ p.number → hold_of p'.number v.holds ≡ Some h' → h ≡ h'
    one_hold p' h' number mine' = some_one h h' (sym mine ∙ (ap (λ (z : ℕ). hold_of z v.holds) (sym number) ∙ mine'))

  -- LOOK
  pub may_look : (id : ℕ) (v : View) (key : ℕ) → Loads R plays.Looks id v key
  may_look id v key s n r seat there = (
    v,
    silent s r id v v seat refl refl (r.each_seat id v seat),
    record {
      same = refl;
      held = λ p i h known low at_key mine.
          (let a : Node = node r.nodes p.number in
          let found = cell_found s r id v seat p i n known low (subst (λ (z : ℕ). get_elem? s.words z ≡ some n) (sym at_key) there) in
          found ∙ ap (λ (z : Option ℕ). at (shown z a.content (r.drafts p.number)) i) (held s r id v seat p h known mine) ∙ ap (λ (z : Content). at z i) (draft s r id v seat p h known mine));
      roomed = λ i m at_key is. one_only s.words (v.room.start + i) n m (subst (λ (z : ℕ). get_elem? s.words z ≡ some n) (sym at_key) there) (r.each_room id v seat i m is).0;
    },
  )

  -- WRITE
  pub may_write : (id : ℕ) (v : View) (p : Place) (h : Hold) (i x : ℕ) → IsIn p v.places → hold_of p.number v.holds ≡ Some h → i < p.len → Stores R plays.Writes id v (p.key + i + 1) x
  may_write id v p h i x known mine low s n r seat there =
      let f = r.each_seat id v seat in let k : ℕ = p.number in let a : Node = node r.nodes k in let at_p = here s r id v seat p known in let is = is_node s r id v seat p known in
      let key : ℕ = p.key + i + 1 in let is_held = held s r id v seat p h known mine in let near : i < length a.content = omega (arith, low, at_p.2) in let d' : Content = set h.draft i x in
      let new : IsNode r.owner k a d' (set s.words (a.place + i + 1) x) = node_cell r.owner k a id h.draft s.words i x (subst (λ (z : Content). IsNode r.owner k a z s.words) (draft s r id v seat p h known mine) is) is_held near in
      let new' : IsNode r.owner k a d' (set s.words key x) = subst (λ (z : ℕ). IsNode r.owner k a d' (set s.words (z + i + 1) x)) at_p.1 new in
      let lasts : Lasts a a = record { place = refl; len = refl; later = λ y m e low'. (low', λ z. (z, refl)) } in
      let nodes_same : set r.nodes k a ≡ r.nodes = set-get_or r.nodes k (node_at 0 0 [] None) in let w : View = wrote v k d' in
      let mine' : Knows (set r.nodes k a) (put_at r.drafts k d') id w = record {
        places = places_last r.nodes r.drafts k a d' at_p.0 lasts v.places f.places;
        reads = reads_last r.nodes r.drafts k a d' at_p.0 lasts v.reads f.reads;
        holds = drafts_last r.nodes r.drafts k a d' at_p.0 lasts id is_held refl v.holds f.holds;
      } in
      let agreed : P (set r.nodes k a) (set (map client s.views) id v.client) = subst (λ (ns : List Node). P ns (set (map client s.views) id v.client)) (sym nodes_same) (same_client r.nodes s id v v.client seat refl r.agreed) in (
        w,
        stepped s r k key x a d' id w at_p.0 (cell_of s r id v seat p i known low) new' lasts (λ j ne e. one_holder a.holder id j is_held ne e) mine' (r.each_room id v seat) agreed,
        (λ p' i' h' known' low' key' mine''. let one = one_cell s r id v seat p' p i' i known' known low' low key' in let same = one_hold s r id v seat p h known mine p' h' one.0 mine'' in
            λ j. wrote v (sym one.0 j) (set (same j).draft (sym one.1 j) x)),
      )

  -- a held node's word becomes one that is greater, and free again
  pub may_free : (id : ℕ) (v : View) (p : Place) (h : Hold) (x m : ℕ) (told : V → ℕ → Content → V → Type 0) → IsIn p v.places → hold_of p.number v.holds ≡ Some h → h.word < x → ((x ≡ 4 * m) ⊎ (x ≡ 4 * m + 3))
      → acts.Frees P id v.client p.number x h.draft (told v.client p.number h.draft) → Stores R (plays.Frees told) id v p.key x
  may_free id v p h x m told known mine later bits frees s n r seat there =
      let f = r.each_seat id v seat in let k : ℕ = p.number in let a : Node = node r.nodes k in let at_p = here s r id v seat p known in let is = is_node s r id v seat p known in
      let is_held = held s r id v seat p h known mine in let draft_is = draft s r id v seat p h known mine in let word_is = word s r id v seat p h known mine in
      let rises : a.word < x = omega (arith, later, word_is) in let g = frees r.nodes (map client s.views) r.agreed (client_at s id v seat) at_p.0 is_held rises in
      let b : Node = node_at a.place x h.draft None in let len : length h.draft ≡ length a.content = ap length (sym draft_is) ∙ is.drafted in
      let show : h.draft ≡ shown a.holder a.content (r.drafts k) = sym (ap (λ (z : Option ℕ). shown z a.content (r.drafts k)) is_held ∙ draft_is) in
      let new = node_version r.owner k a b (r.drafts k) h.draft s.words is refl len refl show (m, bits) in
      let new' : IsNode r.owner k b h.draft (set s.words p.key x) = subst (λ (z : ℕ). IsNode r.owner k b h.draft (set s.words z x)) at_p.1 new in
      let lasts : Lasts a b = record { place = refl; len = len; later = λ y m' e low. (omega (arith, low, rises), λ z. absurd (omega (arith, low, rises, z))) } in let w : View = freed v g.0 k in
      let mine' : Knows (set r.nodes k b) (put_at r.drafts k h.draft) id w = record {
        places = places_last r.nodes r.drafts k b h.draft at_p.0 lasts v.places f.places;
        reads = reads_last r.nodes r.drafts k b h.draft at_p.0 lasts v.reads f.reads;
        holds = without_lasts r.nodes r.drafts k b h.draft at_p.0 lasts id v.holds f.holds;
      } in (
        w,
        stepped s r k p.key x b h.draft id w at_p.0 (word_of s r id v seat p known) new' lasts (λ j ne e. one_holder a.holder id j is_held ne e) mine' (r.each_room id v seat) g.1,
        (λ p' h' known' key mine''. let number = one_place s r id v seat p' p known' known key in let same = one_hold s r id v seat p h known mine p' h' number mine'' in
            (g.0, (λ j. freed v g.0 (sym number j)), subst (λ (t : ℕ × Hold). told v.client t.0 t.1.draft g.0) (λ j. (sym number j, same j)) g.2)),
      )

  -- ENTER
  pub may_enter : (c : V) → acts.Admits P c → Enters R (seat_view c (place 0 1 root ∷ []) [] [] no_room)
  may_enter c admits s r =
      let w : View = seat_view c (place 0 1 root ∷ []) [] [] no_room in record {
        nodes = r.nodes;
        drafts = r.drafts;
        owner = r.owner;
        counted = r.counted;
        long = r.long;
        rooted = r.rooted;
        each_node = r.each_node;
        each_seat = λ j d e. ⊎_elim (λ e'. r.each_seat j d e') (λ (e' : w ≡ d). subst (Knows r.nodes r.drafts j) e' (record { places = (r.rooted, tt); reads = tt; holds = tt })) (at_snoc s.views w d j e);
        each_room = λ j d e. ⊎_elim (λ e'. r.each_room j d e') (λ (e' : w ≡ d). subst (λ (x : View). RoomFits r.owner s.words j x.room) e' (λ i n none. absurd (mathlib.Core.Option.some-ne-none n (sym none)))) (at_snoc s.views w d j e);
        agreed = subst (P r.nodes) (sym (mathlib.Core.List.map-append client s.views (w ∷ []))) (admits r.nodes (map client s.views) r.agreed);
      }
