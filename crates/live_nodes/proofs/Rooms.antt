-- Each step on a seat's own room keeps the rule: new words for it, a number written there, a new node made of it.
use Rattle.std.proofs.Common.{◌≡◌, ◌≢◌, ℕ, suc, zero, ◌+◌, ◌*◌, ◌-◌, ◌<◌, ◌≤◌, List, [], ◌∷◌, ◌++◌, map, length, set, take, drop, sym, refl, ap, ◌∙◌, subst, inl, ⊎_elim, arith, length-set, length-append, None}
use mathlib.Core.Logic.{dite}
use mathlib.Core.Option.{some, some-injective, some-ne-none}
use native.Mathlib.Decide.{ℕ_discrete, dec_le}
use lib.ListN.{get_elem?, replicate}
use Rattle.atomic_table.proofs.Lists.{at_snoc, set_here, set_else, at_longer}
use Rattle.word_book.specs.Book.{State, Stores, Exchanges}
use Rattle.live_nodes.specs.Nodes.{Content, at, Node, node, node_at, Owner, counts, in_node, in_room, WordFits, IsNode}
use Rattle.live_nodes.specs.Seats.{place, Room, room_at, no_room, SeatView, seat_view}
use Rattle.word_segments.specs.Segments.{keys}
use Rattle.live_nodes.specs.Rule.{first_key, PlaceFits, Knows, RoomFits, client, IsLive}
use Rattle.live_nodes.specs.Acts as acts
use Rattle.live_nodes.specs.Plays as plays
use Rattle.live_nodes.specs.Plays.{new_content, put, made, given}
use Rattle.live_nodes.proofs.Frames.{below, one_only, put_at, put_here, put_else, same_room, no_count, no_count_room, no_room_node, other_word, more_words, other_owner, room_else, room_longer, room_owner, room_put, node_before, node_last, one_more, place_joined, knows_joined}
use Rattle.live_nodes.proofs.Steps.{seats_stay, client_at, agreed_with, same_client, silent}

abbrev pick : {Q : Type 0} → Dec Q → Owner → Owner → Owner
pick (yes q) a b = a
pick (no n) a b = b

picks_first : {Q : Type 0} (d : Dec Q) (a b : Owner) → Q → pick d a b ≡ a
picks_first (yes q) a b h = refl
picks_first (no n) a b h = absurd (n h)

picks_second : {Q : Type 0} (d : Dec Q) (a b : Owner) → ¬ Q → pick d a b ≡ b
picks_second (yes q) a b h = absurd (h q)
picks_second (no n) a b h = refl

-- the words from one key to another become somebody's
abbrev owned : (ℕ → Owner) → ℕ → ℕ → Owner → ℕ → Owner
owned f from to o x = pick (dec_le from x) (pick (dec_le x to) o (f x)) (f x)

inside : (f : ℕ → Owner) (from to : ℕ) (o : Owner) (x : ℕ) → from ≤ x → x ≤ to → owned f from to o x ≡ o
inside f from to o x low high = picks_first (dec_le from x) (pick (dec_le x to) o (f x)) (f x) low ∙ picks_first (dec_le x to) o (f x) high

outside : (f : ℕ → Owner) (from to : ℕ) (o : Owner) (x : ℕ) → (from ≤ x → x ≤ to → ⊥) → owned f from to o x ≡ f x
outside f from to o x out = dite (dec_le from x)
    (λ low. picks_first (dec_le from x) (pick (dec_le x to) o (f x)) (f x) low ∙ picks_second (dec_le x to) o (f x) (λ high. out low high))
    (λ not_low. picks_second (dec_le from x) (pick (dec_le x to) o (f x)) (f x) not_low)

-- lists by places
some_at : (l : List ℕ) (i : ℕ) → i < length l → (n : ℕ) × (get_elem? l i ≡ some n)
some_at [] i h = absurd (omega arith)
some_at (x ∷ xs) zero h = (x, refl)
some_at (x ∷ xs) (suc i) h = some_at xs i (omega arith)

dropped : (m : ℕ) (l : List ℕ) (i : ℕ) → get_elem? (drop m l) i ≡ get_elem? l (m + i)
dropped zero l i = ap (get_elem? l) (let e : i ≡ 0 + i = omega arith in e)
dropped (suc m) [] i = refl
dropped (suc m) (x ∷ xs) i = dropped m xs i ∙ ap (λ (z : ℕ). get_elem? (x ∷ xs) z) (let e : suc (m + i) ≡ suc m + i = omega arith in e)

taken_length : (n : ℕ) (l : List ℕ) → n ≤ length l → length (take n l) ≡ n
taken_length zero l h = refl
taken_length (suc n) [] h = absurd (omega arith)
taken_length (suc n) (x ∷ xs) h = let e : length (take n xs) ≡ n = taken_length n xs (omega arith) in omega arith

taken_at : (n : ℕ) (l : List ℕ) (i a : ℕ) → i < n → get_elem? l i ≡ some a → at (take n l) i ≡ a
taken_at zero l i a h e = absurd (omega arith)
taken_at (suc n) [] i a h e = absurd (some-ne-none a (sym e))
taken_at (suc n) (x ∷ xs) zero a h e = some-injective x a e
taken_at (suc n) (x ∷ xs) (suc i) a h e = taken_at n xs i a (omega arith) e

dropped_length : (m : ℕ) (l : List ℕ) → m ≤ length l → length (drop m l) + m ≡ length l
dropped_length zero l h = omega arith
dropped_length (suc m) [] h = absurd (omega arith)
dropped_length (suc m) (x ∷ xs) h = let e : length (drop m xs) + m ≡ length xs = dropped_length m xs (omega arith) in omega arith

zeros_length : (n : ℕ) → length (replicate {A = ℕ} n 0) ≡ n
zeros_length n = lib.ListN.length-replicate {A = ℕ} n 0

zero_at : (n i : ℕ) → i < n → get_elem? {A = ℕ} (replicate n 0) i ≡ some 0
zero_at zero i h = absurd (omega arith)
zero_at (suc n) zero h = refl
zero_at (suc n) (suc i) h = zero_at n i (omega arith)

zeros_at : (n i : ℕ) → at (replicate n 0) i ≡ 0
zeros_at zero i = refl
zeros_at (suc n) zero = refl
zeros_at (suc n) (suc i) = zeros_at n i

behind : (xs ys : List ℕ) (i : ℕ) → get_elem? (xs ++ ys) (length xs + i) ≡ get_elem? ys i
behind [] ys i = ap (get_elem? ys) (let e : 0 + i ≡ i = omega arith in e)
behind (x ∷ xs) ys i = ap (λ (z : ℕ). get_elem? (x ∷ xs ++ ys) z) (let e : suc (length xs) + i ≡ suc (length xs + i) = omega arith in e) ∙ behind xs ys i

module _ {V : Type 0} (root : ℕ) (P : List Node → List V → Type 0) where
  abbrev View : Type 0
  View = SeatView V

  abbrev St : Type 0
  St = State View

  abbrev R : St → Type 0
  R = IsLive root P

  -- what a seat knows does not hang on its room
  same_knows : (ns : List Node) (ds : ℕ → Content) (id : ℕ) (v : View) (r : Room) → Knows ns ds id v → Knows ns ds id (seat_view v.client v.places v.reads v.holds r)
  same_knows ns ds id v r f = record { places = f.places; reads = f.reads; holds = f.holds }

  -- PUT
  pub may_put : (id : ℕ) (v : View) (i x : ℕ) → i < length v.room.draft → Stores R plays.Puts id v (v.room.start + i) x
  may_put id v i x low s n r seat there =
      let key : ℕ = v.room.start + i in let w : View = put v i x in let room = r.each_room id v seat in let is = some_at v.room.draft i low in
      let mine_is : r.owner key ≡ in_room id = (room i is.0 is.1).1 in (
        w,
        record {
          nodes = r.nodes;
          drafts = r.drafts;
          owner = r.owner;
          counted = r.counted;
          long = λ m e. length-set s.words key x ∙ r.long m (sym (set_else s.words key 0 x (λ z. no_count_room id (sym r.counted ∙ (ap r.owner z ∙ mine_is)))) ∙ e);
          rooted = r.rooted;
          each_node = λ k h. other_word r.owner k (node r.nodes k) (r.drafts k) s.words key x (λ e. no_room_node id k (sym mine_is ∙ e)) (r.each_node k h);
          each_seat = seats_stay root P (Knows r.nodes r.drafts) s.views id w (same_knows r.nodes r.drafts id v w.room (r.each_seat id v seat)) (λ j d _ e. r.each_seat j d e);
          each_room = seats_stay root P (λ j d. RoomFits r.owner (set s.words key x) j d.room) s.views id w (room_put r.owner id s.words i x is.0 v.room is.1 room)
              (λ j d ne e. room_else r.owner j s.words key x d.room (λ e'. ne (same_room j id (sym e' ∙ mine_is))) (r.each_room j d e));
          agreed = agreed_with root P r.nodes s.views id w (same_client root P r.nodes s id v v.client seat refl r.agreed);
        },
        (λ j e. ap (λ (z : ℕ). put v z x) (let same : i ≡ j = omega (arith, e) in same)),
      )

  -- MAKE
  pub may_make : (id : ℕ) (v : View) (len word x : ℕ) (told : V → ℕ → Content → ℕ → V → Type 0) → get_elem? v.room.draft 0 ≡ some word → WordFits None word → 1 ≤ len → len < length v.room.draft
      → acts.Makes P id v.client v.room.start word (new_content v.room.draft len x) (told v.client v.room.start (new_content v.room.draft len x)) → Stores R (plays.Makes told) id v (v.room.start + len) x
  may_make id v len word x told head fits some_len low makes s n r seat there =
      let p : ℕ = v.room.start in let key : ℕ = p + len in let draft : Content = set v.room.draft len x in let content : Content = new_content v.room.draft len x in let ws : List ℕ = set s.words key x in
      let k : ℕ = length r.nodes in let b : Node = node_at p word content None in let f = r.each_seat id v seat in let room = r.each_room id v seat in let last_is = some_at v.room.draft len low in
      let owner : ℕ → Owner = owned r.owner p (p + len) (in_node k) in
      -- the room's words were the seat's
      let mine : (y : ℕ) → p ≤ y → y ≤ p + len → r.owner y ≡ in_room id = λ y from to. let i : ℕ = y - p in let at_i = some_at v.room.draft i (omega (arith, low, to)) in
      subst (λ (z : ℕ). r.owner z ≡ in_room id) (let e : p + i ≡ y = omega (arith, from) in e) (room i at_i.0 at_i.1).1 in
      let key_is : r.owner key ≡ in_room id = mine key (omega arith) (omega arith) in
      let else : (y : ℕ) → (r.owner y ≡ in_room id → ⊥) → owner y ≡ r.owner y = λ y other. outside r.owner p (p + len) (in_node k) y (λ from to. other (mine y from to)) in
      let written : RoomFits r.owner ws id (room_at p draft) = room_put r.owner id s.words len x last_is.0 v.room last_is.1 room in
      let longest : length draft ≡ length v.room.draft = length-set v.room.draft len x in
      let body : length (drop 1 draft) + 1 ≡ length draft = dropped_length 1 draft (omega (arith, longest, low)) in
      let many : length content ≡ len = taken_length len (drop 1 draft) (omega (arith, body, longest, low)) in
      let is_new : IsNode owner k b content ws = record {
        drafted = refl;
        version = set_else s.words key p x (λ e. absurd (omega (arith, e, some_len))) ∙ (ap (get_elem? s.words) (let e : p ≡ p + 0 = omega arith in e) ∙ (room 0 word head).0);
        version_is = inside r.owner p (p + len) (in_node k) p (omega arith) (omega arith);
        cells = λ i h. let h' : i < len = omega (arith, h, many) in let is = some_at draft (1 + i) (omega (arith, h', longest, low)) in
            ap (get_elem? ws) (let e : p + i + 1 ≡ p + (1 + i) = omega arith in e) ∙ ((written (1 + i) is.0 is.1).0 ∙ ap some (sym (taken_at len (drop 1 draft) i is.0 h' (dropped 1 draft i ∙ is.1))));
        cells_are = λ i h. inside r.owner p (p + len) (in_node k) (p + i + 1) (omega arith) (omega (arith, h, many));
        bits = fits;
      } in
      let elsewhere : (j : ℕ) → j < k → (node r.nodes j).place ≢ p = λ j h e. no_room_node id j (sym (mine p (omega arith) (omega arith)) ∙ (ap r.owner (sym e) ∙ (r.each_node j h).version_is)) in
      let g = makes r.nodes (map client s.views) r.agreed (client_at root P s id v seat) elsewhere in let w : View = made v g.0 k len in
      let longer : List Node = r.nodes ++ b ∷ [] in let ds' : ℕ → Content = put_at r.drafts k content in let more : length longer ≡ k + 1 = one_more r.nodes r.drafts b content in let last : node longer k ≡ b = node_last r.nodes r.drafts b content in (
        w,
        record {
          nodes = longer;
          drafts = ds';
          owner = owner;
          counted = else 0 (λ e. no_count_room id (sym r.counted ∙ e)) ∙ r.counted;
          long = λ m e. length-set s.words key x ∙ r.long m (sym (set_else s.words key 0 x (λ z. no_count_room id (sym r.counted ∙ (ap r.owner z ∙ key_is)))) ∙ e);
          rooted = place_joined r.nodes r.drafts b content (place 0 1 root) r.rooted;
          each_node = λ j h. dite (ℕ_discrete j k)
              (λ e. subst (λ (z : ℕ). IsNode owner z (node longer z) (ds' z) ws) (sym e) (subst (λ (t : Node × Content). IsNode owner k t.0 t.1 ws) (λ t. (sym last t, sym (put_here r.drafts k content) t)) is_new))
              (λ ne. let h' : j < k = omega (arith, h, more, ne) in subst (λ (t : Node × Content). IsNode owner j t.0 t.1 ws) (λ t. (sym (node_before r.nodes r.drafts b content j h') t, sym (put_else r.drafts k content j ne) t))
              (other_owner r.owner j (node r.nodes j) (r.drafts j) ws owner (λ y _ e. else y (λ e'. no_room_node id j (sym e' ∙ e)) ∙ e)
              (other_word r.owner j (node r.nodes j) (r.drafts j) s.words key x (λ e. no_room_node id j (sym key_is ∙ e)) (r.each_node j h'))));
          each_seat = let still = knows_joined r.nodes r.drafts b content id v f in seats_stay root P (Knows longer ds') s.views id w
              (record { places = ((omega (arith, more), ap (λ (z : Node). z.place) last, ap (λ (z : Node). length z.content) last ∙ many), still.places); reads = still.reads; holds = still.holds })
              (λ j d ne e. knows_joined r.nodes r.drafts b content j d (r.each_seat j d e));
          each_room = seats_stay root P (λ j d. RoomFits owner ws j d.room) s.views id w
              (λ i m e. let e' : get_elem? v.room.draft (len + 1 + i) ≡ some m = sym (dropped (len + 1) v.room.draft i) ∙ e in
              let is = written (len + 1 + i) m (set_else v.room.draft len (len + 1 + i) x (λ z. absurd (omega (arith, z))) ∙ e') in let same : p + len + 1 + i ≡ p + (len + 1 + i) = omega arith in
              (ap (get_elem? ws) same ∙ is.0, outside r.owner p (p + len) (in_node k) (p + len + 1 + i) (λ _ to. absurd (omega (arith, to))) ∙ (ap r.owner same ∙ is.1)))
              (λ j d ne e. room_owner r.owner j ws owner d.room (λ y _ e'. else y (λ e''. ne (same_room j id (sym e' ∙ e''))) ∙ e')
              (room_else r.owner j s.words key x d.room (λ e'. ne (same_room j id (sym e' ∙ key_is))) (r.each_room j d e)));
          agreed = agreed_with root P longer s.views id w g.1;
        },
        (λ len' e. let same : len ≡ len' = omega (arith, e) in (k, g.0, (λ j. made v g.0 k (same j)), subst (λ (z : ℕ). told v.client p (new_content v.room.draft z x) k g.0) same g.2)),
      )

  -- GROW
  pub may_grow : (id : ℕ) (v : View) (old : ℕ) → Exchanges R (plays.Grows root) id v 0 old (old + 1)
  may_grow id v old s n r seat there = (
    (λ is. let m : ℕ = keys in let l : ℕ = length s.words in let ws : List ℕ = set s.words 0 (old + 1) in let more : List ℕ = replicate m 0 in let all_ : List ℕ = ws ++ more in let w : View = given v l m in
        let is_long : l ≡ first_key root old = r.long old (there ∙ ap some is) in let same_length : length ws ≡ l = length-set s.words 0 (old + 1) in let all_long : length all_ ≡ l + m = length-append ws more ∙ omega (arith, same_length, zeros_length m) in
        let some_words : 0 < l = below s.words 0 n there in let owner : ℕ → Owner = owned r.owner l (l + m) (in_room id) in
        let else : (y : ℕ) → y < l → owner y ≡ r.owner y = λ y h. outside r.owner l (l + m) (in_room id) y (λ from _. omega (arith, from, h)) in
        let counted : owner 0 ≡ counts = else 0 some_words ∙ r.counted in (
          w,
          m,
          record {
            nodes = r.nodes;
            drafts = r.drafts;
            owner = owner;
            counted = counted;
            long = λ c e. let same : old + 1 ≡ c = one_only all_ 0 (old + 1) c (at_longer ws more 0 (old + 1) (set_here s.words 0 (old + 1) some_words)) e in
                let next : suc old ≡ c = omega (arith, same) in subst (λ (z : ℕ). length all_ ≡ first_key root z) next (let e' : length all_ ≡ root + 2 + keys * suc old = omega (arith, all_long, is_long) in e');
            rooted = r.rooted;
            each_node = λ k h. more_words owner k (node r.nodes k) (r.drafts k) ws more (other_word owner k (node r.nodes k) (r.drafts k) s.words 0 (old + 1) (λ e. no_count k (sym counted ∙ e))
                (other_owner r.owner k (node r.nodes k) (r.drafts k) s.words owner (λ y low e. else y low ∙ e) (r.each_node k h)));
            each_seat = seats_stay root P (Knows r.nodes r.drafts) s.views id w (same_knows r.nodes r.drafts id v w.room (r.each_seat id v seat)) (λ j d _ e. r.each_seat j d e);
            each_room = seats_stay root P (λ j d. RoomFits owner all_ j d.room) s.views id w
                (λ i c e. let low : i < m = omega (arith, below more i c e, zeros_length m) in
                (subst (λ (z : ℕ). get_elem? all_ (z + i) ≡ some c) same_length (behind ws more i ∙ e), inside r.owner l (l + m) (in_room id) (l + i) (omega arith) (omega (arith, low))))
                (λ j d ne e. room_longer owner j ws more d.room (room_else owner j s.words 0 (old + 1) d.room (λ e'. no_count_room j (sym counted ∙ e'))
                (room_owner r.owner j s.words owner d.room (λ y low e'. else y low ∙ e') (r.each_room j d e))));
            agreed = agreed_with root P r.nodes s.views id w (same_client root P r.nodes s id v v.client seat refl r.agreed);
          },
          ((λ ne. absurd (ne refl)), (λ _. (is_long, refl, refl))),
        )),
    (λ ne. (v, silent root P s r id v v seat refl refl (r.each_seat id v seat), ((λ _. refl), (λ e. absurd (ne e))))),
  )

  abbrev first_owner : ℕ → Owner
  first_owner zero = counts
  first_owner (suc x) = in_node 0

  -- OPEN
  pub may_open : (c : V) → P (node_at 1 0 (replicate root 0) None ∷ []) (c ∷ []) → R record { words = replicate (root + 2) 0; views = seat_view c (place 0 1 root ∷ []) [] [] no_room ∷ [] }
  may_open c p =
      let b : Node = node_at 1 0 (replicate root 0) None in let w : View = seat_view c (place 0 1 root ∷ []) [] [] no_room in let ws : List ℕ = replicate (root + 2) 0 in let long : length ws ≡ root + 2 = zeros_length (root + 2) in
      let rooted : PlaceFits (b ∷ []) (place 0 1 root) = ((let e : 0 < 1 = omega arith in e), refl, zeros_length root) in
      let one : (id : ℕ) (d : View) → get_elem? (w ∷ []) id ≡ some d → w ≡ d = λ id d e. ⊎_elim (λ none. absurd (some-ne-none d (sym none))) (λ same. same) (at_snoc [] w d id e) in record {
        nodes = b ∷ [];
        drafts = λ _. replicate root 0;
        owner = first_owner;
        counted = refl;
        long = λ n e. let is : 0 ≡ n = one_only ws 0 0 n (zero_at (root + 2) 0 (omega arith)) e in subst (λ (z : ℕ). length ws ≡ first_key root z) is (let e' : length ws ≡ root + 2 + keys * 0 = omega (arith, long) in e');
        rooted = rooted;
        each_node = λ k h. let first : 0 ≡ k = omega (arith, h) in subst (λ (z : ℕ). IsNode first_owner z (node (b ∷ []) z) (replicate root 0) ws) first record {
          drafted = refl;
          version = zero_at (root + 2) 1 (omega arith);
          version_is = refl;
          cells = λ i h'. let low : i < root = omega (arith, h', zeros_length root) in zero_at (root + 2) (1 + i + 1) (omega (arith, low)) ∙ ap some (sym (zeros_at root i));
          cells_are = λ i h'. ap first_owner (let e : 1 + i + 1 ≡ suc (i + 1) = omega arith in e);
          bits = (0, inl refl);
        };
        each_seat = λ id d e. subst (Knows (b ∷ []) (λ _. replicate root 0) id) (one id d e) (record { places = (rooted, tt); reads = tt; holds = tt });
        each_room = λ id d e. subst (λ (x : View). RoomFits first_owner ws id x.room) (one id d e) (λ i n none. absurd (some-ne-none n (sym none)));
        agreed = p;
      }
