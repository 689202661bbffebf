-- A node below another one is watched, whose path a key leaves.
use Rattle.std.proofs.Common.{◌≡◌, ◌≢◌, ℕ, zero, suc, ◌+◌, ◌-◌, ◌*◌, ◌<◌, ◌≤◌, ◌^◌, Bool, cond, List, [], ◌∷◌, length, Option, Some, None, refl, sym, ap, ◌∙◌, subst, inl, inr, arith, eq-eqb, ne_eqb}
use Rattle.node_base.specs.Form.{form_place}
use Rattle.spec_node.specs.TableNode.{TableNode, Child}
use Rattle.spec_node.specs.declared.child.Child.TheVariants.{Payload, Node as Below}
use Rattle.spec_map.specs.Map.{lookup}
use Rattle.word_book.specs.Book.{Book, Name, reads, none_joined}
use Rattle.live_nodes.specs.Nodes.{Content}
use Rattle.live_nodes.specs.Seats.{Place, Read, read, SeatView, IsIn, Agree}
use Rattle.live_nodes.specs.Plays as Plays
use Rattle.live_nodes.specs.Plays.{read_of, Checks}
use Rattle.live_nodes.specs.Calls.{MayCheck}
use Rattle.live_nodes.specs.Rows.{AreOf, last_saw, without_reads}
use Rattle.live_layout.specs.Words as cells
use Rattle.live_layout.specs.Head.{IsHead}
use Rattle.live_layout.specs.Encodes.{IsBelow, IsWord, Encodes}
use Rattle.live_nodes.specs.Levels.{up, digit, Shape, Spot, spot, Covers, place_at}
use Rattle.live_nodes.specs.Views.{View, locked, watch, Ask, got}
use Rattle.live_nodes.specs.Tree.{IsMap, HasPrefix, IsOf, LearnsBelow, Watches, LearnsMiss, Misses, HasAnswer, Answers, IsOfKind}
use Rattle.live_nodes.proofs.Looks.{node_below, node_misses, HadBelow}
use Rattle.live_nodes.proofs.Plans.{bytes_above-key, joined, digit-low}
use Rattle.live_reads.specs.Paths.{Sights, HasOpened, IsOpen, Keeps}
use Rattle.live_reads.specs.Sees.{Sees}
use Rattle.live_reads.specs.Mismatches.{IsMismatched, IsAside, IsAbove, IsParted}
use Rattle.live_reads.specs.declared.prefix_match.PrefixMatch.TheVariants as prefix_matches
use Rattle.live_reads.proofs.Views.{reading_on, reading_on_keeps, learned_keeps, open_read, may_check_open, open_checked, open_missed, same_named}
use Rattle.live_reads.proofs.Sights.{leaves_lower, leaves_top, leaves_byte}
use Rattle.live_reads.proofs.Finds.{keeps_then}
use Rattle.live_reads.proofs.Belows.{node_below_own}

abbrev Seen : Type 0
Seen = SeatView View

read_second : (j k : ℕ) (r s : Read) (rs : List Read) → r.number ≡ j → s.number ≡ k → k ≢ j → read_of k (r ∷ s ∷ rs) ≡ Some s
read_second j k r s rs is_r is_s ne =
    ap (λ (b : Bool). cond b (Some r) (read_of k (s ∷ rs))) (ne_eqb k r.number (λ e. ne (e ∙ is_r)))
    ∙ ap (λ (b : Bool). cond b (Some s) (read_of k rs)) (eq-eqb k s.number (sym is_s))

-- a key that leaves a node's path has no place there
pub leaves_by : (p : List ℕ) (s : Shape) (key : ℕ) → (h b : ℕ) → Sees p key (prefix_matches.Leaves h b) → HasPrefix p s → length p + s.height ≡ 8 → key < 2 ^ 64 → Covers s key → ⊥
leaves_by p s key h b sees has deep fits covers =
    let lower = leaves_lower p s key fits deep has h b sees.0 sees.1 sees.2 sees.3 sees.6 in
    let byte_is = leaves_byte p s key fits deep has h b sees.0 sees.1 sees.2 sees.3 sees.6 in
    let next : suc (h - 1) ≡ h = omega (arith, lower) in
    let w = bytes_above-key s (h - 1) key covers (omega (arith, lower)) in
    let split : 256 * up h key + digit h key ≡ up (h - 1) key = subst (λ (z : ℕ). 256 * up z key + digit z key ≡ up (h - 1) key) next (joined (h - 1) key (up (suc (h - 1)) key) refl) in
    let other = sees.5 in
    other (omega (arith, w, split, byte_is))

module _ (v : Seen) (b : Book) (words : List Name) (t name key height : ℕ) (o : IsOpen v b words t name key height) (high : 2 ≤ height) (v₁ : Seen) (rest : without_reads v₁ ≡ without_reads v) (kept : (c : Content) → Agree c (last_saw v₁.reads) → Agree c (last_saw v.reads))
    (word : ℕ) (finds : (c : Content) (n : TableNode ℕ) → Agree c (last_saw v₁.reads) → Encodes c n → n.form ≡ o.names.spot.shape.form → IsBelow (lookup n.children (digit height key)) (Some word)) where
  abbrev a : Spot
  a = o.names.spot

  abbrev saw : List (ℕ × ℕ)
  saw = last_saw v₁.reads

  pub after_find : v₁ ≡ reading_on v o.opened.before a.number t saw
  after_find = open_read v b words t a o.names.placed o.opened v₁ rest

  pub find_keeps : Keeps v v₁ × (v₁.client ≡ v.client)
  find_keeps = reading_on_keeps v v₁ o.opened.before a.number t saw after_find

  reads_are : v₁.reads ≡ read a.number t saw ∷ o.opened.before
  reads_are = ap (λ (z : Seen). z.reads) after_find

  kept_before : (c : Content) → Agree c saw → Agree c o.opened.saw
  kept_before c agrees = subst (λ (z : List Read). Agree c (last_saw z)) o.opened.reads (kept c agrees)

  sure_now : (s : Shape) → IsOf a s saw → s ≡ a.shape
  sure_now s is = o.sure s record {
    now = is.now;
    content = is.content;
    its = is.its;
    agrees = kept_before is.content is.agrees;
    encodes = is.encodes;
    in_form = is.in_form;
    deep = is.deep;
    prefixed = is.prefixed;
  }

  had : HadBelow a (read a.number t saw) (digit height key) word
  had s is =
      let same : s.height ≡ height = ap (λ (z : Shape). z.height) (sure_now s is) ∙ o.names.high in
      (omega (arith, same, high), finds is.content is.its is.agrees is.encodes is.in_form)

  -- the node below is open
  module _ (below : ℕ) (n : Sights v₁ below) (is_child : (s : ℕ) → IsWord word (Below s) → s ≡ below) (other_name : below ≢ name) (v₂ : Seen) (b₂ : Book) (words₂ : List Name) (t₂ : ℕ) (keeps₂ : Keeps v₁ v₂) (client₂ : v₂.client ≡ v₁.client) (opened₂ : HasOpened v₂ b₂ words₂ t₂ n.spot) (reads₂ : v₂.reads ≡ read n.spot.number t₂ [] ∷ v₁.reads)
      (v₃ : Seen) (rest₃ : without_reads v₃ ≡ without_reads v₂) (k : ℕ) (at_k : (place_at n.spot).key ≡ k) where
    abbrev opened : HasOpened v₂ b₂ words₂ t₂ n.spot
    opened = record { are = opened₂.are; saw = []; before = v₁.reads; reads = reads₂ }

    placed₂ : IsIn (place_at n.spot) v₂.places
    placed₂ = keeps₂.places (place_at n.spot) n.placed

    abbrev saw₃ : List (ℕ × ℕ)
    saw₃ = last_saw v₃.reads

    digit_low : digit height key < 256
    digit_low = digit-low height key

    pub may_watch : (id m l : ℕ) → t₂ ≡ 4 * m → t ≡ 4 * l → MayCheck v₃ k IsMap id (LearnsBelow a.number (Some t)) t₂
    may_watch id m l even free = may_check_open v₂ b₂ words₂ t₂ n.spot placed₂ opened v₃ rest₃ k at_k (LearnsBelow a.number (Some t)) id
        (node_below id v₂.client n.spot (keeps₂.met n.spot n.met) t₂ saw₃ m even (read n.spot.number t₂ saw₃ ∷ v₁.reads)
        a (keeps₂.met a (find_keeps.0.met a o.names.met)) (read a.number t saw) (inr (subst (IsIn (read a.number t saw)) (sym reads_are) (inl refl))) refl l free
        (digit height key) digit_low word had (λ s e. is_child s e ∙ n.named))

    module _ (w : Seen) (m : ℕ) (told : Checks (LearnsBelow a.number (Some t)) (reads k) v₃ m none_joined w) where
      pub watch_missed : m ≢ t₂ → Keeps v₂ w × (w.client ≡ v₂.client)
      watch_missed ne = open_missed v₂ b₂ words₂ t₂ n.spot placed₂ opened v₃ rest₃ k at_k (LearnsBelow a.number (Some t)) w m told ne

      watch_checked : Plays.Checked (LearnsBelow a.number (Some t) v₂.client n.spot.number t₂ saw₃) t₂ (reading_on v₂ v₁.reads n.spot.number t₂ saw₃) m w
      watch_checked = open_checked v₂ b₂ words₂ t₂ n.spot placed₂ opened v₃ rest₃ k at_k (LearnsBelow a.number (Some t)) w m told

      module _ (hit : m ≡ t₂) where
        pub watch_keeps : Keeps v₂ w × (w.client.seen ≡ v₂.client.seen)
        watch_keeps =
            let h = watch_checked.hit hit in
            let x : Watches a.number (Some t) v₂.client n.spot saw₃ h.1 = h.3 n.spot (keeps₂.met n.spot n.met) refl in (
              learned_keeps v₂ w h.0 h.1 (read n.spot.number t₂ saw₃ ∷ v₁.reads) h.2 (λ z in_it. subst (λ (y : View). IsIn z y.met) (sym x.watches) in_it) (ap (λ (y : View). y.own) x.watches),
              ap (λ (z : Seen). z.client.seen) h.2 ∙ ap (λ (z : View). z.seen) x.watches,
            )

        -- and the key leaves it
        pub watch_asides : (b' : Book) → AreOf (place_at a) b' words → (head : ℕ) → ((c : Content) → Agree c saw₃ → cells.at c 0 ≡ head) → key < 2 ^ 64 → (h byte : ℕ) → ((form : ℕ) (p : List ℕ) → IsHead head form p → Sees p key (prefix_matches.Leaves h byte))
            → IsAside w b' words t name key height h byte
        watch_asides b' are head at_head fits lv byte sees =
            let h = watch_checked.hit hit in
            let x : Watches a.number (Some t) v₂.client n.spot saw₃ h.1 = h.3 n.spot (keeps₂.met n.spot n.met) refl in
            let kw = (keeps_then v v₁ w find_keeps.0 (keeps_then v₁ v₂ w keeps₂ watch_keeps.0)) in
            let p = x.is.its.prefix in
            let word_is : IsHead head (form_place x.is.its.form) p = subst (λ (z : ℕ). IsHead z (form_place x.is.its.form) p) (at_head x.is.content x.is.agrees) x.is.encodes.head in
            let s = sees (form_place x.is.its.form) p word_is in
            let e = watch a.number (Some t) (spot n.spot.number x.shape) in
            let apart : a.number ≢ n.spot.number = λ same. other_name (n.named ∙ (sym (x.one_name a (keeps₂.met a (find_keeps.0.met a o.names.met)) same) ∙ sym o.names.named)) in
            let w_reads : w.reads ≡ read n.spot.number t₂ saw₃ ∷ read a.number t saw ∷ o.opened.before = ap (λ (z : Seen). z.reads) h.2 ∙ ap (λ (rs : List Read). read n.spot.number t₂ saw₃ ∷ rs) reads_are in
            record {
              mismatched = record {
                names = record {
                  spot = a;
                  met = kw.met a o.names.met;
                  placed = kw.places (place_at a) o.names.placed;
                  named = o.names.named;
                  high = o.names.high;
                  covers = o.names.covers;
                };
                are = are;
                saw = saw;
                reads = ap (read_of a.number) w_reads ∙ read_second n.spot.number a.number (read n.spot.number t₂ saw₃) (read a.number t saw) o.opened.before refl refl apart;
                free = o.free;
                sure = sure_now;
                word = word;
                finds = finds;
                watch = e;
                known = subst (λ (z : Seen). IsIn e z.client.watched) (sym h.2) (subst (λ (z : View). IsIn e z.watched) (sym x.watches) (inl refl));
                above = refl;
                free_by = refl;
                spells = λ s is. is_child s is ∙ (n.named ∙ sym (same_named n.spot x.shape x.is.now));
                leaves = leaves_by p x.shape key lv byte s x.is.prefixed x.is.deep fits;
              };
              lower = leaves_lower p x.shape key fits x.is.deep x.is.prefixed lv byte s.0 s.1 s.2 s.3 s.6;
              byte_is = leaves_byte p x.shape key fits x.is.deep x.is.prefixed lv byte s.0 s.1 s.2 s.3 s.6;
            }

-- The node above is checked again, and the call has its answer.
module _ (v : Seen) (b : Book) (words : List Name) (t name key height : ℕ) (f : IsMismatched v b words t name key height) (high : 2 ≤ height) (k : ℕ) (at_k : (place_at f.names.spot).key ≡ k) (q : Ask) (asked : q.key ≡ key) where
  abbrev x : Spot
  x = f.names.spot

  pub may_miss : (id m : ℕ) → q.caller ≡ id → t ≡ 4 * m → MayCheck v k IsMap id (LearnsMiss q) t
  may_miss id m by even = (place_at x, read x.number t f.saw, (f.names.placed, at_k), f.reads, refl, node_misses q id by v.client x f.names.met t f.saw m even v.reads)

  module _ (w : Seen) (m : ℕ) (told : Checks (LearnsMiss q) (reads k) v m none_joined w) where
    miss_checked : Plays.Checked (LearnsMiss q v.client x.number t f.saw) t v m w
    miss_checked = told (place_at x) (read x.number t f.saw) f.names.placed at_k f.reads

    pub miss_lost : m ≢ t → Keeps v w × (w.client.seen ≡ v.client.seen)
    miss_lost ne = subst (λ (z : Seen). Keeps v z × (z.client.seen ≡ v.client.seen)) (sym (miss_checked.miss ne))
        (record { places = λ p h. h; met = λ s h. h; own = refl; holds = refl; room = refl }, refl)

    misses : (lv : ℕ) (o : Option (Child ℕ)) (ps : List Place) (c : View) → 2 ≤ lv → IsOfKind lv o → IsBelow o (Some f.word) → Misses t q v.client x o ps c → HasAnswer q None v.client c
    misses lv None ps c tall kind below then = absurd below
    misses zero (Some z) ps c tall kind below then = absurd kind
    misses (suc zero) (Some z) ps c tall kind below then = absurd (omega (arith, tall))
    misses (suc (suc lv)) (Some (Payload z)) ps c tall kind below then = absurd kind
    misses (suc (suc lv)) (Some (Below s)) ps c tall kind below then = then f.watch record {
      known = f.known;
      above = f.above;
      free_by = f.free_by;
      named = f.spells s below;
      leaves = λ covers. f.leaves (ap (up f.watch.spot.shape.height) (sym asked) ∙ covers);
    }

    pub miss_ends : m ≡ t → Keeps v w × Answers q.caller (got q None) v.client.seen w.client.seen
    miss_ends hit =
        let h = miss_checked.hit hit in
        let y = h.3 x f.names.met refl in
        let shape_is : y.shape ≡ x.shape = f.sure y.shape y.is in
        let o : Option (Child ℕ) = lookup y.is.its.children (digit x.shape.height q.key) in
        let covers : Covers x.shape q.key = ap (up x.shape.height) asked ∙ f.names.covers in
        let kind : IsOfKind x.shape.height o = subst (λ (z : Shape). IsOfKind z.height (lookup y.is.its.children (digit z.height q.key))) shape_is y.of_kind in
        let then : Misses t q v.client x o h.0 h.1 = subst (λ (z : Shape). Covers z q.key → Misses t q v.client (spot x.number z) (lookup y.is.its.children (digit z.height q.key)) h.0 h.1) shape_is y.on_path covers in
        let below : IsBelow o (Some f.word) = subst (λ (z : ℕ × ℕ). IsBelow (lookup y.is.its.children (digit z.0 z.1)) (Some f.word)) (λ i. (sym f.names.high i, sym asked i)) (f.finds y.is.content y.is.its y.is.agrees y.is.encodes y.is.in_form) in
        let g : HasAnswer q None v.client h.1 = misses x.shape.height o h.0 h.1 (subst (λ (z : ℕ). 2 ≤ z) (sym f.names.high) high) kind below then in (
          learned_keeps v w h.0 h.1 v.reads h.2 (λ z in_it. subst (λ (u : View). IsIn z u.met) (sym g.is) in_it) (ap (λ (u : View). u.own) g.is),
          subst (λ (z : Seen). Answers q.caller (got q None) v.client.seen z.client.seen) (sym h.2) g.answers,
        )

-- A NODE BELOW ONE THAT IS LOCKED, of which something was read since it was opened
pub record Lower (v : Seen) (below number : ℕ) (bound : Option ℕ) (v₃ : Seen) (t k : ℕ) : Type 0 where
  pub above : IsAbove v below number bound
  pub names : Sights v below
  pub at_open : Seen
  pub keeps : Keeps v at_open
  pub client : at_open.client ≡ v.client
  pub book : Book
  pub words : List Name
  pub opened : HasOpened at_open book words t names.spot
  pub rest : without_reads v₃ ≡ without_reads at_open
  pub first : (place_at names.spot).key ≡ k

module _ {v : Seen} {below number : ℕ} {bound : Option ℕ} {v₃ : Seen} {t k : ℕ} (l : Lower v below number bound v₃ t k) where
  abbrev n : Sights v below
  n = l.names

  placed_b : IsIn (place_at n.spot) l.at_open.places
  placed_b = l.keeps.places (place_at n.spot) n.placed

  abbrev saw_b : List (ℕ × ℕ)
  saw_b = last_saw v₃.reads

  pub may_part : (id m : ℕ) → t ≡ 4 * m → MayCheck v₃ k IsMap id (LearnsBelow number bound) t
  may_part id m even = subst (λ (z : ℕ × Option ℕ). MayCheck v₃ k IsMap id (LearnsBelow z.0 z.1) t) (λ i. (sym l.above.numbered i, sym l.above.held i))
      (may_check_open l.at_open l.book l.words t n.spot placed_b l.opened v₃ l.rest k l.first (LearnsBelow l.above.spot.number None) id
      (node_below_own id l.at_open.client n.spot (l.keeps.met n.spot n.met) t saw_b m even (read n.spot.number t saw_b ∷ l.opened.before)
      l.above.spot l.above.content (subst (λ (z : View). IsIn (locked l.above.spot l.above.content) z.own) (sym l.client) l.above.own) l.above.tall l.above.byte l.above.low l.above.child l.above.finds (λ s e. l.above.spells s e ∙ n.named)))

  module _ (w : Seen) (m : ℕ) (told : Checks (LearnsBelow number bound) (reads k) v₃ m none_joined w) where
    pub part_missed : m ≢ t → Keeps v w × (w.client.seen ≡ v.client.seen)
    part_missed ne =
        let missed = open_missed l.at_open l.book l.words t n.spot placed_b l.opened v₃ l.rest k l.first (LearnsBelow number bound) w m told ne in
        (keeps_then v l.at_open w l.keeps missed.0, ap (λ (z : View). z.seen) (missed.1 ∙ l.client))

    part_checked : Plays.Checked (LearnsBelow number bound l.at_open.client n.spot.number t saw_b) t (reading_on l.at_open l.opened.before n.spot.number t saw_b) m w
    part_checked = open_checked l.at_open l.book l.words t n.spot placed_b l.opened v₃ l.rest k l.first (LearnsBelow number bound) w m told

    module _ (hit : m ≡ t) where
      pub part_keeps : Keeps v w × (w.client.seen ≡ v.client.seen)
      part_keeps =
          let h = part_checked.hit hit in
          let x : Watches number bound l.at_open.client n.spot saw_b h.1 = h.3 n.spot (l.keeps.met n.spot n.met) refl in
          let learned = learned_keeps l.at_open w h.0 h.1 (read n.spot.number t saw_b ∷ l.opened.before) h.2 (λ z in_it. subst (λ (y : View). IsIn z y.met) (sym x.watches) in_it) (ap (λ (y : View). y.own) x.watches) in (
            keeps_then v l.at_open w l.keeps learned,
            ap (λ (z : Seen). z.client.seen) h.2 ∙ ap (λ (z : View). z.seen) x.watches ∙ ap (λ (z : View). z.seen) l.client,
          )

      pub part_parts : (head : ℕ) → ((c : Content) → Agree c saw_b → cells.at c 0 ≡ head) → (key : ℕ) → key < 2 ^ 64 → (lv byte : ℕ) → ((form : ℕ) (p : List ℕ) → IsHead head form p → Sees p key (prefix_matches.Leaves lv byte)) → IsParted w below key lv byte number
      part_parts head at_head key fits lv byte sees =
          let h = part_checked.hit hit in
          let x : Watches number bound l.at_open.client n.spot saw_b h.1 = h.3 n.spot (l.keeps.met n.spot n.met) refl in
          let p = x.is.its.prefix in
          let deep = x.is.deep in
          let short = x.is.encodes.head.short in
          let has = x.is.prefixed in
          let s = sees (form_place x.is.its.form) p (subst (λ (z : ℕ). IsHead z (form_place x.is.its.form) p) (at_head x.is.content x.is.agrees) x.is.encodes.head) in
          let e = watch number None (spot n.spot.number x.shape) in record {
            spot = spot n.spot.number x.shape;
            named = n.named ∙ sym (same_named n.spot x.shape x.is.now);
            known = subst (λ (z : Seen). IsIn e z.client.watched) (sym h.2) (subst (λ (z : View). IsIn e z.watched) (sym x.watches) (inl (λ i. watch number (l.above.held i) (spot n.spot.number x.shape))));
            some_height = omega (arith, deep, short);
            lower = leaves_lower p x.shape key fits deep has lv byte s.0 s.1 s.2 s.3 s.6;
            top = leaves_top p x.shape key fits deep has lv byte s.0 s.1 s.2 s.3 s.6;
            low = s.4;
            byte_is = leaves_byte p x.shape key fits deep has lv byte s.0 s.1 s.2 s.3 s.6;
          }
