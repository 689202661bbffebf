-- A node is locked, written and unlocked.
use Rattle.std.proofs.Common.{◌≡◌, ◌≢◌, ℕ, ◌+◌, ◌*◌, ◌/◌, ◌%◌, ◌<◌, ◌^◌, Bool, cond, nat_eq, List, [], ◌∷◌, length, Option, Some, IfSome, refl, sym, ap, ◌∙◌, subst, arith, eq-eqb}
use Rattle.word_book.specs.Book.{Book, Name, writes, compares, none_joined, Joined}
use Rattle.live_nodes.specs.Nodes.{Content}
use Rattle.live_nodes.specs.Seats.{Place, Read, Hold, hold, SeatView, seat_view, IsIn, Agree, with_draft, without}
use Rattle.live_nodes.specs.Acts as acts
use Rattle.live_nodes.specs.Plays as plays
use Rattle.live_nodes.specs.Plays.{hold_of, locked, Locks}
use Rattle.live_nodes.specs.Calls.{MayLock, MayFree}
use Rattle.live_nodes.specs.Rows.{nth, draft_of, undrafted, MayHold, without_draft}
use Rattle.node_base.specs.Form.{form_place}
use Rattle.node_base.specs.declared.base_node.NodeType.{NodeType}
use Rattle.word_segments.specs.Segments.{AreWords}
use Rattle.live_layout.specs.Encodes.{words_of}
use Rattle.live_layout.proofs.StandLaws.{few_forms}
use Rattle.live_layout.specs.Head.{IsHead}
use Rattle.live_layout.specs.Words as cells
use Rattle.live_nodes.specs.Levels.{Shape, Spot, spot, place_at}
use Rattle.live_nodes.specs.Views as views
use Rattle.live_nodes.specs.Views.{View, Own}
use Rattle.live_nodes.specs.Tree.{IsMap, LearnsLocked, IsHeld, IsOf}
use Rattle.live_nodes.proofs.Locks.{node_locks}
use Rattle.live_reads.specs.Paths.{Names, AreNamed, IsOpen}
use Rattle.live_growth.specs.Holds.{Alike, HasLocked, HoldsOne}
use Rattle.live_reads.specs.Sees.{Sees}
use Rattle.live_reads.specs.declared.prefix_match.PrefixMatch.TheVariants as prefix_matches
use Rattle.live_reads.proofs.Views.{reading}
use Rattle.live_reads.proofs.Sights.{sure_by}
use Rattle.live_growth.proofs.FreeNodes.{one_form}

abbrev Seen : Type 0
Seen = SeatView View

pub hold_head : (k n : ℕ) (d : Content) (hs : List Hold) → hold_of k (hold k n d ∷ hs) ≡ Some (hold k n d)
hold_head k n d hs = ap (λ (b : Bool). cond b (Some (hold k n d)) (hold_of k hs)) (eq-eqb k k refl)

pub alike_read : (v w : Seen) (k n : ℕ) (saw : List (ℕ × ℕ)) → w ≡ reading v k n saw → Alike v w × (w.client ≡ v.client) × (w.holds ≡ v.holds)
alike_read v w k n saw e = (
  record {
    places = ap (λ (z : Seen). z.places) e;
    met = ap (λ (z : Seen). z.client.met) e;
    room = ap (λ (z : Seen). z.room) e;
  },
  ap (λ (z : Seen). z.client) e,
  ap (λ (z : Seen). z.holds) e,
)

pub alike_taken : (v w : Seen) (k n : ℕ) → w ≡ reading v k n [] → Alike v w × (w.client ≡ v.client) × (w.holds ≡ v.holds)
alike_taken v w k n e = alike_read v w k n [] e

-- The head was read, and then the node was locked by the same word.
module _ (v : Seen) (name key height : ℕ) (n : Names v name key height) (v₁ : Seen) (t : ℕ) (saw : List (ℕ × ℕ)) (taken : v₁ ≡ reading v n.spot.number t saw) (k : ℕ) (at_k : n.spot.shape.key ≡ k) where
  abbrev p : Place
  p = place_at n.spot

  pub may_lock : (id m : ℕ) → t ≡ 4 * m → MayLock v₁ k IsMap id LearnsLocked t (t + 2)
  may_lock id m even = subst (λ (z : Seen). MayLock z k IsMap id LearnsLocked t (t + 2)) (sym taken) (p, (n.placed, at_k), node_locks id v.client n.spot n.met t m even)

  module _ (v₂ : Seen) (m : ℕ) (j : Joined) (told : Locks LearnsLocked (compares k t (t + 2)) v₁ m j v₂) where
    tried : plays.Tried (LearnsLocked v.client n.spot.number) n.spot.number t (t + 2) p.len (reading v n.spot.number t saw) m v₂
    tried = subst (λ (z : Seen). Locks LearnsLocked (compares k t (t + 2)) z m j v₂) taken told p n.placed at_k

    pub not_locked : m ≢ t → Alike v v₂ × (v₂.client ≡ v.client) × (v₂.holds ≡ v.holds)
    not_locked ne = alike_read v v₂ n.spot.number t saw (tried.lost ne)

    -- where what was read says what the node is
    pub is_locked_as : m ≡ t → t % 4 ≡ 0 → t < 2 ^ 62 → ((s : Shape) → IsOf n.spot s saw → s ≡ n.spot.shape) → (h : HasLocked v v₂ name key height t) × Agree h.content saw
    is_locked_as hit even small sure =
        let w = tried.won hit in
        let h : IsHeld v.client n.spot w.0 w.1 = w.4 n.spot n.met refl in
        let agrees : Agree w.0 saw = (w.5 (t / 4) (omega (arith, even))).0 refl refl in
        let shape_is : h.shape ≡ n.spot.shape = sure h.shape record {
          now = h.now;
          content = w.0;
          its = h.its;
          agrees = agrees;
          encodes = h.encodes;
          in_form = h.in_form;
          deep = h.deep;
          prefixed = h.prefixed;
        } in (
          record {
            names = n;
            content = w.0;
            own = ap (λ (z : Seen). z.client.own) w.3 ∙ (ap (λ (z : View). z.own) h.is ∙ ap (λ (z : Shape). views.locked (spot n.spot.number z) w.0 ∷ v.client.own) shape_is);
            holds = ap (λ (z : Seen). z.holds) w.3;
            alike = record {
              places = ap (λ (z : Seen). z.places) w.3;
              met = ap (λ (z : Seen). z.client.met) w.3 ∙ ap (λ (z : View). z.met) h.is;
              room = ap (λ (z : Seen). z.room) w.3;
            };
            seen = ap (λ (z : Seen). z.client.seen) w.3 ∙ ap (λ (z : View). z.seen) h.is;
            its = h.its;
            encodes = h.encodes;
            in_form = h.in_form;
            deep = ap (λ (z : ℕ). length h.its.prefix + z) (sym n.high ∙ ap (λ (z : Shape). z.height) (sym shape_is)) ∙ h.deep;
            long = w.2;
            even = even;
            small = small;
            apart = h.apart;
          },
          agrees,
        )

    -- as its head does
    pub is_locked : m ≡ t → t % 4 ≡ 0 → t < 2 ^ 62 → key < 2 ^ 64 → (head : ℕ) → ((c : Content) → Agree c saw → cells.at c 0 ≡ head) → ((form : ℕ) (q : List ℕ) → IsHead head form q → Sees q key (prefix_matches.Covers height)) → HasLocked v v₂ name key height t
    is_locked hit even small fits head at_head sees = (is_locked_as hit even small (sure_by key fits saw head at_head height sees n.spot n.high n.covers)).0

-- A NODE THAT IS OPEN is locked by the word that was taken of it.
module _ (v : Seen) (b : Book) (words : List Name) (t name key height : ℕ) (o : IsOpen v b words t name key height) where
  abbrev a : Spot
  a = o.names.spot

  abbrev before_it : Seen
  before_it = seat_view v.client v.places o.opened.before v.holds v.room

  abbrev names_before : Names before_it name key height
  names_before = record { spot = a; met = o.names.met; placed = o.names.placed; named = o.names.named; high = o.names.high; covers = o.names.covers }

  -- its words are those of its name
  pub are_named : AreNamed b name words
  are_named c named =
      let e : 256 * a.shape.key + form_place a.shape.form ≡ 256 * c.shape.key + form_place c.shape.form = sym o.names.named ∙ named in
      let few = few_forms a.shape.form in
      let few' = few_forms c.shape.form in
      let key : a.shape.key ≡ c.shape.key = omega (arith, e, few, few') in
      let form : a.shape.form ≡ c.shape.form = one_form a.shape.form c.shape.form (omega (arith, e, few, few')) in
      subst (λ (z : ℕ × NodeType). (length words ≡ words_of z.1 + 1) × AreWords z.0 b words) (λ i. (key i, form i)) o.opened.are

  was_read : v ≡ reading before_it a.number t o.opened.saw
  was_read = ap (λ (rs : List Read). seat_view v.client v.places rs v.holds v.room) o.opened.reads

  module _ (k : ℕ) (at_k : o.names.spot.shape.key ≡ k) where
    pub may_lock_open : (id m : ℕ) → t ≡ 4 * m → MayLock v k IsMap id LearnsLocked t (t + 2)
    may_lock_open id m even = may_lock before_it name key height names_before v t o.opened.saw was_read k at_k id m even

    module _ (v₂ : Seen) (m : ℕ) (j : Joined) (told : Locks LearnsLocked (compares k t (t + 2)) v m j v₂) where
      pub not_locked_open : m ≢ t → Alike v v₂ × (v₂.client ≡ v.client) × (v₂.holds ≡ v.holds)
      not_locked_open ne =
          let s = not_locked before_it name key height names_before v t o.opened.saw was_read k at_k v₂ m j told ne in
          (record { places = s.0.places; met = s.0.met; room = s.0.room }, s.1, s.2)

      pub is_locked_open : m ≡ t → t < 2 ^ 62 → (h : HasLocked v v₂ name key height t) × Agree h.content o.opened.saw
      unfolding is_locked_as
      is_locked_open hit small =
          let l = is_locked_as before_it name key height names_before v t o.opened.saw was_read k at_k v₂ m j told hit o.free small o.sure in
          let h = l.0 in (
            record {
              names = o.names;
              content = h.content;
              own = h.own;
              holds = h.holds;
              alike = record { places = h.alike.places; met = h.alike.met; room = h.alike.room };
              seen = h.seen;
              its = h.its;
              encodes = h.encodes;
              in_form = h.in_form;
              deep = h.deep;
              long = h.long;
              even = h.even;
              small = h.small;
              apart = h.apart;
            },
            l.1,
          )

-- A node that is held alone
module _ (v : Seen) (b : Book) (words : List Name) (free : ℕ) (a : Spot) (c d : Content) (h : HoldsOne v b words free a c d) where
  its_hold : hold_of a.number v.holds ≡ Some (hold a.number (free + 2) d)
  its_hold = ap (hold_of a.number) h.holds ∙ hold_head a.number (free + 2) d []

  pub may_hold : length d ≡ words_of a.shape.form → MayHold 0 words b v
  may_hold long = (place_at a, hold a.number (free + 2) d, h.placed, h.are, ap (nth 0) h.holds, its_hold, long)

  pub draft_is : draft_of (nth 0 v.holds) ≡ d
  draft_is = ap (λ (hs : List Hold). draft_of (nth 0 hs)) h.holds

  module _ (k : ℕ) (at_k : a.shape.key ≡ k) (told : View → ℕ → Content → View → Type 0) where
    pub may_free : (id x : ℕ) → acts.Frees IsMap id v.client a.number x d (told v.client a.number d) → MayFree v k IsMap id told (free + 2) x
    may_free id x frees = (place_at a, hold a.number (free + 2) d, (h.placed, at_k), its_hold, refl, frees)

    pub is_freed : (w : Seen) (x : ℕ) → plays.Frees told (writes k x) v x none_joined w → (e : View) × (w ≡ seat_view e v.places v.reads [] v.room) × told v.client a.number d e
    is_freed w x t =
        let s = t (place_at a) (hold a.number (free + 2) d) h.placed at_k its_hold in
        let none : without a.number v.holds ≡ [] = ap (without a.number) h.holds ∙ ap (λ (z : Bool). cond z [] (hold a.number (free + 2) d ∷ [])) (eq-eqb a.number a.number refl) in
        (s.0, s.1 ∙ ap (λ (hs : List Hold). seat_view s.0 v.places v.reads hs v.room) none, s.2)

-- what the last hold is, but for its draft
hold_number : List Hold → ℕ
hold_number [] = 0
hold_number (h ∷ hs) = h.number

hold_word : List Hold → ℕ
hold_word [] = 0
hold_word (h ∷ hs) = h.word

no_holds : (h : Hold) (hs : List Hold) → [] ≡ h ∷ hs → ⊥
no_holds h hs e = cc

rest_holds : List Hold → List Hold
rest_holds [] = []
rest_holds (h ∷ hs) = hs

none_drafted : (k : ℕ) (hs : List Hold) → with_draft k [] hs ≡ [] → hs ≡ []
none_drafted k [] e = refl
none_drafted k (h ∷ hs) e = absurd (no_holds (cond (nat_eq k h.number) (hold k h.word []) h) (with_draft k [] hs) (sym e))

pub one_drafted : (xs : List Hold) (k m : ℕ) → undrafted (nth 0 xs) xs ≡ hold k m [] ∷ [] → xs ≡ hold k m (draft_of (nth 0 xs)) ∷ []
unfolding hold_number hold_word rest_holds
one_drafted [] k m e = absurd (no_holds (hold k m []) [] e)
one_drafted (x ∷ xs) k m e =
    let f : hold x.number x.word [] ∷ with_draft x.number [] xs ≡ hold k m [] ∷ [] = sym (ap (λ (b : Bool). cond b (hold x.number x.word []) x ∷ with_draft x.number [] xs) (eq-eqb x.number x.number refl)) ∙ e in
    let tail : xs ≡ [] = none_drafted x.number xs (ap rest_holds f) in
    (λ i. hold (hold_number (f i)) (hold_word (f i)) x.draft ∷ tail i)

-- others were written in it
pub wrote_one : (v w : Seen) (b : Book) (words : List Name) (free : ℕ) (a : Spot) (c d : Content) → HoldsOne v b words free a c d → without_draft 0 w ≡ without_draft 0 v → HoldsOne w b words free a c (draft_of (nth 0 w.holds)) × Alike v w × (w.client ≡ v.client)
wrote_one v w b words free a c d h e =
    let before : undrafted (nth 0 v.holds) v.holds ≡ hold a.number (free + 2) [] ∷ [] =
    ap (λ (hs : List Hold). undrafted (nth 0 hs) hs) h.holds ∙ ap (λ (z : Bool). cond z (hold a.number (free + 2) []) (hold a.number (free + 2) d) ∷ []) (eq-eqb a.number a.number refl) in (
      record {
        own = ap (λ (z : Seen). z.client.own) e ∙ h.own;
        holds = one_drafted w.holds a.number (free + 2) (ap (λ (z : Seen). z.holds) e ∙ before);
        placed = subst (λ (ps : List Place). IsIn (place_at a) ps) (sym (ap (λ (z : Seen). z.places) e)) h.placed;
        are = h.are;
      },
      record { places = ap (λ (z : Seen). z.places) e; met = ap (λ (z : Seen). z.client.met) e; room = ap (λ (z : Seen). z.room) e },
      ap (λ (z : Seen). z.client) e,
    )

-- a node that was locked, where no other was
pub holds_one : (v w : Seen) (name key height free : ℕ) (h : HasLocked v w name key height free) (b : Book) (words : List Name) → AreNamed b name words → v.client.own ≡ [] → v.holds ≡ [] → HoldsOne w b words free h.names.spot h.content h.content
holds_one v w name key height free h b words are own holds = record {
  own = h.own ∙ ap (λ (os : List Own). views.locked h.names.spot h.content ∷ os) own;
  holds = h.holds ∙ ap (λ (hs : List Hold). hold h.names.spot.number (free + 2) h.content ∷ hs) holds;
  placed = subst (λ (ps : List Place). IsIn (place_at h.names.spot) ps) (sym h.alike.places) h.names.placed;
  are = are h.names.spot h.names.named;
}

pub alike_then : (u v w : Seen) → Alike u v → Alike v w → Alike u w
alike_then u v w a b = record { places = b.places ∙ a.places; met = b.met ∙ a.met; room = b.room ∙ a.room }

pub taken_by : (o : Option ℕ) (x : ℕ) → o ≡ Some x → (P : ℕ → Type 0) → IfSome o P → P x
taken_by o x e P h = subst (λ (z : Option ℕ). IfSome z P) e h
