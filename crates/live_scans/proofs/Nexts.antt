-- The path on from a key below a node.
use Rattle.std.proofs.Common.{◌≡◌, ◌≢◌, ◌⊎◌, ℕ, zero, suc, ◌+◌, ◌-◌, ◌*◌, ◌/◌, ◌%◌, ◌<◌, ◌≤◌, ◌^◌, Bool, true, false, cond, nat_eq, List, [], ◌∷◌, take, drop, Option, Some, None, refl, sym, ap, ◌∙◌, subst, inl, inr, arith, eq-eqb, ne_eqb, append-nil}
use mathlib.Core.Logic.{dite}
use native.Mathlib.Decide.{ℕ_discrete}
use Rattle.std.proofs.lemmas.Option.{same_Some, none-some}
use Rattle.spec_node.specs.TableNode.{TableNode}
use Rattle.spec_node.specs.TableNode as table
use Rattle.spec_node.specs.declared.child.Child.TheVariants.{Payload, Node as Below}
use Rattle.spec_map.specs.Map.{lookup}
use Rattle.word_book.specs.Book.{Book, Name, reads, none_joined}
use Rattle.share_rule.specs.History.{Entry, IsHistory, IsLegalHistory}
use Rattle.live_nodes.specs.Nodes.{Content}
use Rattle.live_nodes.specs.Seats.{Place, Read, read, SeatView, IsIn, Agree}
use Rattle.live_nodes.specs.Plays as Plays
use Rattle.live_nodes.specs.Plays.{read_of, Checks}
use Rattle.live_nodes.specs.Calls.{MayCheck}
use Rattle.live_nodes.specs.Rows.{AreOf, last_saw, unread, without_reads}
use Rattle.live_layout.specs.Words as cells
use Rattle.live_layout.specs.Head.{IsHead}
use Rattle.live_layout.specs.Encodes.{IsBelow, IsWord, Encodes}
use Rattle.live_layout.specs.Order.{IsFrom, IsBefore, HasNearest}
use Rattle.live_nodes.specs.Levels.{up, digit, Shape, Spot, spot, Covers, place_at}
use Rattle.live_nodes.specs.Views.{View, watch, Ask}
use Rattle.live_nodes.specs.Tree.{IsMap, IsNow, IsOf, IsOfKind, LearnsNode, LearnsHead, LearnsBelow, Looks, Watches}
use Rattle.live_nodes.proofs.Looks.{node_below, HadBelow}
use Rattle.live_nodes.proofs.Plans.{digit-low}
use Rattle.live_reads.specs.Paths.{Names, Sights, HasOpened, IsOpen, Keeps}
use Rattle.live_reads.specs.Sees.{Sees}
use Rattle.live_reads.specs.Positions.{KnowsPosition}
use Rattle.live_reads.specs.declared.last_leaf.LastLeaf.{LastLeaf}
use Rattle.live_reads.specs.declared.prefix_match.PrefixMatch.TheVariants as prefix_matches
use Rattle.live_reads.proofs.Views.{reading_on, reading_on_keeps, learned_keeps, open_read, may_check_open, open_checked, open_missed, may_look, look_missed, look_ends, may_meet, meet_missed, meet_head, same_named}
use Rattle.live_reads.proofs.Sights.{sights_kept, covers_by}
use Rattle.live_reads.proofs.Finds.{keeps_then, names_kept, looked_below}
use Rattle.live_scans.specs.inner.Directions.{low_of, high_of, EndsLeaf, BeginsLeaf, IsNextKey, ascending}
use Rattle.live_scans.specs.inner.Moments.{SeesMore, HasUnder, IsRead, LearnsAll, HasNone, IsPassed, Reads, ReadsTo}
use Rattle.live_scans.specs.Scans.{HasRead}
use Rattle.live_scans.specs.inner.Nexts.{IsNear, HasHead, IsLower, IsNext, IsLeafOpen, IsReadOn, IsOutside, Chooses, Enters, Visits, second_number}
use Rattle.live_scans.specs.inner.Steps.{IsStep}
use Rattle.live_scans.specs.declared.bound.Step.{Step}
use Rattle.live_scans.specs.declared.next.Lower.{Lower}
use Rattle.live_scans.specs.declared.next.Visit.{Visit}
use Rattle.live_scans.specs.declared.next.Visit.TheVariants as visits
use Rattle.live_scans.specs.declared.next.Turn.TheVariants as turns
use Rattle.live_scans.proofs.Uppers.{up-rises}
use Rattle.live_scans.proofs.Composed.{none_read}
use Rattle.live_scans.specs.inner.Stops.{IsPosition, IsLeafAt}
use Rattle.live_scans.specs.declared.position.Position.{Position}
use Rattle.live_scans.proofs.Passes.{passed_since, step_since, from_then, HasPassedTo, passed_to, to_fits, reads_on, reads_to_on, reads_to_since, ReadsBehind, rest_reads}
use Rattle.live_scans.proofs.Wholes.{node_whole}
use Rattle.live_scans.proofs.Nones.{covers_like, at_digit, is_within}

abbrev Seen : Type 0
Seen = SeatView View

-- in that direction
before_by : (rising : Bool) → (a b : ℕ) → IsFrom rising a b → a ≢ b → IsBefore rising a b
before_by true a b from ne = omega (arith, from, ne)
before_by false a b from ne = omega (arith, from, ne)

-- a shape is told by its height and a key
same_shape : (a : Spot) (s : Shape) (key : ℕ) → IsNow a s → s.height ≡ a.shape.height → Covers s key → Covers a.shape key → s ≡ a.shape
same_shape a s key now high covers its =
    let top : s.top ≡ a.shape.top = sym covers ∙ (ap (λ (z : ℕ). up z key) high ∙ its) in
    λ i. record { key = now.key i; form = now.form i; height = high i; top = top i }

-- THE NEAREST CHILD was read of an open node.
pub near_read : (rising : Bool) → (v v₂ : Seen) (b b₂ : Book) (words : List Name) (t : ℕ) (s : Position) (o : IsOpen v b words t s.name s.key s.height) (rest : without_reads v₂ ≡ without_reads v) → b₂ ≡ b → ((c : Content) → Agree c (last_saw v₂.reads) → Agree c o.opened.saw) → (found : Option (ℕ × ℕ))
    → ((c : Content) (n : TableNode ℕ) → Agree c (last_saw v₂.reads) → Encodes c n → n.form ≡ o.names.spot.shape.form → HasNearest rising n.children (digit s.height s.key) found) → IsNear rising v₂ b₂ words t s found
near_read rising v v₂ b b₂ words t s o rest book kept found near =
    let a : Spot = o.names.spot in
    let e = open_read v b words t a o.names.placed o.opened v₂ rest in
    let keeps = reading_on_keeps v v₂ o.opened.before a.number t (last_saw v₂.reads) e in record {
      here = record {
        names = names_kept v v₂ s.name s.key s.height keeps.0 o.names;
        opened = record { are = subst (λ (z : Book). AreOf (place_at a) z words) (sym book) o.opened.are; saw = last_saw v₂.reads; before = o.opened.before; reads = ap (λ (z : Seen). z.reads) e };
        free = o.free;
        sure = λ shape is. o.sure shape record {
          now = is.now;
          content = is.content;
          its = is.its;
          agrees = kept is.content is.agrees;
          encodes = is.encodes;
          in_form = is.in_form;
          deep = is.deep;
          prefixed = is.prefixed;
        };
      };
      near = near;
    }

-- it is so where the seat knows more
pub near_kept : (rising : Bool) → (v w : Seen) (b b' : Book) (words : List Name) (t : ℕ) (s : Position) (found : Option (ℕ × ℕ)) → b' ≡ b → Keeps v w → w.reads ≡ v.reads → IsNear rising v b words t s found → IsNear rising w b' words t s found
near_kept rising v w b b' words t s found book keeps same n =
    let o = n.here in record {
      here = record {
        names = names_kept v w s.name s.key s.height keeps o.names;
        opened = record { are = subst (λ (z : Book). AreOf (place_at o.names.spot) z words) (sym book) o.opened.are; saw = o.opened.saw; before = o.opened.before; reads = same ∙ o.opened.reads };
        free = o.free;
        sure = o.sure;
      };
      near = n.near;
    }

-- with another key below it
abbrev open_as : (v : Seen) (b : Book) (words : List Name) (t name key height k : ℕ) → up height k ≡ up height key → IsOpen v b words t name key height → IsOpen v b words t name k height
open_as v b words t name key height k same o = record {
  names = record {
    spot = o.names.spot;
    met = o.names.met;
    placed = o.names.placed;
    named = o.names.named;
    high = o.names.high;
    covers = ap (λ (z : ℕ). up z k) o.names.high ∙ (same ∙ (sym (ap (λ (z : ℕ). up z key) o.names.high) ∙ o.names.covers));
  };
  opened = o.opened;
  free = o.free;
  sure = o.sure;
}

-- a key with that byte there
pub up_of : (height k top byte : ℕ) → 1 ≤ height → byte < 256 → up (height - 1) k ≡ 256 * top + byte → (up height k ≡ top) × (digit height k ≡ byte)
up_of zero k top byte some low is = absurd (omega (arith, some))
up_of (suc h) k top byte some low is = let e : up h k ≡ 256 * top + byte = subst (λ (z : ℕ). up z k ≡ 256 * top + byte) (let s : suc h - 1 ≡ h = omega arith in s) is in (omega (arith, e, low), omega (arith, e, low))

-- THE NEAREST CHILD is met.
module _ (rising : Bool) (v : Seen) (b : Book) (words : List Name) (t : ℕ) (s : Position) (e : ℕ × ℕ) (n : IsNear rising v b words t s (Some e)) (high : 2 ≤ s.height) (q : Ask) (above : up s.height q.key ≡ up s.height s.key) (at_byte : digit s.height q.key ≡ e.0) (k : ℕ) (at_k : (place_at n.here.names.spot).key ≡ k) (looks : Bool) where
  abbrev o : IsOpen v b words t s.name q.key s.height
  o = open_as v b words t s.name s.key s.height q.key above n.here

  pub may_meet_under : (id m : ℕ) → q.caller ≡ id → t ≡ 4 * m → MayCheck v k IsMap id (LearnsNode (Looks looks) q) t
  may_meet_under id m by even = may_look v b words t s.name q.key s.height o v refl k at_k looks q refl id m by even

  module _ (w : Seen) (m : ℕ) (told : Checks (LearnsNode (Looks looks) q) (reads k) v m none_joined w) where
    pub under_missed : m ≢ t → Keeps v w × (w.client ≡ v.client)
    under_missed ne = look_missed v b words t s.name q.key s.height o v refl k at_k looks q refl w m told ne

    same_saw : last_saw v.reads ≡ n.here.opened.saw
    same_saw = ap last_saw n.here.opened.reads

    module _ (hit : m ≡ t) where
      under_ends : Keeps v w × ((w.client.seen ≡ v.client.seen) × ((below : ℕ) × IsWord e.1 (Below below) × Sights w below))
      under_ends =
          let l = look_ends v b words t s.name q.key s.height o v refl k at_k looks q refl w m told hit (λ c agrees. subst (Agree c) same_saw agrees) (Some e.1)
          (λ c its agrees encodes formed. let x = n.near c its (subst (Agree c) same_saw agrees) encodes formed in subst (λ (z : ℕ). IsBelow (lookup its.children z) (Some e.1)) (sym at_byte) x.1) in
          (l.0, looked_below looks q s.height (Some (Some e.1)) e.1 v w high l.1 refl)

      pub under_keeps : Keeps v w × (w.client.seen ≡ v.client.seen)
      under_keeps = (under_ends.0, under_ends.1.0)

      pub under_met : (below : ℕ) × IsWord e.1 (Below below) × Sights w below
      under_met = under_ends.1.1

      pub under_near : (b' : Book) → b' ≡ b → IsNear rising w b' words t s (Some e)
      under_near b' book =
          let h = (open_checked v b words t o.names.spot o.names.placed o.opened v refl k at_k (LearnsNode (Looks looks) q) w m told).hit hit in
          let is = open_read v b words t o.names.spot o.names.placed o.opened v refl in
          near_kept rising v w b b' words t s (Some e) book under_ends.0 (ap (λ (z : Seen). z.reads) h.2 ∙ sym (ap (λ (z : Seen). z.reads) is)) n

-- A CHILD is watched.
read_second : (j k : ℕ) (r s : Read) (rs : List Read) → r.number ≡ j → s.number ≡ k → k ≢ j → read_of k (r ∷ s ∷ rs) ≡ Some s
read_second j k r s rs is_r is_s ne =
    ap (λ (b : Bool). cond b (Some r) (read_of k (s ∷ rs))) (ne_eqb k r.number (λ e. ne (e ∙ is_r)))
    ∙ ap (λ (b : Bool). cond b (Some s) (read_of k rs)) (eq-eqb k s.number (sym is_s))

-- It is open, and was read since.
pub record ChildRead (rising : Bool) (v : Seen) (b : Book) (words : List Name) (t : ℕ) (s : Position) (e : ℕ × ℕ) (below : ℕ) (v₂ : Seen) (b₂ : Book) (words₂ : List Name) (t₂ : ℕ) (v₃ : Seen) (k : ℕ) : Type 0 where
  pub near : IsNear rising v b words t s (Some e)
  pub high : 2 ≤ s.height
  pub low_byte : e.0 < 256
  pub child : Sights v below
  pub is_child : (name : ℕ) → IsWord e.1 (Below name) → name ≡ below
  pub apart : below ≢ s.name
  pub keeps : Keeps v v₂
  pub client : v₂.client ≡ v.client
  pub opened : HasOpened v₂ b₂ words₂ t₂ child.spot
  pub reads : v₂.reads ≡ read child.spot.number t₂ [] ∷ v.reads
  pub rest : without_reads v₃ ≡ without_reads v₂
  pub first : (place_at child.spot).key ≡ k

module _ {rising : Bool} {v : Seen} {b : Book} {words : List Name} {t : ℕ} {s : Position} {e : ℕ × ℕ} {below : ℕ} {v₂ : Seen} {b₂ : Book} {words₂ : List Name} {t₂ : ℕ} {v₃ : Seen} {k : ℕ} (u : ChildRead rising v b words t s e below v₂ b₂ words₂ t₂ v₃ k) where
  abbrev n : IsNear rising v b words t s (Some e)
  n = u.near

  abbrev c : Sights v below
  c = u.child

  abbrev a : Spot
  a = n.here.names.spot

  abbrev saw : List (ℕ × ℕ)
  saw = n.here.opened.saw

  abbrev saw₃ : List (ℕ × ℕ)
  saw₃ = last_saw v₃.reads

  abbrev opened : HasOpened v₂ b₂ words₂ t₂ c.spot
  opened = record { are = u.opened.are; saw = []; before = v.reads; reads = u.reads }

  placed₂ : IsIn (place_at c.spot) v₂.places
  placed₂ = u.keeps.places (place_at c.spot) c.placed

  had : HadBelow a (read a.number t saw) e.0 e.1
  had shape is =
      let same : shape.height ≡ s.height = ap (λ (z : Shape). z.height) (n.here.sure shape is) ∙ n.here.names.high in
      let x = n.near is.content is.its is.agrees is.encodes is.in_form in
      (let high = u.high in omega (arith, same, high), x.1)

  pub may_watch_next : (id m l : ℕ) → t₂ ≡ 4 * m → t ≡ 4 * l → MayCheck v₃ k IsMap id (LearnsBelow a.number (Some t)) t₂
  may_watch_next id m l even free = may_check_open v₂ b₂ words₂ t₂ c.spot placed₂ opened v₃ u.rest k u.first (LearnsBelow a.number (Some t)) id
      (node_below id v₂.client c.spot (u.keeps.met c.spot c.met) t₂ saw₃ m even (read c.spot.number t₂ saw₃ ∷ v.reads)
      a (u.keeps.met a n.here.names.met) (read a.number t saw) (inr (subst (IsIn (read a.number t saw)) (sym n.here.opened.reads) (inl refl))) refl l free
      e.0 u.low_byte e.1 had (λ name is. u.is_child name is ∙ c.named))

  module _ (w : Seen) (m : ℕ) (told : Checks (LearnsBelow a.number (Some t)) (reads k) v₃ m none_joined w) where
    pub next_missed : m ≢ t₂ → Keeps v w × (w.client.seen ≡ v.client.seen)
    next_missed ne =
        let missed = open_missed v₂ b₂ words₂ t₂ c.spot placed₂ opened v₃ u.rest k u.first (LearnsBelow a.number (Some t)) w m told ne in
        (keeps_then v v₂ w u.keeps missed.0, ap (λ (z : View). z.seen) (missed.1 ∙ u.client))

    next_checked : Plays.Checked (LearnsBelow a.number (Some t) v₂.client c.spot.number t₂ saw₃) t₂ (reading_on v₂ v.reads c.spot.number t₂ saw₃) m w
    next_checked = open_checked v₂ b₂ words₂ t₂ c.spot placed₂ opened v₃ u.rest k u.first (LearnsBelow a.number (Some t)) w m told

    module _ (hit : m ≡ t₂) where
      pub next_keeps : Keeps v w × (w.client.seen ≡ v.client.seen)
      next_keeps =
          let h = next_checked.hit hit in
          let x : Watches a.number (Some t) v₂.client c.spot saw₃ h.1 = h.3 c.spot (u.keeps.met c.spot c.met) refl in
          let learned = learned_keeps v₂ w h.0 h.1 (read c.spot.number t₂ saw₃ ∷ v.reads) h.2 (λ z in_it. subst (λ (y : View). IsIn z y.met) (sym x.watches) in_it) (ap (λ (y : View). y.own) x.watches) in
          (keeps_then v v₂ w u.keeps learned, ap (λ (z : Seen). z.client.seen) h.2 ∙ (ap (λ (z : View). z.seen) x.watches ∙ ap (λ (z : View). z.seen) u.client))

      pub next_is : (b' : Book) → b' ≡ b → b' ≡ b₂ → t₂ % 4 ≡ 0 → (head : ℕ) (d : Position) → d.name ≡ below → d.key < 2 ^ 64 → ((content : Content) → Agree content saw₃ → cells.at content 0 ≡ head) → ((form : ℕ) (p : List ℕ) → IsHead head form p → Sees p d.key (prefix_matches.Covers d.height))
          → IsNext rising w b' words t s e d words₂ t₂
      next_is b' book book₂ even head d called fits at_head sees =
          let h = next_checked.hit hit in
          let x : Watches a.number (Some t) v₂.client c.spot saw₃ h.1 = h.3 c.spot (u.keeps.met c.spot c.met) refl in
          let kw = next_keeps.0 in
          let watched = watch a.number (Some t) (spot c.spot.number x.shape) in
          let apart : a.number ≢ c.spot.number = λ same. u.apart (c.named ∙ (sym (x.one_name a (u.keeps.met a n.here.names.met) same) ∙ sym n.here.names.named)) in
          let w_reads : w.reads ≡ read c.spot.number t₂ saw₃ ∷ v.reads = ap (λ (z : Seen). z.reads) h.2 in
          let all_reads : w.reads ≡ read c.spot.number t₂ saw₃ ∷ read a.number t saw ∷ n.here.opened.before = w_reads ∙ ap (λ (rs : List Read). read c.spot.number t₂ saw₃ ∷ rs) n.here.opened.reads in
          let by = covers_by d.key fits saw₃ head at_head d.height sees in
          record {
            lower = record {
              names = names_kept v w s.name s.key s.height kw n.here.names;
              are = subst (λ (z : Book). AreOf (place_at a) z words) (sym book) n.here.opened.are;
              saw = saw;
              reads = ap (read_of a.number) all_reads ∙ read_second c.spot.number a.number (read c.spot.number t₂ saw₃) (read a.number t saw) n.here.opened.before refl refl apart;
              second = ap second_number all_reads;
              free = n.here.free;
              sure = n.here.sure;
              near = n.near;
              child = record {
                sighted = let kept = sights_kept v w kw below c in record { spot = kept.spot; met = kept.met; placed = kept.placed; named = called ∙ kept.named };
                opened = record { are = subst (λ (z : Book). AreOf (place_at c.spot) z words₂) (sym book₂) u.opened.are; saw = saw₃; before = v.reads; reads = w_reads };
                even = even;
                head = by;
              };
              apart = λ same. apart (sym same);
              low_byte = u.low_byte;
              is_child = λ name is. u.is_child name is ∙ sym called;
            };
            watch = watched;
            known = subst (λ (z : Seen). IsIn watched z.client.watched) (sym h.2) (subst (λ (z : View). IsIn watched z.watched) (sym x.watches) (inl refl));
            above = refl;
            free_by = refl;
            spells = λ name is. u.is_child name is ∙ (c.named ∙ sym (same_named c.spot x.shape x.is.now));
            low_is = (by c.spot x.shape x.is).0;
            covers = (by c.spot x.shape x.is).1;
          }

-- WHERE IT IS KNOWN of an open node and its child, which is open, too
-- the read of the node above
read_later : (j k : ℕ) (r : Read) (rs : List Read) (o : Option Read) → r.number ≡ j → j ≢ k → read_of k (r ∷ rs) ≡ o → read_of k rs ≡ o
read_later j k r rs o is ne e = sym (ap (λ (b : Bool). cond b (Some r) (read_of k rs)) (ne_eqb k r.number (λ same. ne (sym is ∙ sym same)))) ∙ e

read_sooner : (j k : ℕ) (r : Read) (rs : List Read) (o : Option Read) → r.number ≡ j → j ≢ k → read_of k rs ≡ o → read_of k (r ∷ rs) ≡ o
read_sooner j k r rs o is ne e = ap (λ (b : Bool). cond b (Some r) (read_of k rs)) (ne_eqb k r.number (λ same. ne (sym is ∙ sym same))) ∙ e

read_or : (b : Bool) (s r : Read) (rs : List Read) (o : Option Read) → (o ≡ Some r → IsIn r rs) → cond b (Some s) o ≡ Some r → IsIn r (s ∷ rs)
read_or true s r rs o there e = inl (same_Some s r e)
read_or false s r rs o there e = inr (there e)

read_there : (k : ℕ) (rs : List Read) (r : Read) → read_of k rs ≡ Some r → IsIn r rs
read_there k [] r e = absurd (none-some r e)
read_there k (s ∷ rs) r e = read_or (nat_eq k s.number) s r rs (read_of k rs) (read_there k rs r) e

-- it is so where the seat has read the same, and knows as much
pub lower_kept : (rising : Bool) → (v w : Seen) (b b' : Book) (words : List Name) (t : ℕ) (s : Position) (e : ℕ × ℕ) (d : Position) (others : List Name) (other : ℕ) → b' ≡ b → Keeps v w → w.reads ≡ v.reads → IsLower rising v b words t s e d others other → IsLower rising w b' words t s e d others other
lower_kept rising v w b b' words t s e d others other book keeps same f =
    let c = f.child in record {
      names = names_kept v w s.name s.key s.height keeps f.names;
      are = subst (λ (z : Book). AreOf (place_at f.names.spot) z words) (sym book) f.are;
      saw = f.saw;
      reads = ap (read_of f.names.spot.number) same ∙ f.reads;
      second = ap second_number same ∙ f.second;
      free = f.free;
      sure = f.sure;
      near = f.near;
      child = record {
        sighted = sights_kept v w keeps d.name c.sighted;
        opened = record { are = subst (λ (z : Book). AreOf (place_at c.sighted.spot) z others) (sym book) c.opened.are; saw = c.opened.saw; before = c.opened.before; reads = same ∙ c.opened.reads };
        even = c.even;
        head = c.head;
      };
      apart = f.apart;
      low_byte = f.low_byte;
      is_child = f.is_child;
    }

-- more was read of the child
taken_of : Read → List Read → ℕ × ℕ
taken_of d [] = (d.number, d.word)
taken_of d (r ∷ rs) = (r.number, r.word)

others_of : List Read → List Read
others_of [] = []
others_of (r ∷ rs) = rs

unread_is : (xs : List Read) (k n : ℕ) (ys : List Read) → unread xs ≡ read k n [] ∷ ys → xs ≡ read k n (last_saw xs) ∷ ys
unfolding taken_of others_of
unread_is [] k n ys e = absurd (let x : [] ≡ read k n [] ∷ ys = e in cc)
unread_is (x ∷ xs) k n ys e = λ i. read (taken_of x (e i)).0 (taken_of x (e i)).1 x.saw ∷ others_of (e i)

unread_on : (rs xs : List Read) (k n : ℕ) (old : List (ℕ × ℕ)) → unread xs ≡ unread rs → (ys : List Read) → rs ≡ read k n old ∷ ys → xs ≡ read k n (last_saw xs) ∷ ys
unread_on rs xs k n old e ys is = unread_is xs k n ys (e ∙ ap unread is)

unread_second : (xs : List Read) → second_number (unread xs) ≡ second_number xs
unread_second [] = refl
unread_second (x ∷ xs) = refl

pub lower_read : (rising : Bool) → (v w : Seen) (b b' : Book) (words : List Name) (t : ℕ) (s : Position) (e : ℕ × ℕ) (d : Position) (others : List Name) (other : ℕ) → b' ≡ b → Keeps v w → IsReadOn v.reads w.reads → IsLower rising v b words t s e d others other → IsLower rising w b' words t s e d others other
lower_read rising v w b b' words t s e d others other book keeps on f =
    let c = f.child in
    let k : ℕ = c.sighted.spot.number in
    let home : ℕ = f.names.spot.number in
    let w_reads : w.reads ≡ read k other (last_saw w.reads) ∷ c.opened.before = unread_on v.reads w.reads k other c.opened.saw on.0 c.opened.before c.opened.reads in
    let above = Some (read home t f.saw) in
    let before : read_of home c.opened.before ≡ above = read_later k home (read k other c.opened.saw) c.opened.before above refl f.apart (sym (ap (read_of home) c.opened.reads) ∙ f.reads) in
    let kept : (x : Content) → Agree x (last_saw w.reads) → Agree x c.opened.saw = λ x agrees. subst (Agree x) (ap last_saw c.opened.reads) (on.1 x agrees) in record {
      names = names_kept v w s.name s.key s.height keeps f.names;
      are = subst (λ (z : Book). AreOf (place_at f.names.spot) z words) (sym book) f.are;
      saw = f.saw;
      reads = ap (read_of home) w_reads ∙ read_sooner k home (read k other (last_saw w.reads)) c.opened.before above refl f.apart before;
      second = sym (unread_second w.reads) ∙ (ap second_number on.0 ∙ (unread_second v.reads ∙ f.second));
      free = f.free;
      sure = f.sure;
      near = f.near;
      child = record {
        sighted = sights_kept v w keeps d.name c.sighted;
        opened = record { are = subst (λ (z : Book). AreOf (place_at c.sighted.spot) z others) (sym book) c.opened.are; saw = last_saw w.reads; before = c.opened.before; reads = w_reads };
        even = c.even;
        head = λ a shape is. c.head a shape record {
          now = is.now;
          content = is.content;
          its = is.its;
          agrees = kept is.content is.agrees;
          encodes = is.encodes;
          in_form = is.in_form;
          deep = is.deep;
          prefixed = is.prefixed;
        };
      };
      apart = f.apart;
      low_byte = f.low_byte;
      is_child = f.is_child;
    }

-- by another key of the child
pub lower_as : (rising : Bool) → (v : Seen) (b : Book) (words : List Name) (t : ℕ) (s : Position) (e : ℕ × ℕ) (d c : Position) (others : List Name) (other : ℕ) → c.name ≡ d.name → c.height ≡ d.height → up d.height c.key ≡ up d.height d.key → IsLower rising v b words t s e d others other → IsLower rising v b words t s e c others other
lower_as rising v b words t s e d c others other named high same f =
    let h = f.child in record {
      names = f.names;
      are = f.are;
      saw = f.saw;
      reads = f.reads;
      second = f.second;
      free = f.free;
      sure = f.sure;
      near = f.near;
      child = record {
        sighted = record { spot = h.sighted.spot; met = h.sighted.met; placed = h.sighted.placed; named = named ∙ h.sighted.named };
        opened = h.opened;
        even = h.even;
        head = λ a shape is.
            let by = h.head a shape is in
            (by.0 ∙ sym high, ap (λ (z : ℕ). up z c.key) by.0 ∙ (same ∙ (sym (ap (λ (z : ℕ). up z d.key) by.0) ∙ by.1)));
      };
      apart = f.apart;
      low_byte = f.low_byte;
      is_child = λ name is. f.is_child name is ∙ sym named;
    }

-- the child is a leaf
pub leaf_of : (v : Seen) (b : Book) (d : Position) (others : List Name) (other key : ℕ) → d.height ≡ 1 → up 1 key ≡ up 1 d.key → HasHead v b d others other → IsLeafOpen v b others other d.name key
leaf_of v b d others other key low is h = record {
  sighted = h.sighted;
  opened = h.opened;
  even = h.even;
  leaf = λ shape of.
      let by = h.head h.sighted.spot shape of in
      let one : shape.height ≡ 1 = by.0 ∙ low in
      (one, ap (λ (z : ℕ). up z key) one ∙ (is ∙ (sym (ap (λ (z : ℕ). up z d.key) one) ∙ by.1)));
}

-- a part of a leaf, by the key that it begins with in that direction
pub part_up : (rising : Bool) → (base first last key : ℕ) → base + cond rising first last ≡ key → base % 256 ≡ 0 → first ≤ last → last ≤ 255 → up 1 (base + first) ≡ up 1 key
part_up true base first last key is whole order high = omega (arith, is, whole, order, high)
part_up false base first last key is whole order high = omega (arith, is, whole, order, high)

-- THE CHILD is checked again, and watched.
module _ (rising : Bool) (v : Seen) (b : Book) (words : List Name) (t : ℕ) (s : Position) (e : ℕ × ℕ) (d : Position) (others : List Name) (other : ℕ) (f : IsLower rising v b words t s e d others other) (high : 2 ≤ s.height) (k : ℕ) (at_k : (place_at f.child.sighted.spot).key ≡ k) where
  abbrev under : Spot
  under = f.child.sighted.spot

  abbrev top : Spot
  top = f.names.spot

  abbrev there : HasOpened v b others other under
  there = f.child.opened

  abbrev saw_below : List (ℕ × ℕ)
  saw_below = last_saw v.reads

  abbrev Learns : View → ℕ → ℕ → List (ℕ × ℕ) → List Place → View → Type 0
  Learns = LearnsBelow top.number (Some t)

  had_below : HadBelow top (read top.number t f.saw) e.0 e.1
  had_below shape is =
      let same : shape.height ≡ s.height = ap (λ (z : Shape). z.height) (f.sure shape is) ∙ f.names.high in
      let x = f.near is.content is.its is.agrees is.encodes is.in_form in
      (omega (arith, same, high), x.1)

  pub may_watch_again : (id m l : ℕ) → other ≡ 4 * m → t ≡ 4 * l → MayCheck v k IsMap id Learns other
  may_watch_again id m l even free =
      let above = Some (read top.number t f.saw) in
      let before : read_of top.number there.before ≡ above = read_later under.number top.number (read under.number other there.saw) there.before above refl f.apart (sym (ap (read_of top.number) there.reads) ∙ f.reads) in
      may_check_open v b others other under f.child.sighted.placed there v refl k at_k Learns id
      (node_below id v.client under f.child.sighted.met other saw_below m even (read under.number other saw_below ∷ there.before)
      top f.names.met (read top.number t f.saw) (inr (read_there top.number there.before (read top.number t f.saw) before)) refl l free
      e.0 f.low_byte e.1 had_below (λ name is. f.is_child name is ∙ f.child.sighted.named))

  module _ (w : Seen) (m : ℕ) (told : Checks Learns (reads k) v m none_joined w) where
    again_checked : Plays.Checked (Learns v.client under.number other saw_below) other (reading_on v there.before under.number other saw_below) m w
    again_checked = open_checked v b others other under f.child.sighted.placed there v refl k at_k Learns w m told

    pub again_missed : m ≢ other → Keeps v w × (w.client ≡ v.client)
    again_missed ne = open_missed v b others other under f.child.sighted.placed there v refl k at_k Learns w m told ne

    module _ (hit : m ≡ other) where
      pub again_keeps : Keeps v w × (w.client.seen ≡ v.client.seen)
      again_keeps =
          let h = again_checked.hit hit in
          let x : Watches top.number (Some t) v.client under saw_below h.1 = h.3 under f.child.sighted.met refl in (
            learned_keeps v w h.0 h.1 (read under.number other saw_below ∷ there.before) h.2 (λ z in_it. subst (λ (y : View). IsIn z y.met) (sym x.watches) in_it) (ap (λ (y : View). y.own) x.watches),
            ap (λ (z : Seen). z.client.seen) h.2 ∙ ap (λ (z : View). z.seen) x.watches,
          )

      pub again_next : (b' : Book) → b' ≡ b → IsNext rising w b' words t s e d others other
      unfolding lower_kept
      again_next b' book =
          let h = again_checked.hit hit in
          let x : Watches top.number (Some t) v.client under saw_below h.1 = h.3 under f.child.sighted.met refl in
          let is = open_read v b others other under f.child.sighted.placed there v refl in
          let watched = watch top.number (Some t) (spot under.number x.shape) in
          let by = f.child.head under x.shape (subst (IsOf under x.shape) (ap last_saw there.reads) x.is) in record {
            lower = lower_kept rising v w b b' words t s e d others other book again_keeps.0 (ap (λ (z : Seen). z.reads) h.2 ∙ sym (ap (λ (z : Seen). z.reads) is)) f;
            watch = watched;
            known = subst (λ (z : Seen). IsIn watched z.client.watched) (sym h.2) (subst (λ (z : View). IsIn watched z.watched) (sym x.watches) (inl refl));
            above = refl;
            free_by = refl;
            spells = λ name word. f.is_child name word ∙ (f.child.sighted.named ∙ sym (same_named under x.shape x.is.now));
            low_is = by.0;
            covers = by.1;
          }

-- The node above is checked again: nothing else is below it.
module _ (rising : Bool) (v : Seen) (b : Book) (words : List Name) (t : ℕ) (s : Position) (e : ℕ × ℕ) (d : Position) (others : List Name) (other : ℕ) (n : IsNext rising v b words t s e d others other) (k : ℕ) (at_k : (place_at n.lower.names.spot).key ≡ k) (caller : ℕ) where
  abbrev f : IsLower rising v b words t s e d others other
  f = n.lower

  abbrev home : Spot
  home = f.names.spot

  pub may_be_still : (id m : ℕ) → caller ≡ id → t ≡ 4 * m → MayCheck v k IsMap id (LearnsAll caller) t
  may_be_still id m by even = (place_at home, read home.number t f.saw, (f.names.placed, at_k), f.reads, refl, node_whole caller id by v.client home f.names.met t f.saw m even v.reads)

  module _ (w : Seen) (m : ℕ) (told : Checks (LearnsAll caller) (reads k) v m none_joined w) where
    still_checked : Plays.Checked (LearnsAll caller v.client home.number t f.saw) t v m w
    still_checked = told (place_at home) (read home.number t f.saw) f.names.placed at_k f.reads

    pub still_missed : m ≢ t → Keeps v w × (w.client ≡ v.client)
    still_missed ne = subst (λ (z : Seen). Keeps v z × (z.client ≡ v.client)) (sym (still_checked.miss ne))
        (record { places = λ p h. h; met = λ s h. h; own = refl; holds = refl; room = refl }, refl)

    module _ (hit : m ≡ t) where
      still_read : Keeps v w × IsRead caller v.client home home.shape t f.saw w.client
      still_read =
          let h = still_checked.hit hit in
          let y = h.3 home f.names.met refl in
          let x = subst (λ (z : Shape). IsRead caller v.client home z t f.saw h.1) (f.sure y.0 y.1.node) y.1 in (
            learned_keeps v w h.0 h.1 v.reads h.2 (λ z in_it. subst (λ (u : View). IsIn z u.met) (sym x.is) in_it) (ap (λ (u : View). u.own) x.is),
            subst (λ (z : Seen). IsRead caller v.client home home.shape t f.saw z.client) (sym h.2) x,
          )

      pub still_keeps : Keeps v w × SeesMore w.client.seen caller v.client.seen
      still_keeps = (still_read.0, still_read.1.fits)

      pub still_lower : (b' : Book) → b' ≡ b → IsLower rising w b' words t s e d others other
      still_lower b' book = lower_kept rising v w b b' words t s e d others other book still_read.0 (ap (λ (z : Seen). z.reads) (still_checked.hit hit).2) f

      -- what is under home byte
      module _ (high : 2 ≤ s.height) where
        abbrev x : IsRead caller v.client home home.shape t f.saw w.client
        x = still_read.1

        near_now : HasNearest rising x.node.its.children (digit s.height s.key) (Some e)
        near_now = f.near x.node.content x.node.its x.node.agrees x.node.encodes x.node.in_form

        under_node : (h k : ℕ) (o : Option (table.Child ℕ)) → 2 ≤ h → IsOfKind h o → IsBelow o (Some e.1) → up d.height k ≢ up d.height d.key → HasUnder v.client home.number t x.pairs k o → lookup x.pairs k ≡ None
        under_node h k None tall kind is apart u = absurd is
        under_node zero k (Some y) tall kind is apart u = absurd kind
        under_node (suc zero) k (Some y) tall kind is apart u = absurd (omega (arith, tall))
        under_node (suc (suc h)) k (Some (Payload y)) tall kind is apart u = absurd kind
        under_node (suc (suc h)) k (Some (Below name)) tall kind is apart u = u n.watch n.known n.above n.free_by (n.spells name is)
            (λ covers. apart (subst (λ (z : ℕ). up z k ≡ up z d.key) n.low_is (covers ∙ sym n.covers)))

        pub none_outside : HasNone caller v w (IsOutside rising s e.0 d)
        none_outside = record {
          fits = x.fits;
          pairs = x.pairs;
          legal = x.legal;
          none = λ k l.
              let within = l.0 in
              let u = at_digit caller v w s.name s.key s.height f.names t f.saw x k (x.under k (covers_like caller v w s.name s.key s.height f.names t f.saw x k within.0)) in
              dite (ℕ_discrete (digit s.height k) e.0)
              (λ same.
              let o : Option (table.Child ℕ) = lookup x.node.its.children (digit s.height k) in
              let kind : IsOfKind s.height o = subst (λ (z : ℕ). IsOfKind z o) f.names.high (x.of_kind (digit s.height k) (digit-low s.height k)) in
              under_node s.height k o high kind (subst (λ (z : ℕ). IsBelow (lookup x.node.its.children z) (Some e.1)) (sym same) near_now.1) l.1 u)
              (λ ne.
              let none : lookup x.node.its.children (digit s.height k) ≡ None = near_now.2 (digit s.height k) within.1 (before_by rising (digit s.height k) e.0 within.2 ne) in
              subst (λ (o : Option (table.Child ℕ)). HasUnder v.client home.number t x.pairs k o) none u);
        }

-- The child is what its head says.
module _ (rising : Bool) (v : Seen) (b : Book) (words : List Name) (t : ℕ) (s : Position) (e : ℕ × ℕ) (d : Position) (others : List Name) (other : ℕ) (f : IsLower rising v b words t s e d others other) (k : ℕ) (at_k : (place_at f.child.sighted.spot).key ≡ k) where
  abbrev met_child : HasHead v b d others other
  met_child = f.child

  pub may_arrive : (id m : ℕ) → other ≡ 4 * m → MayCheck v k IsMap id LearnsHead other
  may_arrive id m even = may_meet v b others other d.name met_child.sighted met_child.opened v refl k at_k id m even

  module _ (w : Seen) (m : ℕ) (told : Checks LearnsHead (reads k) v m none_joined w) where
    pub arrive_missed : m ≢ other → Keeps v w × (w.client ≡ v.client)
    arrive_missed ne = meet_missed v b others other d.name met_child.sighted met_child.opened v refl k at_k w m told ne

    module _ (hit : m ≡ other) where
      pub arrive_keeps : Keeps v w × (w.client.seen ≡ v.client.seen)
      arrive_keeps = let h = meet_head v b others other d.name met_child.sighted met_child.opened v refl k at_k w m told hit in (h.0, h.1)

      saw_child : last_saw v.reads ≡ met_child.opened.saw
      saw_child = ap last_saw met_child.opened.reads

      pub arrive_open : (b' : Book) → b' ≡ b → IsOpen w b' others other d.name d.key d.height
      arrive_open b' book =
          let x = (meet_head v b others other d.name met_child.sighted met_child.opened v refl k at_k w m told hit).2 in
          let its : Spot = x.sighted.spot in
          let by = met_child.head its its.shape (subst (IsOf its its.shape) saw_child x.is) in record {
            names = record { spot = its; met = x.sighted.met; placed = x.sighted.placed; named = x.sighted.named; high = by.0; covers = by.1 };
            opened = record { are = subst (λ (z : Book). AreOf (place_at its) z others) (sym book) x.are; saw = last_saw v.reads; before = x.before; reads = x.reads };
            free = met_child.even;
            sure = λ shape is.
                let on = met_child.head its shape (subst (IsOf its shape) saw_child is) in
                same_shape its shape d.key (is.now) (on.0 ∙ sym by.0) on.1 by.1;
          }

      pub arrive_lower : (b' : Book) → b' ≡ b → IsLower rising w b' words t s e d others other
      arrive_lower b' book =
          let h = (open_checked v b others other met_child.sighted.spot met_child.sighted.placed met_child.opened v refl k at_k LearnsHead w m told).hit hit in
          let is = open_read v b others other met_child.sighted.spot met_child.sighted.placed met_child.opened v refl in
          lower_kept rising v w b b' words t s e d others other book arrive_keeps.0 (ap (λ (z : Seen). z.reads) h.2 ∙ sym (ap (λ (z : Seen). z.reads) is)) f

-- WHERE TO GO ON
pub apart_after : (low first key k : ℕ) → first ≤ key → key ≤ k → up low key ≢ up low first → up low k ≢ up low first
apart_after low first key k a b ne same = let x = up-rises low first key a in let y = up-rises low key k b in ne (omega (arith, x, y, same))

pub apart_up_to : (low first key k : ℕ) → key ≤ first → k ≤ key → up low key ≢ up low first → up low k ≢ up low first
apart_up_to low first key k a b ne same = let x = up-rises low key first a in let y = up-rises low k key b in ne (omega (arith, x, y, same))

pub apart_before : (low first k : ℕ) → k < first → up low (first - 1) ≢ up low first → up low k ≢ up low first
apart_before low first k l ne same = let x = up-rises low k (first - 1) (omega (arith, l)) in let y = up-rises low (first - 1) first (omega (arith, l)) in ne (omega (arith, x, y, same))

pub apart_behind : (low last k : ℕ) → last < k → up low (last + 1) ≢ up low last → up low k ≢ up low last
apart_behind low last k l ne same = let x = up-rises low (last + 1) k (omega (arith, l)) in let y = up-rises low last (last + 1) (omega arith) in ne (omega (arith, x, y, same))

-- nobody wrote since
pub none_to : (id : ℕ) (v w w' : Seen) (Is : ℕ → Type 0) → w'.client.seen ≡ w.client.seen → HasNone id v w Is → HasNone id v w' Is
none_to id v w w' Is same n = record {
  fits = subst (λ (h : List (Entry ℕ)). SeesMore h id v.client.seen) (sym same) n.fits;
  pairs = n.pairs;
  legal = subst (λ (h : List (Entry ℕ)). IsHistory nat_eq h n.pairs) (sym same) n.legal;
  none = n.none;
}

-- by another key
pub names_as : (v : Seen) (name key k height : ℕ) → up height k ≡ up height key → Names v name key height → Names v name k height
names_as v name key k height same n = record {
  spot = n.spot;
  met = n.met;
  placed = n.placed;
  named = n.named;
  high = n.high;
  covers = ap (λ (z : ℕ). up z k) n.high ∙ (same ∙ (sym (ap (λ (z : ℕ). up z key) n.high) ∙ n.covers));
}

pub seams : (rising : Bool) → (a b c : ℕ) → BeginsLeaf rising a b → BeginsLeaf rising b c → BeginsLeaf rising a c
seams true a b c first then = elim then [ inl whole ↦ inl whole | inr same ↦ elim first [ inl whole ↦ inl (omega (arith, whole, same)) | inr again ↦ inr (again ∙ same) ] ]
seams false a b c first then = elim then [ inl whole ↦ inl whole | inr same ↦ elim first [ inl whole ↦ inl (omega (arith, whole, same)) | inr again ↦ inr (same ∙ again) ] ]

-- the keys from one on and before another, where none is
none_to_key : (rising : Bool) → (id : ℕ) (v w : Seen) (Is : ℕ → Type 0) (key to : ℕ) → HasNone id v w Is → ((k : ℕ) → IsFrom rising key k → IsBefore rising k to → Is k) → ReadsTo rising id v w key to
none_to_key true id v w Is key to n all = none_read true id v w Is key to n all
none_to_key false id v w Is key to n all = none_read false id v w Is (to + 1) (key + 1) n (λ k l h. all k (omega (arith, h)) (omega (arith, l)))

-- and up to another
pub none_up_to : (rising : Bool) → (id : ℕ) (v w : Seen) (Is : ℕ → Type 0) (key to : ℕ) → HasNone id v w Is → ((k : ℕ) → IsFrom rising key k → IsFrom rising k to → Is k) → Reads rising id v w (low_of rising key to) (high_of rising key to) []
none_up_to true id v w Is key to n all = none_read true id v w Is key (to + 1) n (λ k l h. all k l (omega (arith, h)))
none_up_to false id v w Is key to n all = none_read false id v w Is to (key + 1) n (λ k l h. all k (omega (arith, h)) l)

-- ON FROM NODE TO NODE
-- after keys that aren't there
pub passed_on : (rising : Bool) → (c id : ℕ) (u v w : Seen) (key from last : ℕ) → c ≡ id → SeesMore v.client.seen id u.client.seen → HasPassedTo rising u v key from → IsFrom rising key from → BeginsLeaf rising key from → IsPassed rising c v w from last → IsPassed rising id u w key last
passed_on rising c id u v w key from last is seen read low seam p = record {
  order = from_then rising key from last low p.order;
  seam = p.seam;
  reads = reads_on rising c id u v w key from last [] is seen read low p.order seam p.reads;
}

pub step_on : (rising : Bool) → (c id : ℕ) (u v w : Seen) (key from limit start count last : ℕ) (buffer : List (ℕ × ℕ)) → c ≡ id → SeesMore v.client.seen id u.client.seen → HasPassedTo rising u v key from → IsFrom rising key from → BeginsLeaf rising key from → IsStep rising c v w from limit start buffer count last → IsStep rising id u w key limit start buffer count last
step_on rising c id u v w key from limit start count last buffer is seen read low seam s = record {
  order = from_then rising key from last low s.order;
  within = s.within;
  from = s.from;
  few = s.few;
  small = s.small;
  seam = s.seam;
  reads = reads_on rising c id u v w key from last (ascending rising (drop start (take count buffer))) is seen read low s.order seam s.reads;
}

-- behind a leaf
pub rest_step : (rising : Bool) → (c id : ℕ) (u v w : Seen) (key limit start count last to : ℕ) (buffer : List (ℕ × ℕ)) → IsStep rising id u v key limit start buffer count last → EndsLeaf rising last → c ≡ id → SeesMore v.client.seen id u.client.seen → ReadsBehind rising c v w last to → IsFrom rising last to → IsFrom rising to limit → (EndsLeaf rising to ⊎ (to ≡ limit)) → IsStep rising id u w key limit start buffer count to
rest_step rising c id u v w key limit start count last to buffer s whole is seen rest on within ends = record {
  order = from_then rising key last to s.order on;
  within = within;
  from = s.from;
  few = s.few;
  small = s.small;
  seam = λ left ne. elim ends [ inl e ↦ e | inr same ↦ absurd (ne same) ];
  reads = rest_reads rising c id u v w key last to (ascending rising (drop start (take count buffer))) is seen s.reads rest s.order on whole;
}

-- where no key is outside a leaf
pub none_behind : (rising : Bool) → (id : ℕ) (v w : Seen) (s d : Position) (byte last to upto : ℕ) → HasNone id v w (IsOutside rising s byte d) → 2 ≤ s.height → byte < 256 → up (s.height - 1) to ≡ 256 * up s.height s.key + byte → d.height ≡ 1 → IsFrom rising s.key d.key → IsFrom rising d.key last → EndsLeaf rising last → IsFrom rising upto to → ReadsBehind rising id v w last upto
none_behind true id v w s d byte last to upto n high low_byte is leaf before on whole near = none_read true id v w (IsOutside true s byte d) (last + 1) (upto + 1) n
    (λ k from end. (
      is_within true s.height s.key to byte k (omega (arith, high)) low_byte is (omega (arith, before, on, from)) (omega (arith, end, near)),
      λ same. let e : up 1 k ≡ up 1 d.key = subst (λ (z : ℕ). up z k ≡ up z d.key) leaf same in omega (arith, e, on, from, whole),
    ))
none_behind false id v w s d byte last to upto n high low_byte is leaf before on whole near = none_read false id v w (IsOutside false s byte d) upto last n
    (λ k from end. (
      is_within false s.height s.key to byte k (omega (arith, high)) low_byte is (omega (arith, before, on, end)) (omega (arith, from, near)),
      λ same. let e : up 1 k ≡ up 1 d.key = subst (λ (z : ℕ). up z k ≡ up z d.key) leaf same in omega (arith, e, on, end, whole),
    ))

-- from an earlier view on
pub visits_since : (rising : Bool) → (c id : ℕ) (u v w : Seen) (b : Book) (s : Position) (limit start : ℕ) (buffer : List (ℕ × ℕ)) (o : Option Visit) → c ≡ id → SeesMore v.client.seen id u.client.seen → Visits rising c v w b s limit start buffer o → Visits rising id u w b s limit start buffer o
visits_since rising c id u v w b s limit start buffer None is seen t = tt
visits_since rising c id u v w b s limit start buffer (Some (visits.Past last)) is seen t = passed_since rising c id u v w s.key last is seen t
visits_since rising c id u v w b s limit start buffer (Some (visits.Goes l)) is seen t = (t.0, t.1, t.2, t.3, t.4, t.5, reads_to_since rising c id u v w s.key l.node.key is seen t.6)
visits_since rising c id u v w b s limit start buffer (Some (visits.Read step leaf)) is seen t = (step_since rising c id u v w s.key limit start step.count step.last buffer is seen t.0, t.1)

-- there is a key before one that is behind a limit
pub before_some : (rising : Bool) → (limit key : ℕ) → limit < 2 ^ 64 → IsBefore rising limit key → cond rising (1 ≤ key) (key + 1 < 2 ^ 64)
before_some true limit key fits behind = omega (arith, behind)
before_some false limit key fits behind = omega (arith, behind, fits)

-- none is up to a limit, where the child is behind it
pub passed_before : (rising : Bool) → (id : ℕ) (u w : Seen) (s : Position) (byte : ℕ) (d n : Position) (limit last : ℕ) → HasNone id u w (IsOutside rising s byte d) → Chooses rising s byte d (Some (turns.Goes n)) → IsFrom rising s.key limit → IsBefore rising limit n.key → IsNextKey rising last n.key → IsPassed rising id u w s.key last
passed_before true id u w s byte d n limit last none h low behind is = record {
  order = omega (arith, low, behind, is);
  seam = elim h.5 [ inl whole ↦ omega (arith, whole, is) | inr same ↦ absurd (omega (arith, same, low, behind)) ];
  reads = none_up_to true id u w (IsOutside true s byte d) s.key last none (λ k from to. h.7 k from (omega (arith, to, is)));
}
passed_before false id u w s byte d n limit last none h low behind is = record {
  order = omega (arith, low, behind, is);
  seam = elim h.5 [ inl whole ↦ omega (arith, whole, is) | inr same ↦ absurd (omega (arith, same, low, behind)) ];
  reads = none_up_to false id u w (IsOutside false s byte d) s.key last none (λ k from to. h.7 k from (omega (arith, to, is)));
}

-- a node is entered after the keys before it
pub visits_of : (rising : Bool) → (c id : ℕ) (u v w : Seen) (b : Book) (s : Position) (byte : ℕ) (d n : Position) (limit start : ℕ) (buffer : List (ℕ × ℕ)) (o : Option Visit) → c ≡ id → HasNone id u v (IsOutside rising s byte d) → Chooses rising s byte d (Some (turns.Goes n)) → IsFrom rising n.key limit → Enters rising c v w b n limit start buffer o → Visits rising id u w b s limit start buffer o
visits_of rising c id u v w b s byte d n limit start buffer None is none h within e = tt
visits_of rising c id u v w b s byte d n limit start buffer (Some (visits.Past last)) is none h within e = absurd e
visits_of rising c id u v w b s byte d n limit start buffer (Some (visits.Goes l)) is none h within e =
    let lower = h.3 in
    let high = h.1 in
    let reads = none_to_key rising id u w (IsOutside rising s byte d) s.key n.key (none_to id u v w (IsOutside rising s byte d) e.3 none) h.7 in
    let p = e.0 in
    let key = ap (λ (z : Position). z.key) p in
    let height = ap (λ (z : Position). z.height) p in
    let name = ap (λ (z : Position). z.name) p in (
      subst (λ (z : ℕ). 2 ≤ z) (sym height) e.1,
      omega (arith, lower, high, height),
      subst (IsFrom rising s.key) (sym key) h.4,
      subst (λ (z : ℕ). IsFrom rising z limit) (sym key) within,
      subst (BeginsLeaf rising s.key) (sym key) h.5,
      subst (λ (z : Position). IsOpen w b l.here.words.now l.here.taken z.name z.key z.height) (sym p) e.2,
      subst (ReadsTo rising id u w s.key) (sym key) reads,
    )
visits_of rising c id u v w b s byte d n limit start buffer (Some (visits.Read step leaf)) is none h within e =
    let reads = none_to_key rising id u v (IsOutside rising s byte d) s.key n.key none h.7 in
    (step_on rising c id u v w s.key n.key limit start step.count step.last buffer is (to_fits rising id u v s.key n.key reads) (passed_to rising id u v s.key n.key reads) h.4 h.5 e.0, e.1)

-- a visit on the path of a reader
pub visited_past : (rising : Bool) → (c id : ℕ) (u v w : Seen) (b : Book) (key : ℕ) (s : Position) (limit start : ℕ) (buffer : List (ℕ × ℕ)) (last : ℕ) (o : Option Visit) → c ≡ id → SeesMore v.client.seen id u.client.seen → HasPassedTo rising u v key s.key → IsFrom rising key s.key → BeginsLeaf rising key s.key → Visits rising c v w b s limit start buffer o → o ≡ Some (visits.Past last) → IsPassed rising id u w key last
visited_past rising c id u v w b key s limit start buffer last o is seen read low seam t e = passed_on rising c id u v w key s.key last is seen read low seam (subst (Visits rising c v w b s limit start buffer) e t)

pub visited_read : (rising : Bool) → (c id : ℕ) (u v w : Seen) (b : Book) (key : ℕ) (s : Position) (limit start : ℕ) (buffer : List (ℕ × ℕ)) (step : Step) (leaf : Position) (o : Option Visit) → c ≡ id → SeesMore v.client.seen id u.client.seen → HasPassedTo rising u v key s.key → IsFrom rising key s.key → BeginsLeaf rising key s.key → Visits rising c v w b s limit start buffer o → o ≡ Some (visits.Read step leaf) → IsStep rising id u w key limit start buffer step.count step.last × IsLeafAt w leaf
visited_read rising c id u v w b key s limit start buffer step leaf o is seen read low seam t e =
    let r = subst (Visits rising c v w b s limit start buffer) e t in
    (step_on rising c id u v w key s.key limit start step.count step.last buffer is seen read low seam r.0, r.1)

pub record HasGone (rising : Bool) (u w : Seen) (b : Book) (key height limit : ℕ) (l : Lower) : Type 0 where
  pub some : 2 ≤ l.node.height
  pub lower : l.node.height < height
  pub low : IsFrom rising key l.node.key
  pub within : IsFrom rising l.node.key limit
  pub seam : BeginsLeaf rising key l.node.key
  pub opened : IsOpen w b l.here.words.now l.here.taken l.node.name l.node.key l.node.height
  pub passed : HasPassedTo rising u w key l.node.key

pub visited_to : (rising : Bool) → (c id : ℕ) (u v w : Seen) (b : Book) (key : ℕ) (s : Position) (l : Lower) (limit start : ℕ) (buffer : List (ℕ × ℕ)) (o : Option Visit) → c ≡ id → SeesMore v.client.seen id u.client.seen → HasPassedTo rising u v key s.key → IsFrom rising key s.key → BeginsLeaf rising key s.key → Visits rising c v w b s limit start buffer o → o ≡ Some (visits.Goes l) → HasGone rising u w b key s.height limit l
visited_to rising c id u v w b key s l limit start buffer o is seen read low seam t e =
    let g = subst (Visits rising c v w b s limit start buffer) e t in record {
      some = g.0;
      lower = g.1;
      low = from_then rising key s.key l.node.key low g.2;
      within = g.3;
      seam = seams rising key s.key l.node.key seam g.4;
      opened = g.5;
      passed = reads_to_on rising c id u v w key s.key l.node.key is seen read low g.2 seam g.6;
    }

pub position_on : (v w : Seen) (s : Position) → Keeps v w → IsPosition v s → IsPosition w s
position_on v w s keeps i = (i.0, i.1, names_kept v w s.name s.key s.height keeps i.2)

-- the leaf that was come to last, by a part of it
pub leaf_at : (up : Bool) (w : Seen) (l : LastLeaf) (key base first last : ℕ) → KnowsPosition w l.key l.position × (l.position.height ≡ 1) → l.key / 256 ≡ key / 256 → base % 256 ≡ 0 → base + cond up first last ≡ key → first ≤ last → last ≤ 255 → Names w l.position.name (base + first) 1
leaf_at true w l key base first last k same whole is order high = names_as w l.position.name l.key (base + first) 1 (omega (arith, same, is)) (subst (λ h. Names w l.position.name l.key h) k.1 k.0.named)
leaf_at false w l key base first last k same whole is order high = names_as w l.position.name l.key (base + first) 1 (omega (arith, same, whole, is, order, high)) (subst (λ h. Names w l.position.name l.key h) k.1 k.0.named)

-- and the node above it
pub position_above : (w : Seen) (l : LastLeaf) → KnowsPosition w l.key l.position × (l.position.height ≡ 1) → IsPosition w (record { name = l.position.above; height = l.position.level; key = l.key })
position_above w l k =
    let low : l.position.height < 8 = omega (arith, k.1) in
    let lower = k.0.lower low in
    let one = k.1 in
    (omega (arith, lower, one), k.0.level, k.0.upper low)

-- the leaf of a key, by a part of it
pub leaf_named : (w : Seen) (key name base first last : ℕ) → Names w name key 1 → base % 256 ≡ 0 → base + last ≡ key → first ≤ last → last ≤ 255 → Names w name (base + first) 1
leaf_named w key name base first last n whole is order high = names_as w name key (base + first) 1 (omega (arith, whole, is, order, high)) n
