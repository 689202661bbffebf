-- What a seat knows after a node was read in a look-up.
use Rattle.std.proofs.Common.{◌≡◌, ◌≢◌, ◌↔◌, ℕ, ◌*◌, ◌≤◌, zero, suc, Bool, true, false, IsTrue, List, ◌∷◌, ◌++◌, length, Option, Some, None, refl, sym, ap, ◌∙◌, subst, arith}
use mathlib.Core.Logic.{dite}
use native.Mathlib.Decide.{ℕ_discrete}
use Rattle.spec_node.specs.TableNode.{TableNode, Child}
use Rattle.spec_node.specs.declared.child.Child.TheVariants.{Payload, Node as Below}
use Rattle.spec_map.specs.Map.{lookup}
use Rattle.share_rule.specs.History.{Entry}
use Rattle.word_book.specs.Book.{Book, Name, reads, none_joined}
use Rattle.live_nodes.specs.Calls.{MayCheck}
use Rattle.live_nodes.specs.Nodes.{Content}
use Rattle.live_nodes.specs.Plays as Plays
use Rattle.live_nodes.specs.Plays.{Checks}
use Rattle.live_nodes.specs.Seats.{Place, Read, read, SeatView, seat_view, IsIn, Agree}
use Rattle.live_nodes.specs.Rows.{last_saw, without_reads}
use Rattle.live_layout.specs.Encodes.{IsBelow, Encodes}
use Rattle.live_nodes.specs.Levels.{up, digit, Shape, Spot, spot, Covers, place_at}
use Rattle.live_nodes.specs.Views.{View}
use Rattle.live_nodes.specs.Tree.{IsMap, IsOfKind, Answers}
use Rattle.live_reads.specs.Mismatches.{IsMismatched}
use Rattle.live_reads.specs.Paths.{IsOpen, Keeps, Sights}
use Rattle.live_reads.proofs.Finds.{names_kept}
use Rattle.live_reads.proofs.Views.{learned_keeps, may_check_open, open_checked, open_missed}
use Rattle.live_reads.specs.declared.descend.End.{End}
use Rattle.live_updates.specs.inner.Updates.{HasExpected}
use Rattle.live_updates.specs.declared.lookup.Site.{Site}
use Rattle.live_updates.specs.declared.lookup.Site.TheVariants as sites
use Rattle.live_updates.specs.inner.Lookups.{Lookup, IsLookup, IsOpenLeaf, IsLeafWith, asked_by, MayEnd, MaySight, Seeks, LearnsSeek, EndsBy, Found, Lacks, Sought}
use Rattle.live_updates.proofs.Sought.{node_seeks}

abbrev Seen : Type 0
Seen = SeatView View

-- What ends changes the history alone.
ended_keeps : (c : ℕ) (o : Option (Entry ℕ)) (v w : View) → MayEnd c o v w → (w.met ≡ v.met) × (w.own ≡ v.own)
ended_keeps c None v w e = (ap (λ (z : View). z.met) e, ap (λ (z : View). z.own) e)
ended_keeps c (Some x) v w e = (ap (λ (z : View). z.met) e.is, ap (λ (z : View). z.own) e.is)

ended_by : (c : ℕ) (o : Option (Entry ℕ)) (v w : Seen) → MayEnd c o v.client w.client → EndsBy c o v w
ended_by c None v w e = ap (λ (z : View). z.seen) e
ended_by c (Some x) v w e = e.answers

pub ends_later : (c : ℕ) (o : Option (Entry ℕ)) (u v w : Seen) → v.client.seen ≡ u.client.seen → EndsBy c o v w → EndsBy c o u w
ends_later c None u v w e n = n ∙ e
ends_later c (Some x) u v w e n = subst (λ (z : List (Entry ℕ)). Answers c x z w.client.seen) e n

pub lacks_later : (q : Lookup) (b : Bool) (u v w : Seen) → v.client.seen ≡ u.client.seen → Lacks q b v w → Lacks q b u w
lacks_later q true u v w e l = ends_later q.caller (q.entry None) u v w e l
lacks_later q false u v w e l = l ∙ e

off_on : false ≡ true → ⊥
off_on e = cc

lacks_by : (q : Lookup) (b : Bool) (v w : Seen) → (IsTrue b → EndsBy q.caller (q.entry None) v w) → ((IsTrue b → ⊥) → w.client.seen ≡ v.client.seen) → Lacks q b v w
lacks_by q true v w ends same = ends refl
lacks_by q false v w ends same = same off_on

-- A check hit, and the call ended, or it missed.
pub lacks_checked : (q : Lookup) (b : Bool) (v w : Seen) (m t : ℕ) → (IsTrue b ↔ (m ≡ t)) → (m ≡ t → Keeps v w × EndsBy q.caller (q.entry None) v w) → (m ≢ t → Keeps v w × (w.client.seen ≡ v.client.seen)) → Keeps v w × Lacks q b v w
lacks_checked q b v w m t hits ends missed = (
  dite (ℕ_discrete m t) (λ hit. (ends hit).0) (λ ne. (missed ne).0),
  lacks_by q b v w (λ yes. (ends (hits.0 yes)).1) (λ no. (missed (λ hit. no (hits.1 hit))).1),
)

pub lacks_so : (q : Lookup) (b : Bool) (v w : Seen) → b ≡ true → Lacks q b v w → EndsBy q.caller (q.entry None) v w
lacks_so q b v w e l = subst (λ (z : Bool). Lacks q z v w) e l

pub lacks_not : (q : Lookup) (b : Bool) (v w : Seen) → b ≡ false → Lacks q b v w → w.client.seen ≡ v.client.seen
lacks_not q b v w e l = subst (λ (z : Bool). Lacks q z v w) e l

pub sought_later : (q : Lookup) (b : Book) (o : Option Site) (u v w : Seen) → v.client.seen ≡ u.client.seen → Sought q b o v w → Sought q b o u w
sought_later q b None u v w e s = s ∙ e
sought_later q b (Some sites.Absent) u v w e s = ends_later q.caller (q.entry None) u v w e s
sought_later q b (Some (sites.At leaf x)) u v w e s = (ends_later q.caller (q.entry (Some x)) u v w e s.0, s.1)

pub sought_none : (q : Lookup) (b : Book) (o : Option Site) (v w : Seen) → o ≡ None → w.client.seen ≡ v.client.seen → Sought q b o v w
sought_none q b o v w e same = subst (λ (z : Option Site). Sought q b z v w) (sym e) same

pub found_some : (q : Lookup) (o : Option (Option ℕ)) (x : Option ℕ) (v w : Seen) → Found q o v w → o ≡ Some x → EndsBy q.caller (q.entry x) v w
found_some q o x v w f e = subst (λ (z : Option (Option ℕ)). Found q z v w) e f

pub found_none : (q : Lookup) (o : Option (Option ℕ)) (v w : Seen) → Found q o v w → o ≡ None → w.client.seen ≡ v.client.seen
found_none q o v w f e = subst (λ (z : Option (Option ℕ)). Found q z v w) e f

pub may_sight : (v : Seen) (o : Option ℕ) (b : ℕ) → o ≡ Some b → MaySight v o → Sights v b
may_sight v o b e s = subst (λ (z : Option ℕ). MaySight v z) e s

-- A value ends a call in a leaf alone.
abbrev pub IsEnd : ℕ → Option ℕ → Type 0
IsEnd height None = Unit {0}
IsEnd height (Some x) = height ≡ 1

module _ (q : Lookup) (v w : Seen) (ps : List Place) (rs : List Read) (c : View) (is : w ≡ seat_view c (ps ++ v.places) rs v.holds v.room) where
  ended : (found : Option ℕ) → MayEnd q.caller (q.entry found) v.client c → Keeps v w × EndsBy q.caller (q.entry found) v w
  ended found f = let k = ended_keeps q.caller (q.entry found) v.client c f in (
    learned_keeps v w ps c rs is (λ z in_it. subst (λ (l : List Spot). IsIn z l) (sym k.0) in_it) k.1,
    ended_by q.caller (q.entry found) v w (subst (λ (z : Seen). MayEnd q.caller (q.entry found) v.client z.client) (sym is) f),
  )

  at_end : (word height : ℕ) (a : Spot) (o : Option (Child ℕ)) (found : Option ℕ) → IsEnd height found → IsOfKind height o → IsBelow o found → Seeks q word (asked_by q) v.client a o ps c → Keeps v w × EndsBy q.caller (q.entry found) v w
  at_end word height a None None end kind below then = ended None then
  at_end word height a None (Some y) end kind below then = absurd below
  at_end word height a (Some z) None end kind below then = absurd below
  at_end word height a (Some (Payload z)) (Some y) end kind below then = subst (λ (t : ℕ). Keeps v w × EndsBy q.caller (q.entry (Some t)) v w) (sym below) (ended (Some z) then)
  at_end word height a (Some (Below s)) (Some y) end kind below then = absurd (subst (λ (h : ℕ). IsOfKind h (Some (Below s))) end kind)

-- AN OPEN NODE was read in a look-up of a key. Its version word is the one that is checked.
pub record HasRead (v v₂ : Seen) (b : Book) (words : List Name) (t name key height k : ℕ) (q : Lookup) : Type 0 where
  pub node : IsOpen v b words t name key height
  pub rest : without_reads v₂ ≡ without_reads v
  pub at_k : (place_at node.names.spot).key ≡ k
  pub asked : q.key ≡ key

module _ {v v₂ : Seen} {b : Book} {words : List Name} {t name key height k : ℕ} {q : Lookup} (r : HasRead v v₂ b words t name key height k q) where
  abbrev its : Spot
  its = r.node.names.spot

  abbrev saw_it : List (ℕ × ℕ)
  saw_it = last_saw v₂.reads

  pub may_seek : (law : IsLookup q) (id m : ℕ) → q.caller ≡ id → t ≡ 4 * m → MayCheck v₂ k IsMap id (LearnsSeek q) t
  may_seek law id m by even = may_check_open v b words t its r.node.names.placed r.node.opened v₂ r.rest k r.at_k (LearnsSeek q) id (node_seeks q law id by v.client its r.node.names.met t saw_it m even (read its.number t saw_it ∷ r.node.opened.before))

  module _ (w : Seen) (m : ℕ) (told : Checks (LearnsSeek q) (reads k) v₂ m none_joined w) where
    pub seek_missed : m ≢ t → Keeps v w × (w.client.seen ≡ v.client.seen)
    seek_missed ne = let missed = open_missed v b words t its r.node.names.placed r.node.opened v₂ r.rest k r.at_k (LearnsSeek q) w m told ne in (missed.0, ap (λ (z : View). z.seen) missed.1)

    -- what was read before is so still
    pub seek_ends : m ≡ t → ((c : Content) → Agree c saw_it → Agree c r.node.opened.saw) → (found : Option ℕ) → IsEnd height found
        → ((c : Content) (n : TableNode ℕ) → Agree c saw_it → Encodes c n → n.form ≡ its.shape.form → IsBelow (lookup n.children (digit height key)) found)
        → Keeps v w × EndsBy q.caller (q.entry found) v w
    seek_ends hit kept found end finds =
        let h = (open_checked v b words t its r.node.names.placed r.node.opened v₂ r.rest k r.at_k (LearnsSeek q) w m told).hit hit in
        let x = h.3 its r.node.names.met refl in
        let shape_is : x.shape ≡ its.shape = r.node.sure x.shape record {
          now = x.is.now;
          content = x.is.content;
          its = x.is.its;
          agrees = kept x.is.content x.is.agrees;
          encodes = x.is.encodes;
          in_form = x.is.in_form;
          deep = x.is.deep;
          prefixed = x.is.prefixed;
        } in
        let under : Option (Child ℕ) = lookup x.is.its.children (digit its.shape.height q.key) in
        let covers : Covers its.shape q.key = ap (up its.shape.height) r.asked ∙ r.node.names.covers in
        let below : IsBelow under found = subst (λ (z : ℕ × ℕ). IsBelow (lookup x.is.its.children (digit z.0 z.1)) found) (λ i. (sym r.node.names.high i, sym r.asked i)) (finds x.is.content x.is.its x.is.agrees x.is.encodes x.is.in_form) in
        let kind : IsOfKind its.shape.height under = subst (λ (z : Shape). IsOfKind z.height (lookup x.is.its.children (digit z.height q.key))) shape_is x.of_kind in
        let then : Seeks q t (asked_by q) v.client its under h.0 h.1 = subst (λ (z : Shape). Covers z q.key → Seeks q t (asked_by q) v.client (spot its.number z) (lookup x.is.its.children (digit z.height q.key)) h.0 h.1) shape_is x.on_path covers in
        at_end q v w h.0 (read its.number t saw_it ∷ r.node.opened.before) h.1 h.2 t height its under found end (subst (λ (z : ℕ). IsOfKind z under) r.node.names.high kind) below then

    -- and the node stays open
    abbrev pub seek_open : m ≡ t → ((c : Content) → Agree c saw_it → Agree c r.node.opened.saw) → Keeps v w → IsOpen w b words t name key height
    seek_open hit kept keeps =
        let h = (open_checked v b words t its r.node.names.placed r.node.opened v₂ r.rest k r.at_k (LearnsSeek q) w m told).hit hit in record {
          names = names_kept v w name key height keeps r.node.names;
          opened = record { are = r.node.opened.are; saw = saw_it; before = r.node.opened.before; reads = ap (λ (z : Seen). z.reads) h.2 };
          free = r.node.free;
          sure = λ s is. r.node.sure s record {
            now = is.now;
            content = is.content;
            its = is.its;
            agrees = kept is.content is.agrees;
            encodes = is.encodes;
            in_form = is.in_form;
            deep = is.deep;
            prefixed = is.prefixed;
          };
        }

-- an open leaf, and what it has
abbrev pub leaf_open : (v : Seen) (b : Book) (key : ℕ) (e : End) (o : Option ℕ) → IsLeafWith v b key e o → IsOpenLeaf v b key e
leaf_open v b key e None l = l
leaf_open v b key e (Some x) l = (l.0, l.1.node)

pub leaf_has : (v : Seen) (b : Book) (key : ℕ) (e : End) (o : Option ℕ) (l : IsLeafWith v b key e o) (c : Content) (n : TableNode ℕ) → Agree c (leaf_open v b key e o l).1.opened.saw → Encodes c n → n.form ≡ (leaf_open v b key e o l).1.names.spot.shape.form
    → length n.prefix ≡ 7 → HasExpected (lookup n.children (digit 1 key)) o
leaf_has v b key e None l c n agrees encodes formed deep = tt
leaf_has v b key e (Some x) l c n agrees encodes formed deep = l.1.finds c n agrees encodes formed deep

-- AN OPEN NODE was read that leads on to one whose path the key leaves.
pub record LeadsAside (v : Seen) (b : Book) (words : List Name) (t name key height k : ℕ) (q : Lookup) : Type 0 where
  pub node : IsMismatched v b words t name key height
  pub high : 2 ≤ height
  pub at_k : (place_at node.names.spot).key ≡ k
  pub asked : q.key ≡ key

module _ {v : Seen} {b : Book} {words : List Name} {t name key height k : ℕ} {q : Lookup} (r : LeadsAside v b words t name key height k q) where
  abbrev f : IsMismatched v b words t name key height
  f = r.node

  abbrev x : Spot
  x = f.names.spot

  pub may_part : (law : IsLookup q) (id m : ℕ) → q.caller ≡ id → t ≡ 4 * m → MayCheck v k IsMap id (LearnsSeek q) t
  may_part law id m by even = (place_at x, read x.number t f.saw, (f.names.placed, r.at_k), f.reads, refl, node_seeks q law id by v.client x f.names.met t f.saw m even v.reads)

  module _ (w : Seen) (m : ℕ) (told : Checks (LearnsSeek q) (reads k) v m none_joined w) where
    part_checked : Plays.Checked (LearnsSeek q v.client x.number t f.saw) t v m w
    part_checked = told (place_at x) (read x.number t f.saw) f.names.placed r.at_k f.reads

    pub part_lost : m ≢ t → Keeps v w × (w.client.seen ≡ v.client.seen)
    part_lost ne = subst (λ (z : Seen). Keeps v z × (z.client.seen ≡ v.client.seen)) (sym (part_checked.miss ne))
        (record { places = λ p h. h; met = λ s h. h; own = refl; holds = refl; room = refl }, refl)

    aside : (lv : ℕ) (o : Option (Child ℕ)) (ps : List Place) (c : View) → 2 ≤ lv → IsOfKind lv o → IsBelow o (Some f.word) → Seeks q t (asked_by q) v.client x o ps c → MayEnd q.caller (q.entry None) v.client c
    aside lv None ps c tall kind below then = absurd below
    aside zero (Some z) ps c tall kind below then = absurd kind
    aside (suc zero) (Some z) ps c tall kind below then = absurd (omega (arith, tall))
    aside (suc (suc lv)) (Some (Payload z)) ps c tall kind below then = absurd kind
    aside (suc (suc lv)) (Some (Below s)) ps c tall kind below then = then f.watch record {
      known = f.known;
      above = f.above;
      free_by = f.free_by;
      named = f.spells s below;
      leaves = λ covers. f.leaves (ap (up f.watch.spot.shape.height) (sym r.asked) ∙ covers);
    }

    pub part_ends : m ≡ t → Keeps v w × EndsBy q.caller (q.entry None) v w
    part_ends hit =
        let h = part_checked.hit hit in
        let y = h.3 x f.names.met refl in
        let shape_is : y.shape ≡ x.shape = f.sure y.shape y.is in
        let under : Option (Child ℕ) = lookup y.is.its.children (digit x.shape.height q.key) in
        let covers : Covers x.shape q.key = ap (up x.shape.height) r.asked ∙ f.names.covers in
        let kind : IsOfKind x.shape.height under = subst (λ (z : Shape). IsOfKind z.height (lookup y.is.its.children (digit z.height q.key))) shape_is y.of_kind in
        let then : Seeks q t (asked_by q) v.client x under h.0 h.1 = subst (λ (z : Shape). Covers z q.key → Seeks q t (asked_by q) v.client (spot x.number z) (lookup y.is.its.children (digit z.height q.key)) h.0 h.1) shape_is y.on_path covers in
        let below : IsBelow under (Some f.word) = subst (λ (z : ℕ × ℕ). IsBelow (lookup y.is.its.children (digit z.0 z.1)) (Some f.word)) (λ i. (sym f.names.high i, sym r.asked i)) (f.finds y.is.content y.is.its y.is.agrees y.is.encodes y.is.in_form) in
        ended q v w h.0 v.reads h.1 h.2 None (aside x.shape.height under h.0 h.1 (subst (λ (z : ℕ). 2 ≤ z) (sym f.names.high) r.high) kind below then)
