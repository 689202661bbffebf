-- A seat takes another's room over, and the rule is kept: each of its words is the second seat's from then on.
use Rattle.std.proofs.Common.{◌≡◌, ◌≢◌, ℕ, Bool, cond, nat_eq, List, map, set, sym, refl, ap, ◌∙◌, subst, eq-eqb, ne_eqb}
use mathlib.Core.Option.{some-ne-none}
use lib.Seq.{map-set}
use Rattle.atomic_table.proofs.Lists.{set_again}
use Rattle.word_book.specs.Book.{Meets}
use Rattle.live_nodes.specs.Nodes.{Content, Node, Owner, counts, in_node, in_room, IsNode}
use Rattle.live_nodes.specs.Seats.{Room, no_room, SeatView}
use Rattle.live_nodes.specs.Rule.{Knows, RoomFits, client, IsLive}
use Rattle.live_nodes.proofs.Steps.{seats_stay, client_at, agreed_with}
use Rattle.live_pool.specs.Successions.{with_room, Succeeds}

-- what seat i had is seat j's
abbrev passed : ℕ → ℕ → Owner → Owner
passed i j counts = counts
passed i j (in_node k) = in_node k
passed i j (in_room k) = in_room (cond (nat_eq k i) j k)

its : (i j : ℕ) → passed i j (in_room i) ≡ in_room j
its i j = ap (λ (b : Bool). in_room (cond b j i)) (eq-eqb i i refl)

others : (i j k : ℕ) → k ≢ i → passed i j (in_room k) ≡ in_room k
others i j k ne = ap (λ (b : Bool). in_room (cond b j k)) (ne_eqb k i ne)

node_stays : (i j : ℕ) (owner : ℕ → Owner) (k : ℕ) (a : Node) (d : Content) (ws : List ℕ) → IsNode owner k a d ws → IsNode (λ x. passed i j (owner x)) k a d ws
node_stays i j owner k a d ws n = record {
  drafted = n.drafted;
  version = n.version;
  version_is = ap (passed i j) n.version_is;
  cells = n.cells;
  cells_are = λ x l. ap (passed i j) (n.cells_are x l);
  bits = n.bits;
}

room_passes : (i j : ℕ) (owner : ℕ → Owner) (ws : List ℕ) (r : Room) → RoomFits owner ws i r → RoomFits (λ x. passed i j (owner x)) ws j r
room_passes i j owner ws r fits x n e = let t = fits x n e in (t.0, ap (passed i j) t.1 ∙ its i j)

room_stays : (i j : ℕ) (owner : ℕ → Owner) (ws : List ℕ) (k : ℕ) (r : Room) → k ≢ i → RoomFits owner ws k r → RoomFits (λ x. passed i j (owner x)) ws k r
room_stays i j owner ws k r ne fits x n e = let t = fits x n e in (t.0, ap (passed i j) t.1 ∙ others i j k ne)

room_gone : (k : ℕ) (owner : ℕ → Owner) (ws : List ℕ) → RoomFits owner ws k no_room
room_gone k owner ws x n e = absurd (some-ne-none n (sym e))

module _ {V : Type 0} (root : ℕ) (P : List Node → List V → Type 0) where
  abbrev View : Type 0
  View = SeatView V

  pub may_succeed : (i j : ℕ) (v w : View) → Meets (IsLive root P) Succeeds i v j w
  may_succeed i j v w s r first second ne =
      let v' : View = with_room v no_room in
      let w' : View = with_room w v.room in
      let vs : List View = set s.views j w' in
      let owner : ℕ → Owner = λ x. passed i j (r.owner x) in
      let a : Knows r.nodes r.drafts i v' = let k = r.each_seat i v first in record { places = k.places; reads = k.reads; holds = k.holds } in
      let b : Knows r.nodes r.drafts j w' = let k = r.each_seat j w second in record { places = k.places; reads = k.reads; holds = k.holds } in
      let cs : List V = map client s.views in
      let same_second : set cs j w.client ≡ cs = set_again cs j w.client (client_at root P s j w second) in
      let same_first : set cs i v.client ≡ cs = set_again cs i v.client (client_at root P s i v first) in
      let same : map client vs ≡ cs = map-set client s.views j w' ∙ same_second in (
        v',
        w',
        record {
          nodes = r.nodes;
          drafts = r.drafts;
          owner = owner;
          counted = ap (passed i j) r.counted;
          long = r.long;
          rooted = r.rooted;
          each_node = λ k l. node_stays i j r.owner k _ (r.drafts k) s.words (r.each_node k l);
          each_seat = seats_stay root P (Knows r.nodes r.drafts) vs i v' a (λ k d _ e. seats_stay root P (Knows r.nodes r.drafts) s.views j w' b (λ l x _ h. r.each_seat l x h) k d e);
          each_room = seats_stay root P (λ k d. RoomFits owner s.words k d.room) vs i v' (room_gone i owner s.words)
              (λ k d ne_i e. seats_stay root P (λ l x. l ≢ i → RoomFits owner s.words l x.room) s.views j w' (λ _. room_passes i j r.owner s.words v.room (r.each_room i v first))
              (λ l x _ h ne_l. room_stays i j r.owner s.words l x.room ne_l (r.each_room l x h)) k d e ne_i);
          agreed = agreed_with root P r.nodes vs i v' (subst (P r.nodes) (sym (ap (λ (l : List V). set l i v.client) same ∙ same_first)) r.agreed);
        },
        (refl, refl),
      )
