use Rattle.std.proofs.Common.{rules, arith, sym, ap, subst, length, take, ℕ, Some, None, List, [], ◌∷◌, ◌≡◌, ◌+◌, ◌/◌, ◌∙◌}
use Rattle.word_book.specs.Book.{Book}
use Rattle.live_nodes.specs.Nodes.{Content}
use Rattle.live_nodes.specs.Seats.{SeatView, seat_view, Place, IsIn, hold}
use Rattle.live_nodes.specs.Acts as acts
use Rattle.live_nodes.specs.Rows.{AreOf, draft_of, nth}
use Rattle.live_layout.specs.Encodes.{words_of, Encodes, empty_node}
use Rattle.live_layout.specs.Encodes.{HasRoom as HasSpace}
use Rattle.live_nodes.specs.Levels.{up, digit, Spot, place_at}
use Rattle.live_nodes.specs.Views.{View, Own, locked, detached}
use Rattle.live_nodes.specs.Tree.{IsMap, LinksAgain, StaysSame, again, left_again}
use Rattle.live_nodes.proofs.Joins.{link_below}
use Rattle.live_nodes.proofs.Writes.{node_stays}
use Rattle.live_reads.specs.Paths.{AreNamed}
use Rattle.live_growth.specs.Holds.{Alike, HasLocked, HasReclaimed, HoldsOne}
use Rattle.live_reads.proofs.Views.{first_word}
use Rattle.live_growth.proofs.Locks.{taken_by, holds_one, may_hold, draft_is}
use Rattle.live_growth.proofs.Grips.{Grips, grip_frees, grip_freed}
use Rattle.live_growth.proofs.Pairs.{Pair, pair_first, pair_second, first_draft, second_draft, pair_wrote, pair_frees, pair_freed}
use Rattle.live_growth.proofs.Again.{pair_reclaimed, pair_filled, empty_again, again_names, again_grown}
use Rattle.live_growth.proofs.Linked.{when_none, none_under, link_changes}
use Rattle.live_growth.proofs.link.link.Given.{Over}
use Rattle.live_growth.proofs.link.link.Goals as goal
use Rattle.live_growth.proofs.link.link.Goals.{In-Some-lock_node, In-Some-reclaim, After-lay, After-put, After-unlock_again}

abbrev Seen : Type 0
Seen = SeatView View

-- THE NODE ABOVE is locked
module _ (g : Over) (c : In-Some-lock_node g) where
  above : HasLocked c.args.seat.now.view c.lock_node.new.seat.view c.args.name c.args.key c.args.height c.in-Some-lock_node.free
  above =
      let locked : c.lock_node.result ≡ Some c.in-Some-lock_node.free = search rules in
      taken_by c.lock_node.result c.in-Some-lock_node.free locked (HasLocked c.args.seat.now.view c.lock_node.new.seat.view c.args.name c.args.key c.args.height) c.lock_node.ensures.locked

  above_form : c.form_below-form.result ≡ above.names.spot.shape.form
  above_form = c.form_below-form.ensures above.names.spot.shape.key above.names.spot.shape.form above.names.named

  above_held : HoldsOne c.lock_node.new.seat.view c.lock_node.new.seat.book c.in-Some.words.now c.in-Some-lock_node.free above.names.spot above.content above.content
  above_held =
      let named = subst (λ z. AreNamed z c.args.name c.in-Some.words.now) (sym (c.lock_node.ensures.book ∙ c.requires.book)) c.in-Some.ensures in
      holds_one c.args.seat.now.view c.lock_node.new.seat.view c.args.name c.args.key c.args.height c.in-Some-lock_node.free above c.lock_node.new.seat.book c.in-Some.words.now named c.requires.rests.0 c.requires.rests.1

  above_drafted : draft_of (nth 0 c.lock_node.new.seat.view.holds) ≡ above.content
  above_drafted = draft_is c.lock_node.new.seat.view c.lock_node.new.seat.book c.in-Some.words.now c.in-Some-lock_node.free above.names.spot above.content above.content above_held

-- THE NODE THAT IS USED AGAIN is locked, too
module _ (g : Over) (c : In-Some-reclaim g) where
  abbrev first : In-Some-lock_node g
  first = (goal.at.In-Some-reclaim g c).In-Some-lock_node

  abbrev a : Spot
  a = (above g first).names.spot

  abbrev ca : Content
  ca = (above g first).content

  back : HasReclaimed c.obstacle.new.seat.view c.reclaim.new.seat.view c.args.spare c.in-Some-reclaim.again
  back =
      let locked : c.reclaim.result ≡ Some c.in-Some-reclaim.again = search rules in
      taken_by c.reclaim.result c.in-Some-reclaim.again locked (HasReclaimed c.obstacle.new.seat.view c.reclaim.new.seat.view c.args.spare) c.reclaim.ensures.reclaimed

  abbrev r : Spot
  r = back.spot

  back_form : c.form_below-kind.result ≡ r.shape.form
  back_form = c.form_below-kind.ensures r.shape.key r.shape.form back.named

  above_still : HoldsOne c.obstacle.new.seat.view c.obstacle.new.seat.book c.in-Some.words.now c.in-Some-lock_node.free a ca ca
  above_still = subst (λ z. HoldsOne z.view z.book c.in-Some.words.now c.in-Some-lock_node.free a ca ca) (sym c.obstacle.ensures.seat.same) (above_held g first)

  back_book : c.reclaim.new.seat.book ≡ c.args.seat.now.book
  back_book = c.reclaim.ensures.book ∙ (ap (λ z. z.book) c.obstacle.ensures.seat.same ∙ c.lock_node.ensures.book)

  back_id : c.reclaim.new.seat.id ≡ c.args.seat.now.id
  back_id = c.reclaim.ensures.id ∙ (ap (λ z. z.id) c.obstacle.ensures.seat.same ∙ c.lock_node.ensures.id)

  -- the seat holds both, with these drafts
  abbrev Hold2 : Seen → Book → Content → Content → Type 0
  Hold2 v b dr da = Pair v b c.in-Some-words_at.others.now c.in-Some.words.now c.in-Some-reclaim.again c.in-Some-lock_node.free r (place_at a) dr da

  both : Hold2 c.reclaim.new.seat.view c.reclaim.new.seat.book back.content ca
  both =
      let named = subst (λ z. AreNamed z c.args.spare c.in-Some-words_at.others.now) (sym (back_book ∙ c.requires.book)) c.in-Some-words_at.ensures in
      pair_reclaimed c.obstacle.new.seat.view c.reclaim.new.seat.view c.obstacle.new.seat.book c.reclaim.new.seat.book c.in-Some-words_at.others.now c.in-Some.words.now c.in-Some-reclaim.again c.in-Some-lock_node.free c.args.spare back a ca c.reclaim.ensures.book above_still named

  back_own : c.reclaim.new.seat.view.client.own ≡ detached r ∷ locked a ca ∷ []
  back_own = back.own ∙ ap (λ (os : List Own). detached r ∷ os) above_still.own

  back_alike : Alike c.args.seat.now.view c.reclaim.new.seat.view
  back_alike = let same = c.obstacle.ensures.seat.same in let h = (above g first).alike in record {
    places = back.alike.places ∙ (ap (λ z. z.view.places) same ∙ h.places);
    met = back.alike.met ∙ (ap (λ z. z.view.client.met) same ∙ h.met);
    room = back.alike.room ∙ (ap (λ z. z.view.room) same ∙ h.room);
  }

  back_seen : c.reclaim.new.seat.view.client.seen ≡ c.args.seat.now.view.client.seen
  back_seen = back.seen ∙ (ap (λ z. z.view.client.seen) c.obstacle.ensures.seat.same ∙ (above g first).seen)

-- IT IS FILLED
module _ (g : Over) (c : After-lay g) where
  abbrev second : In-Some-reclaim g
  second = (goal.at.After-lay g c).In-Some-reclaim

  filled : Hold2 g second c.lay.new.seat.view c.lay.new.seat.book (draft_of (nth 0 c.lay.new.seat.view.holds)) (ca g second)
  filled = let others = c.lay.ensures.seat.others in pair_filled _ _ _ _ _ _ _ _ _ _ (both g second) c.lay.new.seat.view c.lay.new.seat.book (ap (λ s. s.book) others) (ap (λ s. s.view) others)

  above_was : draft_of (nth 1 c.lay.new.seat.view.holds) ≡ ca g second
  above_was = second_draft _ _ _ _ _ _ _ _ _ _ filled

-- the node above leads to it
module _ (g : Over) (c : After-put g) where
  abbrev made : After-lay g
  made = (goal.at.After-put g c).After-lay

  abbrev held_of : In-Some-reclaim g
  held_of = second g made

  abbrev a_of : Spot
  a_of = a g held_of

  abbrev r_of : Spot
  r_of = r g held_of

  abbrev dr : Content
  dr = draft_of (nth 0 c.lay.new.seat.view.holds)

  abbrev cr : Content
  cr = draft_of (nth 0 c.put.new.seat.view.holds)

  abbrev da : Content
  da = draft_of (nth 1 c.put.new.seat.view.holds)

  wrote : Hold2 g held_of c.put.new.seat.view c.put.new.seat.book dr da
  wrote = let others = c.put.ensures.seat.others in pair_wrote _ _ _ _ _ _ _ _ _ _ (filled g made) c.put.new.seat.view c.put.new.seat.book (ap (λ s. s.book) others) (ap (λ s. s.view) others)

  same_draft : cr ≡ dr
  same_draft = first_draft _ _ _ _ _ _ _ _ _ _ wrote

  all_own : c.put.new.seat.view.client.own ≡ detached r_of ∷ locked a_of (ca g held_of) ∷ []
  all_own = ap (λ s. s.view.client.own) c.put.ensures.seat.others ∙ (ap (λ s. s.view.client.own) c.lay.ensures.seat.others ∙ back_own g held_of)

  links : acts.Frees IsMap c.put.new.seat.id c.put.new.seat.view.client a_of.number (c.in-Some-lock_node.free + 4) da (LinksAgain g.A.Asks.ask cr c.put.new.seat.view.client a_of.number da)
  links =
      let q = g.A.Asks.ask in
      let h = above g (first g held_of) in
      let form = above_form g (first g held_of) in
      let obstacle_none : c.obstacle.result ≡ None = search rules in
      let ob = when_none c.obstacle.result obstacle_none c.obstacle.ensures.none in
      let asks = c.requires.asks in
      let bytes = c.bytes_of-bytes in
      let empty = empty_again q r_of c.args.key 1 bytes.result bytes.ensures.long bytes.ensures.is c.ranges.key.fits asks.0 asks.1 (omega arith) (omega arith) c.form_below-kind.result (back_form g held_of) cr (subst (λ z. Encodes z (empty_node c.form_below-kind.result (take 7 bytes.result))) (sym same_draft) c.lay.ensures.is) in
      let digit_is = c.byte_at-byte.ensures ∙ ap (λ (z : ℕ × ℕ). digit z.0 z.1) (λ i. (sym h.names.high i, sym asks.0 i)) in
      let covers = ap (up a_of.shape.height) asks.0 ∙ h.names.covers in
      let absent = none_under h.content (draft_of (nth 0 c.lock_node.new.seat.view.holds)) (above_drafted g (first g held_of)) c.form_below-form.result a_of.shape.form (sym form) c.byte_at-byte.result (digit a_of.shape.height q.key) digit_is ob.1 in
      let changes = link_changes q c.args.key h.content (draft_of (nth 1 c.lay.new.seat.view.holds)) (above_was g made) da c.form_below-form.result a_of (again q r_of) c.byte_at-byte.result digit_is form c.word_below.result c.args.spare c.word_below.ensures.child (back g held_of).named c.args.height h.names.high c.requires.height.0 absent c.put.ensures.is in
      let long = c.put.ensures.long ∙ ap words_of form in
      let high = h.names.high in
      let even = h.even in
      let lo = c.requires.height.0 in
      link_below q c.put.new.seat.id c.put.new.seat.view.client r_of a_of cr h.content all_own (c.in-Some-lock_node.free + 4) (c.in-Some-lock_node.free / 4 + 1) (omega (arith, even)) da (omega (arith, asks.1, high, lo)) (omega (arith, asks.1)) covers long changes absent empty

-- it is in use
module _ (g : Over) (c : After-unlock_again g) where
  abbrev led : After-put g
  led = (goal.at.After-unlock_again g c).After-put

  linked : (e : View) × (c.unlock_again.new.seat.view ≡ seat_view e c.put.new.seat.view.places c.put.new.seat.view.reads (hold (r_of g led).number (c.in-Some-reclaim.again + 2) (dr g led) ∷ []) c.put.new.seat.view.room) × LinksAgain g.A.Asks.ask (cr g led) c.put.new.seat.view.client (a_of g led).number (da g led) e
  linked =
      let at_a = (first_word (place_at (a_of g led)) c.put.new.seat.book c.in-Some.words.now (wrote g led).are_p c.index-words-0.result c.index-words-0.result (sym c.index-words-0.is)).0 in
      pair_freed _ _ _ _ _ _ _ _ _ _ (wrote g led) c.index-words-0.result.key at_a (LinksAgain g.A.Asks.ask (cr g led)) c.unlock_again.new.seat.view (c.in-Some-lock_node.free + 4) c.unlock_again.ensures.freed

  grip : Grips c.unlock_again.new.seat.view c.unlock_again.new.seat.book c.in-Some-words_at.others.now c.in-Some-reclaim.again (place_at (r_of g led)) (dr g led)
  grip = record {
    holds = ap (λ (k : Seen). k.holds) linked.1;
    placed = subst (λ (ps : List Place). IsIn (place_at (r_of g led)) ps) (sym (ap (λ (k : Seen). k.places) linked.1)) (wrote g led).placed_x;
    are = subst (λ k. AreOf (place_at (r_of g led)) k c.in-Some-words_at.others.now) (sym c.unlock_again.ensures.seat.0) (wrote g led).are_x;
  }

pub obstacle-requires-clause-may : goal.obstacle-requires-clause-may
obstacle-requires-clause-may g c =
    let k = (goal.at.obstacle-requires-clause-may g c).In-Some-lock_node in
    let h = above g k in
    may_hold c.lock_node.new.seat.view c.lock_node.new.seat.book c.in-Some.words.now c.in-Some-lock_node.free h.names.spot h.content h.content (above_held g k) h.long

pub obstacle-requires-clause-long : goal.obstacle-requires-clause-long
obstacle-requires-clause-long g c =
    let k = (goal.at.obstacle-requires-clause-long g c).In-Some-lock_node in
    ap (λ (z : List ℕ). length z) (above_drafted g k) ∙ ((above g k).long ∙ ap words_of (sym (above_form g k)))

pub lay-requires-clause-may : goal.lay-requires-clause-may
lay-requires-clause-may g c =
    let k = (goal.at.lay-requires-clause-may g c).In-Some-reclaim in
    pair_first _ _ _ _ _ _ _ _ _ _ (both g k) (back g k).long

pub lay-requires-clause-long : goal.lay-requires-clause-long
lay-requires-clause-long g c =
    let k = (goal.at.lay-requires-clause-long g c).In-Some-reclaim in
    ap (λ (z : List ℕ). length z) (first_draft _ _ _ _ _ _ _ _ _ _ (both g k)) ∙ ((back g k).long ∙ ap words_of (sym (back_form g k)))

pub put-requires-clause-may : goal.put-requires-clause-may
put-requires-clause-may g c =
    let k = (goal.at.put-requires-clause-may g c).After-lay in
    pair_second _ _ _ _ _ _ _ _ _ _ (filled g k) (above g (first g (second g k))).long

pub put-requires-clause-long : goal.put-requires-clause-long
put-requires-clause-long g c =
    let k = (goal.at.put-requires-clause-long g c).After-lay in
    let f = first g (second g k) in
    ap (λ (z : List ℕ). length z) (above_was g k) ∙ ((above g f).long ∙ ap words_of (sym (above_form g f)))

pub put-requires-clause-left : goal.put-requires-clause-left
put-requires-clause-left g c =
    let k = (goal.at.put-requires-clause-left g c).After-lay in
    let obstacle_none : c.obstacle.result ≡ None = search rules in
    let ob = when_none c.obstacle.result obstacle_none c.obstacle.ensures.none in
    subst (HasSpace c.form_below-form.result) (above_drafted g (first g (second g k)) ∙ sym (above_was g k)) ob.0

pub unlock_again-requires-clause-frees : goal.unlock_again-requires-clause-frees
unlock_again-requires-clause-frees g c =
    let k = (goal.at.unlock_again-requires-clause-frees g c).After-put in
    let at_a = (first_word (place_at (a_of g k)) c.put.new.seat.book c.in-Some.words.now (wrote g k).are_p c.index-words-0.result c.index-words-0.result (sym c.index-words-0.is)).0 in
    pair_frees _ _ _ _ _ _ _ _ _ _ (wrote g k) c.index-words-0.result.key at_a (LinksAgain g.A.Asks.ask (cr g k)) c.put.new.seat.id (c.in-Some-lock_node.free + 4) (links g k)

pub unlock-requires-clause-frees : goal.unlock-requires-clause-frees
unlock-requires-clause-frees g c =
    let u = (goal.at.unlock-requires-clause-frees g c).After-unlock_again in
    let k = led g u in
    let l = linked g u in
    let even = (back g (held_of g k)).even in
    let at_r = (first_word (place_at (r_of g k)) c.unlock_again.new.seat.book c.in-Some-words_at.others.now (grip g u).are c.index-others-0.result c.index-others-0.result (sym c.index-others-0.is)).0 in
    let own = ap (λ (v : Seen). v.client.own) l.1 ∙ (ap (λ (v : View). v.own) l.2 ∙ ap (left_again g.A.Asks.ask (cr g k)) (all_own g k)) in
    let stays = node_stays c.unlock_again.new.seat.id c.unlock_again.new.seat.view.client (again g.A.Asks.ask (r_of g k)) (cr g k) [] own tt (c.in-Some-reclaim.again + 4) (c.in-Some-reclaim.again / 4 + 1) (omega (arith, even)) (dr g k) (sym (same_draft g k)) in
    grip_frees c.unlock_again.new.seat.view c.unlock_again.new.seat.book c.in-Some-words_at.others.now c.in-Some-reclaim.again (place_at (r_of g k)) (dr g k) (grip g u) c.index-others-0.result.key at_r StaysSame c.unlock_again.new.seat.id (c.in-Some-reclaim.again + 4) stays

pub returns-clause-book : goal.returns-clause-book
returns-clause-book g c =
    let u = (goal.at.returns-clause-book g c).After-unlock_again in
    let k = led g u in
    let b = held_of g k in
    let e = c.unlock.ensures.seat in
    let pr = c.put.ensures.seat.others in
    let fr = c.lay.ensures.seat.others in
    e.0 ∙ (c.unlock_again.ensures.seat.0 ∙ (ap (λ s. s.book) pr ∙ (ap (λ s. s.book) fr ∙ back_book g b)))

pub returns-clause-id : goal.returns-clause-id
returns-clause-id g c =
    let u = (goal.at.returns-clause-id g c).After-unlock_again in
    let k = led g u in
    let b = held_of g k in
    let e = c.unlock.ensures.seat in
    let pr = c.put.ensures.seat.others in
    let fr = c.lay.ensures.seat.others in
    e.1 ∙ (c.unlock_again.ensures.seat.1 ∙ (ap (λ s. s.id) pr ∙ (ap (λ s. s.id) fr ∙ back_id g b)))

pub returns-clause-grown : goal.returns-clause-grown
returns-clause-grown g c =
    let u = (goal.at.returns-clause-grown g c).After-unlock_again in
    let k = led g u in
    let b = held_of g k in
    let l = linked g u in
    let alike = back_alike g b in
    let pr = c.put.ensures.seat.others in
    let fr = c.lay.ensures.seat.others in
    let at_r = (first_word (place_at (r_of g k)) c.unlock_again.new.seat.book c.in-Some-words_at.others.now (grip g u).are c.index-others-0.result c.index-others-0.result (sym c.index-others-0.is)).0 in
    let o = grip_freed c.unlock_again.new.seat.view c.unlock_again.new.seat.book c.in-Some-words_at.others.now c.in-Some-reclaim.again (place_at (r_of g k)) (dr g k) (grip g u) c.index-others-0.result.key at_r StaysSame c.unlock.new.seat.view (c.in-Some-reclaim.again + 4) c.unlock.ensures.freed in
    let places = ap (λ s. s.view.places) pr ∙ (ap (λ s. s.view.places) fr ∙ alike.places) in
    let met = ap (λ s. s.view.client.met) pr ∙ (ap (λ s. s.view.client.met) fr ∙ alike.met) in
    let seen = ap (λ s. s.view.client.seen) pr ∙ (ap (λ s. s.view.client.seen) fr ∙ back_seen g b) in
    again_grown c.args.seat.now.view c.put.new.seat.view c.unlock_again.new.seat.view c.unlock.new.seat.view l.0 o.0 g.A.Asks.ask (cr g k) (r_of g k) (a_of g k) (ca g b) (hold (r_of g k).number (c.in-Some-reclaim.again + 2) (dr g k) ∷ []) places met seen (all_own g k) l.1 l.2 o.1 o.2

pub returns-clause-room : goal.returns-clause-room
returns-clause-room g c =
    let u = (goal.at.returns-clause-room g c).After-unlock_again in
    let k = led g u in
    let b = held_of g k in
    let l = linked g u in
    let alike = back_alike g b in
    let pr = c.put.ensures.seat.others in
    let fr = c.lay.ensures.seat.others in
    let at_r = (first_word (place_at (r_of g k)) c.unlock_again.new.seat.book c.in-Some-words_at.others.now (grip g u).are c.index-others-0.result c.index-others-0.result (sym c.index-others-0.is)).0 in
    let o = grip_freed c.unlock_again.new.seat.view c.unlock_again.new.seat.book c.in-Some-words_at.others.now c.in-Some-reclaim.again (place_at (r_of g k)) (dr g k) (grip g u) c.index-others-0.result.key at_r StaysSame c.unlock.new.seat.view (c.in-Some-reclaim.again + 4) c.unlock.ensures.freed in
    let room = ap (λ s. s.view.room) pr ∙ (ap (λ s. s.view.room) fr ∙ alike.room) in
    ap (λ (v : Seen). v.room) o.1 ∙ (ap (λ (v : Seen). v.room) l.1 ∙ room)

pub returns-clause-linked : goal.returns-clause-linked
returns-clause-linked g c =
    let u = (goal.at.returns-clause-linked g c).After-unlock_again in
    let k = led g u in
    let b = held_of g k in
    let l = linked g u in
    let at_r = (first_word (place_at (r_of g k)) c.unlock_again.new.seat.book c.in-Some-words_at.others.now (grip g u).are c.index-others-0.result c.index-others-0.result (sym c.index-others-0.is)).0 in
    let o = grip_freed c.unlock_again.new.seat.view c.unlock_again.new.seat.book c.in-Some-words_at.others.now c.in-Some-reclaim.again (place_at (r_of g k)) (dr g k) (grip g u) c.index-others-0.result.key at_r StaysSame c.unlock.new.seat.view (c.in-Some-reclaim.again + 4) c.unlock.ensures.freed in
    again_names c.put.new.seat.view c.unlock_again.new.seat.view c.unlock.new.seat.view l.0 o.0 g.A.Asks.ask (cr g k) (r_of g k) (a_of g k) (ca g b) (hold (r_of g k).number (c.in-Some-reclaim.again + 2) (dr g k) ∷ []) c.args.key 1 c.args.spare
    (wrote g k).placed_x (back g b).named c.requires.asks.0 c.requires.asks.1 (all_own g k) l.1 l.2 o.1 o.2
