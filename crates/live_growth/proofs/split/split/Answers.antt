use Rattle.std.proofs.Common.{rules, arith, inl, inr, refl, sym, ap, subst, length, length-take, take, ℕ, Option, Some, None, List, [], ◌∷◌, ◌≡◌, ◌+◌, ◌-◌, ◌*◌, ◌/◌, ◌<◌, ◌≤◌, ◌∙◌}
use Rattle.spec_node.specs.TableNode.{TableNode, Child}
use Rattle.spec_node.specs.declared.child.Child.TheVariants.{Node}
use Rattle.spec_map.specs.Map.{lookup}
use Rattle.live_nodes.specs.Seats.{SeatView, seat_view, Place, Hold, IsIn, hold}
use Rattle.word_book.specs.Book.{Book}
use Rattle.live_nodes.specs.Nodes.{Content}
use Rattle.live_nodes.specs.Acts as acts
use Rattle.live_nodes.specs.Rows.{AreOf, draft_of, nth}
use Rattle.live_layout.specs.Encodes.{words_of, Encodes, IsBelow, IsWord, empty_node, with_child}
use Rattle.live_nodes.specs.Levels.{up, digit, bytes_above, Spot, place_at}
use Rattle.live_nodes.specs.Views.{View, Own, locked, detached, rest_of, watch}
use Rattle.live_nodes.specs.Tree.{IsMap, LinksAgain, StaysSame, again, left_again}
use Rattle.live_nodes.proofs.Joins.{link_above}
use Rattle.live_nodes.proofs.Writes.{node_stays, node_retires}
use Rattle.live_reads.specs.Paths.{AreNamed}
use Rattle.live_reads.specs.Mismatches.{IsParted}
use Rattle.live_growth.specs.Holds.{Alike, HasLocked, HasReclaimed, HoldsOne, number_at}
use Rattle.live_reads.proofs.Views.{first_word}
use Rattle.live_growth.proofs.Locks.{taken_by, holds_one, may_hold, draft_is}
use Rattle.live_growth.proofs.Grips.{Grips, grip_frees, grip_freed}
use Rattle.live_growth.proofs.Pairs.{Pair, pair_first, pair_second, first_draft, second_draft, pair_wrote, pair_frees, pair_freed, change_done, grown_changes, at_result}
use Rattle.live_growth.proofs.Again.{pair_reclaimed, pair_keeps, pair_filled, again_split, again_names, again_grown_on, first_frees, first_freed}
use Rattle.live_growth.proofs.split.split.Given.{Over}
use Rattle.live_growth.proofs.split.split.Goals as goal
use Rattle.live_growth.proofs.split.split.Goals.{In-Some-lock_node, In-Some-reclaim, After-parts, After-put, After-change, After-unlock_again, After-retire}

abbrev Seen : Type 0
Seen = SeatView View

-- THE NODE ABOVE is locked
module _ (g : Over) (c : In-Some-lock_node g) where
  above : HasLocked c.args.seat.now.view c.lock_node.new.seat.view c.args.position.name c.args.key c.args.position.height c.in-Some-lock_node.free
  above =
      let locked : c.lock_node.result ≡ Some c.in-Some-lock_node.free = search rules in
      taken_by c.lock_node.result c.in-Some-lock_node.free locked (HasLocked c.args.seat.now.view c.lock_node.new.seat.view c.args.position.name c.args.key c.args.position.height) c.lock_node.ensures.locked

  above_form : c.form_below-form.result ≡ above.names.spot.shape.form
  above_form = c.form_below-form.ensures above.names.spot.shape.key above.names.spot.shape.form above.names.named

  above_held : HoldsOne c.lock_node.new.seat.view c.lock_node.new.seat.book c.in-Some.words.now c.in-Some-lock_node.free above.names.spot above.content above.content
  above_held =
      let named = subst (λ z. AreNamed z c.args.position.name c.in-Some.words.now) (sym (c.lock_node.ensures.book ∙ c.requires.book)) c.in-Some.ensures in
      holds_one c.args.seat.now.view c.lock_node.new.seat.view c.args.position.name c.args.key c.args.position.height c.in-Some-lock_node.free above c.lock_node.new.seat.book c.in-Some.words.now named c.requires.rests.0 c.requires.rests.1

  above_drafted : draft_of (nth 0 c.lock_node.new.seat.view.holds) ≡ above.content
  above_drafted = draft_is c.lock_node.new.seat.view c.lock_node.new.seat.book c.in-Some.words.now c.in-Some-lock_node.free above.names.spot above.content above.content above_held

-- THE NODE THAT IS USED AGAIN is locked, too
module _ (g : Over) (c : In-Some-reclaim g) where
  abbrev first : In-Some-lock_node g
  first = (goal.at.In-Some-reclaim g c).In-Some-lock_node

  abbrev a : Spot
  a = (above g first).names.spot

  abbrev ca : Content
  ca = (above g first).content

  back : HasReclaimed c.leads_to.new.seat.view c.reclaim.new.seat.view c.args.spare c.in-Some-reclaim.back
  back =
      let locked : c.reclaim.result ≡ Some c.in-Some-reclaim.back = search rules in
      taken_by c.reclaim.result c.in-Some-reclaim.back locked (HasReclaimed c.leads_to.new.seat.view c.reclaim.new.seat.view c.args.spare) c.reclaim.ensures.reclaimed

  abbrev r : Spot
  r = back.spot

  back_form : c.form_below-kind.result ≡ r.shape.form
  back_form = c.form_below-kind.ensures r.shape.key r.shape.form back.named

  above_still : HoldsOne c.leads_to.new.seat.view c.leads_to.new.seat.book c.in-Some.words.now c.in-Some-lock_node.free a ca ca
  above_still = subst (λ z. HoldsOne z.view z.book c.in-Some.words.now c.in-Some-lock_node.free a ca ca) (sym c.leads_to.ensures.seat.same) (above_held g first)

  back_book : c.reclaim.new.seat.book ≡ c.args.seat.now.book
  back_book = c.reclaim.ensures.book ∙ (ap (λ z. z.book) c.leads_to.ensures.seat.same ∙ c.lock_node.ensures.book)

  back_id : c.reclaim.new.seat.id ≡ c.args.seat.now.id
  back_id = c.reclaim.ensures.id ∙ (ap (λ z. z.id) c.leads_to.ensures.seat.same ∙ c.lock_node.ensures.id)

  -- the seat holds both, with these drafts
  abbrev Hold2 : Seen → Book → Content → Content → Type 0
  Hold2 v b dr da = Pair v b c.in-Some-words_at.others.now c.in-Some.words.now c.in-Some-reclaim.back c.in-Some-lock_node.free r (place_at a) dr da

  both : Hold2 c.reclaim.new.seat.view c.reclaim.new.seat.book back.content ca
  both =
      let named = subst (λ z. AreNamed z c.args.spare c.in-Some-words_at.others.now) (sym (back_book ∙ c.requires.book)) c.in-Some-words_at.ensures in
      pair_reclaimed c.leads_to.new.seat.view c.reclaim.new.seat.view c.leads_to.new.seat.book c.reclaim.new.seat.book c.in-Some-words_at.others.now c.in-Some.words.now c.in-Some-reclaim.back c.in-Some-lock_node.free c.args.spare back a ca c.reclaim.ensures.book above_still named

  back_own : c.reclaim.new.seat.view.client.own ≡ detached r ∷ locked a ca ∷ []
  back_own = back.own ∙ ap (λ (os : List Own). detached r ∷ os) above_still.own

  back_alike : Alike c.args.seat.now.view c.reclaim.new.seat.view
  back_alike = let same = c.leads_to.ensures.seat.same in let h = (above g first).alike in record {
    places = back.alike.places ∙ (ap (λ z. z.view.places) same ∙ h.places);
    met = back.alike.met ∙ (ap (λ z. z.view.client.met) same ∙ h.met);
    room = back.alike.room ∙ (ap (λ z. z.view.room) same ∙ h.room);
  }

  back_seen : c.reclaim.new.seat.view.client.seen ≡ c.args.seat.now.view.client.seen
  back_seen = back.seen ∙ (ap (λ z. z.view.client.seen) c.leads_to.ensures.seat.same ∙ (above g first).seen)

-- WHETHER THE NODE BELOW PARTS from the key was read
module _ (g : Over) (c : After-parts g) where
  abbrev second : In-Some-reclaim g
  second = (goal.at.After-parts g c).In-Some-reclaim

  both_then : Hold2 g second c.parts.new.seat.view c.parts.new.seat.book (back g second).content (ca g second)
  both_then = pair_keeps _ _ _ _ _ _ _ _ _ _ (both g second) c.parts.new.seat.view c.parts.new.seat.book c.parts.ensures.book c.parts.ensures.keeps

  own_then : c.parts.new.seat.view.client.own ≡ detached (r g second) ∷ locked (a g second) (ca g second) ∷ []
  own_then = c.parts.ensures.keeps.own ∙ back_own g second

-- it doesn't: the node is given up
module _ (g : Over) (c : After-retire g) where
  abbrev read_of : After-parts g
  read_of = (goal.at.After-retire g c).After-parts

  abbrev two_of : In-Some-reclaim g
  two_of = second g read_of

  abbrev hold_a : Hold
  hold_a = hold (a g two_of).number (c.in-Some-lock_node.free + 2) (ca g two_of)

  retired : (e : View) × (c.retire.new.seat.view ≡ seat_view e c.parts.new.seat.view.places c.parts.new.seat.view.reads (hold_a ∷ []) c.parts.new.seat.view.room) × StaysSame c.parts.new.seat.view.client (r g two_of).number (back g two_of).content e
  retired =
      let z = both_then g read_of in
      let at_r = (first_word (place_at (r g two_of)) c.parts.new.seat.book c.in-Some-words_at.others.now z.are_x c.index-others-0.result c.index-others-0.result (sym c.index-others-0.is)).0 in
      first_freed c.parts.new.seat.view (r g two_of) c.in-Some-reclaim.back (back g two_of).content (hold_a ∷ []) z.holds z.placed_x c.index-others-0.result.key at_r StaysSame (z.apart, tt) c.retire.new.seat.view (c.in-Some-reclaim.back + 3) c.retire.ensures.freed

-- IT IS FILLED
module _ (g : Over) (c : After-put g) where
  abbrev parted : After-parts g
  parted = (goal.at.After-put g c).After-parts

  filled : Hold2 g (second g parted) c.put.new.seat.view c.put.new.seat.book (draft_of (nth 0 c.put.new.seat.view.holds)) (ca g (second g parted))
  filled =
      let laid = c.lay.ensures.seat.others in let others = c.put.ensures.seat.others in
      let first_time = pair_filled _ _ _ _ _ _ _ _ _ _ (both_then g parted) c.lay.new.seat.view c.lay.new.seat.book (ap (λ s. s.book) laid) (ap (λ s. s.view) laid) in
      pair_filled _ _ _ _ _ _ _ _ _ _ first_time c.put.new.seat.view c.put.new.seat.book (ap (λ s. s.book) others) (ap (λ s. s.view) others)

  above_was : draft_of (nth 1 c.put.new.seat.view.holds) ≡ ca g (second g parted)
  above_was = second_draft _ _ _ _ _ _ _ _ _ _ filled

-- the node above leads to it
module _ (g : Over) (c : After-change g) where
  abbrev made : After-put g
  made = (goal.at.After-change g c).After-put

  abbrev held_of : In-Some-reclaim g
  held_of = second g (parted g made)

  abbrev a_of : Spot
  a_of = a g held_of

  abbrev r_of : Spot
  r_of = r g held_of

  abbrev dr : Content
  dr = draft_of (nth 0 c.put.new.seat.view.holds)

  abbrev cr : Content
  cr = draft_of (nth 0 c.change.new.seat.view.holds)

  abbrev da : Content
  da = draft_of (nth 1 c.change.new.seat.view.holds)

  wrote : Hold2 g held_of c.change.new.seat.view c.change.new.seat.book dr da
  wrote = let others = c.change.ensures.seat.others in pair_wrote _ _ _ _ _ _ _ _ _ _ (filled g made) c.change.new.seat.view c.change.new.seat.book (ap (λ s. s.book) others) (ap (λ s. s.view) others)

  same_draft : cr ≡ dr
  same_draft = first_draft _ _ _ _ _ _ _ _ _ _ wrote

  same_client : c.change.new.seat.view.client ≡ c.parts.new.seat.view.client
  same_client = ap (λ s. s.view.client) c.change.ensures.seat.others ∙ (ap (λ s. s.view.client) c.put.ensures.seat.others ∙ ap (λ s. s.view.client) c.lay.ensures.seat.others)

  all_own : c.change.new.seat.view.client.own ≡ detached r_of ∷ locked a_of (ca g held_of) ∷ []
  all_own = ap (λ (k : View). k.own) same_client ∙ own_then g (parted g made)

  links : acts.Frees IsMap c.change.new.seat.id c.change.new.seat.view.client a_of.number (c.in-Some-lock_node.free + 4) da (LinksAgain g.A.Asks.ask cr c.change.new.seat.view.client a_of.number da)
  links =
      let q = g.A.Asks.ask in
      let n = c.change.new.seat.view in
      let h = above g (first g held_of) in
      let form = above_form g (first g held_of) in
      let has = c.leads_to.ensures.some (search rules) in
      let drafted = above_drafted g (first g held_of) in
      let asks = c.requires.asks in
      let at = c.args.mismatch.at in
      let number_is = ap (number_at 1) (both g held_of).holds in
      let l = subst (λ (i : ℕ). IsParted c.parts.new.seat.view c.args.mismatch.below c.args.key at c.args.mismatch.byte i) number_is (c.parts.ensures.parted (search rules)) in
      let x = l.spot in
      let some = l.some_height in
      let lower = l.lower in
      let bytes = c.bytes_of.result in
      let short : length (take (8 - at) bytes) ≡ 8 - at = (let k = length-take (8 - at) bytes in let o = c.bytes_of.ensures.long in omega (arith, k, o)) in
      let few : length (take (8 - at) bytes) < 7 = omega (arith, short, some, lower) in
      let is = c.put.ensures.is (empty_node c.form_below-kind.result (take (8 - at) bytes)) (Node c.args.mismatch.below) c.lay.ensures.is refl c.word_below-child.ensures.child few refl in
      let mismatch = again_split q r_of x c.args.key at bytes c.bytes_of.ensures.long c.bytes_of.ensures.is c.ranges.key.fits asks.0 asks.1 (omega (arith, some, lower)) c.requires.leaves.level c.form_below-kind.result (back_form g held_of) cr c.args.mismatch.byte c.args.mismatch.below l.named
      (subst (λ k. Encodes k (with_child (empty_node c.form_below-kind.result (take (8 - at) bytes)) c.args.mismatch.byte (Some (Node c.args.mismatch.below)))) (sym same_draft) is) in
      let digit_is = c.byte_at-byte.ensures ∙ ap (λ (k : ℕ × ℕ). digit k.0 k.1) (λ i. (sym h.names.high i, sym asks.0 i)) in
      let covers = ap (up a_of.shape.height) asks.0 ∙ h.names.covers in
      let under = has.1 h.its (subst (λ k. Encodes k h.its) (sym drafted) h.encodes) (h.in_form ∙ sym form) in
      let there = λ (none : lookup h.its.children c.byte_at-byte.result ≡ None). subst (λ (k : Option (Child ℕ)). IsBelow k (Some has.0)) none under in
      let was = above_was g made in
      let before = draft_of (nth 1 c.put.new.seat.view.holds) in
      let changed = change_done c.change.result h.content before was h.its h.encodes c.form_below-form.result (h.in_form ∙ sym form) c.byte_at-byte.result there c.change.ensures.was in
      let changes = grown_changes q h.content before was da c.form_below-form.result a_of (again q r_of) c.byte_at-byte.result digit_is form c.word_below.result c.args.spare c.word_below.ensures.child (back g held_of).named c.args.position.height h.names.high c.requires.height.0 (at_result c.change.result changed c.change.ensures.is) in
      let named = λ (k : TableNode ℕ) (encodes : Encodes h.content k) (formed : k.form ≡ a_of.shape.form). subst (λ o. IsBelow (lookup k.children o) (Some has.0)) digit_is (has.1 k (subst (λ o. Encodes o k) (sym drafted) encodes) (formed ∙ sym form)) in
      let spells = λ (i : ℕ) (k : IsWord has.0 (Node i)). has.2 i k ∙ l.named in
      let known : IsIn (watch a_of.number None x) n.client.watched = subst (λ (k : View). IsIn (watch a_of.number None x) k.watched) (sym same_client) l.known in
      let high_a = h.names.high in
      let up_y : up at c.args.key ≡ up q.height q.key = ap (λ (k : ℕ × ℕ). up k.0 k.1) (λ i. (sym asks.1 i, sym asks.0 i)) in
      let y_top : bytes_above x.shape q.height ≡ up q.height q.key = ap (bytes_above x.shape) asks.1 ∙ (l.top ∙ up_y) in
      let y_byte : bytes_above x.shape (q.height - 1) ≡ 256 * up q.height q.key + c.args.mismatch.byte = ap (λ (k : ℕ). bytes_above x.shape (k - 1)) asks.1 ∙ (l.byte_is ∙ ap (λ (k : ℕ). 256 * k + c.args.mismatch.byte) up_y) in
      let long = c.change.ensures.long ∙ ap words_of form in
      let inside = c.if-mismatch-position.false in
      let even = h.even in
      link_above q c.change.new.seat.id n.client r_of x a_of c.args.mismatch.byte cr h.content all_own known (c.in-Some-lock_node.free + 4) (c.in-Some-lock_node.free / 4 + 1) (omega (arith, even)) da
      (omega (arith, asks.1, high_a, inside)) some (omega (arith, lower, asks.1)) covers y_top l.low y_byte long changes has.0 named spells mismatch

-- it is in use
module _ (g : Over) (c : After-unlock_again g) where
  abbrev led : After-change g
  led = (goal.at.After-unlock_again g c).After-change

  linked : (e : View) × (c.unlock_again.new.seat.view ≡ seat_view e c.change.new.seat.view.places c.change.new.seat.view.reads (hold (r_of g led).number (c.in-Some-reclaim.back + 2) (dr g led) ∷ []) c.change.new.seat.view.room) × LinksAgain g.A.Asks.ask (cr g led) c.change.new.seat.view.client (a_of g led).number (da g led) e
  linked =
      let at_a = (first_word (place_at (a_of g led)) c.change.new.seat.book c.in-Some.words.now (wrote g led).are_p c.index-words-0.result c.index-words-0.result (sym c.index-words-0.is)).0 in
      pair_freed _ _ _ _ _ _ _ _ _ _ (wrote g led) c.index-words-0.result.key at_a (LinksAgain g.A.Asks.ask (cr g led)) c.unlock_again.new.seat.view (c.in-Some-lock_node.free + 4) c.unlock_again.ensures.freed

  grip : Grips c.unlock_again.new.seat.view c.unlock_again.new.seat.book c.in-Some-words_at.others.now c.in-Some-reclaim.back (place_at (r_of g led)) (dr g led)
  grip = record {
    holds = ap (λ (k : Seen). k.holds) linked.1;
    placed = subst (λ (ps : List Place). IsIn (place_at (r_of g led)) ps) (sym (ap (λ (k : Seen). k.places) linked.1)) (wrote g led).placed_x;
    are = subst (λ k. AreOf (place_at (r_of g led)) k c.in-Some-words_at.others.now) (sym c.unlock_again.ensures.seat.0) (wrote g led).are_x;
  }

pub leads_to-requires-clause-may : goal.leads_to-requires-clause-may
leads_to-requires-clause-may g c =
    let k = (goal.at.leads_to-requires-clause-may g c).In-Some-lock_node in
    let h = above g k in
    may_hold c.lock_node.new.seat.view c.lock_node.new.seat.book c.in-Some.words.now c.in-Some-lock_node.free h.names.spot h.content h.content (above_held g k) h.long

pub leads_to-requires-clause-long : goal.leads_to-requires-clause-long
leads_to-requires-clause-long g c =
    let k = (goal.at.leads_to-requires-clause-long g c).In-Some-lock_node in
    ap (λ (z : List ℕ). length z) (above_drafted g k) ∙ ((above g k).long ∙ ap words_of (sym (above_form g k)))

pub parts-requires-clause-book : goal.parts-requires-clause-book
parts-requires-clause-book g c = back_book g (goal.at.parts-requires-clause-book g c).In-Some-reclaim ∙ c.requires.book

pub parts-requires-clause-below : goal.parts-requires-clause-below
parts-requires-clause-below g c =
    let alike = back_alike g (goal.at.parts-requires-clause-below g c).In-Some-reclaim in
    (let n = c.requires.leaves.sighted in record {
      spot = n.spot;
      met = subst (λ l. IsIn n.spot l) (sym alike.met) n.met;
      placed = subst (λ l. IsIn (place_at n.spot) l) (sym alike.places) n.placed;
      named = n.named;
    })

pub parts-requires-clause-above : goal.parts-requires-clause-above
parts-requires-clause-above g c =
    let k = (goal.at.parts-requires-clause-above g c).In-Some-reclaim in
    let h = above g (first g k) in
    let has = c.leads_to.ensures.some (search rules) in
    record {
      spot = a g k;
      content = h.content;
      own = subst (IsIn (locked (a g k) h.content)) (sym (back_own g k)) (inr (inl refl));
      tall = subst (λ (e : ℕ). 2 ≤ e) (sym h.names.high) c.requires.height.0;
      byte = c.byte_at-byte.result;
      low = c.byte_at-byte.type_inv;
      child = has.0;
      finds = λ n encodes formed. has.1 n (subst (λ e. Encodes e n) (sym (above_drafted g (first g k))) encodes) (formed ∙ sym (above_form g (first g k)));
      spells = has.2;
      numbered = ap (number_at 1) (both g k).holds;
      held = refl;
    }

pub retire-requires-clause-frees : goal.retire-requires-clause-frees
retire-requires-clause-frees g c =
    let k = (goal.at.retire-requires-clause-frees g c).After-parts in
    let b = second g k in
    let z = both_then g k in
    let h = back g b in
    let even = h.even in
    let at_r = (first_word (place_at (r g b)) c.parts.new.seat.book c.in-Some-words_at.others.now z.are_x c.index-others-0.result c.index-others-0.result (sym c.index-others-0.is)).0 in
    let retires = node_retires c.parts.new.seat.id c.parts.new.seat.view.client (r g b) (locked (a g b) (ca g b) ∷ []) (own_then g k) (z.apart, tt) (c.in-Some-reclaim.back + 3) (c.in-Some-reclaim.back / 4) (omega (arith, even)) h.content h.long in
    first_frees c.parts.new.seat.view (r g b) c.in-Some-reclaim.back h.content (hold (a g b).number (c.in-Some-lock_node.free + 2) (ca g b) ∷ []) z.holds z.placed_x c.index-others-0.result.key at_r StaysSame c.parts.new.seat.id (c.in-Some-reclaim.back + 3) retires

pub unlock_same-requires-then-not-parts-clause-holds : goal.unlock_same-requires-then-not-parts-clause-holds
unlock_same-requires-then-not-parts-clause-holds g c =
    let k = (goal.at.unlock_same-requires-then-not-parts-clause-holds g c).After-retire in
    let z = both_then g (read_of g k) in
    let f = retired g k in
    let one : HoldsOne c.retire.new.seat.view c.retire.new.seat.book c.in-Some.words.now c.in-Some-lock_node.free (a g (two_of g k)) (ca g (two_of g k)) (ca g (two_of g k)) = record {
      own = ap (λ (v : Seen). v.client.own) f.1 ∙ (ap (λ (v : View). v.own) f.2 ∙ ap rest_of (own_then g (read_of g k)));
      holds = ap (λ (v : Seen). v.holds) f.1;
      placed = subst (λ (ps : List Place). IsIn (place_at (a g (two_of g k))) ps) (sym (ap (λ (v : Seen). v.places) f.1)) z.placed_p;
      are = subst (λ b. AreOf (place_at (a g (two_of g k))) b c.in-Some.words.now) (sym c.retire.ensures.seat.0) z.are_p;
    } in
    (a g (two_of g k), ca g (two_of g k), one)

pub returns-then-not-parts-clause-book : goal.returns-then-not-parts-clause-book
returns-then-not-parts-clause-book g c =
    let k = (goal.at.returns-then-not-parts-clause-book g c).After-retire in
    let b = two_of g k in
    let pt = c.parts.ensures in
    let ys = c.retire.ensures.seat in
    let e = c.unlock_same-then-not-parts.ensures in
    e.book ∙ (ys.0 ∙ (pt.book ∙ back_book g b))

pub returns-then-not-parts-clause-id : goal.returns-then-not-parts-clause-id
returns-then-not-parts-clause-id g c =
    let k = (goal.at.returns-then-not-parts-clause-id g c).After-retire in
    let b = two_of g k in
    let pt = c.parts.ensures in
    let ys = c.retire.ensures.seat in
    let e = c.unlock_same-then-not-parts.ensures in
    e.id ∙ (ys.1 ∙ (pt.id ∙ back_id g b))

pub returns-then-not-parts-clause-grown : goal.returns-then-not-parts-clause-grown
returns-then-not-parts-clause-grown g c =
    let k = (goal.at.returns-then-not-parts-clause-grown g c).After-retire in
    let b = two_of g k in
    let f = retired g k in
    let alike = back_alike g b in
    let pt = c.parts.ensures in
    let keeps = pt.keeps in
    let e = c.unlock_same-then-not-parts.ensures in
    record {
      own = e.rest.own;
      holds = e.rest.holds;
      places = λ i m. subst (λ (ls : List Place). IsIn i ls) (sym (e.rest.alike.places ∙ ap (λ (v : Seen). v.places) f.1)) (keeps.places i (subst (λ (ls : List Place). IsIn i ls) (sym alike.places) m));
      met = λ i m. subst (λ (ls : List Spot). IsIn i ls) (sym (e.rest.alike.met ∙ (ap (λ (v : Seen). v.client.met) f.1 ∙ ap (λ (v : View). v.met) f.2))) (keeps.met i (subst (λ (ls : List Spot). IsIn i ls) (sym alike.met) m));
      seen = e.seen ∙ (ap (λ (v : Seen). v.client.seen) f.1 ∙ (ap (λ (v : View). v.seen) f.2 ∙ (pt.seen ∙ back_seen g b)));
    }

pub returns-then-not-parts-clause-room : goal.returns-then-not-parts-clause-room
returns-then-not-parts-clause-room g c =
    let k = (goal.at.returns-then-not-parts-clause-room g c).After-retire in
    let b = two_of g k in
    let f = retired g k in
    let alike = back_alike g b in
    let pt = c.parts.ensures in
    let keeps = pt.keeps in
    let e = c.unlock_same-then-not-parts.ensures in
    e.rest.alike.room ∙ (ap (λ (v : Seen). v.room) f.1 ∙ (keeps.room ∙ alike.room))

pub returns-then-not-parts-clause-free_nodes : goal.returns-then-not-parts-clause-free_nodes
returns-then-not-parts-clause-free_nodes g c =
    λ v h s. c.keep.ensures.kept v (c.forget.ensures.left v h) s

pub returns-in_default-reclaim-clause-free_nodes : goal.returns-in_default-reclaim-clause-free_nodes
returns-in_default-reclaim-clause-free_nodes g c =
    λ v h s. c.forget.ensures.left v h

pub returns-clause-free_nodes : goal.returns-clause-free_nodes
returns-clause-free_nodes g c =
    λ v h s. c.forget.ensures.left v h

pub lay-requires-clause-may : goal.lay-requires-clause-may
lay-requires-clause-may g c =
    let k = (goal.at.lay-requires-clause-may g c).After-parts in
    pair_first _ _ _ _ _ _ _ _ _ _ (both_then g k) (back g (second g k)).long

pub lay-requires-clause-long : goal.lay-requires-clause-long
lay-requires-clause-long g c =
    let k = (goal.at.lay-requires-clause-long g c).After-parts in
    ap (λ (z : List ℕ). length z) (first_draft _ _ _ _ _ _ _ _ _ _ (both_then g k)) ∙ ((back g (second g k)).long ∙ ap words_of (sym (back_form g (second g k))))

pub change-requires-clause-may : goal.change-requires-clause-may
change-requires-clause-may g c =
    let k = (goal.at.change-requires-clause-may g c).After-put in
    pair_second _ _ _ _ _ _ _ _ _ _ (filled g k) (above g (first g (second g (parted g k)))).long

pub change-requires-clause-long : goal.change-requires-clause-long
change-requires-clause-long g c =
    let k = (goal.at.change-requires-clause-long g c).After-put in
    let f = first g (second g (parted g k)) in
    ap (λ (z : List ℕ). length z) (above_was g k) ∙ ((above g f).long ∙ ap words_of (sym (above_form g f)))

pub unlock_again-requires-clause-frees : goal.unlock_again-requires-clause-frees
unlock_again-requires-clause-frees g c =
    let k = (goal.at.unlock_again-requires-clause-frees g c).After-change in
    let at_a = (first_word (place_at (a_of g k)) c.change.new.seat.book c.in-Some.words.now (wrote g k).are_p c.index-words-0.result c.index-words-0.result (sym c.index-words-0.is)).0 in
    pair_frees _ _ _ _ _ _ _ _ _ _ (wrote g k) c.index-words-0.result.key at_a (LinksAgain g.A.Asks.ask (cr g k)) c.change.new.seat.id (c.in-Some-lock_node.free + 4) (links g k)

pub unlock-requires-clause-frees : goal.unlock-requires-clause-frees
unlock-requires-clause-frees g c =
    let u = (goal.at.unlock-requires-clause-frees g c).After-unlock_again in
    let k = led g u in
    let l = linked g u in
    let even = (back g (held_of g k)).even in
    let at_r = (first_word (place_at (r_of g k)) c.unlock_again.new.seat.book c.in-Some-words_at.others.now (grip g u).are c.index-others-0-2.result c.index-others-0-2.result (sym c.index-others-0-2.is)).0 in
    let own = ap (λ (v : Seen). v.client.own) l.1 ∙ (ap (λ (v : View). v.own) l.2 ∙ ap (left_again g.A.Asks.ask (cr g k)) (all_own g k)) in
    let stays = node_stays c.unlock_again.new.seat.id c.unlock_again.new.seat.view.client (again g.A.Asks.ask (r_of g k)) (cr g k) [] own tt (c.in-Some-reclaim.back + 4) (c.in-Some-reclaim.back / 4 + 1) (omega (arith, even)) (dr g k) (sym (same_draft g k)) in
    grip_frees c.unlock_again.new.seat.view c.unlock_again.new.seat.book c.in-Some-words_at.others.now c.in-Some-reclaim.back (place_at (r_of g k)) (dr g k) (grip g u) c.index-others-0-2.result.key at_r StaysSame c.unlock_again.new.seat.id (c.in-Some-reclaim.back + 4) stays

pub returns-clause-book : goal.returns-clause-book
returns-clause-book g c =
    let u = (goal.at.returns-clause-book g c).After-unlock_again in
    let k = led g u in
    let b = held_of g k in
    let e = c.unlock.ensures.seat in
    let pr = c.change.ensures.seat.others in
    let mr = c.put.ensures.seat.others in
    let fr = c.lay.ensures.seat.others in
    e.0 ∙ (c.unlock_again.ensures.seat.0 ∙ (ap (λ s. s.book) pr ∙ (ap (λ s. s.book) mr ∙ (ap (λ s. s.book) fr ∙ (c.parts.ensures.book ∙ back_book g b)))))

pub returns-clause-id : goal.returns-clause-id
returns-clause-id g c =
    let u = (goal.at.returns-clause-id g c).After-unlock_again in
    let k = led g u in
    let b = held_of g k in
    let e = c.unlock.ensures.seat in
    let pr = c.change.ensures.seat.others in
    let mr = c.put.ensures.seat.others in
    let fr = c.lay.ensures.seat.others in
    e.1 ∙ (c.unlock_again.ensures.seat.1 ∙ (ap (λ s. s.id) pr ∙ (ap (λ s. s.id) mr ∙ (ap (λ s. s.id) fr ∙ (c.parts.ensures.id ∙ back_id g b)))))

pub returns-clause-grown : goal.returns-clause-grown
returns-clause-grown g c =
    let u = (goal.at.returns-clause-grown g c).After-unlock_again in
    let k = led g u in
    let b = held_of g k in
    let l = linked g u in
    let alike = back_alike g b in
    let keeps = c.parts.ensures.keeps in
    let pr = c.change.ensures.seat.others in
    let mr = c.put.ensures.seat.others in
    let fr = c.lay.ensures.seat.others in
    let at_r = (first_word (place_at (r_of g k)) c.unlock_again.new.seat.book c.in-Some-words_at.others.now (grip g u).are c.index-others-0-2.result c.index-others-0-2.result (sym c.index-others-0-2.is)).0 in
    let fx = grip_freed c.unlock_again.new.seat.view c.unlock_again.new.seat.book c.in-Some-words_at.others.now c.in-Some-reclaim.back (place_at (r_of g k)) (dr g k) (grip g u) c.index-others-0-2.result.key at_r StaysSame c.unlock.new.seat.view (c.in-Some-reclaim.back + 4) c.unlock.ensures.freed in
    let places = ap (λ s. s.view.places) pr ∙ (ap (λ s. s.view.places) mr ∙ ap (λ s. s.view.places) fr) in
    let in_places = λ (i : Place) (m : IsIn i c.args.seat.now.view.places). subst (λ (ps : List Place). IsIn i ps) (sym places) (keeps.places i (subst (λ (ps : List Place). IsIn i ps) (sym alike.places) m)) in
    let in_met = λ (i : Spot) (m : IsIn i c.args.seat.now.view.client.met). subst (λ (ls : List Spot). IsIn i ls) (sym (ap (λ (v : View). v.met) (same_client g k))) (keeps.met i (subst (λ (ls : List Spot). IsIn i ls) (sym alike.met) m)) in
    let seen = ap (λ (v : View). v.seen) (same_client g k) ∙ (c.parts.ensures.seen ∙ back_seen g b) in
    again_grown_on c.args.seat.now.view c.change.new.seat.view c.unlock_again.new.seat.view c.unlock.new.seat.view l.0 fx.0 g.A.Asks.ask (cr g k) (r_of g k) (a_of g k) (ca g b) (hold (r_of g k).number (c.in-Some-reclaim.back + 2) (dr g k) ∷ []) in_places in_met seen (all_own g k) l.1 l.2 fx.1 fx.2

pub returns-clause-room : goal.returns-clause-room
returns-clause-room g c =
    let u = (goal.at.returns-clause-room g c).After-unlock_again in
    let k = led g u in
    let b = held_of g k in
    let l = linked g u in
    let alike = back_alike g b in
    let keeps = c.parts.ensures.keeps in
    let pr = c.change.ensures.seat.others in
    let mr = c.put.ensures.seat.others in
    let fr = c.lay.ensures.seat.others in
    let at_r = (first_word (place_at (r_of g k)) c.unlock_again.new.seat.book c.in-Some-words_at.others.now (grip g u).are c.index-others-0-2.result c.index-others-0-2.result (sym c.index-others-0-2.is)).0 in
    let fx = grip_freed c.unlock_again.new.seat.view c.unlock_again.new.seat.book c.in-Some-words_at.others.now c.in-Some-reclaim.back (place_at (r_of g k)) (dr g k) (grip g u) c.index-others-0-2.result.key at_r StaysSame c.unlock.new.seat.view (c.in-Some-reclaim.back + 4) c.unlock.ensures.freed in
    let room = ap (λ s. s.view.room) pr ∙ (ap (λ s. s.view.room) mr ∙ (ap (λ s. s.view.room) fr ∙ (keeps.room ∙ alike.room))) in
    ap (λ (v : Seen). v.room) fx.1 ∙ (ap (λ (v : Seen). v.room) l.1 ∙ room)

pub returns-clause-parted : goal.returns-clause-parted
returns-clause-parted g c =
    let u = (goal.at.returns-clause-parted g c).After-unlock_again in
    let k = led g u in
    let b = held_of g k in
    let l = linked g u in
    let at_r = (first_word (place_at (r_of g k)) c.unlock_again.new.seat.book c.in-Some-words_at.others.now (grip g u).are c.index-others-0-2.result c.index-others-0-2.result (sym c.index-others-0-2.is)).0 in
    let fx = grip_freed c.unlock_again.new.seat.view c.unlock_again.new.seat.book c.in-Some-words_at.others.now c.in-Some-reclaim.back (place_at (r_of g k)) (dr g k) (grip g u) c.index-others-0-2.result.key at_r StaysSame c.unlock.new.seat.view (c.in-Some-reclaim.back + 4) c.unlock.ensures.freed in
    let inside = c.if-mismatch-position.false in
    λ _. (
      omega (arith, inside),
      again_names c.change.new.seat.view c.unlock_again.new.seat.view c.unlock.new.seat.view l.0 fx.0 g.A.Asks.ask (cr g k) (r_of g k) (a_of g k) (ca g b) (hold (r_of g k).number (c.in-Some-reclaim.back + 2) (dr g k) ∷ []) c.args.key c.args.mismatch.at c.args.spare
          (wrote g k).placed_x (back g b).named c.requires.asks.0 c.requires.asks.1 (all_own g k) l.1 l.2 fx.1 fx.2,
    )
