use Rattle.std.proofs.Common.{rules, arith, sym, ap, subst, length, set, take, get_or-set_same, length-set, ℕ, List, [], ◌∷◌, ◌≡◌, ◌+◌, ◌≤◌, ◌/◌, ◌∙◌}
use Rattle.word_book.specs.Book.{Book}
use Rattle.live_nodes.specs.Nodes.{Content, at}
use Rattle.live_nodes.specs.Seats.{SeatView, seat_view, Place, IsIn, hold}
use Rattle.live_nodes.specs.Acts as acts
use Rattle.live_nodes.specs.Rows.{AreOf, draft_of, nth}
use Rattle.live_layout.specs.Encodes.{words_of, Encodes, empty_node}
use Rattle.live_nodes.specs.Levels.{up, Spot, name_of, place_at}
use Rattle.live_nodes.specs.Views.{View, Own, detached, root_word}
use Rattle.live_nodes.specs.Tree.{IsMap, LinksAgain, StaysSame, again, left_again}
use Rattle.live_nodes.proofs.Joins.{link_root}
use Rattle.live_nodes.proofs.Writes.{node_stays}
use Rattle.live_reads.specs.Paths.{AreNamed}
use Rattle.live_growth.specs.Holds.{HasReclaimed, HoldsRootWord}
use Rattle.live_reads.proofs.Views.{first_word}
use Rattle.live_growth.proofs.Grips.{Grips, grip_holds, grip_draft, grip_frees, grip_freed}
use Rattle.live_growth.proofs.Pairs.{Pair, pair_first, pair_second, first_draft, second_draft, pair_wrote, pair_frees, pair_freed}
use Rattle.live_growth.proofs.Again.{pair_filled, empty_again}
use Rattle.live_growth.proofs.RootWords.{p, holds_root_word, root_word_grips, pair_with_root_word, root_grown}
use Rattle.live_growth.proofs.make_root.name_root.Given.{Over}
use Rattle.live_growth.proofs.make_root.name_root.Goals as goal
use Rattle.live_growth.proofs.make_root.name_root.Goals.{In-Some-lock_root_word, In-Some-reclaim, After-lay, After-set, After-unlock_again}

abbrev Seen : Type 0
Seen = SeatView View

-- THE ROOT WORD is locked
module _ (g : Over) (c : In-Some-lock_root_word g) where
  book_then : c.lock_root_word.new.seat.book ≡ c.args.nodes.now
  book_then = c.lock_root_word.ensures.seat.0 ∙ c.requires.book

  abbrev named : Content
  named = c.in-Some-lock_root_word.ensures.locked.content

  held : HoldsRootWord c.lock_root_word.new.seat.view c.lock_root_word.new.seat.book c.root_words-words.result.now c.in-Some-lock_root_word.free named
  held = holds_root_word c.args.seat.now.view c.lock_root_word.new.seat.view c.in-Some-lock_root_word.free c.in-Some-lock_root_word.ensures.locked c.lock_root_word.new.seat.book c.root_words-words.result.now
      (subst (λ (b : Book). AreOf p b c.root_words-words.result.now) (sym book_then) c.root_words-words.ensures) c.requires.root_word c.requires.rests.0 c.requires.rests.1

  grip : Grips c.lock_root_word.new.seat.view c.lock_root_word.new.seat.book c.root_words-words.result.now c.in-Some-lock_root_word.free p named
  grip = root_word_grips c.lock_root_word.new.seat.view c.lock_root_word.new.seat.book c.root_words-words.result.now c.in-Some-lock_root_word.free named held

-- THE NODE is locked, too
module _ (g : Over) (c : In-Some-reclaim g) where
  abbrev first : In-Some-lock_root_word g
  first = (goal.at.In-Some-reclaim g c).In-Some-lock_root_word

  abbrev back : HasReclaimed c.get.new.seat.view c.reclaim.new.seat.view c.args.spare c.in-Some-reclaim.back
  back = c.in-Some-reclaim.ensures.reclaimed

  abbrev r : Spot
  r = back.spot

  still : HoldsRootWord c.get.new.seat.view c.get.new.seat.book c.root_words-words.result.now c.in-Some-lock_root_word.free (named g first)
  still = subst (λ z. HoldsRootWord z.view z.book c.root_words-words.result.now c.in-Some-lock_root_word.free (named g first)) (sym c.get.ensures.seat.same) (held g first)

  back_book : c.reclaim.new.seat.book ≡ c.args.seat.now.book
  back_book = c.in-Some-reclaim.ensures.book ∙ (ap (λ z. z.book) c.get.ensures.seat.same ∙ c.lock_root_word.ensures.seat.0)

  back_id : c.reclaim.new.seat.id ≡ c.args.seat.now.id
  back_id = c.in-Some-reclaim.ensures.id ∙ (ap (λ z. z.id) c.get.ensures.seat.same ∙ c.lock_root_word.ensures.seat.1)

  -- the seat holds both, with these drafts
  abbrev Hold2 : Seen → Book → Content → Content → Type 0
  Hold2 v b dr dp = Pair v b c.in-Some.others.now c.root_words-words.result.now c.in-Some-reclaim.back c.in-Some-lock_root_word.free r p dr dp

  both : Hold2 c.reclaim.new.seat.view c.reclaim.new.seat.book back.content (named g first)
  both = pair_with_root_word c.get.new.seat.view c.reclaim.new.seat.view c.get.new.seat.book c.reclaim.new.seat.book c.in-Some.others.now c.root_words-words.result.now c.in-Some-reclaim.back c.in-Some-lock_root_word.free c.args.spare back (named g first) c.in-Some-reclaim.ensures.book still
      (subst (λ z. AreNamed z c.args.spare c.in-Some.others.now) (sym (back_book ∙ c.requires.book)) c.in-Some.ensures)

  own_then : c.reclaim.new.seat.view.client.own ≡ detached r ∷ root_word (named g first) ∷ []
  own_then = back.own ∙ ap (λ (os : List Own). detached r ∷ os) still.own

  form_is : c.form_below-kind.result ≡ r.shape.form
  form_is = c.form_below-kind.ensures r.shape.key r.shape.form back.named

-- IT IS FILLED
module _ (g : Over) (c : After-lay g) where
  abbrev second : In-Some-reclaim g
  second = (goal.at.After-lay g c).In-Some-reclaim

  filled : Hold2 g second c.lay.new.seat.view c.lay.new.seat.book (draft_of (nth 0 c.lay.new.seat.view.holds)) (named g (first g second))
  filled = let others = c.lay.ensures.seat.others in pair_filled _ _ _ _ _ _ _ _ _ _ (both g second) c.lay.new.seat.view c.lay.new.seat.book (ap (λ s. s.book) others) (ap (λ s. s.view) others)

-- the root word names it
module _ (g : Over) (c : After-set g) where
  abbrev made : After-lay g
  made = (goal.at.After-set g c).After-lay

  abbrev held_of : In-Some-reclaim g
  held_of = second g made

  abbrev word_was : Content
  word_was = named g (first g held_of)

  abbrev dr : Content
  dr = draft_of (nth 0 c.lay.new.seat.view.holds)

  abbrev cr : Content
  cr = draft_of (nth 0 c.set.new.seat.view.holds)

  abbrev dp : Content
  dp = draft_of (nth 1 c.set.new.seat.view.holds)

  wrote : Hold2 g held_of c.set.new.seat.view c.set.new.seat.book dr dp
  wrote = let others = c.set.ensures.seat.others in pair_wrote _ _ _ _ _ _ _ _ _ _ (filled g made) c.set.new.seat.view c.set.new.seat.book (ap (λ s. s.book) others) (ap (λ s. s.view) others)

  same_draft : cr ≡ dr
  same_draft = first_draft _ _ _ _ _ _ _ _ _ _ wrote

  all_own : c.set.new.seat.view.client.own ≡ detached (r g held_of) ∷ root_word word_was ∷ []
  all_own = ap (λ s. s.view.client.own) c.set.ensures.seat.others ∙ (ap (λ s. s.view.client.own) c.lay.ensures.seat.others ∙ own_then g held_of)

  links : acts.Frees IsMap c.set.new.seat.id c.set.new.seat.view.client 0 (c.in-Some-lock_root_word.free + 4) dp (LinksAgain g.A.Asks.ask cr c.set.new.seat.view.client 0 dp)
  links =
      let q = g.A.Asks.ask in
      let k = first g held_of in
      let h = c.in-Some-lock_root_word.ensures.locked in
      let asks = c.requires.asks in
      let bytes = c.bytes_of-bytes in
      let empty = empty_again q (r g held_of) 0 8 bytes.result bytes.ensures.long bytes.ensures.is (omega arith) asks.0 asks.1 (omega arith) (omega arith) c.form_below-kind.result (form_is g held_of) cr (subst (λ z. Encodes z (empty_node c.form_below-kind.result (take 0 bytes.result))) (sym same_draft) c.lay.ensures.is) in
      let zero : c.get.result ≡ 0 = search rules in
      let zero_is : at word_was 0 ≡ 0 = ap (λ (z : List ℕ). at z 0) (sym (grip_draft c.lock_root_word.new.seat.view c.lock_root_word.new.seat.book c.root_words-words.result.now c.in-Some-lock_root_word.free p (named g k) (grip g k))) ∙ (sym c.get.ensures.is ∙ zero) in
      let l = h.long in
      let was = second_draft _ _ _ _ _ _ _ _ _ _ (filled g made) in
      let is = c.set.ensures.is ∙ ap (λ (z : List ℕ). set z 0 c.args.spare) was in
      let long : length dp ≡ 1 = ap (λ (z : List ℕ). length z) is ∙ (length-set word_was 0 c.args.spare ∙ l) in
      let names : at dp 0 ≡ name_of (r g held_of).shape = ap (λ (z : List ℕ). at z 0) is ∙ (get_or-set_same word_was 0 c.args.spare 0 (omega (arith, l)) ∙ (back g held_of).named) in
      let top : up q.height q.key ≡ 0 = ap (λ (z : ℕ × ℕ). up z.0 z.1) (λ i. (asks.1 i, asks.0 i)) in
      let even = h.even in
      link_root q c.set.new.seat.id c.set.new.seat.view.client (r g held_of) cr word_was all_own (c.in-Some-lock_root_word.free + 4) (c.in-Some-lock_root_word.free / 4 + 1) (omega (arith, even)) dp zero_is asks.1 top long names (subst (λ (z : ℕ). 1 ≤ z) (back g held_of).named c.requires.spare.0) empty

-- it is in use
module _ (g : Over) (c : After-unlock_again g) where
  abbrev led : After-set g
  led = (goal.at.After-unlock_again g c).After-set

  linked : (e : View) × (c.unlock_again.new.seat.view ≡ seat_view e c.set.new.seat.view.places c.set.new.seat.view.reads (hold (r g (held_of g led)).number (c.in-Some-reclaim.back + 2) (dr g led) ∷ []) c.set.new.seat.view.room) × LinksAgain g.A.Asks.ask (cr g led) c.set.new.seat.view.client 0 (dp g led) e
  linked =
      let at_p = (first_word p c.set.new.seat.book c.root_words-words.result.now (wrote g led).are_p c.index-words-0.result c.index-words-0.result (sym c.index-words-0.is)).0 in
      pair_freed _ _ _ _ _ _ _ _ _ _ (wrote g led) c.index-words-0.result.key at_p (LinksAgain g.A.Asks.ask (cr g led)) c.unlock_again.new.seat.view (c.in-Some-lock_root_word.free + 4) c.unlock_again.ensures.freed

  alone : Grips c.unlock_again.new.seat.view c.unlock_again.new.seat.book c.in-Some.others.now c.in-Some-reclaim.back (place_at (r g (held_of g led))) (dr g led)
  alone = record {
    holds = ap (λ (k : Seen). k.holds) linked.1;
    placed = subst (λ (ps : List Place). IsIn (place_at (r g (held_of g led))) ps) (sym (ap (λ (k : Seen). k.places) linked.1)) (wrote g led).placed_x;
    are = subst (λ k. AreOf (place_at (r g (held_of g led))) k c.in-Some.others.now) (sym c.unlock_again.ensures.seat.0) (wrote g led).are_x;
  }

pub get-requires : goal.get-requires
get-requires g c =
    let k = (goal.at.get-requires g c).In-Some-lock_root_word in
    let v = c.lock_root_word.new.seat.view in
    let b = c.lock_root_word.new.seat.book in
    let h = c.in-Some-lock_root_word.ensures.locked in
    let l = h.long in
    let e = ap (λ (z : List ℕ). length z) (grip_draft v b c.root_words-words.result.now c.in-Some-lock_root_word.free p (named g k) (grip g k)) in
    (omega arith, (grip_holds v b c.root_words-words.result.now c.in-Some-lock_root_word.free p (named g k) (grip g k) l, omega (arith, e, l)))

pub lay-requires-clause-may : goal.lay-requires-clause-may
lay-requires-clause-may g c =
    let k = (goal.at.lay-requires-clause-may g c).In-Some-reclaim in
    pair_first _ _ _ _ _ _ _ _ _ _ (both g k) (back g k).long

pub lay-requires-clause-long : goal.lay-requires-clause-long
lay-requires-clause-long g c =
    let k = (goal.at.lay-requires-clause-long g c).In-Some-reclaim in
    ap (λ (z : List ℕ). length z) (first_draft _ _ _ _ _ _ _ _ _ _ (both g k)) ∙ ((back g k).long ∙ ap words_of (sym (form_is g k)))

pub set-requires : goal.set-requires
set-requires g c =
    let k = (goal.at.set-requires g c).After-lay in
    let l = c.in-Some-lock_root_word.ensures.locked.long in
    let e = ap (λ (z : List ℕ). length z) (second_draft _ _ _ _ _ _ _ _ _ _ (filled g k)) in
    (omega arith, (pair_second _ _ _ _ _ _ _ _ _ _ (filled g k) l, omega (arith, e, l)))

pub unlock_again-requires-clause-frees : goal.unlock_again-requires-clause-frees
unlock_again-requires-clause-frees g c =
    let k = (goal.at.unlock_again-requires-clause-frees g c).After-set in
    let at_p = (first_word p c.set.new.seat.book c.root_words-words.result.now (wrote g k).are_p c.index-words-0.result c.index-words-0.result (sym c.index-words-0.is)).0 in
    pair_frees _ _ _ _ _ _ _ _ _ _ (wrote g k) c.index-words-0.result.key at_p (LinksAgain g.A.Asks.ask (cr g k)) c.set.new.seat.id (c.in-Some-lock_root_word.free + 4) (links g k)

pub unlock-requires-clause-frees : goal.unlock-requires-clause-frees
unlock-requires-clause-frees g c =
    let u = (goal.at.unlock-requires-clause-frees g c).After-unlock_again in
    let k = led g u in
    let l = linked g u in
    let x = r g (held_of g k) in
    let even = (back g (held_of g k)).even in
    let at_r = (first_word (place_at x) c.unlock_again.new.seat.book c.in-Some.others.now (alone g u).are c.index-others-0.result c.index-others-0.result (sym c.index-others-0.is)).0 in
    let own = ap (λ (v : Seen). v.client.own) l.1 ∙ (ap (λ (v : View). v.own) l.2 ∙ ap (left_again g.A.Asks.ask (cr g k)) (all_own g k)) in
    let stays = node_stays c.unlock_again.new.seat.id c.unlock_again.new.seat.view.client (again g.A.Asks.ask x) (cr g k) [] own tt (c.in-Some-reclaim.back + 4) (c.in-Some-reclaim.back / 4 + 1) (omega (arith, even)) (dr g k) (sym (same_draft g k)) in
    grip_frees c.unlock_again.new.seat.view c.unlock_again.new.seat.book c.in-Some.others.now c.in-Some-reclaim.back (place_at x) (dr g k) (alone g u) c.index-others-0.result.key at_r StaysSame c.unlock_again.new.seat.id (c.in-Some-reclaim.back + 4) stays

pub returns-clause-seat : goal.returns-clause-seat
returns-clause-seat g c =
    let u = (goal.at.returns-clause-seat g c).After-unlock_again in
    let b = held_of g (led g u) in
    let sr = c.set.ensures.seat.others in
    let fr = c.lay.ensures.seat.others in
    (c.unlock.ensures.seat.0 ∙ (c.unlock_again.ensures.seat.0 ∙ (ap (λ s. s.book) sr ∙ (ap (λ s. s.book) fr ∙ back_book g b))), c.unlock.ensures.seat.1 ∙ (c.unlock_again.ensures.seat.1 ∙ (ap (λ s. s.id) sr ∙ (ap (λ s. s.id) fr ∙ back_id g b))))

pub returns-clause-grown : goal.returns-clause-grown
returns-clause-grown g c =
    let u = (goal.at.returns-clause-grown g c).After-unlock_again in
    let k = led g u in
    let b = held_of g k in
    let x = r g b in
    let l = linked g u in
    let h = c.in-Some-lock_root_word.ensures.locked in
    let same = c.get.ensures.seat.same in
    let sr = c.set.ensures.seat.others in
    let fr = c.lay.ensures.seat.others in
    let alike = (back g b).alike in
    let at_r = (first_word (place_at x) c.unlock_again.new.seat.book c.in-Some.others.now (alone g u).are c.index-others-0.result c.index-others-0.result (sym c.index-others-0.is)).0 in
    let o = grip_freed c.unlock_again.new.seat.view c.unlock_again.new.seat.book c.in-Some.others.now c.in-Some-reclaim.back (place_at x) (dr g k) (alone g u) c.index-others-0.result.key at_r StaysSame c.unlock.new.seat.view (c.in-Some-reclaim.back + 4) c.unlock.ensures.freed in
    let places = ap (λ s. s.view.places) sr ∙ (ap (λ s. s.view.places) fr ∙ (alike.places ∙ (ap (λ z. z.view.places) same ∙ h.alike.places))) in
    let met = ap (λ s. s.view.client.met) sr ∙ (ap (λ s. s.view.client.met) fr ∙ (alike.met ∙ (ap (λ z. z.view.client.met) same ∙ h.alike.met))) in
    let seen = ap (λ s. s.view.client.seen) sr ∙ (ap (λ s. s.view.client.seen) fr ∙ ((back g b).seen ∙ (ap (λ z. z.view.client.seen) same ∙ ap (λ (z : View). z.seen) h.client))) in
    root_grown c.args.seat.now.view c.set.new.seat.view c.unlock_again.new.seat.view c.unlock.new.seat.view l.0 o.0 g.A.Asks.ask (cr g k) x (word_was g k) (hold x.number (c.in-Some-reclaim.back + 2) (dr g k) ∷ []) places met seen (all_own g k) l.1 l.2 o.1 o.2

pub returns-clause-room : goal.returns-clause-room
returns-clause-room g c =
    let u = (goal.at.returns-clause-room g c).After-unlock_again in
    let k = led g u in
    let b = held_of g k in
    let l = linked g u in
    let x = r g b in
    let h = c.in-Some-lock_root_word.ensures.locked in
    let at_r = (first_word (place_at x) c.unlock_again.new.seat.book c.in-Some.others.now (alone g u).are c.index-others-0.result c.index-others-0.result (sym c.index-others-0.is)).0 in
    let o = grip_freed c.unlock_again.new.seat.view c.unlock_again.new.seat.book c.in-Some.others.now c.in-Some-reclaim.back (place_at x) (dr g k) (alone g u) c.index-others-0.result.key at_r StaysSame c.unlock.new.seat.view (c.in-Some-reclaim.back + 4) c.unlock.ensures.freed in
    ap (λ (v : Seen). v.room) o.1 ∙ (ap (λ (v : Seen). v.room) l.1 ∙ (ap (λ s. s.view.room) c.set.ensures.seat.others ∙ (ap (λ s. s.view.room) c.lay.ensures.seat.others ∙ ((back g b).alike.room ∙ (ap (λ z. z.view.room) c.get.ensures.seat.same ∙ h.alike.room)))))
