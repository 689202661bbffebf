use Rattle.std.proofs.Common.{arith, sym, ap, subst, length, ℕ, Option, Some, None, List, [], ◌∷◌, ◌≡◌, ◌+◌, ◌/◌, ◌∙◌}
use Rattle.node_base.specs.declared.base_node.NodeType.{NodeType}
use Rattle.spec_node.specs.TableNode.{TableNode, Child}
use Rattle.spec_node.specs.declared.child.Child.TheVariants.{Node}
use Rattle.spec_map.specs.Map.{lookup}
use Rattle.word_book.specs.Book.{Book}
use Rattle.live_nodes.specs.Nodes.{Content}
use Rattle.live_nodes.specs.Seats.{SeatView, seat_view, Place, Hold, IsIn, hold}
use Rattle.live_nodes.specs.Acts as acts
use Rattle.live_nodes.specs.Rows.{AreOf, draft_of, nth}
use Rattle.live_layout.specs.Encodes.{words_of, Encodes, IsBelow, IsWord, in_form}
use Rattle.live_nodes.specs.Levels.{up, digit, Spot, place_at}
use Rattle.live_nodes.specs.Views.{View, locked, detached, rest_of}
use Rattle.live_nodes.specs.Tree.{IsMap, LinksAgain, StaysSame, again, left_again}
use Rattle.live_nodes.proofs.Joins.{link_grown}
use Rattle.live_nodes.proofs.Writes.{node_stays, node_retires}
use Rattle.live_reads.proofs.Views.{first_word}
use Rattle.live_growth.proofs.Grips.{Grips, grip_frees, grip_freed}
use Rattle.live_growth.proofs.Pairs.{change_done, at_result, grown_changes}
use Rattle.live_growth.proofs.Again.{first_frees, first_freed}
use Rattle.live_growth.proofs.Sources.{source_apart}
use Rattle.live_growth.proofs.Triples.{Triple, triple_first, triple_second, triple_third, triple_drafts, triple_filled, triple_wrote, triple_frees, triple_freed, regrown}
use Rattle.live_growth.proofs.Threes.{three_own, as_triple}
use Rattle.live_growth.proofs.replace.replace.Given.{Over}
use Rattle.live_growth.proofs.replace.replace.Goals as goal
use Rattle.live_growth.proofs.replace.replace.Goals.{After-form_below-other, After-resize, After-index-words_above-0, After-index-others-0, After-index-words-0}

abbrev Seen : Type 0
Seen = SeatView View

-- THREE NODES ARE LOCKED: the lower one, the upper one, and the one that is used again
module _ (g : Over) (c : After-form_below-other g) where
  abbrev x : Spot
  x = c.requires.three.lead.two.below

  abbrev p : Spot
  p = c.requires.three.lead.two.above

  abbrev r : Spot
  r = c.requires.three.reclaimed.spot

  abbrev cx : Content
  cx = c.requires.three.lead.two.content

  abbrev cp : Content
  cp = c.requires.three.lead.two.content_above

  form : c.form_below-form.result ≡ x.shape.form
  form = c.form_below-form.ensures x.shape.key x.shape.form c.requires.three.lead.named

  other : c.form_below-other.result ≡ r.shape.form
  other = c.form_below-other.ensures r.shape.key r.shape.form c.requires.three.reclaimed.named

  -- the seat holds them, with these drafts of the one that is used again and of the upper one
  abbrev Hold3 : Seen → Book → Content → Content → Type 0
  Hold3 v b dr dp = Triple v b c.args.spare.words.now c.args.words.now c.args.words_above.now c.args.spare.free c.args.two.free c.args.two.free_above r x p dr cx dp

  three : Hold3 c.args.seat.now.view c.args.seat.now.book c.requires.three.reclaimed.content cp
  three = as_triple c.requires.three

-- it is filled
module _ (g : Over) (c : After-resize g) where
  abbrev start : After-form_below-other g
  start = (goal.at.After-resize g c).After-form_below-other

  filled : Hold3 g start c.resize.new.seat.view c.resize.new.seat.book (draft_of (nth 0 c.resize.new.seat.view.holds)) (cp g start)
  filled = let others = c.resize.ensures.seat.others in triple_filled (three g start) c.resize.new.seat.view c.resize.new.seat.book (ap (λ s. s.book) others) (ap (λ s. s.view) others)

-- the upper one leads to it
module _ (g : Over) (c : After-index-words_above-0 g) where
  abbrev resized : After-resize g
  resized = (goal.at.After-index-words_above-0 g c).After-resize

  abbrev given : After-form_below-other g
  given = start g resized

  abbrev dr : Content
  dr = draft_of (nth 0 c.resize.new.seat.view.holds)

  abbrev cr : Content
  cr = draft_of (nth 0 c.change.new.seat.view.holds)

  abbrev dp : Content
  dp = draft_of (nth 2 c.change.new.seat.view.holds)

  wrote : Hold3 g given c.change.new.seat.view c.change.new.seat.book dr dp
  wrote = let others = c.change.ensures.seat.others in triple_wrote (filled g resized) c.change.new.seat.view c.change.new.seat.book (ap (λ s. s.book) others) (ap (λ s. s.view) others)

  same_draft : cr ≡ dr
  same_draft = (triple_drafts wrote).0

  all_own : c.change.new.seat.view.client.own ≡ detached (r g given) ∷ locked (x g given) (cx g given) ∷ locked (p g given) (cp g given) ∷ []
  all_own = ap (λ s. s.view.client.own) c.change.ensures.seat.others ∙ (ap (λ s. s.view.client.own) c.resize.ensures.seat.others ∙ three_own c.requires.three)

  at_p : (p g given).shape.key ≡ c.index-words_above-0.result.key
  at_p = (first_word (place_at (p g given)) c.change.new.seat.book c.args.words_above.now wrote.are_p c.index-words_above-0.result c.index-words_above-0.result (sym c.index-words_above-0.is)).0

  links : acts.Frees IsMap c.change.new.seat.id c.change.new.seat.view.client (p g given).number (c.args.two.free_above + 4) dp (LinksAgain g.A.Asks.ask cr c.change.new.seat.view.client (p g given).number dp)
  links =
      let q = g.A.Asks.ask in
      let asks = c.requires.asks in
      let ht = c.requires.height in
      let th = c.requires.three in
      let l = th.lead in
      let h = l.two.held_above in
      let form_p = c.form_below-above.ensures (p g given).shape.key (p g given).shape.form l.named_above in
      let at_key = ap (λ (z : ℕ × ℕ). digit z.0 z.1) (λ i. (sym l.high_above i, sym asks.0 i)) in
      let under = subst (λ z. IsBelow (lookup h.its.children z) (Some l.leads.0)) (sym c.byte_at-byte.ensures) (l.leads.1 h.its h.encodes h.in_form) in
      let there = λ (none : lookup h.its.children c.byte_at-byte.result ≡ None). subst (λ (z : Option (Child ℕ)). IsBelow z (Some l.leads.0)) none under in
      let named = λ (k : TableNode ℕ) (encodes : Encodes (cp g given) k) (formed : k.form ≡ (p g given).shape.form). subst (λ z. IsBelow (lookup k.children z) (Some l.leads.0)) at_key (l.leads.1 k encodes formed) in
      let spells = λ (t : ℕ) (e : IsWord l.leads.0 (Node t)). l.leads.2 t e ∙ l.named in
      let was = (triple_drafts (filled g resized)).2 in
      let before = draft_of (nth 2 c.resize.new.seat.view.holds) in
      let changed = change_done c.change.result (cp g given) before was h.its h.encodes c.form_below-above.result (h.in_form ∙ sym form_p) c.byte_at-byte.result there c.change.ensures.was in
      let changes = grown_changes q (cp g given) before was dp c.form_below-above.result (p g given) (again q (r g given)) c.byte_at-byte.result (c.byte_at-byte.ensures ∙ at_key) form_p c.word_below.result c.args.spare.name c.word_below.ensures.child th.reclaimed.named c.args.position.level l.high_above (omega (arith, ht)) (at_result c.change.result changed c.change.ensures.is) in
      let covers_p = ap (up (p g given).shape.height) asks.0 ∙ l.covers_above in
      let covers_x = ap (up (x g given).shape.height) asks.0 ∙ l.covers in
      let lower_draft = (triple_drafts (three g given)).1 in
      let resizes = λ (k : TableNode ℕ) (encodes : Encodes (cx g given) k) (formed : k.form ≡ (x g given).shape.form). subst (λ (z : List ℕ × NodeType). Encodes z.0 (in_form k z.1)) (λ i. (sym same_draft i, other g given i)) (c.resize.ensures.is k (subst (λ z. Encodes z k) (sym lower_draft) encodes) (formed ∙ sym (form g given))) in
      let high_p = l.high_above in
      let even = h.even in
      link_grown q c.change.new.seat.id c.change.new.seat.view.client (r g given) (x g given) (p g given) cr (cx g given) (cp g given) all_own (c.args.two.free_above + 4) (c.args.two.free_above / 4 + 1) (omega (arith, even)) dp
      (omega (arith, asks.1, high_p, ht)) (omega (arith, asks.1, ht)) covers_p (l.high ∙ sym asks.1) covers_x (c.change.ensures.long ∙ ap words_of form_p) changes l.leads.0 named spells resizes

-- it is in use
module _ (g : Over) (c : After-index-others-0 g) where
  abbrev led : After-index-words_above-0 g
  led = (goal.at.After-index-others-0 g c).After-index-words_above-0

  abbrev given_of : After-form_below-other g
  given_of = given g led

  abbrev r_of : Spot
  r_of = r g given_of

  abbrev x_of : Spot
  x_of = x g given_of

  abbrev hold_x : Hold
  hold_x = hold x_of.number (c.args.two.free + 2) (cx g given_of)

  abbrev hold_r : Hold
  hold_r = hold r_of.number (c.args.spare.free + 2) (dr g led)

  linked : (e : View) × (c.unlock_again.new.seat.view ≡ seat_view e c.change.new.seat.view.places c.change.new.seat.view.reads (hold_r ∷ hold_x ∷ []) c.change.new.seat.view.room) × LinksAgain g.A.Asks.ask (cr g led) c.change.new.seat.view.client (p g given_of).number (dp g led) e
  linked = triple_freed (wrote g led) c.index-words_above-0.result.key (at_p g led) (LinksAgain g.A.Asks.ask (cr g led)) c.unlock_again.new.seat.view (c.args.two.free_above + 4) c.unlock_again.ensures.freed

  linked_own : c.unlock_again.new.seat.view.client.own ≡ locked (again g.A.Asks.ask r_of) (cr g led) ∷ detached x_of ∷ []
  linked_own = ap (λ (k : Seen). k.client.own) linked.1 ∙ (ap (λ (k : View). k.own) linked.2 ∙ ap (left_again g.A.Asks.ask (cr g led)) (all_own g led))

  linked_holds : c.unlock_again.new.seat.view.holds ≡ hold_r ∷ hold_x ∷ []
  linked_holds = ap (λ (k : Seen). k.holds) linked.1

  linked_places : c.unlock_again.new.seat.view.places ≡ c.change.new.seat.view.places
  linked_places = ap (λ (k : Seen). k.places) linked.1

  placed_r : IsIn (place_at r_of) c.unlock_again.new.seat.view.places
  placed_r = subst (λ (ps : List Place). IsIn (place_at r_of) ps) (sym linked_places) (wrote g led).placed_r

  at_r : r_of.shape.key ≡ c.index-others-0.result.key
  at_r =
      let are = subst (λ k. AreOf (place_at r_of) k c.args.spare.words.now) (sym c.unlock_again.ensures.seat.0) (wrote g led).are_r in
      (first_word (place_at r_of) c.unlock_again.new.seat.book c.args.spare.words.now are c.index-others-0.result c.index-others-0.result (sym c.index-others-0.is)).0

-- it is free
module _ (g : Over) (c : After-index-words-0 g) where
  abbrev used : After-index-others-0 g
  used = (goal.at.After-index-words-0 g c).After-index-others-0

  freed : (e : View) × (c.unlock.new.seat.view ≡ seat_view e c.unlock_again.new.seat.view.places c.unlock_again.new.seat.view.reads (hold_x g used ∷ []) c.unlock_again.new.seat.view.room) × StaysSame c.unlock_again.new.seat.view.client (r_of g used).number (dr g (led g used)) e
  freed = first_freed c.unlock_again.new.seat.view (r_of g used) c.args.spare.free (dr g (led g used)) (hold_x g used ∷ []) (linked_holds g used) (placed_r g used) c.index-others-0.result.key (at_r g used) StaysSame ((wrote g (led g used)).x_r, tt) c.unlock.new.seat.view (c.args.spare.free + 4) c.unlock.ensures.freed

  grip : Grips c.unlock.new.seat.view c.unlock.new.seat.book c.args.words.now c.args.two.free (place_at (x_of g used)) (cx g (given_of g used))
  grip = record {
    holds = ap (λ (k : Seen). k.holds) freed.1;
    placed = subst (λ (ps : List Place). IsIn (place_at (x_of g used)) ps) (sym (ap (λ (k : Seen). k.places) freed.1 ∙ linked_places g used)) (wrote g (led g used)).placed_x;
    are = subst (λ k. AreOf (place_at (x_of g used)) k c.args.words.now) (sym (c.unlock.ensures.seat.0 ∙ c.unlock_again.ensures.seat.0)) (wrote g (led g used)).are_x;
  }

  at_x : (x_of g used).shape.key ≡ c.index-words-0.result.key
  at_x = (first_word (place_at (x_of g used)) c.unlock.new.seat.book c.args.words.now grip.are c.index-words-0.result c.index-words-0.result (sym c.index-words-0.is)).0

pub resize-requires-clause-asks : goal.resize-requires-clause-asks
resize-requires-clause-asks g c =
    let a = (goal.at.resize-requires-clause-asks g c).After-form_below-other in
    subst (λ (z : NodeType × NodeType × Content). g.R.Resizes.asks z.0 z.1 z.2) (λ i. (sym (form g a) i, sym (other g a) i, sym (triple_drafts (three g a)).1 i)) c.requires.three.resizes

pub resize-requires-clause-may : goal.resize-requires-clause-may
resize-requires-clause-may g c =
    let a = (goal.at.resize-requires-clause-may g c).After-form_below-other in
    (triple_second (three g a) c.requires.three.lead.two.held.long, triple_first (three g a) c.requires.three.reclaimed.long)

pub resize-requires-clause-apart : goal.resize-requires-clause-apart
resize-requires-clause-apart g c =
    λ s t same may. source_apart c.args.words.now s.book t.book s.view t.view (ap (λ z. z.book) same) (ap (λ z. z.view.places) same) (ap (λ z. z.view.holds) same) may

pub resize-requires-clause-long : goal.resize-requires-clause-long
resize-requires-clause-long g c =
    let a = (goal.at.resize-requires-clause-long g c).After-form_below-other in
    let th = c.requires.three in
    let drafts = triple_drafts (three g a) in
    (ap (λ (z : List ℕ). length z) drafts.1 ∙ (th.lead.two.held.long ∙ ap words_of (sym (form g a))), ap (λ (z : List ℕ). length z) drafts.0 ∙ (th.reclaimed.long ∙ ap words_of (sym (other g a))))

pub change-requires-clause-may : goal.change-requires-clause-may
change-requires-clause-may g c = triple_third (filled g (goal.at.change-requires-clause-may g c).After-resize) c.requires.three.lead.two.held_above.long

pub change-requires-clause-long : goal.change-requires-clause-long
change-requires-clause-long g c =
    let a = (goal.at.change-requires-clause-long g c).After-resize in
    let l = c.requires.three.lead in
    let form_p = c.form_below-above.ensures l.two.above.shape.key l.two.above.shape.form l.named_above in
    ap (λ (z : List ℕ). length z) (triple_drafts (filled g a)).2 ∙ (l.two.held_above.long ∙ ap words_of (sym form_p))

pub unlock_again-requires-clause-frees : goal.unlock_again-requires-clause-frees
unlock_again-requires-clause-frees g c =
    let a = (goal.at.unlock_again-requires-clause-frees g c).After-index-words_above-0 in
    triple_frees (wrote g a) c.index-words_above-0.result.key (at_p g a) (LinksAgain g.A.Asks.ask (cr g a)) c.change.new.seat.id (c.args.two.free_above + 4) (links g a)

pub unlock-requires-clause-frees : goal.unlock-requires-clause-frees
unlock-requires-clause-frees g c =
    let a = (goal.at.unlock-requires-clause-frees g c).After-index-others-0 in
    let m = led g a in
    let even = c.requires.three.reclaimed.even in
    let stays = node_stays c.unlock_again.new.seat.id c.unlock_again.new.seat.view.client (again g.A.Asks.ask (r_of g a)) (cr g m) (detached (x_of g a) ∷ []) (linked_own g a) ((wrote g m).x_r, tt) (c.args.spare.free + 4) (c.args.spare.free / 4 + 1) (omega (arith, even)) (dr g m) (sym (same_draft g m)) in
    first_frees c.unlock_again.new.seat.view (r_of g a) c.args.spare.free (dr g m) (hold_x g a ∷ []) (linked_holds g a) (placed_r g a) c.index-others-0.result.key (at_r g a) StaysSame c.unlock_again.new.seat.id (c.args.spare.free + 4) stays

-- the word of the lower one that is written last
pub retire-requires-clause-frees : goal.retire-requires-clause-frees
retire-requires-clause-frees g c =
    let a = (goal.at.retire-requires-clause-frees g c).After-index-words-0 in
    let u = used g a in
    let h = c.requires.three.lead.two.held in
    let even = h.even in
    let own = ap (λ (k : Seen). k.client.own) (freed g a).1 ∙ (ap (λ (k : View). k.own) (freed g a).2 ∙ ap rest_of (linked_own g u)) in
    let retires = node_retires c.unlock.new.seat.id c.unlock.new.seat.view.client (x_of g u) [] own tt (c.args.two.free + 3) (c.args.two.free / 4) (omega (arith, even)) (cx g (given_of g u)) h.long in
    grip_frees c.unlock.new.seat.view c.unlock.new.seat.book c.args.words.now c.args.two.free (place_at (x_of g u)) (cx g (given_of g u)) (grip g a) c.index-words-0.result.key (at_x g a) StaysSame c.unlock.new.seat.id (c.args.two.free + 3) retires

pub returns : goal.returns
returns g c =
    let a = (goal.at.returns g c).After-index-words-0 in
    let u = used g a in
    let m = led g u in
    let s = given_of g u in
    let f = freed g a in
    let l = linked g u in
    let last = grip_freed c.unlock.new.seat.view c.unlock.new.seat.book c.args.words.now c.args.two.free (place_at (x_of g u)) (cx g s) (grip g a) c.index-words-0.result.key (at_x g a) StaysSame c.retire.new.seat.view (c.args.two.free + 3) c.retire.ensures.freed in
    let pr = c.change.ensures.seat.others in
    let fr = c.resize.ensures.seat.others in
    let e = c.retire.ensures.seat in
    let grown = regrown c.args.seat.now.view c.change.new.seat.view c.unlock_again.new.seat.view c.unlock.new.seat.view c.retire.new.seat.view l.0 f.0 last.0 g.A.Asks.ask (cr g m) (r_of g u) (x_of g u) (p g s) (cx g s) (cp g s) (hold_r g u ∷ hold_x g u ∷ []) (hold_x g u ∷ [])
    (ap (λ z. z.view.places) pr ∙ ap (λ z. z.view.places) fr) (ap (λ z. z.view.client.met) pr ∙ ap (λ z. z.view.client.met) fr) (ap (λ z. z.view.client.seen) pr ∙ ap (λ z. z.view.client.seen) fr) (all_own g m) l.1 l.2 f.1 f.2 last.1 last.2 in record {
      seat = (
        e.0 ∙ (c.unlock.ensures.seat.0 ∙ (c.unlock_again.ensures.seat.0 ∙ (ap (λ z. z.book) pr ∙ ap (λ z. z.book) fr))),
        e.1 ∙ (c.unlock.ensures.seat.1 ∙ (c.unlock_again.ensures.seat.1 ∙ (ap (λ z. z.id) pr ∙ ap (λ z. z.id) fr))),
      );
      grown = grown;
      room = ap (λ (k : Seen). k.room) last.1 ∙ (ap (λ (k : Seen). k.room) f.1 ∙ (ap (λ (k : Seen). k.room) l.1 ∙ (ap (λ z. z.view.room) pr ∙ ap (λ z. z.view.room) fr)));
    }
