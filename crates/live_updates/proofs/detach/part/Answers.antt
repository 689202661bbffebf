use Rattle.std.proofs.Common.{arith, sym, ap, subst, length, ℕ, Some, List, [], ◌∷◌, ◌≡◌, ◌+◌, ◌/◌, ◌∙◌}
use Rattle.spec_node.specs.TableNode.{TableNode}
use Rattle.spec_node.specs.declared.child.Child.TheVariants.{Node}
use Rattle.spec_map.specs.Map.{lookup}
use Rattle.live_nodes.specs.Nodes.{Content}
use Rattle.live_nodes.specs.Seats.{SeatView, seat_view, Place, IsIn, hold}
use Rattle.live_nodes.specs.Acts as acts
use Rattle.live_nodes.specs.Rows.{AreOf, draft_of, nth}
use Rattle.live_layout.specs.Encodes.{words_of, Encodes, IsBelow, IsWord, IsCounted}
use Rattle.live_nodes.specs.Levels.{digit, Spot, place_at}
use Rattle.live_nodes.specs.Views.{View, locked, detached, rest_of}
use Rattle.live_nodes.specs.Tree.{IsMap, StaysSame}
use Rattle.live_nodes.proofs.Writes.{node_retires}
use Rattle.live_growth.proofs.Locks.{alike_then}
use Rattle.live_growth.proofs.Grips.{Grips, grip_frees, grip_freed}
use Rattle.live_reads.proofs.Views.{first_word}
use Rattle.live_growth.proofs.Pairs.{Pair, pair_wrote, pair_frees, pair_freed, few_counted}
use Rattle.live_updates.specs.Unlinks.{Unlinks, left_out}
use Rattle.live_updates.proofs.Unlinks.{Loses, unlink}
use Rattle.live_growth.proofs.Twos.{as_pair, upper_may, upper_draft, upper_long, alike_same, alike_wrote, alike_freed}
use Rattle.live_updates.proofs.Twos.{loses}
use Rattle.live_updates.proofs.detach.part.Goals as goal
use Rattle.live_updates.proofs.detach.part.Goals.{After-form_below-form, After-index-words_above-0, After-index-words-0}

abbrev Seen : Type 0
Seen = SeatView View

-- TWO NODES ARE LOCKED, the lower one and the upper one
module _ (c : After-form_below-form) where
  abbrev x : Spot
  x = c.requires.parts.lead.two.below

  abbrev p : Spot
  p = c.requires.parts.lead.two.above

  abbrev cx : Content
  cx = c.requires.parts.lead.two.content

  abbrev cp : Content
  cp = c.requires.parts.lead.two.content_above

  form : c.form_below-form.result ≡ p.shape.form
  form = c.form_below-form.ensures p.shape.key p.shape.form c.requires.parts.lead.named_above

-- the upper one is written
module _ (c : After-index-words_above-0) where
  abbrev start : After-form_below-form
  start = (goal.at.After-index-words_above-0 c).After-form_below-form

  abbrev d : Content
  d = draft_of (nth 1 c.fill_of-left.new.seat.view.holds)

  wrote : Pair c.fill_of-left.new.seat.view c.fill_of-left.new.seat.book c.args.words.now c.args.words_above.now c.args.two.free c.args.two.free_above (x start) (place_at (p start)) (cx start) d
  wrote =
      let others = c.take.ensures.seat.others in
      subst (λ s. Pair s.view s.book c.args.words.now c.args.words_above.now c.args.two.free c.args.two.free_above (x start) (place_at (p start)) (cx start) (draft_of (nth 1 s.view.holds))) (sym c.fill_of-left.ensures.seat.same)
      (pair_wrote _ _ _ _ _ _ _ _ _ _ (as_pair c.requires.parts.lead.two) c.take.new.seat.view c.take.new.seat.book (ap (λ s. s.book) others) (ap (λ s. s.view) others))

  wrote_client : c.fill_of-left.new.seat.view.client ≡ c.args.seat.now.view.client
  wrote_client = ap (λ s. s.view.client) c.fill_of-left.ensures.seat.same ∙ ap (λ s. s.view.client) c.take.ensures.seat.others

  all_own : c.fill_of-left.new.seat.view.client.own ≡ locked (x start) (cx start) ∷ locked (p start) (cp start) ∷ []
  all_own = ap (λ (t : View). t.own) wrote_client ∙ c.requires.parts.lead.two.own

  at_p : (p start).shape.key ≡ c.index-words_above-0.result.key
  at_p = (first_word (place_at (p start)) c.fill_of-left.new.seat.book c.args.words_above.now wrote.are_p c.index-words_above-0.result c.index-words_above-0.result (sym c.index-words_above-0.is)).0

  unlinks : acts.Frees IsMap c.fill_of-left.new.seat.id c.fill_of-left.new.seat.view.client (p start).number (c.args.two.free_above + 4) d (Unlinks c.fill_of-left.new.seat.view.client (p start).number d)
  unlinks =
      let l = c.requires.parts.lead in
      let h = l.two.held_above in
      let looked = sym c.fill_of-left.ensures.seat.same in
      let lost_then = loses c.take.result (cp start) (draft_of (nth 1 c.args.seat.now.view.holds)) (upper_draft l.two) (draft_of (nth 1 c.take.new.seat.view.holds)) c.form_below-form.result (p start) (form start) c.byte_at.result c.args.key c.args.position.level c.byte_at.ensures l.high_above l.leads.0 l.leads.1 h.its h.encodes h.in_form c.take.ensures.was c.take.ensures.is in
      let lost = subst (λ s. Loses (p start) (cp start) (draft_of (nth 1 s.view.holds)) c.args.key) looked lost_then in
      let long = subst (λ s. length (draft_of (nth 1 s.view.holds)) ≡ words_of (p start).shape.form) looked (c.take.ensures.long ∙ ap words_of (form start)) in
      let named = λ (k : TableNode ℕ) (encodes : Encodes (cp start) k) (formed : k.form ≡ (p start).shape.form). subst (λ (t : ℕ). IsBelow (lookup k.children (digit t c.args.key)) (Some l.leads.0)) (sym l.high_above) (l.leads.1 k encodes formed) in
      let spells = λ (t : ℕ) (e : IsWord l.leads.0 (Node t)). l.leads.2 t e ∙ l.named in
      let ht = c.requires.height in
      let high_x = l.high in
      let high_p = l.high_above in
      let even = h.even in
      unlink c.fill_of-left.new.seat.id c.fill_of-left.new.seat.view.client c.args.key (x start) (p start) (cx start) (cp start) all_own (c.args.two.free_above + 4) (c.args.two.free_above / 4 + 1) (omega (arith, even)) d
      (omega (arith, ht, high_x, high_p)) (omega (arith, ht, high_x)) long lost l.leads.0 named spells c.requires.parts.none

-- the lower one is taken out
module _ (c : After-index-words-0) where
  abbrev led : After-index-words_above-0
  led = (goal.at.After-index-words-0 c).After-index-words_above-0

  abbrev x_of : Spot
  x_of = x (start led)

  abbrev cx_of : Content
  cx_of = cx (start led)

  unlinked : (e : View) × (c.unlock.new.seat.view ≡ seat_view e c.fill_of-left.new.seat.view.places c.fill_of-left.new.seat.view.reads (hold x_of.number (c.args.two.free + 2) cx_of ∷ []) c.fill_of-left.new.seat.view.room) × Unlinks c.fill_of-left.new.seat.view.client (p (start led)).number (d led) e
  unlinked = pair_freed _ _ _ _ _ _ _ _ _ _ (wrote led) c.index-words_above-0.result.key (at_p led) Unlinks c.unlock.new.seat.view (c.args.two.free_above + 4) c.unlock.ensures.freed

  grip : Grips c.unlock.new.seat.view c.unlock.new.seat.book c.args.words.now c.args.two.free (place_at x_of) cx_of
  grip = record {
    holds = ap (λ (t : Seen). t.holds) unlinked.1;
    placed = subst (λ (ps : List Place). IsIn (place_at x_of) ps) (sym (ap (λ (t : Seen). t.places) unlinked.1)) (wrote led).placed_x;
    are = subst (λ t. AreOf (place_at x_of) t c.args.words.now) (sym c.unlock.ensures.seat.0) (wrote led).are_x;
  }

  own : c.unlock.new.seat.view.client.own ≡ detached x_of ∷ []
  own = ap (λ (t : Seen). t.client.own) unlinked.1 ∙ (ap (λ (t : View). t.own) unlinked.2 ∙ ap left_out (all_own led))

  at_x : x_of.shape.key ≡ c.index-words-0.result.key
  at_x = (first_word (place_at x_of) c.unlock.new.seat.book c.args.words.now grip.are c.index-words-0.result c.index-words-0.result (sym c.index-words-0.is)).0

pub take-requires-clause-may : goal.take-requires-clause-may
take-requires-clause-may c = upper_may c.requires.parts.lead.two

pub take-requires-clause-long : goal.take-requires-clause-long
take-requires-clause-long c = upper_long c.requires.parts.lead.two c.form_below-form.result (form (goal.at.take-requires-clause-long c).After-form_below-form)

pub take-requires-clause-few : goal.take-requires-clause-few
take-requires-clause-few c =
    let h = c.requires.parts.lead.two in
    let formed = h.held_above.in_form ∙ sym (form (goal.at.take-requires-clause-few c).After-form_below-form) in
    subst (IsCounted c.form_below-form.result) (sym (upper_draft h)) (few_counted c.form_below-form.result h.content_above h.held_above.its h.held_above.encodes formed)

pub unlock-requires-clause-frees : goal.unlock-requires-clause-frees
unlock-requires-clause-frees c =
    let a = (goal.at.unlock-requires-clause-frees c).After-index-words_above-0 in
    pair_frees _ _ _ _ _ _ _ _ _ _ (wrote a) c.index-words_above-0.result.key (at_p a) Unlinks c.fill_of-left.new.seat.id (c.args.two.free_above + 4) (unlinks a)

pub retire-requires-clause-frees : goal.retire-requires-clause-frees
retire-requires-clause-frees c =
    let a = (goal.at.retire-requires-clause-frees c).After-index-words-0 in
    let h = c.requires.parts.lead.two.held in
    let even = h.even in
    let retires = node_retires c.unlock.new.seat.id c.unlock.new.seat.view.client (x_of a) [] (own a) tt (c.args.two.free + 3) (c.args.two.free / 4) (omega (arith, even)) (cx_of a) h.long in
    grip_frees c.unlock.new.seat.view c.unlock.new.seat.book c.args.words.now c.args.two.free (place_at (x_of a)) (cx_of a) (grip a) c.index-words-0.result.key (at_x a) StaysSame c.unlock.new.seat.id (c.args.two.free + 3) retires

pub returns : goal.returns
returns c =
    let a = (goal.at.returns c).After-index-words-0 in
    let z = c.fill_of-left.new.seat.view in
    let y = c.retire.new.seat.view in
    let looked = c.fill_of-left.ensures.seat.same in
    let others = c.take.ensures.seat.others in
    let e = c.retire.ensures.seat in
    let f = unlinked a in
    let o = grip_freed c.unlock.new.seat.view c.unlock.new.seat.book c.args.words.now c.args.two.free (place_at (x_of a)) (cx_of a) (grip a) c.index-words-0.result.key (at_x a) StaysSame y (c.args.two.free + 3) c.retire.ensures.freed in
    let wrote_alike = alike_then c.args.seat.now.view c.take.new.seat.view z (alike_wrote 1 c.args.seat.now.view c.take.new.seat.view (ap (λ s. s.view) others)) (alike_same c.take.new.seat.view z (ap (λ s. s.view) looked)) in
    let freed_alike = alike_then z c.unlock.new.seat.view y (alike_freed z c.unlock.new.seat.view f.0 _ f.1 (ap (λ (t : View). t.met) f.2)) (alike_freed c.unlock.new.seat.view y o.0 _ o.1 (ap (λ (t : View). t.met) o.2)) in
    record {
      book = e.0 ∙ (c.unlock.ensures.seat.0 ∙ (ap (λ s. s.book) looked ∙ ap (λ s. s.book) others));
      id = e.1 ∙ (c.unlock.ensures.seat.1 ∙ (ap (λ s. s.id) looked ∙ ap (λ s. s.id) others));
      rest = record {
        own = ap (λ (t : Seen). t.client.own) o.1 ∙ (ap (λ (t : View). t.own) o.2 ∙ ap rest_of (own a));
        holds = ap (λ (t : Seen). t.holds) o.1;
        alike = alike_then c.args.seat.now.view z y wrote_alike freed_alike;
      };
      seen = ap (λ (t : Seen). t.client.seen) o.1 ∙ (ap (λ (t : View). t.seen) o.2 ∙ (ap (λ (t : Seen). t.client.seen) f.1 ∙ (ap (λ (t : View). t.seen) f.2 ∙ ap (λ (t : View). t.seen) (wrote_client (led a)))));
    }
