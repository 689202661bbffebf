use Rattle.std.proofs.Common.{rules, sym, ap, subst, length, ℕ, Some, List, ◌∷◌, ◌≡◌, ◌+◌, ◌∙◌}
use Rattle.live_nodes.specs.Nodes.{Content}
use Rattle.live_nodes.specs.Seats.{Each, Hold, hold}
use Rattle.live_nodes.specs.Rows.{nth, draft_of}
use Rattle.live_layout.specs.Encodes.{words_of}
use Rattle.node_base.specs.declared.base_node.NodeType.{NodeType}
use Rattle.live_nodes.specs.Views.{Own, locked}
use Rattle.live_nodes.specs.Tree.{IsApart}
use Rattle.live_reads.specs.Paths.{AreNamed}
use Rattle.live_growth.specs.Holds.{HasLocked, HasWordOf, HoldsOne}
use Rattle.live_growth.proofs.Locks.{taken_by, holds_one, may_hold, draft_is, alike_then}
use Rattle.live_growth.proofs.Twos.{is_held, held_on, alike_same}
use Rattle.live_growth.proofs.two.lock_two.Goals as goal
use Rattle.live_growth.proofs.two.lock_two.Goals.{In_ok-free_above}

-- THE UPPER ONE is locked
module _ (c : In_ok-free_above) where
  upper : HasLocked c.args.seat.now.view c.lock_node.new.seat.view c.args.position.above c.args.key c.args.position.level c.in_ok-free_above.free_above
  upper =
      let locked : c.lock_node.result ≡ Some c.in_ok-free_above.free_above = search rules in
      taken_by c.lock_node.result c.in_ok-free_above.free_above locked (HasLocked c.args.seat.now.view c.lock_node.new.seat.view c.args.position.above c.args.key c.args.position.level) c.lock_node.ensures.locked

  are : AreNamed c.lock_node.new.seat.book c.args.position.above c.args.words_above.now
  are = subst (λ z. AreNamed z c.args.position.above c.args.words_above.now) (sym c.lock_node.ensures.book) c.requires.words.1

  one : HoldsOne c.lock_node.new.seat.view c.lock_node.new.seat.book c.args.words_above.now c.in_ok-free_above.free_above upper.names.spot upper.content upper.content
  one = holds_one c.args.seat.now.view c.lock_node.new.seat.view c.args.position.above c.args.key c.args.position.level c.in_ok-free_above.free_above upper c.lock_node.new.seat.book c.args.words_above.now are c.requires.rests.0 c.requires.rests.1

  drafted : draft_of (nth 0 c.lock_node.new.seat.view.holds) ≡ upper.content
  drafted = draft_is c.lock_node.new.seat.view c.lock_node.new.seat.book c.args.words_above.now c.in_ok-free_above.free_above upper.names.spot upper.content upper.content one

pub leads_to-requires-clause-may : goal.leads_to-requires-clause-may
leads_to-requires-clause-may c =
    let a = (goal.at.leads_to-requires-clause-may c).In_ok-free_above in
    let h = upper a in
    may_hold c.lock_node.new.seat.view c.lock_node.new.seat.book c.args.words_above.now c.in_ok-free_above.free_above h.names.spot h.content h.content (one a) h.long

pub leads_to-requires-clause-long : goal.leads_to-requires-clause-long
leads_to-requires-clause-long c =
    let a = (goal.at.leads_to-requires-clause-long c).In_ok-free_above in
    let h = upper a in
    let form = c.form_below.ensures h.names.spot.shape.key h.names.spot.shape.form h.names.named in
    ap (λ (z : Content). length z) (drafted a) ∙ (h.long ∙ ap words_of (sym form))

pub returns : goal.returns
returns c =
    let a = (goal.at.returns c).In_ok-free_above in
    let hp = upper a in
    let p = hp.names.spot in
    let w = c.lock_node.new.seat.view in
    let s = c.leads_to.new.seat.view in
    let u = c.lock_node-2.new.seat.view in
    let same = c.leads_to.ensures.seat.same in
    let t = c.lock_node-2.ensures in
    let locked_x : c.lock_node-2.result ≡ Some c.in-Some.free = search rules in
    let hx = taken_by c.lock_node-2.result c.in-Some.free locked_x (HasLocked s u c.args.position.name c.args.key c.args.position.height) t.locked in
    let still = subst (λ z. HoldsOne z.view z.book c.args.words_above.now c.in_ok-free_above.free_above p hp.content hp.content) (sym same) (one a) in
    let book = t.book ∙ (ap (λ z. z.book) same ∙ c.lock_node.ensures.book) in
    let are_x = subst (λ z. AreNamed z c.args.position.name c.args.words.now) (sym book) c.requires.words.0 in
    let held_p = is_held c.args.seat.now.view w c.args.position.above c.args.key c.args.position.level c.in_ok-free_above.free_above hp c.lock_node.new.seat.book c.args.words_above.now (are a) in
    let form = c.form_below.ensures p.shape.key p.shape.form hp.names.named in
    let leads : HasWordOf hp.content p.shape.form c.byte_at-byte.result c.args.position.name = subst (λ (z : Content × NodeType). HasWordOf z.0 z.1 c.byte_at-byte.result c.args.position.name) (λ i. (drafted a i, form i)) (c.leads_to.ensures.some (search rules)) in
    record {
      book = book;
      id = t.id ∙ (ap (λ z. z.id) same ∙ c.lock_node.ensures.id);
      seen = hx.seen ∙ (ap (λ z. z.view.client.seen) same ∙ hp.seen);
      two = (
        alike_then c.args.seat.now.view w u hp.alike (alike_then w s u (alike_same w s (ap (λ z. z.view) same)) hx.alike),
        record {
          two = record {
            below = hx.names.spot;
            above = p;
            content = hx.content;
            content_above = hp.content;
            own = hx.own ∙ ap (λ (os : List Own). locked hx.names.spot hx.content ∷ os) still.own;
            holds = hx.holds ∙ ap (λ (hs : List Hold). hold hx.names.spot.number (c.in-Some.free + 2) hx.content ∷ hs) still.holds;
            apart = (subst (Each (IsApart hx.names.spot.number)) still.own hx.apart).0;
            held = is_held s u c.args.position.name c.args.key c.args.position.height c.in-Some.free hx c.lock_node-2.new.seat.book c.args.words.now are_x;
            held_above = held_on w u c.lock_node.new.seat.book c.lock_node-2.new.seat.book c.args.words_above.now c.in_ok-free_above.free_above p hp.content (hx.alike.places ∙ ap (λ z. z.view.places) same) (t.book ∙ ap (λ z. z.book) same) held_p;
          };
          named = hx.names.named;
          named_above = hp.names.named;
          high = hx.names.high;
          high_above = hp.names.high;
          covers = hx.names.covers;
          covers_above = hp.names.covers;
          leads = subst (λ (z : ℕ). HasWordOf hp.content p.shape.form z c.args.position.name) c.byte_at-byte.ensures leads;
        },
      );
      none = tt;
    }
