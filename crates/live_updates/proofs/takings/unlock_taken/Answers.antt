use Rattle.std.proofs.Common.{arith, sym, ap, subst, ℕ, ◌≡◌, ◌+◌, ◌*◌, ◌/◌, ◌∙◌}
use Rattle.spec_node.specs.TableNode.{TableNode}
use Rattle.live_nodes.specs.Acts as acts
use Rattle.live_nodes.specs.Seats.{SeatView}
use Rattle.live_layout.specs.Page.{AreListed}
use Rattle.live_nodes.specs.Levels.{place_at}
use Rattle.live_nodes.specs.Views.{View}
use Rattle.live_nodes.specs.Tree.{IsMap}
use Rattle.live_reads.proofs.Views.{first_word}
use Rattle.live_growth.proofs.Locks.{may_free, is_freed}
use Rattle.live_updates.specs.Takings.{Takes}
use Rattle.live_updates.specs.inner.Losses.{Taking, taking_of, TakesOut}
use Rattle.live_updates.proofs.Taken.{leaf_takes}
use Rattle.live_updates.proofs.takings.unlock_taken.Given.{Over}
use Rattle.live_updates.proofs.takings.unlock_taken.Goals as goal
use Rattle.live_updates.proofs.takings.unlock_taken.Goals.{After-index-words-0}

at_k : (g : Over) (c : After-index-words-0 g) → c.requires.holds.spot.shape.key ≡ c.index-words-0.result.key
at_k g c = (first_word (place_at c.requires.holds.spot) c.args.seat.now.book c.args.words.now c.requires.holds.one.are c.index-words-0.result c.index-words-0.result (sym c.index-words-0.is)).0

pub unlock-requires-clause-frees : goal.unlock-requires-clause-frees
unlock-requires-clause-frees g c =
    let h = c.requires.holds in
    let id = c.args.seat.now.id in
    let v = c.args.seat.now.view in
    let part = c.args.part in
    let ps = c.args.pairs.now in
    let free = c.args.free in
    let even = c.requires.word.0 in
    let low = part.last in
    let takes = leaf_takes id v.client h.spot h.content h.one.own h.leaf (free + 4) (free / 4 + 1) (omega (arith, even)) h.draft h.long part.first (part.last + 1) (omega arith) ps
    (λ (n : TableNode ℕ) e f s. subst (λ (z : ℕ). AreListed n z part.first (part.last + 1) ps) h.base (h.listed n e f s)) h.left in
    let is : taking_of id (256 * h.spot.shape.top + part.first) (256 * h.spot.shape.top + (part.last + 1)) ps ≡ g.T.Takings.taking =
    ap (λ (z : ℕ). taking_of id (z + part.first) (z + (part.last + 1)) ps) (sym h.base) ∙ sym c.requires.taking in
    let frees = subst (λ (z : Taking). acts.Frees IsMap id v.client h.spot.number (free + 4) h.draft (TakesOut z v.client h.spot.number h.draft)) is takes in
    may_free v c.args.seat.now.book c.args.words.now free h.spot h.content h.draft h.one c.index-words-0.result.key (at_k g (goal.at.unlock-requires-clause-frees g c).After-index-words-0) (TakesOut g.T.Takings.taking) id (free + 4) frees

pub returns : goal.returns
returns g c =
    let h = c.requires.holds in
    let v = c.args.seat.now.view in
    let s = c.unlock.ensures.seat in
    let f = is_freed v c.args.seat.now.book c.args.words.now c.args.free h.spot h.content h.draft h.one c.index-words-0.result.key (at_k g (goal.at.returns g c).After-index-words-0) (TakesOut g.T.Takings.taking) c.unlock.new.seat.view (c.args.free + 4) c.unlock.ensures.freed in
    record {
      book = s.0;
      id = s.1;
      rest = record {
        own = ap (λ (z : SeatView View). z.client.own) f.1 ∙ ap (λ (z : View). z.own) f.2.is;
        holds = ap (λ (z : SeatView View). z.holds) f.1;
        alike = record {
          places = ap (λ (z : SeatView View). z.places) f.1;
          met = ap (λ (z : SeatView View). z.client.met) f.1 ∙ ap (λ (z : View). z.met) f.2.is;
          room = ap (λ (z : SeatView View). z.room) f.1;
        };
      };
      takes = subst (λ (z : Taking × View). Takes z.0.caller z.0.low z.0.high z.0.pairs v.client.seen z.1.seen) (λ i. (c.requires.taking i, sym (ap (λ (z : SeatView View). z.client) f.1) i)) f.2.takes;
    }
