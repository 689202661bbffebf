use Rattle.std.proofs.Common.{rules, arith, refl, ℕ, List, Option, None, ◌≡◌, subst, ◌∙◌}
use Rattle.share_rule.specs.History.{Entry}
use Rattle.live_nodes.specs.Seats.{place}
use Rattle.live_reads.specs.Roots.{SeesRoot, Begins}
use Rattle.live_reads.proofs.Finds.{keeps_then}
use Rattle.live_scans.proofs.seek.start.Goals as goal

pub root_begun-requires-clause-root_word : goal.root_begun-requires-clause-root_word
root_begun-requires-clause-root_word c = c.loop.invariant.keeps.places (place 0 1 1) c.requires.root_word

pub returns-in-Some : goal.returns-in-Some
returns-in-Some c =
    let u = c.args.seat.now.view in
    let i = c.loop.invariant in
    let v = c.loop.seat.view in
    let w = c.root_begun.new.seat.view in
    let t = c.in-Some.ensures in
    let began = subst (λ (z : ℕ × List (Entry ℕ)). Begins z.0 z.1 w.client.seen) (λ j. (i.id j, i.seen j)) t.root in
    record {
      book = t.book ∙ i.book;
      id = t.id ∙ i.id;
      keeps = keeps_then u v w i.keeps t.keeps;
      starts = (began, refl, refl, (omega arith, omega arith, t.named));
    }

pub loop-preserved : goal.loop-preserved
loop-preserved c =
    let u = c.args.seat.now.view in
    let i = c.loop.invariant in
    let v = c.loop.seat.view in
    let w = c.root_begun.new.seat.view in
    let t = c.root_begun.ensures in
    let out : c.root_begun.result ≡ None = search rules in
    record {
      book = t.book ∙ i.book;
      id = t.id ∙ i.id;
      keeps = keeps_then u v w i.keeps t.keeps;
      seen = subst (λ (o : Option ℕ). SeesRoot (Begins c.loop.seat.id) v w o) out t.root ∙ i.seen;
    }
