use Rattle.std.proofs.Common.{arith, refl, sym, get_or, ◌/◌, ◌∙◌}
use Rattle.live_nodes.specs.Levels.{place_at}
use Rattle.live_reads.proofs.Finds.{keeps_then}
use Rattle.live_reads.proofs.Views.{first_word}
use Rattle.live_updates.proofs.Seeks.{LeadsAside, lacks_checked, lacks_later, may_part, part_lost, part_ends}
use Rattle.live_updates.proofs.lookup.leads_aside.Given.{Over}
use Rattle.live_updates.proofs.lookup.leads_aside.Goals as goal
use Rattle.live_updates.proofs.lookup.leads_aside.Goals.{After-index-here-0}

-- it leads on to a node whose path the key leaves
aside : (g : Over) (c : After-index-here-0 g) → LeadsAside c.watch.new.seat.view c.watch.new.seat.book c.args.here.words.now c.args.here.taken c.args.name c.args.key c.args.height (get_or c.args.here.words.now 0 c.index-here-0.result).key g.Q.Lookups.lookup
aside g c = let f = c.in-Some.ensures.aside.mismatched in record {
  node = f;
  high = c.requires.height.0;
  at_k = (first_word (place_at f.names.spot) c.watch.new.seat.book c.args.here.words.now f.are (get_or c.args.here.words.now 0 c.index-here-0.result) c.index-here-0.result refl).0;
  asked = c.requires.asks.0;
}

pub check-requires-clause-learns : goal.check-requires-clause-learns
check-requires-clause-learns g c =
    let a = aside g (goal.at.check-requires-clause-learns g c).After-index-here-0 in
    let free = a.node.free in
    may_part a c.requires.legal c.watch.new.seat.id (c.args.here.taken / 4) (c.requires.asks.1 ∙ sym c.watch.ensures.id) (omega (arith, free))

pub returns : goal.returns
returns g c =
    let a = aside g (goal.at.returns g c).After-index-here-0 in
    let v = c.args.seat.now.view in
    let w = c.watch.new.seat.view in
    let x = c.check.new.seat.view in
    let q = g.Q.Lookups.lookup in
    let s = c.watch.ensures in
    let told = c.check.ensures.checked in
    let seat = c.check.ensures.seat in
    let lacks = lacks_checked q c.check.result w x told.0 c.args.here.taken told.1 (part_ends a x told.0 told.2) (part_lost a x told.0 told.2) in
    record { book = seat.0 ∙ s.book; id = seat.1 ∙ s.id; keeps = keeps_then v w x s.keeps lacks.0; lacks = lacks_later q c.check.result v w x s.seen lacks.1 }
