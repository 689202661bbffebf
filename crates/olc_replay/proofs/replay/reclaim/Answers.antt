use Rattle.std.proofs.Common.{sym, subst, ap, ◌∙◌}
use Rattle.olc_machine.specs.inner.Inside.{inside}
use Rattle.spec_olc.specs.declared.types.Event.TheVariants.{Reclaim}
use Rattle.olc_state.proofs.Unlike.{false_true}
use Rattle.olc_replay.specs.declared.replay.Happened.{Happened}
use Rattle.olc_replay.specs.inner.Played.{IsHappening}
use Rattle.olc_replay.proofs.Happening.{reclaim_too_early, reclaim_made}
use Rattle.olc_replay.proofs.Numbers.{sound_meant, may_itself, freed_itself}
use Rattle.olc_replay.proofs.replay.reclaim.Goals as goal

pub reclaim-requires : goal.reclaim-requires
reclaim-requires g c = record { sound = sound_meant (inside g.A.Allocator.charge c.args.machine.now) c.requires.sound }

pub returns-then-not-reclaim : goal.returns-then-not-reclaim
returns-then-not-reclaim g c =
    let w = inside g.A.Allocator.charge c.args.machine.now in
    let after = inside g.A.Allocator.charge c.reclaim.new.self in
    subst (λ (h : Happened). IsHappening w (Reclaim c.args.slot) h.line h.decided after) (sym c.skipped.ensures)
    (reclaim_too_early w after c.args.slot (λ may. false_true (sym c.if-not-reclaim.true ∙ (c.reclaim.ensures.exactly).1 (may_itself w c.args.slot may)))
    (ap (inside g.A.Allocator.charge) (c.reclaim.ensures.other c.if-not-reclaim.true)))

pub returns : goal.returns
returns g c =
    let w = inside g.A.Allocator.charge c.args.machine.now in
    let after = inside g.A.Allocator.charge c.reclaim.new.self in
    reclaim_made w after c.args.slot _ (freed_itself w after c.args.slot _ (c.reclaim.ensures.freed c.if-not-reclaim.false))
