use Rattle.std.proofs.Common.{◌≡◌, ℕ, ◌+◌, refl, subst, ◌∙◌, arith}
use Rattle.live_layout.proofs.Seats.{stays-then}
use Rattle.live_layout.proofs.StandLaws.{if_some}
use Rattle.live_updates.specs.inner.Losses.{IsLeft}
use Rattle.live_updates.proofs.Left.{left_all, left_taken}
use Rattle.live_updates.proofs.Written.{encodes_few}
use Rattle.live_updates.proofs.takings.take_each.Goals as goal

pub loop-byte-init : goal.loop-byte-init
loop-byte-init g c = record {
  seat = record { still = c.requires.may; others = refl };
  long = c.requires.long;
  left = λ n e f. left_all (g.D.WriteWords.words c.args.draft.now c.args.seat.now) n c.args.first e;
}

pub take-requires-clause-few : goal.take-requires-clause-few
take-requires-clause-few g c =
    let s = c.requires.some in
    let l = c.loop-byte.invariant.left s.0 s.1 s.2 in
    encodes_few (g.D.WriteWords.words c.args.draft.now c.loop-byte.seat) l.its c.args.form (l.form ∙ s.2) l.encodes

pub loop-byte-preserved : goal.loop-byte-preserved
loop-byte-preserved g c =
    let i = c.loop-byte.invariant in
    let old = g.D.WriteWords.words c.args.draft.now c.loop-byte.seat in
    let new = g.D.WriteWords.words c.args.draft.now c.take.new.seat in record {
      seat = stays-then i.seat c.take.ensures.seat;
      long = c.take.ensures.long;
      left = λ n e f.
          let l = i.left n e f in
          left_taken old new n c.args.first c.loop-byte.byte (omega arith) l c.take.result (c.take.ensures.was l.its l.encodes (l.form ∙ f))
          (if_some c.take.result (λ _ wrote. wrote l.its l.encodes (l.form ∙ f)) c.take.ensures.is) c.take.ensures.none;
    }

pub returns-clause-is : goal.returns-clause-is
returns-clause-is g c = λ n e f.
    let end : c.loop-byte.byte ≡ c.args.last + 1 = omega arith in
    subst (λ (z : ℕ). IsLeft c.args.first z n (g.D.WriteWords.words c.args.draft.now c.loop-byte.seat)) end (c.loop-byte.invariant.left n e f)
