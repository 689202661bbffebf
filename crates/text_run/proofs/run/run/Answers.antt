use Rattle.std.proofs.Common.{◌≡◌, ℕ, List, [], Option, Some, None, Err, true, refl, ap, ◌∙◌}
use Rattle.std.specs.Io.KnownBytes.{Consumes}
use Rattle.text_lines.specs.declared.watched.Watched.{Watched}
use Rattle.text_run.specs.Run.{EndsRun}
use Rattle.text_run.specs.declared.run.RunError.{RunError}
use Rattle.text_run.specs.declared.run.RunError.TheVariants.{Read as ReadFailed, Write as WriteFailed, Oom}
use Rattle.text_run.specs.declared.session.Session.{Session}
use Rattle.text_run.specs.inner.Session.{TurnsTo}
use Rattle.text_run.proofs.Ending.{never_failed, serves_all, serves_whole, serves_first}
use Rattle.text_run.proofs.run.run.Goals as goal

-- no byte was read yet
consumes_none : (o : Option (List ℕ)) → Consumes o o []
consumes_none None = tt
consumes_none (Some xs) = refl

-- a turn that breaks off ends the run
breaks_off : {A R W : Type 0} (remaining : R → Option (List ℕ)) (contents : W → Option (List ℕ)) (s : Session A)
    (input input' : Watched R) (output output' : Watched W) (error : RunError)
    → TurnsTo remaining contents s input' output' (remaining input.inner) (contents output.inner) (Err error)
    → (error ≡ ReadFailed → (input'.failed ≡ true)) → (error ≡ WriteFailed → (output'.failed ≡ true))
    → EndsRun remaining contents input input' output output' (Err error)
breaks_off remaining contents s input input' output output' ReadFailed turned read written = (serves_whole turned, read refl)
breaks_off remaining contents s input input' output output' WriteFailed turned read written = (serves_first turned, written refl)
breaks_off remaining contents s input input' output output' Oom turned read written = absurd turned

pub loop-error-init : goal.loop-error-init
loop-error-init g c = record { runs = record { taken = []; reads = consumes_none _; serves = c.in-Ok.ensures _ }; input = refl; output = refl }

pub returns-in-Err : goal.returns-in-Err
returns-in-Err g c =
    breaks_off g.R.Read.remaining g.W.Write.contents c.turn.new.session c.args.input.now c.turn.new.input c.args.output.now c.turn.new.output c.in-Err.error
    (c.in-Err.ensures.turns _ _ c.loop-error.invariant.runs)
    (λ (same : c.in-Err.error ≡ ReadFailed). c.in-Err.ensures.read_failed (ap Err same))
    (λ (same : c.in-Err.error ≡ WriteFailed). c.in-Err.ensures.write_failed (ap Err same))

pub returns-in_default-finish : goal.returns-in_default-finish
returns-in_default-finish g c =
    let r = (c.in-Ok-false.ensures.turns _ _ c.loop-error.invariant.runs).0 in (
      serves_first (record { taken = r.taken; reads = r.reads; written = c.in_default-finish.ensures.err _ r.taken r.serves }),
      c.in_default-finish.ensures.failed,
    )

pub returns : goal.returns
returns g c =
    let t = c.in-Ok-false.ensures.turns _ _ c.loop-error.invariant.runs in (
      rw c.into_map.ensures (serves_all t.0.taken t.0.reads (c.in-Ok-finish.ensures.ok _ t.0.taken t.0.serves)),
      t.1 c.in-Ok-false.field-0-test,
      c.in-Ok-false.ensures.input ∙ c.loop-error.invariant.input ∙ never_failed _ c.requires.input,
      c.in-Ok-finish.ensures.kept ∙ c.in-Ok-false.ensures.output ∙ c.loop-error.invariant.output ∙ never_failed _ c.requires.output,
    )
