use Rattle.std.proofs.Common.{◌≡◌, ◌++◌, replicate}
use Rattle.spec_olc.specs.declared.types.Event.TheVariants.{Step}
use Rattle.spec_text.specs.Events.{plain}
use Rattle.text_schedule.proofs.events.push_steps.Given as goal

abbrev pub invariant-loop : goal.invariant-loop
invariant-loop l = l.events.items ≡ l.initial.events.items ++ replicate l.counter (Step l.id plain)
