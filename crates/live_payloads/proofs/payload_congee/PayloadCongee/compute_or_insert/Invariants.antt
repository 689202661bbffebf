use Rattle.live_payloads.specs.Computes.{CalledAtOption}
use Rattle.live_updates.specs.Closures.{Reaches}
use Rattle.live_payloads.specs.Payloads.{KnowsMore}
use Rattle.live_payloads.specs.Tries.{Tried, ChangedNone}
use Rattle.live_payloads.proofs.payload_congee.PayloadCongee.compute_or_insert.Given as goal

-- no pair was changed, and the closure was called
abbrev pub invariant-loop : goal.invariant-loop
invariant-loop g l = record {
  callable : goal.F-IsAlwaysCallable g l.f;
  reached : Reaches (CalledAtOption g.F.FnMut) l.fn.f l.f;
  knows : KnowsMore l.fn.guard l.guard;
  tried : Tried (ChangedNone (g.K.Word.number l.fn.key)) l.fn.guard.tickets l.guard.tickets;
}
