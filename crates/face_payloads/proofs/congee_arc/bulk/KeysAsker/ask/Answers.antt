use Rattle.std.proofs.Common.{refl}
use Rattle.face_payloads.proofs.congee_arc.bulk.KeysAsker.ask.Goals as goal

pub returns-clause-step : goal.returns-clause-step
returns-clause-step g c =
    let called = rw c.from_u64.ensures at c.f.ensures in
    record { shown = c.args.payload; shows = refl; called = called }
