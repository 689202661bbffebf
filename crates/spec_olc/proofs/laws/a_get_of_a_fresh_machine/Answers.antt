use Rattle.std.proofs.Common.{refl}
use Rattle.spec_map.proofs.MapLaws.{lookup-put_same}
use Rattle.spec_olc.specs.State.{State, CallState, with_call}
use Rattle.spec_olc.proofs.Short.{started, taken, read, starts, takes, reads, checks, ends, decided}
use Rattle.spec_olc.proofs.laws.a_get_of_a_fresh_machine.Goals as goal

pub returns : goal.returns
returns g c = λ root id key charge env.
    let alike : Type 0 = g.P.Payload.always_shared in
    let found : State g.P.HasMeaning.Meaning = with_call (with_call (started alike g.P.HasMeaning.same_meaning root id key charge env) id (taken alike g.P.HasMeaning.same_meaning root id key charge env)) id (read alike g.P.HasMeaning.same_meaning root id key charge env) in
    let last : CallState g.P.HasMeaning.Meaning = decided alike g.P.HasMeaning.same_meaning root id key charge env in (
      _,
      _,
      _,
      _,
      _,
      starts alike g.P.HasMeaning.same_meaning root id key charge env,
      takes alike g.P.HasMeaning.same_meaning root id key charge env,
      reads alike g.P.HasMeaning.same_meaning root id key charge env,
      checks alike g.P.HasMeaning.same_meaning root id key charge env found refl,
      ends alike g.P.HasMeaning.same_meaning root id key charge env (with_call found id last) (lookup-put_same found.calls id last),
    )
