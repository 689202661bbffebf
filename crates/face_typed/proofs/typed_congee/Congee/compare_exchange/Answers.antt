use Rattle.std.proofs.Common.{◌≡◌, ◌≢◌, Some, refl, rules}
use Rattle.spec_map.specs.Map.{lookup}
use Rattle.face_typed.proofs.Standing.{put_again}
use Rattle.face_typed.proofs.typed_congee.Congee.compare_exchange.Goals as goal

pub returns-in-Some-2-clause-other : goal.returns-in-Some-2-clause-other
returns-in-Some-2-clause-other g c current is differs =
    let here : lookup c.args.self.now.pairs c.into_u64.result ≡ Some current = rw c.into_u64.ensures is in
    let found : Some c.in-Some-2.number ≡ Some current = rw here at c.in-Some-2.ensures.before in
    let number : c.in-Some-2.number ≡ current = cc in
    let other : current ≢ c.into_u64-expected.result = rw c.into_u64-expected.ensures differs in (
      rw (c.from_u64.ensures, number) refl,
      put_again c.args.self.now.pairs c.exchange-current.new.self.pairs c.into_u64.result current c.exchange-current.ensures.ordered here
          (c.exchange-current.ensures.other current here other),
    )

pub returns-in-Some-clause-same : goal.returns-in-Some-clause-same
returns-in-Some-clause-same g c = search rules
