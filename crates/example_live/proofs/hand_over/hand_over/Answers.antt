use Rattle.std.proofs.Common.{nat_eq, subst, sym, ◌∙◌}
use Rattle.example_live.specs.Callers.{HandedOver}
use Rattle.example_live.proofs.Turns.{handed, same_option}
use Rattle.example_live.proofs.hand_over.hand_over.Goals as goal

pub returns : goal.returns
returns g c =
    let put = c.in_ok-insert.ensures.made in
    let got = c.get.ensures.made in
    record {
      found = subst (λ found. HandedOver c.args.giver.now.caller c.args.taker.now.caller c.args.key c.args.value found c.get.new.guard.seen) (sym (got.1 ∙ same_option got.0))
          (handed c.args.key c.args.value (c.a_get_finds_what_was_inserted.ensures nat_eq) c.args.giver.now c.insert.new.guard c.meet.new.a c.args.taker.now c.meet.new.b c.get.new.guard put.0 got.0 put.2 c.meet.ensures.first c.meet.ensures.second c.meet.ensures.one
          got.2);
    }
