use Rattle.std.proofs.Common.{subst, sym, ◌∙◌}
use Rattle.example_guards.specs.Callers.{HandedOver}
use Rattle.example_guards.proofs.Turns.{handed, in_some_same}
use Rattle.example_guards.proofs.hand_over.hand_over.Goals as goal

pub returns : goal.returns
returns g c =
    let put = c.in_ok-insert.ensures.made in
    let got = c.get.ensures.made in
    record {
      found = subst (λ found. HandedOver c.args.giver.now.caller c.args.taker.now.caller c.args.key c.args.value found c.get.new.guard.seen) (sym (got.1 ∙ in_some_same got.0))
          (handed c.args.key c.args.value (c.a_get_finds_what_was_inserted.ensures _) c.args.giver.now c.insert.new.guard c.meet.new.a c.args.taker.now c.meet.new.b c.get.new.guard put.0 got.0 put.2 c.meet.ensures.first c.meet.ensures.second c.meet.ensures.one
          got.2);
    }
