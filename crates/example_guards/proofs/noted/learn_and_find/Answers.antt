use Rattle.std.proofs.Common.{subst, sym, ◌∙◌}
use Rattle.example_guards.specs.Callers.{HandedOver}
use Rattle.example_guards.proofs.Turns.{learned, in_some_same}
use Rattle.example_guards.proofs.noted.learn_and_find.Goals as goal

pub returns : goal.returns
returns g c =
    let got = c.get.ensures.made in
    record {
      found = λ giver value is.
          subst (λ found. HandedOver giver c.args.taker.now.caller c.args.key value found c.get.new.guard.seen) (sym (got.1 ∙ in_some_same got.0))
          (learned c.args.key value (c.a_get_finds_what_was_inserted.ensures _) giver c.args.note.now.seen c.args.taker.now c.learn.new.self c.get.new.guard got.0 is c.learn.ensures.learned c.learn.ensures.seen got.2);
    }
