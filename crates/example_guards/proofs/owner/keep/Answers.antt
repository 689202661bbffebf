use Rattle.std.proofs.Common.{subst, sym, ◌∙◌}
use Rattle.example_guards.specs.Callers.{KeepsOwn}
use Rattle.example_guards.proofs.Turns.{kept, in_some_same}
use Rattle.example_guards.proofs.owner.keep.Goals as goal

pub returns : goal.returns
returns g c =
    let put = c.in_ok-insert.ensures.made in
    let got = c.get.ensures.made in
    record {
      own = subst (λ found. KeepsOwn c.args.guard.now c.args.key c.args.value found c.get.new.guard) (sym (got.1 ∙ in_some_same got.0))
          (kept c.args.key c.args.value (c.a_get_finds_what_was_inserted.ensures _) (c.an_owner_has_a_map_of_its_own.ensures _) c.args.guard.now c.insert.new.guard c.get.new.guard put.0 got.0 put.2 got.2);
    }
