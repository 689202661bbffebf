use Rattle.std.proofs.Common.{◌∙◌, ◌+◌, sym, nat_eq, refl, eq-eqb}
use Rattle.word_owners.proofs.Lists.{not_in}
use Rattle.word_owners.proofs.row.is_announced.Goals as goal

pub returns : goal.returns
returns c =
    let x = c.args.ticket + 2 in
    record { absent = λ e has. not_in (λ y. nat_eq y x) x (eq-eqb x x refl) c.args.numbers.now (sym c.contains.ensures.value ∙ e) has }
