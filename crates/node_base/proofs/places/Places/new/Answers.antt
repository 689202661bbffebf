use Rattle.std.proofs.Common.{rules, ◌≡◌, ◌∙◌, Option, None, replicate, sym, ap}
use Rattle.std.proofs.lemmas.List.{get_or-replicate, length-replicate}
use Rattle.node_base.specs.inner.Places.{bit_of}
use Rattle.node_base.proofs.MarkLaws.{none-set}
use Rattle.node_base.proofs.places.Places.new.Goals as goal

pub invariant_of-result : goal.invariant_of-result
invariant_of-result g c =
    let mask : c.in_ok-mask.mask.value ≡ replicate 4 0 = search rules in
    rw (mask, c.in_ok-cells.ensures) (record {
      long = length-replicate {A = Option g.row.C.Denot} 256 None;
      marked = λ b l. none-set 4 b ∙ ap bit_of (sym (get_or-replicate 256 b None None l));
    })
