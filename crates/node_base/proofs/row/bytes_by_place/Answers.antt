use Rattle.std.proofs.Common.{rules, arith, ◌<◌, ◌∙◌, ap, sym, get_or, set, length, slice_index, inl, inr, length-set}
use Rattle.std.proofs.lemmas.Bool.{cases_eq}
use Rattle.std.proofs.lemmas.List.{get_or-set_same, get_or-set_other}
use Rattle.node_base.proofs.row.bytes_by_place.Goals as goal

pub loop-b-preserved : goal.loop-b-preserved
loop-b-preserved c =
    let index = c.args.index.now in
    let b = c.loop-b.b in
    let small : b < 256 = search rules in
    let byte : slice_index index b < 256 = search rules in
    let inside : slice_index index b < length c.loop-b.bytes = omega (arith, byte, c.loop-b.invariant.long) in
    record {
      long = length-set c.loop-b.bytes (get_or index b 0) b ∙ c.loop-b.invariant.long;
      placed = λ k l alone. elim (cases_eq k b) [
        | inl same ↦ ap (λ x. get_or (set c.loop-b.bytes (get_or index b 0) b) (get_or index x 0) 0) same ∙ get_or-set_same c.loop-b.bytes (get_or index b 0) b 0 inside ∙ sym same
        | inr other ↦ get_or-set_other c.loop-b.bytes (get_or index b 0) (get_or index k 0) b 0 (λ e. other (sym (alone b small (sym e)))) ∙ c.loop-b.invariant.placed k (omega arith) alone
      ];
    }
