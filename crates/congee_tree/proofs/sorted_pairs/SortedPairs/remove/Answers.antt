use Rattle.std.proofs.Common.{◌^◌, sym, subst}
use Rattle.spec_map.specs.Map.{IsMap}
use Rattle.spec_map.proofs.MapLaws.{Rises-without, without-absent}
use Rattle.congee_tree.proofs.Places.{lookup_found, lookup_in_gap, without_found}
use Rattle.congee_tree.proofs.sorted_pairs.SortedPairs.remove.Goals as goal

-- the pair at the key's place is removed
pub invariant_of-self : goal.invariant_of-self
invariant_of-self g c =
    let at = rw c.deref.ensures.value at c.in-Ok.ensures.found in
    let m = c.self.inside.pairs.items in
    let without_is = without_found 0 (2 ^ 64) m c.args.key c.in-Ok.at c.remove.result c.self.invariant at in
    rw c.remove.ensures.items (subst IsMap without_is (Rises-without 0 (2 ^ 64) m c.args.key c.self.invariant))

pub returns-in-Ok-clause-before : goal.returns-in-Ok-clause-before
returns-in-Ok-clause-before g c =
    let at = rw c.deref.ensures.value at c.in-Ok.ensures.found in
    rw (← c.self.view_is) (sym (lookup_found 0 (2 ^ 64) c.self.inside.pairs.items c.args.key c.in-Ok.at c.remove.result c.self.invariant at c.remove.ensures.value))

pub returns-in-Ok-clause-pairs : goal.returns-in-Ok-clause-pairs
returns-in-Ok-clause-pairs g c =
    let at = rw c.deref.ensures.value at c.in-Ok.ensures.found in
    rw (← c.self.view_is, c.remove.ensures.items) (sym (without_found 0 (2 ^ 64) c.self.inside.pairs.items c.args.key c.in-Ok.at c.remove.result c.self.invariant at))

-- the key is absent
pub returns-in-Err-clause-before : goal.returns-in-Err-clause-before
returns-in-Err-clause-before g c =
    let gap = rw c.deref.ensures.value at c.in-Err.ensures.absent in
    rw (← c.self.view_is) (sym (lookup_in_gap 0 (2 ^ 64) c.self.inside.pairs.items c.args.key c.in-Err.field-0 c.self.invariant gap))

pub returns-in-Err-clause-pairs : goal.returns-in-Err-clause-pairs
returns-in-Err-clause-pairs g c =
    let gap = rw c.deref.ensures.value at c.in-Err.ensures.absent in
    rw (← c.self.view_is) (sym (without-absent _ c.args.key (lookup_in_gap 0 (2 ^ 64) c.self.inside.pairs.items c.args.key c.in-Err.field-0 c.self.invariant gap)))
