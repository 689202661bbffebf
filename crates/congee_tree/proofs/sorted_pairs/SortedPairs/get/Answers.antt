use Rattle.std.proofs.Common.{sym, ◌^◌}
use Rattle.congee_tree.proofs.Places.{lookup_found, lookup_in_gap}
use Rattle.congee_tree.proofs.sorted_pairs.SortedPairs.get.Goals as goal

-- the pair at the key's place was read
pub returns-in-Ok : goal.returns-in-Ok
returns-in-Ok g c =
    let at = rw c.deref.ensures.value at c.in-Ok.ensures.found in
    let found = lookup_found 0 (2 ^ 64) c.self.inside.pairs.items c.args.key c.in-Ok.at c.index.result.now c.self.invariant at c.index.ensures in
    rw (← c.self.view_is) (sym found)

-- the key is absent
pub returns-in-Err : goal.returns-in-Err
returns-in-Err g c =
    let gap = rw c.deref.ensures.value at c.in-Err.ensures.absent in
    rw (← c.self.view_is) (sym (lookup_in_gap 0 (2 ^ 64) c.self.inside.pairs.items c.args.key c.in-Err.field-0 c.self.invariant gap))
