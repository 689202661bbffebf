use Rattle.std.proofs.Common.{◌^◌, sym, subst, arith}
use Rattle.std.proofs.lemmas.Result.{err_from_is_err_and}
use Rattle.spec_map.specs.Map.{IsMap}
use Rattle.spec_map.proofs.MapLaws.{Rises-put}
use Rattle.congee_tree.proofs.Places.{lookup_found, put_found, lookup_in_gap, put_in_gap}
use Rattle.congee_tree.proofs.sorted_pairs.SortedPairs.insert.Goals as goal

-- the key was present, and its pair is overwritten
pub invariant_of-self : goal.invariant_of-self
invariant_of-self g c =
    let at = rw c.deref.ensures.value at c.in-Ok.ensures.found in
    let m = c.self.inside.pairs.items in
    let put_is = put_found 0 (2 ^ 64) m c.args.key c.in-Ok.at (c.args.key, c.args.value) c.args.value c.self.invariant at in
    rw c.replace.ensures.after (subst IsMap put_is (Rises-put 0 (2 ^ 64) m c.args.key c.args.value c.self.invariant (omega arith) (omega arith)))

pub returns-in-Ok-clause-before : goal.returns-in-Ok-clause-before
returns-in-Ok-clause-before g c =
    let at = rw c.deref.ensures.value at c.in-Ok.ensures.found in
    let found = lookup_found 0 (2 ^ 64) c.self.inside.pairs.items c.args.key c.in-Ok.at c.index_mut-slot.result.now c.self.invariant at c.index_mut-slot.ensures.value in
    rw (← c.self.view_is, c.replace.ensures.value) (sym found)

pub returns-in-Ok-clause-ok : goal.returns-in-Ok-clause-ok
returns-in-Ok-clause-ok g c =
    let at = rw c.deref.ensures.value at c.in-Ok.ensures.found in
    let put_is = put_found 0 (2 ^ 64) c.self.inside.pairs.items c.args.key c.in-Ok.at (c.args.key, c.args.value) c.args.value c.self.invariant at in
    rw (← c.self.view_is, c.replace.ensures.after) (sym put_is)

-- the pair is added in the gap
pub invariant_of-self-in-Err : goal.invariant_of-self-in-Err
invariant_of-self-in-Err g c =
    let gap = rw c.deref.ensures.value at c.in-Err.ensures.absent in
    let m = c.self.inside.pairs.items in
    let put_is = put_in_gap m c.args.key c.in-Err.at c.args.value gap in
    rw c.in_ok-insert-in-Err.ensures.items (subst IsMap put_is (Rises-put 0 (2 ^ 64) m c.args.key c.args.value c.self.invariant (omega arith) (omega arith)))

pub returns-in_ok-insert-in-Err-clause-before : goal.returns-in_ok-insert-in-Err-clause-before
returns-in_ok-insert-in-Err-clause-before g c =
    let gap = rw c.deref.ensures.value at c.in-Err.ensures.absent in
    rw (← c.self.view_is) (sym (lookup_in_gap 0 (2 ^ 64) c.self.inside.pairs.items c.args.key c.in-Err.at c.self.invariant gap))

pub returns-in_ok-insert-in-Err-clause-ok : goal.returns-in_ok-insert-in-Err-clause-ok
returns-in_ok-insert-in-Err-clause-ok g c =
    let gap = rw c.deref.ensures.value at c.in-Err.ensures.absent in
    rw (← c.self.view_is, c.in_ok-insert-in-Err.ensures.items) (sym (put_in_gap c.self.inside.pairs.items c.args.key c.in-Err.at c.args.value gap))

-- memory is refused only for a key that was absent
pub returns-in_err-insert-in-Err-clause-refused : goal.returns-in_err-insert-in-Err-clause-refused
returns-in_err-insert-in-Err-clause-refused g c =
    let p = err_from_is_err_and c.from_residual.result c.from_residual.ensures.1 in
    let gap = rw c.deref.ensures.value at c.in-Err.ensures.absent in
    rw (p.1, ← c.self.view_is) (record { absent = lookup_in_gap 0 (2 ^ 64) c.self.inside.pairs.items c.args.key c.in-Err.at c.self.invariant gap })
