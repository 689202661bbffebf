use Rattle.std.proofs.Common.{◌≡◌, ◌≢◌, refl, arith}
use Rattle.std.proofs.lemmas.Bool.{eq-eqb, ne_eqb}
use Rattle.text_trace.proofs.Places.{lookup_first, lookup_nowhere}
use Rattle.text_trace.proofs.content.exchange.Goals as goal

pub returns-in-None-clause-pairs : goal.returns-in-None-clause-pairs
returns-in-None-clause-pairs c =
    rw (lookup_nowhere c.args.key c.args.pairs.now.items (rw c.deref.ensures.value at c.in-None.ensures.absent)) refl

pub returns-then-index-old-clause-pairs : goal.returns-then-index-old-clause-pairs
returns-then-index-old-clause-pairs c =
    let read = c.index.result.now in
    let found = lookup_first c.args.key c.args.pairs.now.items c.in-Some.at read (rw c.deref.ensures.value at c.in-Some.ensures.found) c.index.ensures in
    let same : read.1 ≡ c.args.old = omega (arith, c.if-index-old.true) in
    rw (found, eq-eqb read.1 c.args.old same) c.put_answer.ensures.pairs

pub returns-else-index-old-clause-pairs : goal.returns-else-index-old-clause-pairs
returns-else-index-old-clause-pairs c =
    let read = c.index.result.now in
    let found = lookup_first c.args.key c.args.pairs.now.items c.in-Some.at read (rw c.deref.ensures.value at c.in-Some.ensures.found) c.index.ensures in
    let other : read.1 ≢ c.args.old = λ same. omega (arith, c.if-index-old.false, same) in
    rw (found, ne_eqb read.1 c.args.old other) refl
