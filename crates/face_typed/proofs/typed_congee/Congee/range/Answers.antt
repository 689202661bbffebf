use Rattle.std.proofs.Common.{ℕ, List, ◌++◌, take, drop, ap, ◌∙◌, rules}
use Rattle.face_typed.proofs.Entries.{as_they_are}
use Rattle.face_typed.proofs.typed_congee.Congee.range.Goals as goal

pub returns-clause-written : goal.returns-clause-written
returns-clause-written g c =
    let written = c.range_of.ensures.written ∙ ap (λ (es : List (ℕ × ℕ)). take c.range_of.result es ++ drop c.range_of.result c.args.buffer.now) (as_they_are _) in
    rw (c.into_u64.ensures, c.into_u64-2.ensures) at written

pub returns-clause-count : goal.returns-clause-count
returns-clause-count g c = search rules
