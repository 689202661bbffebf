use Rattle.std.proofs.Common.{◌≡◌, ℕ, ◌++◌, List, Option, take}
use Rattle.text_run.specs.inner.Session.{HasAnswered}
use Rattle.text_run.proofs.session.Session.take_all.Given as goal

abbrev pub invariant-loop-byte : goal.invariant-loop-byte
invariant-loop-byte g l = record {
  serves : (old : Option (List ℕ)) (before : List ℕ)
      → HasAnswered l.fn.self.map.pairs l.fn.self.line l.fn.self.pending old (g.W.Write.contents l.fn.output.inner) before
      → HasAnswered l.self.map.pairs l.self.line l.self.pending old (g.W.Write.contents l.output.inner) (before ++ take l.byte-index l.bytes);
  kept : l.output.failed ≡ l.fn.output.failed;
}
