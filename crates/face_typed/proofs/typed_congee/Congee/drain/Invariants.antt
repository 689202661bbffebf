use Rattle.std.proofs.Common.{length}
use Rattle.std.specs.List.{FoldsTo}
use Rattle.face_typed.proofs.typed_congee.Congee.drain.Given as goal

abbrev pub invariant-loop-key : goal.invariant-loop-key
invariant-loop-key g l =
    goal.F-IsAlwaysCallable g l.f
    × ((last : _)
    → FoldsTo (λ state pair next. goal.F-step g state (g.K.Word.of_number pair.0) (g.V.Word.of_number pair.1) tt next) l.f l.pairs last
    → FoldsTo (λ state pair next. goal.F-step g state (g.K.Word.of_number pair.0) (g.V.Word.of_number pair.1) tt next) l.fn.f l.fn.self.pairs last)

abbrev pub decreases-loop-key : goal.decreases-loop-key
decreases-loop-key g l = length l.pairs
