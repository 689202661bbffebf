use Rattle.std.proofs.Common.{◌≡◌, take}
use Rattle.live_faces.specs.Inserted.{HaveInserted}
use Rattle.live_faces.proofs.typed_congee.Congee.insert_many.Given as goal

-- those so far
abbrev pub invariant-loop-i : goal.invariant-loop-i
invariant-loop-i g l = (l.guard.book ≡ l.fn.guard.book) × HaveInserted g.K.Word.number g.V.Word.number (take l.i l.pairs) l.fn.guard l.guard
