use Rattle.std.proofs.Common.{ℕ, ◌++◌, List, take}
use Rattle.text_schedule.specs.inner.Reading.{HasReadBytes}
use Rattle.text_schedule.proofs.reading.Reading.take_all.Given as goal

abbrev pub invariant-loop-byte : goal.invariant-loop-byte
invariant-loop-byte l = (before : List ℕ) → HasReadBytes before l.fn.self → HasReadBytes (before ++ take l.byte-index l.bytes) l.self
