use Rattle.std.proofs.Common.{◌≡◌, ◌++◌, vec_len, vec_capacity}
use Rattle.std.specs.List.{flat_map}
use Rattle.spec_text.specs.Bytes.{Sends}
use Rattle.spec_text.specs.Lines.{ended}
use Rattle.text_trace.specs.Detail.{lines_from}
use Rattle.text_trace.specs.inner.Kept.{HasRoom}
use Rattle.text_trace.proofs.Texts.{told_from}
use Rattle.text_trace.proofs.printing.put_events.Given as goal

abbrev pub invariant-loop-i : goal.invariant-loop-i
invariant-loop-i g l = record {
  sends : Sends (g.W.Write.contents l.fn.output.inner) (g.W.Write.contents l.output.inner)
      (l.fn.pending ++ flat_map ended (lines_from l.detail 1 l.fn.pairs.items l.events l.lines l.fn.decided))
      (l.pending ++ told_from l.detail l.i l.pairs.items l.events l.lines l.later);
  room : HasRoom l.detail (vec_len l.pairs) (vec_capacity l.pairs) l.later;
  kept : l.output.failed ≡ l.fn.output.failed;
}
