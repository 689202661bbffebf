use Rattle.std.proofs.Common.{◌≡◌, ◌+◌, ◌≤◌, ◌++◌, length, take}
use Rattle.std.specs.List.{flat_map}
use Rattle.spec_text.specs.Bytes.{Sends}
use Rattle.spec_text.specs.Value.{pair_text}
use Rattle.text_lines.proofs.listing.put_pairs.Given as goal

abbrev pub invariant-loop-pair : goal.invariant-loop-pair
invariant-loop-pair g l = record {
  sends : Sends (g.W.Write.contents l.fn.output.inner) (g.W.Write.contents l.output.inner)
      (l.fn.pending ++ flat_map pair_text (take l.pair-index l.pairs)) l.pending;
  room : length l.pending + 16 ≤ 8192;
  kept : l.output.failed ≡ l.fn.output.failed;
}
