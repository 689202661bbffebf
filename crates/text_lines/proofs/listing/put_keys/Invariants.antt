use Rattle.std.proofs.Common.{◌≡◌, ◌+◌, ◌≤◌, ◌++◌, length, take}
use Rattle.std.specs.List.{flat_map}
use Rattle.spec_text.specs.Bytes.{Sends}
use Rattle.spec_text.specs.Value.{key_text}
use Rattle.text_lines.proofs.listing.put_keys.Given as goal

abbrev pub invariant-loop-key : goal.invariant-loop-key
invariant-loop-key g l = record {
  sends : Sends (g.W.Write.contents l.fn.output.inner) (g.W.Write.contents l.output.inner)
      (l.fn.pending ++ flat_map key_text (take l.key-index l.keys)) l.pending;
  room : length l.pending + 16 ≤ 8192;
  kept : l.output.failed ≡ l.fn.output.failed;
}
