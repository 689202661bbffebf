use Rattle.std.proofs.Common.{arith, ◌∙◌, ◌+◌}
use Rattle.live_layout.proofs.head.with_form.Goals as goal

pub returns : goal.returns
returns c = λ was prefix h. record {
  sized = c.with_lane.ensures.here ∙ omega (arith, c.lane_of.ensures, h.sized, h.short);
  short = h.short;
  bytes = λ i l. c.with_lane.ensures.others (i + 1) (omega arith) ∙ h.bytes i l;
}
