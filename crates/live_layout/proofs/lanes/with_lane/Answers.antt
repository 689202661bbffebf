use Rattle.std.proofs.Common.{rules, ap, get_or, set, ◌≡◌, ◌∙◌}
use Rattle.std.specs.Int.{w64, to_le_bytes}
use Rattle.std.proofs.lemmas.Nat.{le_bytes_8}
use Rattle.std.proofs.lemmas.List.{get_or-set_same, get_or-set_other}
use Rattle.live_layout.specs.Words.{lane}
use Rattle.live_layout.proofs.lanes.with_lane.Goals as goal

pub returns-clause-here : goal.returns-clause-here
unfolding lane
returns-clause-here c =
    let bs = c.to_le_bytes-bytes.result in
    let back : to_le_bytes w64 c.from_le_bytes.result ≡ set bs c.args.j c.args.byte = le_bytes_8 (set bs c.args.j c.args.byte) c.from_le_bytes.result (search rules) (search rules) c.from_le_bytes.ensures in
    ap (λ l. get_or l c.args.j 0) back ∙ get_or-set_same bs c.args.j c.args.byte 0 (search rules)

pub returns-clause-others : goal.returns-clause-others
unfolding lane
returns-clause-others c = λ k other.
    let bs = c.to_le_bytes-bytes.result in
    let back : to_le_bytes w64 c.from_le_bytes.result ≡ set bs c.args.j c.args.byte = le_bytes_8 (set bs c.args.j c.args.byte) c.from_le_bytes.result (search rules) (search rules) c.from_le_bytes.ensures in
    ap (λ l. get_or l k 0) back ∙ get_or-set_other bs c.args.j k c.args.byte 0 other ∙ ap (λ l. get_or l k 0) c.to_le_bytes-bytes.ensures
