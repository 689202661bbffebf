use Rattle.std.proofs.Common.{rules, arith, ◌≡◌, refl, ap, length}
use Rattle.node_forms.proofs.GrowthLaws.{bytes-apart, sorted-none, sorted-row}
use Rattle.node_forms.proofs.SortedLaws.{length-sorted}
use Rattle.node_forms.proofs.node_48.Node48.grown_from_parts.Goals as goal

pub place_bytes-requires-clause-apart : goal.place_bytes-requires-clause-apart
place_bytes-requires-clause-apart g c =
    let n : c.len.result ≡ length c.args.row.now.items = search rules in
    bytes-apart c.requires.0 n

pub invariant_of-result : goal.invariant_of-result
invariant_of-result g c =
    let n : c.len.result ≡ length c.args.row.now.items = search rules in
    let index : c.in_ok-index.index.value ≡ c.place_bytes.new.index = search rules in
    let row : c.move_row.new.to.items ≡ c.args.row.now.items = search rules in
    let count : c.hand_over-base.result.count ≡ c.args.head.now.base.count = search rules in
    let e = sorted-row c.requires.0 n 48 c.place_bytes.new.index (omega arith) c.place_bytes.ensures.placed c.place_bytes.ensures.others c.hand_over-base.result.count c.move_row.new.to.items count row in
    rw index (e.0, search rules, search rules)

pub returns-clause-left : goal.returns-clause-left
returns-clause-left g c =
    let none : c.hand_over-base.new.self.count ≡ 0 = search rules in
    ((sorted-none c.requires.0 c.hand_over-base.new.self.count c.move_row.new.from.items none c.move_row.ensures.none).0, search rules, search rules)

pub returns-clause-children : goal.returns-clause-children
returns-clause-children g c =
    let n : c.len.result ≡ length c.args.row.now.items = search rules in
    let index : c.in_ok-index.index.value ≡ c.place_bytes.new.index = search rules in
    let row : c.move_row.new.to.items ≡ c.args.row.now.items = search rules in
    let e = sorted-row c.requires.0 n 48 c.place_bytes.new.index (omega arith) c.place_bytes.ensures.placed c.place_bytes.ensures.others c.args.head.now.base.count c.move_row.new.to.items refl row in
    rw index e.1

pub returns-clause-room : goal.returns-clause-room
returns-clause-room g c =
    let r = c.requires.0 in
    let n : c.len.result ≡ length c.args.row.now.items = search rules in
    let index : c.in_ok-index.index.value ≡ c.place_bytes.new.index = search rules in
    let row : c.move_row.new.to.items ≡ c.args.row.now.items = search rules in
    let e = sorted-row r n 48 c.place_bytes.new.index (omega arith) c.place_bytes.ensures.placed c.place_bytes.ensures.others c.args.head.now.base.count c.move_row.new.to.items refl row in
    rw index (omega (arith, ap length e.1, length-sorted r, r.within))

pub returns-clause-emptied : goal.returns-clause-emptied
returns-clause-emptied g c = (sorted-none c.requires.0 0 c.move_row.new.from.items refl c.move_row.ensures.none).1
