use Rattle.std.proofs.Common.{rules, arith, ◌≡◌, refl, ap, length, replicate}
use Rattle.node_base.specs.inner.Few.{listed}
use Rattle.node_forms.proofs.GrowthLaws.{sorted-longer, sorted-none}
use Rattle.node_forms.proofs.SortedLaws.{length-sorted}
use Rattle.node_forms.proofs.head_16.Head16.grown_from.Goals as goal

pub returns-clause-node : goal.returns-clause-node
returns-clause-node g c =
    let row : c.move_to.new.row.items ≡ listed c.args.row.now = search rules in
    let n : c.hand_over-base.result.count ≡ c.args.smaller.now.base.count = search rules in
    let keys : c.copy_from_slice.new.self ≡ c.args.smaller.now.keys = search rules in
    rw keys ((sorted-longer c.requires.0 (replicate 12 0) 16 c.hand_over-base.result.count c.move_to.new.row.items refl n row).0, search rules, search rules)

pub returns-clause-left : goal.returns-clause-left
returns-clause-left g c =
    let n : c.hand_over-base.new.self.count ≡ 0 = search rules in
    ((sorted-none c.requires.0 c.hand_over-base.new.self.count (listed c.move_to.new.self) n c.move_to.ensures.none).0, search rules)

pub returns-clause-children : goal.returns-clause-children
returns-clause-children g c =
    let row : c.move_to.new.row.items ≡ listed c.args.row.now = search rules in
    let keys : c.copy_from_slice.new.self ≡ c.args.smaller.now.keys = search rules in
    rw keys (sorted-longer c.requires.0 (replicate 12 0) 16 c.args.smaller.now.base.count c.move_to.new.row.items refl refl row).1

pub returns-clause-room : goal.returns-clause-room
returns-clause-room g c =
    let r = c.requires.0 in
    let row : c.move_to.new.row.items ≡ listed c.args.row.now = search rules in
    let keys : c.copy_from_slice.new.self ≡ c.args.smaller.now.keys = search rules in
    rw keys (omega (arith, ap length (sorted-longer r (replicate 12 0) 16 c.args.smaller.now.base.count c.move_to.new.row.items refl refl row).1, length-sorted r, r.within))

pub returns-clause-emptied : goal.returns-clause-emptied
returns-clause-emptied g c = (sorted-none c.requires.0 0 (listed c.move_to.new.self) refl c.move_to.ensures.none).1
