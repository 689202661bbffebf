use Rattle.std.proofs.Common.{ap, sym, arith}
use Rattle.tree_walk.specs.Scan.{first_number}
use Rattle.congee_tree.proofs.BulkLaws.{first_before, none_before, nothing_from}
use Rattle.congee_tree.proofs.tree.RawCongee.key_between.Goals as goal

pub returns-in-Some : goal.returns-in-Some
returns-in-Some g c =
    first_before c.args.self.now.pairs c.args.start c.args.end c.in-Some.key (omega arith) c.in-Some.ensures c.if-key-end.true

pub returns-in_default : goal.returns-in_default
returns-in_default g c =
    sym (ap first_number (none_before 0 c.args.self.now.pairs c.args.start c.args.end c.in-Some.key c.law_ordered.ensures c.in-Some.ensures c.if-key-end.false))

pub returns-in_default-2 : goal.returns-in_default-2
returns-in_default-2 g c =
    sym (ap first_number (nothing_from 0 c.args.self.now.pairs c.args.start c.args.end c.law_ordered.ensures c.in_default.ensures))
