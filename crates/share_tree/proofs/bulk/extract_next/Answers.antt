use Rattle.congee_tree.proofs.BulkLaws.{present}
use Rattle.share_tree.proofs.bulk.extract_next.Goals as goal

pub unreachable-requires : goal.unreachable-requires
unreachable-requires g c =
    present _ c.args.start c.args.end c.in-Some.key c.in-Some.ensures c.in_default-removed.ensures.before
