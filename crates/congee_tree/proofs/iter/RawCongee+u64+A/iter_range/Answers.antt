use Rattle.std.proofs.Common.{◌≡◌, ◌+◌, ◌-◌, ◌++◌, ap, sym, ◌∙◌, arith}
use Rattle.spec_map.specs.Map.{between}
use Rattle.spec_map.proofs.RangeLaws.{between-crossed}
use Rattle.congee_tree.specs.Bulk.{unread_pairs}
use Rattle.congee_tree.proofs.iter.RawCongee+u64+A.iter_range.Goals as goal
use Rattle.congee_tree.proofs.iter.RawCongee+u64+A.iter_range.Goals.{then-end-eq0, else-end-eq0}

pub returns : goal.returns
returns g c =
    let m = c.args.self.now.pairs in
    ap (λ page. page ++ unread_pairs m c.if-end-eq0.unread) c.new.ensures
    ∙ elim c.if-end-eq0.branch [
      | then-end-eq0 w ↦ ap (λ unread. unread_pairs m unread) w.unread-is ∙ sym (between-crossed c.args.start c.args.end m (omega (arith, w.if-end-eq0.true)))
      | else-end-eq0 w ↦
          let same : c.args.end - 1 + 1 ≡ c.args.end = omega (arith, w.if-end-eq0.false) in
          ap (λ unread. unread_pairs m unread) w.unread-is ∙ ap (λ end. between m c.args.start end) same
    ]
