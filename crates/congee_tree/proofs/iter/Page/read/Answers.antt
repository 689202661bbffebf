use Rattle.std.proofs.Common.{◌+◌, ◌++◌, take, ap, sym, ◌∙◌, arith, refl}
use Rattle.spec_map.proofs.RangeLaws.{between-crossed}
use Rattle.congee_tree.specs.Bulk.{unread_pairs}
use Rattle.congee_tree.proofs.PageLaws.{short_page, full_page}
use Rattle.congee_tree.proofs.iter.Page.read.Goals as goal
use Rattle.congee_tree.proofs.iter.Page.read.Goals.{then-key-last, else-key-last}

pub returns-then-self-lt-PAGE-clause-pairs : goal.returns-then-self-lt-PAGE-clause-pairs
returns-then-self-lt-PAGE-clause-pairs g c =
    let e = c.range_inclusive-self-inside.ensures in
    short_page _ _ _ _ e.count e.written c.self.invariant.2 c.if-self-lt-PAGE.true

pub returns-clause-pairs : goal.returns-clause-pairs
returns-clause-pairs g c =
    let e = c.range_inclusive-self-inside.ensures in
    let m = c.args.tree.now.pairs in
    let page = take c.range_inclusive-self-inside.result c.range_inclusive-self-inside.new.buffer in
    let full = full_page _ _ _ _ e.count e.written c.self.invariant.2 _ c.args.start (c.args.last + 1) m (0, 0) c.law_ordered.ensures refl c.if-self-lt-PAGE.false in
    elim c.if-key-last.branch [
      | then-key-last w ↦ ap (λ unread. page ++ unread_pairs m unread) w.result-is ∙ full
      | else-key-last w ↦
          ap (λ unread. page ++ unread_pairs m unread) w.result-is
          ∙ ap (λ others. page ++ others) (sym (between-crossed _ (c.args.last + 1) m (omega (arith, w.if-key-last.false))))
          ∙ full
    ]
