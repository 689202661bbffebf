use Rattle.std.proofs.Common.{◌≡◌, ◌∙◌, sym, slice_get, Some, ap}
use Rattle.word_slots.specs.declared.log.LogEntry.TheVariants.{Issued}
use Rattle.word_slots.proofs.Logs.{get_prefix}
use Rattle.word_slots.proofs.log.agree.Goals as goal

pub returns : goal.returns
returns g c = record {
  once = λ ticket v w a b.
      let new = c.learn.new.self.log in
      let pre = c.learn.ensures.3 in
      let rule = c.learn.ensures.4.1 in
      let x = get_prefix c.args.seen.now.log new pre a.0 (Issued ticket v) a.1 in
      let y = get_prefix c.args.seen.now.log new pre b.0 (Issued ticket w) b.1 in
      let same = rule.once a.0 b.0 ticket v w x y in
      let both : Some (Issued ticket v) ≡ Some (Issued ticket w) = sym x ∙ (ap (λ i. slice_get new i) same ∙ y) in
      cc (both);
}
