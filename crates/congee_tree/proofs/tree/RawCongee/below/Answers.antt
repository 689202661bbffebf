use Rattle.std.proofs.Common.{◌≡◌, ◌+◌, ◌-◌, ◌∙◌, ap, sym, arith}
use Rattle.spec_map.specs.Map.{between}
use Rattle.spec_map.specs.Near.{last_of}
use Rattle.spec_map.proofs.RangeLaws.{between-crossed}
use Rattle.congee_tree.proofs.tree.RawCongee.below.Goals as goal

pub returns-then-key-eq0 : goal.returns-then-key-eq0
returns-then-key-eq0 g c = ap (λ es. last_of es) (sym (between-crossed 0 c.args.key c.args.self.now.pairs (omega (arith, c.if-key-eq0.true))))

pub returns : goal.returns
returns g c =
    let same : c.args.key - 1 + 1 ≡ c.args.key = omega (arith, c.if-key-eq0.false) in
    c.floor.ensures ∙ ap (λ k. last_of (between c.args.self.now.pairs 0 k)) same
