use Rattle.std.proofs.Common.{arith, ◌≡◌, ◌≤◌, ◌==◌, not, take, length, get_or, Some, sym, ◌∙◌, ap}
use Rattle.std.specs.List.{prefix_len}
use Rattle.node_forms.proofs.SearchLaws.{find-there, none-found}
use Rattle.node_forms.proofs.head_16.Head16Head.get_child.Goals as goal

pub returns-then-i-count-clause-found : goal.returns-then-i-count-clause-found
returns-then-i-count-clause-found g c =
    let r = c.requires.0 in
    let l : length c.args.row.now.items ≤ length c.args.self.now.keys = omega (arith, r.long, r.within) in
    let n : c.value_count-count.result ≡ length c.args.row.now.items = c.value_count-count.ensures ∙ c.requires.0.counted in
    let at : c.find-i.result ≡ prefix_len (λ x. not (x == c.args.byte)) (take (length c.args.row.now.items) c.args.self.now.keys) = c.find-i.ensures ∙ ap (λ m. prefix_len (λ x. not (x == c.args.byte)) (take m c.args.self.now.keys)) n in
    let d = c.index.result.now in
    (ap Some (c.index.ensures ∙ ap (λ j. get_or c.args.row.now.items j d) at) ∙ sym (find-there c.args.self.now.keys c.args.row.now.items c.args.byte d l (omega (arith, c.if-i-count.true, n, at))))

pub returns-else-i-count-clause-found : goal.returns-else-i-count-clause-found
returns-else-i-count-clause-found g c =
    let n : c.value_count-count.result ≡ length c.args.row.now.items = c.value_count-count.ensures ∙ c.requires.0.counted in
    (sym (none-found c.requires.0 n c.args.byte c.find-i.ensures c.if-i-count.false))
