use Rattle.std.proofs.Common.{◌∙◌, ◌∷◌, [], sym, ap, subst, refl, arith}
use Rattle.word_book.specs.Book.{Name}
use Rattle.word_hazards.specs.Views.{In}
use Rattle.word_hazards.specs.Steps.{scanning}
use Rattle.word_owners.proofs.Lists.{in_left, in_last}
use Rattle.word_owners.proofs.Handles.{found_then}
use Rattle.word_owners.proofs.owners.Owners.look.Goals as goal

pub returns-then-number-ge2-clause-found : goal.returns-then-number-ge2-clause-found
returns-then-number-ge2-clause-found c =
    let v = c.args.seat.now.view in let n = c.scan-number.result in let before = c.args.found.now.items in let items = c.push_reserved.ensures.items in
    let e = c.scan-number.ensures.scanned ∙ ap (λ (h : Name). scanning v h.key n) c.hazard.ensures in
    found_then v c.scan-number.new.seat.view c.args.hazard n before c.push_reserved.new.self.items e c.requires.found (λ x has. subst (In x) (sym items) (in_left x before (n ∷ []) has))
    (λ low. subst (In n) (sym items) (in_last n n before refl))

pub returns-else-number-ge2-clause-found : goal.returns-else-number-ge2-clause-found
returns-else-number-ge2-clause-found c =
    let v = c.args.seat.now.view in let n = c.scan-number.result in let before = c.args.found.now.items in
    let e = c.scan-number.ensures.scanned ∙ ap (λ (h : Name). scanning v h.key n) c.hazard.ensures in
    found_then v c.scan-number.new.seat.view c.args.hazard n before before e c.requires.found (λ x has. has) (λ low. let few = c.if-number-ge2.false in absurd (omega (arith, low, few)))
