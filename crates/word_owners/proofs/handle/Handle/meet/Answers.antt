use Rattle.std.proofs.Common.{◌≡◌, ◌∙◌, ap, sym, subst}
use Rattle.word_hazards.specs.Views.{View, HasLent, HasIssued, HasReclaimed}
use Rattle.word_owners.specs.Known.{Known}
use Rattle.word_owners.proofs.Handles.{left, still}
use Rattle.word_owners.proofs.handle.Handle.meet.Goals as goal

pub invariant_of-self : goal.invariant_of-self
invariant_of-self c =
    let inv = c.self.invariant in let v = c.self.inside.seat.view in let w = c.law_two.new.a.view in let same = c.law_two.ensures.seats.0 ∙ c.law_one.ensures.seat.1 in
    (still v w c.self.inside.hazard c.self.inside.retired.items c.self.inside.current c.self.inside.found.items (left v w same) inv.0, inv.1, inv.2, inv.3)

pub invariant_of-other : goal.invariant_of-other
invariant_of-other c =
    let inv = c.other.invariant in let v = c.other.inside.seat.view in let w = c.law_two.new.b.view in
    (still v w c.other.inside.hazard c.other.inside.retired.items c.other.inside.current c.other.inside.found.items (left v w c.law_two.ensures.seats.1) inv.0, inv.1, inv.2, inv.3)

mine : (c : goal.After-law_two) → c.law_one.new.a.view ≡ c.args.self.now.view
mine c = c.law_one.ensures.seat.1 ∙ ap (λ (k : Known). k.view) c.self.view_is

pub returns-clause-kept : goal.returns-clause-kept
returns-clause-kept c = λ t has back.
    let other = ap (λ (k : Known). k.view) c.other.view_is in
    c.law_two.ensures.kept t (subst (λ (v : View). HasLent v t) (sym (mine c)) has) (subst (λ (v : View). HasReclaimed v t) (sym other) back)

pub returns-clause-own : goal.returns-clause-own
returns-clause-own c = λ t has back.
    let self = ap (λ (k : Known). k.view) c.self.view_is in c.law_one.ensures.kept t (subst (λ (v : View). HasLent v t) (sym self) has) (subst (λ (v : View). HasReclaimed v t) (sym self) back)

pub returns-clause-owner : goal.returns-clause-owner
returns-clause-owner c = λ t o p x y.
    let other = ap (λ (k : Known). k.view) c.other.view_is in
    c.law_two.ensures.owner t o p (subst (λ (v : View). HasIssued v t o) (sym (mine c)) x) (subst (λ (v : View). HasIssued v t p) (sym other) y)

pub returns-clause-own_owner : goal.returns-clause-own_owner
returns-clause-own_owner c = λ t o p x y.
    let self = ap (λ (k : Known). k.view) c.self.view_is in c.law_one.ensures.owner t o p (subst (λ (v : View). HasIssued v t o) (sym self) x) (subst (λ (v : View). HasIssued v t p) (sym self) y)

pub returns-clause-once : goal.returns-clause-once
returns-clause-once c = λ t x y.
    let other = ap (λ (k : Known). k.view) c.other.view_is in
    c.law_two.ensures.once t (subst (λ (v : View). HasReclaimed v t) (sym (mine c)) x) (subst (λ (v : View). HasReclaimed v t) (sym other) y)
