use Rattle.std.proofs.Common.{ap, sym, subst}
use Rattle.word_hazards.specs.Views.{View, HasLent, HasIssued, HasReclaimed}
use Rattle.live_owners.specs.Owners.{OwnersKnown}
use Rattle.live_owners.proofs.handle.OwnersHandle.meet.Goals as goal

pub returns-clause-kept : goal.returns-clause-kept
returns-clause-kept c = λ t has back.
    let self = ap (λ (k : OwnersKnown). k.owners) c.self.view_is in
    let other = ap (λ (k : OwnersKnown). k.owners) c.other.view_is in
    c.meet-2.ensures.kept t (subst (λ (v : View). HasLent v t) (sym self) has) (subst (λ (v : View). HasReclaimed v t) (sym other) back)

pub returns-clause-own : goal.returns-clause-own
returns-clause-own c = λ t has back.
    let self = ap (λ (k : OwnersKnown). k.owners) c.self.view_is in
    c.meet-2.ensures.own t (subst (λ (v : View). HasLent v t) (sym self) has) (subst (λ (v : View). HasReclaimed v t) (sym self) back)

pub returns-clause-owner : goal.returns-clause-owner
returns-clause-owner c = λ t o p x y.
    let self = ap (λ (k : OwnersKnown). k.owners) c.self.view_is in
    let other = ap (λ (k : OwnersKnown). k.owners) c.other.view_is in
    c.meet-2.ensures.owner t o p (subst (λ (v : View). HasIssued v t o) (sym self) x) (subst (λ (v : View). HasIssued v t p) (sym other) y)

pub returns-clause-own_owner : goal.returns-clause-own_owner
returns-clause-own_owner c = λ t o p x y.
    let self = ap (λ (k : OwnersKnown). k.owners) c.self.view_is in
    c.meet-2.ensures.own_owner t o p (subst (λ (v : View). HasIssued v t o) (sym self) x) (subst (λ (v : View). HasIssued v t p) (sym self) y)

pub returns-clause-once : goal.returns-clause-once
returns-clause-once c = λ t x y.
    let self = ap (λ (k : OwnersKnown). k.owners) c.self.view_is in
    let other = ap (λ (k : OwnersKnown). k.owners) c.other.view_is in
    c.meet-2.ensures.once t (subst (λ (v : View). HasReclaimed v t) (sym self) x) (subst (λ (v : View). HasReclaimed v t) (sym other) y)
