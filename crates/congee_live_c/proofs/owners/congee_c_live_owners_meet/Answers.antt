use Rattle.std.proofs.Common.{◌≡◌, subst, rules}
use Rattle.word_hazards.specs.Views.{View, HasLent, HasIssued, HasReclaimed}
use Rattle.congee_live_c.proofs.owners.congee_c_live_owners_meet.Goals as goal
use Rattle.congee_live_c.proofs.owners.congee_c_live_owners_meet.Goals.{After-other-1}

-- what each handle knows of owners is what it holds
module _ (c : After-other-1) (Knows : View → Type 0) where
  first : Knows c.args.handle.now.held.owners → Knows c.behind-handle.inside.handle.owners
  first = let same : c.args.handle.now.held.owners ≡ c.behind-handle.inside.handle.owners = search rules in subst Knows same

  second : Knows c.args.other.now.held.owners → Knows c.behind-other.inside.handle.owners
  second = let same : c.args.other.now.held.owners ≡ c.behind-other.inside.handle.owners = search rules in subst Knows same

pub returns-clause-kept : goal.returns-clause-kept
returns-clause-kept c = λ t x y. c.meet.ensures.kept t (first c (λ v. HasLent v t) x) (second c (λ v. HasReclaimed v t) y)

pub returns-clause-own : goal.returns-clause-own
returns-clause-own c = λ t x y. c.meet.ensures.own t (first c (λ v. HasLent v t) x) (first c (λ v. HasReclaimed v t) y)

pub returns-clause-owner : goal.returns-clause-owner
returns-clause-owner c = λ t o p x y. c.meet.ensures.owner t o p (first c (λ v. HasIssued v t o) x) (second c (λ v. HasIssued v t p) y)

pub returns-clause-own_owner : goal.returns-clause-own_owner
returns-clause-own_owner c = λ t o p x y. c.meet.ensures.own_owner t o p (first c (λ v. HasIssued v t o) x) (first c (λ v. HasIssued v t p) y)

pub returns-clause-once : goal.returns-clause-once
returns-clause-once c = λ t x y. c.meet.ensures.once t (first c (λ v. HasReclaimed v t) x) (second c (λ v. HasReclaimed v t) y)
