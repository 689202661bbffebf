-- What each step at the table leaves known.
use Rattle.std.proofs.Common.{◌≡◌, ◌⊎◌, inl, inr, ◌+◌, ℕ, true, false, Bool, Option, Some, None, IfSome, IfNone, Result, Ok, Err, IfOk, OnErr, List, ◌∷◌, sym, ap, ◌∙◌, subst, refl}
use Rattle.word_hazards.specs.Views.{In, View, HasIssued}
use Rattle.word_hazards.specs.Steps.{announcing, lending, learning, issuing, retiring}
use Rattle.word_owners.specs.Known.{Reclaims, ReclaimsNone}
use Rattle.live_owners.specs.Owners.{IssuedMore, IsNew, IsLoan, ComesBack, NoneComesBack, RetiresNone, RetiresOnly, IsBack}
use Rattle.live_owners.specs.inner.Withdrawals.{IsWithdrawn}

-- one call after another
pub more_on : (u v w : View) → IssuedMore u v → IssuedMore v w → IssuedMore u w
more_on u v w a b = record { known = λ t o h. b.known t o (a.known t o h) }

pub more_none : (v : View) → IssuedMore v v
more_none v = record { known = λ t o h. h }

-- a call that retires no ticket, and one that retires one at most
pub only_on : (u v w : View) (t : Option ℕ) → RetiresNone u v → RetiresOnly v w t → RetiresOnly u w t
only_on u v w None same only = only ∙ same.0
only_on u v w (Some t) same (inl one) = inl (one ∙ ap (λ (xs : List ℕ). t ∷ xs) same.0)
only_on u v w (Some t) same (inr none) = inr (none ∙ same.0)

-- an issue of one more is known
more_by : (v w : View) (t o : ℕ) → w.issued ≡ (t, o) ∷ v.issued → IssuedMore v w
more_by v w t o e = record { known = λ u p h. subst (In (u, p)) (sym e) (inr h) }

here_by : (v w : View) (t o : ℕ) → w.issued ≡ (t, o) ∷ v.issued → HasIssued w t o
here_by v w t o e = subst (In (t, o)) (sym e) (inl refl)

-- as many are
as_many : (v w : View) → w.issued ≡ v.issued → IssuedMore v w
as_many v w e = record { known = λ u p h. subst (In (u, p)) (sym e) h }

-- a loan, or none
module _ (v w : View) (t : ℕ) where
  pub lent_more : (r : Option ℕ) → IfSome r (λ o. w ≡ learning (lending (announcing v (t + 2))) t o) → IfNone r ((x : ℕ) × (w ≡ announcing v x)) → IssuedMore v w
  lent_more (Some o) some none = more_by v w t o (ap (λ (x : View). x.issued) some)
  lent_more None some none = as_many v w (ap (λ (x : View). x.issued) none.1)

  pub lent_keeps : (r : Option ℕ) → IfSome r (λ o. w ≡ learning (lending (announcing v (t + 2))) t o) → IfNone r ((x : ℕ) × (w ≡ announcing v x)) → RetiresNone v w
  lent_keeps (Some o) some none = (ap (λ (x : View). x.retired) some, ap (λ (x : View). x.reclaimed) some)
  lent_keeps None some none = (ap (λ (x : View). x.retired) none.1, ap (λ (x : View). x.reclaimed) none.1)

  pub lent_loan : (r : Option ℕ) → IfSome r (λ o. w ≡ learning (lending (announcing v (t + 2))) t o) → IfSome r (λ o. IsLoan w t o)
  lent_loan (Some o) some = ((ap (λ (x : View). x.lent) some, ap (λ (x : View). x.announced) some), here_by v w t o (ap (λ (x : View). x.issued) some))
  lent_loan None some = tt

-- the loan has ended
module _ (v w : View) (e : w ≡ announcing v 1) where
  pub ended_more : IssuedMore v w
  ended_more = as_many v w (ap (λ (x : View). x.issued) e)

  pub ended_keeps : RetiresNone v w
  ended_keeps = (ap (λ (x : View). x.retired) e, ap (λ (x : View). x.reclaimed) e)

  pub ended_lent : w.lent ≡ false
  ended_lent = ap (λ (x : View). x.lent) e

-- a ticket is retired, or was before
module _ (v w : View) (t : ℕ) where
  pub retired_more : (b : Bool) → (b ≡ true → w ≡ retiring v t) → (b ≡ false → w ≡ v) → IssuedMore v w
  retired_more true is not = as_many v w (ap (λ (x : View). x.issued) (is refl))
  retired_more false is not = as_many v w (ap (λ (x : View). x.issued) (not refl))

  pub retired_none : (b : Bool) → (b ≡ true → w ≡ retiring v t) → (b ≡ false → w ≡ v) → NoneComesBack v w
  retired_none true is not = ap (λ (x : View). x.reclaimed) (is refl)
  retired_none false is not = ap (λ (x : View). x.reclaimed) (not refl)

  pub retired_lent : (b : Bool) → (b ≡ true → w ≡ retiring v t) → (b ≡ false → w ≡ v) → (w.lent ≡ v.lent) × (w.announced ≡ v.announced)
  retired_lent true is not = (ap (λ (x : View). x.lent) (is refl), ap (λ (x : View). x.announced) (is refl))
  retired_lent false is not = (ap (λ (x : View). x.lent) (not refl), ap (λ (x : View). x.announced) (not refl))

  pub retired_only : (b : Bool) → (b ≡ true → w ≡ retiring v t) → (b ≡ false → w ≡ v) → RetiresOnly v w (Some t)
  retired_only true is not = inl (ap (λ (x : View). x.retired) (is refl))
  retired_only false is not = inr (ap (λ (x : View). x.retired) (not refl))

  pub retired_in : w ≡ retiring v t → In t w.retired
  retired_in e = subst (In t) (sym (ap (λ (x : View). x.retired) e)) (inl refl)

-- a ticket is retired whose owner is lent
pub retired_shown : (v w : View) (t : ℕ) (r : Option ℕ) → IfSome r (λ o. IsLoan v t o) → IssuedMore v w → (w.lent ≡ v.lent) × (w.announced ≡ v.announced) → In t w.retired → IfSome r (λ o. IsLoan w t o × In t w.retired)
retired_shown v w t (Some o) loan more same has = (((same.0 ∙ loan.0.0, same.1 ∙ loan.0.1), more.known t o loan.1), has)
retired_shown v w t None loan more same has = tt

-- a ticket is issued, or not
module _ {E : Type 0} (v w : View) (o : ℕ) where
  pub issued_more : (r : Result ℕ E) → IfOk r (λ t. w ≡ issuing v t o) → OnErr r (w ≡ v) → IssuedMore v w
  issued_more (Ok t) some none = more_by v w t o (ap (λ (x : View). x.issued) some)
  issued_more (Err e) some none = as_many v w (ap (λ (x : View). x.issued) none)

  pub issued_keeps : (r : Result ℕ E) → IfOk r (λ t. w ≡ issuing v t o) → OnErr r (w ≡ v) → RetiresNone v w
  issued_keeps (Ok t) some none = (ap (λ (x : View). x.retired) some, ap (λ (x : View). x.reclaimed) some)
  issued_keeps (Err e) some none = (ap (λ (x : View). x.retired) none, ap (λ (x : View). x.reclaimed) none)

pub issued_new : {E : Type 0} (v w : View) (r : Result ℕ E) → w ≡ v → IfOk r (λ t. (o : ℕ) → HasIssued w t o → ⊥) → IfOk r (λ t. IsNew v t)
issued_new v w (Ok t) e new = record { unknown = λ o h. new o (subst (λ (x : View). HasIssued x t o) (sym e) h) }
issued_new v w (Err x) e new = tt

pub issued_owner : (v w : View) (t o : ℕ) → w ≡ issuing v t o → HasIssued w t o
issued_owner v w t o e = here_by v w t o (ap (λ (x : View). x.issued) e)

-- an owner comes back,
module _ (v w : View) (t o : ℕ) (r : Reclaims v w t o) where
  pub back_more : IssuedMore v w
  back_more = more_by v w t o r.issued

  pub back_comes : ComesBack v w t o
  back_comes = (here_by v w t o r.issued, r.reclaimed, r.first)

-- that of a ticket of which another owner's number is known, too
pub back_known : (v w : View) (t o p : ℕ) → HasIssued v t p → Reclaims v w t o → ComesBack v w t p
back_known v w t o p h r = ((more_by v w t o r.issued).known t p h, r.reclaimed, r.first)

-- or none does
module _ (v w : View) (r : ReclaimsNone v w) where
  pub back_none_more : IssuedMore v w
  back_none_more = as_many v w r.issued

  pub back_none : NoneComesBack v w
  back_none = r.reclaimed

-- an owner whose ticket was issued just before is the caller's again
pub withdrawn_back : (u v w : View) (t owner : ℕ) (r : Option ℕ) → RetiresNone u v → IsNew u t → IsWithdrawn v w t owner r → IsBack u w owner r
withdrawn_back u v w t owner None same new back = back ∙ same.1
withdrawn_back u v w t owner (Some b) same new back =
    (back.0, inr (t, new, (back.1.0, back.1.1 ∙ ap (λ (xs : List ℕ). t ∷ xs) same.1, λ h. back.1.2 (subst (In t) (sym same.1) h))))

pub new_on : (u v : View) (t : ℕ) → IssuedMore u v → IsNew v t → IsNew u t
new_on u v t more new = record { unknown = λ o h. new.unknown o (more.known t o h) }

-- so it is where another call came before that retired no ticket
pub back_on : (u v w : View) (owner : ℕ) (r : Option ℕ) → IssuedMore u v → RetiresNone u v → IsBack v w owner r → IsBack u w owner r
back_on u v w owner None more same back = back ∙ same.1
back_on u v w owner (Some b) more same back = (back.0, on back.1)
  where
    on : (RetiresNone v w ⊎ ((t : ℕ) × IsNew v t × ComesBack v w t owner)) → RetiresNone u w ⊎ ((t : ℕ) × IsNew u t × ComesBack u w t owner)
    on (inl none) = inl (none.0 ∙ same.0, none.1 ∙ same.1)
    on (inr x) = inr (x.0, new_on u v x.0 more x.1, (x.2.0, x.2.1 ∙ ap (λ (xs : List ℕ). x.0 ∷ xs) same.1, λ h. x.2.2 (subst (In x.0) (sym same.1) h)))
