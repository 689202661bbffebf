-- The calls of a closure, one after another.
use Rattle.std.proofs.Common.{List, [], ◌∷◌, Option, Some, None, IfSome, refl, sym, subst}
use Rattle.std.specs.List.{FoldsTo}
use Rattle.live_updates.specs.Closures.{Reaches, EndsWithCall}

module _ {F A B : Type 0} (step : F → A → B → F → Type 0) where
  pub no_call : (f : F) → Reaches step f f
  no_call f = ([], refl)

  folds_on : (calls : List (A × B)) (f g h : F) → FoldsTo (λ (s : F) (call : A × B) (t : F). step s call.0 call.1 t) f calls g → Reaches step g h → Reaches step f h
  folds_on [] f g h is on = subst (λ (x : F). Reaches step x h) (sym is) on
  folds_on (call ∷ calls) f g h (next, called, later) on =
      let more = folds_on calls next g h later on in
      (call ∷ more.0, (next, called, more.1))

  pub calls_on : (f g h : F) → Reaches step f g → Reaches step g h → Reaches step f h
  calls_on f g h first next = folds_on first.0 f g h first.1 next

  -- one call more
  pub call_on : (f g h : F) (old : A) (answer : B) → Reaches step f g → step g old answer h → Reaches step f h
  call_on f g h old answer first called = calls_on f g h first ((old, answer) ∷ [], (h, called, refl))

  -- a first call that is the last, and the last call of a closure that some calls lead to
  pub last_call : (f h : F) (old : A) (answer : B) → step f old answer h → EndsWithCall step f old answer h
  last_call f h old answer called = (f, no_call f, called)

  pub last_on : (f g h : F) (old : A) (answer : B) → Reaches step f g → EndsWithCall step g old answer h → EndsWithCall step f old answer h
  last_on f g h old answer first last = (last.0, calls_on f g last.0 first last.1, last.2)

  pub asked_on : (f g h : F) (both : Option (A × B)) → Reaches step f g → IfSome both (λ pair. EndsWithCall step g pair.0 pair.1 h) → IfSome both (λ pair. EndsWithCall step f pair.0 pair.1 h)
  asked_on f g h None first asked = tt
  asked_on f g h (Some pair) first asked = last_on f g h pair.0 pair.1 first asked
