-- Calls of a closure on an optional `&` to the current value of a key.
use Rattle.std.specs.Prelude.{◌≡◌, Option, option_copied}
use Rattle.std.specs.Fn.{Mut, Called, Takes}
use denote.Ref.{Bor}

-- f may be called at an optional `&` to the current value
abbrev pub TakesOption : {F P R : Type 0}
    → Mut F (Option (Bor P) × Unit {0}) R → F → Option P → Type 0
TakesOption {F} {P} g f o =
    (shown : Option (Bor P)) → option_copied shown ≡ o → Takes g f (shown, tt)

-- a call of f at an optional `&` to the current value may return r, and leave f'
pub record CalledAtOption {F P R : Type 0} (g : Mut F (Option (Bor P) × Unit {0}) R) (f : F) (o : Option P) (r : R) (f' : F) : Type 0 where
  pub shown : Option (Bor P)
  pub shows : option_copied shown ≡ o
  pub called : Called g f (shown, tt) r f'
