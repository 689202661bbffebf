-- How the owners in a map are compared.
use Rattle.std.specs.Prelude.{Bool, false}

-- no two owners are found equal
abbrev pub never_same : {T : Type 0} → T → T → Bool
never_same a b = false
