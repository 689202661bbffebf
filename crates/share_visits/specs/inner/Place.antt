-- The key next to which a pair is looked for.
use Rattle.std.specs.Prelude.{ℕ, Option, Some, None}
use Rattle.share_visits.specs.declared.near.Near.{Near}
use Rattle.share_visits.specs.declared.near.Near.TheVariants.{First, Last, Floor, Below, Ceiling, Above}

-- the ends of a map have none
abbrev pub key_at : Near → Option ℕ
key_at First = None
key_at Last = None
key_at (Floor key) = Some key
key_at (Below key) = Some key
key_at (Ceiling key) = Some key
key_at (Above key) = Some key
