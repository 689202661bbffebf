-- The least key, and a key's neighbours from it on, as the calls name them.
use Rattle.std.specs.Prelude.{ℕ}
use Rattle.share_backend.specs.declared.ascending.Upward.{Upward}
use Rattle.share_backend.specs.declared.ascending.Upward.TheVariants.{First, Ceiling, Above}
use Rattle.spec_map.specs.Call.{Near, first, ceiling, above}

-- the same in a call of the map
abbrev pub upward_of : Upward → Near ℕ
upward_of First = first
upward_of (Ceiling key) = ceiling key
upward_of (Above key) = above key
