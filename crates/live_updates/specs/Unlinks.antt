-- A NODE IS TAKEN OUT of the map: the one above it leads to it no more.
use Rattle.std.specs.Prelude.{◌≡◌, ℕ, List, [], ◌∷◌}
use Rattle.live_nodes.specs.Nodes.{Content}
use Rattle.live_nodes.specs.Views.{View, view_of, Own, locked, detached}

-- The node above is unlocked. The other one stays locked, and is no part of the map any more.
abbrev pub left_out : List Own → List Own
left_out (locked x c ∷ locked q e ∷ []) = detached x ∷ []
left_out os = []

abbrev pub Unlinks : View → ℕ → Content → View → Type 0
Unlinks v k c w = w ≡ view_of v.seen v.met (left_out v.own)
