-- Guards in lists, and slots in a row.
use Rattle.std.proofs.Common.{List, [], ◌∷◌, ◌++◌}
use Rattle.live_nodes.specs.Seats.{Each}

pub each_parts : {A : Type 0} (Q : A → Type 0) (xs ys : List A) → Each Q (xs ++ ys) → Each Q xs × Each Q ys
each_parts Q [] ys all = (tt, all)
each_parts Q (x ∷ xs) ys all = let both = each_parts Q xs ys all.1 in ((all.0, both.0), both.1)
