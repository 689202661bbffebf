-- One slice starts with another exactly if it begins with it as a list.
use Rattle.std.proofs.Common.{◌≡◌, ℕ, List, length, drop, eqb, Bool, IsTrue, ◌↔◌}
use Rattle.std.proofs.lemmas.Bool.Decides.{Decides-eqb}
use Rattle.std.specs.List.{starts_with}
use Rattle.std.proofs.lemmas.Slice.Eq.{starts_is}
use Rattle.spec_node.specs.Key.{Begins}
use Rattle.node_table.proofs.BeginLaws.{after, begins_by}

pub starts : (p k : List ℕ) (r : Bool) → r ≡ starts_with eqb k p → IsTrue r ↔ Begins p k
starts p k r e =
    let s = starts_is Decides-eqb k p r e in
    ((λ (h : IsTrue r). begins_by p (drop (length p) k) k (s.0 h)), (λ (b : Begins p k). let a = after b in s.1 a.rest a.is))
