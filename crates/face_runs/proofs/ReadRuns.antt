-- Runs that are read back from runs on the numbers, one after another.
use Rattle.std.proofs.Common.{ℕ, Bool, List, [], ◌∷◌, ◌++◌}
use Rattle.std.specs.List.{AllZip}
use Rattle.spec_map.specs.Map.{Pairs}
use Rattle.spec_map.specs.Call.{Operation}
use Rattle.spec_map.specs.Refusal.{MayRunOut}
use Rattle.spec_map.proofs.Runs.{IsLegal-append}
use Rattle.face_runs.specs.Conversion.{Conversion, IsReadAs, IsLegalRead}

module _ {K V P : Type 0} (c : Conversion K V P) (same : P → P → Bool) (r : MayRunOut) where
  read-append : (ps qs : List (Operation ℕ P P)) (ds es : List (Operation K V P)) → AllZip (IsReadAs c) ps ds → AllZip (IsReadAs c) qs es → AllZip (IsReadAs c) (ps ++ qs) (ds ++ es)
  read-append [] qs [] es h k = k
  read-append [] qs (d ∷ ds) es h k = absurd h
  read-append (p ∷ ps) qs [] es h k = absurd h
  read-append (p ∷ ps) qs (d ∷ ds) es h k = (h.0, read-append ps qs ds es h.1 k)

  pub IsLegalRead-append : (m k n : Pairs P) (ds es : List (Operation K V P)) → IsLegalRead c same r m ds k → IsLegalRead c same r k es n → IsLegalRead c same r m (ds ++ es) n
  IsLegalRead-append m k n ds es first then = record {
    plain = first.plain ++ then.plain;
    legal = IsLegal-append same r m k n first.plain then.plain first.legal then.legal;
    read = read-append first.plain then.plain ds es first.read then.read;
  }
