-- A map under which an owner represents the value that it owns, and no two owners are found equal.
use Rattle.std.proofs.Common.{◌≡◌, ℕ, Bool, refl, sym, ap, ◌∙◌, subst}
use Rattle.std.specs.Option.{option_map}
use Rattle.std.specs.Prelude.{Option, Some, None, IfSome}
use Rattle.share_backend.specs.Owners.{never_same}
use Rattle.share_guards.specs.Many.{owned_pair, popping_owned}
use Rattle.share_guards.specs.Operations.{WasLastCalled, computed_with, returned}
use Rattle.share_rule.specs.Known.{Known, MadeCall, MadeCalls, SeenMore}
use Rattle.share_faces.specs.Returned.{IsOwnerPair, ReturnsComputed, ReturnsOwner, ReturnsPoppedOwner}
use Rattle.spec_map.specs.Call.{Near, Operation, found, nearest}
use Rattle.spec_olc.specs.Meaning.{both_of, in_some}

module _ {P V : Type 0} (owned : P → V) (same : V → V → Bool) (meaning : P → V) (mean : meaning ≡ owned) (compare : same ≡ never_same) (k n : Known V) where
  pub owners_made : (operation : (P → V) → Operation ℕ V V) → MadeCall same k (operation meaning) n → MadeCall never_same k (operation owned) n
  owners_made operation h =
      subst (λ (m : P → V). MadeCall never_same k (operation m) n) mean (subst (λ (s : V → V → Bool). MadeCall s k (operation meaning) n) compare h)

  pub owners_seen : SeenMore same k n → SeenMore never_same k n
  owners_seen h = subst (λ (s : V → V → Bool). SeenMore s k n) compare h

  module _ {F : Type 0} (step : F → P → Option P → F → Type 0) (last : F) (key : ℕ) where
    firsts : (both : Option (P × Option P)) → in_some owned (in_some (λ (pair : P × Option P). pair.0) both) ≡ in_some (λ (pair : V × Option V). pair.0) (in_some (both_of owned) both)
    firsts None = refl
    firsts (Some pair) = refl

    called : (both : Option (P × Option P)) → IfSome both (λ pair. WasLastCalled step last owned (in_some owned) (owned pair.0) (in_some owned pair.1))
        → IfSome (in_some (both_of owned) both) (λ pair. WasLastCalled step last owned (in_some owned) pair.0 pair.1)
    called None h = tt
    called (Some pair) h = h

    pub returns_computed : (both : Option (P × Option P)) (before : Option P) → before ≡ in_some (λ (pair : P × Option P). pair.0) both → MadeCall same k (computed_with key (in_some (both_of meaning) both)) n
        → IfSome both (λ pair. WasLastCalled step last meaning (in_some meaning) (meaning pair.0) (in_some meaning pair.1))
        → ReturnsComputed owned step last k key before n
    returns_computed both before is h w =
        let v = subst (λ (m : P → V). IfSome both (λ pair. WasLastCalled step last m (in_some m) (m pair.0) (in_some m pair.1))) mean w in
        (in_some (both_of owned) both, ap (in_some owned) is ∙ firsts both, owners_made (λ (m : P → V). computed_with key (in_some (both_of m) both)) h, called both v)

-- THE ENDS of a map of owners: the key is read back from its number
module _ {K P V : Type 0} (key_of : ℕ → K) (owned : P → V) (k n : Known V) (place : Near ℕ) where
  abbrev reads : Option (ℕ × P) → Option (K × P)
  reads one = option_map (λ (pair : ℕ × P). (key_of pair.0, pair.1)) one

  both_is : (one : Option (ℕ × P)) → IsOwnerPair key_of owned k (reads one) (owned_pair owned one)
  both_is None = refl
  both_is (Some pair) = refl

  pair_is : (one : Option (ℕ × P)) (pair : Option (K × P)) → pair ≡ reads one → IsOwnerPair key_of owned k pair (owned_pair owned one)
  pair_is one pair is = subst (λ (z : Option (K × P)). IsOwnerPair key_of owned k z (owned_pair owned one)) (sym is) (both_is one)

  pub returns_owner : (one : Option (ℕ × P)) (pair : Option (K × P)) → pair ≡ reads one → MadeCall never_same k (returned (nearest place) (found (owned_pair owned one))) n → ReturnsOwner key_of owned k place pair n
  returns_owner one pair is made = (owned_pair owned one, pair_is one pair is, made)

  pub returns_popped_owner : (one : Option (ℕ × P)) (pair : Option (K × P)) → pair ≡ reads one → MadeCalls never_same k (popping_owned place (owned_pair owned one)) n → ReturnsPoppedOwner key_of owned k place pair n
  returns_popped_owner one pair is made = (owned_pair owned one, pair_is one pair is, made)
