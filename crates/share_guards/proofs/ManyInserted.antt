-- How a map goes on by an insertion of many pairs, and what is known after it.
use Rattle.std.proofs.Common.{◌≡◌, ℕ, Bool, List, [], ◌∷◌, ◌++◌, ◌<◌, length, map, refl, sym, ◌∙◌, subst, append-nil}
use Rattle.std.proofs.lemmas.List.{take-map}
use Rattle.std.specs.Prelude.{Result, Ok, Err, IfErr, OnOk, take}
use Rattle.congee_tree.specs.Bulk.{put_all}
use Rattle.share_guards.specs.Many.{InsertsMany, insertions, numbers_of}
use Rattle.share_guards.specs.inner.Trying.{inserting}
use Rattle.share_rule.specs.History.{IsLegalHistory}
use Rattle.share_rule.specs.Known.{Known, MadeCalls, own_entries}
use Rattle.share_works.proofs.Going.{Goes, goes_by}
use Rattle.share_works.specs.Made.{KnowsBy}
use Rattle.spec_map.specs.Call.{Operation}
use Rattle.spec_map.specs.Legal.{IsLegal}
use Rattle.spec_map.specs.Map.{Pairs, put}
use Rattle.spec_map.specs.Refusal.{never}
use Rattle.spec_olc.specs.Runs.{same_number}

module _ (same : ℕ → ℕ → Bool) {K V : Type 0} (key : K → ℕ) (value : V → ℕ) where
  legal : (m : Pairs ℕ) (many : List (K × V)) → IsLegal same never m (insertions m (numbers_of key value many)) (put_all key value m many)
  legal m [] = refl
  legal m (pair ∷ many) = ((refl, refl), legal (put m (key pair.0) (value pair.1)) many)

  legal_to : (m q : Pairs ℕ) (many : List (K × V)) → q ≡ put_all key value m many → IsLegal same never m (insertions m (numbers_of key value many)) q
  legal_to m q many is = subst (λ (z : Pairs ℕ). IsLegal same never m (insertions m (numbers_of key value many)) z) (sym is) (legal m many)

  inserted_legal : {U : Type 0} (m q : Pairs ℕ) (many : List (K × V)) (r : Result U ℕ) → OnOk r (q ≡ put_all key value m many) → IfErr r (λ inserted. (inserted < length many) × (q ≡ put_all key value m (take inserted many)))
      → IsLegal same never m (inserting r m (numbers_of key value many)) q
  inserted_legal m q many (Ok done) all some = legal_to m q many all
  inserted_legal m q many (Err inserted) all some =
      subst (λ (ps : Pairs ℕ). IsLegal same never m (insertions m ps) q) (sym (take-map (λ (pair : K × V). (key pair.0, value pair.1)) inserted many)) (legal_to m q (take inserted many) some.1)

  module _ {S U : Type 0} (content : S → Pairs ℕ → Type 0) (x y : S) (p q : Pairs ℕ) (only : (m : Pairs ℕ) → content x m → m ≡ p) (has : content y q) where
    -- none but a pair of the slice is refused
    pub refused_within : (many : List (K × V)) (r : Result U ℕ) → IfErr r (λ inserted. (inserted < length many) × (q ≡ put_all key value p (take inserted many))) → IfErr r (λ inserted. inserted < length many)
    refused_within many (Ok done) some = tt
    refused_within many (Err inserted) some = some.0

    pub insert_goes : (many : List (K × V)) (r : Result U ℕ) → OnOk r (q ≡ put_all key value p many) → IfErr r (λ inserted. (inserted < length many) × (q ≡ put_all key value p (take inserted many)))
        → Goes same content (inserting r p (numbers_of key value many)) x y
    insert_goes many r all some =
        goes_by same content (inserting r p (numbers_of key value many)) x y p q only has (inserted_legal p q many r all some)

-- after a hold
module _ (k n : Known ℕ) (legal : IsLegalHistory same_number k.seen) where
  none_made : n ≡ k → MadeCalls same_number k [] n
  none_made is =
      subst (λ (z : Known ℕ). MadeCalls same_number k [] z) (sym is) (record {
        between = [];
        table = refl;
        caller = refl;
        legal = legal;
        seen = sym (append-nil (k.seen ++ []) ∙ append-nil k.seen);
        own = sym (append-nil (own_entries k));
      })

  all_made : (operations : List (Operation ℕ ℕ ℕ)) → KnowsBy operations k n → MadeCalls same_number k operations n
  all_made [] h = none_made h
  all_made (first ∷ later) h = h.0

  module _ {U : Type 0} (m pairs : Pairs ℕ) where
    pub inserted_made : (r : Result U ℕ) → KnowsBy (inserting r m pairs) k n → OnOk r (InsertsMany k pairs n)
    inserted_made (Ok done) h = (m, all_made (insertions m pairs) h)
    inserted_made (Err inserted) h = tt

    pub inserted_missed : (bound : ℕ → Type 0) (r : Result U ℕ) → KnowsBy (inserting r m pairs) k n → IfErr r bound → IfErr r (λ inserted. bound inserted × InsertsMany k (take inserted pairs) n)
    inserted_missed bound (Ok done) h fits = tt
    inserted_missed bound (Err inserted) h fits = (fits, (m, all_made (insertions m (take inserted pairs)) h))
