-- How a map goes on by the removal of a range.
use Rattle.std.proofs.Common.{◌≡◌, ◌≢◌, ℕ, Bool, true, false, not, [], ◌∷◌, length, cond, refl, sym, ap, subst, ◌∙◌}
use Rattle.std.proofs.lemmas.Bool.{eq-eqb, ne_eqb}
use Rattle.std.proofs.lemmas.List.{take_all}
use Rattle.std.specs.Prelude.{Some, ◌&&◌, nat_le, nat_lt, filter}
use Rattle.congee_tree.specs.Bulk.{outside}
use Rattle.share_works.proofs.Going.{Goes, goes_by}
use Rattle.share_works.proofs.Writing.{few_between}
use Rattle.share_works.specs.Made.{range_removal, removals}
use Rattle.spec_map.specs.Call.{old_value, ranged}
use Rattle.spec_map.specs.Legal.{IsLegal}
use Rattle.spec_map.specs.Map.{Pairs, between, lookup, without}
use Rattle.spec_map.specs.Refusal.{never}

module _ (same : ℕ → ℕ → Bool) (test : ℕ → Bool) where
  -- all keys pass the test
  abbrev Pass : Pairs ℕ → Type 0
  Pass [] = Unit {0}
  Pass (e ∷ es) = (test e.0 ≡ true) × Pass es

  passing_by : (e : ℕ × ℕ) (es : Pairs ℕ) → Pass es → (b : Bool) → test e.0 ≡ b → Pass (cond b (e ∷ es) es)
  passing_by e es rest true is = (is, rest)
  passing_by e es rest false is = rest

  passing : (es : Pairs ℕ) → Pass (filter (λ (e : ℕ × ℕ). test e.0) es)
  passing [] = tt
  passing (e ∷ es) = passing_by e (filter (λ (x : ℕ × ℕ). test x.0) es) (passing es) (test e.0) refl

  apart : (i j : ℕ) → test i ≡ false → test j ≡ true → i ≢ j
  apart i j fails passes is = absurd (let clash : true ≡ false = sym passes ∙ (ap test (sym is) ∙ fails) in cc)

  -- below a key that doesn't pass, keys that pass are removed as if it weren't there
  below : (e : ℕ × ℕ) (ps m d : Pairs ℕ) → test e.0 ≡ false → Pass ps → IsLegal same never m (removals ps) d → IsLegal same never (e ∷ m) (removals ps) (e ∷ d)
  below e [] m d fails pass h = ap (λ (l : Pairs ℕ). e ∷ l) h
  below e (p ∷ ps) m d fails pass h =
      let other = ne_eqb e.0 p.0 (apart e.0 p.0 fails pass.0) in (
        (refl, h.0.1 ∙ ap (λ (b : Bool). old_value (cond b (Some e.1) (lookup m p.0))) (sym other)),
        subst (λ (z : Pairs ℕ). IsLegal same never z (removals ps) (e ∷ d)) (ap (λ (b : Bool). cond b m (e ∷ without m p.0)) (sym other)) (below e ps (without m p.0) d fails pass.1 h.1),
      )

  removed_by : (e : ℕ × ℕ) (es ps d : Pairs ℕ) → Pass ps → IsLegal same never es (removals ps) d → (b : Bool) → test e.0 ≡ b → IsLegal same never (e ∷ es) (removals (cond b (e ∷ ps) ps)) (cond (not b) (e ∷ d) d)
  removed_by e es ps d pass rest true is =
      let own = eq-eqb e.0 e.0 refl in (
        (refl, ap (λ (b : Bool). old_value (cond b (Some e.1) (lookup es e.0))) (sym own)),
        subst (λ (z : Pairs ℕ). IsLegal same never z (removals ps) d) (ap (λ (b : Bool). cond b es (e ∷ without es e.0)) (sym own)) rest,
      )
  removed_by e es ps d pass rest false is = below e ps es d is pass rest

  pub removed : (es : Pairs ℕ) → IsLegal same never es (removals (filter (λ (e : ℕ × ℕ). test e.0) es)) (filter (λ (e : ℕ × ℕ). not (test e.0)) es)
  removed [] = refl
  removed (e ∷ es) =
      removed_by e es (filter (λ (x : ℕ × ℕ). test x.0) es) (filter (λ (x : ℕ × ℕ). not (test x.0)) es) (passing es) (removed es) (test e.0) refl

module _ {S : Type 0} (same : ℕ → ℕ → Bool) (content : S → Pairs ℕ → Type 0) (x : S) (p : Pairs ℕ) (only : (m : Pairs ℕ) → content x m → m ≡ p) where
  pub removal_goes : (y : S) (q : Pairs ℕ) (a b : ℕ) → content y q → q ≡ outside p a b → Goes same content (range_removal a b (length p) (between p a b)) x y
  removal_goes y q a b has is =
      let all = take_all (length p) (between p a b) (few_between p a b) in
      goes_by same content (range_removal a b (length p) (between p a b)) x y p q only has (subst (λ (z : Pairs ℕ). IsLegal same never p (range_removal a b (length p) (between p a b)) z) (sym is)
      ((refl, refl), ((refl, ap (λ (l : Pairs ℕ). ranged l) (sym all)), removed same (λ k. nat_le a k && nat_lt k b) p)))
