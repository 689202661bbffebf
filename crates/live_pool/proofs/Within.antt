-- A reader that looks for a pair in a range.
use Rattle.std.proofs.Common.{◌≡◌, ◌≢◌, ◌⊎◌, ℕ, ◌<◌, ◌≤◌, Bool, true, false, List, [], ◌∷◌, Some, None, refl, sym, ◌∙◌, inl, inr, arith}
use Rattle.spec_map.specs.Map.{Pairs, lookup, Rises}
use Rattle.spec_map.proofs.MapLaws.{lookup-next}
use Rattle.share_rule.specs.History.{Entry}
use Rattle.live_nodes.specs.Known.{Known}
use Rattle.live_scans.specs.Scans.{HasRead, HasBegun}
use Rattle.live_pool.specs.Pops.{HasEnd}

abbrev History : Type 0
History = List (Entry ℕ)

-- OF FEWER KEYS: they were read, too
within : (up : Bool) (old new : History) (low low' high high' : ℕ) (ps qs : Pairs ℕ) → HasRead up old new low high ps → low ≤ low' → high' ≤ high → Rises low' high' qs → ((k : ℕ) → low' ≤ k → k < high' → lookup qs k ≡ lookup ps k) → HasRead up old new low' high' qs
within up old new low low' high high' ps qs r from to rises same = record {
  moment = r.moment;
  between = λ k l h. r.between k (omega (arith, l, from)) (omega (arith, h, to));
  value = λ k l h. same k l h ∙ r.value k (omega (arith, l, from)) (omega (arith, h, to));
  order = λ j k lj hj lk hk o. r.order j k (omega (arith, lj, from)) (omega (arith, hj, to)) (omega (arith, lk, from)) (omega (arith, hk, to)) o;
  leaf = λ j k lj hj lk hk e. r.leaf j k (omega (arith, lj, from)) (omega (arith, hj, to)) (omega (arith, lk, from)) (omega (arith, hk, to)) e;
  ascend = rises;
}

other : (p : ℕ × ℕ) (low high k : ℕ) → (high ≤ p.0) ⊎ (p.0 < low) → low ≤ k → k < high → p.0 ≢ k
other p low high k (inl l) from to = omega (arith, l, to)
other p low high k (inr l) from to = omega (arith, l, from)

-- none was found, or one that is beside the range
pub nothing_within : (up : Bool) (k n : Known) (low low' high high' : ℕ) → (seen : HasBegun k n) × HasRead up seen.start.seen n.seen low high [] → low ≤ low' → high' ≤ high → HasEnd up low' high' k None n
nothing_within up k n low low' high high' h from to = (h.0, within up h.0.start.seen n.seen low low' high high' [] [] h.1 from to tt (λ k l t. refl))

pub beside : (up : Bool) (k n : Known) (low low' high high' : ℕ) (p : ℕ × ℕ) → (seen : HasBegun k n) × HasRead up seen.start.seen n.seen low high (p ∷ []) → low ≤ low' → high' ≤ high → (high' ≤ p.0) ⊎ (p.0 < low') → HasEnd up low' high' k None n
beside up k n low low' high high' p h from to off = (
  h.0,
  within up h.0.start.seen n.seen low low' high high' (p ∷ []) [] h.1 from to tt (λ j l t. sym (lookup-next p [] j (other p low' high' j off l t))),
)

-- a reader that found a pair began
pub end_begun : (up : Bool) (low high : ℕ) (k n : Known) (p : ℕ × ℕ) → HasEnd up low high k (Some p) n → HasBegun k n
end_begun true low high k n p e = e.1.0
end_begun false low high k n p e = e.1.0
