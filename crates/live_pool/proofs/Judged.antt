-- Pairs that a closure was asked about, one after another.
use Rattle.std.proofs.Common.{◌≡◌, ℕ, zero, suc, ◌+◌, ◌<◌, ◌≤◌, Bool, true, false, [], ◌∷◌, ◌++◌, length, take, get_or, length-take-le, refl, sym, subst, arith}
use Rattle.std.proofs.lemmas.List.{take_all}
use Rattle.spec_map.specs.Map.{Pairs, Rises}
use Rattle.live_nodes.specs.Known.{Known}
use Rattle.live_scans.specs.Scans.{HasRead, HasPage, Waits}
use Rattle.live_scans.proofs.Composed.{shrunk}
use Rattle.live_pool.specs.Retains.{HasListed, one_if, HasJudged, HaveJudged, HaveGone}

-- A PAGE, down to its last pair
pub last_below : (low high : ℕ) (ps : Pairs ℕ) (n : ℕ) (d : ℕ × ℕ) → length ps ≡ suc n → Rises low high ps → (low ≤ (get_or ps n d).0) × ((get_or ps n d).0 < high)
last_below low high [] n d is r = absurd (omega (arith, is))
last_below low high (e ∷ es) zero d is r = (r.0, r.1)
last_below low high (e ∷ es) (suc n) d is r =
    let l = last_below (e.0 + 1) high es n d (omega (arith, is)) r.2 in
    let a = l.0 in
    let b = r.0 in
    (omega (arith, a, b), l.1)

pub rises_to : (low high : ℕ) (ps : Pairs ℕ) (n : ℕ) (d : ℕ × ℕ) → length ps ≡ suc n → Rises low high ps → Rises low ((get_or ps n d).0 + 1) ps
rises_to low high [] n d is r = absurd (omega (arith, is))
rises_to low high (e ∷ []) zero d is r = (r.0, omega arith, tt)
rises_to low high (e ∷ f ∷ es) zero d is r = absurd (omega (arith, is))
rises_to low high (e ∷ es) (suc n) d is r =
    let l = last_below (e.0 + 1) high es n d (omega (arith, is)) r.2 in
    let a = l.0 in
    (r.0, omega (arith, a), rises_to (e.0 + 1) high es n d (omega (arith, is)) r.2)

pub rises_few : (low high : ℕ) (ps : Pairs ℕ) → low ≤ high → Rises low high ps → length ps + low ≤ high
rises_few low high [] order r = omega (arith, order)
rises_few low high (e ∷ es) order r =
    let a = r.0 in
    let b = r.1 in
    let l = rises_few (e.0 + 1) high es (omega (arith, b)) r.2 in
    omega (arith, l, a)

-- A PART: all keys of a page that isn't full
pub part_whole : (k n : Known) (low high room read : ℕ) (page : Pairs ℕ) → length page ≡ room → read < room → HasPage k low high room (take read page) n → HasListed low high (take read page) k n
part_whole k n low high room read page long less p =
    let count = length-take-le read page (omega (arith, long, less)) in
    (p.seen, subst (λ (z : ℕ). HasRead true p.seen.start.seen n.seen low z (take read page)) (p.whole (omega (arith, count, less))) p.read)

-- or those up to its last pair
pub record IsPart (k n : Known) (low high last : ℕ) (ps : Pairs ℕ) : Type 0 where
  pub listed : HasListed low (last + 1) ps k n
  pub low_is : low ≤ last
  pub inside : last < high
  pub few : length ps + low ≤ last + 1

listed_to : (k n : Known) (low high room : ℕ) (ps : Pairs ℕ) (i : ℕ) (d : ℕ × ℕ) → length ps ≡ suc i → HasPage k low high room ps n → IsPart k n low high (get_or ps i d).0 ps
listed_to k n low high room ps i d is p =
    let r = p.read in
    let inside = p.inside in
    let l = last_below low p.end ps i d is r.ascend in
    let a = l.0 in
    let b = l.1 in
    let up = rises_to low p.end ps i d is r.ascend in
    record {
      listed = (p.seen, shrunk true p.seen.start.seen n.seen low p.end low ((get_or ps i d).0 + 1) ps r (omega arith) (omega (arith, b)) up);
      low_is = a;
      inside = omega (arith, b, inside);
      few = rises_few low ((get_or ps i d).0 + 1) ps (omega (arith, a)) up;
    }

pub part_full : (k n : Known) (low high room read i : ℕ) (page : Pairs ℕ) (d : ℕ × ℕ) → length page ≡ suc i → suc i ≤ read → HasPage k low high room (take read page) n → IsPart k n low high (get_or page i d).0 (take read page)
part_full k n low high room read i page d long full p =
    let all : take read page ≡ page = take_all read page (omega (arith, long, full)) in
    subst (λ (z : Pairs ℕ). IsPart k n low high (get_or page i d).0 z) (sym all) (listed_to k n low high room page i d long (subst (λ (z : Pairs ℕ). HasPage k low high room z n) all p))

-- one more, or none
pub few_more : (removed : Bool) (count total i : ℕ) → total ≡ count + one_if removed → count ≤ i → total ≤ i + 1
few_more true count total i is few = omega (arith, is, few)
few_more false count total i is few = omega (arith, is, few)

module _ {F : Type 0} (step : F → ℕ × ℕ → Bool → F → Type 0) where
  -- one pair more
  pub judged_more : (ps : Pairs ℕ) (p : ℕ × ℕ) (removed : Bool) (count : ℕ) (f h g : F) (k m n : Known) → HaveJudged step ps count f k h m → HasJudged step removed p h m g n → HaveJudged step (ps ++ p ∷ []) (count + one_if removed) f k g n
  judged_more [] p removed count f h g k m n all one =
      let e : count + one_if removed ≡ one_if removed + 0 = let z = all.0 in omega (arith, z) in (
        removed,
        0,
        g,
        n,
        e,
        subst (λ (z : F × Known). HasJudged step removed p z.0 z.1 g n) (λ i. (all.1 i, all.2 i)) one,
        (refl, refl, refl),
      )
  judged_more (q ∷ ps) p removed count f h g k m n all one =
      let first = all.0 in
      let rest = all.1 in
      let is = all.4 in (
        first,
        rest + one_if removed,
        all.2,
        all.3,
        omega (arith, is),
        all.5,
        judged_more ps p removed rest all.2 h g all.3 m n all.6 one,
      )

  -- one part more
  pub gone_more : (parts low from end before these : ℕ) (ps : Pairs ℕ) (f h g : F) (k m i n : Known) → HaveGone step parts low from before f k h m → Waits m (λ l. HasListed from end ps l i) → HaveJudged step ps these h i g n → HaveGone step (suc parts) low end (before + these) f k g n
  gone_more parts low from end before these ps f h g k m i n gone read judged = (from, before, these, h, m, i, ps, gone, read, judged, refl)
