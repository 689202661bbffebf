-- A page that an iterator has read.
use Rattle.std.proofs.Common.{◌≡◌, ℕ, suc, ◌+◌, ◌-◌, ◌<◌, ◌≤◌, true, false, [], ◌∷◌, length, take, get_or, reverse, length-take-le, sym, ap, ◌∙◌, subst, arith}
use Rattle.std.proofs.lemmas.List.{take_all, take_more, reverse-append, length-reverse}
use Rattle.spec_map.specs.Map.{Pairs, Rises}
use Rattle.live_nodes.specs.Known.{Known}
use Rattle.live_scans.specs.Scans.{HasRead, HasPage, Waits}
use Rattle.live_scans.specs.Descents.{HasPageDown}
use Rattle.live_scans.proofs.Composed.{shrunk}
use Rattle.live_pool.proofs.Judged.{IsPart, part_whole, part_full, rises_few}
use Rattle.live_faces.specs.Iterated.{HasPart}

-- keys that ascend are as many as lie between their bounds, at most
pub rises_fits : (low high : ℕ) (ps : Pairs ℕ) → Rises low high ps → length ps ≤ high - low
rises_fits low high [] r = omega arith
rises_fits low high (e ∷ es) r =
    let a = r.0 in
    let b = r.1 in
    let l = rises_fits (e.0 + 1) high es r.2 in
    omega (arith, a, b, l)

-- UPWARDS: all keys of a page that isn't full,
pub up_whole : (k n : Known) (low high room read : ℕ) (page : Pairs ℕ) → length page ≡ room → read < room → Waits k (λ m. HasPage m low high room (take read page) n) → Waits k (λ m. HasPart true low high (take read page) m n)
up_whole k n low high room read page long less w = (w.0, w.1, part_whole w.0 n low high room read page long less w.2)

-- and those up to its last pair of one that is
pub up_full : (k n : Known) (low high room read i : ℕ) (page : Pairs ℕ) → length page ≡ suc i → suc i ≤ read → (w : Waits k (λ m. HasPage m low high room (take read page) n)) → IsPart w.0 n low high (get_or page i (0, 0)).0 (take read page)
up_full k n low high room read i page long full w = part_full w.0 n low high room read i page (0, 0) long full w.2

-- DOWNWARDS
pub down_whole : (k n : Known) (low high room read : ℕ) (page : Pairs ℕ) → length page ≡ room → read < room → Waits k (λ m. HasPageDown m low high room (take read page) n) → Waits k (λ m. HasPart false low high (take read page) m n)
down_whole k n low high room read page long less w =
    let p = w.2 in
    let count = length-take-le read page (omega (arith, long, less)) in
    (w.0, w.1, (p.seen, subst (λ (z : ℕ). HasRead false p.seen.start.seen n.seen z high (reverse (take read page))) (p.whole (omega (arith, count, less))) p.read))

-- those from its last pair on
pub record IsPartDown (k n : Known) (low high least : ℕ) (ps : Pairs ℕ) : Type 0 where
  pub part : HasPart false least high ps k n
  pub low_is : low ≤ least
  pub inside : least < high
  pub few : length ps + least ≤ high

last_first : (ps : Pairs ℕ) (i : ℕ) (d : ℕ × ℕ) → length ps ≡ suc i → reverse ps ≡ get_or ps i d ∷ reverse (take i ps)
last_first ps i d is =
    ap reverse (sym (take_all (i + 1) ps (omega (arith, is))) ∙ take_more ps i d (omega (arith, is)))
    ∙ reverse-append (take i ps) (get_or ps i d ∷ [])

down_to : (k n : Known) (low high room : ℕ) (ps : Pairs ℕ) (i : ℕ) (d : ℕ × ℕ) → length ps ≡ suc i → HasPageDown k low high room ps n → IsPartDown k n low high (get_or ps i d).0 ps
down_to k n low high room ps i d is p =
    let e = get_or ps i d in
    let first = last_first ps i d is in
    let r = p.read in
    let inside = p.inside in
    let rises = subst (Rises p.end high) first r.ascend in
    let a = rises.0 in
    let b = rises.1 in
    let up = subst (Rises e.0 high) (sym first) (omega arith, b, rises.2) in
    let few = rises_few e.0 high (reverse ps) (omega (arith, b)) up in
    record {
      part = (p.seen, shrunk false p.seen.start.seen n.seen p.end high e.0 high (reverse ps) r a (omega arith) up);
      low_is = omega (arith, inside, a);
      inside = b;
      few = omega (arith, few, length-reverse ps);
    }

pub down_full : (k n : Known) (low high room read i : ℕ) (page : Pairs ℕ) → length page ≡ suc i → suc i ≤ read → (w : Waits k (λ m. HasPageDown m low high room (take read page) n)) → IsPartDown w.0 n low high (get_or page i (0, 0)).0 (take read page)
down_full k n low high room read i page long full w =
    let all : take read page ≡ page = take_all read page (omega (arith, long, full)) in
    subst (λ (z : Pairs ℕ). IsPartDown w.0 n low high (get_or page i (0, 0)).0 z) (sym all) (down_to w.0 n low high room page i (0, 0) long (subst (λ (z : Pairs ℕ). HasPageDown w.0 low high room z n) all w.2))
