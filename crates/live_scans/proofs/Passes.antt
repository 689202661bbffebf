-- Steps of a reader, from an earlier view on, and its pages.
use Rattle.std.proofs.Common.{◌≡◌, ◌≢◌, ◌⊎◌, ℕ, ◌+◌, ◌-◌, ◌%◌, ◌<◌, ◌≤◌, Bool, true, false, cond, List, [], ◌++◌, length, take, drop, reverse, Option, Some, None, refl, sym, ap, ◌∙◌, subst, inl, inr, arith, append-nil, nat_eq}
use mathlib.Core.Logic.{dite}
use native.Mathlib.Decide.{ℕ_discrete}
use Rattle.std.proofs.lemmas.List.{take-append-drop, take-take, reverse-append, length-drop, length-take-le, length-reverse}
use Rattle.spec_map.specs.Map.{Pairs, Rises}
use Rattle.spec_map.proofs.ByteMapLaws.{length-from_Rises}
use Rattle.share_rule.specs.History.{Entry, IsLegalHistory}
use Rattle.word_book.specs.Book.{Book}
use Rattle.live_nodes.specs.Seats.{SeatView}
use Rattle.live_layout.specs.Order.{IsFrom}
use Rattle.live_nodes.specs.Views.{View}
use Rattle.live_reads.specs.Paths.{Keeps}
use Rattle.live_reads.proofs.Finds.{keeps_then}
use Rattle.live_layout.proofs.PageLaws.{filled_none}
use Rattle.live_scans.specs.Scans.{HasRead}
use Rattle.live_scans.specs.inner.Directions.{low_of, high_of, EndsLeaf, BeginsLeaf, IsNextKey, ascending}
use Rattle.live_scans.specs.inner.Moments.{SeesMore, IsPassed, Reads, ReadsTo}
use Rattle.live_scans.specs.inner.Steps.{IsStep}
use Rattle.live_scans.proofs.Composed.{more_same, more_then, nothing_between, nothing_read, reads_since, reads_fewer, reads_then, reads_down_then}

abbrev Seen : Type 0
Seen = SeatView View

abbrev History : Type 0
History = List (Entry ℕ)

pub keeps_same : (v : Seen) → Keeps v v
keeps_same v = record { places = λ p h. h; met = λ a h. h; own = refl; holds = refl; room = refl }

pub seen_equal : (id : ℕ) (u v : Seen) → v.client.seen ≡ u.client.seen → SeesMore v.client.seen id u.client.seen
seen_equal id u v e = subst (λ (h : List (Entry ℕ)). SeesMore h id u.client.seen) (sym e) (more_same id u.client.seen)

pub seen_since : (c id : ℕ) (u v w : Seen) → c ≡ id → SeesMore v.client.seen id u.client.seen → SeesMore w.client.seen c v.client.seen → SeesMore w.client.seen id u.client.seen
seen_since c id u v w is first then = more_then id u.client.seen v.client.seen w.client.seen first (subst (λ (z : ℕ). SeesMore w.client.seen z v.client.seen) is then)

pub passed_since : (up : Bool) (c id : ℕ) (u v w : Seen) (key to : ℕ) → c ≡ id → SeesMore v.client.seen id u.client.seen → IsPassed up c v w key to → IsPassed up id u w key to
passed_since up c id u v w key to is first p = record {
  order = p.order;
  seam = p.seam;
  reads = reads_since up c id u v w (low_of up key to) (high_of up key to) [] is first p.reads;
}

-- WHAT STAYS: the seat is of the same map and caller, knows as much, and has seen more
abbrev pub Stays : Book → Book → ℕ → ℕ → Seen → Seen → Type 0
Stays b b₁ c c₁ u v = (b₁ ≡ b) × (c₁ ≡ c) × Keeps u v × SeesMore v.client.seen c u.client.seen

pub stays_then : (b b₁ b₂ : Book) (c c₁ c₂ : ℕ) (u v w : Seen) → Stays b b₁ c c₁ u v → Stays b₁ b₂ c₁ c₂ v w → Stays b b₂ c c₂ u w
stays_then b b₁ b₂ c c₁ c₂ u v w s t = (t.0 ∙ s.0, t.1 ∙ s.1, keeps_then u v w s.2 t.2, seen_since c₁ c u v w s.1 s.3 t.3)

-- KEYS from one on and before another, of which none was found
abbrev pub HasPassedTo : Bool → Seen → Seen → ℕ → ℕ → Type 0
HasPassedTo true u v key from = HasRead true u.client.seen v.client.seen key from []
HasPassedTo false u v key from = HasRead false u.client.seen v.client.seen (from + 1) (key + 1) []

pub passed_to : (up : Bool) (id : ℕ) (u v : Seen) (key from : ℕ) → ReadsTo up id u v key from → HasPassedTo up u v key from
passed_to true id u v key from r = r.read
passed_to false id u v key from r = r.read

pub to_fits : (up : Bool) (id : ℕ) (u v : Seen) (key from : ℕ) → ReadsTo up id u v key from → SeesMore v.client.seen id u.client.seen
to_fits true id u v key from r = r.fits
to_fits false id u v key from r = r.fits

pub nothing_passed : (up : Bool) (v w : Seen) (key : ℕ) → w.client.seen ≡ v.client.seen → HasPassedTo up v w key key
nothing_passed true v w key same = subst (λ (h : History). HasRead true v.client.seen h key key []) (sym same) (nothing_read true v.client.seen key key (omega arith))
nothing_passed false v w key same = subst (λ (h : History). HasRead false v.client.seen h (key + 1) (key + 1) []) (sym same) (nothing_read false v.client.seen (key + 1) (key + 1) (omega arith))

pub begins_same : (up : Bool) (key : ℕ) → BeginsLeaf up key key
begins_same true key = inr refl
begins_same false key = inr refl

pub reads_to_since : (up : Bool) (c id : ℕ) (u v w : Seen) (key to : ℕ) → c ≡ id → SeesMore v.client.seen id u.client.seen → ReadsTo up c v w key to → ReadsTo up id u w key to
reads_to_since true c id u v w key to is seen r = reads_since true c id u v w key to [] is seen r
reads_to_since false c id u v w key to is seen r = reads_since false c id u v w (to + 1) (key + 1) [] is seen r

-- and the keys behind them
pub reads_on : (up : Bool) (c id : ℕ) (u v w : Seen) (key from last : ℕ) (ps : Pairs ℕ) → c ≡ id → SeesMore v.client.seen id u.client.seen → HasPassedTo up u v key from → IsFrom up key from → IsFrom up from last → BeginsLeaf up key from → Reads up c v w (low_of up from last) (high_of up from last) ps → Reads up id u w (low_of up key last) (high_of up key last) ps
reads_on true c id u v w key from last ps is seen read order on seam r = reads_then c id u v w key from (last + 1) [] ps is seen read r order (omega (arith, on)) seam
reads_on false c id u v w key from last ps is seen read order on seam r = subst (Reads false id u w last (key + 1)) (append-nil ps) (reads_down_then c id u v w last (from + 1) (key + 1) ps [] is seen read r (omega (arith, on)) (omega (arith, order)) seam)

pub reads_to_on : (up : Bool) (c id : ℕ) (u v w : Seen) (key from to : ℕ) → c ≡ id → SeesMore v.client.seen id u.client.seen → HasPassedTo up u v key from → IsFrom up key from → IsFrom up from to → BeginsLeaf up key from → ReadsTo up c v w from to → HasPassedTo up u w key to
reads_to_on true c id u v w key from to is seen read order on seam r = (reads_then c id u v w key from to [] [] is seen read r order on seam).read
reads_to_on false c id u v w key from to is seen read order on seam r = (reads_down_then c id u v w (to + 1) (from + 1) (key + 1) [] [] is seen read r (omega (arith, on)) (omega (arith, order)) seam).read

-- keys behind a leaf, of which none was found
abbrev pub ReadsBehind : Bool → ℕ → Seen → Seen → ℕ → ℕ → Type 0
ReadsBehind true c v w last to = Reads true c v w (last + 1) (to + 1) []
ReadsBehind false c v w last to = Reads false c v w to last []

pub rest_reads : (up : Bool) (c id : ℕ) (u v w : Seen) (key last to : ℕ) (ps : Pairs ℕ) → c ≡ id → SeesMore v.client.seen id u.client.seen → Reads up id u v (low_of up key last) (high_of up key last) ps → ReadsBehind up c v w last to → IsFrom up key last → IsFrom up last to → EndsLeaf up last → Reads up id u w (low_of up key to) (high_of up key to) ps
rest_reads true c id u v w key last to ps is seen read rest order on whole =
    subst (Reads true id u w key (to + 1)) (append-nil ps) (reads_then c id u v w key (last + 1) (to + 1) ps [] is seen read.read rest (omega (arith, order)) (omega (arith, on)) (inl whole))
rest_reads false c id u v w key last to ps is seen read rest order on whole =
    reads_down_then c id u v w to last (key + 1) [] ps is seen read.read rest on (omega (arith, order)) (inl whole)

-- no more keys
pub none_more : (up : Bool) (c : ℕ) (v w : Seen) (last : ℕ) → IsLegalHistory nat_eq v.client.seen → SeesMore w.client.seen c v.client.seen → ReadsBehind up c v w last last
none_more true c v w last legal seen = record { fits = seen; legal = seen.legal legal; read = nothing_between true v.client.seen w.client.seen (last + 1) (last + 1) (omega arith) }
none_more false c v w last legal seen = record { fits = seen; legal = seen.legal legal; read = nothing_between false v.client.seen w.client.seen last last (omega arith) }

-- THE STEPS OF A PAGE
-- no pair yet
none_filled : (up : Bool) (l : List (ℕ × ℕ)) (start : ℕ) → start ≤ length l → [] ≡ ascending up (drop start (take start l))
none_filled true l start low = sym (filled_none l start low)
none_filled false l start low = sym (ap reverse (filled_none l start low))

-- up to where keys are read
reads_nearer : (up : Bool) (id : ℕ) (u w : Seen) (key last to : ℕ) → IsFrom up to last → Reads up id u w (low_of up key last) (high_of up key last) [] → Reads up id u w (low_of up key to) (high_of up key to) []
reads_nearer true id u w key last to near r = reads_fewer true id u w key (last + 1) key (to + 1) [] r (omega arith) (omega (arith, near)) tt
reads_nearer false id u w key last to near r = reads_fewer false id u w last (key + 1) to (key + 1) [] r near (omega arith) tt

pub nearest_from : (up : Bool) (key last limit to : ℕ) → IsFrom up key last → IsFrom up key limit → (to ≡ last) ⊎ (to ≡ limit) → IsFrom up key to
nearest_from up key last limit to from order is = elim is [ inl e ↦ subst (IsFrom up key) (sym e) from | inr e ↦ subst (IsFrom up key) (sym e) order ]

pub gap_step : (up : Bool) (id : ℕ) (u w : Seen) (key limit start last to : ℕ) (buffer : List (ℕ × ℕ)) → IsPassed up id u w key last → IsFrom up key limit → IsFrom up to last → IsFrom up to limit → (to ≡ last) ⊎ (to ≡ limit) → start < length buffer → IsStep up id u w key limit start buffer start to
gap_step up id u w key limit start last to buffer p order near within is room = record {
  order = nearest_from up key last limit to p.order order is;
  within = within;
  from = omega arith;
  few = omega (arith, room);
  small = omega arith;
  seam = λ left ne. elim is [ inl e ↦ subst (EndsLeaf up) (sym e) p.seam | inr e ↦ absurd (ne e) ];
  reads = subst (Reads up id u w (low_of up key to) (high_of up key to)) (none_filled up buffer start (omega (arith, room))) (reads_nearer up id u w key last to near p.reads);
}

pub from_same : (up : Bool) (a : ℕ) → IsFrom up a a
from_same true a = omega arith
from_same false a = omega arith

-- the last key of a leaf
pub leaf_ends : (up : Bool) (base reached : ℕ) → base % 256 ≡ 0 → reached ≡ cond up 255 0 → EndsLeaf up (base + reached)
leaf_ends true base reached whole e = omega (arith, whole, e)
leaf_ends false base reached whole e = omega (arith, whole, e)

-- the last key of a part
ends : (up : Bool) (base first last : ℕ) → base % 256 ≡ 0 → cond up last first ≡ cond up 255 0 → EndsLeaf up (base + cond up last first)
ends true base first last whole e = omega (arith, whole, e)
ends false base first last whole e = omega (arith, whole, e)

part_order : (up : Bool) (base first last reached : ℕ) → first ≤ reached → reached ≤ last → IsFrom up (base + cond up first last) (base + reached) × IsFrom up (base + reached) (base + cond up last first)
part_order true base first last reached low high = (omega (arith, low), omega (arith, high))
part_order false base first last reached low high = (omega (arith, high), omega (arith, low))

pub from_then : (up : Bool) (a b c : ℕ) → IsFrom up a b → IsFrom up b c → IsFrom up a c
from_then true a b c x y = omega (arith, x, y)
from_then false a b c x y = omega (arith, x, y)

-- it has at most 256 pairs
part_small : (up : Bool) (base first last reached start count : ℕ) (buffer : List (ℕ × ℕ)) → first ≤ reached → reached ≤ last → last ≤ 255 → count ≤ length buffer → Rises (low_of up (base + cond up first last) (base + reached)) (high_of up (base + cond up first last) (base + reached)) (ascending up (drop start (take count buffer))) → count ≤ start + 256
part_small true base first last reached start count buffer low high byte few rises =
    let ps = drop start (take count buffer) in
    let most = length-from_Rises (base + first) (base + reached + 1) ps (omega (arith, low)) rises in
    let long = length-drop start (take count buffer) in
    let all = length-take-le count buffer few in
    omega (arith, most, long, all, low, high, byte)
part_small false base first last reached start count buffer low high byte few rises =
    let ps = drop start (take count buffer) in
    let most = length-from_Rises (base + reached) (base + last + 1) (reverse ps) (omega (arith, high)) rises in
    let same = length-reverse ps in
    let long = length-drop start (take count buffer) in
    let all = length-take-le count buffer few in
    omega (arith, most, same, long, all, low, high, byte)

-- a part of a leaf
pub leaf_step : (up : Bool) (c id : ℕ) (u v w : Seen) (key limit start base first last count reached : ℕ) (buffer : List (ℕ × ℕ)) → c ≡ id → SeesMore v.client.seen id u.client.seen → base % 256 ≡ 0 → base + cond up first last ≡ key → IsFrom up (base + cond up last first) limit → (cond up last first ≢ cond up 255 0 → base + cond up last first ≡ limit)
    → start ≤ count → count ≤ length buffer → first ≤ reached → reached ≤ last → last ≤ 255 → (reached ≢ cond up last first → count ≡ length buffer)
    → Reads up c v w (low_of up (base + cond up first last) (base + reached)) (high_of up (base + cond up first last) (base + reached)) (ascending up (drop start (take count buffer))) → IsStep up id u w key limit start buffer count (base + reached)
leaf_step up c id u v w key limit start base first last count reached buffer is seen whole begins within cut from few low high byte full reads =
    let order = part_order up base first last reached low high in record {
      order = subst (λ (z : ℕ). IsFrom up z (base + reached)) begins order.0;
      within = from_then up (base + reached) (base + cond up last first) limit order.1 within;
      from = from;
      few = few;
      small = part_small up base first last reached start count buffer low high byte few reads.read.ascend;
      seam = λ left ne.
          dite (ℕ_discrete reached (cond up last first))
          (λ e. dite (ℕ_discrete (cond up last first) (cond up 255 0))
          (λ f. subst (λ (z : ℕ). EndsLeaf up (base + z)) (sym e) (ends up base first last whole f))
          (λ other. absurd (ne (ap (λ (z : ℕ). base + z) e ∙ cut other))))
          (λ other. absurd (let x = full other in omega (arith, x, left)));
      reads = reads_since up c id u v w (low_of up key (base + reached)) (high_of up key (base + reached)) (ascending up (drop start (take count buffer))) is seen
          (subst (λ (z : ℕ). Reads up c v w (low_of up z (base + reached)) (high_of up z (base + reached)) (ascending up (drop start (take count buffer)))) begins reads);
    }

pub step_since : (up : Bool) (c id : ℕ) (u v w : Seen) (key limit start count last : ℕ) (buffer : List (ℕ × ℕ)) → c ≡ id → SeesMore v.client.seen id u.client.seen → IsStep up c v w key limit start buffer count last → IsStep up id u w key limit start buffer count last
step_since up c id u v w key limit start count last buffer is seen s = record {
  order = s.order;
  within = s.within;
  from = s.from;
  few = s.few;
  small = s.small;
  seam = s.seam;
  reads = reads_since up c id u v w (low_of up key last) (high_of up key last) (ascending up (drop start (take count buffer))) is seen s.reads;
}

-- A PAGE
-- so far: all keys before this one were read
abbrev pub HasReadTo : Bool → History → History → ℕ → ℕ → Pairs ℕ → Type 0
HasReadTo true old new key from pairs = HasRead true old new key from pairs
HasReadTo false old new key from pairs = HasRead false old new (from + 1) (key + 1) (reverse pairs)

pub page_begins : (up : Bool) (h : History) (key : ℕ) (buffer : List (ℕ × ℕ)) → HasReadTo up h h key key (take 0 buffer) × BeginsLeaf up key key × IsFrom up key key
page_begins true h key buffer = (nothing_read true h key key (omega arith), inr refl, omega arith)
page_begins false h key buffer = (nothing_read false h (key + 1) (key + 1) (omega arith), inr refl, omega arith)

-- a step goes on with it
pub page_step : (up : Bool) (c id : ℕ) (u v w : Seen) (key from limit start count last : ℕ) (old buffer : List (ℕ × ℕ)) → c ≡ id → SeesMore v.client.seen id u.client.seen → HasReadTo up u.client.seen v.client.seen key from (take start old) → take start buffer ≡ take start old → IsFrom up key from → BeginsLeaf up key from → IsStep up c v w from limit start buffer count last → Reads up id u w (low_of up key last) (high_of up key last) (ascending up (take count buffer))
page_step true c id u v w key from limit start count last old buffer is seen read same order seam s =
    let on = s.order in
    let all : take start old ++ drop start (take count buffer) ≡ take count buffer =
    ap (λ (ps : Pairs ℕ). ps ++ drop start (take count buffer)) (sym (take-take start count buffer s.from ∙ same)) ∙ take-append-drop start (take count buffer) in
    subst (Reads true id u w key (last + 1)) all (reads_then c id u v w key from (last + 1) (take start old) (drop start (take count buffer)) is seen read s.reads order (omega (arith, on)) seam)
page_step false c id u v w key from limit start count last old buffer is seen read same order seam s =
    let on = s.order in
    let ps = drop start (take count buffer) in
    let parts : take start old ++ ps ≡ take count buffer =
    ap (λ (xs : Pairs ℕ). xs ++ ps) (sym (take-take start count buffer s.from ∙ same)) ∙ take-append-drop start (take count buffer) in
    let all : reverse ps ++ reverse (take start old) ≡ reverse (take count buffer) = sym (reverse-append (take start old) ps) ∙ ap reverse parts in
    subst (Reads false id u w last (key + 1)) all (reads_down_then c id u v w last (from + 1) (key + 1) (reverse ps) (reverse (take start old)) is seen read s.reads (omega (arith, on)) (omega (arith, order)) seam)

-- and it goes on behind the step
pub page_on : (up : Bool) (id : ℕ) (u w : Seen) (key last next : ℕ) (pairs : Pairs ℕ) → IsFrom up key last → EndsLeaf up last → IsNextKey up last next → Reads up id u w (low_of up key last) (high_of up key last) (ascending up pairs) → HasReadTo up u.client.seen w.client.seen key next pairs × BeginsLeaf up key next × IsFrom up key next
page_on true id u w key last next pairs order seam is r = (subst (λ (z : ℕ). HasRead true u.client.seen w.client.seen key z pairs) (sym is) r.read, inl (subst (λ (z : ℕ). z % 256 ≡ 0) (sym is) seam), omega (arith, order, is))
page_on false id u w key last next pairs order seam is r = (subst (λ (z : ℕ). HasRead false u.client.seen w.client.seen z (key + 1) (reverse pairs)) is r.read, inl (subst (λ (z : ℕ). z % 256 ≡ 0) is seam), omega (arith, order, is))

-- how many keys are left
abbrev pub left : Bool → ℕ → ℕ → ℕ
left true limit from = limit + 1 - from
left false limit from = from + 1 - limit

pub fewer_left : (up : Bool) (limit from last next : ℕ) → IsFrom up from last → IsFrom up last limit → last ≢ limit → IsNextKey up last next → left up limit next < left up limit from
fewer_left true limit from last next order within ne is = omega (arith, order, within, ne, is)
fewer_left false limit from last next order within ne is = omega (arith, order, within, ne, is)
