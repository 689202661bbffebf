-- Pages downwards, and the pair before a key, as guards know them.
use Rattle.std.proofs.Common.{◌≡◌, ◌≢◌, ℕ, ◌+◌, ◌<◌, ◌≤◌, nat_eq, false, List, [], ◌∷◌, ◌++◌, length, take, get_or, reverse, Some, None, refl, sym, ap, ◌∙◌, subst, arith}
use Rattle.spec_map.specs.Map.{Pairs, lookup}
use Rattle.share_rule.specs.History.{Entry, StartsWith, IsHistory}
use Rattle.word_book.specs.Book.{Book}
use Rattle.live_nodes.specs.Seats.{SeatView}
use Rattle.live_nodes.specs.Views.{View}
use Rattle.live_nodes.specs.Known.{Known}
use Rattle.live_nodes.specs.Begun.{began}
use Rattle.live_growth.specs.Calls.{known_of}
use Rattle.live_reads.specs.Roots.{Begins}
use Rattle.live_scans.specs.Scans.{Moment, HasRead, HasBegun}
use Rattle.live_scans.specs.Descents.{HasPageDown}
use Rattle.live_scans.specs.Floors.{HasBefore}
use Rattle.live_scans.specs.inner.Moments.{SeesMore}
use Rattle.live_scans.specs.inner.Steps.{IsPage}
use Rattle.live_scans.proofs.Composed.{nothing_between, shrunk}
use Rattle.live_scans.proofs.Pages.{begun_by, less, take-one}

abbrev Seen : Type 0
Seen = SeatView View

pub page_down_seat : (b b₁ b₂ : Book) (c c₁ c₂ : ℕ) (u v w : Seen) (key limit count reached : ℕ) (buffer : List (ℕ × ℕ)) → b₁ ≡ b → c₁ ≡ c → b₂ ≡ b₁ → c₂ ≡ c₁ → Begins c u.client.seen v.client.seen → SeesMore w.client.seen c₁ v.client.seen → IsPage false c₁ v w key limit buffer count reached
    → HasPageDown (known_of b c u) limit (key + 1) (length buffer) (take count buffer) (known_of b₂ c₂ w)
page_down_seat b b₁ b₂ c c₁ c₂ u v w key limit count reached buffer book caller book₂ caller₂ begins more p = record {
  seen = begun_by b b₁ b₂ c c₁ c₂ u v w book caller book₂ caller₂ begins more;
  end = reached;
  inside = p.within;
  whole = λ l. p.whole (less count buffer l);
  read = p.reads.read;
}

-- of no keys, and into no room
pub page_down_crossed : (k n : Known) (low high room : ℕ) → high ≤ low → HasBegun k n → HasPageDown k low high room [] n
page_down_crossed k n low high room none h = record {
  seen = h;
  end = low;
  inside = omega arith;
  whole = λ l. refl;
  read = nothing_between false h.start.seen n.seen low high none;
}

pub page_down_roomless : (k n : Known) (low high room : ℕ) → low ≤ high → room ≡ 0 → HasBegun k n → HasPageDown k low high room [] n
page_down_roomless k n low high room in_order none h = record {
  seen = h;
  end = high;
  inside = in_order;
  whole = λ l. absurd (omega (arith, l, none));
  read = nothing_between false h.start.seen n.seen high high (omega arith);
}

-- A key with no pair in a page that isn't full was absent at a moment after the reader began.
pub absent_down_then : (k n : Known) (low high room key : ℕ) (pairs : Pairs ℕ) → HasPageDown k low high room pairs n → length pairs < room → low ≤ key → key < high → lookup (reverse pairs) key ≡ None
    → (m : Moment) × (IsHistory nat_eq m.history m.pairs) × ((older : List (Entry ℕ)) × StartsWith m.history ((k.seen ++ older) ++ began k.caller ∷ [])) × (lookup m.pairs key ≡ None)
absent_down_then k n low high room key pairs p some_room from to none =
    let all = p.whole some_room in
    let inside : p.end ≤ key = omega (arith, from, all) in
    let between = p.read.between key inside to in (
      p.read.moment key,
      between.0,
      (p.seen.begun.between, subst (StartsWith (p.read.moment key).history) p.seen.begun.seen between.1),
      sym (p.read.value key inside to) ∙ none,
    )

-- A PAGE OF ONE PAIR
pub before_none : (k n : Known) (high : ℕ) (l : List (ℕ × ℕ)) (count : ℕ) → count ≡ 0 → HasPageDown k 0 high 1 (take count l) n → HasBefore k high None n
before_none k n high l count none p =
    let q : HasPageDown k 0 high 1 [] n = subst (λ (z : ℕ). HasPageDown k 0 high 1 (take z l) n) none p in
    (q.seen, subst (λ (z : ℕ). HasRead false q.seen.start.seen n.seen z high []) (q.whole (omega arith)) q.read)

pub before_some : (k n : Known) (high : ℕ) (l : List (ℕ × ℕ)) (count : ℕ) (d x : ℕ × ℕ) → length l ≡ 1 → count ≢ 0 → get_or l 0 d ≡ x → HasPageDown k 0 high 1 (take count l) n → HasBefore k high (Some x) n
before_some k n high l count d x one some is p =
    let q : HasPageDown k 0 high 1 (x ∷ []) n = subst (λ (ps : Pairs ℕ). HasPageDown k 0 high 1 ps n) (take-one l count d one some ∙ ap (λ (z : ℕ × ℕ). z ∷ []) is) p in
    let rises = q.read.ascend in
    (q.seen, shrunk false q.seen.start.seen n.seen q.end high x.0 high (x ∷ []) q.read rises.0 (omega arith) (omega arith, rises.1, tt))

-- and none before the first key
pub none_before : (k n : Known) (key : ℕ) → key ≡ 0 → HasBegun k n → HasBefore k key None n
none_before k n key none h = (h, nothing_between false h.start.seen n.seen 0 key (omega (arith, none)))
