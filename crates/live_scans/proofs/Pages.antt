-- Pages, as guards know them.
use Rattle.std.proofs.Common.{◌≡◌, ◌≢◌, ℕ, zero, suc, ◌+◌, ◌^◌, ◌<◌, ◌≤◌, nat_eq, true, false, List, [], ◌∷◌, ◌++◌, length, take, get_or, Some, None, Result, Ok, Err, IsErr, OnErr, refl, sym, ap, ◌∙◌, subst, inl, inr, arith}
use Rattle.spec_map.specs.Map.{Pairs, lookup}
use Rattle.share_rule.specs.History.{Entry, StartsWith, entries_of, IsHistory, IsLegalHistory}
use Rattle.live_scans.specs.inner.Moments.{SeesMore}
use Rattle.word_book.specs.Book.{Book}
use Rattle.live_nodes.specs.Seats.{SeatView}
use Rattle.live_nodes.specs.Views.{View}
use Rattle.live_nodes.specs.Known.{Known}
use Rattle.live_nodes.specs.Begun.{began}
use Rattle.live_growth.specs.Calls.{known_of}
use Rattle.live_reads.specs.Roots.{Begins}
use Rattle.live_growth.proofs.Ready.{made_call}
use Rattle.live_scans.specs.Scans.{Moment, HasRead, HasBegun, GaveUp, HasWaited, HasPage, HasNext}
use Rattle.live_scans.specs.inner.Steps.{IsPage}
use Rattle.live_scans.proofs.Composed.{starts_then, nothing_between, shrunk}

abbrev Seen : Type 0
Seen = SeatView View

-- BY THE SEAT: a reader began, and has seen more since
abbrev pub begun_by : (b b₁ b₂ : Book) (c c₁ c₂ : ℕ) (u v w : Seen) → b₁ ≡ b → c₁ ≡ c → b₂ ≡ b₁ → c₂ ≡ c₁ → Begins c u.client.seen v.client.seen → SeesMore w.client.seen c₁ v.client.seen → HasBegun (known_of b c u) (known_of b₂ c₂ w)
begun_by b b₁ b₂ c c₁ c₂ u v w book caller book₂ caller₂ begins more = record {
  start = known_of b₁ c₁ v;
  begun = made_call (known_of b c u) b₁ c₁ u.client.seen v began (λ x. refl) book caller refl (subst (λ (z : ℕ). Begins z u.client.seen v.client.seen) (sym caller) begins);
  later = record {
    book = book₂;
    caller = caller₂;
    legal = more.legal (subst (IsLegalHistory nat_eq) (sym begins.is) begins.legal);
    seen = more.begins;
    own = ap (λ (z : ℕ). entries_of z w.client.seen) caller₂ ∙ more.own;
  };
}

pub begun_on : (k : Known) (b b₁ : Book) (c c₁ : ℕ) (v w : Seen) → b₁ ≡ b → c₁ ≡ c → HasBegun k (known_of b c v) → SeesMore w.client.seen c v.client.seen → HasBegun k (known_of b₁ c₁ w)
begun_on k b b₁ c c₁ v w book caller h more = record {
  start = h.start;
  begun = h.begun;
  later = record {
    book = book ∙ h.later.book;
    caller = caller ∙ h.later.caller;
    legal = more.legal h.later.legal;
    seen = starts_then h.start.seen v.client.seen w.client.seen h.later.seen more.begins;
    own = ap (λ (z : ℕ). entries_of z w.client.seen) caller ∙ (more.own ∙ h.later.own);
  };
}

pub begun_book : (k n : Known) → HasBegun k n → n.book ≡ k.book
begun_book k n h = h.later.book ∙ h.begun.book

pub gave_up_book : (k n : Known) → GaveUp k n → n.book ≡ k.book
gave_up_book k n g = elim g [ inl same ↦ ap (λ (z : Known). z.book) same | inr began ↦ begun_book k n began ]

-- A reader that waits
pub waited_none : (k : Known) → HasWaited k k
waited_none k = record { book = refl; tries = 0; gave_up = refl }

pub waited_more : (k m n : Known) → HasWaited k m → GaveUp m n → HasWaited k n
waited_more k m n h g = record { book = gave_up_book m n g ∙ h.book; tries = suc h.tries; gave_up = (m, h.gave_up, g) }

pub waited_busy : {A E : Type 0} (k m n : Known) (r : Result A E) → HasWaited k m → IsErr r → OnErr r (GaveUp m n) → HasWaited k n
waited_busy k m n (Ok a) h fails g = absurd (let e : false ≡ true = fails in cc)
waited_busy k m n (Err e) h fails g = waited_more k m n h g

-- A PAGE
pub less : (n : ℕ) (xs : List (ℕ × ℕ)) → length (take n xs) < length xs → n < length xs
less zero xs l = l
less (suc n) [] l = absurd (omega (arith, l))
less (suc n) (x ∷ xs) l = let r = less n xs (omega (arith, l)) in omega (arith, r)

pub page_seat : (b b₁ b₂ : Book) (c c₁ c₂ : ℕ) (u v w : Seen) (key limit count last : ℕ) (buffer : List (ℕ × ℕ)) → b₁ ≡ b → c₁ ≡ c → b₂ ≡ b₁ → c₂ ≡ c₁ → Begins c u.client.seen v.client.seen → SeesMore w.client.seen c₁ v.client.seen → IsPage true c₁ v w key limit buffer count last
    → HasPage (known_of b c u) key (limit + 1) (length buffer) (take count buffer) (known_of b₂ c₂ w)
page_seat b b₁ b₂ c c₁ c₂ u v w key limit count last buffer book caller book₂ caller₂ begins more p =
    let high = p.within in record {
      seen = begun_by b b₁ b₂ c c₁ c₂ u v w book caller book₂ caller₂ begins more;
      end = last + 1;
      inside = omega (arith, high);
      whole = λ l. ap (λ (z : ℕ). z + 1) (p.whole (less count buffer l));
      read = p.reads.read;
    }

-- of no keys, and into no room
pub page_crossed : (k n : Known) (low high room : ℕ) → high ≤ low → HasBegun k n → HasPage k low high room [] n
page_crossed k n low high room none h = record {
  seen = h;
  end = high;
  inside = omega arith;
  whole = λ l. refl;
  read = nothing_between true h.start.seen n.seen low high none;
}

pub page_roomless : (k n : Known) (low high room : ℕ) → low ≤ high → room ≡ 0 → HasBegun k n → HasPage k low high room [] n
page_roomless k n low high room in_order none h = record {
  seen = h;
  end = low;
  inside = in_order;
  whole = λ l. absurd (omega (arith, l, none));
  read = nothing_between true h.start.seen n.seen low low (omega arith);
}

-- A key with no pair in a page that isn't full was absent at a moment after the reader began.
pub absent_then : (k n : Known) (low high room key : ℕ) (pairs : Pairs ℕ) → HasPage k low high room pairs n → length pairs < room → low ≤ key → key < high → lookup pairs key ≡ None
    → (m : Moment) × (IsHistory nat_eq m.history m.pairs) × ((older : List (Entry ℕ)) × StartsWith m.history ((k.seen ++ older) ++ began k.caller ∷ [])) × (lookup m.pairs key ≡ None)
absent_then k n low high room key pairs p some_room from to none =
    let all = p.whole some_room in
    let inside : key < p.end = omega (arith, to, all) in
    let between = p.read.between key from inside in (
      p.read.moment key,
      between.0,
      (p.seen.begun.between, subst (StartsWith (p.read.moment key).history) p.seen.begun.seen between.1),
      sym (p.read.value key from inside) ∙ none,
    )

-- A PAGE OF ONE PAIR
pub next_none : (k n : Known) (low : ℕ) (l : List (ℕ × ℕ)) (count : ℕ) → count ≡ 0 → HasPage k low (2 ^ 64) 1 (take count l) n → HasNext k low None n
next_none k n low l count none p =
    let q : HasPage k low (2 ^ 64) 1 [] n = subst (λ (z : ℕ). HasPage k low (2 ^ 64) 1 (take z l) n) none p in
    (q.seen, subst (λ (z : ℕ). HasRead true q.seen.start.seen n.seen low z []) (q.whole (omega arith)) q.read)

pub take-one : (l : List (ℕ × ℕ)) (count : ℕ) (d : ℕ × ℕ) → length l ≡ 1 → count ≢ 0 → take count l ≡ get_or l 0 d ∷ []
take-one [] count d one some = absurd (omega (arith, one))
take-one (x ∷ []) zero d one some = absurd (some refl)
take-one (x ∷ []) (suc zero) d one some = refl
take-one (x ∷ []) (suc (suc n)) d one some = refl
take-one (x ∷ y ∷ l) count d one some = absurd (omega (arith, one))

pub next_some : (k n : Known) (low : ℕ) (l : List (ℕ × ℕ)) (count : ℕ) (d x : ℕ × ℕ) → length l ≡ 1 → count ≢ 0 → get_or l 0 d ≡ x → HasPage k low (2 ^ 64) 1 (take count l) n → HasNext k low (Some x) n
next_some k n low l count d x one some is p =
    let q : HasPage k low (2 ^ 64) 1 (x ∷ []) n = subst (λ (ps : Pairs ℕ). HasPage k low (2 ^ 64) 1 ps n) (take-one l count d one some ∙ ap (λ (z : ℕ × ℕ). z ∷ []) is) p in
    let rises = q.read.ascend in
    (q.seen, shrunk true q.seen.start.seen n.seen low q.end low (x.0 + 1) (x ∷ []) q.read (omega arith) (omega (arith, rises)) (rises.0, omega arith, tt))

pub next_beyond : (k n : Known) (low : ℕ) → low ≡ 2 ^ 64 → HasBegun k n → HasNext k low None n
next_beyond k n low is h = (h, nothing_between true h.start.seen n.seen low (2 ^ 64) (omega (arith, is)))
