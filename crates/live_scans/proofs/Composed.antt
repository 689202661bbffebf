-- What was read at one moment, and one after the other.
use Rattle.std.proofs.Common.{◌≡◌, ◌⊎◌, ℕ, ◌/◌, ◌%◌, ◌<◌, ◌≤◌, Bool, true, false, cond, nat_lt, nat_eq, List, [], ◌++◌, Option, Some, None, IfSome, refl, sym, ap, ◌∙◌, subst, inl, inr, arith, append-nil, append_assoc}
use Rattle.std.proofs.lemmas.Bool.{cases_lt, lt-ltb, le-ltb}
use Rattle.spec_map.specs.Map.{Pairs, lookup, Rises}
use Rattle.spec_map.proofs.JoinLaws.{Rises-append, lookup-append_left, lookup-append_right}
use Rattle.share_rule.specs.History.{Entry, StartsWith, IsHistory}
use Rattle.live_layout.specs.Order.{IsFrom}
use Rattle.live_nodes.specs.Seats.{SeatView}
use Rattle.live_nodes.specs.Views.{View}
use Rattle.live_scans.specs.Scans.{Moment, IsBetween, HasRead}
use Rattle.live_scans.specs.inner.Moments.{SeesMore, HasNone, Reads}

abbrev Seen : Type 0
Seen = SeatView View

abbrev History : Type 0
History = List (Entry ℕ)

pub starts_same : (h : History) → StartsWith h h
starts_same h = ([], sym (append-nil h))

pub starts_then : (a b c : History) → StartsWith b a → StartsWith c b → StartsWith c a
starts_then a b c s t = (s.0 ++ t.0, t.1 ∙ (ap (λ (z : History). z ++ t.0) s.1 ∙ append_assoc a s.0 t.0))

pub more_same : (id : ℕ) (h : History) → SeesMore h id h
more_same id h = record { begins = starts_same h; own = refl; legal = λ l. l }

pub more_then : (id : ℕ) (a b c : History) → SeesMore b id a → SeesMore c id b → SeesMore c id a
more_then id a b c s t = record { begins = starts_then a b c s.begins t.begins; own = t.own ∙ s.own; legal = λ l. t.legal (s.legal l) }

-- AT ONE MOMENT
pub one_moment : (up : Bool) (old new : History) (m : Pairs ℕ) (low high : ℕ) (ps : Pairs ℕ) → StartsWith new old → IsHistory nat_eq new m → Rises low high ps → ((k : ℕ) → low ≤ k → k < high → lookup ps k ≡ lookup m k) → HasRead up old new low high ps
one_moment up old new m low high ps begins legal rises same = record {
  moment = λ k. record { history = new; pairs = m };
  between = λ k l h. (legal, begins, starts_same new);
  value = same;
  order = λ j k lj hj lk hk o. starts_same new;
  leaf = λ j k lj hj lk hk e. refl;
  ascend = rises;
}

-- OF NO KEYS
pub nothing_between : (up : Bool) (old new : History) (low high : ℕ) → high ≤ low → HasRead up old new low high []
nothing_between up old new low high none = record {
  moment = λ k. record { history = old; pairs = [] };
  between = λ k l h. absurd (omega (arith, l, h, none));
  value = λ k l h. absurd (omega (arith, l, h, none));
  order = λ j k lj hj lk hk o. absurd (omega (arith, lj, hj, none));
  leaf = λ j k lj hj lk hk e. absurd (omega (arith, lj, hj, none));
  ascend = tt;
}

pub nothing_read : (up : Bool) (old : History) (low high : ℕ) → high ≤ low → HasRead up old old low high []
nothing_read up old low high none = nothing_between up old old low high none

-- OF FEWER
pub shrunk : (up : Bool) (old new : History) (low high low' high' : ℕ) (ps : Pairs ℕ) → HasRead up old new low high ps → low ≤ low' → high' ≤ high → Rises low' high' ps → HasRead up old new low' high' ps
shrunk up old new low high low' high' ps r from to rises = record {
  moment = r.moment;
  between = λ k l h. r.between k (omega (arith, l, from)) (omega (arith, h, to));
  value = λ k l h. r.value k (omega (arith, l, from)) (omega (arith, h, to));
  order = λ j k lj hj lk hk o. r.order j k (omega (arith, lj, from)) (omega (arith, hj, to)) (omega (arith, lk, from)) (omega (arith, hk, to)) o;
  leaf = λ j k lj hj lk hk e. r.leaf j k (omega (arith, lj, from)) (omega (arith, hj, to)) (omega (arith, lk, from)) (omega (arith, hk, to)) e;
  ascend = rises;
}

-- TWO RANGES side by side, of which one was read after the other: no leaf has keys of both
module _ (up : Bool) (old new : History) (low m high : ℕ) (ps qs : Pairs ℕ) (o₁ n₁ o₂ n₂ : History) (r : HasRead up o₁ n₁ low m ps) (s : HasRead up o₂ n₂ m high qs) (begins₁ : StartsWith o₁ old) (ends₁ : StartsWith new n₁) (begins₂ : StartsWith o₂ old) (ends₂ : StartsWith new n₂) (from : low ≤ m) (to : m ≤ high)
    (apart : (j k : ℕ) → low ≤ j → j < m → m ≤ k → k < high → j / 256 ≡ k / 256 → ⊥)
    (later : (j k : ℕ) → low ≤ j → j < m → m ≤ k → k < high → IsFrom up j k → StartsWith (s.moment k).history (r.moment j).history)
    (sooner : (j k : ℕ) → low ≤ k → k < m → m ≤ j → j < high → IsFrom up j k → StartsWith (r.moment k).history (s.moment j).history) where
  moment_of : ℕ → Moment
  moment_of k = cond (nat_lt k m) (r.moment k) (s.moment k)

  is_low : (k : ℕ) → k < m → moment_of k ≡ r.moment k
  unfolding moment_of
  is_low k l = ap (λ (b : Bool). cond b (r.moment k) (s.moment k)) (lt-ltb k m l)

  is_high : (k : ℕ) → m ≤ k → moment_of k ≡ s.moment k
  unfolding moment_of
  is_high k l = ap (λ (b : Bool). cond b (r.moment k) (s.moment k)) (le-ltb k m l)

  -- as their moments are, so are these
  moved : (j k : ℕ) (x y : Moment) → moment_of j ≡ x → moment_of k ≡ y → StartsWith y.history x.history → StartsWith (moment_of k).history (moment_of j).history
  moved j k x y first then = subst (λ (z : Moment × Moment). StartsWith z.0.history z.1.history) (λ i. (sym then i, sym first i))

  pub joined : HasRead up old new low high (ps ++ qs)
  joined = record {
    moment = moment_of;
    between = λ k l h.
        elim (cases_lt k m) [
          | inl left ↦ let b = r.between k l left in subst (IsBetween old new) (sym (is_low k left)) (b.0, starts_then old o₁ (r.moment k).history begins₁ b.1, starts_then (r.moment k).history n₁ new b.2 ends₁)
          | inr right ↦ let b = s.between k right h in subst (IsBetween old new) (sym (is_high k right)) (b.0, starts_then old o₂ (s.moment k).history begins₂ b.1, starts_then (s.moment k).history n₂ new b.2 ends₂)
        ];
    value = λ k l h.
        elim (cases_lt k m) [
          | inl left ↦ lookup-append_left m high ps qs k s.ascend left ∙ (r.value k l left ∙ ap (λ (z : Moment). lookup z.pairs k) (sym (is_low k left)))
          | inr right ↦ lookup-append_right low m ps qs k r.ascend right ∙ (s.value k right h ∙ ap (λ (z : Moment). lookup z.pairs k) (sym (is_high k right)))
        ];
    order = λ j k lj hj lk hk o.
        elim (cases_lt j m) [
          | inl j_low ↦
              elim (cases_lt k m) [
                | inl k_low ↦ moved j k (r.moment j) (r.moment k) (is_low j j_low) (is_low k k_low) (r.order j k lj j_low lk k_low o)
                | inr k_high ↦ moved j k (r.moment j) (s.moment k) (is_low j j_low) (is_high k k_high) (later j k lj j_low k_high hk o)
              ]
          | inr j_high ↦
              elim (cases_lt k m) [
                | inl k_low ↦ moved j k (s.moment j) (r.moment k) (is_high j j_high) (is_low k k_low) (sooner j k lk k_low j_high hj o)
                | inr k_high ↦ moved j k (s.moment j) (s.moment k) (is_high j j_high) (is_high k k_high) (s.order j k j_high hj k_high hk o)
              ]
        ];
    leaf = λ j k lj hj lk hk e.
        elim (cases_lt j m) [
          | inl j_low ↦
              elim (cases_lt k m) [
                | inl k_low ↦ is_low j j_low ∙ (r.leaf j k lj j_low lk k_low e ∙ sym (is_low k k_low))
                | inr k_high ↦ absurd (apart j k lj j_low k_high hk e)
              ]
          | inr j_high ↦
              elim (cases_lt k m) [
                | inl k_low ↦ absurd (apart k j lk k_low j_high hj (sym e))
                | inr k_high ↦ is_high j j_high ∙ (s.leaf j k j_high hj k_high hk e ∙ sym (is_high k k_high))
              ]
        ];
    ascend = Rises-append low m high ps qs from to r.ascend s.ascend;
  }

-- ONE AFTER THE OTHER, where a leaf ends or nothing was read before: the lower keys first
pub joined_up : (old mid new : History) (low m high : ℕ) (ps qs : Pairs ℕ) → HasRead true old mid low m ps → HasRead true mid new m high qs → StartsWith mid old → StartsWith new mid → low ≤ m → m ≤ high → (m % 256 ≡ 0) ⊎ (low ≡ m) → HasRead true old new low high (ps ++ qs)
joined_up old mid new low m high ps qs r s first then from to seam =
    joined true old new low m high ps qs old mid mid new r s (starts_same old) then first (starts_same new) from to
    (λ j k lj hj lk hk e. elim seam [ inl whole ↦ omega (arith, hj, lk, e, whole) | inr none ↦ omega (arith, lj, hj, none) ])
    (λ j k lj hj lk hk o. starts_then (r.moment j).history mid (s.moment k).history (r.between j lj hj).2 (s.between k lk hk).1)
    (λ j k lk hk lj hj o. absurd (omega (arith, hk, lj, o)))

-- or the upper ones
pub joined_down : (old mid new : History) (low m high : ℕ) (ps qs : Pairs ℕ) → HasRead false old mid m high qs → HasRead false mid new low m ps → StartsWith mid old → StartsWith new mid → low ≤ m → m ≤ high → (m % 256 ≡ 0) ⊎ (m ≡ high) → HasRead false old new low high (ps ++ qs)
joined_down old mid new low m high ps qs r s first then from to seam =
    joined false old new low m high ps qs mid new old mid s r first (starts_same new) (starts_same old) then from to
    (λ j k lj hj lk hk e. elim seam [ inl whole ↦ omega (arith, hj, lk, e, whole) | inr none ↦ omega (arith, lk, hk, none) ])
    (λ j k lj hj lk hk o. absurd (omega (arith, hj, lk, o)))
    (λ j k lk hk lj hj o. starts_then (r.moment j).history mid (s.moment k).history (r.between j lj hj).2 (s.between k lk hk).1)

-- THE SEAT read on where none is.
pub none_read : (up : Bool) (id : ℕ) (v w : Seen) (Is : ℕ → Type 0) (low high : ℕ) → HasNone id v w Is → ((k : ℕ) → low ≤ k → k < high → Is k) → Reads up id v w low high []
none_read up id v w Is low high n all = record {
  fits = n.fits;
  legal = (n.pairs, n.legal);
  read = one_moment up v.client.seen w.client.seen n.pairs low high [] n.fits.begins n.legal tt (λ k l h. sym (n.none k (all k l h)));
}

-- FROM AN EARLIER HISTORY ON
pub read_since : (up : Bool) (older old new : History) (low high : ℕ) (ps : Pairs ℕ) → StartsWith old older → HasRead up old new low high ps → HasRead up older new low high ps
read_since up older old new low high ps first r = record {
  moment = r.moment;
  between = λ k l h. let b = r.between k l h in (b.0, starts_then older old (r.moment k).history first b.1, b.2);
  value = r.value;
  order = r.order;
  leaf = r.leaf;
  ascend = r.ascend;
}

pub none_since : (id : ℕ) (u v w : Seen) (Is : ℕ → Type 0) → SeesMore v.client.seen id u.client.seen → HasNone id v w Is → HasNone id u w Is
none_since id u v w Is first n = record {
  fits = more_then id u.client.seen v.client.seen w.client.seen first n.fits;
  pairs = n.pairs;
  legal = n.legal;
  none = n.none;
}

pub nones_since : (id : ℕ) (u v w : Seen) (Is : ℕ → ℕ → Type 0) (r : Option ℕ) → SeesMore v.client.seen id u.client.seen → IfSome r (λ b. HasNone id v w (Is b)) → IfSome r (λ b. HasNone id u w (Is b))
nones_since id u v w Is None first h = tt
nones_since id u v w Is (Some b) first h = none_since id u v w (Is b) first h

pub reads_since : (up : Bool) (c id : ℕ) (u v w : Seen) (low high : ℕ) (ps : Pairs ℕ) → c ≡ id → SeesMore v.client.seen id u.client.seen → Reads up c v w low high ps → Reads up id u w low high ps
reads_since up c id u v w low high ps is first r = record {
  fits = more_then id u.client.seen v.client.seen w.client.seen first (subst (λ (z : ℕ). SeesMore w.client.seen z v.client.seen) is r.fits);
  legal = r.legal;
  read = read_since up u.client.seen v.client.seen w.client.seen low high ps first.begins r.read;
}

pub reads_fewer : (up : Bool) (id : ℕ) (v w : Seen) (low high low' high' : ℕ) (ps : Pairs ℕ) → Reads up id v w low high ps → low ≤ low' → high' ≤ high → Rises low' high' ps → Reads up id v w low' high' ps
reads_fewer up id v w low high low' high' ps r from to rises = record {
  fits = r.fits;
  legal = r.legal;
  read = shrunk up v.client.seen w.client.seen low high low' high' ps r.read from to rises;
}

pub reads_then : (c id : ℕ) (u v w : Seen) (low m high : ℕ) (ps qs : Pairs ℕ) → c ≡ id → SeesMore v.client.seen id u.client.seen → HasRead true u.client.seen v.client.seen low m ps → Reads true c v w m high qs → low ≤ m → m ≤ high → (m % 256 ≡ 0) ⊎ (low ≡ m) → Reads true id u w low high (ps ++ qs)
reads_then c id u v w low m high ps qs is first r s from to seam =
    let fits = subst (λ (z : ℕ). SeesMore w.client.seen z v.client.seen) is s.fits in record {
      fits = more_then id u.client.seen v.client.seen w.client.seen first fits;
      legal = s.legal;
      read = joined_up u.client.seen v.client.seen w.client.seen low m high ps qs r s.read first.begins fits.begins from to seam;
    }

pub reads_down_then : (c id : ℕ) (u v w : Seen) (low m high : ℕ) (ps qs : Pairs ℕ) → c ≡ id → SeesMore v.client.seen id u.client.seen → HasRead false u.client.seen v.client.seen m high qs → Reads false c v w low m ps → low ≤ m → m ≤ high → (m % 256 ≡ 0) ⊎ (m ≡ high) → Reads false id u w low high (ps ++ qs)
reads_down_then c id u v w low m high ps qs is first r s from to seam =
    let fits = subst (λ (z : ℕ). SeesMore w.client.seen z v.client.seen) is s.fits in record {
      fits = more_then id u.client.seen v.client.seen w.client.seen first fits;
      legal = s.legal;
      read = joined_down u.client.seen v.client.seen w.client.seen low m high ps qs r s.read first.begins fits.begins from to seam;
    }
