-- What admissions, retirements and reclaims do to the queue of retired slots.
use Rattle.std.proofs.Common.{◌≡◌, ◌≢◌, ℕ, ◌+◌, ◌≤◌, ◌==◌, not, ◌↔◌, Bool, true, false, List, [], ◌∷◌, ◌++◌, drop, filter, if◌then◌else◌, Option, Some, None, ◌⊎◌, inl, inr, refl, sym, subst, ap, ◌∙◌, arith}
use Rattle.std.proofs.lemmas.Bool.{cases_eq}
use Rattle.std.proofs.lemmas.Bool.Decides.{eqb_tells}
use Rattle.olc_words.specs.Epoch.{admitted, entry_at, pin_of, PinsView, StartedAfter, AllStartedAfter, IsReclaimable}
use Rattle.olc_words.specs.declared.epoch.Seat.{Seat}
use Rattle.olc_words.specs.Waiting.{Ascends, Waits, IsQueue, IsFirstWaiting, IsListed, IsWithout}
use Rattle.olc_words.specs.declared.epoch.Life.{Life}
use Rattle.olc_words.specs.declared.epoch.Life.TheVariants.{InUse, Retired}

some_none : {X : Type 0} (x : X) → None ≡ Some x → ⊥
some_none x e = cc

some_same : {X : Type 0} (x y : X) → Some x ≡ Some y → x ≡ y
some_same x y e = cc

in_use : (r : Option ℕ) → Some InUse ≡ Some (Retired r) → ⊥
in_use r e = cc

stamp_is : (a b : ℕ) → Some (Retired (Some a)) ≡ Some (Retired (Some b)) → a ≡ b
stamp_is a b e = cc

uncounted : (b : ℕ) → Some (Retired None) ≡ Some (Retired (Some b)) → ⊥
uncounted b e = cc

bounded : (low : ℕ) (es : List (ℕ × ℕ)) (high : ℕ) → Ascends low es high → low ≤ high
bounded low [] high h = h
bounded low (e ∷ es) high h = let b = bounded (e.0 + 1) es high h.1 in let a = h.0 in omega arith

lower : (low less : ℕ) (es : List (ℕ × ℕ)) (high : ℕ) → less ≤ low → Ascends low es high → Ascends less es high
lower low less [] high le h = omega arith
lower low less (e ∷ es) high le h = ((let a = h.0 in omega arith), h.1)

raised : (low : ℕ) (es : List (ℕ × ℕ)) (high more : ℕ) → high ≤ more → Ascends low es high → Ascends low es more
raised low [] high more le h = omega arith
raised low (e ∷ es) high more le h = (h.0, raised (e.0 + 1) es high more le h.1)

-- whoever waits has no lesser stamp than the first
least : (low : ℕ) (es : List (ℕ × ℕ)) (high stamp slot : ℕ) → Ascends low es high → Waits stamp slot es → low ≤ stamp
least low [] high stamp slot h w = absurd w
least low (e ∷ es) high stamp slot h (inl w) = let a = h.0 in let b = w.0 in omega arith
least low (e ∷ es) high stamp slot h (inr w) = let a = h.0 in let b = least (e.0 + 1) es high stamp slot h.1 w in omega arith

pub first_is_least : (e : ℕ × ℕ) (es : List (ℕ × ℕ)) (high stamp slot : ℕ) → Ascends 0 (e ∷ es) high → Waits stamp slot (e ∷ es) → e.0 ≤ stamp
first_is_least e es high stamp slot h w = least e.0 (e ∷ es) high stamp slot (omega arith, h.1) w

put_last : (low : ℕ) (es : List (ℕ × ℕ)) (high slot : ℕ) → Ascends low es high → Ascends low (es ++ (high, slot) ∷ []) (high + 1)
put_last low [] high slot h = (h, omega arith)
put_last low (e ∷ es) high slot h = (h.0, put_last (e.0 + 1) es high slot h.1)

waits_last : (es : List (ℕ × ℕ)) (high at : ℕ) → Waits high at (es ++ (high, at) ∷ [])
waits_last [] high at = inl (refl, refl)
waits_last (e ∷ es) high at = inr (waits_last es high at)

waits_still : (es : List (ℕ × ℕ)) (high at stamp slot : ℕ) → Waits stamp slot es → Waits stamp slot (es ++ (high, at) ∷ [])
waits_still [] high at stamp slot w = absurd w
waits_still (e ∷ es) high at stamp slot (inl w) = inl w
waits_still (e ∷ es) high at stamp slot (inr w) = inr (waits_still es high at stamp slot w)

waits_or_last : (es : List (ℕ × ℕ)) (high at stamp slot : ℕ) → Waits stamp slot (es ++ (high, at) ∷ []) → Waits stamp slot es ⊎ ((high ≡ stamp) × (at ≡ slot))
waits_or_last [] high at stamp slot (inl w) = inr w
waits_or_last [] high at stamp slot (inr w) = absurd w
waits_or_last (e ∷ es) high at stamp slot (inl w) = inl (inl w)
waits_or_last (e ∷ es) high at stamp slot (inr w) = elim (waits_or_last es high at stamp slot w) [ inl a ↦ inl (inr a) | inr b ↦ inr b ]

-- nothing is retired, and nothing waits
pub nothing_waits : IsQueue [] 0 [] true
nothing_waits = record {
  ascends = omega arith;
  retired = λ stamp slot w. absurd w;
  all = λ whole stamp slot e. absurd (some_none (Retired (Some stamp)) e);
}

module _ (old new : List (ℕ × Life)) (count at : ℕ) (waiting : List (ℕ × ℕ)) (whole : Bool) (queue : IsQueue old count waiting whole)
    (others : (other : ℕ) → other ≢ at → entry_at new other ≡ entry_at old other) where
  -- AN ADMISSION: what is retired stays so
  pub admits : entry_at new at ≡ Some (admitted (entry_at old at)) → IsQueue new count waiting whole
  admits here = record {
    ascends = queue.ascends;
    retired = λ stamp slot w. (forth stamp slot).0 (queue.retired stamp slot w);
    all = λ is stamp slot e. queue.all is stamp slot ((forth stamp slot).1 e);
  }
    where
      there : (stamp : ℕ) (o : Option Life) → entry_at old at ≡ o → (entry_at old at ≡ Some (Retired (Some stamp))) ↔ (entry_at new at ≡ Some (Retired (Some stamp)))
      there stamp None e = (
        (λ is. absurd (some_none (Retired (Some stamp)) (sym e ∙ is))),
        (λ is. absurd (in_use (Some stamp) (sym (here ∙ ap (λ (o : Option Life). Some (admitted o)) e) ∙ is))),
      )
      there stamp (Some life) e =
          let same : entry_at new at ≡ entry_at old at = here ∙ (ap (λ (o : Option Life). Some (admitted o)) e ∙ sym e) in ((λ is. same ∙ is), (λ is. sym same ∙ is))

      forth : (stamp slot : ℕ) → (entry_at old slot ≡ Some (Retired (Some stamp))) ↔ (entry_at new slot ≡ Some (Retired (Some stamp)))
      forth stamp slot = elim (cases_eq slot at) [ inl e ↦ subst (λ (n : ℕ). (entry_at old n ≡ Some (Retired (Some stamp))) ↔ (entry_at new n ≡ Some (Retired (Some stamp)))) (sym e) (there stamp (entry_at old at) refl) | inr ne ↦ ((λ is. others slot ne ∙ is), (λ is. sym (others slot ne) ∙ is)) ]

  -- A RETIREMENT of a slot in use
  module _ (used : entry_at old at ≡ Some InUse) where
    retired_still : (stamp slot : ℕ) → Waits stamp slot waiting → entry_at new slot ≡ Some (Retired (Some stamp))
    retired_still stamp slot w = elim (cases_eq slot at) [ inl e ↦ absurd (in_use (Some stamp) (sym used ∙ (ap (entry_at old) (sym e) ∙ queue.retired stamp slot w))) | inr ne ↦ others slot ne ∙ queue.retired stamp slot w ]

    -- that is counted
    pub retires : entry_at new at ≡ Some (Retired (Some count)) → IsQueue new (count + 1) (waiting ++ (count, at) ∷ []) whole
    retires here = record {
      ascends = put_last 0 waiting count at queue.ascends;
      retired = λ stamp slot w. still stamp slot (waits_or_last waiting count at stamp slot w);
      all = λ is stamp slot e. listed is stamp slot e (cases_eq slot at);
    }
      where
        still : (stamp slot : ℕ) → Waits stamp slot waiting ⊎ ((count ≡ stamp) × (at ≡ slot)) → entry_at new slot ≡ Some (Retired (Some stamp))
        still stamp slot (inl a) = retired_still stamp slot a
        still stamp slot (inr b) = subst (λ (n : ℕ). entry_at new n ≡ Some (Retired (Some stamp))) b.1 (subst (λ (n : ℕ). entry_at new at ≡ Some (Retired (Some n))) b.0 here)

        last : (stamp slot : ℕ) → slot ≡ at → count ≡ stamp → Waits stamp slot (waiting ++ (count, at) ∷ [])
        last stamp slot same is = subst (λ (n : ℕ). Waits n slot (waiting ++ (count, at) ∷ [])) is (subst (λ (n : ℕ). Waits count n (waiting ++ (count, at) ∷ [])) (sym same) (waits_last waiting count at))

        listed : whole ≡ true → (stamp slot : ℕ) → entry_at new slot ≡ Some (Retired (Some stamp)) → (slot ≡ at) ⊎ (slot ≢ at) → Waits stamp slot (waiting ++ (count, at) ∷ [])
        listed is stamp slot e (inl same) = last stamp slot same (stamp_is count stamp (sym here ∙ (ap (entry_at new) (sym same) ∙ e)))
        listed is stamp slot e (inr ne) = waits_still waiting count at stamp slot (queue.all is stamp slot (sym (others slot ne) ∙ e))

    -- and where there is no room for it in the queue
    pub retires_unlisted : (whole' : Bool) → whole' ≡ false → IsQueue new (count + 1) waiting whole'
    retires_unlisted whole' gone = record {
      ascends = raised 0 waiting count (count + 1) (omega arith) queue.ascends;
      retired = retired_still;
      all = λ is stamp slot e. absurd (false_true (sym gone ∙ is));
    }
      where
        false_true : false ≡ true → ⊥
        false_true e = cc

    pub retires_listed : entry_at new at ≡ Some (Retired (Some count)) → (left : List (ℕ × ℕ)) (whole' : Bool) → IsListed whole count at waiting left whole' → IsQueue new (count + 1) left whole'
    retires_listed here left whole' (inl l) = subst (λ (w : List (ℕ × ℕ)). IsQueue new (count + 1) w whole') (sym l.0) (subst (λ (b : Bool). IsQueue new (count + 1) (waiting ++ (count, at) ∷ []) b) (sym l.1) (retires here))
    retires_listed here left whole' (inr l) = subst (λ (w : List (ℕ × ℕ)). IsQueue new (count + 1) w whole') (sym l.0) (retires_unlisted whole' l.1)

    -- that isn't counted any more
    pub retires_uncounted : entry_at new at ≡ Some (Retired None) → IsQueue new count waiting whole
    retires_uncounted here = record {
      ascends = queue.ascends;
      retired = retired_still;
      all = λ is stamp slot e. listed is stamp slot e (cases_eq slot at);
    }
      where
        listed : whole ≡ true → (stamp slot : ℕ) → entry_at new slot ≡ Some (Retired (Some stamp)) → (slot ≡ at) ⊎ (slot ≢ at) → Waits stamp slot waiting
        listed is stamp slot e (inl same) = absurd (uncounted stamp (sym here ∙ (ap (entry_at new) (sym same) ∙ e)))
        listed is stamp slot e (inr ne) = queue.all is stamp slot (sym (others slot ne) ∙ e)

  -- A SLOT IS FORGOTTEN, and those that wait are those of other slots
  module _ (here : entry_at new at ≡ None) where
    pub forgets : (left : List (ℕ × ℕ)) → Ascends 0 left count → ((stamp slot : ℕ) → Waits stamp slot left → (slot ≢ at) × Waits stamp slot waiting)
        → ((stamp slot : ℕ) → slot ≢ at → Waits stamp slot waiting → Waits stamp slot left) → IsQueue new count left whole
    forgets left ascends from to = record {
      ascends = ascends;
      retired = λ stamp slot w. let f = from stamp slot w in others slot f.0 ∙ queue.retired stamp slot f.1;
      all = λ is stamp slot e. listed is stamp slot e (cases_eq slot at);
    }
      where
        listed : whole ≡ true → (stamp slot : ℕ) → entry_at new slot ≡ Some (Retired (Some stamp)) → (slot ≡ at) ⊎ (slot ≢ at) → Waits stamp slot left
        listed is stamp slot e (inl same) = absurd (some_none (Retired (Some stamp)) (sym here ∙ (ap (entry_at new) (sym same) ∙ e)))
        listed is stamp slot e (inr ne) = to stamp slot ne (queue.all is stamp slot (sym (others slot ne) ∙ e))

    -- one that doesn't wait
    pub forgets_other : ((stamp : ℕ) → entry_at old at ≡ Some (Retired (Some stamp)) → ⊥) → IsQueue new count waiting whole
    forgets_other never = forgets waiting queue.ascends
        (λ stamp slot w. ((λ same. never stamp (ap (entry_at old) (sym same) ∙ queue.retired stamp slot w)), w)) (λ stamp slot ne w. w)

    pub forgets_taken : (left : List (ℕ × ℕ)) → IsWithout at waiting left → IsQueue new count left whole
    forgets_taken left w = forgets left (w.ascends count queue.ascends) w.from w.to

-- THE FIRST decides
module _ (slots : List (ℕ × Life)) (count : ℕ) (whole : Bool) where
  pub first_retired : (waiting : List (ℕ × ℕ)) → IsQueue slots count waiting whole → (e : ℕ × ℕ) → IsFirstWaiting waiting (Some e) → entry_at slots e.1 ≡ Some (Retired (Some e.0))
  first_retired [] queue e is = absurd (some_none e (sym is))
  first_retired (x ∷ xs) queue e is = let same : e ≡ x = some_same e x is in queue.retired e.0 e.1 (inl (ap (λ (p : ℕ × ℕ). p.0) (sym same), ap (λ (p : ℕ × ℕ). p.1) (sym same)))

  none_waits : (waiting : List (ℕ × ℕ)) → IsFirstWaiting waiting None → (stamp slot : ℕ) → Waits stamp slot waiting → ⊥
  none_waits [] is stamp slot w = w
  none_waits (x ∷ xs) is stamp slot w = some_none x is

  waits_after : (waiting : List (ℕ × ℕ)) → Ascends 0 waiting count → (e : ℕ × ℕ) → IsFirstWaiting waiting (Some e) → (stamp slot : ℕ) → Waits stamp slot waiting → e.0 ≤ stamp
  waits_after [] up e is stamp slot w = absurd w
  waits_after (x ∷ xs) up e is stamp slot w = subst (λ (p : ℕ × ℕ). p.0 ≤ stamp) (sym (some_same e x is)) (first_is_least x xs count stamp slot up w)

  module _ (seats : List (ℕ × Seat)) (waiting : List (ℕ × ℕ)) (queue : IsQueue slots count waiting whole) where
    abbrev pins : PinsView
    pins = record { seats = seats; slots = slots; count = count }

    pub first_may : (e : ℕ × ℕ) → IsFirstWaiting waiting (Some e) → AllStartedAfter e.0 pins → IsReclaimable pins e.1
    first_may e is after = record { stamp = e.0; retired = first_retired waiting queue e is; after = after }

    pub none_may : whole ≡ true → IsFirstWaiting waiting None → (slot : ℕ) → IsReclaimable pins slot → ⊥
    none_may is first slot may = none_waits waiting first may.stamp slot (queue.all is may.stamp slot may.retired)

    started_earlier : (a b : ℕ) (pin : Option ℕ) → a ≤ b → StartedAfter b pin → StartedAfter a pin
    started_earlier a b None le h = tt
    started_earlier a b (Some pin) le h = omega arith

    pub first_may_not : whole ≡ true → (e : ℕ × ℕ) → IsFirstWaiting waiting (Some e) → (AllStartedAfter e.0 pins → ⊥) → (slot : ℕ) → IsReclaimable pins slot → ⊥
    first_may_not is e first never slot may =
        let le = waits_after waiting queue.ascends e first may.stamp slot (queue.all is may.stamp slot may.retired) in
        never (λ id. started_earlier e.0 may.stamp (pin_of pins id) le (may.after id))

-- a slot waits once
pub once : (slots : List (ℕ × Life)) (count : ℕ) (waiting : List (ℕ × ℕ)) (whole : Bool) → IsQueue slots count waiting whole
    → (slot a b : ℕ) → Waits a slot waiting → Waits b slot waiting → a ≡ b
once slots count waiting whole queue slot a b x y = stamp_is a b (sym (queue.retired a slot x) ∙ queue.retired b slot y)

-- nothing is taken out of nothing
pub none_out : (at : ℕ) → IsWithout at [] []
none_out at = record { ascends = λ high h. h; from = λ stamp slot w. absurd w; to = λ stamp slot ne w. w }

-- the first is taken out
first_out : (at : ℕ) (e : ℕ × ℕ) (es : List (ℕ × ℕ)) (high : ℕ) → Ascends 0 (e ∷ es) high → e.1 ≡ at
    → ((a b : ℕ) → Waits a at (e ∷ es) → Waits b at (e ∷ es) → a ≡ b) → IsWithout at (e ∷ es) es
first_out at e es high up is one = record {
  ascends = λ most h. lower (e.0 + 1) 0 es most (omega arith) h.1;
  from = λ stamp slot w. (
    (λ same.
        let s : e.0 ≡ stamp = one e.0 stamp (inl (refl, is)) (inr (subst (λ (n : ℕ). Waits stamp n es) same w)) in
        let more = least (e.0 + 1) es high stamp slot up.1 w in
        omega arith),
    inr w,
  );
  to = λ stamp slot ne w. elim w [ inl a ↦ absurd (ne (sym a.1 ∙ is)) | inr b ↦ b ];
}

pub first_taken : (at : ℕ) (old new : List (ℕ × ℕ)) (e : ℕ × ℕ) (high : ℕ) → IsFirstWaiting old (Some e) → new ≡ drop 1 old → Ascends 0 old high → e.1 ≡ at
    → ((a b : ℕ) → Waits a at old → Waits b at old → a ≡ b) → IsWithout at old new
first_taken at [] new e high first is up same one = absurd (some_none e (sym first))
first_taken at (x ∷ xs) new e high first is up same one =
    let e_is : e ≡ x = some_same e x first in
    subst (λ (w : List (ℕ × ℕ)). IsWithout at (x ∷ xs) w) (sym is) (first_out at x xs high up (ap (λ (p : ℕ × ℕ). p.1) (sym e_is) ∙ same) one)

-- all of a slot are taken out
module _ (at : ℕ) where
  abbrev other : ℕ × ℕ → Bool
  other e = not (e.1 == at)

  keeps : (low : ℕ) (es : List (ℕ × ℕ)) (high : ℕ) → Ascends low es high → Ascends low (filter other es) high
  keeps low [] high h = h
  keeps low (e ∷ es) high h = by_test (other e) (keeps (e.0 + 1) es high h.1)
    where
      by_test : (b : Bool) → Ascends (e.0 + 1) (filter other es) high → Ascends low (if b then e ∷ filter other es else filter other es) high
      by_test true r = (h.0, r)
      by_test false r = let a = h.0 in lower (e.0 + 1) low (filter other es) high (omega arith) r

  -- by whether the first is of that slot
  first_is : (e : ℕ × ℕ) → ((other e ≡ true) × (e.1 ≢ at)) ⊎ ((other e ≡ false) × (e.1 ≡ at))
  first_is e = elim (eqb_tells e.1 at) [ inl t ↦ inr (ap not t.0, t.1) | inr t ↦ inl (ap not t.0, t.1) ]

  out_from : (es : List (ℕ × ℕ)) (stamp slot : ℕ) → Waits stamp slot (filter other es) → (slot ≢ at) × Waits stamp slot es
  out_from [] stamp slot w = absurd w
  out_from (e ∷ es) stamp slot w = elim (first_is e) [ inl f ↦ kept f.1 (λ b. out_from es stamp slot b) (subst (λ (b : Bool). Waits stamp slot (if b then e ∷ filter other es else filter other es)) f.0 w) | inr f ↦ let r = out_from es stamp slot (subst (λ (b : Bool). Waits stamp slot (if b then e ∷ filter other es else filter other es)) f.0 w) in (r.0, inr r.1) ]
    where
      kept : e.1 ≢ at → (Waits stamp slot (filter other es) → (slot ≢ at) × Waits stamp slot es) → Waits stamp slot (e ∷ filter other es) → (slot ≢ at) × Waits stamp slot (e ∷ es)
      kept ne rest (inl a) = ((λ same. ne (a.1 ∙ same)), inl a)
      kept ne rest (inr b) = let r = rest b in (r.0, inr r.1)

  out_to : (es : List (ℕ × ℕ)) (stamp slot : ℕ) → slot ≢ at → Waits stamp slot es → Waits stamp slot (filter other es)
  out_to [] stamp slot ne w = absurd w
  out_to (e ∷ es) stamp slot ne (inl a) = elim (first_is e) [ inl f ↦ subst (λ (b : Bool). Waits stamp slot (if b then e ∷ filter other es else filter other es)) (sym f.0) (inl a) | inr f ↦ absurd (ne (sym a.1 ∙ f.1)) ]
  out_to (e ∷ es) stamp slot ne (inr b) =
      by_test (other e) (out_to es stamp slot ne b)
    where
      by_test : (t : Bool) → Waits stamp slot (filter other es) → Waits stamp slot (if t then e ∷ filter other es else filter other es)
      by_test true r = inr r
      by_test false r = r

  pub all_out : (es : List (ℕ × ℕ)) → IsWithout at es (filter other es)
  all_out es = record { ascends = λ high h. keeps 0 es high h; from = out_from es; to = out_to es }
