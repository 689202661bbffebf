-- The steps on the words of a table keep its rule: a slot is added in two, and a ticket is issued in one.
use Rattle.std.proofs.Common.{◌≡◌, ◌≢◌, ⊎_elim, ℕ, zero, suc, ◌⊎◌, ◌+◌, ◌<◌, ◌≤◌, ◌==◌, true, false, List, [], ◌∷◌, ◌++◌, length, length-append, length-set, set, slice_get, Some, None, refl, ap, sym, ◌∙◌, inl, inr, arith, subst}
use Rattle.std.proofs.lemmas.List.{append-nil, set-get_or, get_or-set_same, get_or-set_other}
use mathlib.Core.List.{IsPrefix}
use mathlib.Core.Logic.{dite}
use native.Mathlib.Decide.{ℕ_discrete}
use prog.Atomic.{either}
use Rattle.atomic_table.proofs.Lists.{exchanged}
use Rattle.logbook.specs.Pages.{Cell, cell, keeps, gives, adds, Nib, nib, no_nib, may_make, may_write, step, Moves, Goes}
use Rattle.word_slots.specs.declared.log.LogEntry.{LogEntry}
use Rattle.word_slots.specs.declared.log.LogEntry.TheVariants.{Opened, Issued}
use Rattle.word_slots.specs.Tickets.{ticket_slot, ticket_generation, HasOpened, IsNew, IssuesOnce, Adds, Enters, Issues}
use Rattle.word_slots.proofs.Logs.{get_last, get_snoc, get_prefix}

-- a cell that is at home is one of the book
pub at_home : (cs : List Cell) (k : ℕ) → (cell cs k).1 ≡ true → k < length cs
at_home [] k e = absurd cc
at_home (c ∷ cs) zero e = omega arith
at_home (c ∷ cs) (suc k) e = let h = at_home cs k e in omega (arith, h)

-- a cell more, which isn't at home, changes none
pub cell_snoc : (cs : List Cell) (k : ℕ) → cell (cs ++ (0, false) ∷ []) k ≡ cell cs k
cell_snoc [] zero = refl
cell_snoc [] (suc k) = refl
cell_snoc (c ∷ cs) zero = refl
cell_snoc (c ∷ cs) (suc k) = cell_snoc cs k

-- a word that is at home, and gets the number that it has, changes nothing
as_it_was : (cs : List Cell) (k n : ℕ) → (cell cs k).1 ≡ true → (cell cs k).0 ≡ n → set cs k (n, true) ≡ cs
as_it_was cs k n home is = ap (λ (c : Cell). set cs k c) (λ i. (sym is i, sym home i)) ∙ set-get_or cs k (0, false)

module _ {V : Type 0} where
  abbrev pub shown : List (LogEntry V) → List (LogEntry V)
  shown log = []

  abbrev pub moved : List (LogEntry V) → List (LogEntry V) → ℕ → Type 0
  moved xs ys n = Unit {0}

  -- a table without slots
  pub opens : IssuesOnce {V = V} ((0, true) ∷ []) []
  opens = record {
    long = refl;
    home = refl;
    away = λ k e. alone k;
    opened = λ i k e. absurd cc;
    used = λ i ticket v e. absurd cc;
    once = λ i j ticket v w e f. absurd cc;
  }
    where
      alone : (k : ℕ) → (cell ((0, true) ∷ []) k).0 ≡ 0
      alone zero = refl
      alone (suc k) = refl

  -- THE WORDS after one of them, which is at home, has another number
  module _ (cs : List Cell) (log : List (LogEntry V)) (r : IssuesOnce cs log) (k n : ℕ) (low : k < length cs) where
    abbrev after : List Cell
    after = set cs k (n, true)

    here : cell after k ≡ (n, true)
    here = get_or-set_same cs k (n, true) (0, false) low

    there : (j : ℕ) → j ≢ k → cell after j ≡ cell cs j
    there j ne = get_or-set_other cs k j (n, true) (0, false) ne

    still_home : (j : ℕ) → (cell cs j).1 ≡ true → (cell after j).1 ≡ true
    still_home j h = dite (ℕ_discrete j k)
        (λ e. ap (λ (i : ℕ). (cell after i).1) e ∙ ap (λ (c : Cell). c.1) here)
        (λ ne. ap (λ (c : Cell). c.1) (there j ne) ∙ h)

    still_away : (j : ℕ) → (cell after j).1 ≡ false → (cell after j).0 ≡ 0
    still_away j h = dite (ℕ_discrete j k)
        (λ e. let a : (cell after j).1 ≡ true = ap (λ (i : ℕ). (cell after i).1) e ∙ ap (λ (c : Cell). c.1) here in absurd (cc (a, h)))
        (λ ne. ap (λ (c : Cell). c.0) (there j ne) ∙ r.away j (sym (ap (λ (c : Cell). c.1) (there j ne)) ∙ h))

    -- no word is lower than before, if this one isn't
    raised : (cell cs k).0 ≤ n → (j m : ℕ) → m < (cell cs j).0 → m < (cell after j).0
    raised up j m h = dite (ℕ_discrete j k)
        (λ e. let a : (cell after j).0 ≡ n = ap (λ (i : ℕ). (cell after i).0) e ∙ ap (λ (c : Cell). c.0) here in
        let b : (cell cs j).0 ≡ (cell cs k).0 = ap (λ (i : ℕ). (cell cs i).0) e in omega (arith, a, b, h, up))
        (λ ne. subst (λ (c : Cell). m < c.0) (sym (there j ne)) h)

  -- the counting word is at home
  counter : (cs : List Cell) (log : List (LogEntry V)) → IssuesOnce cs log → 0 < length cs
  counter cs log r = let long = r.long in omega (arith, long)

  same_rule : (cs ds : List Cell) (log : List (LogEntry V)) → ds ≡ cs → IssuesOnce cs log → IssuesOnce ds (log ++ [])
  same_rule cs ds log e r = subst (λ (s : List Cell × List (LogEntry V)). IssuesOnce s.0 s.1) (λ i. (sym e i, sym (append-nil log) i)) r

  -- A WORD IS ADDED
  module _ (cs : List Cell) (log : List (LogEntry V)) (r : IssuesOnce cs log) (g : ℕ) (now : (cell cs 0).0 ≡ g) where
    abbrev one_more : List Cell
    one_more = set cs 0 (g + 1, true)

    abbrev low : 0 < length cs
    low = counter cs log r

    becomes_of : (j : ℕ) → cell (one_more ++ (0, false) ∷ []) j ≡ cell one_more j
    becomes_of j = cell_snoc one_more j

    pub adds_word : IssuesOnce (one_more ++ (0, false) ∷ []) (log ++ [])
    adds_word = subst (λ (l : List (LogEntry V)). IssuesOnce (one_more ++ (0, false) ∷ []) l) (sym (append-nil log)) record {
      long =
          let a = length-append one_more ((0, false) ∷ []) in
          let b = length-set cs 0 (g + 1, true) in
          let c : (cell (one_more ++ (0, false) ∷ []) 0).0 ≡ g + 1 = ap (λ (c : Cell). c.0) (becomes_of 0 ∙ here cs log r 0 (g + 1) low) in
          let d = r.long in
          omega (arith, a, b, c, d, now);
      home = ap (λ (c : Cell). c.1) (becomes_of 0 ∙ here cs log r 0 (g + 1) low);
      away = λ j h. ap (λ (c : Cell). c.0) (becomes_of j) ∙ still_away cs log r 0 (g + 1) low j (sym (ap (λ (c : Cell). c.1) (becomes_of j)) ∙ h);
      opened = λ i j e. ap (λ (c : Cell). c.1) (becomes_of (suc j)) ∙ still_home cs log r 0 (g + 1) low (suc j) (r.opened i j e);
      used = λ i t v e. subst (λ (c : Cell). ticket_generation t < c.0) (sym (becomes_of (suc (ticket_slot t))))
          (raised cs log r 0 (g + 1) low (let n = now in omega (arith, n)) (suc (ticket_slot t)) (ticket_generation t) (r.used i t v e));
      once = r.once;
    }

  -- whatever the log is, the exchange adds a word, or finds another number and changes nothing
  module _ (v : List (LogEntry V)) (g : ℕ) (asked : LogEntry V) where
    abbrev Adding : List Cell → List (LogEntry V) → ℕ → Type 0
    Adding cs log m = Goes IssuesOnce shown moved 0 (v, (no_nib, None)) (λ n. m) (Adds (step 0 g (g + 1) asked) (v, (no_nib, None))) cs log

    module _ (cs : List Cell) (log : List (LogEntry V)) (r : IssuesOnce cs log) where
      added : (cell cs 0).0 ≡ g → Adding cs log (g + 1)
      added now = (
        adds,
        [],
        None,
        tt,
        adds_word cs log r g now,
        inl (refl, refl),
        λ e.
            let long = r.long in let is : length cs ≡ suc g = omega (arith, long, now) in ap (λ (k : ℕ). nib may_make k 0) is,
      )

      not_added : (cell cs 0).0 ≢ g → Adding cs log (cell cs 0).0
      not_added ne = (keeps, [], None, tt, same_rule cs (set cs 0 ((cell cs 0).0, true)) log (as_it_was cs 0 (cell cs 0).0 r.home refl) r, inl (refl, refl), λ e. absurd (ne e))

    pub adds_moves : Moves IssuesOnce shown moved 0 (v, (no_nib, None)) (λ n. either (n == g) (g + 1) n) (Adds (step 0 g (g + 1) asked) (v, (no_nib, None)))
    adds_moves cs log r pre away = (counter cs log r, r.home, exchanged (cell cs 0).0 g (g + 1) (Adding cs log) (added cs log r) (not_added cs log r))

    pub adds_at : (key : ℕ) → key ≡ 0 → Moves IssuesOnce shown moved key (v, (no_nib, None)) (λ n. either (n == g) (g + 1) n) (Adds (step key g (g + 1) asked) (v, (no_nib, None)))
    adds_at key is = subst (λ (x : ℕ). Moves IssuesOnce shown moved x (v, (no_nib, None)) (λ n. either (n == g) (g + 1) n) (Adds (step x g (g + 1) asked) (v, (no_nib, None)))) (sym is) adds_moves

  -- THE NEW WORD COMES HOME
  module _ (cs : List Cell) (log : List (LogEntry V)) (r : IssuesOnce cs log) (index : ℕ) (low : suc index < length cs) (is_away : (cell cs (suc index)).1 ≡ false) where
    abbrev home_again : List Cell
    home_again = set cs (suc index) (0, true)

    first_stays : cell home_again 0 ≡ cell cs 0
    first_stays = there cs log r (suc index) 0 low 0 (λ e. absurd (omega (arith, e)))

    abbrev entry : LogEntry V
    entry = Opened index

    now_home : (j : ℕ) → Some entry ≡ Some (Opened j) → (cell home_again (suc j)).1 ≡ true
    now_home j e = let same : index ≡ j = cc (e) in
        subst (λ (i : ℕ). (cell home_again (suc i)).1 ≡ true) same (ap (λ (c : Cell). c.1) (here cs log r (suc index) 0 low))

    pub enters : IssuesOnce home_again (log ++ Opened index ∷ [])
    enters = record {
      long = length-set cs (suc index) (0, true) ∙ (r.long ∙ ap (λ (c : Cell). suc c.0) (sym first_stays));
      home = ap (λ (c : Cell). c.1) first_stays ∙ r.home;
      away = still_away cs log r (suc index) 0 low;
      opened = λ i j e. ⊎_elim
          (λ h. still_home cs log r (suc index) 0 low (suc j) (r.opened i j h))
          (λ h. now_home j h.1)
          (get_snoc log (Opened index) i (Opened j) e);
      used = λ i t v e. ⊎_elim
          (λ h. raised cs log r (suc index) 0 low (let z = r.away (suc index) is_away in omega (arith, z)) (suc (ticket_slot t)) (ticket_generation t) (r.used i t v h))
          (λ h. absurd (let x = h.1 in cc (x)))
          (get_snoc log (Opened index) i (Issued t v) e);
      once = λ i j t v w e f. ⊎_elim
          (λ h. ⊎_elim (λ h'. r.once i j t v w h h') (λ h'. absurd (let x = h'.1 in cc (x))) (get_snoc log (Opened index) j (Issued t w) f))
          (λ h. absurd (let x = h.1 in cc (x)))
          (get_snoc log (Opened index) i (Issued t v) e);
    }

  module _ (v : List (LogEntry V)) (index : ℕ) where
    abbrev pen : Nib
    pen = nib may_write (suc index) 0

    abbrev Entering : List Cell → List (LogEntry V) → ℕ → Type 0
    Entering cs log m = Goes IssuesOnce shown moved 0 (v, (pen, None)) (λ n. m) (Enters (step 0 0 0 (Opened index)) (v, (pen, None))) cs log

    module _ (cs : List Cell) (log : List (LogEntry V)) (r : IssuesOnce cs log) (low : suc index < length cs) (is_away : (cell cs (suc index)).1 ≡ false) where
      entered : (m : ℕ) → (cell cs 0).0 ≡ m → Entering cs log m
      entered m is = (
        gives,
        Opened index ∷ [],
        None,
        refl,
        subst (λ (ds : List Cell). IssuesOnce (set ds (suc index) (0, true)) (log ++ Opened index ∷ [])) (sym (as_it_was cs 0 m r.home is)) (enters cs log r index low is_away),
        inl (refl, refl),
        (length log, get_last log (Opened index)),
      )

    pub enters_moves : Moves IssuesOnce shown moved 0 (v, (pen, None)) (λ n. either (n == 0) 0 n) (Enters (step 0 0 0 (Opened index)) (v, (pen, None)))
    enters_moves cs log r pre away = let a = away refl in
        (counter cs log r, r.home, exchanged (cell cs 0).0 0 0 (Entering cs log) (λ e. entered cs log r a.0 a.1 0 e) (λ ne. entered cs log r a.0 a.1 (cell cs 0).0 refl))

    pub enters_at : (key : ℕ) → key ≡ 0 → Moves IssuesOnce shown moved key (v, (pen, None)) (λ n. either (n == 0) 0 n) (Enters (step key 0 0 (Opened index)) (v, (pen, None)))
    enters_at key is = subst (λ (x : ℕ). Moves IssuesOnce shown moved x (v, (pen, None)) (λ n. either (n == 0) 0 n) (Enters (step x 0 0 (Opened index)) (v, (pen, None)))) (sym is) enters_moves

  -- A TICKET IS ISSUED
  module _ (cs : List Cell) (log : List (LogEntry V)) (r : IssuesOnce cs log) (k g ticket : ℕ) (value : V) (home : (cell cs (suc k)).1 ≡ true) (slot : ticket_slot ticket ≡ k) (turn : ticket_generation ticket ≡ g) (now : (cell cs (suc k)).0 ≡ g) where
    abbrev new : LogEntry V
    new = Issued ticket value

    low_key : suc k < length cs
    low_key = at_home cs (suc k) home

    abbrev counted : List Cell
    counted = set cs (suc k) (g + 1, true)

    zeroth_stays : cell counted 0 ≡ cell cs 0
    zeroth_stays = there cs log r (suc k) (g + 1) low_key 0 (λ e. absurd (omega (arith, e)))

    -- the ticket was not in the log before
    pub absent : (i : ℕ) (v : V) → slice_get log i ≡ Some (Issued ticket v) → ⊥
    absent i v e =
        let u : ticket_generation ticket < (cell cs (suc (ticket_slot ticket))).0 = r.used i ticket v e in
        let same : (cell cs (suc (ticket_slot ticket))).0 ≡ g = ap (λ (j : ℕ). (cell cs (suc j)).0) slot ∙ now in
        omega (arith, u, same, turn)

    other : (i t : ℕ) (v : V) → slice_get log i ≡ Some (Issued t v) → ticket ≡ t → ⊥
    other i t v e same = absent i v (subst (λ (x : ℕ). slice_get log i ≡ Some (Issued x v)) (sym same) e)

    is_it : (t : ℕ) (v : V) → Some new ≡ Some (Issued t v) → ticket ≡ t
    is_it t v e = cc (e)

    of_new : (t : ℕ) → ticket ≡ t → ticket_generation t < (cell counted (suc (ticket_slot t))).0
    of_new t same =
        let s : ticket_slot t ≡ k = ap ticket_slot (sym same) ∙ slot in
        let u : ticket_generation t ≡ g = ap ticket_generation (sym same) ∙ turn in
        let a : (cell counted (suc (ticket_slot t))).0 ≡ g + 1 = ap (λ (i : ℕ). (cell counted (suc i)).0) s ∙ ap (λ (c : Cell). c.0) (here cs log r (suc k) (g + 1) low_key) in
        omega (arith, u, a)

    one_place : (i j t : ℕ) (v w : V) → (slice_get log i ≡ Some (Issued t v)) ⊎ ((i ≡ length log) × (Some new ≡ Some (Issued t v)))
        → (slice_get log j ≡ Some (Issued t w)) ⊎ ((j ≡ length log) × (Some new ≡ Some (Issued t w))) → i ≡ j
    one_place i j t v w (inl e) (inl f) = r.once i j t v w e f
    one_place i j t v w (inl e) (inr f) = absurd (other i t v e (is_it t w f.1))
    one_place i j t v w (inr e) (inl f) = absurd (other j t w f (is_it t v e.1))
    one_place i j t v w (inr e) (inr f) = e.0 ∙ sym f.0

    pub issues : IssuesOnce counted (log ++ new ∷ [])
    issues = record {
      long = length-set cs (suc k) (g + 1, true) ∙ (r.long ∙ ap (λ (c : Cell). suc c.0) (sym zeroth_stays));
      home = ap (λ (c : Cell). c.1) zeroth_stays ∙ r.home;
      away = still_away cs log r (suc k) (g + 1) low_key;
      opened = λ i j e. ⊎_elim
          (λ h. still_home cs log r (suc k) (g + 1) low_key (suc j) (r.opened i j h))
          (λ h. absurd (let x = h.1 in cc (x)))
          (get_snoc log new i (Opened j) e);
      used = λ i t v e. ⊎_elim
          (λ h. raised cs log r (suc k) (g + 1) low_key (let n = now in omega (arith, n)) (suc (ticket_slot t)) (ticket_generation t) (r.used i t v h))
          (λ h. of_new t (is_it t v h.1))
          (get_snoc log new i (Issued t v) e);
      once = λ i j t v w e f. one_place i j t v w (get_snoc log new i (Issued t v) e) (get_snoc log new j (Issued t w) f);
    }

  -- whatever the log is, the exchange issues the ticket, or finds another number and changes nothing
  module _ (v : List (LogEntry V)) (k old ticket : ℕ) (value : V) (known : HasOpened v k) (slot : ticket_slot ticket ≡ k) (turn : ticket_generation ticket ≡ old) where
    abbrev Issuing : List Cell → List (LogEntry V) → ℕ → Type 0
    Issuing cs log m = Goes IssuesOnce shown moved (suc k) (v, (no_nib, None)) (λ n. m) (Issues (step (suc k) old (old + 1) (Issued ticket value)) (v, (no_nib, None))) cs log

    module _ (cs : List Cell) (log : List (LogEntry V)) (r : IssuesOnce cs log) (pre : IsPrefix v log) where
      is_home : (cell cs (suc k)).1 ≡ true
      is_home = r.opened known.0 k (get_prefix v log pre known.0 (Opened k) known.1)

      fresh : (cell cs (suc k)).0 ≡ old → (t : ℕ) (x : V) → Issued ticket value ≡ Issued t x → IsNew v t
      fresh now t x e y h =
          let same_ticket : ticket ≡ t = cc (e) in
          absent cs log r k old ticket value is_home slot turn now h.0 y
          (get_prefix v log pre h.0 (Issued ticket y) (subst (λ (z : ℕ). slice_get v h.0 ≡ Some (Issued z y)) (sym same_ticket) h.1))

      hit : (cell cs (suc k)).0 ≡ old → Issuing cs log (old + 1)
      hit now = (
        keeps,
        Issued ticket value ∷ [],
        None,
        tt,
        issues cs log r k old ticket value is_home slot turn now,
        inl (refl, refl),
        λ e. (length log, get_last log (Issued ticket value), fresh now),
      )

      miss : (cell cs (suc k)).0 ≢ old → Issuing cs log (cell cs (suc k)).0
      miss ne = (keeps, [], None, tt, same_rule cs (set cs (suc k) ((cell cs (suc k)).0, true)) log (as_it_was cs (suc k) (cell cs (suc k)).0 is_home refl) r, inl (refl, refl), λ e. absurd (ne e))

    pub issues_moves : Moves IssuesOnce shown moved (suc k) (v, (no_nib, None)) (λ n. either (n == old) (old + 1) n) (Issues (step (suc k) old (old + 1) (Issued ticket value)) (v, (no_nib, None)))
    issues_moves cs log r pre away =
        let home = is_home cs log r pre in
        (at_home cs (suc k) home, home, exchanged (cell cs (suc k)).0 old (old + 1) (Issuing cs log) (hit cs log r pre) (miss cs log r pre))

    pub issues_at : (key : ℕ) → key ≡ suc k → Moves IssuesOnce shown moved key (v, (no_nib, None)) (λ n. either (n == old) (old + 1) n) (Issues (step key old (old + 1) (Issued ticket value)) (v, (no_nib, None)))
    issues_at key is = subst (λ (x : ℕ). Moves IssuesOnce shown moved x (v, (no_nib, None)) (λ n. either (n == old) (old + 1) n) (Issues (step x old (old + 1) (Issued ticket value)) (v, (no_nib, None)))) (sym is) issues_moves
