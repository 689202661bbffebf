-- Hazards keep the rule: they are taken and given back, and announce tickets.
use Rattle.std.proofs.Common.{◌≡◌, ◌≢◌, ℕ, ◌+◌, ◌-◌, ◌<◌, ◌≤◌, Some, None, Option, List, set, false, refl, sym, ap, ◌∙◌, subst, arith, append-nil}
use mathlib.Core.Option.{some}
use mathlib.Core.Logic.{dite}
use native.Mathlib.Decide.{ℕ_discrete}
use lib.ListN.{get_elem?}
use Rattle.atomic_table.proofs.Lists.{set_here, set_else}
use Rattle.word_book.specs.Book.{State, Loads, Stores, Exchanges}
use Rattle.word_hazards.specs.Views.{slot_of, generation_of, In, View, HasLent}
use Rattle.word_hazards.specs.Steps.{state_key, present_in, settling, leaving, announcing, lending, Settles, Leaves, Announces, Validates}
use Rattle.word_hazards.specs.inner.Rule.{IsHazard, IsHeld, IsSeat, AreApart, AreHazards}
use Rattle.word_hazards.proofs.Moves.{within, same_at, moved, moves, pair, stays}
use Rattle.word_hazards.proofs.Words.{kept_hazard, grown_by}

-- what a seat knows whose hazard is another number
abbrev anew : View → Option ℕ → ℕ → View
anew v h x = record v { hazard = h; announced = x; lent = false }

none_lent : (v : View) (h : Option ℕ) (x t : ℕ) → HasLent (anew v h x) t → ⊥
none_lent v h x t has = let e = has.0 in absurd cc

-- A HAZARD gets another number, by the only seat that has it then
module _ (s : State View) (id k n : ℕ) (v : View) (r : AreHazards s) (at : get_elem? s.views id ≡ some v) (there : get_elem? s.words k ≡ some n) (low : k < 64) (h : Option ℕ) (x : ℕ) (mine : (i : ℕ) → h ≡ Some i → (k ≡ i) × (1 ≤ x)) (alone : (j : ℕ) (w : View) → get_elem? s.views j ≡ some w → j ≢ id → w.hazard ≡ Some k → ⊥) where
  abbrev ws : List ℕ
  ws = set s.words k x

  others : (j : ℕ) (w : View) → get_elem? s.views j ≡ some w → j ≢ id → IsSeat ws w
  others j w e ne = let a = r.seats j w e in record {
    hazard = λ i p. let q = a.hazard i p in (q.0, set_else s.words k i x (λ z. alone j w e ne (subst (λ (y : ℕ). w.hazard ≡ Some y) z p)) ∙ q.1, q.2);
    settled = a.settled;
    slots = kept_hazard s.words k x (omega (arith, low)) w a.slots;
    scanned = a.scanned;
    agree = a.agree;
  }

  own : IsSeat ws (anew v h x)
  own = let a = r.seats id v at in let b = kept_hazard s.words k x (omega (arith, low)) v a.slots in record {
    hazard = λ i p. let m = mine i p in subst (IsHazard ws (anew v h x)) m.0 (low, set_here s.words k x (within s.words k n there), m.1);
    settled = λ e. absurd cc;
    slots = record { lent = λ t y. absurd (none_lent v h x t y); issued = b.issued; claim = b.claim; retired = b.retired; peeked = b.peeked; reclaimed = b.reclaimed };
    scanned = λ t i y p less has. absurd (none_lent v h x t has);
    agree = a.agree;
  }

  apart : (j : ℕ) (w : View) → get_elem? s.views j ≡ some w → j ≢ id → AreApart (anew v h x) w × AreApart w (anew v h x)
  apart j w e ne = let p = pair s r id v at j w e ne in (
    record {
      hazards = λ i a b. alone j w e ne (subst (λ (y : ℕ). w.hazard ≡ Some y) (sym (mine i a).0) b);
      scanned = p.0.scanned;
      agree = p.0.agree;
      claims = p.0.claims;
      reclaimed = p.0.reclaimed;
    },
    record {
      hazards = λ i b a. alone j w e ne (subst (λ (y : ℕ). w.hazard ≡ Some y) (sym (mine i a).0) b);
      scanned = λ t i y q less has. absurd (none_lent v h x t has);
      agree = p.1.agree;
      claims = p.1.claims;
      reclaimed = p.1.reclaimed;
    },
  )

  pub renewed : AreHazards record { words = ws; views = set s.views id (anew v h x) }
  renewed = moves s r id v (anew v h x) ws at (grown_by s.words k x n (λ z. omega (arith, z, low)) there r.grown) others own apart

-- a seat's hazard is no other's
alone_by : (s : State View) (r : AreHazards s) (id k : ℕ) (v : View) → get_elem? s.views id ≡ some v → v.hazard ≡ Some k
    → (j : ℕ) (w : View) → get_elem? s.views j ≡ some w → j ≢ id → w.hazard ≡ Some k → ⊥
alone_by s r id k v at own j w e ne p = (pair s r id v at j w e ne).0.hazards k own p

pub announces : (id k x : ℕ) (v : View) → v.hazard ≡ Some k → 1 ≤ x → Stores AreHazards Announces id v k x
announces id k x v own one s n r at there =
    let low = ((r.seats id v at).hazard k own).0 in let mine : (i : ℕ) → v.hazard ≡ Some i → (k ≡ i) × (1 ≤ x) = λ i p. let e : Some k ≡ Some i = sym own ∙ p in (cc (e), one) in
    (announcing v x, renewed s id k n v r at there low v.hazard x mine (alone_by s r id k v at own), refl)

pub leaves : (id k : ℕ) (v : View) → v.hazard ≡ Some k → Stores AreHazards Leaves id v k 0
leaves id k v own s n r at there =
    let low = ((r.seats id v at).hazard k own).0 in let none : Option ℕ = None in let mine : (i : ℕ) → none ≡ Some i → (k ≡ i) × (1 ≤ 0) = λ i p. absurd cc in
    (leaving v, renewed s id k n v r at there low None 0 mine (alone_by s r id k v at own), refl)

pub settles : (id k : ℕ) (v : View) → k < 64 → Exchanges AreHazards Settles id v k 0 1
settles id k v low s n r at there =
    let some_k : Option ℕ = Some k in let mine : (i : ℕ) → some_k ≡ Some i → (k ≡ i) × (1 ≤ 1) = λ i p. (cc (p), omega arith) in (
      (λ is.
          let alone : (j : ℕ) (w : View) → get_elem? s.views j ≡ some w → j ≢ id → w.hazard ≡ Some k → ⊥ =
          λ j w e ne p. let q = (r.seats j w e).hazard k p in let same = same_at s.words k k w.announced n refl q.1 there in let one = q.2 in omega (arith, same, one, is) in (
            settling v k,
            0,
            subst (λ (ns : List ℕ). AreHazards record { words = ns; views = set s.views id (settling v k) }) (sym (append-nil (set s.words k 1))) (renewed s id k n v r at there low (Some k) 1 mine alone),
            ((λ e. refl), (λ ne. absurd (ne refl))),
          )),
      (λ ne. (v, stays s id v r at, ((λ e. absurd (ne e)), (λ e. refl)))),
    )

-- THE STATE of the announced ticket's slot is read
module _ (id k h t : ℕ) (v : View) (own : v.hazard ≡ Some h) (announced : v.announced ≡ t + 2) (key : k ≡ state_key (slot_of t)) where
  module _ (s : State View) (n : ℕ) (r : AreHazards s) (at : get_elem? s.views id ≡ some v) (there : get_elem? s.words k ≡ some n) (is : n ≡ present_in (generation_of t)) where
    -- nobody has retired it
    not_retired : (w : View) → IsSeat s.words w → (u : ℕ) → HasLent (lending v) u → In u w.retired → ⊥
    not_retired w a u has x =
        let e : u ≡ t = let f = has.1 in omega (arith, f, announced) in
        let p = a.slots.retired t (subst (λ (y : ℕ). In y w.retired) e x) in
        let same = same_at s.words (state_key (slot_of t)) k p.number n (sym key) p.is there in
        let high = p.so in
        omega (arith, same, is, high)

    held : (u : ℕ) → HasLent (lending v) u → IsHeld s.words u
    held u has =
        let e : t ≡ u = let f = has.1 in omega (arith, f, announced) in
        subst (IsHeld s.words) e (record { number = n; is = moved s.words k (state_key (slot_of t)) n key there; so = (omega (arith, is), omega (arith, is)) })

    pub lent : AreHazards record { words = s.words; views = set s.views id (lending v) }
    lent =
        let a = r.seats id v at in
        let mine : IsSeat s.words (lending v) = record {
          hazard = a.hazard;
          settled = λ e. (h, own);
          slots = record { lent = held; issued = a.slots.issued; claim = a.slots.claim; retired = a.slots.retired; peeked = a.slots.peeked; reclaimed = a.slots.reclaimed };
          scanned = λ u i x p less has. absurd (not_retired v a u has x);
          agree = a.agree;
        } in
        moves s r id v (lending v) s.words at r.grown (λ j w e ne. r.seats j w e) mine (λ j w e ne. let p = pair s r id v at j w e ne in (
          record { hazards = p.0.hazards; scanned = p.0.scanned; agree = p.0.agree; claims = p.0.claims; reclaimed = p.0.reclaimed },
          record {
            hazards = p.1.hazards;
            scanned = λ u i x q less has. absurd (not_retired w (r.seats j w e) u has x);
            agree = p.1.agree;
            claims = p.1.claims;
            reclaimed = p.1.reclaimed;
          },
        ))

  pub validates : Loads AreHazards Validates id v k
  validates s n r at there =
      let e : v.announced - 2 ≡ t = omega (arith, announced) in
      dite (ℕ_discrete n (present_in (generation_of (v.announced - 2))))
      (λ is. (lending v, lent s n r at there (is ∙ ap (λ (u : ℕ). present_in (generation_of u)) e), ((λ z. refl), (λ ne. absurd (ne is)))))
      (λ ne. (v, stays s id v r at, ((λ z. absurd (ne z)), (λ z. refl))))
