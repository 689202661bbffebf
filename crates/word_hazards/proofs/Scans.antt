-- Scans keep the rule: hazards and owners are read, and a ticket that nobody has lent is reclaimed.
use Rattle.std.proofs.Common.{◌≡◌, ◌⊎◌, inl, inr, ℕ, zero, suc, ◌+◌, ◌-◌, ◌<◌, Some, List, ◌∷◌, set, refl, sym, ap, ◌∙◌, subst, arith, append-nil, div-add-mod'}
use mathlib.Core.Option.{some}
use mathlib.Core.Logic.{dite}
use native.Mathlib.Decide.{ℕ_discrete}
use lib.ListN.{get_elem?}
use Rattle.word_book.specs.Book.{State, Loads, Exchanges}
use Rattle.word_hazards.specs.Views.{slot_of, generation_of, ticket, In, View, HasLent, HasIssued, HasReclaimed}
use Rattle.word_hazards.specs.Steps.{state_key, owner_key, slot_at, claimed_in, present_in, retired_in, generation_in, learning, found_before, scanning, peeking, reclaiming, IsUnlent, Learns, Scans, Peeks, Reclaims}
use Rattle.word_hazards.specs.inner.Rule.{IsReclaimed, AreSlots, IsSeat, AreHazards}
use Rattle.word_hazards.proofs.Moves.{same_at, moved, moves, pair, stays}
use Rattle.word_hazards.proofs.Words.{grown_by, here, elsewhere, number_is, stepped}
use Rattle.word_hazards.proofs.Slots.{agree_more, agree_less, agree_self, issued_more}

-- one ticket has one slot and one generation
pub same_ticket : (t u : ℕ) → slot_of t ≡ slot_of u → generation_of t ≡ generation_of u → t ≡ u
same_ticket t u a b = let p = div-add-mod' t 4294967296 in let q = div-add-mod' u 4294967296 in omega (arith, a, b, p, q)

pub ticket_of : (t : ℕ) → ticket (generation_of t) (slot_of t) ≡ t
ticket_of t = let p = div-add-mod' t 4294967296 in omega (arith, p)

-- THE OWNER of a ticket is read, by who has the ticket lent
module _ (id k t : ℕ) (v : View) (has : HasLent v t) (key : k ≡ owner_key (slot_of t)) where
  pub learns : Loads AreHazards Learns id v k
  learns s n r at there =
      let a = r.seats id v at in
      let held = a.slots.lent t has in
      let fresh : (w : View) → IsSeat s.words w → (o : ℕ) → HasIssued w t o → n ≡ o = λ w b o x.
      let y = b.slots.issued t o x in
      let same = same_at s.words (state_key (slot_of t)) (state_key (slot_of t)) y.number held.number refl y.is held.is in
      let few = held.so.1 in
      same_at s.words k (owner_key (slot_of t)) n o key there (y.so.1 (omega (arith, same, few))) in
      let own : IsSeat s.words (learning v t n) = record {
        hazard = a.hazard;
        settled = a.settled;
        slots = record {
          lent = a.slots.lent;
          issued = issued_more present_in s.words v.issued t n (record { number = held.number; is = held.is; so = (held.so.0, λ few. moved s.words k (owner_key (slot_of t)) n key there) }) a.slots.issued;
          claim = a.slots.claim;
          retired = a.slots.retired;
          peeked = a.slots.peeked;
          reclaimed = a.slots.reclaimed;
        };
        scanned = a.scanned;
        agree = agree_self v.issued t n a.agree (fresh v a);
      } in
      let named : t ≡ v.announced - 2 = let e = has.1 in omega (arith, e) in (
        learning v t n,
        moves s r id v (learning v t n) s.words at r.grown (λ j w e ne. r.seats j w e) own (λ j w e ne. let p = pair s r id v at j w e ne in (
          record { hazards = p.0.hazards; scanned = p.0.scanned; agree = agree_more v.issued w.issued t n p.0.agree (fresh w (r.seats j w e)); claims = p.0.claims; reclaimed = p.0.reclaimed },
          record { hazards = p.1.hazards; scanned = p.1.scanned; agree = agree_less v.issued w.issued t n p.1.agree (fresh w (r.seats j w e)); claims = p.1.claims; reclaimed = p.1.reclaimed },
        )),
        ap (λ (u : ℕ). learning v u n) named,
      )

-- what is found at the next hazard
found_next : (k n h x t : ℕ) (found : List ℕ) (scanned : ℕ) → (k ≡ 0) ⊎ (k ≡ scanned) → h < k + 1 → (h ≡ k → x ≡ n) → x ≡ t + 2 → (h < scanned → In (t + 2) found) → In (t + 2) (n ∷ found_before k found)
found_next zero n h x t found scanned next less at is before = let e : h ≡ 0 = omega (arith, less) in let same = at e in inl (omega (arith, same, is))
found_next (suc k) n h x t found scanned next less at is before = dite (ℕ_discrete h (suc k))
    (λ e. let same = at e in inl (omega (arith, same, is)))
    (λ ne. inr (before (let up : suc k ≡ scanned = first next in omega (arith, less, up, (λ (z : h ≡ suc k). ne z)))))
  where
    first : (suc k ≡ 0) ⊎ (suc k ≡ scanned) → suc k ≡ scanned
    first (inl z) = absurd (omega (arith, z))
    first (inr z) = z

-- A HAZARD is read
module _ (id k : ℕ) (v : View) (next : (k ≡ 0) ⊎ (k ≡ v.scanned)) where
  pub scans : Loads AreHazards Scans id v k
  scans s n r at there =
      let v' : View = scanning v k n in
      let a = r.seats id v at in
      let seen : (w : View) → IsSeat s.words w → ((t h : ℕ) → In t v.retired → w.hazard ≡ Some h → h < v.scanned → HasLent w t → In (t + 2) v.found) → (t h : ℕ) → In t v.retired → w.hazard ≡ Some h → h < k + 1 → HasLent w t → In (t + 2) (n ∷ found_before k v.found) =
      λ w b before t h x p less has. found_next k n h w.announced t v.found v.scanned next less (λ e. same_at s.words h k w.announced n e (b.hazard h p).1 there) has.1 (λ l. before t h x p l has) in
      let own : IsSeat s.words v' = record {
        hazard = a.hazard;
        settled = a.settled;
        slots = record { lent = a.slots.lent; issued = a.slots.issued; claim = a.slots.claim; retired = a.slots.retired; peeked = a.slots.peeked; reclaimed = a.slots.reclaimed };
        scanned = seen v a a.scanned;
        agree = a.agree;
      } in (
        v',
        moves s r id v v' s.words at r.grown (λ j w e ne. r.seats j w e) own (λ j w e ne. let p = pair s r id v at j w e ne in (
          record { hazards = p.0.hazards; scanned = seen w (r.seats j w e) p.0.scanned; agree = p.0.agree; claims = p.0.claims; reclaimed = p.0.reclaimed },
          record { hazards = p.1.hazards; scanned = p.1.scanned; agree = p.1.agree; claims = p.1.claims; reclaimed = p.1.reclaimed },
        )),
        refl,
      )

-- THE OWNER in a slot is read
module _ (id k : ℕ) (v : View) (key : k ≡ owner_key (slot_at (k - 1))) where
  pub peeks : Loads AreHazards Peeks id v k
  peeks s n r at there =
      let i : ℕ = slot_at (k - 1) in
      let v' : View = peeking v i n in
      let a = r.seats id v at in
      let own : IsSeat s.words v' = record {
        hazard = a.hazard;
        settled = a.settled;
        slots = record {
          lent = a.slots.lent;
          issued = a.slots.issued;
          claim = a.slots.claim;
          retired = a.slots.retired;
          peeked = λ slot o t e x z.
              let f : (i, n) ≡ (slot, o) = cc (e) in
              let b = a.slots.retired t x in
              let same : slot_of t ≡ i = z ∙ sym (ap (λ (y : ℕ × ℕ). y.0) f) in
              let owner : n ≡ o = ap (λ (y : ℕ × ℕ). y.1) f in
              record { number = b.number; is = b.is; so = (b.so, λ few. moved s.words k (owner_key (slot_of t)) o (key ∙ ap owner_key (sym same)) (there ∙ ap some owner)) };
          reclaimed = a.slots.reclaimed;
        };
        scanned = a.scanned;
        agree = a.agree;
      } in (
        v',
        moves s r id v v' s.words at r.grown (λ j w e ne. r.seats j w e) own (λ j w e ne. let p = pair s r id v at j w e ne in (
          record { hazards = p.0.hazards; scanned = p.0.scanned; agree = p.0.agree; claims = p.0.claims; reclaimed = p.0.reclaimed },
          record { hazards = p.1.hazards; scanned = p.1.scanned; agree = p.1.agree; claims = p.1.claims; reclaimed = p.1.reclaimed },
        )),
        refl,
      )

reclaimed_more : (ws : List ℕ) (xs : List ℕ) (t : ℕ) → IsReclaimed ws t → ((u : ℕ) → In u xs → IsReclaimed ws u) → (u : ℕ) → In u (t ∷ xs) → IsReclaimed ws u
reclaimed_more ws xs t new old u (inl e) = subst (IsReclaimed ws) e new
reclaimed_more ws xs t new old u (inr x) = old u x

once_more : (xs ys : List ℕ) (t : ℕ) → (In t ys → ⊥) → ((u : ℕ) → In u xs → In u ys → ⊥) → (u : ℕ) → In u (t ∷ xs) → In u ys → ⊥
once_more xs ys t fresh old u (inl e) y = fresh (subst (λ (z : ℕ). In z ys) (sym e) y)
once_more xs ys t fresh old u (inr x) y = old u x y

at_generation : (g : ℕ) → generation_in (retired_in g) ≡ g
at_generation g = omega arith

-- A TICKET is reclaimed
module _ (id k t o : ℕ) (v : View) (key : k ≡ state_key (slot_of t)) (peeked : v.peeked ≡ Some (slot_of t, o)) (unlent : IsUnlent v t) where
  abbrev g : ℕ
  g = generation_of t

  module _ (s : State View) (n : ℕ) (r : AreHazards s) (at : get_elem? s.views id ≡ some v) (there : get_elem? s.words k ≡ some n) (is : n ≡ retired_in g) where
    abbrev ws : List ℕ
    ws = set s.words k (n + 1)

    state_of : (u m : ℕ) → slot_of u ≡ slot_of t → get_elem? s.words (state_key (slot_of u)) ≡ some m → m ≡ n
    state_of u m same e = number_is s.words k (slot_of t) n key there (slot_of u) m same e

    owner_is : get_elem? s.words (owner_key (slot_of t)) ≡ some o
    owner_is = let x = (r.seats id v at).slots.peeked (slot_of t) o t peeked unlent.retired refl in let same = state_of t x.number refl x.is in x.so.1 (omega (arith, same, is))

    -- nobody has it lent
    not_lent : (w : View) → IsSeat s.words w → ((u h : ℕ) → In u v.retired → w.hazard ≡ Some h → h < v.scanned → HasLent w u → In (u + 2) v.found) → HasLent w t → ⊥
    not_lent w b scanned has = let p = b.settled has.0 in let low = (b.hazard p.0 p.1).0 in let all_ = unlent.scanned in unlent.found (scanned t p.0 unlent.retired p.1 (omega (arith, low, all_)) has)

    -- whoever knows its owner knows this one
    fresh : (w : View) → IsSeat s.words w → (q : ℕ) → HasIssued w t q → o ≡ q
    fresh w b q x = let y = b.slots.issued t q x in let same = state_of t y.number refl y.is in same_at s.words (owner_key (slot_of t)) (owner_key (slot_of t)) o q refl owner_is (y.so.1 (omega (arith, same, is)))

    -- nobody had it back
    pub first : (w : View) → IsSeat s.words w → HasReclaimed w t → ⊥
    first w b x = let y = b.slots.reclaimed t x in let same = state_of t y.number refl y.is in let high = y.so in omega (arith, same, is, high)

    slots : (w : View) → IsSeat s.words w → ((u h : ℕ) → In u v.retired → w.hazard ≡ Some h → h < v.scanned → HasLent w u → In (u + 2) v.found) → AreSlots ws w
    slots w b scanned = stepped s.words k (slot_of t) n key there w b.slots
        (λ u has same low high. absurd (not_lent w b scanned (subst (HasLent w) (same_ticket u t same (omega (arith, low, high, is))) has)))
        (λ c e z. let x = number_is s.words k (slot_of t) n key there c.slot (claimed_in c.generation) z (b.slots.claim c e).0 in omega (arith, x, is))

    after : (w : View) → IsSeat s.words w → ((u h : ℕ) → In u v.retired → w.hazard ≡ Some h → h < v.scanned → HasLent w u → In (u + 2) v.found) → IsSeat ws w
    after w b scanned = record {
      hazard = λ h p. let x = b.hazard h p in let low = x.0 in (x.0, elsewhere s.words k (slot_of t) n key there h w.announced (λ z. omega (arith, z, key, low)) x.1, x.2);
      settled = b.settled;
      slots = slots w b scanned;
      scanned = b.scanned;
      agree = b.agree;
    }

    now_at : get_elem? ws (state_key (slot_of t)) ≡ some (n + 1)
    now_at = here s.words k (slot_of t) n key there

    pub reclaimed : AreHazards record { words = ws; views = set s.views id (reclaiming v t o) }
    reclaimed =
        let a = r.seats id v at in
        let q = after v a a.scanned in
        let own : IsSeat ws (reclaiming v t o) = record {
          hazard = q.hazard;
          settled = q.settled;
          slots = record {
            lent = q.slots.lent;
            issued = issued_more present_in ws v.issued t o (record { number = n + 1; is = now_at; so = (omega (arith, is), λ few. absurd (omega (arith, few, is))) }) q.slots.issued;
            claim = q.slots.claim;
            retired = q.slots.retired;
            peeked = q.slots.peeked;
            reclaimed = reclaimed_more ws v.reclaimed t (record { number = n + 1; is = now_at; so = omega (arith, is) }) q.slots.reclaimed;
          };
          scanned = q.scanned;
          agree = agree_self v.issued t o a.agree (fresh v a);
        } in
        moves s r id v (reclaiming v t o) ws at (grown_by s.words k (n + 1) n (λ z. omega (arith, z, key)) there r.grown) (λ j w e ne. after w (r.seats j w e) (pair s r id v at j w e ne).0.scanned) own
        (λ j w e ne. let p = pair s r id v at j w e ne in let b = r.seats j w e in (
          record {
            hazards = p.0.hazards;
            scanned = p.0.scanned;
            agree = agree_more v.issued w.issued t o p.0.agree (fresh w b);
            claims = p.0.claims;
            reclaimed = once_more v.reclaimed w.reclaimed t (first w b) p.0.reclaimed;
          },
          record {
            hazards = p.1.hazards;
            scanned = p.1.scanned;
            agree = agree_less v.issued w.issued t o p.1.agree (fresh w b);
            claims = p.1.claims;
            reclaimed = λ u y x. once_more v.reclaimed w.reclaimed t (first w b) p.0.reclaimed u x y;
          },
        ))

  -- which ticket it is, by what was read
  named : (slot owner : ℕ) → v.peeked ≡ Some (slot, owner) → (t ≡ ticket (generation_in (retired_in g)) slot) × (o ≡ owner)
  named slot owner e =
      let x : Some (slot_of t, o) ≡ Some (slot, owner) = sym peeked ∙ e in
      let y : (slot_of t, o) ≡ (slot, owner) = cc (x) in
      let z : slot_of t ≡ slot = ap (λ (b : ℕ × ℕ). b.0) y in
      let w : generation_in (retired_in g) ≡ g = at_generation g in
      (sym (ticket_of t) ∙ (ap (λ (b : ℕ). ticket b (slot_of t)) (sym w) ∙ ap (ticket (generation_in (retired_in g))) z), ap (λ (b : ℕ × ℕ). b.1) y)

  reclaims_it : Exchanges AreHazards Reclaims id v k (retired_in g) (retired_in g + 1)
  reclaims_it s n r at there = (
    (λ is. (
      reclaiming v t o,
      0,
      subst (λ (ns : List ℕ). AreHazards record { words = ns; views = set s.views id (reclaiming v t o) })
          (sym (append-nil (set s.words k (retired_in g + 1))))
          (subst (λ (m : ℕ). AreHazards record { words = set s.words k (m + 1); views = set s.views id (reclaiming v t o) }) is (reclaimed s n r at there is)),
      (λ slot owner e. let x = named slot owner e in (
        (λ z. (
          (let both : (t, o) ≡ (ticket (generation_in (retired_in g)) slot, owner) = λ i. (x.0 i, x.1 i) in ap (λ (b : ℕ × ℕ). reclaiming v b.0 b.1) both),
          λ h. first s n r at there is v (r.seats id v at) (subst (HasReclaimed v) (sym x.0) h),
        )),
        (λ ne. absurd (ne refl)),
      )),
    )),
    (λ ne. (v, stays s id v r at, λ slot owner e. ((λ z. absurd (ne z)), (λ z. refl)))),
  )

  pub reclaims : (a : ℕ) → a ≡ retired_in g → Exchanges AreHazards Reclaims id v k a (a + 1)
  reclaims a e = subst (λ (m : ℕ). Exchanges AreHazards Reclaims id v k m (m + 1)) (sym e) reclaims_it
