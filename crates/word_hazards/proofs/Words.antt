-- What a seat knows of slots, where words change.
use Rattle.std.proofs.Common.{◌≡◌, ◌≢◌, ℕ, ◌+◌, ◌<◌, ◌≤◌, Some, List, set, length-set, sym, ◌∙◌, arith, le_refl}
use mathlib.Core.Option.{some}
use mathlib.Core.Logic.{dite}
use native.Mathlib.Decide.{ℕ_discrete}
use lib.ListN.{get_elem?}
use Rattle.atomic_table.proofs.Lists.{set_here, set_else}
use Rattle.word_hazards.specs.Views.{slot_of, generation_of, Claim, View, HasLent}
use Rattle.word_hazards.specs.Steps.{state_key, owner_key, free_in, claimed_in, present_in, retired_in}
use Rattle.word_hazards.specs.inner.Rule.{AreGrown, IsHeld, IsOwned, IsClaim, AreSlots}
use Rattle.word_hazards.proofs.Moves.{within, same_at, moved}

-- states only grow, and an owner stays until its slot is free
module _ (words ws : List ℕ) (up : (j n : ℕ) → get_elem? words (state_key j) ≡ some n → (m : ℕ) × (get_elem? ws (state_key j) ≡ some m) × (n ≤ m)) (owners : (j n o g : ℕ) → get_elem? words (state_key j) ≡ some n → present_in g ≤ n → n < free_in (g + 1) → get_elem? words (owner_key j) ≡ some o → get_elem? ws (owner_key j) ≡ some o) where
  owned : (least : ℕ → ℕ) (t o : ℕ) → ((g : ℕ) → present_in g ≤ least g) → IsOwned least words t o → IsOwned least ws t o
  owned least t o high x =
      let m = up (slot_of t) x.number x.is in let low = x.so.0 in let grown = m.2 in let above = high (generation_of t) in record {
        number = m.0;
        is = m.1;
        so = (
          omega (arith, low, grown),
          λ few. let few' : x.number < free_in (generation_of t + 1) = omega (arith, few, grown) in owners (slot_of t) x.number o (generation_of t) x.is (omega (arith, low, above)) few' (x.so.1 few'),
        );
      }

  pub carried : (v : View) → AreSlots words v → ((t : ℕ) → HasLent v t → IsHeld ws t) → ((c : Claim) → v.claim ≡ Some c → IsClaim ws c) → AreSlots ws v
  carried v a lends claims = record {
    lent = lends;
    issued = λ t o x. owned present_in t o (λ g. le_refl (present_in g)) (a.issued t o x);
    claim = claims;
    retired = λ t x. let p = a.retired t x in let m = up (slot_of t) p.number p.is in let low = p.so in let grown = m.2 in record { number = m.0; is = m.1; so = omega (arith, low, grown) };
    peeked = λ slot o t e x is. owned retired_in t o (λ g. omega arith) (a.peeked slot o t e x is);
    reclaimed = λ t x. let p = a.reclaimed t x in let m = up (slot_of t) p.number p.is in let low = p.so in let grown = m.2 in record { number = m.0; is = m.1; so = omega (arith, low, grown) };
  }

-- no state and no owner changes
module _ (words ws : List ℕ) (states : (j n : ℕ) → get_elem? words (state_key j) ≡ some n → get_elem? ws (state_key j) ≡ some n) (owners : (j o : ℕ) → get_elem? words (owner_key j) ≡ some o → get_elem? ws (owner_key j) ≡ some o) where
  pub kept : (v : View) → AreSlots words v → AreSlots ws v
  kept v a = carried words ws (λ j n e. (n, states j n e, le_refl n)) (λ j n o g e low high x. owners j o x) v a
      (λ t x. let h = a.lent t x in record { number = h.number; is = states (slot_of t) h.number h.is; so = h.so })
      (λ c e. let h = a.claim c e in (states c.slot (claimed_in c.generation) h.0, λ o f. owners c.slot o (h.1 o f)))

-- a word changes that is of no slot
pub kept_hazard : (words : List ℕ) (k x : ℕ) → k < 65 → (v : View) → AreSlots words v → AreSlots (set words k x) v
kept_hazard words k x low v a = kept words (set words k x)
    (λ j n e. set_else words k (state_key j) x (λ z. omega (arith, z, low)) ∙ e)
    (λ j o e. set_else words k (owner_key j) x (λ z. omega (arith, z, low)) ∙ e)
    v
    a

-- the state of a slot becomes the next one
module _ (words : List ℕ) (k i n : ℕ) (key : k ≡ state_key i) (there : get_elem? words k ≡ some n) where
  abbrev ws : List ℕ
  ws = set words k (n + 1)

  pub here : get_elem? ws (state_key i) ≡ some (n + 1)
  here = moved ws k (state_key i) (n + 1) key (set_here words k (n + 1) (within words k n there))

  pub elsewhere : (h x : ℕ) → h ≢ k → get_elem? words h ≡ some x → get_elem? ws h ≡ some x
  elsewhere h x ne e = set_else words k h (n + 1) ne ∙ e

  pub owner_stays : (j o : ℕ) → get_elem? words (owner_key j) ≡ some o → get_elem? ws (owner_key j) ≡ some o
  owner_stays j o e = elsewhere (owner_key j) o (λ z. omega (arith, z, key)) e

  pub number_is : (j m : ℕ) → j ≡ i → get_elem? words (state_key j) ≡ some m → m ≡ n
  number_is j m is e = same_at words (state_key j) k m n (omega (arith, is, key)) e there

  states_up : (j m : ℕ) → get_elem? words (state_key j) ≡ some m → (l : ℕ) × (get_elem? ws (state_key j) ≡ some l) × (m ≤ l)
  states_up j m e = dite (ℕ_discrete j i)
      (λ is. let same = number_is j m is e in (n + 1, moved ws (state_key i) (state_key j) (n + 1) (omega (arith, is)) here, omega (arith, same)))
      (λ ne. (m, elsewhere (state_key j) m (λ z. ne (omega (arith, z, key))) e, le_refl m))

  held : (t : ℕ) → IsHeld words t → (slot_of t ≡ i → present_in (generation_of t) ≤ n → n < free_in (generation_of t + 1) → n + 1 < free_in (generation_of t + 1)) → IsHeld ws t
  held t h still = dite (ℕ_discrete (slot_of t) i)
      (λ is.
      let same = number_is (slot_of t) h.number is h.is in
      let low = h.so.0 in
      let high = h.so.1 in
      record {
        number = n + 1;
        is = moved ws (state_key i) (state_key (slot_of t)) (n + 1) (omega (arith, is)) here;
        so = (omega (arith, low, same), still is (omega (arith, low, same)) (omega (arith, high, same)));
      })
      (λ ne. record { number = h.number; is = elsewhere (state_key (slot_of t)) h.number (λ z. ne (omega (arith, z, key))) h.is; so = h.so })

  pub stepped : (v : View)
      → AreSlots words v
      → ((t : ℕ) → HasLent v t → slot_of t ≡ i → present_in (generation_of t) ≤ n → n < free_in (generation_of t + 1) → n + 1 < free_in (generation_of t + 1))
      → ((c : Claim) → v.claim ≡ Some c → c.slot ≢ i)
      → AreSlots ws v
  stepped v a lends claims = carried words ws states_up (λ j m o g e low high x. owner_stays j o x) v a
      (λ t x. held t (a.lent t x) (lends t x))
      (λ c e. let h = a.claim c e in (elsewhere (state_key c.slot) (claimed_in c.generation) (λ z. claims c e (omega (arith, z, key))) h.0, λ o f. owner_stays c.slot o (h.1 o f)))

-- the owner is put into a slot that is claimed
module _ (words : List ℕ) (k i g x : ℕ) (key : k ≡ owner_key i) (state : get_elem? words (state_key i) ≡ some (claimed_in g)) where
  abbrev os : List ℕ
  os = set words k x

  pub state_stays : (j n : ℕ) → get_elem? words (state_key j) ≡ some n → get_elem? os (state_key j) ≡ some n
  state_stays j n e = set_else words k (state_key j) x (λ z. omega (arith, z, key)) ∙ e

  pub other_owner : (j o : ℕ) → j ≢ i → get_elem? words (owner_key j) ≡ some o → get_elem? os (owner_key j) ≡ some o
  other_owner j o ne e = set_else words k (owner_key j) x (λ z. ne (omega (arith, z, key))) ∙ e

  not_claimed : (j n h : ℕ) → get_elem? words (state_key j) ≡ some n → present_in h ≤ n → n < free_in (h + 1) → j ≢ i
  not_claimed j n h e low high is = let same = same_at words (state_key j) (state_key i) n (claimed_in g) (omega (arith, is)) e state in omega (arith, same, low, high)

  pub put : (v : View) → AreSlots words v → ((c : Claim) → v.claim ≡ Some c → c.slot ≢ i) → AreSlots os v
  put v a claims = carried words os (λ j n e. (n, state_stays j n e, le_refl n)) (λ j n o h e low high y. other_owner j o (not_claimed j n h e low high) y) v a
      (λ t y. let h = a.lent t y in record { number = h.number; is = state_stays (slot_of t) h.number h.is; so = h.so })
      (λ c e. let h = a.claim c e in (state_stays c.slot (claimed_in c.generation) h.0, λ o f. other_owner c.slot o (claims c e) (h.1 o f)))

-- the book grows no more by this
pub grown_by : (words : List ℕ) (k x n : ℕ) → k ≢ 64 → get_elem? words k ≡ some n → AreGrown words → AreGrown (set words k x)
grown_by words k x n ne there g = record {
  number = g.number;
  is = set_else words k 64 x (λ z. ne (sym z)) ∙ g.is;
  so = length-set words k x ∙ g.so;
}
