-- The life at an index of the places.
use Rattle.std.proofs.Common.{◌≡◌, ◌≢◌, ℕ, zero, suc, ◌+◌, ◌<◌, ◌≤◌, true, false, List, [], ◌∷◌, ◌++◌, length, get_or, set, take, replicate, Option, Some, None, IsSome, inl, inr, refl, sym, subst, ap, ◌∙◌, arith}
use Rattle.std.proofs.Math.ListN.{get_or-eq_default}
use Rattle.std.proofs.lemmas.Bool.{cases_order}
use Rattle.std.proofs.lemmas.List.{get_or-set_same, get_or-set_other, take_all}
use Rattle.std.specs.BTreeMap.{is_at}
use Rattle.std.specs.Ordering.{nat_cmp}
use Rattle.olc_words.specs.Epoch.{entry_at}
use Rattle.olc_words.specs.declared.epoch.Life.{Life}
use Rattle.olc_words.specs.declared.lives.Place.{Place}
use Rattle.olc_words.specs.declared.lives.Place.TheVariants.{Empty}
use Rattle.olc_words.specs.Lives.{life_in, with_life, lives_from, SetsLife}

at_same : (k : ℕ) → is_at (nat_cmp k) k ≡ true
at_same k = grind arith

at_other : (q k : ℕ) → q ≢ k → is_at (nat_cmp q) k ≡ false
at_other q k ne = grind arith

-- an entry before the others
first_same : (slot : ℕ) (life : Option Life) (lives : List (ℕ × Life)) → entry_at lives slot ≡ None → entry_at (with_life slot life lives) slot ≡ life
first_same slot None lives none = none
first_same slot (Some life) lives none = rw (at_same slot) refl

first_other : (slot : ℕ) (life : Option Life) (lives : List (ℕ × Life)) (other : ℕ) → other ≢ slot → entry_at (with_life slot life lives) other ≡ entry_at lives other
first_other slot None lives other ne = refl
first_other slot (Some life) lives other ne = rw (at_other other slot ne) refl

none_below : (first : ℕ) (places : List Place) (slot : ℕ) → slot < first → entry_at (lives_from first places) slot ≡ None
none_below first [] slot lt = refl
none_below first (p ∷ ps) slot lt = first_other first (life_in p) (lives_from (first + 1) ps) slot (omega arith) ∙ none_below (first + 1) ps slot (omega arith)

from_index : (first : ℕ) (places : List Place) (i slot : ℕ) → slot ≡ first + i → entry_at (lives_from first places) slot ≡ life_in (get_or places i Empty)
from_index first [] i slot is = refl
from_index first (p ∷ ps) zero slot is = subst (λ s. entry_at (lives_from first (p ∷ ps)) s ≡ life_in p) (sym (is ∙ omega arith)) (first_same first (life_in p) (lives_from (first + 1) ps) (none_below (first + 1) ps first (omega arith)))
from_index first (p ∷ ps) (suc i) slot is = first_other first (life_in p) (lives_from (first + 1) ps) slot (omega arith) ∙ from_index (first + 1) ps i slot (omega arith)

-- the life of a slot is that at its index
pub by_index : (places : List Place) (slot : ℕ) → entry_at (lives_from 0 places) slot ≡ life_in (get_or places slot Empty)
by_index places slot = from_index 0 places slot slot (omega arith)

pub sets : (places : List Place) (slot : ℕ) (place : Place) → slot < length places → SetsLife (lives_from 0 places) (lives_from 0 (set places slot place)) slot (life_in place)
sets places slot place in_range = record {
  here = by_index (set places slot place) slot ∙ ap life_in (get_or-set_same places slot place Empty in_range);
  others = λ other ne. by_index (set places slot place) other ∙ (ap life_in (get_or-set_other places slot other place Empty ne) ∙ sym (by_index places other));
}

-- a slot that isn't one of the places has no life
pub outside : (places : List Place) (slot : ℕ) → length places ≤ slot → entry_at (lives_from 0 places) slot ≡ None
outside places slot le = by_index places slot ∙ ap life_in (get_or-eq_default places Empty le)

none_some : (life : Option Life) → life ≡ None → IsSome life → ⊥
none_some life none some = cc

pub within : (places : List Place) (slot : ℕ) → IsSome (entry_at (lives_from 0 places) slot) → slot < length places
within places slot some = elim (cases_order slot (length places)) [ inl at ↦ absurd (past (omega arith)) | inr (inl lt) ↦ lt | inr (inr above) ↦ absurd (past (omega arith)) ]
  where
    past : length places ≤ slot → ⊥
    past le = none_some (entry_at (lives_from 0 places) slot) (outside places slot le) some

nothing : (first n : ℕ) → lives_from first (replicate n Empty) ≡ []
nothing first zero = refl
nothing first (suc n) = nothing (first + 1) n

grown_from : (first : ℕ) (places : List Place) (n : ℕ) → lives_from first (places ++ replicate n Empty) ≡ lives_from first places
grown_from first [] n = nothing first n
grown_from first (p ∷ ps) n = ap (with_life first (life_in p)) (grown_from (first + 1) ps n)

pub grown : (places : List Place) (n more : ℕ) → length places ≤ n → lives_from 0 (take n places ++ replicate more Empty) ≡ lives_from 0 places
grown places n more le = rw (take_all n places le) (grown_from 0 places more)
