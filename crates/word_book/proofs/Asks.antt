-- What each kind of step asks of the rule, in one form: a word becomes what a function makes of its number, and words join.
use Rattle.std.proofs.Common.{◌≡◌, ◌≢◌, ◌⊎◌, ℕ, eqb, List, length, set, inl, inr, refl, sym, ◌∙◌, subst}
use Rattle.std.proofs.lemmas.List.{append-nil}
use mathlib.Core.Option.{some}
use lib.ListN.{get_elem?}
use prog.Atomic.{either}
use Rattle.atomic_table.proofs.Lists.{set_again, exchanged}
use Rattle.word_book.specs.Book.{State, Asked, reads, writes, compares, Joined, joined, none_joined, Tells, grown, Loads, Stores, Exchanges}

module _ {V : Type 0} (holds : State V → Type 0) (id : ℕ) (v : V) (k : ℕ) where
  -- m words join. Where there is none, their first key is anyone's
  abbrev pub Goes : (ℕ → Joined → V → Type 0) → State V → ℕ → ℕ → Type 0
  Goes then s n x = (w : V) × (m : ℕ) × holds (grown s k x id w m) × ((p : ℕ) × ((m ≡ 0) ⊎ (p ≡ length s.words)) × then n (joined p m) w)

  abbrev pub Moves : (ℕ → ℕ) → (ℕ → Joined → V → Type 0) → Type 0
  Moves f then = (s : State V) (n : ℕ) → holds s → get_elem? s.views id ≡ some v → get_elem? s.words k ≡ some n → Goes then s n (f n)

  quiet : (s : State V) (ws : List ℕ) (x : ℕ) (w : V) → ws ≡ set s.words k x → holds record { words = ws; views = set s.views id w } → holds (grown s k x id w 0)
  quiet s ws x w e h = subst (λ (ns : List ℕ). holds record { words = ns; views = set s.views id w }) (e ∙ sym (append-nil (set s.words k x))) h

  module _ (then : Tells V) where
    abbrev pub told : Asked → ℕ → Joined → V → Type 0
    told asked n j w = then asked v n j w

    pub load_moves : Loads holds then id v k → Moves (λ n. n) (λ n j w. told (reads k) n none_joined w)
    load_moves law s n so seat there = let r = law s n so seat there in (r.0, 0, quiet s s.words n r.0 (sym (set_again s.words k n there)) r.1, (0, inl refl, r.2))

    pub store_moves : (new : ℕ) → Stores holds then id v k new → Moves (λ _. new) (λ _ j w. told (writes k new) new none_joined w)
    store_moves new law s n so seat there = let r = law s n so seat there in (r.0, 0, quiet s (set s.words k new) new r.0 refl r.1, (0, inl refl, r.2))

    module _ (old new : ℕ) where
      abbrev asked : Asked
      asked = compares k old new

      module _ (law : Exchanges holds then id v k old new) (s : State V) (n : ℕ) (so : holds s) (seat : get_elem? s.views id ≡ some v) (there : get_elem? s.words k ≡ some n) where
        wins : n ≡ old → Goes (told asked) s n new
        wins e = let r = (law s n so seat there).0 e in (r.0, r.1, r.2, (length s.words, inr refl, subst (λ (x : ℕ). told asked x (joined (length s.words) r.1) r.0) (sym e) r.3))

        looks : n ≢ old → Goes (told asked) s n n
        looks e = let r = (law s n so seat there).1 e in (r.0, 0, quiet s s.words n r.0 (sym (set_again s.words k n there)) r.1, (0, inl refl, r.2))

      pub exchange_moves : Exchanges holds then id v k old new → Moves (λ n. either (eqb n old) new n) (told asked)
      exchange_moves law s n so seat there = exchanged n old new (Goes (told asked) s n) (wins law s n so seat there) (looks law s n so seat there)
