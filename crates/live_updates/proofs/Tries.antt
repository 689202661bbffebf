-- How a try ended, seen from before it.
use Rattle.std.proofs.Common.{◌≡◌, ◌⊎◌, inl, inr, ℕ, Bool, true, false, List, Option, Some, None, Result, Ok, Err, subst}
use Rattle.share_rule.specs.History.{Entry}
use Rattle.live_nodes.specs.Seats.{SeatView}
use Rattle.live_nodes.specs.Views.{View}
use Rattle.live_nodes.specs.Tree.{Answers}
use Rattle.live_growth.specs.declared.map.Refusal.{Refusal}
use Rattle.live_updates.specs.inner.Updates.{Update}
use Rattle.live_updates.specs.ClosureEntries.{inserted_with}
use Rattle.live_updates.specs.declared.computes.absent.Tried.{Tried}
use Rattle.live_updates.specs.declared.computes.absent.Tried.TheVariants.{Entered, Present, Again, Lacks}
use Rattle.live_updates.specs.inner.Ends.{Tries, Enters, Stores}

abbrev Seen : Type 0
Seen = SeatView View

pub entered_by : (u : Update) (o : Tried) (v w : Seen) → o ≡ Entered → Tries u o v w → Answers u.caller u.entry v.client.seen w.client.seen
entered_by u o v w e t = subst (λ (z : Tried). Tries u z v w) e t

pub present_same : (u : Update) (o : Tried) (v w : Seen) → o ≡ Present → Tries u o v w → w.client.seen ≡ v.client.seen
present_same u o v w e t = subst (λ (z : Tried). Tries u z v w) e t

-- it has seen no more where it isn't the end of the call
pub goes_on : (u : Update) (o : Tried) (v w : Seen) → (o ≡ Again) ⊎ (o ≡ Lacks) → Tries u o v w → w.client.seen ≡ v.client.seen
goes_on u o v w e t = elim e [
  | inl x ↦ subst (λ (z : Tried). Tries u z v w) x t
  | inr x ↦ subst (λ (z : Tried). Tries u z v w) x t
]

pub answers_later : (c : ℕ) (e : Entry ℕ) (s t u : List (Entry ℕ)) → s ≡ t → Answers c e s u → Answers c e t u
answers_later c e s t u same a = subst (λ (z : List (Entry ℕ)). Answers c e z u) same a

pub enters_done : (u : Update) (o : Result Bool Refusal) (v w : Seen) → o ≡ Ok true → Enters u o v w → Answers u.caller u.entry v.client.seen w.client.seen
enters_done u o v w e t = subst (λ (z : Result Bool Refusal). Enters u z v w) e t

pub enters_not : (u : Update) (o : Result Bool Refusal) (v w : Seen) → o ≡ Ok false → Enters u o v w → w.client.seen ≡ v.client.seen
enters_not u o v w e t = subst (λ (z : Result Bool Refusal). Enters u z v w) e t

pub enters_refused : (u : Update) (o : Result Bool Refusal) (r : Refusal) (v w : Seen) → o ≡ Err r → Enters u o v w → w.client.seen ≡ v.client.seen
enters_refused u o r v w e t = subst (λ (z : Result Bool Refusal). Enters u z v w) e t

-- a value was stored, in a call by this caller
pub stores_done : (c k : ℕ) (Of : Option ℕ → ℕ → Type 0) (o : Result (Option (Option ℕ)) Refusal) (before : Option ℕ) (v w : Seen) → o ≡ Ok (Some before) → Stores c k Of o v w → (new : ℕ) × Answers c (inserted_with c k before new) v.client.seen w.client.seen × Of before new
stores_done c k Of o before v w e t = subst (λ (z : Result (Option (Option ℕ)) Refusal). Stores c k Of z v w) e t

pub stores_not : (c k : ℕ) (Of : Option ℕ → ℕ → Type 0) (o : Result (Option (Option ℕ)) Refusal) (v w : Seen) → o ≡ Ok None → Stores c k Of o v w → w.client.seen ≡ v.client.seen
stores_not c k Of o v w e t = subst (λ (z : Result (Option (Option ℕ)) Refusal). Stores c k Of z v w) e t

pub stores_refused : (c k : ℕ) (Of : Option ℕ → ℕ → Type 0) (o : Result (Option (Option ℕ)) Refusal) (r : Refusal) (v w : Seen) → o ≡ Err r → Stores c k Of o v w → w.client.seen ≡ v.client.seen
stores_refused c k Of o r v w e t = subst (λ (z : Result (Option (Option ℕ)) Refusal). Stores c k Of z v w) e t
