-- The steps, by the key of the word that a call is given.
use Rattle.std.proofs.Common.{◌≡◌, ◌⊎◌, ℕ, ◌+◌, ◌*◌, ◌%◌, ◌/◌, ◌<◌, List, sym, ◌∙◌, subst, inl, inr, arith, div-add-mod'}
use Rattle.word_book.specs.Book.{State, Loads, Stores, Exchanges}
use Rattle.live_nodes.specs.Nodes.{Content, Node}
use Rattle.live_nodes.specs.Seats.{Place, SeatView}
use Rattle.live_nodes.specs.Rule.{IsLive}
use Rattle.live_nodes.specs.Plays as plays
use Rattle.live_nodes.specs.Calls.{KnowsPlace, KnowsCell, HoldsCell, InRoom, MayCheck, MayLock, MayFree, MayMake}
use Rattle.live_nodes.proofs.Steps.{may_take, may_see, may_look, may_check, may_lock, may_write, may_free}
use Rattle.live_nodes.proofs.Rooms.{may_put, may_make, may_grow}

-- a multiple of 4
fourth : (w : ℕ) → w % 4 ≡ 0 → w ≡ 4 * (w / 4)
fourth w e = let d : w / 4 * 4 + w % 4 ≡ w = div-add-mod' w 4 in omega (arith, d, e)

module _ {V : Type 0} (root : ℕ) (P : List Node → List V → Type 0) (id : ℕ) (v : SeatView V) (key : ℕ) where
  abbrev R : State (SeatView V) → Type 0
  R = IsLive root P

  pub takes : KnowsPlace v key → Loads R plays.Takes id v key
  takes k = subst (Loads R plays.Takes id v) k.1.1 (may_take root P id v k.0 k.1.0)

  pub sees : KnowsCell v key → Loads R plays.Sees id v key
  sees k = subst (Loads R plays.Sees id v) k.2.2 (may_see root P id v k.0 k.1 k.2.0 k.2.1)

  pub looks : Loads R plays.Looks id v key
  looks = may_look root P id v key

  pub checks : (told : V → ℕ → ℕ → List (ℕ × ℕ) → List Place → V → Type 0) (word : ℕ) → word % 4 ≡ 0 → MayCheck v key P id told word → Loads R (plays.Checks told) id v key
  checks told word free k = subst (Loads R (plays.Checks told) id v) k.2.1 (may_check root P id v k.0 k.1 (word / 4) told k.2.0 k.3 (k.4 ∙ fourth word free) k.5)

  pub locks : (told : V → ℕ → Content → V → Type 0) (word : ℕ) → word % 4 ≡ 0 → MayLock v key P id told word (word + 2) → Exchanges R (plays.Locks told) id v key word (word + 2)
  locks told word free k = let q : ℕ = word / 4 in let is : word ≡ 4 * q = fourth word free in
      subst (λ (z : ℕ). Exchanges R (plays.Locks told) id v z word (word + 2)) k.1.1
      (may_lock root P id v k.0 word (word + 2) q told k.1.0 (λ x e. absurd (omega (arith, is, e))) (omega (arith, is)) (omega arith) k.2)

  pub reclaims : (told : V → ℕ → Content → V → Type 0) (word : ℕ) → word % 4 ≡ 3 → MayLock v key P id told word (word + 3) → Exchanges R (plays.Locks told) id v key word (word + 3)
  reclaims told word odd k = let q : ℕ = word / 4 in let is : word ≡ 4 * q + 3 = omega (arith, div-add-mod' word 4, odd) in
      subst (λ (z : ℕ). Exchanges R (plays.Locks told) id v z word (word + 3)) k.1.1
      (may_lock root P id v k.0 word (word + 3) (q + 1) told k.1.0 (λ x e. absurd (omega (arith, is, e))) (omega (arith, is)) (omega arith) k.2)

  pub writes : HoldsCell v key → (x : ℕ) → Stores R plays.Writes id v key x
  writes k x = subst (λ (z : ℕ). Stores R plays.Writes id v z x) k.2.2 (may_write root P id v k.0 k.3.0 k.1 x k.2.0 k.3.1 k.2.1)

  -- a held node by its next version, or obsolete
  frees_as : (told : V → ℕ → Content → V → Type 0) (word x m : ℕ) → word < x → ((x ≡ 4 * m) ⊎ (x ≡ 4 * m + 3)) → MayFree v key P id told word x → Stores R (plays.Frees told) id v key x
  frees_as told word x m later bits k = let above : k.1.word < x = subst (λ (z : ℕ). z < x) (sym k.4) later in
      subst (λ (z : ℕ). Stores R (plays.Frees told) id v z x) k.2.1 (may_free root P id v k.0 k.1 x m told k.2.0 k.3 above bits k.5)

  pub unlocks : (told : V → ℕ → Content → V → Type 0) (free : ℕ) → free % 4 ≡ 0 → MayFree v key P id told (free + 2) (free + 4) → Stores R (plays.Frees told) id v key (free + 4)
  unlocks told free e k = let is = fourth free e in frees_as told (free + 2) (free + 4) (free / 4 + 1) (omega arith) (inl (omega (arith, is))) k

  pub retires : (told : V → ℕ → Content → V → Type 0) (free : ℕ) → free % 4 ≡ 0 → MayFree v key P id told (free + 2) (free + 3) → Stores R (plays.Frees told) id v key (free + 3)
  retires told free e k = let is = fourth free e in frees_as told (free + 2) (free + 3) (free / 4) (omega arith) (inr (omega (arith, is))) k

  pub puts : InRoom v key → (x : ℕ) → Stores R plays.Puts id v key x
  puts k x = subst (λ (z : ℕ). Stores R plays.Puts id v z x) k.2 (may_put root P id v k.0 x k.1)

  pub makes : (told : V → ℕ → Content → ℕ → V → Type 0) (x : ℕ) → MayMake v key P id told x → Stores R (plays.Makes told) id v key x
  makes told x k = subst (λ (z : ℕ). Stores R (plays.Makes told) id v z x) k.4 (may_make root P id v k.0 k.1 x told k.5 k.6 k.2 k.3 k.7)

  pub grows : key ≡ 0 → (old : ℕ) → Exchanges R (plays.Grows root) id v key old (old + 1)
  grows e old = subst (λ (z : ℕ). Exchanges R (plays.Grows root) id v z old (old + 1)) (sym e) (may_grow root P id v old)
