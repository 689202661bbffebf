-- How a try of a call ends.
use Rattle.std.specs.Prelude.{◌≡◌, ℕ, Bool, true, false, Option, Some, None, Result, Ok, Err}
use Rattle.live_nodes.specs.Seats.{SeatView}
use Rattle.live_nodes.specs.Views.{View}
use Rattle.live_nodes.specs.Tree.{Answers}
use Rattle.live_growth.specs.declared.map.Refusal.{Refusal}
use Rattle.live_updates.specs.inner.Updates.{Update}
use Rattle.share_rule.specs.History.{Entry}
use Rattle.live_updates.specs.ClosureEntries.{computed_with, inserted_with}
use Rattle.live_updates.specs.declared.computes.absent.Tried.{Tried}
use Rattle.live_updates.specs.declared.computes.absent.Tried.TheVariants.{Entered, Present, Again, Lacks}

-- An insertion has ended the call, or the seat has seen no more.
abbrev pub Tries : Update → Tried → SeatView View → SeatView View → Type 0
Tries u Entered v w = Answers u.caller u.entry v.client.seen w.client.seen
Tries u Present v w = w.client.seen ≡ v.client.seen
Tries u Again v w = w.client.seen ≡ v.client.seen
Tries u Lacks v w = w.client.seen ≡ v.client.seen

abbrev pub Enters : Update → Result Bool Refusal → SeatView View → SeatView View → Type 0
Enters u (Ok true) v w = Answers u.caller u.entry v.client.seen w.client.seen
Enters u (Ok false) v w = w.client.seen ≡ v.client.seen
Enters u (Err refused) v w = w.client.seen ≡ v.client.seen

-- The value was stored that this fact is true of, in the place of the one before. Otherwise the seat has seen no more.
abbrev pub Stores : ℕ → ℕ → (Option ℕ → ℕ → Type 0) → Result (Option (Option ℕ)) Refusal → SeatView View → SeatView View → Type 0
Stores c k Of (Ok (Some before)) v w = (new : ℕ) × Answers c (inserted_with c k before new) v.client.seen w.client.seen × Of before new
Stores c k Of (Ok None) v w = w.client.seen ≡ v.client.seen
Stores c k Of (Err refused) v w = w.client.seen ≡ v.client.seen

-- compute_if_present ends where the key is absent,
abbrev pub without_call : ℕ → ℕ → Option ℕ → Option (Entry ℕ)
without_call c k None = Some (computed_with c k None)
without_call c k (Some x) = None

-- compute_or_insert nowhere,
abbrev pub nowhere : Option ℕ → Option (Entry ℕ)
nowhere found = None

-- and get_or_insert where the key is present.
abbrev pub kept : ℕ → ℕ → Option ℕ → Option (Entry ℕ)
kept c k None = None
kept c k (Some x) = Some (inserted_with c k (Some x) x)

-- the entry of compute_if_present, by what the key has had, and has then
abbrev pub called_with : ℕ → ℕ → Option ℕ → Option ℕ → Entry ℕ
called_with c k None new = computed_with c k None
called_with c k (Some x) new = computed_with c k (Some (x, new))

-- the value, if there is one
abbrev pub stored : Option ℕ → ℕ
stored None = 0
stored (Some x) = x
