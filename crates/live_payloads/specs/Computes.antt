-- WHAT A CALL WITH A CLOSURE STORED.
use Rattle.std.specs.Prelude.{◌≡◌, ℕ, Option, None, Some, option_copied}
use Rattle.std.specs.Fn.{Mut, Called}
use denote.Ref.{Bor}
use Rattle.live_updates.specs.Closures.{EndsWithCall}
use Rattle.word_slots.specs.Tickets.{Loan}
use Rattle.live_payloads.specs.Payloads.{PayloadsKnown}
use Rattle.live_payloads.specs.Tries.{AddsPayload, ReplacesPayload}

-- a call of f at an optional `&` to a payload may return r, and leave f'
pub record CalledAtOption {F P R : Type 0} (g : Mut F (Option (Bor P) × Unit {0}) R) (f : F) (asked : Option P) (r : R) (f' : F) : Type 0 where
  pub shown : Option (Bor P)
  pub shows : option_copied shown ≡ asked
  pub called : Called g f (shown, tt) r f'

-- WHAT THE CLOSURE RETURNED LAST WAS STORED: at an absent key, after a call with none, or in the place of the payload that it was
-- called with, which is lent
abbrev pub StoresComputed : {F V : Type 0} → (F → Option V → V → F → Type 0) → F → F → ℕ → Option (Loan V) → PayloadsKnown V → PayloadsKnown V → Type 0
StoresComputed {F} {V} step f f' key None k n = (ticket : ℕ) × (payload : V) × EndsWithCall step f None payload f' × AddsPayload key ticket payload k n
StoresComputed {F} {V} step f f' key (Some lent) k n = (old : V) × (new : V) × (lent.value ≡ Some old) × EndsWithCall step f (Some old) new f' × ReplacesPayload key lent.ticket old (Some new) k n
