-- WHY A CALL WAS NOT MADE.
use Rattle.std.specs.Prelude.{◌≡◌, ℕ, None}
use Rattle.live_nodes.specs.Views.{ask, got}
use Rattle.live_nodes.specs.Known.{Known, MadeCall}
use Rattle.live_growth.specs.declared.map.Refusal.{Refusal}
use Rattle.live_growth.specs.declared.map.Refusal.TheVariants as refusals

-- THE KEY WAS ABSENT at a moment of a call by a guard that knew k: a look-up of the key is entered, which found none
abbrev pub FoundNone : Known → ℕ → Known → Type 0
FoundNone k key n = MadeCall k (got (ask k.caller key 0 0) None) n

-- what a guard that knew k knows after a call at this key that was refused: of a busy one no more than before
abbrev pub Refused : Known → ℕ → Refusal → Known → Type 0
Refused k key refusals.Busy n = n ≡ k
Refused k key refusals.OutOfMemory n = FoundNone k key n
