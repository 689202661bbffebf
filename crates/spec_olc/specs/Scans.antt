-- EACH RANGE: a pair that it gives is stored at that time, and a key that is present throughout is
-- given. Stated by the outcomes of its events and the content after each.
use Rattle.std.specs.Prelude.{◌≡◌, ℕ, ◌<◌, ◌≤◌, ◌==◌, List, [], ◌∷◌, ◌++◌, length, Option, Some, None, IsSome, ◌⊎◌, if◌then◌else◌}
use Rattle.spec_map.specs.Map.{Pairs, lookup, between, Rises}
use Rattle.spec_olc.specs.Runs.{Transition}
use Rattle.spec_olc.specs.declared.trace.Line.{Line}
use Rattle.spec_olc.specs.declared.trace.Line.TheVariants.{Done as Made}
use Rattle.spec_olc.specs.declared.types.Event.{Event}
use Rattle.spec_olc.specs.declared.types.Event.TheVariants.{Start, Step}
use Rattle.spec_olc.specs.declared.types.Op.TheVariants.{Range}
use Rattle.spec_olc.specs.declared.types.Outcome.{Outcome}
use Rattle.spec_olc.specs.declared.types.Outcome.TheVariants.{Going, Pair, Refused, Done}

-- an event of a call: its outcome, and the content after it
pub record Reported : Type 0 where
  pub out : Outcome ℕ
  pub content : Pairs ℕ

-- the outcome of an event, if it is a step of call `id` that is done
abbrev pub reported_to : ℕ → Event ℕ → Line → Option (Outcome ℕ)
reported_to id (Step i env) (Made report out seen) = if i == id then Some out else None
reported_to id event line = None

-- the events of call `id`, up to its end
abbrev pub unless_done : Outcome ℕ → List Reported → List Reported
unless_done Done later = []
unless_done out later = later

abbrev pub with_reported : Option (Outcome ℕ) → Pairs ℕ → List Reported → List Reported
with_reported None content later = later
with_reported (Some out) content later =
    record { out = out; content = content } ∷ unless_done out later

abbrev pub reports_to : ℕ → List Transition → List Reported
reports_to id [] = []
reports_to id (x ∷ xs) = with_reported (reported_to id x.event x.line) x.content (reports_to id xs)

-- the pairs that are given, in order
abbrev pub pair_in : Outcome ℕ → Pairs ℕ
pair_in (Pair key value) = (key, value) ∷ []
pair_in out = []

abbrev pub given : List Reported → Pairs ℕ
given [] = []
given (x ∷ xs) = pair_in x.out ++ given xs

-- each of them is stored after the event that gives it
abbrev pub WasStored : Outcome ℕ → Pairs ℕ → Type 0
WasStored (Pair key value) m = lookup m key ≡ Some value
WasStored out m = Unit {0}

abbrev pub AllWereStored : List Reported → Type 0
AllWereStored [] = Unit {0}
AllWereStored (x ∷ xs) = WasStored x.out x.content × AllWereStored xs

-- the call has ended and wasn't refused
abbrev pub EndsBy : Outcome ℕ → Type 0 → Type 0
EndsBy Done Later = Unit {0}
EndsBy Refused Later = ⊥
EndsBy out Later = Later

abbrev pub Ends : List Reported → Type 0
Ends [] = ⊥
Ends (x ∷ xs) = EndsBy x.out (Ends xs)

-- the key was present, at whatever values, after each of these events
abbrev pub IsStoredThroughout : ℕ → List Reported → Type 0
IsStoredThroughout key [] = Unit {0}
IsStoredThroughout key (x ∷ xs) = IsSome (lookup x.content key) × IsStoredThroughout key xs

-- A RANGE, over the events of its call from its start on. All but the last clause hold also of one
-- that is refused, and of one that is still in flight.
pub record IsScan (start end limit : ℕ) (events : List Reported) : Type 0 where
  -- each pair given was stored after the event that gave it
  pub was_stored : AllWereStored events
  -- the keys given ascend strictly, from the range's start on and below its end
  pub ascend : Rises start end (given events)
  -- at most `limit` pairs are given
  pub at_most : length (given events) ≤ limit
  -- Of a range that ended: a key of the range that was present after each of its events is given,
  -- unless `limit` pairs with smaller keys were.
  pub complete : Ends events → (key : ℕ) → start ≤ key → key < end → IsStoredThroughout key events
      → IsSome (lookup (given events) key) ⊎ (length (between (given events) 0 key) ≡ limit)

-- each range that starts here is a scan
abbrev pub Scans : Event ℕ → Line → Pairs ℕ → List Transition → Type 0
Scans (Start id (Range start end limit)) (Made report out seen) content later =
    IsScan start end limit (record { out = Going; content = content } ∷ reports_to id later)
Scans event line content later = Unit {0}

abbrev pub AllScan : List Transition → Type 0
AllScan [] = Unit {0}
AllScan (x ∷ xs) = Scans x.event x.line x.content xs × AllScan xs
