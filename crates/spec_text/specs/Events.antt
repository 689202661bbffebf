-- The events that an entry denotes.
use Rattle.std.specs.Prelude.{ℕ, false, true, List, [], ◌∷◌, replicate, Option, None}
use Rattle.spec_node.specs.TableNode.{Child}
use Rattle.spec_olc.specs.declared.types.Env.{Env}
use Rattle.spec_olc.specs.declared.types.Event.{Event}
use Rattle.spec_olc.specs.declared.types.Event.TheVariants as event
use Rattle.spec_olc.specs.declared.types.Seen.{Seen}
use Rattle.spec_text.specs.declared.entry.Entry.{Entry}
use Rattle.spec_text.specs.declared.entry.Entry.TheVariants.{Start, Step, Steps, Torn, Fail, Answer, Reclaim}

-- a torn read that reports this child, a count of 0 children, and a node that isn't full
abbrev pub torn_to : Option (Child ℕ) → Seen ℕ
torn_to child = record { child = child; count = 0; full = false }

-- a plain step: nothing torn, no upgrade that fails, no answer
abbrev pub plain : Env ℕ
plain = record { torn = torn_to None; fail = false; answer = None }

abbrev pub events_of : Entry → List (Event ℕ)
events_of (Start id op) = event.Start id op ∷ []
events_of (Step id) = event.Step id plain ∷ []
events_of (Steps id count) = replicate count (event.Step id plain)
events_of (Torn id child) = event.Step id (record plain { torn = torn_to child }) ∷ []
events_of (Fail id) = event.Step id (record plain { fail = true }) ∷ []
events_of (Answer id answer) = event.Step id (record plain { answer = answer }) ∷ []
events_of (Reclaim slot) = event.Reclaim slot ∷ []
