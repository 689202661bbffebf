-- The text of a replayed schedule.
use Rattle.std.specs.Prelude.{ℕ, List, [], ◌∷◌, ◌++◌, codes, decimal}
use Rattle.std.specs.List.{flat_map}
use Rattle.spec_text.specs.Lines.{ended}
use Rattle.spec_text.specs.Value.{value_text, exchanged_text, computed_text, pair_text}
use Rattle.spec_map.specs.Map.{Pairs}
use Rattle.spec_olc.specs.declared.trace.Decision.{Decision}
use Rattle.spec_olc.specs.declared.trace.Line.{Line}
use Rattle.spec_olc.specs.declared.trace.Line.TheVariants.{Done as Made, Skipped}
use Rattle.spec_olc.specs.declared.types.Event.{Event}
use Rattle.spec_olc.specs.declared.types.Event.TheVariants.{Start, Step, Reclaim}
use Rattle.spec_olc.specs.declared.types.Op.{Op}
use Rattle.spec_olc.specs.declared.types.Op.TheVariants.{Insert, ComputeOrInsert}
use Rattle.spec_olc.specs.declared.types.Outcome.{Outcome}
use Rattle.spec_olc.specs.declared.types.Outcome.TheVariants.{Pair, Decided, Refused}
use Rattle.spec_olc.specs.declared.types.Reply.{Reply}
use Rattle.spec_olc.specs.declared.types.Reply.TheVariants.{Old, Computed, Exchanged}

-- `ok` before the old value, for a call that may insert a key, and so may be refused
abbrev pub ok_text : Op ℕ → List ℕ
ok_text (Insert key value) = codes "ok "
ok_text (ComputeOrInsert key otherwise) = codes "ok "
ok_text op = []

-- a reply, as `congee run` answers the same call
abbrev pub reply_text : Op ℕ → Reply ℕ → List ℕ
reply_text op (Old before) = ok_text op ++ value_text before
reply_text op (Computed result) = computed_text result
reply_text op (Exchanged result) = exchanged_text result

-- the text of a step of call `id`, one line or none; the decided calls are those from here on
abbrev pub outcome_texts : ℕ → Outcome ℕ → List Decision → List (List ℕ)
outcome_texts id (Decided reply) (d ∷ ds) =
    (decimal id ++ codes " " ++ reply_text d.op reply) ∷ []
outcome_texts id (Pair key value) ds =
    (decimal id ++ codes " pair " ++ decimal key ++ codes " " ++ decimal value) ∷ []
outcome_texts id Refused ds = (decimal id ++ codes " refused") ∷ []
outcome_texts id outcome ds = []

-- the text of an event
abbrev pub event_texts : Event ℕ → Line → List Decision → List (List ℕ)
event_texts event Skipped ds = codes "skipped" ∷ []
event_texts (Start id op) (Made report out seen) ds = []
event_texts (Step id env) (Made report out seen) ds = outcome_texts id out ds
event_texts (Reclaim slot) (Made report out seen) ds = (codes "reclaimed " ++ decimal slot) ∷ []

-- the decided calls after a line
abbrev pub decided_after : Line → List Decision → List Decision
decided_after (Made report (Decided reply) seen) (d ∷ ds) = ds
decided_after _ ds = ds

-- the texts of all events, one after another
abbrev pub texts_of : List (Event ℕ) → List Line → List Decision → List (List ℕ)
texts_of (event ∷ events) (line ∷ lines) ds =
    event_texts event line ds ++ texts_of events lines (decided_after line ds)
texts_of _ _ ds = []

-- the pairs at the end, ascending
abbrev pub content_text : Pairs ℕ → List ℕ
content_text content = codes "content" ++ flat_map pair_text content

-- THE TEXT OF A TRACE: each line with a line feed
abbrev pub trace_text : List (Event ℕ) → List Line → List Decision → Pairs ℕ → List ℕ
trace_text events lines decided content =
    flat_map ended (texts_of events lines decided) ++ ended (content_text content)

-- the call that a line decides, by its number and its reply
abbrev pub reply_in_line : Event ℕ → Line → List (ℕ × Reply ℕ)
reply_in_line (Step id env) (Made report (Decided reply) seen) = (id, reply) ∷ []
reply_in_line event line = []

-- THE DECIDED CALLS that the lines contain
abbrev pub replies_in_lines : List (Event ℕ) → List Line → List (ℕ × Reply ℕ)
replies_in_lines (event ∷ events) (line ∷ lines) =
    reply_in_line event line ++ replies_in_lines events lines
replies_in_lines _ _ = []

abbrev pub number_and_reply : Decision → ℕ × Reply ℕ
number_and_reply d = (d.id, d.reply)
