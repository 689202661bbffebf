-- The text of a replayed schedule, in more or less detail.
use Rattle.std.specs.Prelude.{ℕ, ◌+◌, List, [], ◌∷◌, ◌++◌}
use Rattle.std.specs.List.{flat_map}
use Rattle.spec_map.specs.Legal.{after_operation}
use Rattle.spec_map.specs.Map.{Pairs}
use Rattle.spec_olc.specs.Runs.{operation_of, same_number}
use Rattle.spec_olc.specs.declared.trace.Decision.{Decision}
use Rattle.spec_olc.specs.declared.trace.Line.{Line}
use Rattle.spec_olc.specs.declared.trace.Line.TheVariants.{Done as Made}
use Rattle.spec_olc.specs.declared.types.Event.{Event}
use Rattle.spec_olc.specs.declared.types.Outcome.TheVariants.{Decided}
use Rattle.spec_text.specs.Lines.{ended}
use Rattle.spec_text.specs.Texts.{event_texts, decided_after, content_text, trace_text}
use Rattle.text_trace.specs.EventLine.{event_line}
use Rattle.text_trace.specs.declared.detail.Detail.{Detail}
use Rattle.text_trace.specs.declared.detail.Detail.TheVariants.{Outcomes, Contents}

-- the map after the first of these decided calls
abbrev pub after_first : List Decision → Pairs ℕ → Pairs ℕ
after_first [] m = m
after_first (d ∷ ds) m = after_operation same_number m (operation_of d)

-- the map after a line, by the call that it decides
abbrev pub map_after : Line → List Decision → Pairs ℕ → Pairs ℕ
map_after (Made report (Decided reply) seen) ds m = after_first ds m
map_after line ds m = m

-- the lines of the nth event alone
abbrev pub event_lines : Detail → ℕ → Event ℕ → Line → List Decision → List (List ℕ)
event_lines Outcomes n event line ds = event_texts event line ds
event_lines detail n event line ds = event_line n event line ds ∷ []

-- the map m, if it is shown after this line: if that decides a call
abbrev pub content_lines : Detail → Line → Pairs ℕ → List (List ℕ)
content_lines Contents (Made report (Decided reply) seen) m = content_text m ∷ []
content_lines detail line m = []

-- the lines of all events from the nth on, before which the map is m
abbrev pub lines_from : Detail → ℕ → Pairs ℕ → List (Event ℕ) → List Line → List Decision
    → List (List ℕ)
lines_from detail n m (event ∷ events) (line ∷ lines) ds =
    event_lines detail n event line ds ++ content_lines detail line (map_after line ds m)
    ++ lines_from detail (n + 1) (map_after line ds m) events lines (decided_after line ds)
lines_from detail n m _ _ ds = []

-- THE TEXT OF A TRACE in this detail: what comes of the events, as `trace_text` has it; or a line for each event, with
-- the content after each decision or without it, and last the content at the end
abbrev pub detailed_text : Detail → List (Event ℕ) → List Line → List Decision → Pairs ℕ → List ℕ
detailed_text Outcomes events lines decided content = trace_text events lines decided content
detailed_text detail events lines decided content =
    flat_map ended (lines_from detail 1 [] events lines decided) ++ ended (content_text content)
