-- The map that is kept for a text with contents.
use Rattle.std.specs.Prelude.{◌≤◌, ◌+◌, ◌++◌, ℕ, List, length}
use Rattle.std.specs.List.{flat_map}
use Rattle.spec_map.specs.Map.{Pairs}
use Rattle.spec_olc.specs.declared.trace.Decision.{Decision}
use Rattle.spec_olc.specs.declared.trace.Line.{Line}
use Rattle.spec_olc.specs.declared.types.Event.{Event}
use Rattle.spec_text.specs.Lines.{ended}
use Rattle.spec_text.specs.Texts.{content_text}
use Rattle.text_trace.specs.Detail.{map_after, lines_from}
use Rattle.text_trace.specs.declared.detail.Detail.{Detail}
use Rattle.text_trace.specs.declared.detail.Detail.TheVariants.{Contents}

-- the kept map after a line
abbrev pub kept_after : Detail → Line → List Decision → Pairs ℕ → Pairs ℕ
kept_after Contents line ds m = map_after line ds m
kept_after detail line ds m = m

-- there is room for a key of each decided call that is left
abbrev pub HasRoom : Detail → ℕ → ℕ → List Decision → Type 0
HasRoom Contents len capacity ds = len + length ds ≤ capacity
HasRoom detail len capacity ds = Unit {0}

-- the text of a trace, if the map is m before its first event
abbrev pub text_after : Detail → Pairs ℕ → List (Event ℕ) → List Line → List Decision → Pairs ℕ → List ℕ
text_after detail m events lines decided content =
    flat_map ended (lines_from detail 1 m events lines decided) ++ ended (content_text content)
