-- The map that the contents of a trace come to.
use Rattle.std.specs.Prelude.{ℕ, List, [], ◌∷◌}
use Rattle.spec_map.specs.Map.{Pairs}
use Rattle.spec_olc.specs.declared.trace.Decision.{Decision}
use Rattle.spec_olc.specs.declared.trace.Line.{Line}
use Rattle.spec_text.specs.Texts.{decided_after}
use Rattle.text_trace.specs.Detail.{map_after}

-- the map after all of these lines, from m on, as `lines_from` takes it from line to line
abbrev pub map_at_end : Pairs ℕ → List Line → List Decision → Pairs ℕ
map_at_end m [] ds = m
map_at_end m (line ∷ lines) ds = map_at_end (map_after line ds m) lines (decided_after line ds)
