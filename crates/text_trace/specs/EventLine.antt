-- The line of an event as `congee trace` writes it: its fields, with one space between each two.
use Rattle.std.specs.Prelude.{ℕ, Bool, true, false, List, [], ◌∷◌, ◌++◌, codes, decimal, Option, Some, None}
use Rattle.std.specs.List.{join_with_byte}
use Rattle.spec_olc.specs.declared.trace.Decision.{Decision}
use Rattle.spec_olc.specs.declared.trace.Line.{Line}
use Rattle.spec_olc.specs.declared.trace.Line.TheVariants.{Done as Made, Skipped}
use Rattle.spec_olc.specs.declared.types.Env.{Env}
use Rattle.spec_olc.specs.declared.types.Event.{Event}
use Rattle.spec_olc.specs.declared.types.Event.TheVariants.{Start, Step, Reclaim}
use Rattle.spec_olc.specs.declared.types.Kind.{Kind}
use Rattle.spec_olc.specs.declared.types.Kind.TheVariants as kind
use Rattle.spec_olc.specs.declared.types.Outcome.{Outcome}
use Rattle.spec_olc.specs.declared.types.Outcome.TheVariants.{Ask, Pair, Decided, Refused, Done}
use Rattle.spec_olc.specs.declared.types.Seen.{Seen}
use Rattle.spec_text.specs.Entry.{words_of_op, words_of_child}
use Rattle.spec_text.specs.Texts.{reply_text}
use Rattle.spec_text.specs.Value.{value_text}

-- the number of the event's call; a reclaim is of no call
abbrev pub call_text : Event ℕ → List ℕ
call_text (Start id op) = decimal id
call_text (Step id env) = decimal id
call_text (Reclaim slot) = codes "-"

-- the letter and the word of a kind
abbrev pub kind_text : Kind → List ℕ
kind_text kind.Start = codes "S start"
kind_text kind.Take = codes "T take"
kind_text kind.Check = codes "C check"
kind_text kind.Read = codes "R read"
kind_text kind.Upgrade = codes "U upgrade"
kind_text kind.Make = codes "A make"
kind_text kind.Write = codes "W write"
kind_text kind.Obsolete = codes "O obsolete"
kind_text kind.Unlock = codes "L unlock"
kind_text kind.Answer = codes "Q answer"
kind_text kind.Finish = codes "F finish"
kind_text kind.Reclaim = codes "X reclaim"

-- the slot that an event touches, or that it touches none
abbrev pub slot_text : Option ℕ → List ℕ
slot_text None = codes "-"
slot_text (Some slot) = decimal slot

-- whether an event succeeded
abbrev pub success_text : Bool → List ℕ
success_text true = codes "ok"
success_text false = codes "failed"

-- kind, slot and success; a step that is skipped has no kind
abbrev pub report_text : Event ℕ → Line → List ℕ
report_text event (Made report out seen) =
    kind_text report.kind ++ codes " " ++ slot_text report.slot ++ codes " " ++ success_text report.ok
report_text (Start id op) Skipped = codes "S start - skipped"
report_text (Step id env) Skipped = codes "- step - skipped"
report_text (Reclaim slot) Skipped = codes "X reclaim " ++ decimal slot ++ codes " skipped"

-- what a Read reports
abbrev pub full_text : Bool → List ℕ
full_text true = codes " full"
full_text false = []

abbrev pub seen_text : Option (Seen ℕ) → List ℕ
seen_text None = []
seen_text (Some s) = codes " sees " ++ join_with_byte 32 (words_of_child s.child)
    ++ codes " count " ++ decimal s.count ++ full_text s.full

-- what an event of this kind has beside its outcome: a Take the word, a Read what it reports, and an Answer what the
-- closure answers
abbrev pub found_text : Kind → ℕ → Env ℕ → Option (Seen ℕ) → List ℕ
found_text kind.Take word env seen = codes " word " ++ decimal word
found_text kind.Read word env seen = seen_text seen
found_text kind.Answer word env seen = codes " answer " ++ value_text env.answer
found_text _ word env seen = []

-- what comes of a step, if the call doesn't just go on; the decided calls are those from here on
abbrev pub outcome_text : Outcome ℕ → List Decision → List ℕ
outcome_text (Ask old) ds = codes " asks " ++ value_text old
outcome_text (Pair key value) ds = codes " pair " ++ decimal key ++ codes " " ++ decimal value
outcome_text (Decided reply) (d ∷ ds) = codes " decided " ++ reply_text d.op reply
outcome_text Refused ds = codes " refused"
outcome_text Done ds = codes " ended"
outcome_text out ds = []

-- the call that a Start begins, or what a step found and what came of it
abbrev pub details_text : Event ℕ → Line → List Decision → List ℕ
details_text (Start id op) line ds = codes " " ++ join_with_byte 32 (words_of_op op)
details_text (Step id env) (Made report out seen) ds =
    found_text report.kind report.word env seen ++ outcome_text out ds
details_text event line ds = []

-- THE LINE OF AN EVENT, the nth
abbrev pub event_line : ℕ → Event ℕ → Line → List Decision → List ℕ
event_line n event line ds = decimal n ++ codes " " ++ call_text event ++ codes " "
    ++ report_text event line ++ details_text event line ds
