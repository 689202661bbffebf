-- What a command is replied, in text and as a call.
use Rattle.std.specs.Prelude.{ℕ, List, [], ◌++◌, length, codes, decimal, Some, None}
use Rattle.std.specs.List.{flat_map}
use Rattle.spec_map.specs.Call.{ClosureCall, Answer, old_value, exchanged, computed, tested, listed, ranged, found, counted, replied, refused, Operation}
use Rattle.spec_text.specs.Command.{command_call, put_sum}
use Rattle.spec_text.specs.Value.{value_text, exchanged_text, computed_text, found_text, key_text, pair_text}
use Rattle.spec_text.specs.Answer.{test_text}
use Rattle.spec_text.specs.declared.command.Command.{Command}
use Rattle.spec_text.specs.declared.command.Command.TheVariants.{Add, Put}
use Rattle.text_run.specs.declared.reply.LineReply.{LineReply}
use Rattle.text_run.specs.declared.reply.LineReply.TheVariants.{Value, Before, Exchanged, Computed, Tested, Ranged, Listed, Found, Counted, Refused, BadLine}

-- the text of a reply
abbrev pub line_reply_text : LineReply → List ℕ
line_reply_text (Value value) = value_text value
line_reply_text (Before before) = codes "ok " ++ value_text before
line_reply_text (Exchanged result) = exchanged_text result
line_reply_text (Computed result) = computed_text result
line_reply_text (Tested b) = test_text b
line_reply_text (Ranged pairs) = decimal (length pairs.items) ++ flat_map pair_text pairs.items
line_reply_text (Listed keys) = decimal (length keys.items) ++ flat_map key_text keys.items
line_reply_text (Found pair) = found_text pair
line_reply_text (Counted n) = decimal n
line_reply_text Refused = codes "oom"
line_reply_text BadLine = codes "bad line"

-- its beginning, which is short: of a list its length
abbrev pub head_text : LineReply → List ℕ
head_text (Ranged pairs) = decimal (length pairs.items)
head_text (Listed keys) = decimal (length keys.items)
head_text (Value value) = line_reply_text (Value value)
head_text (Before before) = line_reply_text (Before before)
head_text (Exchanged r) = line_reply_text (Exchanged r)
head_text (Computed r) = line_reply_text (Computed r)
head_text (Tested b) = line_reply_text (Tested b)
head_text (Found pair) = line_reply_text (Found pair)
head_text (Counted n) = line_reply_text (Counted n)
head_text Refused = line_reply_text Refused
head_text BadLine = line_reply_text BadLine

-- and the rest: what a list holds
abbrev pub items_text : LineReply → List ℕ
items_text (Ranged pairs) = flat_map pair_text pairs.items
items_text (Listed keys) = flat_map key_text keys.items
items_text reply = []

-- the outcome of the call, if there was one
abbrev pub reply_answer : LineReply → Answer ℕ ℕ ℕ
reply_answer (Value value) = replied (old_value value)
reply_answer (Before before) = replied (old_value before)
reply_answer (Exchanged r) = replied (exchanged r)
reply_answer (Computed r) = replied (computed r)
reply_answer (Tested b) = replied (tested b)
reply_answer (Ranged pairs) = replied (ranged pairs.items)
reply_answer (Listed keys) = replied (listed keys.items)
reply_answer (Found pair) = replied (found pair)
reply_answer (Counted n) = replied (counted n)
reply_answer Refused = refused
reply_answer BadLine = refused

-- what the closure of a command that was replied so was asked and answered, if it was called
abbrev pub reply_asked : Command → LineReply → ClosureCall ℕ
reply_asked (Add key more) (Computed (Some (old, new))) = Some (Some old, new)
reply_asked (Put key more) (Before before) = Some (before, Some (put_sum before more))
reply_asked command reply = None

-- the operation of a command: its call, the closure call, and the outcome
abbrev pub reply_operation : Command → LineReply → Operation ℕ ℕ ℕ
reply_operation command reply = record {
  call = command_call command;
  asked = reply_asked command reply;
  answer = reply_answer reply;
}
