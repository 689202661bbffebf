-- Replies and their texts.
use Rattle.std.proofs.Common.{◌≡◌, ℕ, List, [], ◌∷◌, ◌++◌, nat_eq, Some, refl, append-nil}
use Rattle.spec_map.specs.Map.{Pairs}
use Rattle.spec_map.specs.Legal.{IsLegal, AnswersBy}
use Rattle.spec_map.specs.Refusal.{at_new_node}
use Rattle.spec_text.specs.declared.command.Command.{Command}
use Rattle.text_run.specs.declared.reply.LineReply.{LineReply}
use Rattle.text_run.specs.declared.reply.LineReply.TheVariants.{Value, Before, Exchanged, Computed, Tested, Ranged, Listed, Found, Counted, Refused, BadLine}
use Rattle.spec_text.specs.Answer.{answer_text}
use Rattle.spec_text.specs.Command.{SpellsCommand, command_closure}
use Rattle.text_run.specs.inner.Replied.{line_reply_text, head_text, items_text, reply_answer, reply_asked, reply_operation}
use Rattle.text_run.specs.inner.Answers.{AnswersLine}

-- the two parts of a text
pub head_items : (reply : LineReply) → head_text reply ++ items_text reply ≡ line_reply_text reply
head_items (Value value) = append-nil _
head_items (Before before) = append-nil _
head_items (Exchanged r) = append-nil _
head_items (Computed r) = append-nil _
head_items (Tested b) = append-nil _
head_items (Ranged pairs) = refl
head_items (Listed keys) = refl
head_items (Found pair) = append-nil _
head_items (Counted n) = append-nil _
head_items Refused = append-nil _
head_items BadLine = append-nil _

-- a command that was executed
pub answers_line : (m n : Pairs ℕ) (line : List ℕ) (command : Command) → SpellsCommand line command → (reply : LineReply) → line_reply_text reply ≡ answer_text command (reply_answer reply)
    → AnswersBy (command_closure command) (reply_asked command reply) → IsLegal nat_eq at_new_node m (reply_operation command reply ∷ []) n → AnswersLine m line (line_reply_text reply) n
answers_line m n line command parses reply text closure legal = record {
  done = Some (reply_operation command reply);
  answered = record { command = command; parses = parses; asks = refl; closure = closure; answers = text };
  legal = legal;
}
