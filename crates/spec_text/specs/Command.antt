-- The lines that are commands.
use Rattle.std.specs.Prelude.{ℕ, ◌+◌, ◌-◌, ◌≤◌, ◌^◌, List, [], ◌∷◌, codes, decimal, Option, Some, None, if◌then◌else◌, min, nat_lt}
use Rattle.spec_map.specs.Call.{Call, get, insert, remove, compare_exchange, compute_if_present, compute_or_insert, is_empty, range, keys, nearest, count, first, last, floor, ceiling}
use Rattle.spec_text.specs.Grammar.{Spells}
use Rattle.spec_text.specs.Value.{value_text}
use Rattle.spec_text.specs.declared.command.Command.{Command}
use Rattle.spec_text.specs.declared.command.Command.TheVariants.{Get, Insert, Remove, Exchange, Add, Put, Range, Keys, Empty, First, Last, Floor, Ceiling, Count}

-- the words of a command. A number is written in decimal, without a leading zero
abbrev pub words_of_command : Command → List (List ℕ)
words_of_command (Get key) = codes "get" ∷ decimal key ∷ []
words_of_command (Insert key value) = codes "insert" ∷ decimal key ∷ decimal value ∷ []
words_of_command (Remove key) = codes "remove" ∷ decimal key ∷ []
words_of_command (Exchange key old new) =
    codes "cas" ∷ decimal key ∷ decimal old ∷ value_text new ∷ []
words_of_command (Add key more) = codes "add" ∷ decimal key ∷ decimal more ∷ []
words_of_command (Put key more) = codes "put" ∷ decimal key ∷ decimal more ∷ []
words_of_command (Range start end limit) =
    codes "range" ∷ decimal start ∷ decimal end ∷ decimal limit ∷ []
words_of_command Keys = codes "keys" ∷ []
words_of_command Empty = codes "empty" ∷ []
words_of_command First = codes "first" ∷ []
words_of_command Last = codes "last" ∷ []
words_of_command (Floor key) = codes "floor" ∷ decimal key ∷ []
words_of_command (Ceiling key) = codes "ceiling" ∷ decimal key ∷ []
words_of_command Count = codes "count" ∷ []

-- at most 4096 pairs are asked for
abbrev pub CommandFits : Command → Type 0
CommandFits (Range start end limit) = limit ≤ 4096
CommandFits command = Unit {0}

-- the line is this command
abbrev pub SpellsCommand : List ℕ → Command → Type 0
SpellsCommand line command = Spells words_of_command CommandFits line command

-- the line is no command
abbrev pub IsNoCommand : List ℕ → Type 0
IsNoCommand line = (command : Command) → SpellsCommand line command → ⊥

-- the call that a command asks for
abbrev pub command_call : Command → Call ℕ ℕ
command_call (Get key) = get key
command_call (Insert key value) = insert key value
command_call (Remove key) = remove key
command_call (Exchange key old new) = compare_exchange key old new
command_call (Add key more) = compute_if_present key
command_call (Put key more) = compute_or_insert key
command_call (Range start end limit) = range start end limit
command_call Keys = keys
command_call Empty = is_empty
command_call First = nearest first
command_call Last = nearest last
command_call (Floor key) = nearest (floor key)
command_call (Ceiling key) = nearest (ceiling key)
command_call Count = count

-- the sum, where it has 64 bits
abbrev pub checked_sum : ℕ → ℕ → Option ℕ
checked_sum value more = if nat_lt (value + more) (2 ^ 64) then Some (value + more) else None

-- what `put` stores for a current value, or for none: the sum, which saturates at 2^64 - 1
abbrev pub put_sum : Option ℕ → ℕ → ℕ
put_sum None more = more
put_sum (Some value) more = min (value + more) (2 ^ 64 - 1)

-- what a command's closure answers to what it is handed: `add` the sum where it fits, and `put` its sum always
abbrev pub command_closure : Command → Option ℕ → Option ℕ
command_closure (Add key more) None = None
command_closure (Add key more) (Some value) = checked_sum value more
command_closure (Put key more) handed = Some (put_sum handed more)
command_closure command handed = None
