-- What the program is asked for, and how it ends.
use Rattle.std.specs.Prelude.{◌≡◌, ℕ, ◌<◌, ◌^◌, ◌⊎◌, Bool, true, false, List, [], ◌∷◌, Option, Some, None, Result, Ok, Err, codes, decimal}
use Rattle.std.specs.List.{flat_map}
use Rattle.spec_map.specs.Map.{Pairs}
use Rattle.spec_text.specs.Lines.{ended}
use Rattle.text_lines.specs.Watched.{Stream, SendsTo, SendsPart}
use Rattle.text_trace.specs.declared.detail.Detail.{Detail}
use Rattle.text_trace.specs.declared.detail.Detail.TheVariants.{Outcomes, Events, Contents}
use Rattle.text_schedule.specs.declared.schedule.ScheduleError.{ScheduleError}
use Rattle.text_schedule.specs.declared.schedule.ScheduleError.TheVariants as schedule
use Rattle.text_run.specs.declared.run.RunError.{RunError}
use Rattle.text_run.specs.declared.run.RunError.TheVariants as run

-- the words after the program's name ask for a run, with this limit if there is one, and for statistics at its end or not
abbrev pub AsksRun : List (List ℕ) → Option ℕ → Bool → Type 0
AsksRun words None false = words ≡ codes "run" ∷ []
AsksRun words None true = words ≡ codes "run" ∷ codes "--stats" ∷ []
AsksRun words (Some limit) false = (words ≡ codes "run" ∷ decimal limit ∷ []) × (limit < 2 ^ 64)
AsksRun words (Some limit) true =
    (words ≡ codes "run" ∷ codes "--stats" ∷ decimal limit ∷ []) × (limit < 2 ^ 64)

-- they ask for a schedule, whose text is to be written in this detail
abbrev pub AsksSchedule : List (List ℕ) → Detail → Type 0
AsksSchedule words Outcomes = words ≡ codes "schedule" ∷ []
AsksSchedule words Events = words ≡ codes "trace" ∷ []
AsksSchedule words Contents = words ≡ codes "trace" ∷ codes "--content" ∷ []

-- they ask for the lines of a run
abbrev pub AsksHelp : List (List ℕ) → Type 0
AsksHelp words = words ≡ codes "run" ∷ codes "--help" ∷ []

-- they ask for something else
abbrev pub AsksNothing : List (List ℕ) → Type 0
AsksNothing words =
    ((limit : Option ℕ) (stats : Bool) → AsksRun words limit stats → ⊥) × (AsksHelp words → ⊥)
    × ((detail : Detail) → AsksSchedule words detail → ⊥)

-- the lines of a run, one after another
abbrev pub help_text : List ℕ
help_text = flat_map ended (
    codes "get K            the value at K, or none" ∷
    codes "insert K V       sets the value at K: ok and the value before, or oom" ∷
    codes "remove K         takes K out: the value before" ∷
    codes "cas K OLD NEW    where OLD is the value at K, puts NEW there (none takes K out): ok and NEW, or err and the value" ∷
    codes "add K D          adds D to the value at K (past 64 bits takes K out): the value before, and the sum" ∷
    codes "put K D          adds D to the value at K, up to 18446744073709551615, or sets D: ok and the value before, or oom" ∷
    codes "range A B N      the first N pairs with keys from A on and below B, 4096 at most: how many, and each as K=V" ∷
    codes "keys             all keys: how many, and each" ∷
    codes "empty            whether there is no key: true or false" ∷
    codes "count            how many keys there are" ∷
    codes "first            the pair of the least key, as K=V, or none" ∷
    codes "last             the pair of the greatest key" ∷
    codes "floor K          the pair of the greatest key that is at most K" ∷
    codes "ceiling K        the pair of the least key that is at least K" ∷ [])

-- the exit status after that text, of which a first part was written where a write failed
abbrev pub Helps : {W : Type 0} → (W → Option (List ℕ)) → Stream W → Stream W → ℕ → Type 0
Helps contents output output' status =
    ((status ≡ 0) × SendsTo contents output output' help_text [] × (output'.failed ≡ output.failed))
    ⊎ ((status ≡ 1) × SendsPart contents output output' help_text × (output'.failed ≡ true))

-- the exit statuses
abbrev pub run_status : Result (Pairs ℕ) RunError → ℕ
run_status (Ok map) = 0
run_status (Err run.Read) = 1
run_status (Err run.Write) = 1
run_status (Err run.Oom) = 3

abbrev pub schedule_status : Result (Unit {0}) ScheduleError → ℕ
schedule_status (Ok done) = 0
schedule_status (Err schedule.Read) = 1
schedule_status (Err schedule.Write) = 1
schedule_status (Err schedule.Oom) = 3
schedule_status (Err (schedule.Line n)) = 4
schedule_status (Err schedule.Events) = 4
