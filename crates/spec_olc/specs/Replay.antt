-- THE THEOREM ON REPLAYS: the trace is linearizable, and comes of a run of the protocol from the
-- root alone, without use after free, whose point calls are obstruction-free and whose ranges are scans.
use Rattle.std.specs.Prelude.{◌≡◌, ℕ, List, [], Option}
use Rattle.node_table.specs.Charge.{Charge}
use Rattle.spec_map.specs.Map.{Pairs}
use Rattle.spec_olc.specs.Alone.{AllEndAlone}
use Rattle.spec_olc.specs.Linearizable.{IsLinearizable}
use Rattle.spec_olc.specs.Runs.{Transition, fresh, IsMachineRun, events_in, lines_in, decided_in}
use Rattle.spec_olc.specs.Scans.{AllScan}
use Rattle.spec_olc.specs.Touching.{NoUseAfterFree}
use Rattle.spec_olc.specs.declared.trace.Decision.{Decision}
use Rattle.spec_olc.specs.declared.trace.Line.{Line}
use Rattle.spec_olc.specs.declared.types.Event.{Event}

-- A RUN OF THE PROTOCOL from the root alone, with these events, lines, decisions and content
pub record IsProtocolRun (events : List (Event ℕ)) (lines : List Line) (decided : List Decision)
    (content : Pairs ℕ) : Type 0 where
  pub root : ℕ
  pub charge : Option Charge
  pub entries : List Transition
  pub steps : IsMachineRun (fresh root charge) [] entries content
  pub events_are : events_in entries ≡ events
  pub lines_are : lines_in entries ≡ lines
  pub decided_are : decided_in (fresh root charge) entries ≡ decided

-- WHAT A REPLAY IS: these events have these lines and decisions, and leave this content
pub record IsReplayed (events : List (Event ℕ)) (lines : List Line) (decided : List Decision)
    (content : Pairs ℕ) : Type 0 where
  pub linearizable : IsLinearizable events lines decided content
  pub run : IsProtocolRun events lines decided content
  pub no_use_after_free : NoUseAfterFree run.root [] run.entries
  pub ends_alone : AllEndAlone (fresh run.root run.charge) run.entries
  pub scans : AllScan run.entries
