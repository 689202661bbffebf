-- ONE EVENT OF A CALL over the table of nodes: what it leaves to the call, to all others and of the
-- content, and what it does to what a reader sees. Each kind of events is proved to be of this form,
-- and a machine stays sound by it.
use Rattle.std.specs.Prelude.{◌≡◌, ℕ, ◌≤◌, Bool, length, Option, None, ◌⊎◌}
use Rattle.node_table.specs.Charge.{Charge}
use Rattle.spec_map.specs.Map.{Pairs, IsMap, put}
use Rattle.spec_olc.specs.Content.{IsContent}
use Rattle.spec_olc.specs.Deciding.{ContentAfter}
use Rattle.spec_olc.specs.Kinds.{DoesAs}
use Rattle.spec_olc.specs.State.{State, CallState}
use Rattle.spec_olc.specs.declared.types.Env.{Env}
use Rattle.spec_olc.specs.declared.types.Outcome.{Outcome}
use Rattle.spec_olc.specs.declared.types.Report.{Report}
use Rattle.spec_olc.specs.Lock.{IsFree}
use Rattle.olc_state.specs.declared.stage.Record.{Record}
use Rattle.olc_state.specs.inner.Facts.{Holding, Facts}
use Rattle.olc_state.specs.inner.Shown.{flight}
use Rattle.olc_state.specs.inner.Tables.{IsLinked, Guarantees, PrivateStays, NeedsHolder}
use Rattle.olc_state.specs.inner.Turns.{IsCourse, ShowsNodes}
use Rattle.olc_state.specs.inner.World.{PlacedNode, NodeMap}

-- how many nodes were retired, what is charged, and how many pairs are stored
pub record StoreCounts : Type 0 where
  pub count : ℕ
  pub charge : Option Charge
  pub entries : ℕ

module _ {M : Type 0} where
  abbrev pub counts_of : State M → StoreCounts
  counts_of s = record { count = s.count; charge = s.charge; entries = s.entries }

  -- a slot that a call holds from now on was empty, or had a free linked node
  pub record WasFree (t : NodeMap M) (s : ℕ) : Type 0 where
    pub node : PlacedNode M
    pub linked : IsLinked t s node
    pub free : IsFree node.word

  abbrev pub NewlyHeld : NodeMap M → ℕ → Type 0
  NewlyHeld t s = (t s ≡ None) ⊎ WasFree t s

  -- the state before, with other nodes and counts, and with this call of a number
  pub record IsAfter (s s' : State M) (id : ℕ) (next : CallState M) (books books' : StoreCounts)
      : Type 0 where
    pub was : counts_of s ≡ books
    pub is : s' ≡ record s {
      nodes = s'.nodes;
      count = books'.count;
      charge = books'.charge;
      entries = books'.entries;
      calls = put s.calls id next;
    }

-- If `Granted` holds, a share is always granted. `same` compares two payloads.
module _ {M : Type 0} (Granted : Type 0) (same : M → M → Bool) where
  -- what becomes of the content
  pub record IsOutcome (s s' : State M) (m : Pairs M) (call : CallState M) (out : Outcome M)
      (books books' : StoreCounts) : Type 0 where
    pub content : Pairs M
    pub content_is : IsContent s' content
    pub carries : ContentAfter same m content call out
    pub counted : books.entries ≡ length m → books'.entries ≡ length content

  pub record IsMove (t t' : NodeMap M) (root pin : ℕ) (books books' : StoreCounts) (call : Record M)
      (env : Env M) (next : Record M) (report : Report) (out : Outcome M) : Type 0 where
    pub facts : Facts Granted same t' root pin next
    pub counts : books.count ≤ books'.count
    pub others : (p : ℕ) → p ≤ books.count → Guarantees t t' (Holding call.stage) p
    pub privates : PrivateStays t t' (Holding call.stage)
    pub holds : (s : ℕ) → Holding next.stage s → Holding call.stage s ⊎ NewlyHeld t s
    pub holders : (s : ℕ) → NeedsHolder t' s
        → Holding next.stage s ⊎ (NeedsHolder t s × (Holding call.stage s → ⊥))
    pub course : IsCourse t t' root call env next report out
    pub does : (s s' : State M) (id : ℕ) → ShowsNodes t root s → ShowsNodes t' root s'
        → IsMap s.nodes → IsMap s'.nodes → IsAfter s s' id (flight pin next) books books'
        → DoesAs Granted same s s' id (flight pin call) env report out report.kind
    pub carries : (s s' : State M) → ShowsNodes t root s → ShowsNodes t' root s' → (m : Pairs M)
        → IsContent s m → IsOutcome s s' m (flight pin call) out books books'
