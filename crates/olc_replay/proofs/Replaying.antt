-- From the events that were made one by one to the theorem on the whole run.
use Rattle.std.proofs.Common.{◌≡◌, ℕ, ◌^◌, ◌<◌, List, [], Option, None, refl, sym, subst, ap, ◌∙◌}
use Rattle.node_table.specs.Charge.{Charge}
use Rattle.spec_map.specs.Map.{Pairs, lookup}
use Rattle.spec_olc.proofs.Scanning.{all_scan}
use Rattle.spec_olc.specs.Alone.{AllEndAlone}
use Rattle.spec_olc.specs.Content.{IsContent}
use Rattle.spec_olc.specs.Linearizable.{IsLinearizable}
use Rattle.spec_olc.specs.Replay.{IsReplayed}
use Rattle.spec_olc.specs.Runs.{Transition, fresh, IsMachineRun, same_number, events_in, lines_in, decided_in}
use Rattle.spec_olc.specs.State.{State}
use Rattle.spec_olc.specs.declared.trace.Decision.{Decision}
use Rattle.spec_olc.specs.declared.trace.Line.{Line}
use Rattle.spec_olc.specs.declared.types.Event.{Event}
use Rattle.olc_state.specs.inner.Facts.{IsSoundWorld}
use Rattle.olc_state.specs.inner.Shown.{state_of}
use Rattle.olc_state.specs.inner.World.{World, record_of}
use Rattle.olc_replay.specs.inner.Played.{transitions_of, SoFar}
use Rattle.olc_replay.proofs.Alone.{all_end}
use Rattle.olc_replay.proofs.Flying.{no_call}
use Rattle.olc_replay.proofs.Linear.{linearizes}
use Rattle.olc_replay.proofs.Playing.{run_of}
use Rattle.olc_replay.proofs.Standing.{content_once, fresh_content}
use Rattle.olc_replay.proofs.Touching.{all_touch}

-- a fresh machine has no content, and no event was made so far
pub so_far_fresh : (first : World ℕ) (root : ℕ) (charge : Option Charge) (events : List (Event ℕ)) (lines : List Line) (decided : List Decision) → state_of first ≡ fresh root charge
    → events ≡ [] → lines ≡ [] → decided ≡ [] → SoFar first events lines decided first
so_far_fresh first root charge events lines decided is no_event no_line no_decision = record {
  moves = [];
  content = [];
  are_moves = (refl, refl);
  content_is = subst (λ (s : State ℕ). IsContent s []) (sym is) (fresh_content root charge);
  events_are = sym no_event;
  lines_are = sym no_line;
  decided_are = sym no_decision;
}

-- THE THEOREM ON RUNS: what was made one by one from a fresh machine on is a replay.
pub replayed : (first last : World ℕ) (root : ℕ) (charge : Option Charge) (events : List (Event ℕ)) (lines : List Line) (decided : List Decision) (content : Pairs ℕ)
    → state_of first ≡ fresh root charge → IsSoundWorld (Unit {0}) same_number first → SoFar first events lines decided last → IsContent (state_of last) content → IsReplayed events lines decided content
replayed first last root charge events lines decided content is sound so_far at_key =
    let entries : List Transition = transitions_of so_far.moves in
    let same : so_far.content ≡ content = content_once (state_of last) so_far.content content so_far.content_is at_key in
    let run : IsMachineRun (fresh root charge) [] entries content =
    subst (λ (s : State ℕ). IsMachineRun s [] entries content) is
    (subst (λ (n : Pairs ℕ). IsMachineRun (state_of first) [] entries n) same (run_of first [] so_far.moves last so_far.content sound so_far.are_moves)) in
    let decided_is : decided_in (fresh root charge) entries ≡ decided = ap (λ (s : State ℕ). decided_in s entries) (sym is) ∙ so_far.decided_are in
    let none : (id : ℕ) → id < 2 ^ 64 → record_of first id ≡ None = λ id small. no_call first id sound small (ap (λ (s : State ℕ). lookup s.calls id) is) in
    let linear : IsLinearizable events lines decided content =
    subst (λ (es : List (Event ℕ)). IsLinearizable es lines decided content) so_far.events_are
    (subst (λ (ls : List Line). IsLinearizable (events_in entries) ls decided content) so_far.lines_are
    (subst (λ (ds : List Decision). IsLinearizable (events_in entries) (lines_in entries) ds content) decided_is (linearizes root charge entries content run))) in
    record {
      linearizable = linear;
      run = record {
        root = root;
        charge = charge;
        entries = entries;
        steps = run;
        events_are = so_far.events_are;
        lines_are = so_far.lines_are;
        decided_are = decided_is;
      };
      no_use_after_free = all_touch root first [] so_far.moves last so_far.content sound (ap (λ (s : State ℕ). s.root) is) none so_far.are_moves;
      ends_alone = subst (λ (s : State ℕ). AllEndAlone s entries) is
          (all_end first [] so_far.moves last so_far.content sound so_far.are_moves);
      scans = all_scan (fresh root charge) [] entries content run;
    }
