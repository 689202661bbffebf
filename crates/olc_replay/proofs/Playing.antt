-- From what is inside after each event to a run.
use Rattle.std.proofs.Common.{◌≡◌, ℕ, List, [], ◌∷◌, ◌++◌, Option, IsSome, refl, sym, subst, ap, ◌∙◌, append_assoc}
use Rattle.spec_map.specs.Map.{Pairs}
use Rattle.spec_olc.specs.Content.{IsContent}
use Rattle.spec_olc.specs.Runs.{Happens, IsMachineRun, IsHistory, same_number, decided_at, decided_by, decided_in, events_in, lines_in}
use Rattle.spec_olc.specs.State.{State, CallState}
use Rattle.spec_olc.specs.declared.trace.Decision.{Decision}
use Rattle.spec_olc.specs.declared.trace.Line.{Line}
use Rattle.spec_olc.specs.declared.trace.Line.TheVariants.{Done as Made, Skipped}
use Rattle.spec_olc.specs.declared.types.Event.{Event}
use Rattle.spec_olc.specs.declared.types.Event.TheVariants.{Start, Step, Reclaim}
use Rattle.olc_state.specs.inner.Facts.{IsSoundWorld}
use Rattle.olc_state.specs.inner.Shown.{state_of}
use Rattle.olc_state.specs.inner.World.{World}
use Rattle.olc_replay.specs.inner.Played.{Plays, Move, transitions_of, IsPlayedMove, AreMoves, SoFar}
use Rattle.olc_replay.proofs.Histories.{carried}
use Rattle.olc_state.proofs.Changes.{same_content}
use Rattle.olc_state.proofs.Formed.{well_formed}

-- what is inside after an event is sound if it was before
pub sound_next : (old new : World ℕ) (event : Event ℕ) (line : Line) → IsSoundWorld (Unit {0}) same_number old → Plays old event line new → IsSoundWorld (Unit {0}) same_number new
sound_next old new event Skipped sound p = subst (λ (w : World ℕ). IsSoundWorld (Unit {0}) same_number w) (sym p.1) sound
sound_next old new (Start id op) (Made report out seen) sound p = p.0.after
sound_next old new (Step id env) (Made report out seen) sound p = p.0.after
sound_next old new (Reclaim slot) (Made report out seen) sound p = p.0.after

pub happens : (old new : World ℕ) (event : Event ℕ) (line : Line) → Plays old event line new → Happens (state_of old) event line (state_of new)
happens old new event Skipped p = (p.0, ap state_of p.1)
happens old new (Start id op) (Made report out seen) p = (p.0.start.free, (p.0.start, p.1, p.2))
happens old new (Step id env) (Made report out seen) p =
    (subst (λ (f : Option (CallState ℕ)). IsSome f) (sym p.0.step.in_flight) refl, (p.0.step, p.1))
happens old new (Reclaim slot) (Made report out seen) p = (p.0.reclaim.may, (p.0.reclaim, p.1, p.2))

-- how an event changes the content
pub record Told (m : Pairs ℕ) (decided : List Decision) (new : World ℕ) : Type 0 where
  pub after : Pairs ℕ
  pub history : IsHistory m decided after
  pub content : IsContent (state_of new) after

untold : (old new : World ℕ) (m : Pairs ℕ) → IsContent (state_of old) m → new ≡ old → Told m [] new
untold old new m c e = record { after = m; history = refl; content = subst (λ (w : World ℕ). IsContent (state_of w) m) (sym e) c }

pub shows : (old new : World ℕ) (event : Event ℕ) (line : Line) (m : Pairs ℕ) → IsContent (state_of old) m → Plays old event line new → Told m (decided_at (state_of old) event line) new
shows old new (Start id op) Skipped m c p = untold old new m c p.1
shows old new (Step id env) Skipped m c p = untold old new m c p.1
shows old new (Reclaim slot) Skipped m c p = untold old new m c p.1
shows old new (Start id op) (Made report out seen) m c p = record {
  after = m;
  history = refl;
  content = same_content (state_of old) (state_of new) (ap (λ (s : State ℕ). s.nodes) p.0.start.after) (ap (λ (s : State ℕ). s.root) p.0.start.after) m c;
}
shows old new (Step id env) (Made report out seen) m c p =
    let k = p.0.carries m c in
    record {
      after = k.content;
      history = subst (λ (f : Option (CallState ℕ)). IsHistory m (decided_by id f out) k.content) (sym k.in_flight) (carried m k.content id k.call out k.carries);
      content = k.content_is;
    }
shows old new (Reclaim slot) (Made report out seen) m c p = record { after = m; history = refl; content = p.0.carries m c }

-- one event more
moves_more : (old : World ℕ) (m : Pairs ℕ) (xs : List Move) (now : World ℕ) (n : Pairs ℕ) (x : Move) → AreMoves old m xs now n → IsPlayedMove now n x → AreMoves old m (xs ++ x ∷ []) x.inside x.content
moves_more old m [] now n x are is =
    (subst (λ (w : World ℕ). IsPlayedMove w m x) are.0 (subst (λ (c : Pairs ℕ). IsPlayedMove now c x) are.1 is), (refl, refl))
moves_more old m (y ∷ xs) now n x are is = (are.0, moves_more y.inside y.content xs now n x are.1 is)

events_more : (xs : List Move) (x : Move) → events_in (transitions_of (xs ++ x ∷ [])) ≡ events_in (transitions_of xs) ++ x.event ∷ []
events_more [] x = refl
events_more (y ∷ xs) x = ap (λ l. y.event ∷ l) (events_more xs x)

lines_more : (xs : List Move) (x : Move) → lines_in (transitions_of (xs ++ x ∷ [])) ≡ lines_in (transitions_of xs) ++ x.line ∷ []
lines_more [] x = refl
lines_more (y ∷ xs) x = ap (λ l. y.line ∷ l) (lines_more xs x)

append_none : {X : Type 0} (xs : List X) → xs ++ [] ≡ xs
append_none [] = refl
append_none (x ∷ xs) = ap (λ l. x ∷ l) (append_none xs)

decided_more : (old : World ℕ) (m : Pairs ℕ) (xs : List Move) (now : World ℕ) (n : Pairs ℕ) (x : Move) → AreMoves old m xs now n
    → decided_in (state_of old) (transitions_of (xs ++ x ∷ [])) ≡ decided_in (state_of old) (transitions_of xs) ++ decided_at (state_of now) x.event x.line
decided_more old m [] now n x are = append_none (decided_at (state_of old) x.event x.line) ∙ ap (λ (w : World ℕ). decided_at (state_of w) x.event x.line) (sym are.0)
decided_more old m (y ∷ xs) now n x are =
    ap (λ l. decided_at (state_of old) y.event y.line ++ l) (decided_more y.inside y.content xs now n x are.1)
    ∙ sym (append_assoc (decided_at (state_of old) y.event y.line) (decided_in (state_of y.inside) (transitions_of xs)) (decided_at (state_of now) x.event x.line))

pub so_far_more : (first now new : World ℕ) (events events' : List (Event ℕ)) (lines lines' : List Line) (decided decided' : List Decision) (event : Event ℕ) (line : Line)
    → SoFar first events lines decided now → Plays now event line new → events' ≡ events ++ event ∷ [] → lines' ≡ lines ++ line ∷ []
    → decided' ≡ decided ++ decided_at (state_of now) event line → SoFar first events' lines' decided' new
so_far_more first now new events events' lines lines' decided decided' event line so_far plays events_are lines_are decided_are =
    let told = shows now new event line so_far.content so_far.content_is plays in
    let x : Move = record { event = event; line = line; inside = new; content = told.after } in
    record {
      moves = so_far.moves ++ x ∷ [];
      content = told.after;
      are_moves = moves_more first [] so_far.moves now so_far.content x so_far.are_moves (record { plays = plays; history = told.history; content = told.content });
      content_is = told.content;
      events_are = events_more so_far.moves x ∙ (ap (λ l. l ++ event ∷ []) so_far.events_are ∙ sym events_are);
      lines_are = lines_more so_far.moves x ∙ (ap (λ l. l ++ line ∷ []) so_far.lines_are ∙ sym lines_are);
      decided_are = decided_more first [] so_far.moves now so_far.content x so_far.are_moves
          ∙ (ap (λ l. l ++ decided_at (state_of now) event line) so_far.decided_are ∙ sym decided_are);
    }

sound_last : (old : World ℕ) (m : Pairs ℕ) (xs : List Move) (new : World ℕ) (n : Pairs ℕ) → IsSoundWorld (Unit {0}) same_number old → AreMoves old m xs new n → IsSoundWorld (Unit {0}) same_number new
sound_last old m [] new n sound are = subst (λ (w : World ℕ). IsSoundWorld (Unit {0}) same_number w) (sym are.0) sound
sound_last old m (x ∷ xs) new n sound are = sound_last x.inside x.content xs new n (sound_next old x.inside x.event x.line sound are.0.plays) are.1

-- what is inside so far is sound
pub sound_so_far : (first now : World ℕ) (events : List (Event ℕ)) (lines : List Line) (decided : List Decision) → IsSoundWorld (Unit {0}) same_number first → SoFar first events lines decided now → IsSoundWorld (Unit {0}) same_number now
sound_so_far first now events lines decided sound so_far = sound_last first [] so_far.moves now so_far.content sound so_far.are_moves

-- A RUN: a machine that is sound inside is well formed.
pub run_of : (old : World ℕ) (m : Pairs ℕ) (xs : List Move) (new : World ℕ) (n : Pairs ℕ) → IsSoundWorld (Unit {0}) same_number old → AreMoves old m xs new n → IsMachineRun (state_of old) m (transitions_of xs) n
run_of old m [] new n sound are = are.1
run_of old m (x ∷ xs) new n sound are =
    let next : IsSoundWorld (Unit {0}) same_number x.inside = sound_next old x.inside x.event x.line sound are.0.plays in (
      record { happens = happens old x.inside x.event x.line are.0.plays; history = are.0.history; content = are.0.content; well_formed = well_formed (Unit {0}) same_number x.inside next },
      run_of x.inside x.content xs new n next are.1,
    )
