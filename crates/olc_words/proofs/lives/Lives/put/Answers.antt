use Rattle.std.proofs.Common.{◌<◌, set, subst, sym, Option, Some, IsSome, ℕ, List}
use Rattle.olc_words.specs.Epoch.{entry_at}
use Rattle.olc_words.specs.declared.epoch.Life.{Life}
use Rattle.olc_words.specs.Lives.{lives_from, SetsLife}
use Rattle.olc_words.proofs.Places.{within, sets}
use Rattle.olc_words.proofs.lives.Lives.put.Goals as goal

pub index_mut-requires : goal.index_mut-requires
index_mut-requires c =
    let places = c.self.inside.places in
    let some = subst (λ (l : List (ℕ × Life)). IsSome (entry_at l c.args.slot)) (sym c.self.view_is) c.requires in
    subst (λ n. c.args.slot < n) (sym places.ok.0) (within places.items c.args.slot some)

pub returns : goal.returns
returns c =
    let places = c.self.inside.places in
    let slot = c.args.slot in
    let some = subst (λ (l : List (ℕ × Life)). IsSome (entry_at l slot)) (sym c.self.view_is) c.requires in
    subst (λ (l : List (ℕ × Life)). SetsLife l (lives_from 0 (set places.items slot c.of.result)) slot (Some c.args.life)) c.self.view_is
    (subst (λ (l : Option Life). SetsLife (lives_from 0 places.items) (lives_from 0 (set places.items slot c.of.result)) slot l) c.of.ensures
    (sets places.items slot c.of.result (within places.items slot some)))
