use Rattle.std.proofs.Common.{rules, ◌<◌, set, subst, sym, None, IsSome, ℕ, List}
use Rattle.olc_words.specs.Epoch.{entry_at}
use Rattle.olc_words.specs.Lives.{lives_from, SetsLife}
use Rattle.olc_words.specs.declared.epoch.Life.{Life}
use Rattle.olc_words.specs.declared.lives.Place.TheVariants.{Empty}
use Rattle.olc_words.proofs.Places.{within, sets}
use Rattle.olc_words.proofs.lives.Lives.remove.Goals as goal

pub index_mut-requires : goal.index_mut-requires
index_mut-requires c =
    let places = c.self.inside.places in
    let life : IsSome (entry_at c.args.self.now c.args.slot) = search rules in
    let some = subst (λ (l : List (ℕ × Life)). IsSome (entry_at l c.args.slot)) (sym c.self.view_is) life in
    subst (λ n. c.args.slot < n) (sym places.ok.0) (within places.items c.args.slot some)

pub returns-then-is_some-clause-gone : goal.returns-then-is_some-clause-gone
returns-then-is_some-clause-gone c =
    let places = c.self.inside.places in
    let slot = c.args.slot in
    let life : IsSome (entry_at c.args.self.now slot) = search rules in
    let some = subst (λ (l : List (ℕ × Life)). IsSome (entry_at l slot)) (sym c.self.view_is) life in
    subst (λ (l : List (ℕ × Life)). SetsLife l (lives_from 0 (set places.items slot Empty)) slot None) c.self.view_is (sets places.items slot Empty (within places.items slot some))
