use Rattle.std.proofs.Common.{rules, ◌≡◌, List, ℕ, Option, None, Some, set, subst, sym}
use Rattle.olc_words.specs.Epoch.{admitted, entry_at}
use Rattle.olc_words.specs.Lives.{lives_from, SetsLife}
use Rattle.olc_words.specs.declared.epoch.Life.{Life}
use Rattle.olc_words.specs.declared.epoch.Life.TheVariants.{InUse}
use Rattle.olc_words.specs.declared.lives.Place.TheVariants.{Occupied}
use Rattle.olc_words.proofs.Places.{sets}
use Rattle.olc_words.proofs.lives.Lives.admit.Goals as goal

pub returns-in_ok-reach-clause-ok : goal.returns-in_ok-reach-clause-ok
returns-in_ok-reach-clause-ok c =
    let old = c.args.self.now in
    let slot = c.args.slot in
    let places = c.reach.new.places.items in
    let none : entry_at old slot ≡ None = search rules in
    let same : lives_from 0 places ≡ old = search rules in
    let made : SetsLife (lives_from 0 places) (lives_from 0 (set places slot Occupied)) slot (Some InUse) = sets places slot Occupied c.in_ok-reach.ensures.ok in
    subst (λ (l : Option Life). SetsLife old (lives_from 0 (set places slot Occupied)) slot (Some (admitted l))) (sym none)
    (subst (λ (l : List (ℕ × Life)). SetsLife l (lives_from 0 (set places slot Occupied)) slot (Some InUse)) same made)
