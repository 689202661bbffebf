use Rattle.std.proofs.Common.{ℕ, ◌≡◌, ◌<◌, length, subst, sym, IsSome, List, ◌∙◌}
use Rattle.olc_words.specs.Epoch.{entry_at}
use Rattle.olc_words.specs.declared.epoch.Life.{Life}
use Rattle.olc_words.proofs.Places.{within}
use Rattle.olc_words.proofs.lives.Lives.end.Goals as goal

pub returns : goal.returns
returns c =
    let places = c.self.inside.places in
    let len : length places.items ≡ c.len.result = sym (c.len.ensures ∙ places.ok.0) in
    subst (λ (l : List (ℕ × Life)). (slot : ℕ) → IsSome (entry_at l slot) → slot < c.len.result) c.self.view_is (λ slot some. subst (λ n. slot < n) len (within places.items slot some))
