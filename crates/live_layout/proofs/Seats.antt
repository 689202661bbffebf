-- A seat's steps, one after another.
use Rattle.std.proofs.Common.{◌≡◌, ap, ◌∙◌}
use Rattle.live_layout.specs.Words.{Stays}

module _ {D S : Type 0} {may : D → S → Type 0} {rest : D → S → S} {d : D} {s t u : S} where
  pub stays-then : Stays may rest d s t → Stays may rest d t u → Stays may rest d s u
  stays-then a b = record { still = b.still; others = b.others ∙ a.others }

  -- a seat that is as it was
  pub same-then : t ≡ s → Stays may rest d t u → Stays may rest d s u
  same-then e a = record { still = a.still; others = a.others ∙ ap (rest d) e }
