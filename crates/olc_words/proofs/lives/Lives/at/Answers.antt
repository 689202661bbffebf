use Rattle.std.proofs.Common.{rules, ◌≡◌, ◌≤◌, length, get_or, ◌∙◌, sym, ap, arith}
use Rattle.olc_words.specs.declared.lives.Place.TheVariants.{Empty}
use Rattle.olc_words.specs.Lives.{life_in}
use Rattle.olc_words.proofs.Places.{by_index, outside}
use Rattle.olc_words.proofs.lives.Lives.at.Goals as goal

pub returns-in-Some : goal.returns-in-Some
returns-in-Some c =
    let places = c.self.inside.places.items in
    let read : c.in-Some.place.now ≡ get_or places c.args.slot Empty = search rules in
    rw (← c.self.view_is) (c.life.ensures ∙ (ap life_in read ∙ sym (by_index places c.args.slot)))

pub returns-in-None : goal.returns-in-None
returns-in-None c =
    let places = c.self.inside.places.items in
    let past : length places ≤ c.args.slot = grind arith in
    rw (← c.self.view_is) (sym (outside places c.args.slot past))
