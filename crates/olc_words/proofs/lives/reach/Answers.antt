use Rattle.std.proofs.Common.{◌-◌, ◌≤◌, length, ap, ◌∙◌, arith}
use Rattle.olc_words.specs.Lives.{lives_from}
use Rattle.olc_words.proofs.Places.{grown}
use Rattle.olc_words.proofs.lives.reach.Goals as goal

pub returns-in_ok-resize-clause-lives : goal.returns-in_ok-resize-clause-lives
returns-in_ok-resize-clause-lives c =
    let places = c.args.places.now in
    let past : length places.items ≤ c.in-Some.len = grind arith in
    ap (lives_from 0) c.in_ok-resize.ensures.items ∙ grown places.items c.in-Some.len (c.in-Some.len - places.len) past
