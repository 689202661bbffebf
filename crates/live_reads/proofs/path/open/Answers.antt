use Rattle.std.proofs.Common.{sym, subst, ◌∙◌}
use Rattle.live_nodes.specs.Levels.{place_at}
use Rattle.live_reads.specs.Paths.{AreNamed}
use Rattle.live_reads.proofs.Views.{first_word, seen_of, seen_at, seen_keeps, seen_reads, seen_open}
use Rattle.live_reads.proofs.path.open.Goals as goal

pub take-taken-requires-clause-known : goal.take-taken-requires-clause-known
take-taken-requires-clause-known c =
    let v = c.args.seat.now.view in
    let n = c.requires.sighted in
    let b = c.args.nodes.now in
    let words = c.in_ok-words.words.now in
    let are = c.in_ok-words.ensures in
    let first = c.index-words-0.result in
    let at_k = (first_word (place_at n.spot) b words (seen_of v c.args.name n b words are) first first (sym c.index-words-0.is)).0 in
    seen_at v c.args.name n b words are first.key at_k

pub returns-then-taken-ne0 : goal.returns-then-taken-ne0
returns-then-taken-ne0 c =
    let v = c.args.seat.now.view in
    let n = c.requires.sighted in
    let b = c.args.nodes.now in
    let words = c.in_ok-words.words.now in
    let are = c.in_ok-words.ensures in
    let first = c.index-words-0.result in
    let at_k = (first_word (place_at n.spot) b words (seen_of v c.args.name n b words are) first first (sym c.index-words-0.is)).0 in
    let keeps = seen_keeps v c.args.name n b words are first.key at_k c.take-taken.new.seat.view c.take-taken.result c.take-taken.ensures.taken in
    let s = c.take-taken.ensures.seat in
    record { book = s.0; id = s.1; keeps = keeps.0; client = keeps.1; opened = tt; taken = tt }

pub returns : goal.returns
returns c =
    let v = c.args.seat.now.view in
    let n = c.requires.sighted in
    let b = c.args.nodes.now in
    let words = c.in_ok-words.words.now in
    let are = c.in_ok-words.ensures in
    let first = c.index-words-0.result in
    let at_k = (first_word (place_at n.spot) b words (seen_of v c.args.name n b words are) first first (sym c.index-words-0.is)).0 in
    let keeps = seen_keeps v c.args.name n b words are first.key at_k c.take-taken.new.seat.view c.take-taken.result c.take-taken.ensures.taken in
    let s = c.take-taken.ensures.seat in
    let book = sym (s.0 ∙ c.requires.book) in
    let here = subst (λ z. AreNamed z c.args.name words) book are in
    record {
      book = s.0;
      id = s.1;
      keeps = keeps.0;
      client = keeps.1;
      opened = (
        c.if-taken-ne0.false,
        λ m.
            (let at_m = (first_word (place_at m.spot) b words (seen_of v c.args.name m b words are) first first (sym c.index-words-0.is)).0 in
            seen_open v c.args.name m c.take-taken.new.seat.book words here first.key at_m c.take-taken.new.seat.view c.take-taken.result c.take-taken.ensures.taken),
      );
      taken = λ m.
          (let at_m = (first_word (place_at m.spot) b words (seen_of v c.args.name m b words are) first first (sym c.index-words-0.is)).0 in
          seen_reads v c.args.name m c.take-taken.new.seat.book words here first.key at_m c.take-taken.new.seat.view c.take-taken.result c.take-taken.ensures.taken);
    }
