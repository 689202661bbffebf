use Rattle.std.proofs.Common.{rules, None, ◌≡◌, ◌≤◌, ◌∙◌, subst, refl}
use Rattle.live_reads.specs.Paths.{Names, Keeps}
use Rattle.live_reads.specs.Sees.{HasMet}
use Rattle.live_reads.specs.declared.prefix_match.PrefixMatch.TheVariants as prefix_matches
use Rattle.live_reads.proofs.Finds.{keeps_then, when_out}
use Rattle.live_copies.proofs.Finding.{sights_on}
use Rattle.live_copies.proofs.children.meet_some.Goals as goal
use Rattle.live_copies.proofs.children.meet_some.Goals.{After-meet}

-- a node was met
met : (c : After-meet) → (c.meet.new.seat.book ≡ c.args.seat.now.book) × (c.meet.new.seat.id ≡ c.args.seat.now.id) × Keeps c.args.seat.now.view c.meet.new.seat.view × (c.meet.new.seat.view.client.seen ≡ c.args.seat.now.view.client.seen)
met c = let i = c.loop.invariant in let t = c.meet.ensures in (t.book ∙ i.book, t.id ∙ i.id, keeps_then c.args.seat.now.view c.loop.seat.view c.meet.new.seat.view i.keeps t.keeps, t.seen ∙ i.seen)

pub meet-requires-clause-sighted : goal.meet-requires-clause-sighted
meet-requires-clause-sighted c = sights_on c.args.seat.now.view c.loop.seat.view c.args.name c.loop.invariant.keeps c.requires.sighted

pub returns-in_err-met : goal.returns-in_err-met
returns-in_err-met c =
    let a = met (goal.at.returns-in_err-met c).After-meet in
    let out : c.from_residual.result ≡ None = search rules in
    record { book = a.0; id = a.1; keeps = a.2; seen = a.3; child = when_out (λ x. Names c.meet.new.seat.view x.name x.key x.height × (1 ≤ x.height) × (x.byte ≡ c.args.byte)) c.from_residual.result out }

pub returns-in-Covers : goal.returns-in-Covers
returns-in-Covers c =
    let a = met (goal.at.returns-in-Covers c).After-meet in
    let w = c.meet.new.seat.view in
    let o = c.in_ok-met.met in
    let covers : o.prefix_match ≡ prefix_matches.Covers c.in-Covers.height = search rules in
    let is : HasMet w c.meet.new.seat.book o.here.words.now o.here.taken c.args.name c.loop.key (prefix_matches.Covers c.in-Covers.height) = subst (HasMet w c.meet.new.seat.book o.here.words.now o.here.taken c.args.name c.loop.key) covers c.in_ok-met.ensures.met in
    record { book = a.0; id = a.1; keeps = a.2; seen = a.3; child = (is.0.names, is.1, refl) }

pub loop-preserved : goal.loop-preserved
loop-preserved c = let a = met (goal.at.loop-preserved c).After-meet in record { book = a.0; id = a.1; keeps = a.2; seen = a.3 }
