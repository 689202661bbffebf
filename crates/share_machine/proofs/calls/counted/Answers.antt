use Rattle.std.proofs.Common.{◌≡◌, ◌+◌, ◌≤◌, length, sym, subst, ap, ◌∙◌}
use Rattle.spec_olc.specs.Meaning.{env_of}
use Rattle.spec_olc.specs.Seats.{IsHanded}
use Rattle.spec_olc.specs.declared.types.Outcome.{Outcome}
use Rattle.spec_olc.specs.declared.types.Outcome.TheVariants.{Unknown}
use Rattle.share_backend.specs.Changing.{added, taken, reply_in, IsReply}
use Rattle.share_backend.proofs.Counting.{few}
use Rattle.share_machine.proofs.Stepping.{change_by, step_counts, step_fits, not_not, not_not_fits, counts_by}
use Rattle.share_machine.proofs.calls.counted.Goals as goal

pub returns-clause-counts : goal.returns-clause-counts
returns-clause-counts g c =
    let old = c.args.machine.now in
    let new = c.step-outcome.new.self in
    let op = c.args.op.now in
    let out = c.step-outcome.result.1 in
    let there = c.entry_count.ensures.content in
    let later = c.entry_count-2.ensures.content in
    let counted : old.entries ≡ length there.0 = sym c.entry_count.ensures.count ∙ there.2 in
    let size : new.entries ≡ length later.0 = sym c.entry_count-2.ensures.count ∙ later.2 in
    let step = step_counts g.P.HasMeaning.meaning g.P.Payload.always_shared g.P.HasMeaning.same_meaning old new c.args.id op (env_of g.P.HasMeaning.meaning c.args.env) c.step-outcome.result.0 in
    let fits = step_fits g.P.HasMeaning.meaning g.P.Payload.always_shared g.P.HasMeaning.same_meaning old new c.args.id op (env_of g.P.HasMeaning.meaning c.args.env) c.step-outcome.result.0 in
    let by_count =
    not_not (new.entries + taken (change_by op (reply_in out))) (old.entries + added (change_by op (reply_in out))) (λ not.
    let never : IsHanded old c.args.id op → ⊥ = λ h.
    not (step h there.0 there.1 counted c.law_well_formed.ensures c.calls_are_whole.ensures out (c.step-outcome.ensures.event h) (c.step-outcome.ensures.content h there.0 there.1)) in
    let unknown : out ≡ Unknown = c.step-outcome.ensures.known.1 never in
    not (subst (λ (o : Outcome g.row.P.Denot). new.entries + taken (change_by op (reply_in o)) ≡ old.entries + added (change_by op (reply_in o))) (sym unknown)
    (ap (λ s. s.entries + 0) (c.step-outcome.ensures.unknown unknown)))) in
    let by_kind =
    not_not_fits op (reply_in out) (λ not.
    let never : IsHanded old c.args.id op → ⊥ = λ h.
    not (fits h there.0 there.1 counted c.law_well_formed.ensures c.calls_are_whole.ensures out (c.step-outcome.ensures.event h) (c.step-outcome.ensures.content h there.0 there.1)) in
    let unknown : out ≡ Unknown = c.step-outcome.ensures.known.1 never in
    not (subst (λ (o : Outcome g.row.P.Denot). IsReply op (reply_in o)) (sym unknown) tt)) in
    counts_by op (reply_in out) old.entries new.entries by_count (subst (λ n. n ≤ 18446744073709551616) (sym size) (few later.0 later.1.map)) by_kind
