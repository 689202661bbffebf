use Rattle.std.proofs.Common.{Some, None, ◌≡◌, ℕ, [], Option}
use Rattle.spec_olc.specs.Linearizable.{just_started, none_pending, with_pending}
use Rattle.spec_olc.proofs.LinearBreaks.{breaks_early, breaks_late, breaks_twice, breaks_unanswered, is_decision, asks_current, gives_current}
use Rattle.spec_olc.proofs.laws.what_breaks_linearizability.Goals as goal

pub returns-clause-early : goal.returns-clause-early
returns-clause-early c = λ events lines decided content id env report out seen r. breaks_early none_pending events lines decided [] content id env report seen out r

pub returns-clause-late : goal.returns-clause-late
returns-clause-late c = λ events lines decided content id op env env' a b c begins out x y z r.
    breaks_late (with_pending none_pending id (Some (just_started op))) events lines decided [] content id env env' b c y z out r.2

pub returns-clause-twice : goal.returns-clause-twice
returns-clause-twice c = λ events lines decided content id op env env' a b c begins reply reply' x y z r.
    breaks_twice (with_pending none_pending id (Some (just_started op))) events lines decided [] content id env env' b c y z reply reply' r.2

pub returns-clause-undecided : goal.returns-clause-undecided
returns-clause-undecided c = λ events lines decided content id op env a b begins x y point r.
    breaks_unanswered none_pending events lines decided [] content id env b y op point r.2

pub returns-clause-decision : goal.returns-clause-decision
returns-clause-decision c = λ events lines d decided content id op env a b begins reply x y r.
    is_decision none_pending events lines decided [] content id env b y op reply d r.2

pub returns-clause-question : goal.returns-clause-question
returns-clause-question c = λ events lines decided content id op env a b begins old x y r. asks_current none_pending events lines decided [] content id env b y op old r.2

no_value : (value : ℕ) → (let none : Option ℕ = None in none ≡ Some value) → ⊥
no_value value e = cc

pub returns-clause-pair : goal.returns-clause-pair
returns-clause-pair c = λ events lines decided content id op env a b begins key value x y r. no_value value (gives_current none_pending events lines decided [] content id env b y op key value r.2)
