-- What the callers' histories are.
use Rattle.std.proofs.Common.{◌≡◌, ℕ, nat_eq, List, [], ◌∷◌, ◌++◌, Option, Some, None, refl, sym, ap, subst, ◌∙◌}
use Rattle.std.specs.Option.{option_map}
use Rattle.spec_map.specs.Map.{Pairs}
use Rattle.share_laws.specs.Keys.{AllLeave, finds, inserts}
use Rattle.share_rule.specs.History.{Entry, IsHistory}
use Rattle.live_nodes.specs.Known.{Known, MadeCall}
use Rattle.live_nodes.specs.Views.{ask, got, inserted}
use Rattle.live_reads.specs.Meetings.{SeenMore}
use Rattle.example_live.specs.Callers.{HandedOver}

-- a number is read back as itself
pub same_option : (x : Option ℕ) → option_map (λ n. n) x ≡ x
same_option None = refl
same_option (Some n) = refl

joined : {X : Type 0} (a rest more : List X) (e g : X) → (((a ++ e ∷ []) ++ rest) ++ more) ++ g ∷ [] ≡ a ++ (e ∷ ((rest ++ more) ++ g ∷ []))
joined [] rest more e g = refl
joined (x ∷ a) rest more e g = ap (λ l. x ∷ l) (joined a rest more e g)

-- the law of a `get` that finds what was inserted
abbrev pub FindsIt : Type 0
FindsIt = (first middle : List (Entry ℕ)) (a b key : ℕ) (value : ℕ) (before found : Option ℕ) (m : Pairs ℕ)
    → IsHistory nat_eq (first ++ (inserts a key value before ∷ (middle ++ finds b key found ∷ []))) m → AllLeave key middle → found ≡ Some value

-- an insertion, a meeting, and the other's look-up
pub handed : (key value : ℕ) → FindsIt → (k0 k1 k2 t0 t1 t2 : Known) (before found : Option ℕ) → MadeCall k0 (inserted (ask k0.caller key value 1) before) k1 → SeenMore k1 k2 → SeenMore t0 t1
    → k2.seen ≡ t1.seen → MadeCall t1 (got (ask t1.caller key 0 0) found) t2 → HandedOver k0.caller t0.caller key value found t2.seen
handed key value law k0 k1 k2 t0 t1 t2 before found put more other one look =
    let first = k0.seen ++ put.between in
    let rest = more.seen.0 in
    let seen : t1.seen ≡ (first ++ inserts k0.caller key value before ∷ []) ++ rest = sym one ∙ (more.seen.1 ∙ ap (λ (l : List (Entry ℕ)). l ++ rest) put.seen) in
    let is : t2.seen ≡ first ++ (inserts k0.caller key value before ∷ ((rest ++ look.between) ++ finds t0.caller key found ∷ [])) =
    look.seen
    ∙ (ap (λ (l : List (Entry ℕ)). (l ++ look.between) ++ finds t1.caller key found ∷ []) seen
    ∙ (ap (λ c. (((first ++ inserts k0.caller key value before ∷ []) ++ rest) ++ look.between) ++ finds c key found ∷ []) other.caller
    ∙ joined first rest look.between (inserts k0.caller key value before) (finds t0.caller key found)))
    in record {
      first = first;
      between = rest ++ look.between;
      before = before;
      is = is;
      finds_it = λ leave. law first (rest ++ look.between) k0.caller t0.caller key value before found look.legal.0 (subst (λ (l : List (Entry ℕ)). IsHistory nat_eq l look.legal.0) is look.legal.1) leave;
    }
