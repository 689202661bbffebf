-- A function that moves a pointer and an allocator from one struct to another. What they own goes with them.
use mathlib.Core.Path.{◌≡◌, refl}
use mathlib.Core.List.{List, [], ◌∷◌, ◌++◌}
use seplogic.Ra.Ura.{Ura}
use mir.Syntax.{Fn, Sym, Callee, ty_ptr, ty_struct, tcons, tnil, local, value_local, place, field, copy, rv_opd, aggregate, seq, assign, return}
use mir.Val.{Val}
use base.Logic.{ent, emp}
use base.Fml.{Fml, ftrue, fsep}
use prog.Model.{Model}
use prog.Wp.{WpFn, Closed, Tables}
use types.Logic.{Logic}
use contract.Monad.{fact}
use contract.Running.{Running, tables, tables_of}
use sound.WpLaws.{WpFn-mono}
use types.Kit.{‵, raw, ◌⊛◌, ◌$◌, ◌∵◌, !, qed, by, join, fjoin, rewrite, suffices, done}
use types.Part.{whole, sub, agg}
use types.Run.{stop, fld, no_more, and_then, of_opd, returns, enter}
use types.ByLocal.{alloc_all, pass_all, free_all, look_at, get, get_in, sets}
use denote.RattleType.{RattleType}
use denote.Exit.{yes, Last, left}
use denote.Signature.{plain}
use denote.Steps.{nothing}
use denote.Triple.Clauses.{closing, Clauses, Ended}
use denote.Triple.Spec.{Meets, triple_of}
use denote.Triple.Table.{entered}
use denote.Triple.Walked.{says, Stays, stay_dropped, walk_of, ends_at, Goes-dropped, walk_Meets}
use Rattle.core.proofs.alloc.Calls.{α}
use Rattle.std_alloc.proofs.BoxSteps.Form.{Bx, D, B, word, box_typed}
use Rattle.c_handles.proofs.AsWord.{as_word}

-- the two structs, each of which has what a box has, and what is said of the result
pub record Move (E : Bx) : Type 1 where
  pub From : RattleType
  pub To : RattleType
  pub from : Sym
  pub to : Sym
  pub box : From.Denot → D E
  pub made : D E → To.Denot
  pub takes : (x : From.Denot) (us : List Val) → From.own_val x us ≡ (B E).own_val (box x) us
  pub gives : (v : D E) (us : List Val) → (B E).own_val v us ≡ To.own_val (made v) us
  pub last : (x : From.Denot) → Last (From.exit yes) x
  pub quiet : (x : From.Denot) (f : Last (From.exit yes) x) → left (From.exit yes) x f ≡ ftrue
  pub Has : To.Denot → From.Denot → Type 0
  pub has : (x : From.Denot) → Has (made (box x)) x

module _ (E : Bx) (N : Move E) where
  abbrev pub written : Fn
  written = record {
    lifetimes = 0;
    outlives = [];
    ty_params = [];
    givens = 0;
    params = 1;
    locals = local (ty_struct N.to (tcons ty_ptr (tcons (α E.al) tnil))) value_local ∷ local (ty_struct N.from (tcons ty_ptr (tcons (α E.al) tnil))) value_local ∷ local ty_ptr value_local ∷ local (α E.al) value_local ∷ local ty_ptr value_local ∷ [];
    body = seq (assign (place 2 []) (rv_opd (copy (place 1 (field 0 ∷ []))))) (seq (assign (place 3 []) (rv_opd (copy (place 1 (field 1 ∷ [])))))
        (seq (assign (place 4 []) (rv_opd (copy (place 2 [])))) (seq (assign (place 0 []) (aggregate (copy (place 4 []) ∷ copy (place 3 []) ∷ []))) return)));
  }

  abbrev pub ended : Ended
  ended = record { signature = record { lifetimes = 0; outlives = []; params = plain (λ _. N.From) ∷ []; result = plain (λ _. N.To) }; kept = (yes, tt) }

  abbrev stayed : Stays ended.signature.params ended.kept
  stayed = (stay_dropped (plain (λ _. N.From)) yes, tt)

  abbrev pub spec : {M : Type 1} {𝓤 : Ura M} (𝓛 : Logic 𝓤) → Clauses 𝓤 ended
  spec {𝓤 = 𝓤} 𝓛 κs a = record { ghost = Unit {0}; requires = λ _. emp 𝓤; ensures = λ _ r _. fact 𝓤 (N.Has r a.0) }

  module _ {M : Type 1} {𝓤 : Ura M} (𝓛 : Logic 𝓤) (𝓣 : Tables 𝓤 𝓛.H) where
    open 𝓛 use {H}

    walk : (z : (walk_of 𝓛 ended stayed (spec 𝓛)).Ghost) → ent 𝓤 ((walk_of 𝓛 ended stayed (spec 𝓛)).pre z) (WpFn 𝓤 H 𝓣.C 𝓣.Λ written (z.0.4.0 ++ []) ((walk_of 𝓛 ended stayed (spec 𝓛)).post z))
    walk z =
        let Post = (walk_of 𝓛 ended stayed (spec 𝓛)).post z in
        let v : D E = N.box z.0.3.0 in
        qed 𝓛 ((‵ ftrue ⊛ ‵ (fsep (N.From.own_val z.0.3.0 z.0.4.0) ftrue)) ∷ raw (emp 𝓤) ∷ []) ∵
        rewrite ! 0 (λ (f : Fml). ‵ ftrue ⊛ ‵ (fsep f ftrue)) (N.takes z.0.3.0 z.0.4.0) refl $
        by ! (as_word E 𝓛 v z.0.4.0 (λ us. WpFn 𝓤 H 𝓣.C 𝓣.Λ written (us ++ []) Post) (λ b o hv fa.
        let w = word E hv b o in
        qed 𝓛 (‵ ((B E).own_val v (w ∷ [])) ∷ []) ∵ rewrite ! 0 (λ (f : Fml). ‵ f) (N.gives v (w ∷ [])) refl $
        enter ! 𝓣.C 𝓣.Λ written (w ∷ []) _ $ alloc_all ! (λ ls. pass_all ! refl (box_typed E hv b o fa, tt) $
        sets ! (of_opd ! (get_in ! (fld ! refl (stop !)) (sub ! 0 refl (whole !)))) refl (tt, tt) $ sets ! (of_opd ! (get_in ! (fld ! refl (stop !)) (sub ! 1 refl (whole !)))) refl fa $
        sets ! (of_opd ! (get ! refl)) refl (tt, tt) $ sets ! (agg ! (and_then ! (get ! refl) (and_then ! (get ! refl) (no_more !)))) refl (box_typed E hv b o fa) $ returns ! (look_at ! 0 refl) $ free_all ! refl $
        suffices ! _ (ends_at 𝓛 ended stayed (spec 𝓛) z w (N.made v) (N.last z.0.3.0, tt) (tt, tt)) $ says ! (N.has z.0.3.0) $
        nothing ! $ nothing ! $ fjoin ! $ join ! $ nothing ! $ join ! $ done !)))

    meets : Meets 𝓛 ended.signature (WpFn 𝓤 H 𝓣.C 𝓣.Λ written) (closing 𝓛 ended (spec 𝓛))
    meets = walk_Meets 𝓛 ended stayed (Goes-dropped 𝓛 0 (plain (λ _. N.From)) yes (λ κs x f. N.quiet x f), tt) (spec 𝓛) (WpFn 𝓤 H 𝓣.C 𝓣.Λ written) (WpFn-mono 𝓤 H 𝓛.laws 𝓣 written) walk

  pub moves : {M : Type 1} {𝓤 : Ura M} (𝓛 : Logic 𝓤) (𝓜 : Model 𝓤 𝓛.H) (𝓡 : Running 𝓤 𝓛.H 𝓜) (k : Callee) → Closed 𝓤 𝓛.H (tables 𝓤 𝓛.H 𝓜 𝓡 𝓡.env).C (tables 𝓤 𝓛.H 𝓜 𝓡 𝓡.env).Λ k written
      → Meets 𝓛 ended.signature ((tables 𝓤 𝓛.H 𝓜 𝓡 𝓡.env).C k) (closing 𝓛 ended (spec 𝓛))
  unfolding tables_of
  moves {𝓤 = 𝓤} 𝓛 𝓜 𝓡 k closed =
      let 𝓣 : Tables 𝓤 𝓛.H = tables_of 𝓤 𝓛.H 𝓜 (tables 𝓤 𝓛.H 𝓜 𝓡 𝓡.env) in
      entered 𝓤 𝓛.H (triple_of 𝓛 ended.signature (closing 𝓛 ended (spec 𝓛))) 𝓣.C 𝓣.Λ k written closed (meets 𝓛 𝓣)
