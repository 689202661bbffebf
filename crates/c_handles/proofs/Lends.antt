-- A struct of a pointer and an allocator, which has what a box has, lends what is on the heap, and follows it.
use mathlib.Core.Path.{◌≡◌, refl, sym}
use Prim.Native.Nat.{ℕ}
use mathlib.Core.List.{List, [], ◌∷◌}
use seplogic.Ra.Ura.{Ura}
use base.Fraction.{full_share}
use mir.Syntax.{Fn, Sym, Callee, named, erased, mut, ty_ptr, ty_ref, ty_struct, tcons, tnil, local, value_local, place, deref, field, copy, rv_opd, addr_of, seq, assign, block, return}
use mir.Val.{Val, vptr}
use base.Logic.{SProp, ent, sep, emp, via, fst∗}
use base.Fml.{Lft, GName, Share, Fml, ftrue, flft, fsep}
use prog.Model.{Model}
use prog.Wp.{Env, Calls, Loops, WpFn, Closed, Tables}
use types.Logic.{Logic, sem}
use contract.Monad.{fact}
use contract.Running.{Running, tables, tables_of}
use sound.WpLaws.{WpFn-mono}
use types.Kit.{‵, ◌⊛◌, some, at_ret, ◌$◌, ◌∵◌, !, qed, by, move, keep, use1, drop, split, join, pick, fsplit, fsplit3, fjoin, suffices, frame, done, raw, later, await, group, fpack, rewrite}
use types.Part.{whole, sub, look_in}
use types.Run.{stop, fld, load, of_opd, first, blocks, exec, returns, enter, addr}
use types.ByLocal.{alloc_all, pass_all, free_all, look_at, get, through, sets, env, sets_last}
use denote.Builtin.{RefMutOf}
use denote.Exit.{no}
use denote.RattleType.{RattleType, owns}
use denote.Memory.{part_at, mem, cell_at, part_of}
use denote.Param.{layout}
use denote.RawPtr.{block_ptr}
use denote.Ref.{MutRef, MutBor, mut_vals, mut_Tells}
use denote.Signature.{plain, mut_ref_to}
use denote.Steps.{nothing, opens}
use denote.Triple.Clauses.{closing, Clauses, Ended}
use denote.Triple.Entry.{on_entry}
use denote.Triple.Spec.{Meets, triple_of}
use denote.Triple.Table.{entered}
use denote.Triple.Walked.{says, Stays, stay_dropped, walk_of, ends_at, walked, walk_Meets, Goes-spent_ref}
use denote.Follow.{follows, Part, lends_Part}
use mir.Raw.{raw as bare}
use Rattle.core.proofs.alloc.Calls.{α, token}
use Rattle.std_alloc.specs.Box.{with_value}
use Rattle.std_alloc.proofs.VecSteps.Shapes.{after}
use Rattle.std_alloc.proofs.BoxSteps.Form.{Bx, D, X, B, τ, word, handle}
use Rattle.std_alloc.proofs.BoxSteps.Steps.{box_out, box_in}

-- the struct, what it has of a box, and what it is after what is on the heap changed
pub record Lend (E : Bx) : Type 1 where
  pub row : RattleType
  pub name : Sym
  pub box : row.Denot → D E
  pub set : row.Denot → X E → row.Denot
  pub is_set : (h : row.Denot) (w : X E) → box (set h w) ≡ with_value (box h) w

module _ (E : Bx) (N : Lend E) where
  abbrev pub S : RattleType
  S = record {
    Denot = N.row.Denot;
    mir = ty_struct N.name (tcons ty_ptr (tcons (α E.al) tnil)) ∷ [];
    written = N.row.written;
    reaches = N.row.reaches;
    lives = N.row.lives;
    own_val = λ h us. (B E).own_val (N.box h) us;
    exit = N.row.exit;
    coded = N.row.coded;
    shr_at = N.row.shr_at;
  }

  abbrev pub V : RattleType
  V = record {
    Denot = E.row.Denot;
    mir = layout E.row ∷ [];
    written = E.row.written;
    reaches = E.row.reaches;
    lives = E.row.lives;
    own_val = E.row.own_val;
    exit = E.row.exit;
    coded = E.row.coded;
    shr_at = E.row.shr_at;
  }

  abbrev pub written : Fn
  written = record {
    lifetimes = 1;
    outlives = [];
    ty_params = [];
    givens = 0;
    params = 1;
    locals = local (ty_ref (named 0) mut E.row.written.ty) value_local ∷ local (ty_ref (named 0) mut N.row.written.ty) value_local ∷ local (ty_ref erased mut E.row.written.ty) value_local ∷ local ty_ptr value_local ∷ local ty_ptr value_local ∷ [];
    body = seq (block (seq (assign (place 3 []) (rv_opd (copy (place 1 (deref (ty_struct N.name (tcons ty_ptr (tcons (α E.al) tnil))) ∷ field 0 ∷ [])))))
        (seq (assign (place 4 []) (rv_opd (copy (place 3 [])))) (assign (place 2 []) (addr_of (place 4 (deref (layout E.row) ∷ [])))))))
        (seq (assign (place 0 []) (rv_opd (copy (place 2 [])))) return);
  }

  abbrev pub ended : Ended
  ended = record { signature = record { lifetimes = 1; outlives = []; params = RefMutOf (0 ∷ []) tt (plain (λ _. S)) (λ _. tt) ∷ []; result = RefMutOf (0 ∷ []) tt (plain (λ _. V)) (λ _. tt) }; kept = (no, tt) }

  abbrev stayed : Stays ended.signature.params ended.kept
  stayed = (stay_dropped (mut_ref_to (0 ∷ []) tt (plain (λ _. S))) no, tt)

  abbrev pub spec : {M : Type 1} {𝓤 : Ura M} (𝓛 : Logic 𝓤) → Clauses 𝓤 ended
  spec {𝓤 = 𝓤} 𝓛 κs a = record { ghost = Unit {0}; requires = λ _. emp 𝓤; ensures = λ _ r _. sep 𝓤 (sem 𝓛 (follows S V a.0.ghost_name r.ghost_name (N.set a.0.now))) (fact 𝓤 (r.now ≡ (N.box a.0.now).value)) }

module _ (E : Bx) (N : Lend E) {M : Type 1} {𝓤 : Ura M} (𝓛 : Logic 𝓤) (κ : Lft) (q : Share) (rb ro : ℕ) (γ : GName) (h : N.row.Denot) where
  open 𝓛 use {H, A}

  abbrev held : X E
  held = (N.box h).value

  abbrev self : MutBor N.row.Denot
  self = record { ref_ptr = (rb, ro); ghost_name = γ; now = h }

  abbrev bound : (walk_of 𝓛 (ended E N) (stayed E N) (spec E N 𝓛)).Ghost
  bound = (((κ, tt), (q, tt), tt, (self, tt), (vptr rb ro ∷ [], tt)), tt)

  abbrev Post : Val → SProp 𝓤
  Post = (walk_of 𝓛 (ended E N) (stayed E N) (spec E N 𝓛)).post bound

  module _ (b o : ℕ) (hv : Val) where
    -- all of the struct but what is on the heap
    abbrev Rest : Fml
    Rest = fsep (fsep (token E.al (N.box h).alloc (bare (τ E)) (block_ptr b o)) (handle E (N.box h).alloc hv)) (cell_at full_share (S E N).mir (word E hv b o ∷ []) rb ro)

    back : (N.box h).ptr ≡ block_ptr b o → (w : X E) → ent 𝓤 (sep 𝓤 (sem 𝓛 ((mem (V E N)).own_at w b o)) (sem 𝓛 Rest)) (sem 𝓛 ((mem (S E N)).own_at (N.set h w) rb ro))
    unfolding part_of
    back at_b w =
        qed 𝓛 (‵ (part_at (V E N) full_share w b o) ∷ ‵ Rest ∷ []) ∵ move ! (1 ∷ []) $ fsplit ! $ fsplit ! $ move ! (3 ∷ []) $
        box_in E ! (with_value (N.box h) w) b o w at_b refl $ rewrite ! 0 (λ (d : D E). ‵ ((B E).own_val d (word E hv b o ∷ []))) (sym (N.is_set h w)) refl $ move ! (1 ∷ 0 ∷ []) $ fjoin ! $
        fpack ! (List Val) (λ us. fsep (cell_at full_share (S E N).mir us rb ro) ((S E N).own_val (N.set h w) us)) (word E hv b o ∷ []) $ done !

    exits : (γ' : GName)
        → ent 𝓤 (sep 𝓤 (sem 𝓛 ((MutRef (named 0) κ (V E N)).own_val (record { ref_ptr = (b, o); ghost_name = γ'; now = held }) (vptr b o ∷ []))) (sep 𝓤 (A.lft κ q) (sem 𝓛 (follows (S E N) (V E N) γ γ' (N.set h))))) (Post (vptr b o))
    exits γ' =
        qed 𝓛 (‵ ((MutRef (named 0) κ (V E N)).own_val (record { ref_ptr = (b, o); ghost_name = γ'; now = held }) (vptr b o ∷ [])) ∷ ‵ (flft κ q) ∷ ‵ (follows (S E N) (V E N) γ γ' (N.set h)) ∷ []) ∵
        suffices ! _ (ends_at 𝓛 (ended E N) (stayed E N) (spec E N 𝓛) bound (vptr b o) (record { ref_ptr = (b, o); ghost_name = γ'; now = held }) (tt, tt) (tt, tt)) $
        nothing ! $ nothing ! $ fjoin ! $ join ! $ nothing ! $ move ! (2 ∷ 0 ∷ []) $ join ! $ join ! $ frame ! $ says ! refl $ done !

  module _ (C : Calls 𝓤 H) (Λ : Loops 𝓤 H) where
    walk : ent 𝓤 (on_entry 𝓛 (ended E N).signature (κ, tt) (q, tt) (self, tt) (vptr rb ro ∷ [], tt)) (WpFn 𝓤 H C Λ (written E N) (vptr rb ro ∷ []) Post)
    walk =
        qed 𝓛 ((‵ (flft κ q) ⊛ ‵ ftrue) ∷ ‵ (owns (MutRef (named 0) κ (S E N) ∷ []) (self, tt) (vptr rb ro ∷ [], tt)) ∷ []) ∵
        enter ! C Λ (written E N) (vptr rb ro ∷ []) _ $
        alloc_all ! (λ l. pass_all ! refl ((tt, tt), tt) $
        let En : Env 𝓤 H = env (written E N).locals l in
        move ! (1 ∷ []) $ fsplit ! $ fsplit3 ! $ drop ! $ move ! (3 ∷ []) $ split ! $ move ! (2 ∷ 3 ∷ 0 ∷ []) $
        opens ! tt (S E N) {h = h} rb ro (λ vs. move ! (1 ∷ []) $ box_out E ! (N.box h) vs (λ b o hv at_b ws fa. move ! (1 ∷ 2 ∷ []) $ fjoin ! $ move ! (1 ∷ []) $
        rewrite ! 2 (λ (us : List Val). ‵ (cell_at full_share (S E N).mir us rb ro)) ws refl $
        first ! $ blocks ! $
        sets ! (of_opd ! (load ! (through ! refl (fld ! refl (stop !))) (look_in ! 2 (sub ! 0 refl (whole !))))) refl (tt, tt) $
        sets ! (of_opd ! (get ! refl)) refl (tt, tt) $
        sets_last ! (addr ! (through ! refl (stop !))) refl (tt, tt) $
        exec ! C Λ En (after 1 (written E N).body) (at_ret En Post) $
        sets ! (of_opd ! (get ! refl)) refl (tt, tt) $
        move ! (1 ∷ 2 ∷ []) $ fjoin ! $ move ! (2 ∷ 3 ∷ 4 ∷ 1 ∷ 0 ∷ []) $ group ! 5 $
        use1 𝓛 (later (some (λ (γ' : GName). raw (Part 𝓛 (S E N) (V E N) (N.set h) (named 0) κ q rb ro b o γ (sem 𝓛 (Rest b o hv)) (back b o hv at_b) held γ'))))
        (lends_Part 𝓛 (S E N) (V E N) (N.set h) (named 0) κ q rb ro b o γ (sem 𝓛 (Rest b o hv)) (back b o hv at_b) ((S E N).coded.code h) ((S E N).coded.code h) held) $ await ! tt $ pick ! (λ γ'.
        returns ! (look_at ! 0 refl) $ free_all ! refl $
        keep ! (0 ∷ []) $ by ! (exits b o hv γ')))))

meets : (E : Bx) (N : Lend E) {M : Type 1} {𝓤 : Ura M} (𝓛 : Logic 𝓤) (𝓣 : Tables 𝓤 𝓛.H)
    → Meets 𝓛 (ended E N).signature (WpFn 𝓤 𝓛.H 𝓣.C 𝓣.Λ (written E N)) (closing 𝓛 (ended E N) (spec E N 𝓛))
meets E N {𝓤 = 𝓤} 𝓛 𝓣 =
    walk_Meets 𝓛 (ended E N) (stayed E N) (Goes-spent_ref 𝓛 1 (0 ∷ []) tt (plain (λ _. S E N)), tt) (spec E N 𝓛) (WpFn 𝓤 𝓛.H 𝓣.C 𝓣.Λ (written E N)) (WpFn-mono 𝓤 𝓛.H 𝓛.laws 𝓣 (written E N))
    (walked 𝓛 (ended E N) (stayed E N) (spec E N 𝓛) (WpFn 𝓤 𝓛.H 𝓣.C 𝓣.Λ (written E N)) (λ κs. (mut_vals, tt)) (λ κs. (mut_Tells (named 0) κs.0 (S E N), tt))
    (λ κs qs bounds a g are. via 𝓤 _ (fst∗ 𝓤 _ (emp 𝓤)) (walk E N 𝓛 κs.0 qs.0 a.0.ref_ptr.0 a.0.ref_ptr.1 a.0.ghost_name a.0.now 𝓣.C 𝓣.Λ)))

pub lends : (E : Bx) (N : Lend E) {M : Type 1} {𝓤 : Ura M} (𝓛 : Logic 𝓤) (𝓜 : Model 𝓤 𝓛.H) (𝓡 : Running 𝓤 𝓛.H 𝓜) (k : Callee) → Closed 𝓤 𝓛.H (tables 𝓤 𝓛.H 𝓜 𝓡 𝓡.env).C (tables 𝓤 𝓛.H 𝓜 𝓡 𝓡.env).Λ k (written E N)
    → Meets 𝓛 (ended E N).signature ((tables 𝓤 𝓛.H 𝓜 𝓡 𝓡.env).C k) (closing 𝓛 (ended E N) (spec E N 𝓛))
unfolding tables_of
lends E N {𝓤 = 𝓤} 𝓛 𝓜 𝓡 k closed =
    let 𝓣 : Tables 𝓤 𝓛.H = tables_of 𝓤 𝓛.H 𝓜 (tables 𝓤 𝓛.H 𝓜 𝓡 𝓡.env) in
    entered 𝓤 𝓛.H (triple_of 𝓛 (ended E N).signature (closing 𝓛 (ended E N) (spec E N 𝓛))) 𝓣.C 𝓣.Λ k (written E N) closed (meets E N 𝓛 𝓣)
