-- The names that the walks cite, passed on from one place.
pub use Rattle.std.proofs.Common.{◌≡◌, ℕ, ◌+◌, ◌-◌, ◌^◌, ◌<◌, List, [], ◌∷◌, ◌++◌, sym, refl, eqb, lit<, w64}
pub use mir.Syntax.{a_type, dcons, dnil, named, Fn}
pub use mir.Val.{Val, vunit, vint, vptr, vstruct, vcons, vnil, of_list}
pub use mir.MapTy.{inst_fn}
pub use base.Logic.{SProp, ent, sep, emp, via}
pub use base.Fml.{Lft, Share, Fml, ftrue, fsep, feq, flft, fhide}
pub use prog.Atomic.{either}
pub use types.Logic.{sem}
pub use types.Kit.{‵, raw, ◌⊛◌, some, given, later, mean, at_ret, ◌$◌, ◌∵◌, !, qed, by, move, keep, drop, split, join, fsplit, fsplit3, fjoin, fjoin3, fpick, fpack, pick, learn, use0, use1, use2, await, rewrite, feq_i, flt_i, done}
pub use types.Run.{stop, addr, lit, unit_lit, of_opd, no_more, and_then, first, blocks, exec, Calls-last, returns, enter}
pub use types.ByLocal.{alloc_all, pass_all, free_all, look_at, get, through, sets, lands_last, env}
pub use types.Part.{agg}
pub use contract.Monad.{fact, fact_i}
pub use contract.Running.{tables}
pub use denote.Exit.{yes, no}
pub use denote.RattleType.{RattleType, owns, Valss}
pub use denote.Signature.{types_at, plain}
pub use denote.Builtin.{RefOf, u64, usize, unit}
pub use denote.Ref.{mut_vals, mut_Tells, shr_vals, shr_Tells}
pub use denote.Plain.{uint_vals, uint_Tells}
pub use denote.RawPtr.{block_ptr}
pub use denote.Memory.{hidden_shr}
pub use denote.Opens.{unhide}
pub use denote.Struct.Lending.{lent_out}
pub use denote.Steps.{nothing, opens, closes}
pub use denote.Param.{param, bounded}
pub use denote.Struct.Tuple.{Tuple}
pub use denote.Triple.Walked.{Stays, stay_dropped, stay_ref, walk_of, Goes-dropped, Goes-ref}
pub use Rattle.core.proofs.atomic.Steps.{tail}
pub use Rattle.atomic_table.proofs.Walks.{proved}
pub use Rattle.atomic_table.proofs.Calls.{fm, seq_cst, found, finds, stored, has_stored, loads, stores, exchanges}
