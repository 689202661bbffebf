-- The names that the walks over a block of cells cite, passed on from one place.
pub use Rattle.std.specs.Prelude.{List, [], ◌∷◌, Option, Some, None, IsSome, length, get_or, set, replicate}
pub use Rattle.std.proofs.Common.{◌≡◌, refl, sym, ap, subst, ◌∙◌, ℕ, ◌+◌, ◌*◌, ◌<◌, ◌^◌, arith, length-set, w8}
pub use Rattle.std.proofs.raw_atomic.Walks.{proved, proved_at}
pub use seplogic.Ra.Ura.{Ura}
pub use base.Fraction.{full_share}
pub use base.Fml.{ftrue, fat, froom, flft}
pub use base.Logic.{SProp, ent, id⊢}
pub use mir.Syntax.{Fn, named}
pub use mir.MapTy.{inst_fn}
pub use mir.Val.{Val, vunit, vint, vptr}
pub use prog.Model.{Model}
pub use prog.Wp.{WpFn}
pub use types.Logic.{Logic, sem}
pub use contract.BorrowLft.{◌⊑◌}
pub use contract.Monad.{fact}
pub use contract.Running.{Running, tables}
pub use denote.RattleType.{owns}
pub use denote.Signature.{plain, types_at}
pub use denote.Steps.{heard, nothing}
pub use denote.Triple.Clauses.{Clauses, Ended}
pub use denote.Triple.Entry.{Vals}
pub use denote.Triple.Walked.{says, Stays, stay_dropped, stay_ref, walk_of, ends_at, Goes-dropped, Goes-ref}
pub use types.Kit.{‵, raw, ◌⊛◌, some, given, at_ret, ◌$◌, ◌∵◌, !, qed, move, keep, use1, use2, use3, drop, split, split3, join, pick, learn, fsplit, fsplit3, fjoin, fjoin3, feq_i, flt_l, suffices, rewrite, done}
pub use types.Part.{whole, sub, look_in, agg}
pub use types.Run.{init, look, forget, stop, fld, load, addr, size_lit, unit_lit, of_opd, un, bin, no_more, and_then, assigns_last, first, blocks, exec, returns, enter}
pub use types.ByLocal.{alloc_all, pass_all, free_all, look_at, get, get_in, through, sets, sets_last, env}
pub use denote.Exit.{yes, no}
pub use denote.Builtin.{u8, RefOf}
pub use denote.Plain.{uint_vals, uint_Tells}
pub use denote.Ref.{mut_vals, mut_Tells, shr_vals, shr_Tells}
pub use Rattle.core.proofs.mem.Param.{El, R, args, el_x, elτ, Good, lawful, one}
pub use Rattle.core.proofs.mem.Facts.{says_two}
pub use Rattle.core.proofs.slots.Bodies.{after}
