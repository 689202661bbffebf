-- The shortest call: a Get on a fresh machine, which finds no value.
use Rattle.std.proofs.Common.{◌≡◌, ℕ, Bool, true, false, [], Option, Some, None, refl, ap, ◌∙◌, inl, inr}
use Rattle.node_table.specs.Charge.{Charge}
use Rattle.spec_map.proofs.MapLaws.{lookup-put_same}
use Rattle.spec_map.specs.Map.{lookup, put, without}
use Rattle.spec_olc.specs.Kinds.{IsStart, IsStep, begun, report_of}
use Rattle.spec_olc.specs.Runs.{fresh, bare_root}
use Rattle.spec_olc.specs.State.{State, CallState, with_call, settled}
use Rattle.spec_olc.specs.declared.types.Env.{Env}
use Rattle.spec_olc.specs.declared.types.Kind.TheVariants as kind
use Rattle.spec_olc.specs.declared.types.Op.TheVariants.{Get}
use Rattle.spec_olc.specs.declared.types.Outcome.TheVariants.{Going, Decided, Done}
use Rattle.spec_olc.specs.declared.types.Progress.TheVariants as progress
use Rattle.spec_olc.specs.declared.types.Reply.TheVariants.{Old}
use Rattle.std.proofs.lemmas.Bool.Decides.{eqb_tells}

no_absurd : false ≡ true → ⊥
no_absurd e = cc

module _ {M : Type 0} (Granted : Type 0) (same : M → M → Bool) (root id key : ℕ) (charge : Option Charge) (env : Env M) where
  here : lookup (State.nodes (fresh {M = M} root charge)) root ≡ Some bare_root
  here = elim (eqb_tells root root) [ inl at ↦ rw at.0 refl | inr far ↦ absurd (far.1 refl) ]

  abbrev pub started : State M
  started = with_call (fresh root charge) id (begun (Get key) 0)

  abbrev pub taken : CallState M
  taken = record (begun (Get key) 0) { remembered = put [] root 0 }

  abbrev pub read : CallState M
  read = record taken { seen = Some (record { child = None; count = 0; full = false }) }

  abbrev pub decided : CallState M
  decided = settled progress.Decided read

  pub starts : IsStart (fresh root charge) started id (Get key) (report_of kind.Start None 0 true)
  starts = record { is = refl; free = refl; after = refl }

  pub takes : IsStep Granted same started (with_call started id taken) id env (report_of kind.Take (Some root) 0 true) Going
  takes = record {
    call = begun (Get key) 0;
    in_flight = lookup-put_same [] id (begun (Get key) 0);
    event = (
      inl refl,
      record {
        slot = root;
        node = bare_root;
        here = here;
        anew = λ e. refl;
        first = λ e. refl;
        reports = (refl, refl);
        ok = ((λ t. refl), (λ t. refl));
        becomes = record { next = taken; is = refl; remembered = λ s w e. e; after = refl };
        remembers = λ t. lookup-put_same [] root 0;
      },
    );
  }

  pub reads : IsStep Granted same (with_call started id taken) (with_call (with_call started id taken) id read) id env (report_of kind.Read (Some root) 0 true) Going
  reads = record {
    call = taken;
    in_flight = lookup-put_same (State.calls started) id taken;
    event = (
      inl refl,
      record {
        whole = true;
        knows = record { slot = root; node = bare_root; word = 0; here = here; word_is = lookup-put_same [] root 0 };
        is = refl;
        whole_is = ((λ t. refl), (λ t. refl));
        sees = (record { child = None; count = 0; full = false }, record { child = refl; count = refl; full = ((λ t. absurd (no_absurd t)), (λ f. absurd (f tt))) }, record { next = read; is = refl; remembered = λ s w e. e; after = refl });
      },
    );
  }

  pub checks : (s : State M) → s ≡ with_call (with_call started id taken) id read → IsStep Granted same s (with_call s id decided) id env (report_of kind.Check (Some root) 0 true) (Decided (Old None))
  checks s is = record {
    call = read;
    in_flight = ap (λ (t : State M). lookup t.calls id) is ∙ lookup-put_same (State.calls (with_call started id taken)) id read;
    event = (
      inl refl,
      record {
        planned = decided;
        knows = record { slot = root; node = bare_root; word = 0; here = ap (λ (t : State M). lookup t.nodes root) is ∙ here; word_is = lookup-put_same [] root 0 };
        is = refl;
        ok = ((λ t. refl), (λ t. refl));
        passes = λ t. (record { op = Get key; op_is = refl; undecided = refl; read = refl; point = tt; asked = λ g. refl; reply = λ g. refl }, (λ g. refl), refl, tt);
        fails = λ e. absurd (no_absurd (sym_of e));
        becomes = record { next = decided; is = refl; remembered = λ p w e. e; after = refl };
      },
    );
  }
    where
      sym_of : true ≡ false → false ≡ true
      sym_of e = cc

  pub ends : (s : State M) → lookup s.calls id ≡ Some decided → IsStep Granted same s (record s { calls = without s.calls id }) id env (report_of kind.Finish None 0 true) Done
  ends s at = record {
    call = decided;
    in_flight = at;
    event = record { reports = (refl, refl); may = inl ((λ e. open_decided e), refl); held = refl; made = refl; after = refl };
  }
    where
      open_decided : progress.Decided ≡ progress.Open → ⊥
      open_decided e = cc
