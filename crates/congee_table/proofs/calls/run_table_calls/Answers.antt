use Rattle.std.proofs.Common.{◌≡◌, ◌∷◌, [], ◌++◌, refl, rules}
use Rattle.std.proofs.lemmas.List.{take_all}
use Rattle.congee_table.specs.declared.calls.TableCall.TheVariants.{Put}
use Rattle.congee_table.proofs.RunLaws.{run_more}
use Rattle.congee_table.proofs.calls.run_table_calls.Goals as goal

pub loop-call-preserved : goal.loop-call-preserved
loop-call-preserved g c =
    let items : c.push.new.self.items ≡ c.loop-call.replies.items ++ c.make_table_call.result ∷ [] = rw c.unwrap.ensures at c.push.ensures.items in
    let default = Put (record { id = 0; group = 0; value = 0 }) in
    record {
      run = rw items (run_more c.args.table.now.rows c.loop-call.table.rows c.make_table_call.new.table.rows c.args.calls.now c.loop-call.call-index default
          c.loop-call.replies.items c.make_table_call.result c.loop-call-test.true c.loop-call.invariant.run c.make_table_call.ensures);
      count = search rules;
      room = search rules;
    }

pub loop-call-init : goal.loop-call-init
loop-call-init g c =
    let empty = c.in_ok-replies.ensures.items in
    record { run = rw empty refl; count = c.in_ok-replies.ensures.len; room = c.in_ok-replies.ensures.capacity }

pub returns-clause-run : goal.returns-clause-run
returns-clause-run g c =
    let whole = take_all c.loop-call.call-index c.args.calls.now c.loop-call-test.false in
    rw whole at c.loop-call.invariant.run
