use Rattle.std.proofs.Common.{◌++◌, take, [], append-nil, arith}
use Rattle.std.proofs.lemmas.Bool.Decides.{nat_tests}
use Rattle.text_lines.proofs.Sending.{consumes_more, consumes_kept}
use Rattle.text_run.proofs.Running.{tells_broken, tells_within, tells_whole}
use Rattle.text_run.proofs.run.turn.Goals as goal

pub returns-in_default-clause-turns : goal.returns-in_default-clause-turns
returns-in_default-clause-turns g c old_in old_out r = record {
  taken = r.taken;
  reads = r.reads;
  written = tells_broken r.taken _ _ (c.in_default.ensures.err old_out r.taken r.serves);
}

pub returns-in_default-read-clause-turns : goal.returns-in_default-read-clause-turns
returns-in_default-read-clause-turns g c old_in old_out r =
    let reads = consumes_more _ _ _ r.taken [] r.reads (consumes_kept _ _ c.in_default-read.ensures.bytes) in
    record {
      taken = r.taken;
      reads = rw append-nil at reads;
      written = tells_whole (c.in-Ok.ensures.ok old_out r.taken r.serves).0;
    }

pub returns-in_default-take_all-clause-turns : goal.returns-in_default-take_all-clause-turns
returns-in_default-take_all-clause-turns g c old_in old_out r =
    let sent = c.in-Ok.ensures.ok old_out r.taken r.serves in
    let bytes = take c.in-Ok-read.count c.read.new.buf in
    record {
      taken = r.taken ++ bytes;
      reads = consumes_more _ _ _ r.taken bytes r.reads c.in-Ok-read.ensures.bytes.0;
      written = tells_within r.taken bytes _ _ (c.in_default-take_all.ensures.err old_out r.taken (rw sent.1 sent.0));
    }

pub returns-clause-turns : goal.returns-clause-turns
returns-clause-turns g c old_in old_out r =
    let sent = c.in-Ok.ensures.ok old_out r.taken r.serves in
    let bytes = take c.in-Ok-read.count c.read.new.buf in (
      record {
        taken = r.taken ++ bytes;
        reads = consumes_more _ _ _ r.taken bytes r.reads c.in-Ok-read.ensures.bytes.0;
        serves = c.in-Ok-take_all.ensures.ok old_out r.taken (rw sent.1 sent.0);
      },
      λ none. c.in-Ok-read.ensures.bytes.1 (grind (arith, nat_tests)) (omega arith),
    )
