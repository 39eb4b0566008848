use Rattle.std.proofs.Common.{take, drop, sym, take-append-drop, arith}
use Rattle.std.proofs.lemmas.Grind.{common_steps}
use Rattle.picky_der_core.proofs.misc.slice_sink.SliceSinkWriteExt.write_exact.Goals as goal

pub returns-then-count-bytes-clause-beginning : goal.returns-then-count-bytes-clause-beginning
returns-then-count-bytes-clause-beginning c =
    let n = c.fill-count.result in
    record {
      begins = record {
        front = take n c.args.bytes.now;
        rest = drop n c.args.bytes.now;
        is =
            sym (take-append-drop n c.args.bytes.now);
        appends = grind (arith, common_steps);
      };
      missing = grind (arith, common_steps);
    }
