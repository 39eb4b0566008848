use Rattle.std.proofs.Common.{◌≡◌, ◌+◌, Some, refl, ap, arith}
use Rattle.der.proofs.Reports.{prints_none, prints_more}
use Rattle.der.proofs.report.print_blocks.Goals as goal

pub loop-block-init : goal.loop-block-init
loop-block-init g c =
    record { printed = prints_none c.args.request.now c.args.view c.args.file.now _; number = refl }

pub loop-block-preserved : goal.loop-block-preserved
loop-block-preserved g c =
    let next : c.saturating_add-number.result ≡ c.loop-block.block-index + 1 =
    grind (arith, c.saturating_add-number.ensures, c.loop-block.invariant.number, c.loop-block.auto.block-index-end) in
    record {
      printed = rw c.worse-status.ensures
          (prints_more c.args.request.now c.args.view c.args.file.now c.args.blocks.now c.loop-block.block-index
          c.block-item.result (record { file = c.args.file; block = Some c.saturating_add-number.result })
          c.loop-block.status c.in_ok-print_block.field-0 _ _ _ _ c.loop-block-test.true c.block-item.is refl
          (ap Some next) c.loop-block.invariant.printed c.in_ok-print_skipped.ensures c.in_ok-print_block.ensures);
      number = next;
    }
