use Rattle.std.proofs.Common.{◌≡◌, take}
use Rattle.der.specs.Report.{AreBlocksPrinted, Prints}
use Rattle.der.proofs.report.print_blocks.Given as goal

abbrev pub invariant-loop-block : goal.invariant-loop-block
invariant-loop-block g l = record {
  printed : Prints (AreBlocksPrinted l.request l.view l.file (take l.block-index l.blocks) l.status)
      (g.W.WriteExt.written l.initial.output) (g.W.WriteExt.written l.output);
  number : l.number ≡ l.block-index;
}
