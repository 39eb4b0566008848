use Rattle.picky_asn1_der.proofs.PartLemmas.{Descends}
use Rattle.picky_asn1_der.proofs.parts.part_range.Given as goal

abbrev pub invariant-loop-index : goal.invariant-loop-index
invariant-loop-index l = Descends l.encoding l.path l.index-index l.start l.part
