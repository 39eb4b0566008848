use Rattle.picky_asn1_der.proofs.PartLemmas.{Skips}
use Rattle.picky_asn1_der.proofs.parts.member_of.Given as goal

abbrev pub invariant-loop : goal.invariant-loop
invariant-loop l = Skips l.element l.index l.counter l.rest
