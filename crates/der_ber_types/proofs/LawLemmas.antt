-- The laws of BER and DER.
use Rattle.std.proofs.Common.{sym, subst}
use Rattle.picky_der_core.specs.Encoding.{der}
use Rattle.der_ber.proofs.LawLemmas.{one_whole}
use Rattle.der_ber_types.specs.Content.{IsOne}
use Rattle.der_ber_types.specs.Laws.{OneDer, DerIsOwnBer}
use Rattle.der_ber_types.proofs.KindDer.{own-ber}
use Rattle.der_ber_types.proofs.Unique.{one-unique}

pub one_der : OneDer
one_der nodes i bytes d other p q =
    let same = one_whole bytes p.whole q.whole p.has_lengths q.has_lengths in
    one-unique nodes i p.whole d other p.is_one
    (subst (λ w. IsOne nodes i w other) (sym same) q.is_one)

pub own_ber : DerIsOwnBer
own_ber nodes i t sound d r whole =
    record { whole = der t; has_lengths = whole; is_one = own-ber nodes i t sound d r }
