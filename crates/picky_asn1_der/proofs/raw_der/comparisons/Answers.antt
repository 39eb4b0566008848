use Rattle.std.proofs.Common.{refl, Some, nat_cmp}
use Rattle.std.specs.Cmp.{Agrees}
use Rattle.std.specs.Cmp.Lexicographic.{bytes_decides, slice_cmp, slice_partial_cmp, lists_agrees}
use Rattle.picky_asn1_der.proofs.raw_der.comparisons.Goals as goal

pub returns-clause-equal : goal.returns-clause-equal
returns-clause-equal c x y = bytes_decides x.0.items y.0.items

pub returns-clause-order : goal.returns-clause-order
returns-clause-order c x y =
    let agree : Agrees (slice_partial_cmp (λ a b. Some (nat_cmp a b))) (slice_cmp nat_cmp) =
    lists_agrees (λ _ _. refl) in
    agree x.0.items y.0.items

pub returns-clause-hash : goal.returns-clause-hash
returns-clause-hash c raw = refl
