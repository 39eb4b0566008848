use Rattle.std.proofs.Common.{[], ◌∷◌, ◌++◌, length, Result, Ok, Err, OnErr, arith, length-append}
use Rattle.std.proofs.KnownBytes.{Appends-trans}
use Rattle.picky_der_core.specs.Element.{length_octets, tlv}
use Rattle.picky_der_core.specs.ElementLaws.{length-length_octets}
use Rattle.picky_der_core.specs.Writer.{too_few_after, too_few_front}
use Rattle.picky_der_ser.proofs.sink.put_element.Goals as goal

on_err : {T E P : Type 0} (r : Result T E) → P → OnErr r P
on_err (Ok x) p = tt
on_err (Err e) p = p

pub returns-in_err-identifier-clause-beginning : goal.returns-in_err-identifier-clause-beginning
unfolding tlv
returns-in_err-identifier-clause-beginning g c =
    let content = c.args.content.now in
    rw (← c.inner.ensures)
    (on_err _ (too_few_front _ _ (c.inner.result ∷ []) (length_octets (length content) ++ content)
    c.in_err-identifier.ensures.beginning))

pub returns-in_err-length-clause-beginning : goal.returns-in_err-length-clause-beginning
unfolding tlv
returns-in_err-length-clause-beginning g c =
    let content = c.args.content.now in
    rw (← c.inner.ensures)
    (on_err _ (too_few_after _ _ _ (c.inner.result ∷ []) (length_octets (length content) ++ content)
    c.in_ok-identifier.ensures.appends
    (too_few_front _ _ (length_octets (length content)) content c.in_err-length.ensures.beginning)))

pub returns-in_err-rest-clause-beginning : goal.returns-in_err-rest-clause-beginning
unfolding tlv
returns-in_err-rest-clause-beginning g c =
    let content = c.args.content.now in
    rw (← c.inner.ensures)
    (on_err _ (too_few_after _ _ _ (c.inner.result ∷ []) (length_octets (length content) ++ content)
    c.in_ok-identifier.ensures.appends
    (too_few_after _ _ _ (length_octets (length content)) content c.in_ok-length.ensures.appends
    c.in_err-rest.ensures.beginning)))

pub overflow_add-result : goal.overflow_add-result
overflow_add-result g c =
    let most = length-length_octets (length c.args.content.now) (omega arith) in
    omega (arith, most, c.in_ok-identifier.ensures.count, c.in_ok-length.ensures.count)

pub overflow_add-result-2 : goal.overflow_add-result-2
overflow_add-result-2 g c =
    let most = length-length_octets (length c.args.content.now) (omega arith) in
    omega (arith, most, c.in_ok-identifier.ensures.count, c.in_ok-length.ensures.count, c.in_ok-rest.ensures.count)

pub returns-clause-count : goal.returns-clause-count
unfolding tlv
returns-clause-count g c =
    let content = c.args.content.now in
    omega (
      arith,
      length-append (length_octets (length content)) content,
      c.in_ok-identifier.ensures.count,
      c.in_ok-length.ensures.count,
      c.in_ok-rest.ensures.count,
    )

pub returns-clause-appends : goal.returns-clause-appends
unfolding tlv
returns-clause-appends g c =
    let content = c.args.content.now in
    rw (← c.inner.ensures) (Appends-trans _ _ _ (c.inner.result ∷ []) (length_octets (length content) ++ content)
    c.in_ok-identifier.ensures.appends
    (Appends-trans _ _ _ (length_octets (length content)) content c.in_ok-length.ensures.appends
    c.in_ok-rest.ensures.appends))
