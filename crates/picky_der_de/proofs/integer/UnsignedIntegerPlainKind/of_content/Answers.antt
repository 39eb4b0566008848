use Rattle.std.proofs.Common.{◌∙◌, arith}
use Rattle.std.proofs.lemmas.Result.{MatchResult-weaker}
use Rattle.picky_der_de.proofs.PlainReads.{bytes_by_index, content_of_number, content_of_digit}
use Rattle.picky_der_de.proofs.integer.UnsignedIntegerPlainKind.of_content.Goals as goal

pub returns-clause-ok : goal.returns-clause-ok
returns-clause-ok g c =
    let d = c.in_ok-digits.ensures in
    MatchResult-weaker c.from_u128-2.result c.from_u128-2.ensures.ok
    (λ value h. content_of_number _ _ _ (bytes_by_index _ (λ i. let fits = c.type_inv.content i in omega arith)) d.ok
    c.if-digits-gt16.false (h.0 ∙ c.value_of.ensures) d.same)
    (λ e h. tt)

pub returns-in-0-to-127-clause-ok : goal.returns-in-0-to-127-clause-ok
returns-in-0-to-127-clause-ok g c =
    let one = c.in-0-to-127 in
    MatchResult-weaker c.from_u128.result c.from_u128.ensures.ok
    (λ value h. content_of_digit _ _ one.len_at_least one.len_below (omega arith) (h.0 ∙ c.from.ensures))
    (λ e h. tt)
