use Rattle.der_show.specs.Headers.{long_tag, no_length}
use Rattle.std.proofs.Common.{refl, arith}
use Rattle.der_show.proofs.HeaderLemmas.{whole, header_read, passes_end}
use Rattle.der_show.proofs.header.header_of.Goals as goal

pub returns-then-number-gt-MAX_NUMBER-clause-err : goal.returns-then-number-gt-MAX_NUMBER-clause-err
returns-then-number-gt-MAX_NUMBER-clause-err c =
    long_tag c.from-tag.result _ (whole c.args.bytes.now c.from-tag.result c.from-tag.ensures c.in-len1-up.len_at_least)
    (omega (arith, c.number.ensures)) refl

pub returns-in-Ok-clause-ok : goal.returns-in-Ok-clause-ok
returns-in-Ok-clause-ok c =
    header_read c.args.bytes.now c.from-tag.result c.from-tag.ensures c.in-len1-up.len_at_least c.in-Ok.content_len
    c.in-Ok.rest.now c.in-Ok.ensures.ok
    (omega (arith, c.number.ensures)) c.if-content_len-rest.true

pub returns-in-Ok-2-clause-err : goal.returns-in-Ok-2-clause-err
returns-in-Ok-2-clause-err c =
    passes_end c.args.bytes.now c.from-tag.result c.from-tag.ensures c.in-len1-up.len_at_least c.in-Ok.content_len
    c.in-Ok.rest.now c.in-Ok.ensures.ok c.if-content_len-rest.false

pub returns-in-Err-clause-err : goal.returns-in-Err-clause-err
returns-in-Err-clause-err c =
    no_length c.from-tag.result _
    (whole c.args.bytes.now c.from-tag.result c.from-tag.ensures c.in-len1-up.len_at_least) c.in-Err.ensures.err
