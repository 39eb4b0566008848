use Rattle.std.proofs.Common.{◌≡◌, ◌+◌, ◌-◌, length, ◌∙◌, refl, arith}
use Rattle.std.proofs.lemmas.Result.{on_ok_weaker}
use Rattle.der_ber_types.proofs.Headers.{length-kept, length-put}
use Rattle.der_ber_types.proofs.header.end_element.Goals as goal

pub returns-then-len-content_len : goal.returns-then-len-content_len
returns-then-len-content_len c =
    let start = c.args.place + 1 + c.encoded_len.result in
    let len = c.len.result - start in
    let rest : len ≡ length c.args.bytes.now.items - start = omega (arith, c.len.ensures, c.args.bytes.now.ok.0) in
    λ front content tag size is.
    length-kept c.args.bytes.now.items front content c.args.place start c.args.content_len len tag size is
    (omega (arith, c.encoded_len.ensures)) rest c.if-len-content_len.true

pub returns : goal.returns
returns c =
    let at = c.args.place + 1 in
    let start = at + c.encoded_len.result in
    let len = c.len.result - start in
    let rest : len ≡ length c.args.bytes.now.items - start = omega (arith, c.len.ensures, c.args.bytes.now.ok.0) in
    on_ok_weaker c.put_before.result
    (λ put front content tag size is.
    length-put c.args.bytes.now.items c.put_before.new.bytes.items front content c.deref.result.now c.args.place at
    start c.args.content_len len tag size is refl (omega (arith, c.encoded_len.ensures)) rest
    (c.deref.ensures.0 ∙ c.bytes.ensures) put)
    c.put_before.ensures
