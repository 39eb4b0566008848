use Rattle.std.proofs.Common.{◌≡◌, ◌++◌, codes, string_bytes, ap, ◌∙◌}
use Rattle.std.proofs.lemmas.Result.{IfOk-weaker}
use Rattle.hex.specs.Hex.{encode_lower}
use Rattle.der_signers.proofs.text.certificate_text.Goals as goal

pub returns : goal.returns
returns c =
    let issuer : c.as_str-issuer.result.now ≡ string_bytes c.args.name.now.issuer = c.as_str-issuer.ensures.value in
    let serial_number : string_bytes c.in_ok-serial_number.serial_number
    ≡ encode_lower c.args.name.now.serial_number.items =
    c.in_ok-serial_number.ensures ∙ ap encode_lower c.as_slice.ensures.value in
    IfOk-weaker c.format.result _ _
    (λ text h. h
    ∙ (ap (λ front. codes "issuer "
    ++ (front ++ (codes "; serial number " ++ string_bytes c.in_ok-serial_number.serial_number))) issuer
    ∙ ap (λ back. codes "issuer " ++ (string_bytes c.args.name.now.issuer ++ (codes "; serial number " ++ back)))
    serial_number))
    c.format.ensures.ok
