use Rattle.std.proofs.Common.{◌≡◌, ◌++◌, codes, string_bytes, ap, ◌∙◌}
use Rattle.std.specs.Prelude.{option_map}
use Rattle.std.proofs.lemmas.Result.{IfOk-weaker}
use Rattle.der_signers.specs.Comparison.{hint_of}
use Rattle.der_signers.specs.Text.{compared_words, front_text, hint_words, signed_words, signer_words}
use Rattle.der_signers.proofs.Lists.{appended}
use Rattle.der_signers.proofs.text.signer_text.Goals as goal

pub returns : goal.returns
returns c =
    let report = c.args.report.now in
    let front : string_bytes c.in_ok-front.front ≡ front_text c.args.file.now c.args.block = c.in_ok-front.ensures in
    let signer : string_bytes c.in_ok-signer.signer ≡ signer_words report = c.in_ok-signer.ensures in
    let compared : string_bytes c.in_ok-compared.compared ≡ compared_words c.args.content report =
    c.in_ok-compared.ensures in
    let signed : string_bytes c.in_ok-signed.signed
    ≡ signed_words report.signed (option_map (λ d. d.items) report.signed_digest) = c.in_ok-signed.ensures in
    let hint : string_bytes c.in_ok-hint.hint ≡ hint_words (hint_of report.message_digest) = c.in_ok-hint.ensures in
    IfOk-weaker c.format.result _ _
    (λ text h. h
    ∙ appended _ _ _ _ front
    (appended _ _ _ _ signer
    (appended _ _ _ _ compared
    (appended _ _ _ _ signed (ap (λ back. codes "; signature not verified" ++ back) hint)))))
    c.format.ensures.ok
