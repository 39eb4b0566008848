use Rattle.std.proofs.Common.{◌≡◌, take, string_bytes}
use Rattle.std.specs.List.{enumerate_from, flat_map}
use Rattle.der_signers.specs.Printed.{signer_text}
use Rattle.der_signers.proofs.printed.signers_text.Given as goal

abbrev pub invariant-loop-index : goal.invariant-loop-index
invariant-loop-index l =
    string_bytes l.text
    ≡ flat_map (λ numbered. signer_text l.format l.file l.block l.message.content numbered.0 numbered.1)
    (enumerate_from 0 (take l.index l.message.reports.items))
