-- Who a signer is (RFC 5652, 5.3).
use Rattle.std.specs.Prelude.{◌≡◌, string_bytes}
use Rattle.der_program_base.specs.Line.{IsOneLine}
use Rattle.der_types.specs.contracts.generated.integer.IntegerContents.TheImpl as integer
use Rattle.der_cms.specs.declared.signed_data.SignerIdentifier.{SignerIdentifier}
use Rattle.der_cms.specs.declared.signed_data.SignerIdentifier.TheVariants.{IssuerAndSerialNumber, SubjectKeyIdentifier}
use Rattle.der_signers.specs.declared.who.Who.{Who}
use Rattle.der_signers.specs.declared.who.Who.TheVariants.{Certificate, KeyIdentifier}

-- the issuer in some words on one line and the serial number, or the key identifier
abbrev pub IsWho : SignerIdentifier → Who → Type 0
IsWho (IssuerAndSerialNumber certificate) (Certificate name) =
    IsOneLine (string_bytes name.issuer) × (name.serial_number.items ≡ integer.ghosts.content certificate.serial_number)
IsWho (SubjectKeyIdentifier key) (KeyIdentifier identifier) = identifier.items ≡ key.0.0.items
IsWho (IssuerAndSerialNumber certificate) (KeyIdentifier identifier) = ⊥
IsWho (SubjectKeyIdentifier key) (Certificate name) = ⊥
