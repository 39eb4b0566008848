-- The bits of a key's uses (RFC 5280, 4.2.1.3).
use Rattle.std.specs.Prelude.{ℕ, ◌==◌, Bool, false, List, [], ◌∷◌, map, slice_index_or}
use Rattle.std.specs.List.{list_any}
use Rattle.der_types.specs.BitString.{bits_of}
use Rattle.der_types.specs.contracts.generated.named_bits.NamedBitsContents.TheImpl as named_bits
use Rattle.der_x509.specs.declared.pkix1_implicit88.KeyUsage.{KeyUsage}
use Rattle.der_x509.specs.declared.by_hand.key_usage_flag.KeyUsageFlag.{KeyUsageFlag}
use Rattle.der_x509.specs.declared.by_hand.key_usage_flag.KeyUsageFlag.TheVariants.{DigitalSignature, ContentCommitment}
use Rattle.der_x509.specs.declared.by_hand.key_usage_flag.KeyUsageFlag.TheVariants.{KeyEncipherment, DataEncipherment}
use Rattle.der_x509.specs.declared.by_hand.key_usage_flag.KeyUsageFlag.TheVariants.{KeyAgreement, KeyCertSign, CrlSign}
use Rattle.der_x509.specs.declared.by_hand.key_usage_flag.KeyUsageFlag.TheVariants.{EncipherOnly, DecipherOnly}

abbrev pub flag_number : KeyUsageFlag → ℕ
flag_number DigitalSignature = 0
flag_number ContentCommitment = 1
flag_number KeyEncipherment = 2
flag_number DataEncipherment = 3
flag_number KeyAgreement = 4
flag_number KeyCertSign = 5
flag_number CrlSign = 6
flag_number EncipherOnly = 7
flag_number DecipherOnly = 8

-- a bit that isn't there is zero
abbrev pub has_flag : KeyUsage → KeyUsageFlag → Bool
has_flag it flag = slice_index_or (bits_of (named_bits.ghosts.content it.0)) (flag_number flag) false

-- whether a list has the flag
abbrev pub is_listed : List KeyUsageFlag → KeyUsageFlag → Bool
is_listed flags flag = list_any (λ one. flag_number one == flag_number flag) flags

-- the bit of each flag, in order
abbrev pub flag_bits : List KeyUsageFlag → List Bool
flag_bits flags =
    map (is_listed flags) (DigitalSignature ∷ ContentCommitment ∷ KeyEncipherment ∷ DataEncipherment ∷ KeyAgreement
    ∷ KeyCertSign ∷ CrlSign ∷ EncipherOnly ∷ DecipherOnly ∷ [])
