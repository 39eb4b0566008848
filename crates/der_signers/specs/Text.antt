-- The lines of text.
use Rattle.std.specs.Prelude.{ℕ, ◌==◌, if◌then◌else◌, List, [], ◌∷◌, ◌++◌, Option, None, Some, codes, decimal}
use Rattle.std.specs.Prelude.{option_map, string_bytes}
use Rattle.hex.specs.Hex.{encode_lower}
use Rattle.der_program_base.specs.Line.{shown}
use Rattle.der_signers.specs.declared.comparison.ContentComparison.{ContentComparison}
use Rattle.der_signers.specs.declared.message.Message.{Message}
use Rattle.der_signers.specs.declared.report.Report.{Report}
use Rattle.der_signers.specs.declared.report.Signed.{Signed}
use Rattle.der_signers.specs.declared.report.Signed.TheVariants as signed
use Rattle.der_signers.specs.declared.who.CertificateName.{CertificateName}
use Rattle.der_signers.specs.declared.who.Who.{Who}
use Rattle.der_signers.specs.declared.who.Who.TheVariants.{Certificate, KeyIdentifier}
use Rattle.der_signers.specs.Comparison.{digest_word, type_word, attributes_word, content_word, listed_word, hint_of}

-- a text on one line, with a line feed at its end; 10 is the line feed
abbrev pub shown_line : List ℕ → List ℕ
shown_line text = shown text ++ 10 ∷ []

-- what each line begins with
abbrev pub front_text : List ℕ → Option ℕ → List ℕ
front_text file (Some number) = file ++ (codes ", block " ++ (decimal number ++ codes ": "))
front_text file None = file ++ codes ": "

-- ---- a signer

abbrev pub certificate_text : CertificateName → List ℕ
certificate_text name =
    codes "issuer " ++ (string_bytes name.issuer ++ (codes "; serial number " ++ encode_lower name.serial_number.items))

abbrev pub who_text : Who → List ℕ
who_text (Certificate name) = certificate_text name
who_text (KeyIdentifier identifier) = codes "key identifier " ++ encode_lower identifier.items

abbrev pub signer_words : Report → List ℕ
signer_words r =
    who_text r.who
    ++ (codes "; digest " ++ (string_bytes r.digest ++ (codes "; signature " ++ string_bytes r.signature)))

-- nothing, if no contents were compared
abbrev pub content_words : Option ContentComparison → List ℕ
content_words (Some comparison) = codes "; content " ++ content_word comparison
content_words None = []

abbrev pub compared_words : Option ContentComparison → Report → List ℕ
compared_words content r =
    codes "; messageDigest "
    ++ (digest_word r.message_digest
    ++ (codes "; contentType "
    ++ (type_word r.content_type
    ++ (codes "; attributes "
    ++ (attributes_word r.attributes
    ++ (codes "; digestAlgorithms " ++ (listed_word r.is_listed ++ content_words content)))))))

abbrev pub signed_name : Signed → List ℕ
signed_name signed.Attributes = codes "digest of signed attributes"
signed_name signed.Content = codes "digest of content"

-- nothing, if there is no such digest
abbrev pub signed_words : Signed → Option (List ℕ) → List ℕ
signed_words part (Some digest) = codes "; " ++ (signed_name part ++ (codes " " ++ encode_lower digest))
signed_words part None = []

-- nothing, if there is no hint
abbrev pub hint_words : Option (List ℕ) → List ℕ
hint_words (Some hint) = codes "; " ++ hint
hint_words None = []

abbrev pub signer_text : List ℕ → Option ℕ → Option ContentComparison → Report → List ℕ
signer_text file block content r =
    front_text file block
    ++ (signer_words r
    ++ (compared_words content r
    ++ (signed_words r.signed (option_map (λ d. d.items) r.signed_digest)
    ++ (codes "; signature not verified" ++ hint_words (hint_of r.message_digest)))))

abbrev pub signer_line : List ℕ → Option ℕ → Option ContentComparison → Report → List ℕ
signer_line file block content r = shown_line (signer_text file block content r)

-- ---- a message

-- a number of things
abbrev pub counted : ℕ → List ℕ → List ℕ
counted count thing = if count == 1 then decimal count ++ (codes " " ++ thing) else decimal count
    ++ (codes " " ++ (thing ++ codes "s"))

-- one without signers
abbrev pub no_signers_text : List ℕ → Option ℕ → Message → List ℕ
no_signers_text file block m =
    front_text file block
    ++ (codes "no signers; "
    ++ (counted m.certificates (codes "certificate")
    ++ (codes ", " ++ (counted m.lists (codes "list") ++ content_words m.content))))

abbrev pub no_signers_line : List ℕ → Option ℕ → Message → List ℕ
no_signers_line file block m = shown_line (no_signers_text file block m)

-- one that is refused
abbrev pub refusal_line : List ℕ → Option ℕ → List ℕ → List ℕ
refusal_line file block reason = shown_line (front_text file block ++ reason)
