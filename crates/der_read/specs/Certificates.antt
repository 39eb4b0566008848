-- What is printed of a certificate.
use Rattle.std.specs.Prelude.{◌≡◌, ℕ, ◌-◌, ◌<◌, Bool, List, [], ◌∷◌, ◌++◌, length, Option, None, Some, if◌then◌else◌}
use Rattle.std.specs.Prelude.{codes, decimal, string_bytes}
use Rattle.hex.specs.Hex.{encode_lower}
use Rattle.serde_json.specs.Data.{Data, boolean, number, unsigned, string, object, member, no_members}
use Rattle.der_program_base.specs.Json.{json_line}
use Rattle.der_program_base.specs.declared.status.Status.{Status}
use Rattle.der_program_base.specs.declared.status.Status.TheVariants as status
use Rattle.der_types.specs.declared.date_time.DateTime.{DateTime}
use Rattle.der_types.specs.declared.utc_time.UtcTime as utc
use Rattle.der_types.specs.declared.object_identifier.ObjectIdentifier.{ObjectIdentifier}
use Rattle.der_types.specs.contracts.generated.integer.IntegerContents.TheImpl as integer
use Rattle.der_types.specs.DateTimes.{date_time_text}
use Rattle.der_types.specs.TimeContents.{fraction_of}
use Rattle.der_types.specs.TimeValues.{generalized_content}
use Rattle.der_x509.specs.declared.pkix1_explicit88.TbsCertificate.{TbsCertificate}
use Rattle.der_x509.specs.declared.pkix1_explicit88.Time.{Time}
use Rattle.der_x509.specs.declared.pkix1_explicit88.Time.TheVariants.{UtcTime, GeneralTime}
use Rattle.der_read.specs.declared.certificate.Summary.{Summary}
use Rattle.der_program_base.specs.declared.printed.Format.{Format}
use Rattle.der_program_base.specs.declared.printed.Format.TheVariants.{Text, Json}
use Rattle.der_read.specs.declared.outcome.Outcome.{Outcome}
use Rattle.der_read.specs.declared.outcome.Outcome.TheVariants as outcome
use Rattle.der_program_base.specs.declared.printed.Printed.{Printed}
use Rattle.der_read.specs.declared.explanation.Explanation.{Explanation}
use Rattle.der_read.specs.Names.{IsNameText, dotted_text}
use Rattle.der_read.specs.Outcome.{IsOutcome}
use Rattle.der_read.specs.Place.{place_text, block_data}
use Rattle.der_read.specs.Printed.{refusal_line}
use Rattle.der_read.specs.Explanation.{IsExplanationOf, explanation_text}

-- ---- members

-- A time, as 2026-11-27T23:12:00Z. It has no fraction of a second: its content has 15 characters.
abbrev pub IsTimeText : Time → List ℕ → Type 0
IsTimeText (UtcTime t) text = text ≡ date_time_text t.at
IsTimeText (GeneralTime t) text = (at : DateTime)
    × (generalized_content at (fraction_of t.value.content.items) ≡ t.value.content.items)
    × (text ≡ date_time_text at)

-- the name of an algorithm, if it has one, and its arcs
abbrev pub algorithm_text : Option (List ℕ) → ObjectIdentifier → List ℕ
algorithm_text (Some name) id = name ++ (codes " (" ++ (dotted_text id ++ codes ")"))
algorithm_text None id = dotted_text id

-- how many extensions the certificate has
abbrev pub extension_count : TbsCertificate → ℕ
extension_count c = elim c.extensions [ Some extensions ↦ length extensions.0.value.items | None ↦ 0 ]

-- what is printed of the members of a certificate
pub record IsSummary (c : TbsCertificate) (s : Summary) : Type 0 where
  pub subject : IsNameText c.subject (string_bytes s.subject)
  pub issuer : IsNameText c.issuer (string_bytes s.issuer)
  pub serial_number : string_bytes s.serial_number ≡ encode_lower (integer.ghosts.content c.serial_number)
  pub not_before : IsTimeText c.validity.not_before (string_bytes s.not_before)
  pub not_after : IsTimeText c.validity.not_after (string_bytes s.not_after)
  pub name : Option (List ℕ)
  pub key_algorithm : string_bytes s.key_algorithm ≡ algorithm_text name c.subject_public_key_info.algorithm.algorithm
  pub extensions : s.extensions ≡ extension_count c

-- ---- in words and in JSON

abbrev pub sameness_text : Bool → List ℕ
sameness_text is_same = if is_same then codes "same bytes" else codes "other bytes"

abbrev pub validity_text : Summary → List ℕ
validity_text s = string_bytes s.not_before ++ (codes " to " ++ string_bytes s.not_after)

abbrev pub key_text : Summary → List ℕ
key_text s = string_bytes s.key_algorithm ++ (codes "; " ++ (decimal s.extensions ++ codes " extensions"))

abbrev pub summary_text : Summary → Bool → List ℕ
summary_text s is_same =
    codes "ok "
    ++ (string_bytes s.subject
    ++ (codes "; " ++ (validity_text s ++ (codes "; " ++ (key_text s ++ (codes "; " ++ sameness_text is_same))))))

abbrev pub summary_data : List ℕ → Option ℕ → Summary → Bool → Data
summary_data file block s is_same =
    object
    (member (codes "block") (block_data block)
    (member (codes "extensions") (number (unsigned s.extensions))
    (member (codes "file") (string file)
    (member (codes "issuer") (string (string_bytes s.issuer))
    (member (codes "keyAlgorithm") (string (string_bytes s.key_algorithm))
    (member (codes "notAfter") (string (string_bytes s.not_after))
    (member (codes "notBefore") (string (string_bytes s.not_before))
    (member (codes "sameBytes") (boolean is_same) (member (codes "serialNumber") (string (string_bytes s.serial_number))
    (member (codes "subject") (string (string_bytes s.subject)) no_members))))))))))

abbrev pub summary_line : Format → List ℕ → Option ℕ → Summary → Bool → List ℕ
summary_line Text file block s is_same = place_text file block ++ summary_text s is_same
summary_line Json file block s is_same = json_line (summary_data file block s is_same)

-- so many of so many bytes are a certificate
abbrev pub left_over_text : ℕ → ℕ → List ℕ
left_over_text taken size =
    codes "refused at "
    ++ (decimal taken ++ (codes ": " ++ (decimal (size - taken) ++ codes " bytes after the certificate")))

-- ---- what is printed

-- the line on what came of reading these bytes
abbrev pub IsOutcomeLine : Format → List ℕ → Option ℕ → List ℕ → Outcome → List ℕ → Type 0
IsOutcomeLine format file block bytes (outcome.Read r) line = (s : Summary) × IsSummary r.certificate.tbs_certificate s
    × (line ≡ summary_line format file block s r.is_same)
IsOutcomeLine format file block bytes (outcome.Refused refusal) line =
    (reason : Explanation) × IsExplanationOf bytes refusal reason
    × (line ≡ refusal_line format file block (number (unsigned reason.offset))
    (codes "no certificate: " ++ explanation_text reason))
IsOutcomeLine format file block bytes (outcome.LeftOver taken) line =
    line ≡ refusal_line format file block (number (unsigned taken)) (left_over_text taken (length bytes))

abbrev pub outcome_status : Outcome → Status
outcome_status (outcome.Read r) = status.Fine
outcome_status o = status.Refused

-- the line on what came of reading these bytes, with the byte 0A at its end, and the status
pub record IsCertificatePrinted (format : Format) (file : List ℕ) (block : Option ℕ) (bytes : List ℕ)
    (p : Printed) : Type 0 where
  pub outcome : Outcome
  pub is : IsOutcome bytes outcome
  pub line : List ℕ
  pub is_line : IsOutcomeLine format file block bytes outcome line
  pub text : string_bytes p.text ≡ line ++ (0x0A ∷ [])
  pub status : p.status ≡ outcome_status outcome
