-- What comes of reading bytes as a certificate.
use Rattle.std.specs.Prelude.{◌≢◌, ℕ, ◌<◌, List, length, take, IsTrue}
use Rattle.picky_der_core.specs.declared.error.Asn1DerError.TheVariants.{OutOfMemory}
use Rattle.picky_der_core.specs.Reading.{ReadsFrom}
use Rattle.picky_der_de.specs.declared.whole_input.DecodeError.{DecodeError}
use Rattle.picky_der_de.specs.Whole.{IsWhole, IsNoEncoding}
use Rattle.der_x509.specs.declared.pkix1_explicit88.Certificate.{Certificate}
use Rattle.der_x509.specs.contracts.pkix1_explicit88.CertificateSerialize.TheImpl as certificate_written
use Rattle.der_x509.specs.contracts.pkix1_explicit88.CertificateDeserialize.TheImpl as certificate_read
use Rattle.der_x509.specs.contracts.pkix1_explicit88.CertificatePartialEq.TheImpl as certificate_compared
use Rattle.der_read.specs.declared.outcome.Reading.{Reading}
use Rattle.der_read.specs.declared.outcome.Outcome.{Outcome}
use Rattle.der_read.specs.declared.outcome.Outcome.TheVariants as outcome

-- the certificate whose encoding the bytes are
abbrev pub IsCertificate : List ℕ → Certificate → Type 0
IsCertificate bytes c = IsWhole certificate_written.ghosts.meaning certificate_read.ghosts.shape
    certificate_compared.ghosts.eq bytes c

-- they are none's, as was found at this position
abbrev pub IsNoCertificate : List ℕ → DecodeError → Type 0
IsNoCertificate bytes r = IsNoEncoding certificate_written.ghosts.meaning certificate_read.ghosts.shape bytes r.error
    r.position

-- ---- the outcomes

-- The bytes are a certificate, and it is written as they were read.
pub record IsReading (bytes : List ℕ) (r : Reading) : Type 0 where
  pub certificate : IsCertificate bytes r.certificate
  pub same : IsTrue r.is_same

-- the bytes are no certificate, and begin with none
pub record IsRefused (bytes : List ℕ) (r : DecodeError) : Type 0 where
  pub refused : IsNoCertificate bytes r
  pub none : (c : Certificate) → ReadsFrom certificate_written.ghosts.meaning certificate_read.ghosts.shape bytes
      (length bytes) c → ⊥
  pub memory : r.error ≢ OutOfMemory

-- so many of the bytes are a certificate, and others follow it
pub record IsLeftOver (bytes : List ℕ) (taken : ℕ) : Type 0 where
  pub certificate : Certificate
  pub front : IsCertificate (take taken bytes) certificate
  pub more : taken < length bytes

abbrev pub IsOutcome : List ℕ → Outcome → Type 0
IsOutcome bytes (outcome.Read r) = IsReading bytes r
IsOutcome bytes (outcome.Refused r) = IsRefused bytes r
IsOutcome bytes (outcome.LeftOver taken) = IsLeftOver bytes taken
