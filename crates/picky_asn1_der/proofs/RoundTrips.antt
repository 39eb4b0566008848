-- What is written of a readable value is read again.
use Rattle.std.proofs.Common.{◌≡◌, ◌≢◌, ℕ, ◌^◌, ◌<◌, List, [], length, Bool, sym, ap, ◌∙◌, arith, append-nil}
use Rattle.std.proofs.Common.{subst}
use Rattle.picky_der_core.specs.declared.error.Asn1DerError.{Asn1DerError}
use Rattle.picky_der_core.specs.declared.error.Asn1DerError.TheVariants.{OutOfMemory, TruncatedData}
use Rattle.picky_der_core.specs.Tree.{Tree}
use Rattle.picky_der_core.specs.Encoding.{der}
use Rattle.picky_der_core.specs.Readable.{IsReadable, IsWritable}
use Rattle.picky_der_core.specs.ReadableLaws.{readable-writable}
use Rattle.picky_der_core.specs.Shape.{Shape}
use Rattle.picky_der_core.specs.Reading.{ReadsFrom}
use Rattle.picky_der_ser.specs.Calls.{MemoryExcuse}
use Rattle.picky_der_de.specs.Entry.{HasNoFront}
use Rattle.picky_der_de.specs.Steps.{IsOther}
use Rattle.picky_der_de.specs.Facts.{Facts, Proved, is_lawful}

pub reads_encoding : {V : Type 0} {meaning : V → Tree} {eq : V → V → Bool} {s : Shape} (facts : Facts V s)
    → Proved facts meaning eq → (v : V) (bytes : List ℕ) → IsReadable (meaning v) → bytes ≡ der (meaning v)
    → ReadsFrom meaning s bytes (length bytes) v
reads_encoding {meaning = meaning} facts proved v bytes readable is = record {
  of_shape = (is_lawful facts proved).has_shape v readable;
  readable = readable;
  may_be_there = tt;
  within = omega (arith, ap length is);
  front = record { rest = []; is = is ∙ sym (append-nil (der (meaning v))) };
}

-- a value that was read can be written, but for an allocation that fails
pub read_is_written : {V : Type 0} (meaning : V → Tree) {s : Shape} (bytes : List ℕ) {v : V} {e : Asn1DerError}
    → length bytes < 2 ^ 64 → ReadsFrom meaning s bytes (length bytes) v → MemoryExcuse (IsWritable (meaning v)) e
    → e ≢ OutOfMemory → ⊥
read_is_written meaning bytes small h (MemoryExcuse.no_room is) other = other is
read_is_written meaning bytes {v = v} small h (MemoryExcuse.no_way is impossible) other =
    impossible (readable-writable (meaning v) h.readable (omega (arith, small, h.within)))

-- so no other error comes of writing it
pub has_no_front : {V : Type 0} (meaning : V → Tree) {s : Shape} (bytes : List ℕ) {v : V} {e : Asn1DerError}
    → length bytes < 2 ^ 64 → ReadsFrom meaning s bytes (length bytes) v → MemoryExcuse (IsWritable (meaning v)) e
    → HasNoFront meaning s bytes (length bytes) e
has_no_front meaning bytes {e = e} small h excuse =
    let memory : e ≢ OutOfMemory → ⊥ = read_is_written meaning bytes small h excuse in
    record {
      none = λ other w there. memory other;
      final = λ other more. absurd (memory other);
      first = λ cut some b left starts. absurd (memory (λ (o : e ≡ OutOfMemory).
          let q : TruncatedData ≡ OutOfMemory = sym cut ∙ o in cc));
      no_fault = λ device. memory (λ (o : e ≡ OutOfMemory). subst IsOther o device);
    }
