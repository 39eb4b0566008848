-- What is known of bytes that were read whole, and of bytes that were refused.
use Rattle.std.proofs.Common.{◌≡◌, ◌≢◌, ℕ, ◌^◌, ◌<◌, inl, inr, Bool, List, length, subst, ◌∙◌, ap, arith}
use Rattle.std.specs.Prelude.{take}
use Rattle.std.proofs.Math.Nat.{eq-or-lt_of_le}
use Rattle.std.proofs.Math.Seq.{take-length, take-append_seam}
use Rattle.picky_der_core.specs.declared.error.Asn1DerError.{Asn1DerError}
use Rattle.picky_der_core.specs.declared.error.Asn1DerError.TheVariants.{OutOfMemory}
use Rattle.picky_der_core.specs.Tree.{Tree}
use Rattle.picky_der_core.specs.Encoding.{der}
use Rattle.picky_der_core.specs.Readable.{IsWritable}
use Rattle.picky_der_core.specs.ReadableLaws.{readable-writable}
use Rattle.picky_der_core.specs.Reading.{ReadsFrom}
use Rattle.picky_der_core.specs.Shape.{Shape}
use Rattle.picky_der_de.specs.Whole.{IsWhole, IsNoEncoding}

-- ---- refused

module _ {V : Type 0} {meaning : V → Tree} {s : Shape} {bytes : List ℕ} {e : Asn1DerError} {position : ℕ}
    (refused : IsNoEncoding meaning s bytes e position) (memory : e ≢ OutOfMemory) where
  -- a value before the position leaves some bytes after it
  pub more_left : {eq : V → V → Bool} {v : V} → IsWhole meaning s eq (take position bytes) v → position < length bytes
  more_left {eq} {v} front = elim (eq-or-lt_of_le refused.within) [
    | inl all ↦ let whole : IsWhole meaning s eq bytes v =
        subst (λ z. IsWhole meaning s eq z v) (ap (λ n. take n bytes) all ∙ take-length bytes) front in
        absurd (refused.none memory v whole.is)
    | inr some ↦ some
  ]

  -- if there is none before it, none is at the front
  pub none_at_front : {f : Asn1DerError} {other : ℕ} → IsNoEncoding meaning s (take position bytes) f other
      → f ≢ OutOfMemory → (v : V) → ReadsFrom meaning s bytes (length bytes) v → ⊥
  none_at_front front kept v reads =
      let size : position ≡ length (der (meaning v)) = (refused.left_over memory v reads).1 in
      let encoding : take position bytes ≡ der (meaning v) = ap (λ n. take n bytes) size
      ∙ ap (λ z. take (length (der (meaning v))) z) reads.front.is
      ∙ take-append_seam (der (meaning v)) reads.front.rest in
      front.none kept v (record { of_shape = reads.of_shape; readable = reads.readable; encoding = encoding })

-- ---- writing again

-- what was read can be written
pub whole_writable : {V : Type 0} {meaning : V → Tree} {s : Shape} {eq : V → V → Bool} {bytes : List ℕ} {v : V}
    → IsWhole meaning s eq bytes v → length bytes < 2 ^ 64 → IsWritable (meaning v)
whole_writable {meaning = meaning} {bytes = bytes} {v = v} w small =
    let size : length bytes ≡ length (der (meaning v)) = ap length w.is.encoding in
    readable-writable (meaning v) w.is.readable (omega (arith, size, small))
