-- How many bytes a length has, and what reading a length returns.
use Rattle.std.proofs.Common.{◌≡◌, ◌≢◌, ℕ, zero, suc, ◌+◌, ◌-◌, ◌^◌, ◌<◌, ◌≤◌, false, List, [], ◌∷◌, ◌++◌, length, take}
use Rattle.std.proofs.Common.{drop, nat_lt, ◌==◌, if◌then◌else◌, Ok, Err, refl, sym, ap, ◌∙◌, subst, arith, inl, inr}
use Rattle.std.proofs.Common.{lt-ltb, le-ltb, ne_eqb, length-append, take-append-drop, length-take-le}
use Rattle.std.specs.Int.Digits.{number_from_digits}
use Rattle.std.proofs.lemmas.Int.Digits.{number_lt}
use Rattle.std.proofs.lemmas.Bool.{cases_lt, cases_eq}
use Rattle.std.proofs.Math.Nat.{pow-le-pow_right}
use Rattle.std.proofs.Math.Seq.{take-append_seam, drop-append_seam}
use Rattle.picky_der_core.specs.declared.error.Asn1DerError.{Asn1DerError}
use Rattle.picky_der_core.specs.declared.error.Asn1DerError.TheVariants.{InvalidData, UnsupportedValue}
use Rattle.picky_der_core.specs.Element.{big_endian, length_octets, IsPrefix, AreBytes}
use Rattle.picky_der_core.specs.BigEndianLaws.{number-big_endian, AreBytes-big_endian, big_endian-number}
use Rattle.picky_der_core.specs.BigEndianLaws.{big_endian-as_many, length-big_endian, big_endian-least}
use Rattle.picky_der_core.specs.ElementLaws.{length_octets-short, length_octets-long}
use Rattle.picky_der_core.specs.Refusal.{Refusal, ReadOutcome, long_length, begins_with_zero, length_of}
use Rattle.picky_der_core.specs.Lengths.{IsLongCount}

-- ---- how many bytes a length has

-- below 128 one
pub length-length_octets-short : (n : ℕ) → n < 0x80 → length (length_octets n) ≡ 1
length-length_octets-short n h = ap length (length_octets-short n h)

-- from 128 on one, and the bytes of the number
pub length-length_octets-long : (n : ℕ) → 0x80 ≤ n → length (length_octets n) ≡ 1 + length (big_endian n)
length-length_octets-long n h = ap length (length_octets-long n h) ∙ omega arith

-- ---- what reading a length returns, by its first byte

-- one byte
pub length_of-short : (lacking : Asn1DerError) (first : ℕ) (rest : List ℕ) → first < 0x80
    → length_of lacking (first ∷ rest) ≡ Ok (first, rest)
length_of-short lacking first rest h = rw (lt-ltb first 0x80 h) refl

-- the long form with no length byte
pub length_of-none : (lacking : Asn1DerError) (first : ℕ) (rest : List ℕ) → first ≡ 0x80
    → length_of lacking (first ∷ rest) ≡ Err (InvalidData, rest)
length_of-none lacking first rest e = ap (λ b. length_of lacking (b ∷ rest)) e

-- with more than eight
pub length_of-too_many : (lacking : Asn1DerError) (first : ℕ) (rest : List ℕ) → 0x88 < first
    → length_of lacking (first ∷ rest) ≡ Err (UnsupportedValue, rest)
length_of-too_many lacking first rest h =
    let long : nat_lt first 0x80 ≡ false = le-ltb first 0x80 (omega arith) in
    let some : (first == 0x80) ≡ false = ne_eqb first 0x80 (λ e. omega arith) in
    rw (long, some, lt-ltb 0x88 first h) refl

-- with as many as the first byte says, if they are there
length_of-counted : (lacking : Asn1DerError) (first k : ℕ) (bs : List ℕ) → IsLongCount first k
    → length_of lacking (first ∷ bs)
    ≡ (if nat_lt (length bs) k then Err (lacking, []) else long_length (number_from_digits 256 (take k bs))
    (begins_with_zero (take k bs)) (drop k bs))
length_of-counted lacking first k bs count =
    let long : nat_lt first 0x80 ≡ false = le-ltb first 0x80 (omega arith) in
    let some : (first == 0x80) ≡ false = ne_eqb first 0x80 (λ e. omega arith) in
    let few : nat_lt 0x88 first ≡ false = le-ltb 0x88 first (omega arith) in
    let consumed : first - 0x80 ≡ k = omega arith in
    rw (long, some, few, consumed) refl

-- fewer are there
pub length_of-cut : (lacking : Asn1DerError) (first k : ℕ) (bs : List ℕ) → IsLongCount first k → length bs < k
    → length_of lacking (first ∷ bs) ≡ Err (lacking, [])
length_of-cut lacking first k bs count h = length_of-counted lacking first k bs count ∙ rw (lt-ltb (length bs) k h) refl

-- all are there
length_of-long : (lacking : Asn1DerError) (first k : ℕ) (ds rest : List ℕ) → IsLongCount first k → length ds ≡ k
    → length_of lacking (first ∷ ds ++ rest) ≡ long_length (number_from_digits 256 ds) (begins_with_zero ds) rest
length_of-long lacking first k ds rest count e =
    let there : nat_lt (length (ds ++ rest)) (length ds) ≡ false = le-ltb _ _ (omega (arith, length-append ds rest)) in
    length_of-counted lacking first k (ds ++ rest) count
    ∙ rw (← e, there, take-append_seam ds rest, drop-append_seam ds rest) refl

-- a length of more than one byte has the bytes of its number
long-from_size : (n k : ℕ) → 0 < k → length (length_octets n) ≡ 1 + k → (0x80 ≤ n) × (length (big_endian n) ≡ k)
long-from_size n k some e = elim (cases_lt n 0x80) [
  | inl short ↦ absurd (omega (arith, length-length_octets-short n short))
  | inr long ↦ (long, omega (arith, length-length_octets-long n long))
]

-- no 0 in front and no number below 128 if the length has as many bytes
long_length-shortest : (ds rest : List ℕ) → 0 < length ds → AreBytes ds
    → length (length_octets (number_from_digits 256 ds)) ≡ 1 + length ds
    → long_length (number_from_digits 256 ds) (begins_with_zero ds) rest ≡ Ok (number_from_digits 256 ds, rest)
long_length-shortest [] rest some h e = absurd (omega arith)
long_length-shortest (zero ∷ ds) rest some h e =
    let size = (long-from_size _ _ some e).1 in
    absurd (omega (arith, length-big_endian (length ds) (number_from_digits 256 ds) (number_lt 256 ds h.1)))
long_length-shortest (suc d ∷ ds) rest some h e =
    rw (ne_eqb (suc d) 0 (λ z. omega arith), le-ltb _ _ (long-from_size _ _ some e).0) refl

-- one of the two if it has others
long_length-longer : (ds rest : List ℕ) → 0 < length ds → AreBytes ds
    → length (length_octets (number_from_digits 256 ds)) ≢ 1 + length ds
    → long_length (number_from_digits 256 ds) (begins_with_zero ds) rest ≡ Err (InvalidData, rest)
long_length-longer [] rest some h e = absurd (omega arith)
long_length-longer (zero ∷ ds) rest some h e = refl
long_length-longer (suc d ∷ ds) rest some h e = elim (cases_lt (number_from_digits 256 (suc d ∷ ds)) 0x80) [
  | inl short ↦ rw (ne_eqb (suc d) 0 (λ z. omega arith), lt-ltb _ _ short) refl
  | inr long ↦ absurd
      (e (length-length_octets-long _ long ∙ ap (λ l. 1 + length l) (big_endian-number (suc d) ds (omega arith) h)))
]

-- the length of the number has as many bytes
pub length_of-shortest : (lacking : Asn1DerError) (first k : ℕ) (ds rest : List ℕ) → IsLongCount first k → length ds ≡ k
    → AreBytes ds → length (length_octets (number_from_digits 256 ds)) ≡ 1 + k
    → length_of lacking (first ∷ ds ++ rest) ≡ Ok (number_from_digits 256 ds, rest)
length_of-shortest lacking first k ds rest count e h size =
    length_of-long lacking first k ds rest count e ∙ long_length-shortest ds rest (omega arith) h (omega arith)

-- and then it is these
pub length_octets-number : (first k : ℕ) (ds : List ℕ) → IsLongCount first k → length ds ≡ k → AreBytes ds
    → length (length_octets (number_from_digits 256 ds)) ≡ 1 + k
    → length_octets (number_from_digits 256 ds) ≡ first ∷ ds
length_octets-number first k ds count e h size =
    let (long, as_many) = long-from_size (number_from_digits 256 ds) k count.some size in
    rw (length_octets-long (number_from_digits 256 ds) long, big_endian-as_many ds h (omega arith), e, ← count.is) refl

-- it has fewer bytes
pub length_of-longer : (lacking : Asn1DerError) (first k : ℕ) (ds rest : List ℕ) → IsLongCount first k → length ds ≡ k
    → AreBytes ds → length (length_octets (number_from_digits 256 ds)) ≢ 1 + k
    → length_of lacking (first ∷ ds ++ rest) ≡ Err (InvalidData, rest)
length_of-longer lacking first k ds rest count e h size =
    length_of-long lacking first k ds rest count e
    ∙ long_length-longer ds rest (omega arith) h (λ same. size (omega arith))

-- ---- lengths are read, and nothing else

-- what is written is read
pub length_of-length_octets : (lacking : Asn1DerError) (n : ℕ) (rest : List ℕ) → n < 2 ^ 64
    → length_of lacking (length_octets n ++ rest) ≡ Ok (n, rest)
length_of-length_octets lacking n rest h = elim (cases_lt n 0x80) [
  | inl short ↦ rw (length_octets-short n short) (length_of-short lacking n rest short)
  | inr long ↦
      let ds = big_endian n in
      let count : IsLongCount (0x80 + length ds) (length ds) =
      record { is = refl; some = big_endian-least 0 n (omega arith); most = length-big_endian 8 n (omega arith) } in
      let size : length (length_octets (number_from_digits 256 ds)) ≡ 1 + length ds =
      rw (number-big_endian n) (length-length_octets-long n long) in
      rw (length_octets-long n long) (length_of-shortest lacking (0x80 + length ds) (length ds) ds rest count refl
      (AreBytes-big_endian n) size ∙ ap (λ m. Ok (m, rest)) (number-big_endian n))
]

-- a front of bytes is bytes
consumed_bytes : (k : ℕ) (bs : List ℕ) → AreBytes bs → AreBytes (take k bs)
consumed_bytes zero [] h = tt
consumed_bytes (suc k) [] h = tt
consumed_bytes zero (b ∷ bs) h = tt
consumed_bytes (suc k) (b ∷ bs) h = (h.0, consumed_bytes k bs h.1)

-- if none is read, none is there
pub no_length_begins : (lacking : Asn1DerError) (bs : List ℕ) (e : Refusal) → length_of lacking bs ≡ Err e → (n : ℕ)
    → n < 2 ^ 64 → IsPrefix (length_octets n) bs → ⊥
no_length_begins lacking bs e refused n h there =
    let read : length_of lacking bs ≡ Ok (n, there.rest) = ap (length_of lacking) there.is
    ∙ length_of-length_octets lacking n there.rest h in
    cc
