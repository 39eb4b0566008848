-- A length and an element say where they end, and what they hold.
use Rattle.std.proofs.Common.{◌≡◌, ℕ, ◌+◌, ◌^◌, ◌<◌, ◌≤◌, Bool, true, false, cond, List, [], ◌∷◌, ◌++◌, length, nat_lt}
use Rattle.std.proofs.Common.{refl, ap, arith, append_assoc, length-append, lt-ltb, ltb-true, inl, inr}
use Rattle.std.proofs.lemmas.Bool.{ltb-false, cases_lt}
use Rattle.picky_der_core.specs.Element.{big_endian, length_octets, tlv, AreBytes}
use Rattle.picky_der_core.specs.BigEndianLaws.{big_endian-same, length-big_endian, AreBytes-big_endian}

-- lists that are as long and begin one list are the same
pub same_front : (xs ys a b : List ℕ) → length xs ≡ length ys → xs ++ a ≡ ys ++ b → (xs ≡ ys) × (a ≡ b)
same_front [] [] a b l e = (refl, e)
same_front (x ∷ xs) (y ∷ ys) a b l e =
    let others = same_front xs ys a b (omega arith) (cc) in
    (cc, others.1)
same_front [] (y ∷ ys) a b l e = absurd (omega arith)
same_front (x ∷ xs) [] a b l e = absurd (omega arith)

-- ---- lengths

pub length_octets-short : (n : ℕ) → n < 0x80 → length_octets n ≡ n ∷ []
unfolding length_octets
length_octets-short n h = rw (lt-ltb n 0x80 h) refl

is_long : (n : ℕ) → 0x80 ≤ n → (b : Bool) → nat_lt n 0x80 ≡ b → b ≡ false
is_long n h false e = refl
is_long n h true e = absurd (omega (arith, ltb-true))

pub length_octets-long : (n : ℕ) → 0x80 ≤ n → length_octets n ≡ (0x80 + length (big_endian n)) ∷ big_endian n
unfolding length_octets
length_octets-long n h = rw (is_long n h (nat_lt n 0x80) refl) refl

-- a length has at most nine bytes
pub length-length_octets : (n : ℕ) → n < 2 ^ 64 → length (length_octets n) ≤ 9
length-length_octets n h = by_form (nat_lt n 0x80) refl
  where
    by_form : (b : Bool) → nat_lt n 0x80 ≡ b → length (length_octets n) ≤ 9
    by_form true e = rw (length_octets-short n (omega (arith, ltb-true))) (omega arith)
    by_form false e =
        let most = length-big_endian 8 n (omega arith) in
        rw (length_octets-long n (ltb-false n 0x80 e)) (omega (arith, most))

-- no length begins another
pub length_octets_prefix : (m n : ℕ) (a b : List ℕ) → length_octets m ++ a ≡ length_octets n ++ b → (m ≡ n) × (a ≡ b)
unfolding length_octets
length_octets_prefix m n a b = by_form (nat_lt m 0x80) (nat_lt n 0x80) refl refl
  where
    by_form : (p q : Bool) → nat_lt m 0x80 ≡ p → nat_lt n 0x80 ≡ q
        → cond p (m ∷ []) ((0x80 + length (big_endian m)) ∷ big_endian m) ++ a ≡ cond q (n ∷ [])
        ((0x80 + length (big_endian n)) ∷ big_endian n) ++ b → (m ≡ n) × (a ≡ b)
    by_form true true s t e = (cc, cc)
    by_form true false s t e = let h : m ≡ 0x80 + length (big_endian n) = cc in absurd (omega (arith, ltb-true))
    by_form false true s t e = let h : n ≡ 0x80 + length (big_endian m) = cc in absurd (omega (arith, ltb-true))
    by_form false false s t e =
        let k : 0x80 + length (big_endian m) ≡ 0x80 + length (big_endian n) = cc in
        let h : big_endian m ++ a ≡ big_endian n ++ b = cc in
        let parts = same_front (big_endian m) (big_endian n) a b (omega arith) h in
        (big_endian-same m n parts.0, parts.1)

-- ---- elements

pub length-tlv : (x : ℕ) (c : List ℕ) → length c < 2 ^ 64 → length (tlv x c) ≤ 10 + length c
unfolding tlv
length-tlv x c h = omega (arith, length-append (length_octets (length c)) c, length-length_octets (length c) h)

-- no element begins another
pub tlv_prefix : (x y : ℕ) (c d a b : List ℕ) → tlv x c ++ a ≡ tlv y d ++ b → (x ≡ y) × (c ≡ d) × (a ≡ b)
unfolding tlv
tlv_prefix x y c d a b e =
    let g : (length_octets (length c) ++ c) ++ a ≡ (length_octets (length d) ++ d) ++ b = cc in
    let h : length_octets (length c) ++ (c ++ a) ≡ length_octets (length d) ++ (d ++ b) = simp append_assoc at g in
    let sizes = length_octets_prefix (length c) (length d) (c ++ a) (d ++ b) h in
    let parts = same_front c d a b sizes.0 sizes.1 in
    (cc, parts.0, parts.1)

pub tlv-same : (x y : ℕ) (c d : List ℕ) → tlv x c ≡ tlv y d → (x ≡ y) × (c ≡ d)
tlv-same x y c d e =
    let h : tlv x c ++ [] ≡ tlv y d ++ [] = ap (λ b. b ++ []) e in
    let parts = tlv_prefix x y c d [] [] h in
    (parts.0, parts.1)

-- ---- what is made of bytes

-- bytes after bytes
pub bytes_then : (xs ys : List ℕ) → AreBytes xs → AreBytes ys → AreBytes (xs ++ ys)
bytes_then [] ys h k = k
bytes_then (x ∷ xs) ys h k = (h.0, bytes_then xs ys h.1 k)

pub second_bytes : (xs ys : List ℕ) → AreBytes (xs ++ ys) → AreBytes ys
second_bytes [] ys h = h
second_bytes (x ∷ xs) ys h = second_bytes xs ys h.1

pub length_bytes : (n : ℕ) → n < 2 ^ 64 → AreBytes (length_octets n)
length_bytes n small = elim (cases_lt n 0x80) [
  | inl short ↦ rw (length_octets-short n short) (omega arith, tt)
  | inr long ↦ rw (length_octets-long n long) (
    omega (arith, length-big_endian 8 n (omega arith)),
    AreBytes-big_endian n,
  )
]

-- an element is made of bytes if its content is
pub element_bytes : (tag : ℕ) (c : List ℕ) → tag < 256 → length c < 2 ^ 64 → AreBytes c → AreBytes (tlv tag c)
unfolding tlv
element_bytes tag c byte small h = (byte, bytes_then (length_octets (length c)) c (length_bytes (length c) small) h)

pub content_bytes : (tag : ℕ) (c : List ℕ) → AreBytes (tlv tag c) → AreBytes c
unfolding tlv
content_bytes tag c h = second_bytes (length_octets (length c)) c h.1
