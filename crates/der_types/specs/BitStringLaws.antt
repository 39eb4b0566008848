-- Each list of bits has one content, and each content is one of a list of bits.
use Rattle.picky_der_core.specs.Element.{AreBytes}
use Rattle.std.proofs.Common.{◌≡◌, ℕ, zero, suc, ◌+◌, ◌-◌, ◌*◌, ◌/◌, ◌%◌, ◌^◌, ◌<◌, ◌≤◌, ◌==◌, Bool, true, false, not}
use Rattle.std.proofs.Common.{◌&&◌, ◌||◌, List, [], ◌∷◌, ◌++◌, length, take, drop, replicate, nat_lt, get_or, Some}
use Rattle.std.proofs.Common.{None, refl, sym, ap, subst, ◌∙◌, inl, inr, arith, min, lt-ltb, ltb-true, eqb-true}
use Rattle.std.proofs.Common.{append-nil, length-append}
use Rattle.std.specs.Prelude.{slice_index, slice_get}
use Rattle.std.specs.List.{flat_map}
use Rattle.std.proofs.lemmas.Bool.{cases_lt}
use Rattle.std.proofs.lemmas.List.{length-take-le, take_all, drop_all, get_or-take}
use Rattle.std.proofs.lemmas.Option.{slice_get-get_or}
use Rattle.std.proofs.lemmas.List.Concat.{get_or-flat_map}
use Rattle.std.proofs.Math.Seq.{take-append_seam, drop-append_seam, take-append-add}
use Rattle.der_types.specs.BitString.{weigh, octets, bit_string_content, is_bit_string, is_bit_set, is_named_bits}
use Rattle.der_types.specs.BitString.{byte_bit, byte_bits, bits_of, unless_zeros, without_zeros}

-- ---- tests of all bytes, and of all lists of up to eight bits

both : (p q : Bool) → (p && q) ≡ true → (p ≡ true) × (q ≡ true)
both true q e = (refl, e)
both false q e = cc

abbrev below : ℕ → (ℕ → Bool) → Bool
below zero p = true
below (suc n) p = p n && below n p

at_below : (n : ℕ) (p : ℕ → Bool) → below n p ≡ true → (k : ℕ) → k < n → p k ≡ true
at_below zero p e k h = absurd (omega arith)
at_below (suc n) p e k h = elim (cases_lt k n) [
  | inl low ↦ at_below n p (both (p n) (below n p) e).1 k low
  | inr high ↦ let same : n ≡ k = omega arith in subst (λ k. p k ≡ true) same (both (p n) (below n p) e).0
]

abbrev each : ℕ → (List Bool → Bool) → Bool
each zero p = p []
each (suc n) p = each n (λ bits. p (true ∷ bits)) && each n (λ bits. p (false ∷ bits))

at_each : (n : ℕ) (p : List Bool → Bool) → each n p ≡ true → (bits : List Bool) → length bits ≡ n → p bits ≡ true
at_each zero p e [] h = e
at_each zero p e (b ∷ bits) h = absurd (omega arith)
at_each (suc n) p e [] h = absurd (omega arith)
at_each (suc n) p e (true ∷ bits) h =
    at_each n (λ bits. p (true ∷ bits)) (both (each n (λ bits. p (true ∷ bits))) (each n (λ bits. p (false ∷ bits)))
    e).0 bits (omega arith)
at_each (suc n) p e (false ∷ bits) h =
    at_each n (λ bits. p (false ∷ bits)) (both (each n (λ bits. p (true ∷ bits))) (each n (λ bits. p (false ∷ bits)))
    e).1 bits (omega arith)

abbrev same_bit : Bool → Bool → Bool
same_bit true c = c
same_bit false c = not c

abbrev same_bits : List Bool → List Bool → Bool
same_bits [] [] = true
same_bits [] (c ∷ cs) = false
same_bits (b ∷ bs) [] = false
same_bits (b ∷ bs) (c ∷ cs) = same_bit b c && same_bits bs cs

same_bits-true : (xs ys : List Bool) → same_bits xs ys ≡ true → xs ≡ ys
same_bits-true [] [] e = refl
same_bits-true [] (c ∷ cs) e = cc
same_bits-true (b ∷ bs) [] e = cc
same_bits-true (true ∷ bs) (true ∷ cs) e = ap (λ bs. true ∷ bs) (same_bits-true bs cs e)
same_bits-true (true ∷ bs) (false ∷ cs) e = cc
same_bits-true (false ∷ bs) (true ∷ cs) e = cc
same_bits-true (false ∷ bs) (false ∷ cs) e = ap (λ bs. false ∷ bs) (same_bits-true bs cs e)

-- ---- one byte

-- what up to eight bits weigh: a byte with them before zeros
abbrev is_weighed : ℕ → List Bool → Bool
is_weighed n bits = same_bits (byte_bits (weigh 128 bits)) (bits ++ replicate (8 - n) false) &&
    (weigh 128 bits % 2 ^ (8 - n) == 0)

weighed : (n : ℕ) → each n (is_weighed n) ≡ true → (bits : List Bool) → length bits ≡ n
    → (byte_bits (weigh 128 bits) ≡ bits ++ replicate (8 - n) false) × (weigh 128 bits % 2 ^ (8 - n) ≡ 0)
weighed n e bits h =
    let parts = both (same_bits (byte_bits (weigh 128 bits)) (bits ++ replicate (8 - n) false))
    (weigh 128 bits % 2 ^ (8 - n) == 0) (at_each n (is_weighed n) e bits h) in (
      same_bits-true (byte_bits (weigh 128 bits)) (bits ++ replicate (8 - n) false) parts.0,
      eqb-true (weigh 128 bits % 2 ^ (8 - n)) 0 parts.1,
    )

byte_weighed : (b : ℕ) → b < 256 → weigh 128 (byte_bits b) ≡ b
byte_weighed b h = eqb-true (weigh 128 (byte_bits b)) b (at_below 256 (λ b. weigh 128 (byte_bits b) == b) refl b h)

-- ---- bytes of bits

pub flat_map-octets : (bits : List Bool)
    → flat_map byte_bits (octets bits) ≡ bits ++ replicate (8 * length (octets bits) - length bits) false
flat_map-octets [] = refl
flat_map-octets (a ∷ []) = (weighed 1 refl (a ∷ []) refl).0
flat_map-octets (a ∷ b ∷ []) = (weighed 2 refl (a ∷ b ∷ []) refl).0
flat_map-octets (a ∷ b ∷ c ∷ []) = (weighed 3 refl (a ∷ b ∷ c ∷ []) refl).0
flat_map-octets (a ∷ b ∷ c ∷ d ∷ []) = (weighed 4 refl (a ∷ b ∷ c ∷ d ∷ []) refl).0
flat_map-octets (a ∷ b ∷ c ∷ d ∷ e ∷ []) = (weighed 5 refl (a ∷ b ∷ c ∷ d ∷ e ∷ []) refl).0
flat_map-octets (a ∷ b ∷ c ∷ d ∷ e ∷ f ∷ []) = (weighed 6 refl (a ∷ b ∷ c ∷ d ∷ e ∷ f ∷ []) refl).0
flat_map-octets (a ∷ b ∷ c ∷ d ∷ e ∷ f ∷ g ∷ []) = (weighed 7 refl (a ∷ b ∷ c ∷ d ∷ e ∷ f ∷ g ∷ []) refl).0
flat_map-octets (a ∷ b ∷ c ∷ d ∷ e ∷ f ∷ g ∷ h ∷ bits) =
    let first = a ∷ b ∷ c ∷ d ∷ e ∷ f ∷ g ∷ h ∷ [] in
    let one : byte_bits (weigh 128 first) ≡ first = (weighed 8 refl first refl).0 in
    let zeros : 8 * length (octets bits) - length bits
    ≡ 8 * length (octets (a ∷ b ∷ c ∷ d ∷ e ∷ f ∷ g ∷ h ∷ bits)) - length (a ∷ b ∷ c ∷ d ∷ e ∷ f ∷ g ∷ h ∷ bits) =
    omega arith in
    ap (λ bs. bs ++ flat_map byte_bits (octets bits)) one ∙ ap (λ bs. first ++ bs) (flat_map-octets bits)
    ∙ ap (λ n. first ++ (bits ++ replicate n false)) zeros

pub length-octets-ge : (bits : List Bool) → length bits ≤ 8 * length (octets bits)
length-octets-ge [] = omega arith
length-octets-ge (a ∷ []) = omega arith
length-octets-ge (a ∷ b ∷ []) = omega arith
length-octets-ge (a ∷ b ∷ c ∷ []) = omega arith
length-octets-ge (a ∷ b ∷ c ∷ d ∷ []) = omega arith
length-octets-ge (a ∷ b ∷ c ∷ d ∷ e ∷ []) = omega arith
length-octets-ge (a ∷ b ∷ c ∷ d ∷ e ∷ f ∷ []) = omega arith
length-octets-ge (a ∷ b ∷ c ∷ d ∷ e ∷ f ∷ g ∷ []) = omega arith
length-octets-ge (a ∷ b ∷ c ∷ d ∷ e ∷ f ∷ g ∷ h ∷ bits) = omega (arith, length-octets-ge bits)

pub bits_of-content : (bits : List Bool) → bits_of (bit_string_content bits) ≡ bits
bits_of-content bits =
    let all : 8 * length (octets bits) - (8 * length (octets bits) - length bits) ≡ length bits =
    omega (arith, length-octets-ge bits) in
    ap (λ n. take n (flat_map byte_bits (octets bits))) all ∙ ap (take (length bits)) (flat_map-octets bits)
    ∙ take-append_seam bits (replicate (8 * length (octets bits) - length bits) false)

-- a byte at a time
pub octets-step : (bits : List Bool) → 0 < length bits → octets bits ≡ weigh 128 (take 8 bits) ∷ octets (drop 8 bits)
octets-step [] h = absurd (omega arith)
octets-step (a ∷ []) i = refl
octets-step (a ∷ b ∷ []) i = refl
octets-step (a ∷ b ∷ c ∷ []) i = refl
octets-step (a ∷ b ∷ c ∷ d ∷ []) i = refl
octets-step (a ∷ b ∷ c ∷ d ∷ e ∷ []) i = refl
octets-step (a ∷ b ∷ c ∷ d ∷ e ∷ f ∷ []) i = refl
octets-step (a ∷ b ∷ c ∷ d ∷ e ∷ f ∷ g ∷ []) i = refl
octets-step (a ∷ b ∷ c ∷ d ∷ e ∷ f ∷ g ∷ h ∷ bits) i = refl

pub octets-append : (xs ys : List Bool) → 0 < length (xs ++ ys) → length xs ≡ min 8 (length (xs ++ ys))
    → octets (xs ++ ys) ≡ weigh 128 xs ∷ octets ys
octets-append xs ys some e =
    let sum = length-append xs ys in
    elim (cases_lt (length xs) 8) [
      | inl few ↦
          let none : ys ≡ [] = empty ys (omega arith) in
          let all : xs ++ ys ≡ xs = ap (λ zs. xs ++ zs) none ∙ append-nil xs in
          let front : take 8 xs ≡ xs = take_all 8 xs (omega arith) in
          let after : drop 8 xs ≡ [] = drop_all 8 xs (omega arith) in
          octets-step (xs ++ ys) some ∙ ap (λ zs. weigh 128 (take 8 zs) ∷ octets (drop 8 zs)) all
          ∙ ap (λ zs. weigh 128 zs ∷ octets (drop 8 xs)) front
          ∙ ap (λ zs. weigh 128 xs ∷ octets zs) (after ∙ sym none)
      | inr whole ↦
          let eight : 8 ≡ length xs = omega arith in
          let front : take 8 (xs ++ ys) ≡ xs = ap (λ n. take n (xs ++ ys)) eight ∙ take-append_seam xs ys in
          let after : drop 8 (xs ++ ys) ≡ ys = ap (λ n. drop n (xs ++ ys)) eight ∙ drop-append_seam xs ys in
          octets-step (xs ++ ys) some ∙ ap (λ zs. weigh 128 zs ∷ octets (drop 8 (xs ++ ys))) front
          ∙ ap (λ zs. weigh 128 xs ∷ octets zs) after
    ]
  where
    empty : (zs : List Bool) → length zs ≡ 0 → zs ≡ []
    empty [] h = refl
    empty (z ∷ zs) h = absurd (omega arith)

-- and fewer than eight bits are left over
pub length-octets : (bits : List Bool) → 8 * length (octets bits) ≡ length bits + (8 - length bits % 8) % 8
length-octets [] = refl
length-octets (a ∷ []) = refl
length-octets (a ∷ b ∷ []) = refl
length-octets (a ∷ b ∷ c ∷ []) = refl
length-octets (a ∷ b ∷ c ∷ d ∷ []) = refl
length-octets (a ∷ b ∷ c ∷ d ∷ e ∷ []) = refl
length-octets (a ∷ b ∷ c ∷ d ∷ e ∷ f ∷ []) = refl
length-octets (a ∷ b ∷ c ∷ d ∷ e ∷ f ∷ g ∷ []) = refl
length-octets (a ∷ b ∷ c ∷ d ∷ e ∷ f ∷ g ∷ h ∷ bits) = omega (arith, length-octets bits)

-- ---- what is made of bits is a content

octets_some : (i : Bool) (bits : List Bool) → (b : ℕ) × (bs : List ℕ) × (octets (i ∷ bits) ≡ b ∷ bs)
octets_some a [] = (weigh 128 (a ∷ []), [], refl)
octets_some a (b ∷ []) = (weigh 128 (a ∷ b ∷ []), [], refl)
octets_some a (b ∷ c ∷ []) = (weigh 128 (a ∷ b ∷ c ∷ []), [], refl)
octets_some a (b ∷ c ∷ d ∷ []) = (weigh 128 (a ∷ b ∷ c ∷ d ∷ []), [], refl)
octets_some a (b ∷ c ∷ d ∷ e ∷ []) = (weigh 128 (a ∷ b ∷ c ∷ d ∷ e ∷ []), [], refl)
octets_some a (b ∷ c ∷ d ∷ e ∷ f ∷ []) = (weigh 128 (a ∷ b ∷ c ∷ d ∷ e ∷ f ∷ []), [], refl)
octets_some a (b ∷ c ∷ d ∷ e ∷ f ∷ g ∷ []) = (weigh 128 (a ∷ b ∷ c ∷ d ∷ e ∷ f ∷ g ∷ []), [], refl)
octets_some a (b ∷ c ∷ d ∷ e ∷ f ∷ g ∷ h ∷ bits) = (weigh 128 (a ∷ b ∷ c ∷ d ∷ e ∷ f ∷ g ∷ h ∷ []), octets bits, refl)

-- only the last byte matters
push_front : (u o b : ℕ) (os bs : List ℕ) → os ≡ b ∷ bs → is_bit_string (u ∷ o ∷ os) ≡ is_bit_string (u ∷ os)
push_front u o b os bs e = rw e refl

last_byte : (n : ℕ) (w u : ℕ) → w % 2 ^ (8 - n) ≡ 0 → u ≡ 8 - n → 0 < n → is_bit_string (u ∷ w ∷ []) ≡ true
last_byte n w u zeros e some = rw (e, lt-ltb (8 - n) 8 (omega arith), zeros) refl

valid_octets : (bits : List Bool) (u : ℕ) → u ≡ 8 * length (octets bits) - length bits
    → is_bit_string (u ∷ octets bits) ≡ true
valid_octets [] u e = rw e refl
valid_octets (a ∷ []) u i = last_byte 1 (weigh 128 (a ∷ [])) u (weighed 1 refl (a ∷ []) refl).1 i (omega arith)
valid_octets (a ∷ b ∷ []) u i = last_byte 2 (weigh 128 (a ∷ b ∷ [])) u (weighed 2 refl (a ∷ b ∷ []) refl).1 i
    (omega arith)
valid_octets (a ∷ b ∷ c ∷ []) u i = last_byte 3 (weigh 128 (a ∷ b ∷ c ∷ [])) u (weighed 3 refl (a ∷ b ∷ c ∷ []) refl).1
    i (omega arith)
valid_octets (a ∷ b ∷ c ∷ d ∷ []) u i =
    last_byte 4 (weigh 128 (a ∷ b ∷ c ∷ d ∷ [])) u (weighed 4 refl (a ∷ b ∷ c ∷ d ∷ []) refl).1 i (omega arith)
valid_octets (a ∷ b ∷ c ∷ d ∷ e ∷ []) u i =
    last_byte 5 (weigh 128 (a ∷ b ∷ c ∷ d ∷ e ∷ [])) u (weighed 5 refl (a ∷ b ∷ c ∷ d ∷ e ∷ []) refl).1 i (omega arith)
valid_octets (a ∷ b ∷ c ∷ d ∷ e ∷ f ∷ []) u i =
    last_byte 6 (weigh 128 (a ∷ b ∷ c ∷ d ∷ e ∷ f ∷ [])) u (weighed 6 refl (a ∷ b ∷ c ∷ d ∷ e ∷ f ∷ []) refl).1 i
    (omega arith)
valid_octets (a ∷ b ∷ c ∷ d ∷ e ∷ f ∷ g ∷ []) u i =
    last_byte 7 (weigh 128 (a ∷ b ∷ c ∷ d ∷ e ∷ f ∷ g ∷ [])) u (weighed 7 refl (a ∷ b ∷ c ∷ d ∷ e ∷ f ∷ g ∷ []) refl).1
    i (omega arith)
valid_octets (a ∷ b ∷ c ∷ d ∷ e ∷ f ∷ g ∷ h ∷ []) u i =
    let first = a ∷ b ∷ c ∷ d ∷ e ∷ f ∷ g ∷ h ∷ [] in
    last_byte 8 (weigh 128 first) u (weighed 8 refl first refl).1 i (omega arith)
valid_octets (a ∷ b ∷ c ∷ d ∷ e ∷ f ∷ g ∷ h ∷ i ∷ bits) u same =
    let others = octets_some i bits in
    let fewer : u ≡ 8 * length (octets (i ∷ bits)) - length (i ∷ bits) = same ∙ (omega arith) in
    push_front u (weigh 128 (a ∷ b ∷ c ∷ d ∷ e ∷ f ∷ g ∷ h ∷ [])) others.0 (octets (i ∷ bits)) others.1 others.2
    ∙ valid_octets (i ∷ bits) u fewer

pub valid-bit_string_content : (bits : List Bool) → is_bit_string (bit_string_content bits) ≡ true
valid-bit_string_content bits = valid_octets bits (8 * length (octets bits) - length bits) refl

-- ---- each content is one of bits

abbrev is_single : ℕ → List ℕ → Bool
is_single b (x ∷ []) = x == b
is_single b _ = false

is_single-true : (b : ℕ) (xs : List ℕ) → is_single b xs ≡ true → xs ≡ b ∷ []
is_single-true b [] e = cc
is_single-true b (x ∷ []) e = ap (λ x. x ∷ []) (eqb-true x b e)
is_single-true b (x ∷ y ∷ xs) e = cc

abbrev is_cut : ℕ → ℕ → Bool
is_cut u b = not (b % 2 ^ u == 0) || is_single b (octets (take (8 - u) (byte_bits b)))

cut_byte : (u b : ℕ) → u < 8 → b < 256 → (b % 2 ^ u == 0) ≡ true → octets (take (8 - u) (byte_bits b)) ≡ b ∷ []
cut_byte u b few h zeros =
    let found = at_below 256 (is_cut u) (at_below 8 (λ u. below 256 (is_cut u)) refl u few) b h in
    let so : is_single b (octets (take (8 - u) (byte_bits b))) ≡ true =
    sym (ap (λ t. not t || is_single b (octets (take (8 - u) (byte_bits b)))) zeros) ∙ found in
    is_single-true b (octets (take (8 - u) (byte_bits b))) so

length_bits : (bytes : List ℕ) → length (flat_map byte_bits bytes) ≡ 8 * length bytes
length_bits [] = refl
length_bits (b ∷ bytes) = omega (arith, length_bits bytes)

unused_few : (u : ℕ) (bytes : List ℕ) → is_bit_string (u ∷ bytes) ≡ true → u ≤ 8 * length bytes
unused_few u [] e = omega (arith, eqb-true u 0 e)
unused_few u (b ∷ bytes) e =
    omega (arith, ltb-true u 8 (both (nat_lt u 8) (slice_index (b ∷ bytes) (length bytes) % 2 ^ u == 0) e).0)

octets_bits : (u : ℕ) (bytes : List ℕ) → AreBytes bytes → is_bit_string (u ∷ bytes) ≡ true
    → octets (take (8 * length bytes - u) (flat_map byte_bits bytes)) ≡ bytes
octets_bits u [] p e = rw (eqb-true u 0 e) refl
octets_bits u (b ∷ []) p e =
    let tests = both (nat_lt u 8) (b % 2 ^ u == 0) e in
    cut_byte u b (ltb-true u 8 tests.0) p.0 tests.1
octets_bits u (b ∷ c ∷ bytes) p e =
    let others = octets_bits u (c ∷ bytes) p.1 e in
    let few = unused_few u (c ∷ bytes) e in
    let count : 8 * length (b ∷ c ∷ bytes) - u ≡ length (byte_bits b) + (8 * length (c ∷ bytes) - u) = omega arith in
    ap (λ n. octets (take n (byte_bits b ++ flat_map byte_bits (c ∷ bytes)))) count
    ∙ ap octets (take-append-add (byte_bits b) (flat_map byte_bits (c ∷ bytes)) (8 * length (c ∷ bytes) - u))
    ∙ ap (λ w. w ∷ octets (take (8 * length (c ∷ bytes) - u) (flat_map byte_bits (c ∷ bytes)))) (byte_weighed b p.0)
    ∙ ap (λ bs. b ∷ bs) others

pub content-bits_of : (bs : List ℕ) → AreBytes bs → is_bit_string bs ≡ true → bit_string_content (bits_of bs) ≡ bs
content-bits_of [] p e = cc
content-bits_of (u ∷ bytes) p e =
    let few = unused_few u bytes e in
    let bits = take (8 * length bytes - u) (flat_map byte_bits bytes) in
    let same = octets_bits u bytes p.1 e in
    let count : length bits ≡ 8 * length bytes - u =
    length-take-le (8 * length bytes - u) (flat_map byte_bits bytes) (omega (arith, length_bits bytes)) in
    let unused : 8 * length (octets bits) - length bits ≡ u = omega (arith, count, ap length same, few) in
    ap (λ n. n ∷ octets bits) unused ∙ ap (λ bs. u ∷ bs) same

-- how many they are
pub length-bits_of : (u : ℕ) (bytes : List ℕ) → length (bits_of (u ∷ bytes)) ≡ 8 * length bytes - u
length-bits_of u bytes =
    length-take-le (8 * length bytes - u) (flat_map byte_bits bytes) (omega (arith, length_bits bytes))

pub same_bit_strings : (a b : List Bool) → bit_string_content a ≡ bit_string_content b → a ≡ b
same_bit_strings a b e = sym (bits_of-content a) ∙ ap bits_of e ∙ bits_of-content b

-- ---- named bits

pub without_zeros-false : (bits : List Bool) → without_zeros (bits ++ false ∷ []) ≡ without_zeros bits
without_zeros-false [] = refl
without_zeros-false (b ∷ bits) = ap (unless_zeros b) (without_zeros-false bits)

pub without_zeros-true : (bits : List Bool) → without_zeros (bits ++ true ∷ []) ≡ bits ++ true ∷ []
without_zeros-true [] = refl
without_zeros-true (b ∷ bits) = ap (unless_zeros b) (without_zeros-true bits) ∙ kept b bits
  where
    kept : (b : Bool) (bits : List Bool) → unless_zeros b (bits ++ true ∷ []) ≡ b ∷ (bits ++ true ∷ [])
    kept true [] = refl
    kept false [] = refl
    kept true (c ∷ bits) = refl
    kept false (c ∷ bits) = refl

abbrev ends_in_one : List Bool → Bool
ends_in_one [] = true
ends_in_one (b ∷ []) = b
ends_in_one (b ∷ c ∷ bits) = ends_in_one (c ∷ bits)

ends_in_one-without_zeros : (bits : List Bool) → ends_in_one (without_zeros bits) ≡ true
ends_in_one-without_zeros [] = refl
ends_in_one-without_zeros (b ∷ bits) = one_more b (without_zeros bits) (ends_in_one-without_zeros bits)
  where
    one_more : (b : Bool) (bits : List Bool) → ends_in_one bits ≡ true → ends_in_one (unless_zeros b bits) ≡ true
    one_more true [] e = refl
    one_more false [] e = refl
    one_more true (c ∷ bits) e = e
    one_more false (c ∷ bits) e = e

-- a byte of up to eight bits, the last of which is one
abbrev is_named_byte : ℕ → List Bool → Bool
is_named_byte n bits = not (ends_in_one bits) || is_named_bits ((8 - n) ∷ weigh 128 bits ∷ [])

named_byte : (n : ℕ) → each n (is_named_byte n) ≡ true → (bits : List Bool) → length bits ≡ n → (u : ℕ) → u ≡ 8 - n
    → ends_in_one bits ≡ true → is_named_bits (u ∷ weigh 128 bits ∷ []) ≡ true
named_byte n e bits h u i one =
    let found = at_each n (is_named_byte n) e bits h in
    let so : is_named_bits ((8 - n) ∷ weigh 128 bits ∷ []) ≡ true =
    sym (ap (λ t. not t || is_named_bits ((8 - n) ∷ weigh 128 bits ∷ [])) one) ∙ found in
    ap (λ u. is_named_bits (u ∷ weigh 128 bits ∷ [])) i ∙ so

push_named : (u o b : ℕ) (os bs : List ℕ) → os ≡ b ∷ bs → is_named_bits (u ∷ o ∷ os) ≡ is_named_bits (u ∷ os)
push_named u o b os bs e = rw e refl

named_octets : (bits : List Bool) (u : ℕ) → u ≡ 8 * length (octets bits) - length bits → ends_in_one bits ≡ true
    → is_named_bits (u ∷ octets bits) ≡ true
named_octets [] u i one = rw i refl
named_octets (a ∷ []) u i one = named_byte 1 refl (a ∷ []) refl u i one
named_octets (a ∷ b ∷ []) u i one = named_byte 2 refl (a ∷ b ∷ []) refl u i one
named_octets (a ∷ b ∷ c ∷ []) u i one = named_byte 3 refl (a ∷ b ∷ c ∷ []) refl u i one
named_octets (a ∷ b ∷ c ∷ d ∷ []) u i one = named_byte 4 refl (a ∷ b ∷ c ∷ d ∷ []) refl u i one
named_octets (a ∷ b ∷ c ∷ d ∷ e ∷ []) u i one = named_byte 5 refl (a ∷ b ∷ c ∷ d ∷ e ∷ []) refl u i one
named_octets (a ∷ b ∷ c ∷ d ∷ e ∷ f ∷ []) u i one = named_byte 6 refl (a ∷ b ∷ c ∷ d ∷ e ∷ f ∷ []) refl u i one
named_octets (a ∷ b ∷ c ∷ d ∷ e ∷ f ∷ g ∷ []) u i one = named_byte 7 refl (a ∷ b ∷ c ∷ d ∷ e ∷ f ∷ g ∷ []) refl u i one
named_octets (a ∷ b ∷ c ∷ d ∷ e ∷ f ∷ g ∷ h ∷ []) u i one =
    named_byte 8 refl (a ∷ b ∷ c ∷ d ∷ e ∷ f ∷ g ∷ h ∷ []) refl u i one
named_octets (a ∷ b ∷ c ∷ d ∷ e ∷ f ∷ g ∷ h ∷ i ∷ bits) u same one =
    let others = octets_some i bits in
    let fewer : u ≡ 8 * length (octets (i ∷ bits)) - length (i ∷ bits) = same ∙ (omega arith) in
    push_named u (weigh 128 (a ∷ b ∷ c ∷ d ∷ e ∷ f ∷ g ∷ h ∷ [])) others.0 (octets (i ∷ bits)) others.1 others.2
    ∙ named_octets (i ∷ bits) u fewer one

pub valid-named_bits : (bits : List Bool) → is_named_bits (bit_string_content (without_zeros bits)) ≡ true
valid-named_bits bits =
    named_octets (without_zeros bits) (8 * length (octets (without_zeros bits)) - length (without_zeros bits)) refl
    (ends_in_one-without_zeros bits)

-- ---- one bit

byte_bits-at : (b j : ℕ) → j < 8 → get_or (byte_bits b) j false ≡ byte_bit b j
byte_bits-at b zero h = refl
byte_bits-at b (suc zero) h = refl
byte_bits-at b (suc (suc zero)) h = refl
byte_bits-at b (suc (suc (suc zero))) h = refl
byte_bits-at b (suc (suc (suc (suc zero)))) h = refl
byte_bits-at b (suc (suc (suc (suc (suc zero))))) h = refl
byte_bits-at b (suc (suc (suc (suc (suc (suc zero)))))) h = refl
byte_bits-at b (suc (suc (suc (suc (suc (suc (suc zero))))))) h = refl
byte_bits-at b (suc (suc (suc (suc (suc (suc (suc (suc j)))))))) h = absurd (omega arith)

pub bits_of-at : (u : ℕ) (bytes : List ℕ) (i : ℕ) → i < 8 * length bytes - u
    → get_or (bits_of (u ∷ bytes)) i false ≡ byte_bit (get_or bytes (i / 8) 0) (i % 8)
bits_of-at u bytes i h =
    let all = flat_map byte_bits bytes in
    let within : i / 8 < length bytes = omega arith in
    let before : length (flat_map byte_bits (take (i / 8) bytes)) ≡ 8 * (i / 8) =
    omega (arith, length_bits (take (i / 8) bytes), length-take-le (i / 8) bytes (omega arith)) in
    let place : i ≡ length (flat_map byte_bits (take (i / 8) bytes)) + i % 8 = omega (arith, before) in
    get_or-take (8 * length bytes - u) all i false h
    ∙ ap (λ k. get_or all k false) place
    ∙ get_or-flat_map byte_bits bytes (i / 8) (i % 8) 0 false within (omega arith)
    ∙ byte_bits-at (get_or bytes (i / 8) 0) (i % 8) (omega arith)

pub named-bit_string : (bs : List ℕ) → is_named_bits bs ≡ true → is_bit_string bs ≡ true
named-bit_string [] e = cc
named-bit_string (u ∷ []) e = e
named-bit_string (u ∷ b ∷ bs) e =
    let last = slice_index (b ∷ bs) (length bs) in
    (both (nat_lt u 8 && (last % 2 ^ u == 0)) (is_bit_set last u) e).0

-- ---- of a content

pub length-bits_of-content : (bs : List ℕ) → is_bit_string bs ≡ true
    → (slice_index bs 0 ≤ 8 * (length bs - 1)) × (8 * (length bs - 1) - slice_index bs 0 ≡ length (bits_of bs))
    × (0 < length bs)
length-bits_of-content [] e = cc
length-bits_of-content (u ∷ bytes) e = (
  omega (arith, unused_few u bytes e),
  omega (arith, length-bits_of u bytes),
  omega arith,
)

pub slice_get-bits_of : (bs : List ℕ) (i : ℕ) → is_bit_string bs ≡ true → i < length (bits_of bs)
    → slice_get (bits_of bs) i ≡ Some (byte_bit (get_or (drop 1 bs) (i / 8) 0) (i % 8))
slice_get-bits_of [] i e h = cc
slice_get-bits_of (u ∷ bytes) i e h = slice_get-get_or (bits_of (u ∷ bytes)) i false h
    ∙ ap Some (bits_of-at u bytes i (omega (arith, h, length-bits_of u bytes)))

pub slice_get-bits_of_end : (bs : List ℕ) (i : ℕ) → length (bits_of bs) ≤ i → slice_get (bits_of bs) i ≡ None
slice_get-bits_of_end bs i h = past (bits_of bs) i h
  where
    past : (xs : List Bool) (i : ℕ) → length xs ≤ i → slice_get xs i ≡ None
    past [] i h = refl
    past (x ∷ xs) zero h = absurd (omega arith)
    past (x ∷ xs) (suc i) h = past xs i (omega arith)
