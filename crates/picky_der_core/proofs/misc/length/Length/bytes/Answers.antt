use Rattle.std.proofs.Common.{◌≡◌, ℕ, ◌+◌, ◌-◌, ◌^◌, ◌<◌, ◌≤◌, List, [], ◌∷◌, ◌++◌, length, take, drop, bit_or, Result}
use Rattle.std.proofs.Common.{Ok, Err, OnOk, IsOk, refl, sym, ap, ◌∙◌, arith}
use Rattle.std.specs.Int.{w64, to_be_bytes}
use Rattle.std.proofs.lemmas.Grind.{numeral_or}
use Rattle.std.proofs.lemmas.List.{take_all, length-drop}
use Rattle.picky_der_core.specs.Element.{big_endian, length_octets}
use Rattle.picky_der_core.specs.BigEndianLaws.{length-big_endian, big_endian-last}
use Rattle.picky_der_core.specs.ElementLaws.{length_octets-short, length_octets-long, length-length_octets}
use Rattle.picky_der_core.specs.LengthLaws.{length-length_octets-long}
use Rattle.picky_der_core.proofs.misc.length.Length.bytes.Goals as goal

-- the slice of a number's eight bytes that is copied, if the length has so many
abbrev digits : ℕ → List ℕ → List ℕ
digits size bytes = take (8 - (9 - size)) (drop (9 - size) bytes)

digits-are : (n size : ℕ) (bytes : List ℕ) → 0x80 ≤ n → n < 2 ^ 64 → bytes ≡ to_be_bytes w64 n
    → size ≡ length (length_octets n) → digits size bytes ≡ big_endian n
digits-are n size bytes long small is e =
    let skipped : 9 - size ≡ 8 - length (big_endian n) = omega (arith, length-length_octets-long n long) in
    let all : length (drop (9 - size) bytes) ≤ 8 - (9 - size) =
    omega (arith, length-drop (9 - size) bytes, ap length is) in
    take_all (8 - (9 - size)) (drop (9 - size) bytes) all ∙ ap (λ k. drop k bytes) skipped
    ∙ ap (drop (8 - length (big_endian n))) is ∙ big_endian-last n small

-- the first byte and these digits are the length
whole : (n size : ℕ) (bytes : List ℕ) → 0x80 ≤ n → n < 2 ^ 64 → bytes ≡ to_be_bytes w64 n
    → size ≡ length (length_octets n)
    → bit_or 0x80 (length (digits size bytes)) ∷ digits size bytes ≡ length_octets n
whole n size bytes long small is e =
    let few = length-big_endian 8 n (omega arith) in
    rw (
      digits-are n size bytes long small is e,
      length_octets-long n long,
      numeral_or 127 (length (big_endian n)) refl (omega arith),
    ) refl

pub returns-then-len-lt128 : goal.returns-then-len-lt128
returns-then-len-lt128 c = c.push.ensures.items ∙ ap (λ x. x ++ (c.args.len ∷ [])) c.new-bytes.ensures
    ∙ sym (length_octets-short c.args.len (omega arith))

pub overflow_sub-digits : goal.overflow_sub-digits
overflow_sub-digits c = omega (arith, length-length_octets c.args.len (omega arith))

pub slice_bounds-digits-count : goal.slice_bounds-digits-count
slice_bounds-digits-count c = omega (arith, length-length_octets-long c.args.len (omega arith))

pub slice_bounds-digits-start : goal.slice_bounds-digits-start
slice_bounds-digits-start c = omega (arith, length-length_octets-long c.args.len (omega arith))

-- what fits was added
added : {A E : Type 0} {P : Type 0} (r : Result A E) → OnOk r P → IsOk r → P
added (Ok v) h k = h
added (Err e) h k = cc

pub returns : goal.returns
returns c =
    let d = digits c.encoded_len.result c.to_be_bytes-number.result in
    let e = whole c.args.len _ _ (omega arith) (omega arith) c.to_be_bytes-number.ensures c.encoded_len.ensures in
    let few = length-length_octets c.args.len (omega arith) in
    let count : length c.push-2.new.self.items + length d ≤ 9 =
    omega (arith, few, ap length e, c.push-2.ensures.len, ap length c.new-bytes.ensures) in
    added c.try_extend_from_slice.result c.try_extend_from_slice.ensures.ok
    (c.try_extend_from_slice.ensures.variant.1 count)
    ∙ ap (λ (x : List ℕ). x ++ d) c.push-2.ensures.items
    ∙ ap (λ (x : List ℕ). (x ++ (bit_or 0x80 (length d) ∷ [])) ++ d) c.new-bytes.ensures ∙ e
