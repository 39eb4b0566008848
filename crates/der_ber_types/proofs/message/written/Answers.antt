use Rattle.std.proofs.Common.{◌≡◌, ℕ, suc, List, [], ◌∷◌, ◌++◌, length, refl, sym, ap, ◌∙◌, arith, length-append}
use Rattle.picky_der_core.specs.Element.{tlv, length_octets}
use Rattle.der_ber_types.proofs.Writing.{appended-then}
use Rattle.der_ber_types.proofs.message.written.Goals as goal

-- the SEQUENCE and what is in it, before its length is put
before_end : (none first second third fourth explicit identifier in_der : List ℕ) (n m : ℕ) → none ≡ []
    → first ≡ none ++ (0x30 ∷ length_octets m) → second ≡ first ++ tlv 0x06 identifier
    → third ≡ second ++ (0xA0 ∷ length_octets n) → fourth ≡ third ++ in_der
    → ((front c : List ℕ) (u : ℕ) → length front ≡ length second → fourth ≡ front ++ (u ∷ (length_octets n ++ c))
    → explicit ≡ front ++ tlv u c)
    → explicit ≡ 0x30 ∷ (length_octets m ++ (tlv 0x06 identifier ++ tlv 0xA0 in_der))
before_end none first second third fourth explicit identifier in_der n m empty one two three four ends =
    let members = tlv 0x06 identifier ++ tlv 0xA0 in_der in
    let whole : explicit ≡ second ++ tlv 0xA0 in_der =
    ends second in_der 0xA0 refl (appended-then second third fourth (0xA0 ∷ length_octets n) in_der three four) in
    appended-then first second explicit (tlv 0x06 identifier) (tlv 0xA0 in_der) two whole
    ∙ ap (λ s. s ++ members) (one ∙ ap (λ s. s ++ (0x30 ∷ length_octets m)) empty)

pub end_element-requires : goal.end_element-requires
end_element-requires c =
    let second = c.push_element.new.bytes in
    let made = c.in_ok-push_one.ensures.ok in
    omega (
      arith,
      c.len-place.ensures,
      second.ok.0,
      ap length c.in_ok-push_header-2.ensures ∙ length-append second.items _,
      ap length made.appended ∙ length-append c.push_header-2.new.bytes.items made.in_der,
      c.push_one.new.der.ok.0,
    )

pub end_element-requires-2 : goal.end_element-requires-2
end_element-requires-2 c =
    let identifier = c.args.identifier.now in
    let second = c.push_element.new.bytes in
    let third = c.push_header-2.new.bytes.items in
    let n = length c.args.content.now in
    let made = c.in_ok-push_one.ensures.ok in
    let size : c.len-place.result ≡ length second.items = omega (arith, c.len-place.ensures, second.ok.0) in
    let tag : c.context_specific_constructed.result ≡ 0xA0 = omega (arith, c.context_specific_constructed.ensures) in
    let all =
    before_end c.in_ok-bytes.bytes.items c.push_header.new.bytes.items second.items third c.push_one.new.der.items
    c.end_element.new.bytes.items identifier made.in_der n c.args.size c.in_ok-bytes.ensures.items
    c.in_ok-push_header.ensures c.in_ok-push_element.ensures
    (c.in_ok-push_header-2.ensures ∙ ap (λ t. second.items ++ (t ∷ length_octets n)) tag) made.appended
    (λ front content t len. c.in_ok-end_element.ensures front content t (len ∙ sym size)) in
    omega (
      arith,
      ap length all ∙ ap suc (length-append (length_octets c.args.size) (tlv 0x06 identifier ++ tlv 0xA0 made.in_der)),
      c.end_element.new.bytes.ok.0,
    )

pub returns-clause-ok : goal.returns-clause-ok
returns-clause-ok c =
    let identifier = c.args.identifier.now in
    let second = c.push_element.new.bytes in
    let third = c.push_header-2.new.bytes.items in
    let n = length c.args.content.now in
    let made = c.in_ok-push_one.ensures.ok in
    let size : c.len-place.result ≡ length second.items = omega (arith, c.len-place.ensures, second.ok.0) in
    let tag : c.context_specific_constructed.result ≡ 0xA0 = omega (arith, c.context_specific_constructed.ensures) in
    let all =
    before_end c.in_ok-bytes.bytes.items c.push_header.new.bytes.items second.items third c.push_one.new.der.items
    c.end_element.new.bytes.items identifier made.in_der n c.args.size c.in_ok-bytes.ensures.items
    c.in_ok-push_header.ensures c.in_ok-push_element.ensures
    (c.in_ok-push_header-2.ensures ∙ ap (λ t. second.items ++ (t ∷ length_octets n)) tag) made.appended
    (λ front content t len. c.in_ok-end_element.ensures front content t (len ∙ sym size)) in
    record {
      in_der = made.in_der;
      is_one = made.is;
      is = c.in_ok-end_element-2.ensures [] (tlv 0x06 identifier ++ tlv 0xA0 made.in_der) 0x30 refl all;
    }
