-- The encoding of a content under its header, in the wrapper around it.
use Rattle.std.proofs.Common.{◌≡◌, ℕ, ◌+◌, ◌/◌, ◌%◌, Bool, true, false, List, [], ◌∷◌, ◌++◌, length, Option, None, Some}
use Rattle.std.proofs.Common.{refl, ◌∙◌, ap, append_assoc, length-append, ◌≤◌, ◌<◌, arith, zero-add, ap₂}
use Rattle.std.proofs.Math.Nat.{div-eq_of_lt, mod-eq_of_lt}
use Rattle.picky_der_core.specs.BigEndianLaws.{big_endian-step, big_endian-zero}
use Rattle.picky_der_core.specs.ElementLaws.{length_octets-short, length_octets-long}
use mir.Val.{bool_byte}
use Rattle.picky_der_core.specs.Primitive.{Primitive}
use Rattle.picky_der_core.specs.OpenWrappers.{under}
use Rattle.picky_der_core.specs.OpenWrapperLaws.{present-under}
use Rattle.picky_der_core.specs.declared.asn1.wrapper.Wrapper.{Wrapper}
use Rattle.picky_der_core.specs.declared.asn1.wrapper.Wrapper.TheVariants as wrapper
use Rattle.picky_der_core.specs.Wrapper.{wrapper_tag, wrapper_front, keeps_header}
use Rattle.picky_der_core.specs.Element.{big_endian, length_octets, tlv}
use Rattle.picky_der_core.specs.Tree.{Tree, is_absent}
use Rattle.picky_der_core.specs.Encoding.{der, implicit_content, with_header}
use Rattle.picky_der_core.specs.EncodingLaws.{der-primitive, der-wrapped, der-raw, implicit_content-plain}
use Rattle.picky_der_core.specs.EncodingLaws.{implicit_content-other, der-wrapped_present}
use Rattle.picky_der_ser.specs.declared.header.Header.{Header}
use Rattle.picky_der_ser.specs.declared.header.Header.TheVariants.{Tagged, Application, Raw}
use Rattle.picky_der_ser.specs.Headers.{tree_of, wrappers, keeps_headers, own_tag, headed}
use Rattle.picky_der_ser.specs.Headers.{wrapped_in, front}

-- ---- one header

-- a tag, the length, and the byte that counts unused bits, before what they are of
pub opened : (tag : ℕ) (has_front : Bool) (n : ℕ) (c : List ℕ) → n ≡ length c
    → (tag ∷ (length_octets (bool_byte has_front + n) ++ front has_front)) ++ c ≡ tlv tag (front has_front ++ c)
unfolding tlv
opened tag true n c e =
    let size : 1 + n ≡ length (0 ∷ c) = omega (arith, e) in
    ap (λ x. tag ∷ x) (append_assoc (length_octets (1 + n)) (0 ∷ []) c ∙ ap (λ m. length_octets m ++ (0 ∷ c)) size)
opened tag false n c e = ap (λ x. tag ∷ x) (append_assoc (length_octets (0 + n)) [] c
    ∙ ap (λ m. length_octets m ++ c) (zero-add n ∙ e))

pub length-opened : (tag : ℕ) (c : List ℕ) → length (tlv tag c) ≡ 1 + (length (length_octets (length c)) + length c)
unfolding tlv
length-opened tag c = omega (arith, length-append (length_octets (length c)) c)

-- the bytes of a number below 256, and of one below 65,536
one_octet : (n : ℕ) → 0 < n → n < 256 → big_endian n ≡ n ∷ []
one_octet n more less =
    let high : n / 256 ≡ 0 = div-eq_of_lt less in
    let low : n % 256 ≡ n = mod-eq_of_lt less in
    big_endian-step n more ∙ ap₂ (λ q r. big_endian q ++ (r ∷ [])) high low
    ∙ ap (λ bs. bs ++ (n ∷ [])) big_endian-zero

two_octets : (n : ℕ) → 256 ≤ n → n < 65536 → big_endian n ≡ n / 256 ∷ n % 256 ∷ []
two_octets n more less =
    let some : 0 < n / 256 = omega (arith, more) in
    let few : n / 256 < 256 = omega (arith, less) in
    big_endian-step n (omega (arith, more)) ∙ ap (λ bs. bs ++ (n % 256 ∷ [])) (one_octet (n / 256) some few)

pub tlv-short : (tag : ℕ) (c : List ℕ) → length c < 0x80 → tlv tag c ≡ tag ∷ length c ∷ c
unfolding tlv
tlv-short tag c h = ap (λ l. tag ∷ (l ++ c)) (length_octets-short (length c) h)

-- the same with one byte and with two bytes that follow the first of the length
pub tlv-one : (tag : ℕ) (c : List ℕ) → 0x80 ≤ length c → length c < 0x100 → tlv tag c ≡ tag ∷ 0x81 ∷ length c ∷ c
unfolding tlv
tlv-one tag c more less =
    let n = length c in
    let octets : length_octets n ≡ 0x81 ∷ n ∷ [] = length_octets-long n more
    ∙ ap (λ bs. (0x80 + length bs) ∷ bs) (one_octet n (omega (arith, more)) less) in
    ap (λ l. tag ∷ (l ++ c)) octets

pub tlv-two : (tag : ℕ) (c : List ℕ) → 0x100 ≤ length c → length c < 0x10000
    → tlv tag c ≡ tag ∷ 0x82 ∷ length c / 256 ∷ length c % 256 ∷ c
unfolding tlv
tlv-two tag c more less =
    let n = length c in
    let octets : length_octets n ≡ 0x82 ∷ n / 256 ∷ n % 256 ∷ [] = length_octets-long n (omega (arith, more))
    ∙ ap (λ bs. (0x80 + length bs) ∷ bs) (two_octets n more less) in
    ap (λ l. tag ∷ (l ++ c)) octets

-- ---- all of them

present : (h : Header) (c : List ℕ) → is_absent (tree_of h c) ≡ false
present (Tagged tag) c = refl
present (Application k) c = refl
present Raw c = refl

same : (keeps : Bool) (t : Tree) → implicit_content t ≡ der t → with_header keeps t ≡ der t
same true t e = refl
same false t e = e

-- the content with its own header, or without
own : (keeps : Bool) (h : Header) (c : List ℕ) → with_header keeps (tree_of h c) ≡ headed (own_tag keeps h) c
own true (Tagged tag) c = der-primitive (Primitive.bytes tag c)
own false (Tagged tag) c = implicit_content-plain (tree_of (Tagged tag) c) refl
own keeps (Application k) c = same keeps _ (implicit_content-other _ refl tt)
    ∙ der-wrapped (wrapper.Application k) (Tree.raw c) refl ∙ ap (tlv (0x60 + k)) (der-raw c)
own keeps Raw c = same keeps _ (implicit_content-other _ refl tt) ∙ der-raw c

-- the encoding of a content under this header in this wrapper
pub der-headed : (o : Option Wrapper) (h : Header) (c : List ℕ)
    → der (under (wrappers o) (tree_of h c)) ≡ wrapped_in o (headed (own_tag (keeps_headers o) h) c)
der-headed None h c = own true h c
der-headed (Some w) h c = der-wrapped_present w (tree_of h c) (present h c)
    ∙ ap (λ bs. tlv (wrapper_tag w) (wrapper_front w ++ bs)) (own (keeps_header w) h c)

-- the same where it is known what these are
pub der-known : (o p : Option Wrapper) (h : Header) (tag : Option ℕ) (c : List ℕ) → o ≡ p
    → own_tag (keeps_headers o) h ≡ tag → der (under (wrappers o) (tree_of h c)) ≡ wrapped_in p (headed tag c)
der-known o p h tag c e f = der-headed o h c ∙ ap₂ (λ q t. wrapped_in q (headed t c)) e f

-- ---- it holds the content

headed_holds : (tag : Option ℕ) (c : List ℕ) → length c ≤ length (headed tag c)
headed_holds None c = omega arith
headed_holds (Some tag) c = omega (arith, length-opened tag c)

holds_by : (keeps : Bool) (ws : List Wrapper) (h : Header) (c : List ℕ)
    → length c ≤ length (with_header keeps (under ws (tree_of h c)))
holds_by keeps [] h c = omega (arith, ap length (own keeps h c), headed_holds (own_tag keeps h) c)
holds_by keeps (w ∷ ws) h c =
    let t = under ws (tree_of h c) in
    let bs = with_header (keeps_header w) t in
    let whole = same keeps (Tree.wrapped w t) (implicit_content-other _ refl tt)
    ∙ der-wrapped_present w t (present-under ws (tree_of h c) (present h c)) in
    omega (
      arith,
      ap length whole,
      length-opened (wrapper_tag w) (wrapper_front w ++ bs),
      length-append (wrapper_front w) bs,
      holds_by (keeps_header w) ws h c,
    )

pub der-holds : (ws : List Wrapper) (h : Header) (c : List ℕ) → length c ≤ length (der (under ws (tree_of h c)))
der-holds ws h c = holds_by true ws h c
