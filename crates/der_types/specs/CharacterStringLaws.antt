-- Each text of a set has one content, and each content is that of one text.
use Rattle.picky_der_core.specs.Element.{AreBytes}
use Rattle.std.proofs.Common.{◌≡◌, ℕ, ◌+◌, ◌*◌, ◌/◌, ◌%◌, ◌^◌, ◌<◌, ◌==◌, Bool, true, false, ◌&&◌, List, [], ◌∷◌}
use Rattle.std.proofs.Common.{length, refl, sym, ap, subst, ◌∙◌, arith, get_or, lt-ltb, ltb-true, eq-eqb, eqb-true}
use Rattle.std.proofs.Common.{zero, suc}
use Rattle.std.specs.Prelude.{chars, IsUtf8}
use Rattle.std.specs.List.{list_all}
use Rattle.std.specs.Str.{IsAscii}
use Rattle.std.specs.Char.Escape.{encode_utf16}
use Rattle.std.proofs.lemmas.Bool.Decides.{nat_tests}
use Rattle.std.proofs.lemmas.Str.{encodes-chars, encodes-IsAscii, IsUtf8-from_ascii}
use Rattle.der_types.specs.declared.width.Width.{Width}
use Rattle.der_types.specs.declared.width.Width.TheVariants.{One, Two, Four}
use Rattle.der_types.specs.CharacterStrings.{byte_count, string_content, characters, is_string_content, is_ia5, is_bmp}

pub both : (p q : Bool) → (p && q) ≡ true → (p ≡ true) × (q ≡ true)
both true q e = (refl, e)
both false q e = cc

-- ---- a content has the characters that it was made of

pair : (c : ℕ) → c / 2 ^ 8 * 2 ^ 8 + c % 2 ^ 8 ≡ c
pair c = omega arith

quadruple : (c : ℕ) → c / 2 ^ 24 * 2 ^ 24 + c / 2 ^ 16 % 2 ^ 8 * 2 ^ 16 + c / 2 ^ 8 % 2 ^ 8 * 2 ^ 8 + c % 2 ^ 8 ≡ c
quadruple c = omega arith

pub characters-content : (width : Width) (text : List ℕ) → characters width (string_content width text) ≡ text
characters-content One [] = refl
characters-content One (c ∷ text) = ap (λ cs. c ∷ cs) (characters-content One text)
characters-content Two [] = refl
characters-content Two (c ∷ text) = rw (pair c, characters-content Two text) refl
characters-content Four [] = refl
characters-content Four (c ∷ text) = rw (quadruple c, characters-content Four text) refl

whole : (width : Width) (text : List ℕ) → (length (string_content width text) % byte_count width == 0) ≡ true
whole One text = eq-eqb (length (string_content One text) % 1) 0 (omega arith)
whole Two [] = refl
whole Two (c ∷ text) =
    eq-eqb (length (string_content Two (c ∷ text)) % 2) 0
    (omega (arith, eqb-true (length (string_content Two text) % 2) 0 (whole Two text)))
whole Four [] = refl
whole Four (c ∷ text) =
    eq-eqb (length (string_content Four (c ∷ text)) % 4) 0
    (omega (arith, eqb-true (length (string_content Four text) % 4) 0 (whole Four text)))

pub is_string_content-content : (width : Width) (is_character : ℕ → Bool) (text : List ℕ)
    → is_string_content width is_character (string_content width text) ≡ list_all is_character text
is_string_content-content width is_character text = rw (whole width text, characters-content width text) refl

pub same_text : (width : Width) (a b : List ℕ) → string_content width a ≡ string_content width b → a ≡ b
same_text width a b e = sym (characters-content width a) ∙ ap (characters width) e ∙ characters-content width b

-- ---- how many there are

pub length-characters : (width : Width) (bs : List ℕ) → length (characters width bs) ≡ length bs / byte_count width
length-characters One bs = omega arith
length-characters Two [] = refl
length-characters Two (a ∷ []) = refl
length-characters Two (a ∷ b ∷ bs) = omega (arith, length-characters Two bs)
length-characters Four [] = refl
length-characters Four (a ∷ []) = refl
length-characters Four (a ∷ b ∷ []) = refl
length-characters Four (a ∷ b ∷ c ∷ []) = refl
length-characters Four (a ∷ b ∷ c ∷ d ∷ bs) = omega (arith, length-characters Four bs)

-- ---- and is that of its characters

pair_bytes : (a b : ℕ) → b < 256 → ((a * 2 ^ 8 + b) / 2 ^ 8 ≡ a) × ((a * 2 ^ 8 + b) % 2 ^ 8 ≡ b)
pair_bytes a b h = (omega arith, omega arith)

record Quadruple (n a b c d : ℕ) : Type 0 where
  first : n / 2 ^ 24 ≡ a
  second : n / 2 ^ 16 % 2 ^ 8 ≡ b
  third : n / 2 ^ 8 % 2 ^ 8 ≡ c
  fourth : n % 2 ^ 8 ≡ d

quadruple_bytes : (a b c d : ℕ) → b < 256 → c < 256 → d < 256
    → Quadruple (a * 2 ^ 24 + b * 2 ^ 16 + c * 2 ^ 8 + d) a b c d
quadruple_bytes a b c d h i j = record {
  first = omega arith;
  second = omega arith;
  third = omega arith;
  fourth =
      omega arith;
}

pub content-characters : (width : Width) (bs : List ℕ) → AreBytes bs → (length bs % byte_count width == 0) ≡ true
    → string_content width (characters width bs) ≡ bs
content-characters One [] p e = refl
content-characters One (b ∷ bs) p e =
    ap (λ bs. b ∷ bs) (content-characters One bs p.1 (eq-eqb (length bs % 1) 0 (omega arith)))
content-characters Two [] p e = refl
content-characters Two (a ∷ []) p e = cc
content-characters Two (a ∷ b ∷ bs) p e =
    let bytes = pair_bytes a b p.1.0 in
    let others =
    content-characters Two bs p.1.1
    (eq-eqb (length bs % 2) 0 (omega (arith, eqb-true (length (a ∷ b ∷ bs) % 2) 0 e))) in
    rw (bytes.0, bytes.1, others) refl
content-characters Four [] p e = refl
content-characters Four (a ∷ []) p e = cc
content-characters Four (a ∷ b ∷ []) p e = cc
content-characters Four (a ∷ b ∷ c ∷ []) p e = cc
content-characters Four (a ∷ b ∷ c ∷ d ∷ bs) p e =
    let bytes = quadruple_bytes a b c d p.1.0 p.1.1.0 p.1.1.1.0 in
    let others =
    content-characters Four bs p.1.1.1.1
    (eq-eqb (length bs % 4) 0 (omega (arith, eqb-true (length (a ∷ b ∷ c ∷ d ∷ bs) % 4) 0 e))) in
    rw (bytes.first, bytes.second, bytes.third, bytes.fourth, others) refl

-- each of them is one of the set
pub each-character : (width : Width) (is_character : ℕ → Bool) (bs : List ℕ)
    → is_string_content width is_character bs ≡ true → list_all is_character (characters width bs) ≡ true
each-character width p bs e = (both (length bs % byte_count width == 0) (list_all p (characters width bs)) e).1

pub whole-content : (width : Width) (is_character : ℕ → Bool) (bs : List ℕ)
    → is_string_content width is_character bs ≡ true → (length bs % byte_count width == 0) ≡ true
whole-content width p bs e = (both (length bs % byte_count width == 0) (list_all p (characters width bs)) e).0

-- ---- ASCII

pub IsAscii-all : (is_character : ℕ → Bool) → ((c : ℕ) → is_character c ≡ true → c < 0x80) → (bs : List ℕ)
    → list_all is_character bs ≡ true → IsAscii bs
IsAscii-all p low bs e = at bs e
  where
    at : (bs : List ℕ) → list_all p bs ≡ true → (i : ℕ) → get_or bs i 0 < 0x80
    at [] e i = omega arith
    at (b ∷ bs) e zero = low b (both (p b) (list_all p bs) e).0
    at (b ∷ bs) e (suc i) = at bs (both (p b) (list_all p bs) e).1 i

pub IsUtf8-content : (width : Width) (is_character : ℕ → Bool) → ((c : ℕ) → is_character c ≡ true → c < 0x80)
    → width ≡ One → (bs : List ℕ) → is_string_content width is_character bs ≡ true → IsUtf8 bs
IsUtf8-content width p low one bs e =
    let all : (length bs % 1 == 0 && list_all p bs) ≡ true = subst (λ w. is_string_content w p bs ≡ true) one e in
    IsUtf8-from_ascii bs (IsAscii-all p low bs (both (length bs % 1 == 0) (list_all p bs) all).1)

-- a text of ASCII is its content
pub ascii_content : (text : List ℕ) → IsUtf8 text → list_all is_ia5 (chars text) ≡ true
    → string_content One (chars text) ≡ text
ascii_content text u e =
    let ascii = IsAscii-all is_ia5 (λ c h. ltb-true c 0x80 h) (chars text) e in
    let same : chars text ≡ text = sym (encodes-IsAscii (chars text) ascii) ∙ encodes-chars text u in
    characters-content One (chars text) ∙ same

-- a character of the BMP is one unit in UTF-16
pub bmp_units : (c : ℕ) → is_bmp c ≡ true → encode_utf16 c ≡ c ∷ []
bmp_units c e = let low : c < 0x10000 = grind (arith, nat_tests) in rw (lt-ltb c 0x10000 low) refl
