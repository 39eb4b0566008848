-- What is appended to a line.
use Rattle.std.proofs.Common.{◌≡◌, ℕ, Bool, true, false, List, [], ◌∷◌, ◌++◌, ◌<◌, ◌/◌, ◌%◌, Option, Some, None}
use Rattle.std.proofs.Common.{append-nil, append_assoc, refl, sym, ap, ◌∙◌, IfSome, map, lit<, arith}
use Rattle.std.specs.Prelude.{encode_utf8}
use Rattle.std.proofs.lemmas.Grind.{flat_map-append}
use Rattle.std.specs.List.{flat_map, concat, FoldsTo}
use Rattle.std.specs.Str.{chars, IsUtf8, IsAscii, NonePass, encode_utf8_all as encodes}
use Rattle.std.specs.Fmt.{WritesText}
use Rattle.std.proofs.lemmas.Str.{encode_ascii, chars-nil, chars-append, chars_from_encodes, IsUtf8-nil, IsUtf8-append}
use Rattle.std.proofs.lemmas.Bool.Decides.{nat_tests}
use Rattle.std.specs.Char.{is_control}
use Rattle.std.specs.List.{list_all}
use Rattle.std.specs.Prelude.{nat_lt}
use Rattle.std.proofs.Common.{not}
use Rattle.std.proofs.lemmas.Bool.{and_parts}
use Rattle.std.proofs.lemmas.Str.{IsUtf8-from_ascii}
use Rattle.std.proofs.lemmas.Str.Ascii.{IsAscii-nil, IsAscii-cons}
use Rattle.der_program_base.proofs.OneLine.{not_disruptive, is_visible, literal_line}
use Rattle.der_program_base.specs.Line.{is_disruptive, IsOneLine, escaped_character, escaped, nothing_special, shown}
use Rattle.der_program_base.specs.Line.{shown_character, hexadecimal_digit, two_digits}

-- ---- one more

pub flat_map_push : {X A : Type 0} (f : X → List A) (xs : List X) (x : X)
    → flat_map f (xs ++ (x ∷ [])) ≡ flat_map f xs ++ f x
flat_map_push f xs x = flat_map-append f xs (x ∷ []) ∙ ap (λ l. flat_map f xs ++ l) (append-nil (f x))

-- the digits of a byte
digit_small : (number : ℕ) → number < 16 → hexadecimal_digit number < 128
unfolding hexadecimal_digit
digit_small number h = grind (arith, nat_tests)

pub digits_pushed : (old first second : List ℕ) (byte : ℕ) → byte < 256
    → first ≡ old ++ encode_utf8 (hexadecimal_digit (byte / 16))
    → second ≡ first ++ encode_utf8 (hexadecimal_digit (byte % 16)) → second ≡ old ++ two_digits byte
digits_pushed old first second byte h one other =
    let high = encode_ascii (hexadecimal_digit (byte / 16)) (digit_small (byte / 16) (omega arith)) in
    let low = encode_ascii (hexadecimal_digit (byte % 16)) (digit_small (byte % 16) (omega arith)) in
    other ∙ ap (λ l. first ++ l) low
    ∙ ap (λ l. l ++ (hexadecimal_digit (byte % 16) ∷ [])) (one ∙ ap (λ l. old ++ l) high)
    ∙ append_assoc old (hexadecimal_digit (byte / 16) ∷ []) (hexadecimal_digit (byte % 16) ∷ [])

-- ---- pieces of a text

pub escaped-append : (special : ℕ → Bool) (front back : List ℕ) → IsUtf8 front
    → escaped special (front ++ back) ≡ escaped special front ++ escaped special back
escaped-append special front back h = ap (flat_map (escaped_character special)) (chars-append front back h)
    ∙ flat_map-append (escaped_character special) (chars front) (chars back)

-- what each call of `write_str` does to a line
abbrev pub AppendsText : List ℕ → List ℕ → List ℕ → Type 0
AppendsText old text new = IsUtf8 text × (new ≡ old ++ shown text)

appends_all : (old : List ℕ) (parts : List (List ℕ)) (new : List ℕ) → FoldsTo AppendsText old parts new
    → AppendsText old (concat parts) new
appends_all old [] new h = (
  IsUtf8-nil,
  sym h ∙ sym (ap (λ l. old ++ flat_map (escaped_character nothing_special) l) chars-nil
      ∙ append-nil old),
)
appends_all old (part ∷ parts) new (line, first, rest) =
    let others = appends_all line parts new rest in (
      IsUtf8-append part (concat parts) first.0 others.0,
      others.1 ∙ ap (λ l. l ++ shown (concat parts)) first.1 ∙ append_assoc old (shown part) (shown (concat parts))
          ∙ ap (λ l. old ++ l) (sym (escaped-append nothing_special part (concat parts) first.0)),
    )

-- and what formatted text does
pub formatted : (old : List ℕ) (output : Option (List ℕ)) (new : List ℕ) → WritesText AppendsText old output new
    → IfSome output (λ text. new ≡ old ++ shown text)
formatted old None new h = tt
formatted old (Some text) new h = (appends_all old h.parts new h.calls).1 ∙ ap (λ l. old ++ shown l) h.whole

-- ---- a text of one line is written as it is

plain_characters : (cs : List ℕ) → NonePass is_disruptive cs
    → flat_map (escaped_character nothing_special) cs ≡ flat_map encode_utf8 cs
plain_characters [] h = refl
plain_characters (c ∷ cs) h = rw h.0 (ap (λ l. encode_utf8 c ++ l) (plain_characters cs h.1))

all_encoded : (cs : List ℕ) → flat_map encode_utf8 cs ≡ encodes cs
all_encoded [] = refl
all_encoded (c ∷ cs) = ap (λ l. encode_utf8 c ++ l) (all_encoded cs)

pub shown_line : (text : List ℕ) → IsUtf8 text → IsOneLine text → shown text ≡ text
shown_line text utf8 (cs, is, none) =
    ap (flat_map (escaped_character nothing_special)) (sym (chars_from_encodes cs text utf8 is))
    ∙ plain_characters cs none ∙ all_encoded cs ∙ is

-- ---- one character

pub shown_ascii : (c : ℕ) → c < 128 → is_control c ≡ false → shown_character c ≡ c ∷ []
shown_ascii c small visible = rw (not_disruptive c small visible) (encode_ascii c small)

module _ (special : ℕ → Bool) (c : ℕ) (old new : List ℕ) where
  -- with a backslash before it
  pub special_pushed : (between : List ℕ) → special c ≡ true → between ≡ old ++ shown_character 92
      → new ≡ between ++ shown_character c → new ≡ old ++ escaped_character special c
  special_pushed between is first second =
      rw is (second ∙ ap (λ l. l ++ shown_character c) (first ∙ ap (λ l. old ++ l) (shown_ascii 92 (lit< tt) refl))
      ∙ append_assoc old (92 ∷ []) (shown_character c))

  -- and without
  pub plain_pushed : special c ≡ false → new ≡ old ++ shown_character c → new ≡ old ++ escaped_character special c
  plain_pushed not_special e = rw not_special e

-- ---- all characters of a text

map_same : (xs : List ℕ) → map (λ x. x) xs ≡ xs
map_same [] = refl
map_same (x ∷ xs) = ap (λ l. x ∷ l) (map_same xs)

pub each_pushed : (written : ℕ → List ℕ) (text old new characters : List ℕ) → map (λ c. c) characters ≡ chars text
    → new ≡ old ++ flat_map written characters → new ≡ old ++ flat_map written (chars text)
each_pushed written text old new characters all e =
    e ∙ ap (λ l. old ++ flat_map written l) (sym (map_same characters) ∙ all)

pub all_pushed : (special : ℕ → Bool) (text old new characters : List ℕ) → map (λ c. c) characters ≡ chars text
    → new ≡ old ++ flat_map (escaped_character special) characters → new ≡ old ++ escaped special text
all_pushed special text old new characters all e = each_pushed (escaped_character special) text old new characters all e

-- At a literal of ASCII the test computes to true.
all_ascii : (text : List ℕ) → list_all is_visible text ≡ true → IsAscii text
all_ascii [] h = IsAscii-nil
all_ascii (byte ∷ bytes) h =
    let here = and_parts (is_visible byte) (list_all is_visible bytes) h in
    let small : byte < 128 = grind (arith, nat_tests, (and_parts (nat_lt byte 128) (not (is_control byte)) here.0).0) in
    IsAscii-cons byte bytes small (all_ascii bytes here.1)

pub shown_literal : (text : List ℕ) → list_all is_visible text ≡ true → shown text ≡ text
shown_literal text h = shown_line text (IsUtf8-from_ascii text (all_ascii text h)) (literal_line text h)
