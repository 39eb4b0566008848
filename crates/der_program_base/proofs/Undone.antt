-- Escapes can be undone.
use mathlib.Core.Bool.{true≢false}
use Rattle.std.proofs.Common.{◌≡◌, ℕ, ◌+◌, ◌<◌, ◌/◌, ◌%◌, lit<, length, lt-ltb, le-ltb, inl, inr, Bool, true, false}
use Rattle.std.proofs.Common.{List, [], ◌∷◌, ◌++◌, append-nil, refl, sym, ap, ◌∙◌, subst, arith}
use lib.Utf8.{encode, next}
use Rattle.std.specs.Prelude.{encode_utf8}
use Rattle.std.proofs.lemmas.Bool.{cases_lt}
use Rattle.std.specs.List.{flat_map}
use Rattle.std.specs.Str.{chars, IsUtf8, encode_utf8_all as encodes}
use Rattle.std.proofs.lemmas.Bool.Decides.{nat_tests}
use Rattle.std.proofs.lemmas.Str.{encode_ascii, encode_same, length-encode, len_utf8_bounds, encodes-chars}
use Rattle.std.specs.Str.{is_utf8}
use Rattle.std.specs.Prelude.{if◌then◌else◌}
use Rattle.std.proofs.Common.{get_or}
use Rattle.std.proofs.lemmas.Str.{IsUtf8-from_is_utf8}
use Rattle.der_program_base.specs.Texts.{marked_bytes, text_or_bytes}
use Rattle.der_program_base.specs.Line.{hexadecimal, is_disruptive, IsEscaping, hexadecimal_digit, two_digits}
use Rattle.der_program_base.specs.Line.{escaped_byte, escaped_character, escaped, is_special_in_names}
use Rattle.der_program_base.specs.Line.{is_special_in_quotes}

-- ---- digits

same_digit : (m n : ℕ) → hexadecimal_digit m ≡ hexadecimal_digit n → m ≡ n
unfolding hexadecimal_digit
same_digit m n e = grind (arith, nat_tests)

same_byte : (b d : ℕ) → b / 16 ≡ d / 16 → b % 16 ≡ d % 16 → b ≡ d
same_byte b d high low = omega arith

-- ---- bytes

-- of two lists whose escapes begin one text, one is a beginning of the other
data IsBeginning (bs ds : List ℕ) : Type 0 where
  first : (rest : List ℕ) → ds ≡ bs ++ rest → IsBeginning bs ds
  second : (rest : List ℕ) → bs ≡ ds ++ rest → IsBeginning bs ds

one_more : {bs ds : List ℕ} (b : ℕ) → IsBeginning bs ds → IsBeginning (b ∷ bs) (b ∷ ds)
one_more b (first rest e) = first rest (ap (λ l. b ∷ l) e)
one_more b (second rest e) = second rest (ap (λ l. b ∷ l) e)

begins : (bs ds x y : List ℕ) → flat_map escaped_byte bs ++ x ≡ flat_map escaped_byte ds ++ y → IsBeginning bs ds
begins [] ds x y e = first ds refl
begins (b ∷ bs) [] x y e = second (b ∷ bs) refl
begins (b ∷ bs) (d ∷ ds) x y e =
    let high : hexadecimal_digit (b / 16) ≡ hexadecimal_digit (d / 16) = cc in
    let low : hexadecimal_digit (b % 16) ≡ hexadecimal_digit (d % 16) = cc in
    let rest : flat_map escaped_byte bs ++ x ≡ flat_map escaped_byte ds ++ y = cc in
    let same = same_byte b d (same_digit _ _ high) (same_digit _ _ low) in
    subst (λ n. IsBeginning (b ∷ bs) (n ∷ ds)) same (one_more b (begins bs ds x y rest))

beginning_same : (c d : ℕ) → IsBeginning (encode_utf8 c) (encode_utf8 d) → c ≡ d
beginning_same c d (first rest e) = (encode_same c d rest [] (sym e ∙ sym (append-nil (encode_utf8 d)))).0
beginning_same c d (second rest e) = (encode_same c d [] rest (append-nil (encode_utf8 c) ∙ e)).0

same_front : (front x y : List ℕ) → front ++ x ≡ front ++ y → x ≡ y
same_front [] x y e = e
same_front (b ∷ bs) x y e = let rest : bs ++ x ≡ bs ++ y = cc in same_front bs x y rest

-- ---- characters

-- a character has at least one byte
some_byte : (bs : List ℕ) → 0 < length bs → (b : ℕ) × (rest : List ℕ) × (bs ≡ b ∷ rest)
some_byte [] h = absurd (omega arith)
some_byte (b ∷ bs) h = (b, bs, refl)

encoded_some : (c : ℕ) → (b : ℕ) × (rest : List ℕ) × (encode_utf8 c ≡ b ∷ rest)
encoded_some c = some_byte (encode_utf8 c) (omega (arith, length-encode c, len_utf8_bounds c))

-- a disruptive character has at most three bytes, whose first one is below 256
disruptive_below : (c : ℕ) → is_disruptive c ≡ true → c < 0x1_0000
unfolding is_disruptive
disruptive_below c h = grind (arith, nat_tests)

first_byte : (c : ℕ) → c < 0x1_0000 → (b : ℕ) × (rest : List ℕ) × (encode c ≡ b ∷ rest) × (b < 256)
unfolding encode
first_byte c h = elim (cases_lt c 128) [
  | inl one ↦ (c, [], rw (lt-ltb c 128 one) refl, omega arith)
  | inr more ↦ elim (cases_lt c 2048) [
    | inl two ↦ (192 + c / 64, next c ∷ [], rw (le-ltb c 128 more, lt-ltb c 2048 two) refl, omega arith)
    | inr three ↦ (
      224 + c / 4096,
      next (c / 64) ∷ next c ∷ [],
      rw (le-ltb c 128 more, le-ltb c 2048 three, lt-ltb c 65536 h) refl,
      omega arith,
    )
  ]
]

module _ (special : ℕ → Bool) (h : IsEscaping special) where
  -- how a character is written
  data Form (c : ℕ) : Type 0 where
    plain : special c ≡ false → escaped_character special c ≡ encode_utf8 c → Form c
    marked : special c ≡ true → escaped_character special c ≡ 92 ∷ encode_utf8 c → Form c
    hidden : is_disruptive c ≡ true → escaped_character special c ≡ flat_map escaped_byte (encode_utf8 c) → Form c

  by_tests : (c : ℕ) (is_special is_hidden : Bool) → special c ≡ is_special → is_disruptive c ≡ is_hidden → Form c
  by_tests c true true s d = absurd (true≢false (sym d ∙ h.printed c s))
  by_tests c true false s d = marked s (rw (s, d) refl)
  by_tests c false true s d = hidden d (rw (s, d) refl)
  by_tests c false false s d = plain s (rw (s, d) refl)

  form_of : (c : ℕ) → Form c
  form_of c = by_tests c (special c) (is_disruptive c) refl refl

  -- an escape's beginning isn't a plain character
  plain_no_escape : (c : ℕ) (x y : List ℕ) → special c ≡ false → encode_utf8 c ++ x ≡ 92 ∷ y → ⊥
  plain_no_escape c x y is e =
      let same = (encode_same c 92 x y (e ∙ ap (λ l. l ++ y) (sym (encode_ascii 92 (lit< tt))))).0 in
      true≢false (sym h.backslash ∙ ap special (sym same) ∙ is)

  plain_no_bytes : (c d : ℕ) (x y : List ℕ) → special c ≡ false
      → encode_utf8 c ++ x ≡ flat_map escaped_byte (encode_utf8 d) ++ y → ⊥
  plain_no_bytes c d x y is e =
      let (b, bs, some) = encoded_some d in
      plain_no_escape c x (two_digits b ++ flat_map escaped_byte bs ++ y) is (e ∙ rw some refl)

  -- nor is a special character a digit
  marked_no_bytes : (c d : ℕ) (x y : List ℕ) → special c ≡ true → is_disruptive d ≡ true
      → 92 ∷ encode_utf8 c ++ x ≡ flat_map escaped_byte (encode_utf8 d) ++ y → ⊥
  marked_no_bytes c d x y is hid e =
      let (b, bs, some, small) = first_byte d (disruptive_below d hid) in
      let all : 92 ∷ c ∷ x ≡ 92 ∷ hexadecimal_digit (b / 16) ∷ hexadecimal_digit (b % 16)
      ∷ (flat_map escaped_byte bs ++ y) =
      ap (λ l. 92 ∷ l ++ x) (sym (encode_ascii c (h.ascii c is))) ∙ e ∙ rw some refl in
      let same : c ≡ hexadecimal_digit (b / 16) = cc in
      true≢false (sym is ∙ ap special same ∙ h.no_digit (b / 16) (omega arith))

  one_step : (c d : ℕ) (x y : List ℕ) → Form c → Form d
      → escaped_character special c ++ x ≡ escaped_character special d ++ y → (c ≡ d) × (x ≡ y)
  one_step c d x y (plain s e) (plain t f) k = encode_same c d x y (rw (e, f) at k)
  one_step c d x y (plain s e) (marked t f) k = absurd (plain_no_escape c x (encode_utf8 d ++ y) s (rw (e, f) at k))
  one_step c d x y (plain s e) (hidden u f) k = absurd (plain_no_bytes c d x y s (rw (e, f) at k))
  one_step c d x y (marked s e) (plain t f) k =
      absurd (plain_no_escape d y (encode_utf8 c ++ x) t (sym (rw (e, f) at k)))
  one_step c d x y (marked s e) (marked t f) k =
      let all : 92 ∷ encode_utf8 c ++ x ≡ 92 ∷ encode_utf8 d ++ y = rw (e, f) at k in
      let rest : encode_utf8 c ++ x ≡ encode_utf8 d ++ y = cc in
      encode_same c d x y rest
  one_step c d x y (marked s e) (hidden u f) k = absurd (marked_no_bytes c d x y s u (rw (e, f) at k))
  one_step c d x y (hidden s e) (plain t f) k = absurd (plain_no_bytes d c y x t (sym (rw (e, f) at k)))
  one_step c d x y (hidden s e) (marked t f) k = absurd (marked_no_bytes d c y x t s (sym (rw (e, f) at k)))
  one_step c d x y (hidden s e) (hidden u f) k =
      let all : flat_map escaped_byte (encode_utf8 c) ++ x ≡ flat_map escaped_byte (encode_utf8 d) ++ y =
      rw (e, f) at k in
      let same = beginning_same c d (begins (encode_utf8 c) (encode_utf8 d) x y all) in (
        same,
        same_front (flat_map escaped_byte (encode_utf8 d)) x y
            (ap (λ n. flat_map escaped_byte (encode_utf8 n) ++ x) (sym same) ∙ all),
      )

  -- ---- texts

  some_written : (c : ℕ) (x : List ℕ) → Form c → [] ≡ escaped_character special c ++ x → ⊥
  some_written c x (plain s e) k = let (b, bs, some) = encoded_some c in let none : [] ≡ b ∷ (bs ++ x) = k
      ∙ ap (λ l. l ++ x) (e ∙ some) in cc
  some_written c x (marked s e) k = let none : [] ≡ 92 ∷ encode_utf8 c ++ x = k ∙ ap (λ l. l ++ x) e in cc
  some_written c x (hidden s e) k =
      let (b, bs, some) = encoded_some c in
      let none : [] ≡ 92 ∷ (two_digits b ++ flat_map escaped_byte bs ++ x) = k ∙ ap (λ l. l ++ x) e ∙ rw some refl in
      cc

  same_characters : (cs ds : List ℕ)
      → flat_map (escaped_character special) cs ≡ flat_map (escaped_character special) ds → cs ≡ ds
  same_characters [] [] e = refl
  same_characters [] (d ∷ ds) e = absurd (some_written d _ (form_of d) e)
  same_characters (c ∷ cs) [] e = absurd (some_written c _ (form_of c) (sym e))
  same_characters (c ∷ cs) (d ∷ ds) e =
      let both = one_step c d _ _ (form_of c) (form_of d) e in
      let rest = same_characters cs ds both.1 in
      let first = both.0 in
      cc

  pub same_text : (text other : List ℕ) → IsUtf8 text → IsUtf8 other → escaped special text ≡ escaped special other
      → text ≡ other
  same_text text other u v e = sym (encodes-chars text u) ∙ ap encodes (same_characters (chars text) (chars other) e)
      ∙ encodes-chars other v

  -- no text begins with a special character
  starts_with_no : (mark : ℕ) → mark < 92 → special mark ≡ true → (text rest : List ℕ)
      → escaped special text ≡ mark ∷ rest → ⊥
  starts_with_no mark small is text rest e = go (chars text) e
    where
      first : (c : ℕ) (x : List ℕ) → Form c → escaped_character special c ++ x ≡ mark ∷ rest → ⊥
      first c x (plain s f) k =
          let all : encode_utf8 c ++ x ≡ encode_utf8 mark ++ rest =
          rw f at k ∙ ap (λ l. l ++ rest) (sym (encode_ascii mark (omega (arith, small)))) in
          true≢false (sym is ∙ ap special (sym (encode_same c mark x rest all).0) ∙ s)
      first c x (marked s f) k =
          let all : 92 ∷ encode_utf8 c ++ x ≡ mark ∷ rest = rw f at k in
          let same : 92 ≡ mark = ap (λ l. get_or l 0 0) all in
          omega (arith, small, same)
      first c x (hidden d f) k =
          let (b, bs, some) = encoded_some c in
          let all : 92 ∷ two_digits b ++ flat_map escaped_byte bs ++ x ≡ mark ∷ rest = sym (rw (f, some) refl) ∙ k in
          let same : 92 ≡ mark = ap (λ l. get_or l 0 0) all in
          omega (arith, small, same)

      go : (cs : List ℕ) → flat_map (escaped_character special) cs ≡ mark ∷ rest → ⊥
      go [] k = cc
      go (c ∷ cs) k = first c (flat_map (escaped_character special) cs) (form_of c) k

-- ---- the two sets

pub names_escape : IsEscaping is_special_in_names
unfolding is_special_in_names is_disruptive hexadecimal_digit
names_escape = record {
  backslash = refl;
  ascii = λ c h. grind (arith, nat_tests);
  printed = λ c h. grind (arith, nat_tests);
  no_digit = λ number small. grind (arith, nat_tests);
}

pub quotes_escape : IsEscaping is_special_in_quotes
unfolding is_special_in_quotes is_disruptive hexadecimal_digit
quotes_escape = record {
  backslash = refl;
  ascii = λ c h. grind (arith, nat_tests);
  printed = λ c h. grind (arith, nat_tests);
  no_digit = λ number small. grind (arith, nat_tests);
}

-- ---- texts or bytes

same_hexadecimal : (bytes other : List ℕ) → hexadecimal bytes ≡ hexadecimal other → bytes ≡ other
same_hexadecimal [] [] e = refl
same_hexadecimal [] (d ∷ ds) e = cc
same_hexadecimal (b ∷ bs) [] e = cc
same_hexadecimal (b ∷ bs) (d ∷ ds) e =
    let high : hexadecimal_digit (b / 16) ≡ hexadecimal_digit (d / 16) = cc in
    let low : hexadecimal_digit (b % 16) ≡ hexadecimal_digit (d % 16) = cc in
    let rest : hexadecimal bs ≡ hexadecimal ds = cc in
    let first = same_byte b d (same_digit _ _ high) (same_digit _ _ low) in
    (λ i. first i ∷ same_hexadecimal bs ds rest i)

mark_special : is_special_in_names 35 ≡ true
unfolding is_special_in_names
mark_special = refl

by_forms : (bytes other : List ℕ) (p q : Bool) → is_utf8 bytes ≡ p → is_utf8 other ≡ q
    → (if p then escaped is_special_in_names bytes else marked_bytes bytes)
    ≡ (if q then escaped is_special_in_names other else marked_bytes other)
    → bytes ≡ other
by_forms bytes other true true h k e =
    same_text is_special_in_names names_escape bytes other (IsUtf8-from_is_utf8 bytes h) (IsUtf8-from_is_utf8 other k) e
by_forms bytes other true false h k e =
    absurd (starts_with_no is_special_in_names names_escape 35 (lit< tt) mark_special bytes (hexadecimal other) e)
by_forms bytes other false true h k e =
    absurd (starts_with_no is_special_in_names names_escape 35 (lit< tt) mark_special other (hexadecimal bytes) (sym e))
by_forms bytes other false false h k e = let digits : hexadecimal bytes ≡ hexadecimal other = cc in
    same_hexadecimal bytes other digits

pub same_text_or_bytes : (bytes other : List ℕ) → text_or_bytes bytes ≡ text_or_bytes other → bytes ≡ other
same_text_or_bytes bytes other e = by_forms bytes other (is_utf8 bytes) (is_utf8 other) refl refl e
