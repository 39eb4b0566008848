-- What types whose contents are checked denote.
use Rattle.std.proofs.Common.{◌≡◌, ℕ, ◌≤◌, ◌==◌, Bool, true, false, not, ◌&&◌, ◌||◌, List, [], ◌∷◌, None, inl, inr}
use Rattle.std.proofs.Common.{refl, sym, ap, subst, ◌∙◌, arith, eqb-true, leb-true, lt-ltb, pos, true≢false, ◌≢◌}
use Rattle.std.specs.Prelude.{nat_lt, ◌%◌, ◌^◌, length, slice_index, if◌then◌else◌}
use Rattle.std.specs.List.{AllByRecursion}
use Rattle.std.proofs.lemmas.Bool.{and_parts}
use Rattle.picky_der_core.specs.declared.asn1.wrapper.Wrapper.{Wrapper}
use Rattle.picky_der_core.specs.declared.asn1.wrapper.Wrapper.TheVariants.{OctetContainer, BitContainer, Explicit}
use Rattle.picky_der_core.specs.declared.asn1.wrapper.Wrapper.TheVariants.{Implicit, Application, ImplicitList}
use Rattle.picky_der_core.specs.Tag.{is_constructed}
use Rattle.picky_der_core.specs.Integer.{integer_content}
use Rattle.picky_der_core.specs.IntegerLaws.{is_integer-content}
use Rattle.picky_der_core.specs.Tree.{Tree, Trees}
use Rattle.picky_der_core.specs.Shape.{EachIs, FirstAndRest, FirstOrNone, IsEmpty, contains}
use Rattle.der_types.specs.CharacterStrings.{is_string_content}
use Rattle.der_types.specs.ContentTypes.{ContentType, tag_of, test_of, string_width, string_character}
use Rattle.der_types.specs.BitString.{is_bit_string, is_named_bits, is_bit_set}
use Rattle.der_types.specs.TimeContents.{year_at_first, are_whole_seconds, is_ended, is_generalized_time, is_later_time}
use Rattle.der_types.specs.Denotes.{Denotes, DenoteMembers, DenoteOneOf}
use Rattle.der_types.specs.Notation.{Notation, Member, Members, Alternatives}
use Rattle.der_types.specs.PrimitiveForm.{primitive_form}
use Rattle.der_show.specs.Contents.{form_rule, primitive_rule}
use Rattle.der_show.specs.Written.{IsElementInDer, IsCheckedInside, IsChecked, AreChecked}
use Rattle.der_show.specs.CheckedNotations.{string_tags, is_free_tag, is_content_tag, has_elements, is_checked_in}
use Rattle.der_show.specs.CheckedNotations.{is_checked, are_members_checked, are_alternatives_checked, DenotesChecked}
use Rattle.der_show.proofs.WrittenLemmas.{other_form, other_rule, number_rule}

-- ---- contents under a tag

-- named bits are bits
named_bits : (bs : List ℕ) → is_named_bits bs ≡ true → is_bit_string bs ≡ true
named_bits [] h = h
named_bits (u ∷ []) h = h
named_bits (u ∷ b ∷ bs) h =
    (and_parts (nat_lt u 8 && (slice_index (b ∷ bs) (length bs) % 2 ^ u == 0))
    (is_bit_set (slice_index (b ∷ bs) (length bs)) u) h).0

all_true : (a b c : Bool) → a ≡ true → b ≡ true → c ≡ true → (a && b && c) ≡ true
all_true a b c e f g = rw (e, f, g) refl

first_case : (a b c : Bool) → a ≡ true → b ≡ true → (if a then b else c) ≡ true
first_case a b c e f = rw (e, f) refl

-- a time without a fraction is one
later_time : (bs : List ℕ) → is_later_time bs ≡ true → is_generalized_time bs ≡ true
later_time bs h =
    let size = length bs == 15 in
    let zulu = slice_index bs 14 == 0x5A in
    let timed = and_parts (size && are_whole_seconds bs && zulu) (nat_lt 2049 (year_at_first bs)) h in
    let ended = and_parts (size && are_whole_seconds bs) zulu timed.0 in
    let sized = and_parts size (are_whole_seconds bs) ended.0 in
    let long : nat_lt 14 (length bs) ≡ true = lt-ltb 14 (length bs) (omega (arith, eqb-true (length bs) 15 sized.0)) in
    all_true (nat_lt 14 (length bs)) (are_whole_seconds bs) (is_ended bs) long sized.1
    (first_case size zulu _ sized.0 ended.1)

-- a content that has a test of its own
checked_content : (c : ContentType) (s : List ℕ) → test_of c s ≡ true → IsElementInDer (tag_of c) s
checked_content ContentType.INTEGER s e =
    record {
      form = refl;
      is_content = record { primitive = number_rule s e; set = λ k. absurd (omega (arith, k)) };
      inside = λ k. cc;
    }
checked_content ContentType.ENUMERATED-extensible s e =
    record {
      form = refl;
      is_content = record { primitive = number_rule s e; set = λ k. absurd (omega (arith, k)) };
      inside = λ k. cc;
    }
checked_content ContentType.BIT-STRING s e =
    record {
      form = refl;
      is_content = record { primitive = rw e refl; set = λ k. absurd (omega (arith, k)) };
      inside =
          λ k. cc;
    }
checked_content ContentType.BIT-STRING-named s e =
    let bits = named_bits s e in
    record {
      form = refl;
      is_content = record { primitive = rw bits refl; set = λ k. absurd (omega (arith, k)) };
      inside = λ k. cc;
    }
checked_content ContentType.OBJECT-IDENTIFIER s e =
    record {
      form = refl;
      is_content = record { primitive = rw e refl; set = λ k. absurd (omega (arith, k)) };
      inside =
          λ k. cc;
    }
checked_content ContentType.RELATIVE-OID s e =
    record {
      form = refl;
      is_content = record { primitive = rw e refl; set = λ k. absurd (omega (arith, k)) };
      inside =
          λ k. cc;
    }
checked_content ContentType.GeneralizedTime s e =
    record {
      form = refl;
      is_content = record { primitive = rw e refl; set = λ k. absurd (omega (arith, k)) };
      inside =
          λ k. cc;
    }
checked_content ContentType.GeneralizedTime-later s e =
    let time = later_time s e in
    record {
      form = refl;
      is_content = record { primitive = rw time refl; set = λ k. absurd (omega (arith, k)) };
      inside = λ k. cc;
    }
checked_content ContentType.UTCTime s e =
    record {
      form = refl;
      is_content = record { primitive = rw e refl; set = λ k. absurd (omega (arith, k)) };
      inside =
          λ k. cc;
    }

-- a string of this tag, whose characters are those of its type
abbrev IsString : ℕ → Type 0
IsString tag = (s : List ℕ) → is_string_content (string_width tag) (string_character tag) s ≡ true
    → IsElementInDer tag s

each_tag : (P : ℕ → Type 0) (tag : ℕ) (xs : List ℕ) → AllByRecursion P xs → contains xs tag ≡ true → P tag
each_tag P tag [] all e = cc
each_tag P tag (x ∷ xs) all e = by_first (tag == x) refl e (each_tag P tag xs all.1)
  where
    by_first : (b : Bool) → (tag == x) ≡ b → (b || contains xs tag) ≡ true → (contains xs tag ≡ true → P tag) → P tag
    by_first true same h others = subst P (sym (eqb-true tag x same)) all.0
    by_first false same h others = others h

strings : (tag : ℕ) → contains string_tags tag ≡ true → IsString tag
strings tag =
    let tests : AllByRecursion IsString (0x1C ∷ 0x1E ∷ []) = (
      tested 0x1C refl (λ s e. rw e refl) (omega arith) refl,
      (tested 0x1E refl (λ s e. rw e refl) (omega arith) refl, tt),
    ) in
    let none : AllByRecursion IsString (0x19 ∷ 0x1A ∷ 0x1B ∷ 0x1C ∷ 0x1E ∷ []) = (
      plain 0x19 refl (λ s. refl) (omega arith) refl,
      (plain 0x1A refl (λ s. refl) (omega arith) refl, (plain 0x1B refl (λ s. refl) (omega arith) refl, tests)),
    ) in
    each_tag IsString tag string_tags (
      plain 0x12 refl (λ s. refl) (omega arith) refl,
      (
        plain 0x13 refl (λ s. refl) (omega arith) refl,
        (
          plain 0x14 refl (λ s. refl) (omega arith) refl,
          (plain 0x15 refl (λ s. refl) (omega arith) refl, (plain 0x16 refl (λ s. refl) (omega arith) refl, none)),
        ),
      ),
    )
  where
    tested : (x : ℕ) → form_rule x ≡ None
        → ((s : List ℕ) → is_string_content (string_width x) (string_character x) s ≡ true → primitive_rule x s ≡ None)
        → x ≤ 0x30 → is_constructed x ≡ false → IsString x
    tested x form rule small bit s e = record {
      form = form;
      is_content = record { primitive = rule s e; set = λ k. absurd (omega (arith, k, small)) };
      inside = λ k. absurd (true≢false (sym k ∙ bit));
    }

    plain : (x : ℕ) → form_rule x ≡ None → ((s : List ℕ) → primitive_rule x s ≡ None) → x ≤ 0x30
        → is_constructed x ≡ false → IsString x
    plain x form rule small bit = tested x form (λ s e. rule s) small bit

-- any content under a tag that has no rule
content_tag : (tag : ℕ) (s : List ℕ) → is_content_tag tag ≡ true → IsElementInDer tag s
content_tag tag s e = by_octets (tag == 0x04) refl e
  where
    by_octets : (b : Bool) → (tag == 0x04) ≡ b → (if b then true else (is_free_tag tag && not (is_constructed tag)))
        ≡ true → IsElementInDer tag s
    by_octets true same h =
        subst (λ x. IsElementInDer x s) (sym (eqb-true tag 0x04 same))
        (record {
          form = refl;
          is_content = record { primitive = refl; set = λ k. absurd (omega (arith, k)) };
          inside = λ k. cc;
        })
    by_octets false same h =
        let parts = and_parts (is_free_tag tag) (not (is_constructed tag)) h in
        let free : 0x40 ≤ tag = leb-true 0x40 tag parts.0 in
        record {
          form = other_form tag free;
          is_content = record { primitive = other_rule tag s (omega arith); set = λ k. absurd (omega (arith, k)) };
          inside = λ k. absurd (true≢false (sym parts.1 ∙ ap not k));
        }

-- a tag in its primitive form is the tag, where it is one of a content
primitive_content_tag : (tag : ℕ) → is_content_tag tag ≡ true → primitive_form tag ≡ tag
primitive_content_tag tag e = by_octets (tag == 0x04) refl e
  where
    by_bit : (b : Bool) → not b ≡ true → (if b then 0x1F else tag) ≡ tag
    by_bit true bit = cc
    by_bit false bit = refl

    by_octets : (b : Bool) → (tag == 0x04) ≡ b → (if b then true else (is_free_tag tag && not (is_constructed tag)))
        ≡ true → primitive_form tag ≡ tag
    by_octets true same h = subst (λ x. primitive_form x ≡ x) (sym (eqb-true tag 0x04 same)) refl
    by_octets false same h = by_bit (is_constructed tag) (and_parts (is_free_tag tag) (not (is_constructed tag)) h).1

-- ---- trees

-- the content of one that isn't primitive
inside_checked : (n : Notation) → has_elements n ≡ true → (t : Tree) → Denotes n t → (P : Type 0) → P
    → IsCheckedInside t P
inside_checked (Notation.sequence ms) e t d P p = subst (λ u. IsCheckedInside u P) (sym d.1) p
inside_checked (Notation.list-of kind n) e t d P p = subst (λ u. IsCheckedInside u P) (sym d.1) p
inside_checked (Notation.wrapped w n) e t d P p = subst (λ u. IsCheckedInside u P) (sym d.1) p
inside_checked (Notation.sized least most n) e t d P p = inside_checked n e t d.0 P p
inside_checked _ e t d P p = cc

each_checked : (P : Tree → Type 0) → ((t : Tree) → P t → IsChecked t) → (ts : Trees) → EachIs P ts → AreChecked ts
each_checked P h Trees.none all = tt
each_checked P h (Trees.more t ts) all = (h t all.0, each_checked P h ts all.1)

first_checked : (P : Tree → Type 0) (Q : Trees → Type 0) → ((t : Tree) → P t → IsChecked t)
    → ((ts : Trees) → Q ts → AreChecked ts) → (ts : Trees) → FirstAndRest P Q ts → AreChecked ts
first_checked P Q h k Trees.none d = absurd d
first_checked P Q h k (Trees.more t ts) d = (h t d.0, k ts d.1)

maybe_checked : (P : Tree → Type 0) (Q : Trees → Type 0) → ((t : Tree) → P t → IsChecked t)
    → ((ts : Trees) → Q ts → AreChecked ts) → (ts : Trees) → FirstOrNone P Q ts → AreChecked ts
maybe_checked P Q h k ts (inl d) = first_checked P Q h k ts d
maybe_checked P Q h k ts (inr d) = k ts d

none_checked : (ts : Trees) → IsEmpty ts → AreChecked ts
none_checked Trees.none d = tt
none_checked (Trees.more t ts) d = absurd d

wrapper_checked : (w : Wrapper) (n : Notation) → is_checked_in w (has_elements n) (is_checked n) ≡ true → (t : Tree)
    → Denotes n t → (is_checked n ≡ true → IsChecked t) → IsChecked (Tree.wrapped w t)
wrapper_checked OctetContainer n e t d h = tt
wrapper_checked BitContainer n e t d h = tt
wrapper_checked (Explicit k) n e t d h = h e
wrapper_checked (Implicit k) n e t d h = tt
wrapper_checked (Application k) n e t d h = h e
wrapper_checked (ImplicitList tag) n e t d h =
    let parts = and_parts (is_free_tag tag && has_elements n) (is_checked n) e in
    let front = and_parts (is_free_tag tag) (has_elements n) parts.0 in
    let free : 0x40 ≤ tag = leb-true 0x40 tag front.0 in
    (other_form tag free, λ k. absurd (omega (arith, k)), inside_checked n front.1 t d (IsChecked t) (h parts.1))

mutual
  checked : (n : Notation) → is_checked n ≡ true → (t : Tree) → Denotes n t → IsChecked t
  checked Notation.BOOLEAN e t d = subst IsChecked (sym d.1) tt
  checked (Notation.checked-content c) e t d = subst IsChecked (sym d.1) (checked_content c d.0 d.2)
  checked (Notation.INTEGER-named numbers) e t d =
      subst IsChecked (sym d.1) (checked_content ContentType.INTEGER (integer_content (pos d.0))
      (is_integer-content (pos d.0)))
  checked (Notation.unsigned bits) e t d = subst IsChecked (sym d.1) tt
  checked (Notation.signed bits) e t d =
      subst IsChecked (sym d.1) (checked_content ContentType.INTEGER (integer_content d.0) (is_integer-content d.0))
  checked (Notation.ENUMERATED numbers) e t d =
      subst IsChecked (sym d.1) (checked_content ContentType.ENUMERATED-extensible (integer_content (pos d.0))
      (is_integer-content (pos d.0)))
  checked Notation.OCTET-STRING e t d = subst IsChecked (sym d.1) (content_tag 0x04 d.0 refl)
  checked Notation.NULL e t d = subst IsChecked (sym d) tt
  checked Notation.UTF8String e t d = subst IsChecked (sym d.1) tt
  checked Notation.character e t d = subst IsChecked (sym d.1) tt
  checked (Notation.restricted-string tag) e t d = subst IsChecked (sym d.1) (strings tag e d.0 d.2)
  checked (Notation.any-content tag) e t d = subst IsChecked (sym d.1) (content_tag tag d.0 e)
  checked Notation.any-element e t d = cc
  checked Notation.well-formed-element e t d = cc
  checked (Notation.sequence ms) e t d = subst IsChecked (sym d.1) (members_checked ms e d.0 d.2)
  checked (Notation.choice ts) e t d = subst IsChecked (sym d.1) (alternatives_checked ts e d.0 d.2)
  checked (Notation.list-of kind n) e t d = subst IsChecked (sym d.1) (each_checked (Denotes n) (checked n e) d.0 d.2)
  checked (Notation.wrapped w n) e t d =
      subst IsChecked (sym d.1) (wrapper_checked w n e d.0 d.2 (λ k. checked n k d.0 d.2))
  checked (Notation.content-under tag n) e t d =
      let same = primitive_content_tag tag e in
      subst IsChecked (sym d.1) (subst (λ x. IsElementInDer x d.0) (sym same) (content_tag tag d.0 e))
  checked (Notation.in-range least most n) e t d = checked n e t d.0
  checked (Notation.at-least least n) e t d = checked n e t d.0
  checked (Notation.at-most most n) e t d = checked n e t d.0
  checked (Notation.outside least most n) e t d = checked n e t d.0
  checked (Notation.sized least most n) e t d = checked n e t d.0
  checked (Notation.permitted ranges n) e t d = checked n e t d.0
  checked (Notation.listed contents n) e t d = checked n e t d.0
  checked (Notation.unlisted contents n) e t d = checked n e t d.0
  checked (Notation.begun-otherwise bytes) e t d = cc
  checked (Notation.encoded n) e t d = cc
  checked (Notation.element-of ts) e t d = cc

  members_checked : (ms : Members) → are_members_checked ms ≡ true → (ts : Trees) → DenoteMembers ms ts → AreChecked ts
  members_checked Members.end e ts d = none_checked ts d
  members_checked (Members.member (Member.required n) ms) e ts d =
      let parts = and_parts (is_checked n) (are_members_checked ms) e in
      first_checked (Denotes n) (DenoteMembers ms) (checked n parts.0) (members_checked ms parts.1) ts d
  members_checked (Members.member (Member.optional n) ms) e ts d =
      let parts = and_parts (is_checked n) (are_members_checked ms) e in
      maybe_checked (Denotes n) (DenoteMembers ms) (checked n parts.0) (members_checked ms parts.1) ts d
  members_checked (Members.member (Member.defaulted value n) ms) e ts d =
      let parts = and_parts (is_checked n) (are_members_checked ms) e in
      maybe_checked (λ x. Denotes n x × (x ≢ value)) (DenoteMembers ms) (λ x p. checked n parts.0 x p.0)
      (members_checked ms parts.1) ts d
  members_checked (Members.added ms) e ts (inl d) = members_checked ms e ts d
  members_checked (Members.added ms) e ts (inr d) = none_checked ts d
  members_checked (Members.others excluded) e ts d = cc
  members_checked (Members.others-from least) e ts d = cc
  members_checked (Members.well-formed ms) e ts d = cc

  alternatives_checked : (ns : Alternatives) → are_alternatives_checked ns ≡ true → (t : Tree) → DenoteOneOf ns t
      → IsChecked t
  alternatives_checked Alternatives.none e t d = absurd d
  alternatives_checked (Alternatives.alternative n ns) e t (inl d) = let parts =
      and_parts (is_checked n) (are_alternatives_checked ns) e in checked n parts.0 t d
  alternatives_checked (Alternatives.alternative n ns) e t (inr d) = let parts =
      and_parts (is_checked n) (are_alternatives_checked ns) e in alternatives_checked ns parts.1 t d

pub denotes_checked : DenotesChecked
denotes_checked = checked
