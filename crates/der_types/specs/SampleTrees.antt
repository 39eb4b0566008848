-- Trees that the types of ASN.1 denote: readable ones that vectors can hold.
use Rattle.std.specs.Prelude.{◌≡◌, ℕ, zero, suc, ◌-◌, ◌/◌, ◌%◌, ◌^◌, ◌<◌, Bool, true, false, ◌&&◌, ◌||◌, ◌==◌, nat_lt}
use Rattle.std.specs.Prelude.{nat_le, not, ℤ, pos, negsuc, ◌+ℤ◌, int_le, List, [], ◌∷◌, ◌++◌, length, replicate, chars}
use Rattle.std.specs.Prelude.{IsUtf8, Option, Some, None, is_some, if◌then◌else◌, refl}
use Rattle.std.proofs.Common.{sym, ap, ◌∙◌, subst, arith, inl, inr, eqb-true, leb-true, ltb-true, encode_utf8}
use Rattle.std.proofs.Common.{encode_utf8_all}
use Rattle.std.proofs.lemmas.Bool.{and_parts}
use Rattle.std.proofs.lemmas.Cmp.{nat_list_cmp_total, tied_itself}
use Rattle.std.proofs.lemmas.List.{length-replicate}
use Rattle.std.proofs.lemmas.Str.{chars-encodes}
use Rattle.std.specs.Ordering.{is_lt}
use lib.Utf8.{encode, scalars}
use Rattle.picky_der_core.specs.declared.asn1.wrapper.Wrapper.{Wrapper}
use Rattle.picky_der_core.specs.declared.asn1.wrapper.Wrapper.TheVariants.{OctetContainer, BitContainer, Explicit}
use Rattle.picky_der_core.specs.declared.asn1.wrapper.Wrapper.TheVariants.{Implicit, Application, ImplicitList}
use Rattle.picky_der_core.specs.Element.{AreBytes}
use Rattle.picky_der_core.specs.Encoding.{encodings, der}
use Rattle.picky_der_core.specs.Integer.{bits_of, fits_signed, integer_content, integer_tree, turned_if}
use Rattle.picky_der_core.specs.IntegerLaws.{AreBytes-content, value-content}
use Rattle.picky_der_core.specs.IntLaws.{length-integer_content}
use Rattle.picky_der_core.specs.Order.{is_less, IsAscending}
use Rattle.picky_der_core.specs.OrderLaws.{IsSortedBy-nil, IsSortedBy-one, IsSortedBy-cons}
use Rattle.picky_der_core.specs.Primitive.{Primitive, primitive_content, unsigned_content}
use Rattle.picky_der_core.specs.Readable.{IsReadable, AreReadable, IsInOrder, IsHeadedIfChoice, IsNoChoice}
use Rattle.picky_der_core.specs.Shape.{contains, begins_outside, EachIs}
use Rattle.picky_der_core.specs.Tag.{number_of, is_tag_number, is_constructed, IsConstructedTag, is_constructed_tag}
use Rattle.picky_der_core.specs.Tree.{ListKind, Tree, Trees}
use Rattle.picky_der_core.specs.UnsignedLaws.{length-unsigned_content}
use Rattle.picky_der_core.specs.Wrapper.{HasTagNumber, has_tag_number, keeps_header}
use Rattle.picky_der_de.specs.Examples.{HasReadable, null_element_readable}
use Rattle.std.specs.List.{list_all}
use Rattle.der_types.specs.Alphabets.{is_of}
use Rattle.der_types.specs.BitString.{bit_string_content}
use Rattle.der_types.specs.CharacterStrings.{is_string_content, string_content}
use Rattle.der_types.specs.Constraints.{is_size, is_between, member_count}
use Rattle.der_types.specs.ContentTypes.{ContentType, tag_of, test_of, string_width, string_character}
use Rattle.der_types.specs.Denotes.{Denotes, DenoteMembers, DenoteOneOf, IsShort, EachIsShort, content_tree}
use Rattle.der_types.specs.Denotes.{is_listed, tree_characters, tree_content, tree_number, tree_size}
use Rattle.der_types.specs.Exact.{IsExact, Values, ProvedValues, is_exact}
use Rattle.der_types.specs.ExactEnumerated.{one_byte}
use Rattle.der_types.specs.Notation.{Notation, Member, Members, Alternatives}
use Rattle.der_types.specs.PrimitiveForm.{primitive_form}
use Rattle.der_types.specs.WellFormedLaws.{null_well_formed}

-- ---- tests that are done while a tree is made

abbrev decided : (b : Bool) → Option (b ≡ true)
decided true = Some refl
decided false = None

abbrev denied : (b : Bool) → Option (b ≡ false)
denied true = None
denied false = Some refl

abbrev with : {A B : Type 0} → Option A → (A → Option B) → Option B
with None make = None
with (Some a) make = make a

abbrev first_found : {A : Type 0} → Option A → Option A → Option A
first_found None other = other
first_found (Some a) other = Some a

-- ---- what a tree of a type is

pub record Sample (n : Notation) : Type 0 where
  pub tree : Tree
  pub denoted : Denotes n tree
  pub readable : IsReadable tree
  pub short : IsShort tree
  -- its size and its number, which may be known where those of the tree aren't computed
  pub size : ℕ
  pub sized : tree_size n tree ≡ size
  pub number : ℤ
  pub numbered : tree_number tree ≡ number

pub record MembersSample (ms : Members) : Type 0 where
  pub trees : Trees
  pub denoted : DenoteMembers ms trees
  pub readable : AreReadable trees
  pub short : EachIsShort trees

pub record AlternativeSample (ts : Alternatives) : Type 0 where
  pub tree : Tree
  pub denoted : DenoteOneOf ts tree
  pub readable : IsReadable tree
  pub short : IsShort tree

abbrev sample : (n : Notation) (t : Tree) → Denotes n t → IsReadable t → IsShort t → Sample n
sample n t d r s = record {
  tree = t;
  denoted = d;
  readable = r;
  short = s;
  size = tree_size n t;
  sized = refl;
  number = tree_number t;
  numbered = refl;
}

pub zero_short : 0 < 2 ^ 63
zero_short = omega arith

pub one_short : 1 < 2 ^ 63
one_short = omega arith

pub two_short : 2 < 2 ^ 63
two_short = omega arith

-- ---- contents

abbrev are_bytes : List ℕ → Bool
are_bytes [] = true
are_bytes (b ∷ bs) = nat_lt b 256 && are_bytes bs

bytes_of : (bs : List ℕ) → are_bytes bs ≡ true → AreBytes bs
bytes_of [] h = tt
bytes_of (b ∷ bs) h = let p = and_parts (nat_lt b 256) (are_bytes bs) h in (ltb-true b 256 p.0, bytes_of bs p.1)

-- bytes under a tag, in a vector
abbrev is_short_content : ℕ → List ℕ → Bool
is_short_content tag s = is_tag_number (number_of tag) && (are_bytes s && nat_lt (length s) (2 ^ 63))

pub content_readable : (tag : ℕ) (s : List ℕ) → is_short_content tag s ≡ true → IsReadable (content_tree tag s)
content_readable tag s h =
    let p = and_parts (is_tag_number (number_of tag)) (are_bytes s && nat_lt (length s) (2 ^ 63)) h in
    (leb-true (number_of tag) 30 p.0, bytes_of s (and_parts (are_bytes s) (nat_lt (length s) (2 ^ 63)) p.1).0)

pub content_short : (tag : ℕ) (s : List ℕ) → is_short_content tag s ≡ true → IsShort (content_tree tag s)
content_short tag s h =
    let p = and_parts (is_tag_number (number_of tag)) (are_bytes s && nat_lt (length s) (2 ^ 63)) h in
    ltb-true (length s) (2 ^ 63) (and_parts (are_bytes s) (nat_lt (length s) (2 ^ 63)) p.1).1

abbrev content_sample : (n : Notation) (tag : ℕ) (s : List ℕ) → Option (Denotes n (content_tree tag s))
    → Option (Sample n)
content_sample n tag s denoted =
    with denoted
    (λ d. with (decided (is_short_content tag s))
    (λ h. Some (sample n (content_tree tag s) d (content_readable tag s h) (content_short tag s h))))

-- ---- what is wished for: a number, or a size

abbrev natural : ℤ → ℕ
natural (pos n) = n
natural (negsuc n) = 0

-- the bytes of a number, of which the first is below 128, in at most so many and one
abbrev bytes_within : ℕ → ℕ → List ℕ
bytes_within zero n = n ∷ []
bytes_within (suc k) n = if nat_lt n 0x80 then n ∷ [] else bytes_within k (n / 256) ++ (n % 256 ∷ [])

abbrev number_bytes : ℤ → List ℕ
number_bytes (pos n) = bytes_within 16 n
number_bytes (negsuc n) = turned_if true (bytes_within 16 n)

-- the content of a checked type
abbrev wished_content : ℤ → ContentType → List ℕ
wished_content wish ContentType.INTEGER = number_bytes wish
wished_content wish ContentType.ENUMERATED-extensible = 0x00 ∷ []
wished_content wish ContentType.BIT-STRING = bit_string_content (replicate (natural wish) false)
wished_content wish ContentType.BIT-STRING-named = 0x00 ∷ []
wished_content wish ContentType.OBJECT-IDENTIFIER = 0x2A ∷ []
wished_content wish ContentType.RELATIVE-OID = 0x01 ∷ []
-- 20500101000000Z
wished_content wish ContentType.GeneralizedTime = 0x32 ∷ 0x30 ∷ 0x35 ∷ 0x30 ∷ 0x30 ∷ 0x31 ∷ 0x30 ∷ 0x31 ∷ 0x30 ∷ 0x30
    ∷ 0x30 ∷ 0x30 ∷ 0x30 ∷ 0x30 ∷ 0x5A ∷ []
wished_content wish ContentType.GeneralizedTime-later = 0x32 ∷ 0x30 ∷ 0x35 ∷ 0x30 ∷ 0x30 ∷ 0x31 ∷ 0x30 ∷ 0x31 ∷ 0x30
    ∷ 0x30 ∷ 0x30 ∷ 0x30 ∷ 0x30 ∷ 0x30 ∷ 0x5A ∷ []
-- 500101000000Z
wished_content wish ContentType.UTCTime = 0x35 ∷ 0x30 ∷ 0x30 ∷ 0x31 ∷ 0x30 ∷ 0x31 ∷ 0x30 ∷ 0x30 ∷ 0x30 ∷ 0x30 ∷ 0x30
    ∷ 0x30 ∷ 0x5A ∷ []

-- so many of a character, as a zero, which is in each set
abbrev wished_string : ℕ → ℕ → ℕ → List ℕ
wished_string character wish tag = string_content (string_width tag) (replicate wish character)

abbrev first_character : List (ℕ × ℕ) → ℕ
first_character [] = 0x30
first_character (r ∷ rs) = r.0

-- ---- numbers

pub number_short : (n : ℕ) → nat_lt n (2 ^ 128) ≡ true → length (unsigned_content n) < 2 ^ 63
number_short n e = omega (arith, length-unsigned_content n (ltb-true n (2 ^ 128) e))

pub integer_readable : (z : ℤ) → IsReadable (integer_tree z)
integer_readable z = (leb-true 2 30 refl, AreBytes-content z)

pub integer_short : (z : ℤ) → nat_lt (bits_of z) (2 ^ 128) ≡ true → length (integer_content z) < 2 ^ 63
integer_short z e = omega (arith, length-integer_content z (ltb-true (bits_of z) (2 ^ 128) e))

abbrev signed_sample : (bits : ℕ) (z : ℤ) → fits_signed bits z ≡ true → nat_lt (bits_of z) (2 ^ 128) ≡ true
    → Sample (Notation.signed bits)
signed_sample bits z f e = record {
  tree = integer_tree z;
  denoted = (z, refl, f);
  readable = integer_readable z;
  short = integer_short z e;
  size = tree_size (Notation.signed bits) (integer_tree z);
  sized = refl;
  number = z;
  numbered = value-content z;
}

-- the first of the numbers of an enumeration
abbrev first_of : List ℕ → ℕ
first_of [] = 0
first_of (n ∷ ns) = n

-- ---- texts

abbrev pub letters : ℕ → List ℕ
letters n = replicate n 0x61

one_letter : encode_utf8 0x61 ≡ 0x61 ∷ []
unfolding encode
one_letter = refl

letters_encoded : (n : ℕ) → encode_utf8_all (letters n) ≡ letters n
letters_encoded zero = refl
letters_encoded (suc n) = ap (λ s. s ++ encode_utf8_all (letters n)) one_letter ∙ ap (λ s. 0x61 ∷ s) (letters_encoded n)

letters_valid : (n : ℕ) → scalars (letters n) ≡ true
letters_valid zero = refl
letters_valid (suc n) = letters_valid n

pub letters_readable : (n : ℕ) → IsUtf8 (letters n)
letters_readable n = (letters n, (letters_valid n, letters_encoded n))

pub letter_count : (n : ℕ) → length (chars (letters n)) ≡ n
letter_count n =
    ap (λ s. length (chars s)) (sym (letters_encoded n))
    ∙ (ap length (chars-encodes (letters n) (letters_valid n)) ∙ length-replicate n 0x61)

abbrev text_sample : (wish : ℕ) → nat_lt (length (letters wish)) (2 ^ 63) ≡ true → Sample Notation.UTF8String
text_sample wish h = record {
  tree = Tree.primitive (Primitive.text (letters wish));
  denoted = (letters wish, refl, tt);
  readable = letters_readable wish;
  short = ltb-true (length (letters wish)) (2 ^ 63) h;
  size = wish;
  sized = letter_count wish;
  number = pos 0;
  numbered = refl;
}

-- ---- wrappers

constructed : (tag : ℕ) → is_constructed_tag tag ≡ true → IsConstructedTag tag
constructed tag h =
    let p = and_parts (is_tag_number (number_of tag)) (is_constructed tag) h in
    (leb-true (number_of tag) 30 p.0, eqb-true (tag / 32 % 2) 1 p.1)

numbered : (w : Wrapper) → has_tag_number w ≡ true → HasTagNumber w
numbered OctetContainer h = tt
numbered BitContainer h = tt
numbered (Explicit n) h = leb-true n 30 h
numbered (Implicit n) h = leb-true n 30 h
numbered (Application n) h = leb-true n 30 h
numbered (ImplicitList tag) h = constructed tag h

abbrev is_no_choice : Tree → Bool
is_no_choice (Tree.choice t) = false
is_no_choice _ = true

no_choice : (t : Tree) → is_no_choice t ≡ true → IsNoChoice t
no_choice (Tree.primitive p) h = tt
no_choice (Tree.list kind ts) h = tt
no_choice (Tree.wrapped w t) h = tt
no_choice (Tree.raw s) h = tt
no_choice (Tree.choice t) h = cc
no_choice Tree.absent h = tt

headed : (b : Bool) (t : Tree) → (b || is_no_choice t) ≡ true → IsHeadedIfChoice b t
headed true t h = tt
headed false t h = no_choice t h

module _ (w : Wrapper) (n : Notation) where
  abbrev can_be_wrapped : Tree → Bool
  can_be_wrapped t = has_tag_number w && (keeps_header w || is_no_choice t)

  pub wrapped_readable : (t : Tree) → can_be_wrapped t ≡ true → IsReadable t → IsReadable (Tree.wrapped w t)
  wrapped_readable t h r =
      let p = and_parts (has_tag_number w) (keeps_header w || is_no_choice t) h in
      (numbered w p.0, headed (keeps_header w) t p.1, r)

  abbrev wrapped_sample : Sample n → Option (Sample (Notation.wrapped w n))
  wrapped_sample x =
      with (decided (can_be_wrapped x.tree))
      (λ h. Some (sample (Notation.wrapped w n) (Tree.wrapped w x.tree) (x.tree, refl, x.denoted)
      (wrapped_readable x.tree h x.readable) x.short))

-- a content under this tag in place of its own
abbrev under_sample : (tag : ℕ) (n : Notation) (t : Tree) → Denotes n t → IsReadable t
    → Option (Sample (Notation.content-under tag n))
under_sample tag n (Tree.primitive (Primitive.unsigned k)) d r = None
under_sample tag n (Tree.primitive p) d r =
    content_sample (Notation.content-under tag n) (primitive_form tag) (primitive_content p)
    (Some (primitive_content p, refl, (p, refl, r, d)))
under_sample tag n _ d r = None

-- ---- lists of copies of one tree

abbrev copies : ℕ → Tree → Trees
copies zero t = Trees.none
copies (suc n) t = Trees.more t (copies n t)

pub copies_are : (P : Tree → Type 0) (n : ℕ) (t : Tree) → P t → EachIs P (copies n t)
copies_are P zero t p = tt
copies_are P (suc n) t p = (p, copies_are P n t p)

pub copies_readable : (n : ℕ) (t : Tree) → IsReadable t → AreReadable (copies n t)
copies_readable zero t r = tt
copies_readable (suc n) t r = (r, copies_readable n t r)

pub copies_short : (n : ℕ) (t : Tree) → IsShort t → EachIsShort (copies n t)
copies_short zero t s = tt
copies_short (suc n) t s = (s, copies_short n t s)

not_less : (bs : List ℕ) → is_less bs bs ≡ false
not_less bs = ap is_lt (tied_itself nat_list_cmp_total bs)

copies_ascend : (n : ℕ) (t : Tree) → IsAscending (encodings (copies n t))
unfolding encodings der
copies_ascend zero t = IsSortedBy-nil is_less
copies_ascend (suc zero) t = IsSortedBy-one is_less (der t)
copies_ascend (suc (suc n)) t = IsSortedBy-cons is_less (der t) (der t) (encodings (copies n t)) (not_less (der t))
    (copies_ascend (suc n) t)

pub copies_in_order : (kind : ListKind) (n : ℕ) (t : Tree) → IsInOrder kind (encodings (copies n t))
copies_in_order ListKind.sequence n t = tt
copies_in_order ListKind.set n t = copies_ascend n t

module _ (kind : ListKind) (n : Notation) where
  abbrev empty_sample : Sample (Notation.list-of kind n)
  empty_sample = sample (Notation.list-of kind n) (Tree.list kind Trees.none) (Trees.none, refl, tt)
      (copies_in_order kind 0 Tree.absent, tt) (zero_short, tt)

  abbrev copies_sample : ℕ → Sample n → Option (Sample (Notation.list-of kind n))
  copies_sample k x =
      with (decided (nat_lt (member_count (copies k x.tree)) (2 ^ 63)))
      (λ h. Some (sample (Notation.list-of kind n) (Tree.list kind (copies k x.tree))
      (copies k x.tree, refl, copies_are (Denotes n) k x.tree x.denoted)
      (copies_in_order kind k x.tree, copies_readable k x.tree x.readable)
      (ltb-true (member_count (copies k x.tree)) (2 ^ 63) h, copies_short k x.tree x.short)))

-- ---- members

abbrev member_then : (n : Notation) (ms : Members) → Sample n → MembersSample ms
    → MembersSample (Members.member (Member.required n) ms)
member_then n ms x others = record {
  trees = Trees.more x.tree others.trees;
  denoted = (x.denoted, others.denoted);
  readable = (x.readable, others.readable);
  short = (x.short, others.short);
}

-- one that isn't there
abbrev absent_optional : (n : Notation) (ms : Members) → MembersSample ms
    → MembersSample (Members.member (Member.optional n) ms)
absent_optional n ms others = record {
  trees = others.trees;
  denoted = inr others.denoted;
  readable = others.readable;
  short = others.short;
}

abbrev absent_default : (value : Tree) (n : Notation) (ms : Members) → MembersSample ms
    → MembersSample (Members.member (Member.defaulted value n) ms)
absent_default value n ms others = record {
  trees = others.trees;
  denoted = inr others.denoted;
  readable =
      others.readable;
  short = others.short;
}

-- no members are well-formed ones
abbrev none_well_formed : (ms : Members) (ts : Trees) → DenoteMembers ms ts
    → Option (MembersSample (Members.well-formed ms))
none_well_formed ms Trees.none d =
    Some (record { trees = Trees.none; denoted = (d, tt); readable = tt; short = tt })
none_well_formed ms (Trees.more t ts) d = None

abbrev sequence_sample : (ms : Members) → MembersSample ms → Option (Sample (Notation.sequence ms))
sequence_sample ms m =
    with (decided (nat_lt (member_count m.trees) (2 ^ 63)))
    (λ h. Some (sample (Notation.sequence ms) (Tree.list ListKind.sequence m.trees) (m.trees, refl, m.denoted) (
      tt,
      m.readable,
    ) (ltb-true (member_count m.trees) (2 ^ 63) h, m.short)))

-- ---- alternatives

module _ (n : Notation) (ts : Alternatives) where
  abbrev this_or_other : Option (Sample n) → Option (AlternativeSample ts)
      → Option (AlternativeSample (Alternatives.alternative n ts))
  this_or_other (Some x) other =
      Some (record { tree = x.tree; denoted = inl x.denoted; readable = x.readable; short = x.short })
  this_or_other None other =
      with other (λ y. Some (record { tree = y.tree; denoted = inr y.denoted; readable = y.readable; short = y.short }))

abbrev choice_sample : (ts : Alternatives) → AlternativeSample ts → Sample (Notation.choice ts)
choice_sample ts x = sample (Notation.choice ts) (Tree.choice x.tree) (x.tree, refl, x.denoted) x.readable x.short

-- ---- constraints

module _ (n : Notation) (x : Sample n) where
  -- the same tree, of a type whose constraint it meets
  abbrev constrained_sample : (m : Notation) → Denotes m x.tree → Sample m
  constrained_sample m d = record {
    tree = x.tree;
    denoted = d;
    readable = x.readable;
    short = x.short;
    size = tree_size m x.tree;
    sized = refl;
    number = x.number;
    numbered = x.numbered;
  }

  abbrev in_range_sample : (least most : ℤ) → Option (Sample (Notation.in-range least most n))
  in_range_sample least most =
      with (decided (is_between least most x.number))
      (λ e. Some (constrained_sample (Notation.in-range least most n) (
        x.denoted,
        ap (is_between least most) x.numbered ∙ e,
      )))

  abbrev at_least_sample : (least : ℤ) → Option (Sample (Notation.at-least least n))
  at_least_sample least =
      with (decided (int_le least x.number))
      (λ e. Some (constrained_sample (Notation.at-least least n) (x.denoted, ap (int_le least) x.numbered ∙ e)))

  abbrev at_most_sample : (most : ℤ) → Option (Sample (Notation.at-most most n))
  at_most_sample most =
      with (decided (int_le x.number most))
      (λ e. Some (constrained_sample (Notation.at-most most n) (x.denoted, ap (λ z. int_le z most) x.numbered ∙ e)))

  abbrev outside_sample : (least most : ℤ) → Option (Sample (Notation.outside least most n))
  outside_sample least most =
      with (denied (is_between least most x.number))
      (λ e. Some (constrained_sample (Notation.outside least most n) (
        x.denoted,
        ap (is_between least most) x.numbered ∙ e,
      )))

  abbrev sized_sample : (least most : ℕ) → Option (Sample (Notation.sized least most n))
  sized_sample least most =
      with (decided (is_size least most x.size))
      (λ e. Some (constrained_sample (Notation.sized least most n) (
        x.denoted,
        ap (is_size least most) x.sized ∙ e,
      )))

  abbrev permitted_sample : (ranges : List (ℕ × ℕ)) → Option (Sample (Notation.permitted ranges n))
  permitted_sample ranges =
      with (decided (list_all (is_of ranges) (tree_characters n x.tree)))
      (λ e. Some (constrained_sample (Notation.permitted ranges n) (x.denoted, e)))

  abbrev listed_sample : (contents : List (List ℕ)) → Option (Sample (Notation.listed contents n))
  listed_sample contents =
      with (decided (is_listed contents (tree_content x.tree)))
      (λ e. Some (constrained_sample (Notation.listed contents n) (x.denoted, e)))

  abbrev unlisted_sample : (contents : List (List ℕ)) → Option (Sample (Notation.unlisted contents n))
  unlisted_sample contents =
      with (decided (not (is_listed contents (tree_content x.tree))))
      (λ e. Some (constrained_sample (Notation.unlisted contents n) (x.denoted, e)))

-- the first of the contents that a type lists
abbrev first_content : List (List ℕ) → List ℕ
first_content [] = []
first_content (c ∷ cs) = c

-- a tree with this content
abbrev with_content : List ℕ → (n : Notation) → Option (Sample n)
with_content s (Notation.checked-content c) =
    content_sample (Notation.checked-content c) (tag_of c) s (with (decided (test_of c s)) (λ e. Some (s, refl, e)))
with_content s Notation.OCTET-STRING = content_sample Notation.OCTET-STRING 0x04 s (Some (s, refl, tt))
with_content s (Notation.any-content tag) = content_sample (Notation.any-content tag) tag s (Some (s, refl, tt))
with_content s (Notation.restricted-string tag) =
    content_sample (Notation.restricted-string tag) tag s
    (with (decided (is_string_content (string_width tag) (string_character tag) s)) (λ e. Some (s, refl, e)))
with_content s Notation.BOOLEAN =
    Some (sample Notation.BOOLEAN (Tree.primitive (Primitive.boolean false)) (false, refl, tt) tt one_short)
with_content s n = None

-- a wish, or a bound that it is beyond
abbrev raised : ℤ → ℤ → ℤ
raised least wish = if int_le least wish then wish else least

abbrev lowered : ℤ → ℤ → ℤ
lowered most wish = if int_le wish most then wish else most

-- ---- a tree of each type, of a number or a size that is wished for; none where the search finds none

abbrev mutual
  pub sample_of : ℤ → (n : Notation) → Option (Sample n)
  sample_of wish Notation.BOOLEAN =
      Some (sample Notation.BOOLEAN (Tree.primitive (Primitive.boolean true)) (true, refl, tt) tt one_short)
  sample_of wish (Notation.checked-content c) =
      content_sample (Notation.checked-content c) (tag_of c) (wished_content wish c)
      (with (decided (test_of c (wished_content wish c))) (λ e. Some (wished_content wish c, refl, e)))
  sample_of wish (Notation.INTEGER-named numbers) =
      content_sample (Notation.INTEGER-named numbers) 0x02 (first_of numbers ∷ [])
      (with (decided (nat_lt (first_of numbers) 0x80))
      (λ e. with (decided (contains numbers (first_of numbers)))
      (λ c. Some (first_of numbers, ap (content_tree 0x02) (one_byte (first_of numbers) e), c))))
  sample_of wish (Notation.unsigned bits) =
      with (decided (nat_lt (natural wish) (2 ^ 128)))
      (λ e. with (decided (nat_le (natural wish) (2 ^ bits - 1)))
      (λ f. Some (sample (Notation.unsigned bits) (Tree.primitive (Primitive.unsigned (natural wish))) (
        natural wish,
        refl,
        leb-true (natural wish) (2 ^ bits - 1) f,
      ) tt (number_short (natural wish) e))))
  sample_of wish (Notation.signed bits) =
      with (decided (nat_lt (bits_of wish) (2 ^ 128)))
      (λ e. with (decided (fits_signed bits wish)) (λ f. Some (signed_sample bits wish f e)))
  sample_of wish (Notation.ENUMERATED numbers) =
      content_sample (Notation.ENUMERATED numbers) 0x0A (first_of numbers ∷ [])
      (with (decided (nat_lt (first_of numbers) 0x80))
      (λ e. with (decided (contains numbers (first_of numbers)))
      (λ c. Some (first_of numbers, ap (content_tree 0x0A) (one_byte (first_of numbers) e), c))))
  sample_of wish Notation.OCTET-STRING =
      content_sample Notation.OCTET-STRING 0x04 (replicate (natural wish) 0x00)
      (Some (replicate (natural wish) 0x00, refl, tt))
  sample_of wish Notation.NULL = Some (sample Notation.NULL (Tree.primitive Primitive.null) refl tt zero_short)
  sample_of wish Notation.UTF8String =
      with (decided (nat_lt (length (letters (natural wish))) (2 ^ 63))) (λ h. Some (text_sample (natural wish) h))
  sample_of wish Notation.character =
      Some (sample Notation.character (Tree.primitive (Primitive.text (0x61 ∷ []))) (0x61 ∷ [], refl, letter_count 1)
      (letters_readable 1) one_short)
  sample_of wish (Notation.restricted-string tag) =
      let s : List ℕ = wished_string 0x30 (natural wish) tag in
      content_sample (Notation.restricted-string tag) tag s
      (with (decided (is_string_content (string_width tag) (string_character tag) s)) (λ e. Some (s, refl, e)))
  sample_of wish (Notation.any-content tag) =
      content_sample (Notation.any-content tag) tag (replicate (natural wish) 0x00)
      (Some (replicate (natural wish) 0x00, refl, tt))
  sample_of wish Notation.any-element =
      Some (sample Notation.any-element (Tree.raw (0x05 ∷ 0x00 ∷ [])) (0x05 ∷ 0x00 ∷ [], refl, tt) null_element_readable
      two_short)
  sample_of wish Notation.well-formed-element =
      Some (sample Notation.well-formed-element (Tree.raw (0x05 ∷ 0x00 ∷ [])) (
        0x05 ∷ 0x00 ∷ [],
        refl,
        ∣ null_well_formed ∣₁,
      ) null_element_readable two_short)
  sample_of wish (Notation.sequence ms) = with (members_sample ms) (sequence_sample ms)
  sample_of wish (Notation.choice ts) = with (alternative_sample ts) (λ x. Some (choice_sample ts x))
  sample_of (pos zero) (Notation.list-of kind n) = Some (empty_sample kind n)
  sample_of (pos (suc wish)) (Notation.list-of kind n) = with (sample_of (pos 0) n) (copies_sample kind n (suc wish))
  sample_of (negsuc wish) (Notation.list-of kind n) = Some (empty_sample kind n)
  sample_of wish (Notation.wrapped w n) = with (sample_of wish n) (wrapped_sample w n)
  sample_of wish (Notation.content-under tag n) =
      with (sample_of wish n) (λ x. under_sample tag n x.tree x.denoted x.readable)
  sample_of wish (Notation.in-range least most n) =
      with (sample_of (lowered most (raised least wish)) n) (λ x. in_range_sample n x least most)
  sample_of wish (Notation.at-least least n) = with (sample_of (raised least wish) n) (λ x. at_least_sample n x least)
  sample_of wish (Notation.at-most most n) = with (sample_of (lowered most wish) n) (λ x. at_most_sample n x most)
  sample_of wish (Notation.outside least most n) =
      first_found (with (sample_of wish n) (λ x. outside_sample n x least most))
      (with (sample_of (most +ℤ pos 1) n) (λ x. outside_sample n x least most))
  sample_of wish (Notation.sized least most n) = with (sample_of (pos least) n) (λ x. sized_sample n x least most)
  sample_of wish (Notation.permitted ranges (Notation.restricted-string tag)) =
      let s : List ℕ = wished_string (first_character ranges) (natural wish) tag in
      let text : Notation = Notation.restricted-string tag in
      content_sample (Notation.permitted ranges text) tag s
      (with (decided (is_string_content (string_width tag) (string_character tag) s))
      (λ e. with (decided (list_all (is_of ranges) (tree_characters text (content_tree tag s))))
      (λ f. Some ((s, refl, e), f))))
  sample_of wish (Notation.permitted ranges n) = with (sample_of wish n) (λ x. permitted_sample n x ranges)
  sample_of wish (Notation.listed contents n) =
      first_found (with (with_content (first_content contents) n) (λ x. listed_sample n x contents))
      (with (sample_of wish n) (λ x. listed_sample n x contents))
  sample_of wish (Notation.unlisted contents n) =
      first_found (with (sample_of wish n) (λ x. unlisted_sample n x contents))
      (with (sample_of (wish +ℤ pos 1) n) (λ x. unlisted_sample n x contents))
  sample_of wish (Notation.begun-otherwise bytes) =
      with (decided (begins_outside bytes (0x05 ∷ 0x00 ∷ [])))
      (λ e. Some (sample (Notation.begun-otherwise bytes) (Tree.raw (0x05 ∷ 0x00 ∷ [])) (0x05 ∷ 0x00 ∷ [], refl, e)
      null_element_readable two_short))
  sample_of wish (Notation.encoded n) = None
  sample_of wish (Notation.element-of ts) = None

  pub members_sample : (ms : Members) → Option (MembersSample ms)
  members_sample Members.end = Some (record { trees = Trees.none; denoted = tt; readable = tt; short = tt })
  members_sample (Members.member (Member.required n) ms) =
      with (sample_of (pos 0) n) (λ x. with (members_sample ms) (λ others. Some (member_then n ms x others)))
  members_sample (Members.member (Member.optional n) ms) =
      with (members_sample ms) (λ others. Some (absent_optional n ms others))
  members_sample (Members.member (Member.defaulted value n) ms) =
      with (members_sample ms) (λ others. Some (absent_default value n ms others))
  members_sample (Members.added ms) =
      Some (record { trees = Trees.none; denoted = inr tt; readable = tt; short = tt })
  members_sample (Members.others excluded) =
      Some (record { trees = Trees.none; denoted = tt; readable = tt; short = tt })
  members_sample (Members.others-from least) =
      Some (record { trees = Trees.none; denoted = tt; readable = tt; short = tt })
  members_sample (Members.well-formed ms) = with (members_sample ms) (λ x. none_well_formed ms x.trees x.denoted)

  pub alternative_sample : (ts : Alternatives) → Option (AlternativeSample ts)
  alternative_sample Alternatives.none = None
  alternative_sample (Alternatives.alternative n ts) = this_or_other n ts (sample_of (pos 0) n) (alternative_sample ts)

-- whether the search finds a tree of the type
abbrev pub has_sample : Notation → Bool
has_sample n = is_some (sample_of (pos 0) n)

-- ---- a value that means it

value_of : {V : Type 0} (n : Notation) {meaning : V → Tree} → IsExact (Denotes n) meaning → (found : Option (Sample n))
    → is_some found ≡ true → HasReadable meaning
value_of n is None h = cc
value_of n is (Some x) h = let v = is.complete x.tree x.denoted x.readable x.short in
    (v.0, subst IsReadable (sym v.1) x.readable)

pub exact_example : {V : Type 0} (values : Values V) (notation : Notation) (meaning : V → Tree)
    → has_sample notation ≡ true → ProvedValues values notation meaning → HasReadable meaning
exact_example values notation meaning h t = value_of notation (is_exact values t) (sample_of (pos 0) notation) h
