-- Which trees the types of ASN.1 denote, with their contents and ranges. The clauses are clauses of X.680 unless
-- another one is named.
use Rattle.std.specs.Prelude.{◌≡◌, ◌≢◌, ℕ, ◌+◌, ◌-◌, ◌^◌, ◌≤◌, ◌<◌, ℤ, pos, negsuc, Bool, true, false, ◌&&◌, ◌||◌, ◌⊎◌}
use Rattle.std.specs.Prelude.{◌==◌}
use Rattle.std.specs.Prelude.{nat_eq, nat_lt, nat_le, int_le, not, List, [], ◌∷◌, length, chars, IsTrue, ⊤}
use Rattle.std.specs.Prelude.{if◌then◌else◌}
use Rattle.picky_der_core.specs.declared.asn1.tag.TagClass.TheVariants.{ContextSpecific}
use Rattle.picky_der_core.specs.declared.asn1.wrapper.Wrapper.TheVariants as wrapper
use Rattle.picky_der_core.specs.Tag.{class_of, number_of}
use Rattle.picky_der_core.specs.Encoding.{der}
use Rattle.picky_der_core.specs.Integer.{integer_content, integer_value, integer_tree, fits_signed}
use Rattle.picky_der_core.specs.Primitive.{Primitive, primitive_content}
use Rattle.picky_der_core.specs.Readable.{IsReadable}
use Rattle.picky_der_core.specs.Shape.{AllOrNone, AreOthers, EachIs, FirstAndRest, FirstOrNone, IsEmpty, begins_outside}
use Rattle.picky_der_core.specs.Shape.{contains}
use Rattle.picky_der_core.specs.Tree.{ListKind, Tree, Trees}
use Rattle.std.specs.Cmp.Lexicographic.{pointwise}
use Rattle.std.specs.List.{list_all}
use Rattle.der_types.specs.Alphabets.{is_of}
use Rattle.der_types.specs.CharacterStrings.{characters, is_string_content}
use Rattle.der_types.specs.Constraints.{is_size, is_between, tree_bytes, list_size, member_count}
use Rattle.der_types.specs.ContentTypes.{ContentType, tag_of, test_of, size_of, string_width, string_character}
use Rattle.der_types.specs.Notation.{Notation, Member, Members, Alternatives}
use Rattle.der_types.specs.PrimitiveForm.{primitive_form}
use Rattle.der_types.specs.WellFormed.{IsWellFormed}

-- ---- numbers and sizes

-- the number that a tree has
abbrev pub tree_number : Tree → ℤ
tree_number (Tree.primitive (Primitive.unsigned n)) = pos n
tree_number (Tree.primitive (Primitive.bytes tag s)) = integer_value s
tree_number (Tree.wrapped w t) = tree_number t
tree_number _ = pos 0

-- The size of a content, or of so many members. A string that holds an encoding has its own size, whatever that of the
-- value inside is.
abbrev size_by : Notation → List ℕ → ℕ → ℕ
size_by (Notation.checked-content c) s members = size_of c s
size_by Notation.UTF8String s members = length (chars s)
size_by (Notation.restricted-string tag) s members = length (characters (string_width tag) s)
size_by (Notation.list-of kind t) s members = members
size_by (Notation.content-under tag t) s members = size_by t s members
size_by (Notation.sized least most t) s members = size_by t s members
size_by (Notation.permitted ranges t) s members = size_by t s members
size_by (Notation.listed contents t) s members = size_by t s members
size_by (Notation.unlisted contents t) s members = size_by t s members
size_by (Notation.wrapped wrapper.OctetContainer t) s members = length s
size_by (Notation.wrapped wrapper.BitContainer t) s members = size_of ContentType.BIT-STRING s
size_by (Notation.wrapped w t) s members = size_by t s members
size_by _ s members = length s

-- how many bits, bytes, characters or members a tree of the type has (51.5.3)
abbrev pub tree_size : Notation → Tree → ℕ
tree_size n t = size_by n (tree_bytes t) (list_size t)

-- the characters of a string, by their numbers
abbrev pub tree_characters : Notation → Tree → List ℕ
tree_characters Notation.UTF8String t = chars (tree_bytes t)
tree_characters (Notation.restricted-string tag) t = characters (string_width tag) (tree_bytes t)
tree_characters (Notation.content-under tag n) t = tree_characters n t
tree_characters (Notation.sized least most n) t = tree_characters n t
tree_characters (Notation.permitted ranges n) t = tree_characters n t
tree_characters (Notation.listed contents n) t = tree_characters n t
tree_characters (Notation.unlisted contents n) t = tree_characters n t
tree_characters (Notation.wrapped wrapper.OctetContainer n) t = []
tree_characters (Notation.wrapped wrapper.BitContainer n) t = []
tree_characters (Notation.wrapped w n) t = tree_characters n t
tree_characters _ t = []

-- ---- contents

-- that of a tree without parts, and the bytes of an element of any type
abbrev pub tree_content : Tree → List ℕ
tree_content (Tree.primitive p) = primitive_content p
tree_content (Tree.raw s) = s
tree_content _ = []

-- a content is one of these, or something else holds
abbrev or_listed : Bool → List (List ℕ) → List ℕ → Bool
or_listed b [] s = b
or_listed b (c ∷ cs) s = or_listed (b || pointwise nat_eq s c) cs s

-- a content is one of these
abbrev pub is_listed : List (List ℕ) → List ℕ → Bool
is_listed [] s = false
is_listed (c ∷ cs) s = or_listed (pointwise nat_eq s c) cs s

-- ---- trees

-- it is made of a part that is so
abbrev pub IsMade : {A : Type 0} → (A → Tree) → (A → Type 0) → Tree → Type 0
IsMade {A} make P t = (a : A) × (t ≡ make a) × P a

abbrev pub content_tree : ℕ → List ℕ → Tree
content_tree tag s = Tree.primitive (Primitive.bytes tag s)

-- a content under this tag that passes the test
abbrev pub HasContent : ℕ → (List ℕ → Bool) → Tree → Type 0
HasContent tag test = IsMade (content_tree tag) (λ s. test s ≡ true)

-- the bytes begin with the context tag of this number, on an encoding of either form (X.690, 8.1.2)
abbrev pub HasContextTag : ℕ → List ℕ → Type 0
HasContextTag number [] = ⊥
HasContextTag number (b ∷ bs) = (class_of b ≡ ContextSpecific) × (number_of b ≡ number)

-- elements with context tags whose numbers ascend from this one on, as automatic tags do (25.7)
abbrev pub AreNumberedFrom : ℕ → Trees → Type 0
AreNumberedFrom least Trees.none = ⊤
AreNumberedFrom least (Trees.more (Tree.raw s) ts) =
    (number : ℕ) × (least ≤ number) × HasContextTag number s × AreNumberedFrom (number + 1) ts
AreNumberedFrom least (Trees.more _ ts) = ⊥

-- one element, with elements in it at every depth if it is constructed
abbrev pub IsWellFormedTree : Tree → Type 0
IsWellFormedTree (Tree.raw s) = ∥ IsWellFormed s ∥₁
IsWellFormedTree _ = ⊥

-- the bytes are the encoding of a readable tree that is so
abbrev pub IsEncodedAs : (Tree → Type 0) → List ℕ → Type 0
IsEncodedAs P s = (t : Tree) × (s ≡ der t) × IsReadable t × P t

-- A readable tree that is denoted is a value's.
abbrev mutual
  pub Denotes : Notation → Tree → Type 0
  Denotes Notation.BOOLEAN = IsMade (λ b. Tree.primitive (Primitive.boolean b)) (λ b. ⊤)
  Denotes (Notation.checked-content c) = HasContent (tag_of c) (test_of c)
  Denotes (Notation.unsigned bits) = IsMade (λ n. Tree.primitive (Primitive.unsigned n)) (λ n. n ≤ 2 ^ bits - 1)
  Denotes (Notation.signed bits) = IsMade integer_tree (λ z. fits_signed bits z ≡ true)
  Denotes (Notation.ENUMERATED numbers) =
      IsMade (λ n. content_tree 0x0A (integer_content (pos n))) (λ n. IsTrue (contains numbers n))
  Denotes (Notation.INTEGER-named numbers) =
      IsMade (λ n. content_tree 0x02 (integer_content (pos n))) (λ n. IsTrue (contains numbers n))
  Denotes Notation.OCTET-STRING = IsMade (content_tree 0x04) (λ s. ⊤)
  Denotes Notation.NULL = λ t. t ≡ Tree.primitive Primitive.null
  Denotes Notation.UTF8String = IsMade (λ s. Tree.primitive (Primitive.text s)) (λ s. ⊤)
  Denotes Notation.character = IsMade (λ s. Tree.primitive (Primitive.text s)) (λ s. length (chars s) ≡ 1)
  Denotes (Notation.restricted-string tag) =
      HasContent tag (is_string_content (string_width tag) (string_character tag))
  Denotes (Notation.any-content tag) = IsMade (content_tree tag) (λ s. ⊤)
  Denotes Notation.any-element = IsMade Tree.raw (λ s. ⊤)
  Denotes Notation.well-formed-element = IsMade Tree.raw (λ s. ∥ IsWellFormed s ∥₁)
  Denotes (Notation.sequence ms) = IsMade (Tree.list ListKind.sequence) (DenoteMembers ms)
  Denotes (Notation.choice ts) = IsMade Tree.choice (DenoteOneOf ts)
  Denotes (Notation.list-of kind t) = IsMade (Tree.list kind) (EachIs (Denotes t))
  Denotes (Notation.wrapped w t) = IsMade (Tree.wrapped w) (Denotes t)
  Denotes (Notation.content-under tag t) =
      IsMade (content_tree (primitive_form tag)) (λ s. (p : Primitive) × (primitive_content p ≡ s)
      × IsReadable (Tree.primitive p) × Denotes t (Tree.primitive p))
  Denotes (Notation.in-range least most t) = λ x. Denotes t x × (is_between least most (tree_number x) ≡ true)
  Denotes (Notation.at-least least t) = λ x. Denotes t x × (int_le least (tree_number x) ≡ true)
  Denotes (Notation.at-most most t) = λ x. Denotes t x × (int_le (tree_number x) most ≡ true)
  Denotes (Notation.outside least most t) = λ x. Denotes t x × (is_between least most (tree_number x) ≡ false)
  Denotes (Notation.sized least most t) = λ x. Denotes t x × (is_size least most (tree_size t x) ≡ true)
  Denotes (Notation.permitted ranges t) = λ x. Denotes t x × (list_all (is_of ranges) (tree_characters t x) ≡ true)
  Denotes (Notation.listed contents t) = λ x. Denotes t x × (is_listed contents (tree_content x) ≡ true)
  Denotes (Notation.unlisted contents t) = λ x. Denotes t x × (not (is_listed contents (tree_content x)) ≡ true)
  Denotes (Notation.begun-otherwise bytes) = IsMade Tree.raw (λ s. begins_outside bytes s ≡ true)
  Denotes (Notation.encoded t) = IsMade Tree.raw (IsEncodedAs (Denotes t))
  Denotes (Notation.element-of ts) = IsMade Tree.raw (λ s. DenoteOneOf ts (Tree.raw s))

  -- a member before others, for which P holds. One that is its default isn't there (X.690, 11.5).
  pub DenoteFirst : Member → (Trees → Type 0) → Trees → Type 0
  DenoteFirst (Member.required t) P = FirstAndRest (Denotes t) P
  DenoteFirst (Member.optional t) P = FirstOrNone (Denotes t) P
  DenoteFirst (Member.defaulted value t) P = FirstOrNone (λ x. Denotes t x × (x ≢ value)) P

  pub DenoteMembers : Members → Trees → Type 0
  DenoteMembers Members.end = IsEmpty
  DenoteMembers (Members.member m ms) = DenoteFirst m (DenoteMembers ms)
  DenoteMembers (Members.added ms) = AllOrNone (DenoteMembers ms)
  DenoteMembers (Members.others excluded) = AreOthers excluded
  DenoteMembers (Members.others-from least) = AreNumberedFrom least
  DenoteMembers (Members.well-formed ms) = λ ts. DenoteMembers ms ts × EachIs IsWellFormedTree ts

  pub DenoteOneOf : Alternatives → Tree → Type 0
  DenoteOneOf Alternatives.none = λ t. ⊥
  DenoteOneOf (Alternatives.alternative t ts) = λ x. Denotes t x ⊎ DenoteOneOf ts x

-- ---- trees that vectors can hold

-- each of its contents and lists is shorter than 2^63, as a vector is
abbrev mutual
  pub IsShort : Tree → Type 0
  IsShort (Tree.primitive p) = length (primitive_content p) < 2 ^ 63
  IsShort (Tree.list kind ts) = (member_count ts < 2 ^ 63) × EachIsShort ts
  IsShort (Tree.wrapped w t) = IsShort t
  IsShort (Tree.raw s) = length s < 2 ^ 63
  IsShort (Tree.choice t) = IsShort t
  IsShort Tree.absent = ⊤

  pub EachIsShort : Trees → Type 0
  EachIsShort Trees.none = ⊤
  EachIsShort (Trees.more t ts) = IsShort t × EachIsShort ts

-- the same of members: each is so, and a vector holds as many
abbrev pub AreShort : Trees → Type 0
AreShort ts = (member_count ts < 2 ^ 63) × EachIsShort ts
