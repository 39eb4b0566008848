-- The forms of a module as terms: what a module has on the left of these equations, and the type of ASN.1 that it is.
-- The clauses are those of X.680, but where another one is named.
use Rattle.std.specs.Prelude.{ℕ, ◌+◌, ◌-◌, ◌*◌, ◌/◌, ◌%◌, ◌^◌, Bool, true, false, ◌&&◌, List, [], ◌∷◌, ◌++◌, ◌==◌}
use Rattle.std.specs.Prelude.{nat_lt, ℤ, pos, negsuc, ◌+ℤ◌, ◌-ℤ◌, int_le, if◌then◌else◌}
use Rattle.picky_der_core.specs.declared.asn1.tag.TagClass.{TagClass}
use Rattle.picky_der_core.specs.declared.asn1.tag.TagClass.TheVariants.{Universal, Application, ContextSpecific}
use Rattle.picky_der_core.specs.declared.asn1.tag.TagClass.TheVariants.{Private}
use Rattle.picky_der_core.specs.declared.asn1.wrapper.Wrapper.TheVariants as wrapper
use Rattle.picky_der_core.specs.Integer.{bits_of, fits_signed, int_tree, integer_content, unsigned_tree}
use Rattle.picky_der_core.specs.Primitive.{Primitive}
use Rattle.picky_der_core.specs.Tree.{ListKind, Tree}
use Rattle.picky_der_core.specs.Shape.{firsts}
use Rattle.picky_asn1_der.specs.LaterTags.{in_both_forms}
use Rattle.der_types.specs.ContentForms.{INTEGER}
use Rattle.der_types.specs.Notation.{Notation, Member, Members, Alternatives, shape_of}
use Rattle.der_types.specs.TagOrder.{tag_place, is_in_tag_order}

-- the library has no type that has just the values of the text: this one is there instead
abbrev pub wider : Notation → Notation
wider t = t

-- no type of the library is this one: it has no values
abbrev no_type : Notation
no_type = Notation.choice Alternatives.none

-- An open type (X.681, 14.2), and ANY of 1988. Its value is a complete encoding of some type (X.690, 8.15). The values
-- here are more: a constructed element has elements at every depth, but a primitive one may have any content.
abbrev pub ANY : Notation
ANY = Notation.well-formed-element

-- a type that contains itself, where a value would be in itself too often: it begins with this byte, and has no values
abbrev pub beyond-depth : ℕ → Notation
beyond-depth tag = Notation.sized 1 0 (Notation.any-content tag)

-- ---- numbers and sizes of a range

-- a default or a bound, as it is written: a BOOLEAN, a number or that of an item, and a number below zero
pub data Value : Type 0 where
  TRUE : Value
  FALSE : Value
  number : ℕ → Value
  minus : ℕ → Value

abbrev whole : Value → ℤ
whole (Value.number n) = pos n
whole (Value.minus n) = negsuc (n - 1)
whole _ = pos 0

-- how many bits hold the number, of 8, 16, 32, 64 and 128
abbrev bits_for : ℕ → ℕ
bits_for n =
    if nat_lt n (2 ^ 8) then 8
    else (if nat_lt n (2 ^ 16) then 16
    else (if nat_lt n (2 ^ 32) then 32
    else (if nat_lt n (2 ^ 64) then 64 else 128)))

-- 51.4: in as many bits as hold it, and without a range if it is all numbers of so many bits
abbrev pub INTEGER-from-to : ℕ → ℕ → Notation
INTEGER-from-to least most =
    let bits : ℕ = bits_for most in
    if least == 0 && (most == 2 ^ bits - 1) then Notation.unsigned bits else Notation.in-range (pos least) (pos most)
    (Notation.unsigned bits)

-- from a number below zero: in as many bits as hold both with their signs
abbrev signed-from-to : ℤ → ℤ → Notation
signed-from-to least most =
    let bits : ℕ = bits_for (2 * (if nat_lt (bits_of least) (bits_of most) then bits_of most else bits_of least) + 1) in
    if int_le least (negsuc (2 ^ (bits - 1) - 1)) && int_le (pos (2 ^ (bits - 1) - 1)) most then Notation.signed bits
    else Notation.at-most most (Notation.at-least least (Notation.signed bits))

abbrev pub INTEGER-from-minus-to : ℕ → ℕ → Notation
INTEGER-from-minus-to least most = signed-from-to (negsuc (least - 1)) (pos most)

-- numbers from one to another, from one on, and up to one
pub data Interval : Type 0 where
  from-to : Value → Value → Interval
  from-on : Value → Interval
  up-to : Value → Interval

-- in the fewest bits, and in any number of bits without a bound
abbrev in_interval : Interval → Notation
in_interval (Interval.from-to (Value.number least) (Value.number most)) = INTEGER-from-to least most
in_interval (Interval.from-to least most) = signed-from-to (whole least) (whole most)
in_interval (Interval.from-on least) = Notation.at-least (whole least) INTEGER
in_interval (Interval.up-to most) = Notation.at-most (whole most) INTEGER

-- the least interval that has the numbers of both, of which the second has greater numbers
abbrev around : Interval → Interval → Interval
around (Interval.from-to least a) (Interval.from-to b most) = Interval.from-to least most
around (Interval.from-to least a) _ = Interval.from-on least
around _ (Interval.from-to b most) = Interval.up-to most
around i j = i

-- its least and its greatest number, or the one that it has
abbrev low_end : Interval → ℤ
low_end (Interval.from-to least most) = whole least
low_end (Interval.from-on least) = whole least
low_end (Interval.up-to most) = whole most

abbrev high_end : Interval → ℤ
high_end (Interval.from-to least most) = whole most
high_end (Interval.from-on least) = whole least
high_end (Interval.up-to most) = whole most

-- of an interval and later ones, as if they were one
abbrev hull : Interval → List Interval → Notation
hull (Interval.up-to a) (Interval.from-on b ∷ []) = INTEGER
hull i [] = in_interval i
hull i (j ∷ js) = hull (around i j) js

-- without the numbers between an interval and the next
abbrev without-gaps : Interval → List Interval → Notation → Notation
without-gaps i [] t = t
without-gaps i (j ∷ js) t = without-gaps j js (Notation.outside (high_end i +ℤ pos 1) (low_end j -ℤ pos 1) t)

-- 51.4: several intervals, in ascending order
abbrev pub INTEGER-in : List Interval → Notation
INTEGER-in [] = no_type
INTEGER-in (i ∷ is) = without-gaps i is (hull i is)

-- 51.5
abbrev pub SIZE : ℕ → ℕ → Notation → Notation
SIZE = Notation.sized

-- 51.7: with characters whose numbers are of these ranges
abbrev pub FROM : List (ℕ × ℕ) → Notation → Notation
FROM = Notation.permitted

-- as many as memory could hold
abbrev pub MAX : ℕ
MAX = 2 ^ 64 - 1

-- ---- members and alternatives

infixr 5 ◌⨾◌
abbrev pub ◌⨾◌ : Member → Members → Members
◌⨾◌ = Members.member

-- 25.1: the members of later versions of an extensible type. `SEQUENCE` says with which bytes the first of them doesn't
-- begin.
abbrev pub later-members : Members
later-members = Members.others []

-- The same, where the tags are automatic (25.7) and no known members come after these: their numbers ascend in the
-- order of the text then. `SEQUENCE` says from which number on.
abbrev pub later-members-automatic : Members
later-members-automatic = Members.others-from 0

-- the same, with elements at every depth in each that is constructed
abbrev pub later-elements : Members
later-elements = Members.well-formed later-members

abbrev pub later-elements-automatic : Members
later-elements-automatic = Members.well-formed later-members-automatic

-- the same, where none of them may be there
abbrev pub later-members-refused : Members
later-members-refused = Members.end

-- the content of a number (X.690, 8.3): below 128 the byte itself, without more computing
abbrev number_content : ℕ → List ℕ
number_content n = if nat_lt n 0x80 then n ∷ [] else integer_content (pos n)

-- what a default means, as its type has it
abbrev value_of : Notation → Value → Tree
value_of (Notation.wrapped w t) v = Tree.wrapped w (value_of t v)
value_of Notation.BOOLEAN Value.TRUE = Tree.primitive (Primitive.boolean true)
value_of Notation.BOOLEAN Value.FALSE = Tree.primitive (Primitive.boolean false)
value_of (Notation.unsigned bits) (Value.number n) = unsigned_tree (2 ^ bits - 1) n
value_of (Notation.signed bits) v = int_tree (fits_signed bits) (whole v)
value_of (Notation.ENUMERATED numbers) (Value.number n) = Tree.primitive (Primitive.bytes 0x0A (number_content n))
value_of (Notation.INTEGER-named numbers) (Value.number n) = Tree.primitive (Primitive.bytes 0x02 (number_content n))
value_of _ _ = Tree.absent

-- 25.1: one with this default
abbrev pub default : Value → Notation → Member
default v t = Member.defaulted (value_of t v) t

abbrev other-than : ℤ → Notation → Notation
other-than n (Notation.wrapped w t) = Notation.wrapped w (other-than n t)
other-than n t = Notation.outside n n t

-- one whose default is this number, and whose type hasn't that: it isn't there, and another number is (X.690, 11.5)
abbrev pub default-of : Value → Notation → Member
default-of n t = Member.optional (other-than (whole n) t)

-- one with a default that the type doesn't have: it is read where it is written out
abbrev pub default-as-optional : Notation → Member
default-as-optional = Member.optional

-- the members of an extension addition, one or those between `[[` and `]]`, and all members after them. A value has all
-- of them, or none if it is one of an earlier version. An addition without a member that is always there needs no word.
abbrev pub added : Members → Members
added = Members.added

-- a member of an extension addition, where a value of the type may have others of it alone
abbrev pub added-as-optional : Notation → Member
added-as-optional = Member.optional

-- The first member of a later version has another tag than each member directly before it that may be absent (25.6),
-- whether it is primitive or constructed. These are the bytes of those that came so far. An automatic tag has a number
-- from that of the members on: so many came.
abbrev excluding : ℕ → List ℕ → Members → Members
excluding count before Members.end = Members.end
excluding count before (Members.member (Member.required t) ms) =
    Members.member (Member.required t) (excluding (count + 1) [] ms)
excluding count before (Members.member (Member.optional t) ms) =
    Members.member (Member.optional t) (excluding (count + 1) (before ++ firsts (shape_of t)) ms)
excluding count before (Members.member (Member.defaulted value t) ms) =
    Members.member (Member.defaulted value t) (excluding (count + 1) (before ++ firsts (shape_of t)) ms)
excluding count before (Members.added ms) = Members.added (excluding count before ms)
excluding count before (Members.others excluded) = Members.others (in_both_forms before)
excluding count before (Members.others-from least) = Members.others-from count
excluding count before (Members.well-formed ms) = Members.well-formed (excluding count before ms)

-- 25: one without members is a list of none, and one with those of later versions alone a list of any elements
abbrev pub SEQUENCE : Members → Notation
SEQUENCE Members.end = Notation.sized 0 0 (Notation.list-of ListKind.sequence Notation.NULL)
SEQUENCE (Members.others excluded) = Notation.list-of ListKind.sequence Notation.any-element
SEQUENCE (Members.well-formed (Members.others excluded)) =
    Notation.list-of ListKind.sequence Notation.well-formed-element
SEQUENCE ms = Notation.sequence (excluding 0 [] ms)

abbrev least_place : List ℕ → ℕ
least_place [] = 128
least_place (b ∷ bs) = if nat_lt (tag_place b) (least_place bs) then tag_place b else least_place bs

-- The place of a member by the least tag that it may have. In DER a choice without a tag has the place of the tag that
-- is written (X.690, 10.3). These places are the same ones where `SET` is a type.
abbrev place_of : Member → ℕ
place_of (Member.required t) = least_place (firsts (shape_of t))
place_of (Member.optional t) = least_place (firsts (shape_of t))
place_of (Member.defaulted value t) = least_place (firsts (shape_of t))

abbrev insert : Member → Members → Members
insert m Members.end = m ⨾ Members.end
insert m (Members.added ms) = m ⨾ Members.added ms
insert m (Members.others excluded) = m ⨾ Members.others excluded
insert m (Members.others-from least) = m ⨾ Members.others-from least
insert m (Members.well-formed ms) = m ⨾ Members.well-formed ms
insert m (Members.member n ns) = if nat_lt (place_of m) (place_of n) then m ⨾ n ⨾ ns else n ⨾ insert m ns

abbrev in_tag_order : Members → Members
in_tag_order Members.end = Members.end
in_tag_order (Members.added ms) = Members.added ms
in_tag_order (Members.others excluded) = Members.others excluded
in_tag_order (Members.others-from least) = Members.others-from least
in_tag_order (Members.well-formed ms) = Members.well-formed ms
in_tag_order (Members.member m ms) = insert m (in_tag_order ms)

-- with the tag of a set, if the members come in the order of their tags in each value
abbrev ordered_set : Notation → Notation
ordered_set t =
    if is_in_tag_order (shape_of t) then Notation.wrapped (wrapper.ImplicitList 0x31) t else no_type

-- 27, and X.690, 10.3: the members come in the order of their tags. The library has no type whose order changes with
-- the tags that are written, as where a choice has one before and one after that of another member. It has none with
-- members of later versions, which may come between known ones.
abbrev pub SET : Members → Notation
SET Members.end = Notation.sized 0 0 (Notation.list-of ListKind.set Notation.NULL)
SET ms = ordered_set (Notation.sequence (in_tag_order ms))

abbrev pub SEQUENCE-OF : Notation → Notation
SEQUENCE-OF = Notation.list-of ListKind.sequence

abbrev pub SET-OF : Notation → Notation
SET-OF = Notation.list-of ListKind.set

infixr 5 ◌∣◌
abbrev pub ◌∣◌ : Notation → Alternatives → Alternatives
◌∣◌ = Alternatives.alternative

-- 29.1: the alternatives of an extensible type, where none of a later version may be there
abbrev pub later-alternatives-refused : Alternatives
later-alternatives-refused = Alternatives.none

abbrev pub CHOICE : Alternatives → Notation
CHOICE = Notation.choice

-- each as an element that is its encoding
abbrev elements-of : Alternatives → Alternatives
elements-of Alternatives.none = Alternatives.none
elements-of (Alternatives.alternative t ts) = Alternatives.alternative (Notation.encoded t) (elements-of ts)

-- an element of one of these types, which all of it decides, as an object of a table does (X.682, 10)
abbrev pub one-of : Alternatives → Notation
one-of ts = Notation.element-of (elements-of ts)

-- bytes in ascending order, each of them once
abbrev with_byte : ℕ → List ℕ → List ℕ
with_byte b [] = b ∷ []
with_byte b (c ∷ cs) = if nat_lt b c then b ∷ c ∷ cs else (if b == c then c ∷ cs else c ∷ with_byte b cs)

abbrev in_byte_order : List ℕ → List ℕ
in_byte_order [] = []
in_byte_order (b ∷ bs) = with_byte b (in_byte_order bs)

-- alternatives, and those of later versions: elements with other tags, whether they are primitive or constructed
abbrev and-later : List ℕ → Alternatives → Alternatives
and-later known Alternatives.none = Notation.begun-otherwise (in_byte_order (in_both_forms known)) ∣ Alternatives.none
and-later known (Alternatives.alternative t ts) = t ∣ and-later (known ++ firsts (shape_of t)) ts

-- 29.1: an extensible one, where an alternative of a later version may be there
abbrev pub CHOICE-extensible : Alternatives → Notation
CHOICE-extensible ts = one-of (and-later [] ts)

-- X.682, 11
abbrev pub OCTET-STRING-CONTAINING : Notation → Notation
OCTET-STRING-CONTAINING = Notation.wrapped wrapper.OctetContainer

abbrev pub BIT-STRING-CONTAINING : Notation → Notation
BIT-STRING-CONTAINING = Notation.wrapped wrapper.BitContainer

-- ---- tags

-- 31.2.1: how a tag is put on. One that says nothing is as the heading of its module says (13.2).
pub data Mode : Type 0 where
  EXPLICIT : Mode
  IMPLICIT : Mode

-- 25.7: one that isn't written
abbrev pub AUTOMATIC : Mode
AUTOMATIC = Mode.IMPLICIT

-- X.690, 8.1.2.2
abbrev class_bits : TagClass → ℕ
class_bits Universal = 0x00
class_bits Application = 0x40
class_bits ContextSpecific = 0x80
class_bits Private = 0xC0

-- X.690, 8.14.2: an element around that of the type
abbrev explicit : TagClass → ℕ → Notation → Notation
explicit ContextSpecific n t = Notation.wrapped (wrapper.Explicit n) t
explicit Application n t = Notation.wrapped (wrapper.Application n) t
explicit class n t =
    Notation.wrapped (wrapper.ImplicitList (class_bits class + 0x20 + n))
    (Notation.sequence (Member.required t ⨾ Members.end))

-- X.690, 8.14.3: the tag in place of that of a list, which is constructed, and of another type, which is primitive
abbrev over_list : TagClass → ℕ → Notation → Notation
over_list class n t = Notation.wrapped (wrapper.ImplicitList (class_bits class + 0x20 + n)) t

-- A constraint is around the tag, where the tag has a content inside. There is one content for a number of any width.
abbrev under-tag : ℕ → Notation → Notation
under-tag tag (Notation.any-content own) = Notation.any-content tag
under-tag tag (Notation.content-under own t) = Notation.content-under tag t
under-tag tag Notation.OCTET-STRING = Notation.any-content tag
under-tag tag Notation.NULL = Notation.sized 0 0 (Notation.any-content tag)
under-tag tag (Notation.unsigned bits) =
    Notation.in-range (pos 0) (pos (2 ^ bits - 1)) (Notation.content-under tag INTEGER)
under-tag tag (Notation.signed bits) =
    Notation.at-most (pos (2 ^ (bits - 1) - 1))
    (Notation.at-least (negsuc (2 ^ (bits - 1) - 1)) (Notation.content-under tag INTEGER))
under-tag tag (Notation.in-range least most (Notation.unsigned bits)) =
    Notation.in-range least most (Notation.content-under tag INTEGER)
under-tag tag (Notation.at-most most (Notation.at-least least (Notation.signed bits))) =
    Notation.at-most most (Notation.at-least least (Notation.content-under tag INTEGER))
under-tag tag (Notation.in-range least most t) = Notation.in-range least most (under-tag tag t)
under-tag tag (Notation.at-least least t) = Notation.at-least least (under-tag tag t)
under-tag tag (Notation.at-most most t) = Notation.at-most most (under-tag tag t)
under-tag tag (Notation.outside least most t) = Notation.outside least most (under-tag tag t)
under-tag tag (Notation.sized least most t) = Notation.sized least most (under-tag tag t)
under-tag tag t = Notation.content-under tag t

abbrev over_primitive : TagClass → ℕ → Notation → Notation
over_primitive ContextSpecific n t = Notation.wrapped (wrapper.Implicit n) t
over_primitive class n t = under-tag (class_bits class + n) t

-- the same in place of that of an octet string that holds an encoding (X.682, 11), which is the content then. That of a
-- list of one is it, too.
abbrev over_container : TagClass → ℕ → Notation → Notation
over_container ContextSpecific n t =
    Notation.wrapped (wrapper.Implicit n) (Notation.sequence (Member.required t ⨾ Members.end))
over_container class n t = no_type

abbrev is_list : Notation → Bool
is_list (Notation.list-of kind t) = true
is_list (Notation.sequence ms) = true
is_list (Notation.sized least most t) = is_list t
is_list (Notation.listed contents t) = is_list t
is_list (Notation.unlisted contents t) = is_list t
is_list _ = false

-- one with a header inside that stays there
abbrev has_header : Notation → Bool
has_header (Notation.wrapped w t) = true
has_header (Notation.sized least most t) = has_header t
has_header (Notation.in-range least most t) = has_header t
has_header (Notation.at-least least t) = has_header t
has_header (Notation.at-most most t) = has_header t
has_header (Notation.outside least most t) = has_header t
has_header (Notation.permitted ranges t) = has_header t
has_header (Notation.listed contents t) = has_header t
has_header (Notation.unlisted contents t) = has_header t
has_header _ = false

-- 31.2.7: a choice and an open type have no tag that this one could replace, so that it is explicit. Of a type with a
-- tag it replaces that.
abbrev implicit : TagClass → ℕ → Notation → Notation
implicit class n (Notation.choice ts) = explicit class n (Notation.choice ts)
implicit class n Notation.any-element = explicit class n Notation.any-element
implicit class n Notation.well-formed-element = explicit class n Notation.well-formed-element
implicit class n (Notation.begun-otherwise bytes) = explicit class n (Notation.begun-otherwise bytes)
implicit class n (Notation.encoded t) = explicit class n (Notation.encoded t)
implicit class n (Notation.element-of ts) = explicit class n (Notation.element-of ts)
implicit class n (Notation.wrapped (wrapper.Explicit m) t) = explicit class n t
implicit class n (Notation.wrapped (wrapper.Application m) t) = explicit class n t
implicit class n (Notation.wrapped (wrapper.Implicit m) t) = over_primitive class n t
implicit class n (Notation.wrapped (wrapper.ImplicitList tag) t) = over_list class n t
implicit class n (Notation.wrapped wrapper.OctetContainer t) = over_container class n t
implicit class n (Notation.wrapped wrapper.BitContainer t) = no_type
implicit class n (Notation.content-under tag t) = over_primitive class n t
implicit class n (Notation.any-content tag) = Notation.any-content (class_bits class + 32 * (tag / 32 % 2) + n)
implicit class n t =
    if is_list t then over_list class n t else (if has_header t then no_type else over_primitive class n t)

abbrev tagged : TagClass → ℕ → Mode → Notation → Notation
tagged class n Mode.EXPLICIT = explicit class n
tagged class n Mode.IMPLICIT = implicit class n

abbrev pub UNIVERSAL : ℕ → Mode → Notation → Notation
UNIVERSAL = tagged Universal

abbrev pub APPLICATION : ℕ → Mode → Notation → Notation
APPLICATION = tagged Application

abbrev pub CONTEXT : ℕ → Mode → Notation → Notation
CONTEXT = tagged ContextSpecific

abbrev pub PRIVATE : ℕ → Mode → Notation → Notation
PRIVATE = tagged Private
