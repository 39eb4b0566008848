-- The bytes before a content: the header of the wrapper around it, and its own.
use Rattle.std.specs.Prelude.{ℕ, ◌+◌, ⊤, IsTrue, List, [], ◌∷◌, ◌++◌, Option, None, Some, if◌then◌else◌, Bool, true}
use Rattle.std.specs.Prelude.{false}
use Rattle.std.specs.Prelude.{nat_eq}
use Rattle.picky_der_core.specs.declared.asn1.wrapper.Wrapper.{Wrapper}
use Rattle.picky_der_core.specs.declared.asn1.wrapper.Wrapper.TheVariants as wrapper
use Rattle.picky_der_core.specs.Element.{tlv}
use Rattle.picky_der_core.specs.Tag.{IsTagNumber, number_of}
use Rattle.picky_der_core.specs.Wrapper.{wrapper_tag, wrapper_front, keeps_header, can_vanish, HasTagNumber}
use Rattle.picky_der_core.specs.Primitive.{Primitive}
use Rattle.picky_der_core.specs.Tree.{Tree}
use Rattle.picky_der_ser.specs.declared.header.Header.{Header}
use Rattle.picky_der_ser.specs.declared.header.Header.TheVariants.{Tagged, Application, Raw}

-- the tree of this content under the header
abbrev pub tree_of : Header → List ℕ → Tree
tree_of (Tagged tag) c = Tree.primitive (Primitive.bytes tag c)
tree_of (Application n) c = Tree.wrapped (wrapper.Application n) (Tree.raw c)
tree_of Raw c = Tree.raw c

-- whether the members under the header are sorted
abbrev pub is_set : Header → Bool
is_set (Tagged tag) = nat_eq tag 0x31
is_set (Application n) = false
is_set Raw = false

-- ---- the wrapper around it, and its own header

abbrev pub wrappers : Option Wrapper → List Wrapper
wrappers None = []
wrappers (Some w) = w ∷ []

-- whether a plain value has its header directly under it
abbrev pub keeps_headers : Option Wrapper → Bool
keeps_headers None = true
keeps_headers (Some w) = keeps_header w

-- the tag of its own header, if it has one, where plain values have theirs or not
abbrev pub own_tag : Bool → Header → Option ℕ
own_tag keeps (Tagged tag) = if keeps then Some tag else None
own_tag keeps (Application n) = Some (0x60 + n)
own_tag keeps Raw = None

-- the bytes under this tag, if there is one
abbrev pub headed : Option ℕ → List ℕ → List ℕ
headed None bs = bs
headed (Some tag) bs = tlv tag bs

-- the byte that counts no unused bits, where there is one
abbrev pub front : Bool → List ℕ
front counts = if counts then 0x00 ∷ [] else []

-- the bytes in the wrapper, if there is one
abbrev pub wrapped_in : Option Wrapper → List ℕ → List ℕ
wrapped_in None bs = bs
wrapped_in (Some w) bs = tlv (wrapper_tag w) (wrapper_front w ++ bs)

-- each tag number is at most 30
abbrev pub HasNumber : Header → Type 0
HasNumber (Tagged tag) = IsTagNumber (number_of tag)
HasNumber (Application k) = IsTagNumber k
HasNumber Raw = ⊤

-- it may be open before a value comes, of which nothing may be written
abbrev pub CanBeOpen : Wrapper → Type 0
CanBeOpen w = HasTagNumber w × IsTrue (can_vanish w)

abbrev pub CanAllBeOpen : List Wrapper → Type 0
CanAllBeOpen [] = ⊤
CanAllBeOpen (w ∷ ws) = CanBeOpen w × CanAllBeOpen ws
