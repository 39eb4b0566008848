-- The laws of canonical DER, each over the definitions alone.
use Rattle.std.specs.Prelude.{◌≡◌, ℕ, ◌+◌, ◌*◌, ◌&&◌, ◌≤◌, ◌↔◌, List, ◌∷◌, ◌++◌, length, map, IsFalse}
use Rattle.std.specs.List.{AllByRecursion, concat}
use Rattle.std.specs.List.Sorted.{IsPermutation}
use Rattle.picky_der_core.specs.OpenWrappers.{wrapped_content}
use Rattle.picky_der_core.specs.declared.asn1.wrapper.Wrapper.{Wrapper}
use Rattle.picky_der_core.specs.Tag.{number_of, IsTagNumber}
use Rattle.picky_der_core.specs.Element.{length_octets, tlv, IsPrefix}
use Rattle.picky_der_core.specs.Tree.{ListKind, Tree, trees, is_absent}
use Rattle.picky_der_core.specs.Encoding.{der}
use Rattle.picky_der_core.specs.Held.{held}
use Rattle.picky_der_core.specs.Readable.{IsReadable}
use Rattle.picky_der_core.specs.Shape.{Shape, IsOf, IsSound, IsFirst}
use Rattle.picky_der_core.specs.Wrapper.{wrapper_tag, can_vanish, HasTagNumber}
use Rattle.picky_der_core.specs.Reading.{Place, IsAtFront}

-- a readable tree of the shape is at the front of the input, within the limit
abbrev pub IsFirstOf : Shape → List ℕ → ℕ → Tree → Type 0
IsFirstOf s input limit t = IsAtFront Place.whole s input limit t

-- a length that begins another, followed by any bytes, is that length
abbrev pub LengthBothWays : Type 0
LengthBothWays = (n k : ℕ) (rest : List ℕ) → IsPrefix (length_octets n) (length_octets k ++ rest) → n ≡ k

-- a wrapper whose tag can be written, and that doesn't vanish, is one element, which holds exactly what it should
abbrev pub WrapperLengths : Type 0
WrapperLengths =
    (w : Wrapper) (t : Tree) → HasTagNumber w → IsFalse (can_vanish w && is_absent t)
    → IsTagNumber (number_of (wrapper_tag w)) × (der (Tree.wrapped w t) ≡ tlv (wrapper_tag w) (wrapped_content w t))

-- the encoding of a readable tree isn't empty, and its first byte is one of its shape's
abbrev pub FirstsTell : Type 0
FirstsTell =
    (s : Shape) (t : Tree) → IsOf s t → IsReadable t → (b : ℕ) × (rest : List ℕ) × (der t ≡ b ∷ rest) × IsFirst s b

-- two readable trees are one tree if the encoding of one begins the other's
abbrev pub UniqueReadability : Type 0
UniqueReadability =
    (s : Shape) → IsSound s → (t u : Tree) → IsOf s t → IsOf s u → IsReadable t → IsReadable u
    → IsPrefix (der t) (der u) → t ≡ u

-- one tree alone is at the front of an input
abbrev pub OneValue : Type 0
OneValue =
    (s : Shape) → IsSound s → (input : List ℕ) (limit : ℕ) (t u : Tree) → IsFirstOf s input limit t
    → IsFirstOf s input limit u → (t ≡ u) × (der t ≡ der u)

-- an encoding is read back as its tree alone, and what follows it is left
abbrev pub RoundTrip : Type 0
RoundTrip =
    (s : Shape) → IsSound s → (t : Tree) (rest : List ℕ) (limit : ℕ) → IsOf s t → IsReadable t → length (der t) ≤ limit
    → IsFirstOf s (der t ++ rest) limit t
    × ((u : Tree) → (at_front : IsFirstOf s (der t ++ rest) limit u) → (u ≡ t) × (at_front.front.rest ≡ rest))

-- lists of readable trees are equal exactly if their encodings, one after another, are
abbrev pub SameBytes : Type 0
SameBytes =
    (s : Shape) → IsSound s → (ts us : List Tree)
    → AllByRecursion (λ t. IsOf s t × IsReadable t) ts → AllByRecursion (λ t. IsOf s t × IsReadable t) us
    → (concat (map der ts) ≡ concat (map der us)) ↔ (ts ≡ us)

-- what is directly under an implicit tag, within one end, is one tree
abbrev pub OneInside : Type 0
OneInside =
    (s : Shape) → IsSound s → (rest : List ℕ) (ahead : ℕ) (t u : Tree)
    → IsAtFront (Place.under_implicit ahead) s rest ahead t → IsAtFront (Place.under_implicit ahead) s rest ahead u
    → t ≡ u

-- sets of the same members, each as often, in any order, have one encoding
abbrev pub SetOrder : Type 0
SetOrder = (ts us : List Tree) → IsPermutation ts us
    → der (Tree.list ListKind.set (trees ts)) ≡ der (Tree.list ListKind.set (trees us))

-- a readable tree holds less than twice its encoding
abbrev pub NoAmplification : Type 0
NoAmplification = (t : Tree) → IsReadable t → held t + 1 ≤ 2 * length (der t)
