-- Open wrappers around a tree.
use Rattle.std.specs.Prelude.{ℕ, ◌++◌, ⊤, List, [], ◌∷◌, Option, None, Some}
use Rattle.picky_der_core.specs.declared.asn1.newtype.Newtype.{Newtype}
use Rattle.picky_der_core.specs.declared.asn1.newtype.Newtype.TheVariants as newtype
use Rattle.picky_der_core.specs.declared.asn1.wrapper.Wrapper.{Wrapper}
use Rattle.picky_der_core.specs.declared.asn1.wrapper.Wrapper.TheVariants.{OctetContainer, BitContainer, Explicit}
use Rattle.picky_der_core.specs.declared.asn1.wrapper.Wrapper.TheVariants.{Implicit}
use Rattle.picky_der_core.specs.Wrapper.{wrapper_front, keeps_header, HasTagNumber}
use Rattle.picky_der_core.specs.Tree.{Tree}
use Rattle.picky_der_core.specs.Encoding.{with_header}

-- the tree with the wrappers around it, the outermost first
abbrev pub under : List Wrapper → Tree → Tree
under [] t = t
under (w ∷ ws) t = Tree.wrapped w (under ws t)

-- what a wrapper holds around a tree
abbrev pub wrapped_content : Wrapper → Tree → List ℕ
wrapped_content w t = wrapper_front w ++ with_header (keeps_header w) t

-- the wrapper of a newtype, if it has one
abbrev pub wrapper_of : Newtype → Option Wrapper
wrapper_of newtype.Plain = None
wrapper_of newtype.OctetContainer = Some OctetContainer
wrapper_of newtype.BitContainer = Some BitContainer
wrapper_of (newtype.Explicit n) = Some (Explicit n)
wrapper_of (newtype.Implicit n) = Some (Implicit n)

-- the tree, in a wrapper or as it is
abbrev pub wrap_if : Option Wrapper → Tree → Tree
wrap_if None t = t
wrap_if (Some w) t = Tree.wrapped w t

-- its tag can be written, if there is one
abbrev pub HasTagNumberIfAny : Option Wrapper → Type 0
HasTagNumberIfAny None = ⊤
HasTagNumberIfAny (Some w) = HasTagNumber w
