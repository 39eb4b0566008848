-- With which bytes values of the types of a schema begin.
use Rattle.std.specs.Prelude.{ℕ, Bool, true, false, not, ◌&&◌, ◌||◌, List, [], ◌∷◌, Option, None, Some, ◌==◌, nat_lt}
use Rattle.picky_der_core.specs.Shape.{contains, firsts, tag_with_number}
use Rattle.picky_der_core.specs.Tag.{number_of, is_tag_number, is_constructed}
use Rattle.picky_der_core.specs.Wrapper.{wrapper_number, wrapper_tag}
use Rattle.der_types.specs.Notation.{Notation, shape_of}
use Rattle.der_schema.specs.Kinds.{inner_of}
use Rattle.der_schema.specs.NotationOf.{notation_of}
use Rattle.der_schema.specs.declared.node.Alternative.{Alternative}
use Rattle.der_schema.specs.declared.node.Kind.{Kind}
use Rattle.der_schema.specs.declared.node.Kind.TheVariants as kind
use Rattle.der_schema.specs.declared.node.Node.{Node}
use Rattle.der_schema.specs.Tags.{own_tag}

-- a value of this type can begin with this identifier byte (X.690, 8.1.2)
abbrev pub type_begins : Notation → ℕ → Bool
type_begins t tag = is_tag_number (number_of tag) && contains (firsts (shape_of t)) tag

-- one of the type of the node at this index
unfoldable pub can_begin : List Node → ℕ → ℕ → Bool
can_begin nodes index tag = type_begins (notation_of nodes index) tag

-- ---- the same by the kind of a node, with a tag that isn't one of the long form

-- one of the alternatives of those whose nodes come before this index
abbrev pub one_begins : List Node → ℕ → ℕ → List Alternative → Bool
one_begins nodes index tag [] = false
one_begins nodes index tag (a ∷ others) =
    (nat_lt a.node index && can_begin nodes a.node tag) || one_begins nodes index tag others

abbrev pub tag_or_inner : List Node → ℕ → ℕ → Option ℕ → Option ℕ → Bool
tag_or_inner nodes index tag (Some own) inner = tag == own
tag_or_inner nodes index tag None (Some inner) = nat_lt inner index && can_begin nodes inner tag
tag_or_inner nodes index tag None None = false

abbrev pub kind_begins : List Node → ℕ → ℕ → Kind → Bool
kind_begins nodes index tag kind.AnyElement = true
kind_begins nodes index tag kind.WellFormedElement = true
kind_begins nodes index tag (kind.Choice alternatives) = one_begins nodes index tag alternatives.now
kind_begins nodes index tag (kind.Wrapped wrapper node) =
    contains (tag_with_number (wrapper_number wrapper) (wrapper_tag wrapper)) tag
kind_begins nodes index tag (kind.ContentUnder own node) = (tag == own) && not (is_constructed tag)
kind_begins nodes index tag k = tag_or_inner nodes index tag (own_tag k) (inner_of k)
