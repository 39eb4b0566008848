-- The tags of elements, by their types' kinds (X.680, table 1).
use Rattle.std.specs.Prelude.{ℕ, ◌+◌, zero, suc, Bool, true, false, List, [], ◌∷◌, ◌++◌, Option, Some, None, slice_get}
use Rattle.std.specs.Prelude.{if◌then◌else◌}
use Rattle.picky_der_core.specs.declared.asn1.wrapper.Wrapper.{Wrapper}
use Rattle.picky_der_core.specs.declared.asn1.wrapper.Wrapper.TheVariants as wrapper
use Rattle.picky_der_core.specs.Shape.{are_disjoint, contains}
use Rattle.picky_der_core.specs.Tag.{is_constructed}
use Rattle.picky_der_core.specs.Wrapper.{wrapper_tag, has_tag_number}
use Rattle.der_schema.specs.declared.node.Alternative.{Alternative}
use Rattle.der_schema.specs.declared.node.Kind.{Kind}
use Rattle.der_schema.specs.declared.node.Kind.TheVariants as kind
use Rattle.der_schema.specs.declared.node.Node.{Node}

-- ---- a kind

-- the node of the type whose elements a kind has: it is a name of it, or some of its values (X.680, 51)
abbrev pub same_type : Kind → Option ℕ
same_type (kind.Reference i) = Some i
same_type (kind.InRange least most i) = Some i
same_type (kind.AtLeast least i) = Some i
same_type (kind.AtMost most i) = Some i
same_type (kind.Outside least most i) = Some i
same_type (kind.Sized least most i) = Some i
same_type (kind.Permitted ranges i) = Some i
same_type _ = None

-- The same, or the node of the type that is in a tag in place of its own: the element then has the content of that
-- type (X.690, 8.14.3).
abbrev pub same_content : Kind → Option ℕ
same_content (kind.Wrapped (wrapper.Implicit number) i) = Some i
same_content (kind.Wrapped (wrapper.ImplicitList tag) i) = Some i
same_content (kind.ContentUnder tag i) = Some i
same_content k = same_type k

abbrev pub own_wrapper_tag : Wrapper → Option ℕ
own_wrapper_tag w = if has_tag_number w then Some (wrapper_tag w) else None

-- the tag of each element of a kind, if it has only one of its own (X.680, table 1)
abbrev pub own_tag : Kind → Option ℕ
own_tag kind.Boolean = Some 0x01
own_tag kind.Integer = Some 0x02
own_tag (kind.NamedInteger items) = Some 0x02
own_tag (kind.Unsigned bits) = Some 0x02
own_tag (kind.Signed bits) = Some 0x02
own_tag (kind.Enumerated items) = Some 0x0A
own_tag (kind.ExtensibleEnumerated items) = Some 0x0A
own_tag kind.BitString = Some 0x03
own_tag (kind.NamedBits items) = Some 0x03
own_tag kind.OctetString = Some 0x04
own_tag kind.Null = Some 0x05
own_tag kind.ObjectIdentifier = Some 0x06
own_tag kind.RelativeOid = Some 0x0D
own_tag kind.Utf8String = Some 0x0C
own_tag kind.Character = Some 0x0C
own_tag kind.GeneralizedTime = Some 0x18
own_tag kind.LaterTime = Some 0x18
own_tag kind.UtcTime = Some 0x17
own_tag (kind.Sequence members) = Some 0x30
own_tag (kind.SequenceOf i) = Some 0x30
own_tag (kind.SetOf i) = Some 0x31
own_tag (kind.RestrictedString own) = Some own
own_tag (kind.AnyContent own) = Some own
own_tag (kind.ContentUnder own i) = Some own
own_tag (kind.Wrapped w i) = own_wrapper_tag w
own_tag _ = None

abbrev pub alternatives_of : Kind → List Alternative
alternatives_of (kind.Choice alternatives) = alternatives.now
alternatives_of _ = []

-- ---- sets of tags, of which `None` has each tag

abbrev pub joined : Option (List ℕ) → Option (List ℕ) → Option (List ℕ)
joined (Some xs) (Some ys) = Some (xs ++ ys)
joined _ _ = None

abbrev pub has_tag : Option (List ℕ) → ℕ → Bool
has_tag (Some xs) tag = contains xs tag
has_tag None tag = true

-- no tag is in both
abbrev pub are_apart : Option (List ℕ) → Option (List ℕ) → Bool
are_apart (Some xs) (Some ys) = are_disjoint xs ys
are_apart (Some []) None = true
are_apart None (Some []) = true
are_apart _ _ = false

-- ---- the tags that elements of a kind can have, from those of the nodes that it names

abbrev pub tags_of_alternatives : (ℕ → Option (List ℕ)) → List Alternative → Option (List ℕ)
tags_of_alternatives tags [] = Some []
tags_of_alternatives tags (a ∷ others) = joined (tags a.node) (tags_of_alternatives tags others)

abbrev pub tags_of_same : (ℕ → Option (List ℕ)) → Option ℕ → Option (List ℕ)
tags_of_same tags None = Some []
tags_of_same tags (Some i) = tags i

-- elements of any type have any
abbrev pub tags_of_any : Kind → Option (List ℕ)
tags_of_any kind.AnyElement = None
tags_of_any kind.WellFormedElement = None
tags_of_any _ = Some []

-- in BER a string in parts has the constructed one of the same number (X.690, 8.6.4, 8.7.3.2, 8.14.4 and 8.23.3)
abbrev pub tags_of_own : Option ℕ → Option (List ℕ)
tags_of_own None = Some []
tags_of_own (Some own) = Some (own ∷ (if is_constructed (own + 0x20) then (own + 0x20) ∷ [] else []))

abbrev pub tags_of_kind : (ℕ → Option (List ℕ)) → Kind → Option (List ℕ)
tags_of_kind tags k =
    joined (tags_of_alternatives tags (alternatives_of k))
    (joined (tags_of_same tags (same_type k)) (joined (tags_of_any k) (tags_of_own (own_tag k))))

abbrev pub tags_of_node : (ℕ → Option (List ℕ)) → Option Node → Option (List ℕ)
tags_of_node tags None = Some []
tags_of_node tags (Some node) = tags_of_kind tags node.kind

-- those of the node at an index; any, if more nodes than so many are named one by another
abbrev pub tags_at : List Node → ℕ → ℕ → Option (List ℕ)
tags_at nodes zero i = None
tags_at nodes (suc n) i = tags_of_node (tags_at nodes n) (slice_get nodes i)
