-- How an object identifier is shown.
use Rattle.std.specs.Prelude.{ℕ, Bool, List, ◌++◌, Option, None, Some, Result, codes}
use Rattle.std.specs.Prelude.{map, is_err, if◌then◌else◌}
use Rattle.std.specs.List.{list_any}
use Rattle.der_program_base.specs.Line.{shown}
use Rattle.der_program_base.specs.Texts.{marked_bytes}
use Rattle.der_types.specs.Dotted.{dotted_or_marked, fitted}
use Rattle.der_types.specs.Names.{name_of}
use Rattle.der_types.specs.ObjectIdentifier.{arcs_of}
use Rattle.der_types.specs.declared.object_identifier.ObjectIdentifier.{ObjectIdentifier}
use Rattle.der_types.specs.declared.oid_error.OidError.{OidError}
use Rattle.der_types.specs.contracts.generated.object_identifier.ObjectIdentifierContents.TheImpl as identifier
use Rattle.der_show.specs.FurtherNames.{further_name_of}

abbrev pub content_of : ObjectIdentifier → List ℕ
content_of = identifier.ghosts.content

-- the name of the identifier with this content
abbrev pub known_name_of : List ℕ → Option (List ℕ)
known_name_of content = elim (name_of content) [ Some name ↦ Some name | None ↦ further_name_of content ]

-- the arcs of an identifier, each with an error if it has more than 64 bits
abbrev pub fitted_arcs : ObjectIdentifier → List (Result ℕ OidError)
fitted_arcs id = map fitted (arcs_of (content_of id))

abbrev pub has_wide_arc : ObjectIdentifier → Bool
has_wide_arc id = list_any is_err (fitted_arcs id)

-- the arcs with dots between them, after the name if there is one
abbrev pub named_text : Option (List ℕ) → List ℕ → List ℕ
named_text None arcs = arcs
named_text (Some name) arcs = name ++ (codes " (" ++ (arcs ++ codes ")"))

-- the bytes of the content if an arc has more than 64 bits
abbrev pub identifier_text : ObjectIdentifier → List ℕ
identifier_text id = if has_wide_arc id then marked_bytes (content_of id) else shown
    (named_text (known_name_of (content_of id)) (dotted_or_marked (fitted_arcs id)))
