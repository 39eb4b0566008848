-- The objects of JSON of a listing, with their members in the order of the names.
use Rattle.std.specs.Prelude.{ℕ, Option, Some, None, List, codes}
use Rattle.serde_json.specs.Data.{Data, null, boolean, number, string, object, member, no_members, unsigned}
use Rattle.picky_der_core.specs.Tag.{is_constructed}
use Rattle.der_show.specs.declared.element.Element.{Element}
use Rattle.der_show.specs.declared.options.Source.{Source}

-- the number of a block, if there is one
abbrev pub block_data : Option ℕ → Data
block_data None = null
block_data (Some n) = number (unsigned n)

-- what is printed of a value, if anything is
abbrev pub value_data : Option (List ℕ) → Data
value_data None = null
value_data (Some text) = string text

abbrev pub element_data : Source → Element → List ℕ → Option (List ℕ) → Data
element_data s e type_name value =
    object
    (member (codes "block") (block_data s.block)
    (member (codes "constructed") (boolean (is_constructed e.tag))
    (member (codes "depth") (number (unsigned e.depth))
    (member (codes "file") (string s.file.now)
    (member (codes "headerLength") (number (unsigned e.header_len))
    (member (codes "length") (number (unsigned e.content_len))
    (member (codes "offset") (number (unsigned e.offset))
    (member (codes "type") (string type_name) (member (codes "value") (value_data value) no_members)))))))))

-- a rule that is broken, and its clause
abbrev pub complaint_data : Source → ℕ → List ℕ → List ℕ → Data
complaint_data s offset rule clause =
    object
    (member (codes "block") (block_data s.block)
    (member (codes "clause") (string clause)
    (member (codes "file") (string s.file.now)
    (member (codes "offset") (number (unsigned offset)) (member (codes "rule") (string rule) no_members)))))
