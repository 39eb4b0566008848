-- What is inside of a kind of types, and what the standard calls it (X.680).
use Rattle.std.specs.Prelude.{ℕ, List, Option, Some, None, codes, ◌==◌, if◌then◌else◌}
use Rattle.der_schema.specs.declared.node.Kind.{Kind}
use Rattle.der_schema.specs.declared.node.Kind.TheVariants as kind

-- the index of the one type inside
abbrev pub inner_of : Kind → Option ℕ
inner_of (kind.Reference i) = Some i
inner_of (kind.SequenceOf i) = Some i
inner_of (kind.SetOf i) = Some i
inner_of (kind.Wrapped wrapper i) = Some i
inner_of (kind.ContentUnder tag i) = Some i
inner_of (kind.InRange least most i) = Some i
inner_of (kind.AtLeast least i) = Some i
inner_of (kind.AtMost most i) = Some i
inner_of (kind.Outside least most i) = Some i
inner_of (kind.Sized least most i) = Some i
inner_of (kind.Permitted ranges i) = Some i
inner_of _ = None

-- a restricted string by its identifier byte (41, table 8, and 48.3)
abbrev pub string_name : ℕ → Option (List ℕ)
string_name tag =
    if tag == 0x07 then Some (codes "ObjectDescriptor")
    else (if tag == 0x12 then Some (codes "NumericString")
    else (if tag == 0x13 then Some (codes "PrintableString")
    else (if tag == 0x14 then Some (codes "TeletexString")
    else (if tag == 0x15 then Some (codes "VideotexString")
    else (if tag == 0x16 then Some (codes "IA5String")
    else (if tag == 0x19 then Some (codes "GraphicString")
    else (if tag == 0x1A then Some (codes "VisibleString")
    else (if tag == 0x1B then Some (codes "GeneralString")
    else (if tag == 0x1C then Some (codes "UniversalString")
    else (if tag == 0x1E then Some (codes "BMPString")
    else None))))))))))

abbrev pub kind_name : Kind → Option (List ℕ)
kind_name kind.Boolean = Some (codes "BOOLEAN")
kind_name kind.Integer = Some (codes "INTEGER")
kind_name (kind.NamedInteger items) = Some (codes "INTEGER")
kind_name (kind.Unsigned bits) = Some (codes "INTEGER")
kind_name (kind.Signed bits) = Some (codes "INTEGER")
kind_name (kind.Enumerated items) = Some (codes "ENUMERATED")
kind_name (kind.ExtensibleEnumerated items) = Some (codes "ENUMERATED")
kind_name kind.BitString = Some (codes "BIT STRING")
kind_name (kind.NamedBits items) = Some (codes "BIT STRING")
kind_name kind.OctetString = Some (codes "OCTET STRING")
kind_name kind.Null = Some (codes "NULL")
kind_name kind.ObjectIdentifier = Some (codes "OBJECT IDENTIFIER")
kind_name kind.RelativeOid = Some (codes "RELATIVE-OID")
kind_name kind.Utf8String = Some (codes "UTF8String")
kind_name kind.Character = Some (codes "UTF8String")
kind_name (kind.RestrictedString tag) = string_name tag
kind_name kind.GeneralizedTime = Some (codes "GeneralizedTime")
kind_name kind.LaterTime = Some (codes "GeneralizedTime")
kind_name kind.UtcTime = Some (codes "UTCTime")
kind_name kind.AnyElement = Some (codes "ANY")
kind_name kind.WellFormedElement = Some (codes "ANY")
kind_name (kind.Sequence members) = Some (codes "SEQUENCE")
kind_name (kind.Choice alternatives) = Some (codes "CHOICE")
kind_name (kind.SequenceOf i) = Some (codes "SEQUENCE OF")
kind_name (kind.SetOf i) = Some (codes "SET OF")
kind_name _ = None
