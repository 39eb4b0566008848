-- The types of attributes of names that have names of their own (RFC 4514, 3; X.520).
use Rattle.std.specs.Prelude.{◌≡◌, ◌≢◌, ℕ, List, [], ◌∷◌, Option, MatchOption, codes}
use Rattle.der_types.specs.declared.object_identifier.ObjectIdentifier.{ObjectIdentifier}
use Rattle.der_types.specs.contracts.generated.object_identifier.ObjectIdentifierContents.TheImpl as identifier
use Rattle.der_read.specs.declared.attribute_name.AttributeName.{AttributeName}
use Rattle.der_read.specs.declared.attribute_name.AttributeName.TheVariants as attribute

-- the content of an object identifier
abbrev pub content_of : ObjectIdentifier → List ℕ
content_of = identifier.ghosts.content

-- the content of that of a name
abbrev pub identifier_of : AttributeName → List ℕ
identifier_of attribute.CommonName = 0x55 ∷ 0x04 ∷ 0x03 ∷ []
identifier_of attribute.Surname = 0x55 ∷ 0x04 ∷ 0x04 ∷ []
identifier_of attribute.SerialNumber = 0x55 ∷ 0x04 ∷ 0x05 ∷ []
identifier_of attribute.CountryName = 0x55 ∷ 0x04 ∷ 0x06 ∷ []
identifier_of attribute.LocalityName = 0x55 ∷ 0x04 ∷ 0x07 ∷ []
identifier_of attribute.StateOrProvinceName = 0x55 ∷ 0x04 ∷ 0x08 ∷ []
identifier_of attribute.StreetAddress = 0x55 ∷ 0x04 ∷ 0x09 ∷ []
identifier_of attribute.OrganizationName = 0x55 ∷ 0x04 ∷ 0x0A ∷ []
identifier_of attribute.OrganizationalUnitName = 0x55 ∷ 0x04 ∷ 0x0B ∷ []
identifier_of attribute.Title = 0x55 ∷ 0x04 ∷ 0x0C ∷ []
identifier_of attribute.Name = 0x55 ∷ 0x04 ∷ 0x29 ∷ []
identifier_of attribute.GivenName = 0x55 ∷ 0x04 ∷ 0x2A ∷ []
identifier_of attribute.Initials = 0x55 ∷ 0x04 ∷ 0x2B ∷ []
identifier_of attribute.GenerationQualifier = 0x55 ∷ 0x04 ∷ 0x2C ∷ []
identifier_of attribute.DnQualifier = 0x55 ∷ 0x04 ∷ 0x2E ∷ []
identifier_of attribute.Pseudonym = 0x55 ∷ 0x04 ∷ 0x41 ∷ []
identifier_of attribute.DomainComponent = 0x09 ∷ 0x92 ∷ 0x26 ∷ 0x89 ∷ 0x93 ∷ 0xF2 ∷ 0x2C ∷ 0x64 ∷ 0x01 ∷ 0x19 ∷ []
identifier_of attribute.UserId = 0x09 ∷ 0x92 ∷ 0x26 ∷ 0x89 ∷ 0x93 ∷ 0xF2 ∷ 0x2C ∷ 0x64 ∷ 0x01 ∷ 0x01 ∷ []
identifier_of attribute.EmailAddress = 0x2A ∷ 0x86 ∷ 0x48 ∷ 0x86 ∷ 0xF7 ∷ 0x0D ∷ 0x01 ∷ 0x09 ∷ 0x01 ∷ []

abbrev pub name_of : AttributeName → List ℕ
name_of attribute.CommonName = codes "CN"
name_of attribute.Surname = codes "surname"
name_of attribute.SerialNumber = codes "serialNumber"
name_of attribute.CountryName = codes "C"
name_of attribute.LocalityName = codes "L"
name_of attribute.StateOrProvinceName = codes "ST"
name_of attribute.StreetAddress = codes "STREET"
name_of attribute.OrganizationName = codes "O"
name_of attribute.OrganizationalUnitName = codes "OU"
name_of attribute.Title = codes "title"
name_of attribute.Name = codes "name"
name_of attribute.GivenName = codes "givenName"
name_of attribute.Initials = codes "initials"
name_of attribute.GenerationQualifier = codes "generationQualifier"
name_of attribute.DnQualifier = codes "dnQualifier"
name_of attribute.Pseudonym = codes "pseudonym"
name_of attribute.DomainComponent = codes "DC"
name_of attribute.UserId = codes "UID"
name_of attribute.EmailAddress = codes "emailAddress"

-- the name with this object identifier; none has it, if there is none
abbrev pub IsNameOf : List ℕ → Option AttributeName → Type 0
IsNameOf content found = MatchOption found ((name : AttributeName) → identifier_of name ≢ content)
    (λ name. identifier_of name ≡ content)

abbrev pub all_names : List AttributeName
all_names = attribute.CommonName ∷ attribute.Surname ∷ attribute.SerialNumber ∷ attribute.CountryName
    ∷ attribute.LocalityName ∷ attribute.StateOrProvinceName ∷ attribute.StreetAddress ∷ attribute.OrganizationName
    ∷ attribute.OrganizationalUnitName ∷ attribute.Title ∷ attribute.Name ∷ attribute.GivenName ∷ attribute.Initials
    ∷ attribute.GenerationQualifier ∷ attribute.DnQualifier ∷ attribute.Pseudonym ∷ attribute.DomainComponent
    ∷ attribute.UserId ∷ attribute.EmailAddress ∷ []
