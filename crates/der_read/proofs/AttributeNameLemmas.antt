-- Each name of an attribute is one of all.
use Rattle.std.proofs.Common.{refl, lit<}
use Rattle.std.specs.List.{Contains}
use Rattle.der_read.specs.declared.attribute_name.AttributeName.{AttributeName}
use Rattle.der_read.specs.declared.attribute_name.AttributeName.TheVariants as attribute
use Rattle.der_read.specs.AttributeNames.{all_names}

pub is_among_names : (name : AttributeName) → Contains all_names name
is_among_names attribute.CommonName = (0, lit< tt, refl)
is_among_names attribute.Surname = (1, lit< tt, refl)
is_among_names attribute.SerialNumber = (2, lit< tt, refl)
is_among_names attribute.CountryName = (3, lit< tt, refl)
is_among_names attribute.LocalityName = (4, lit< tt, refl)
is_among_names attribute.StateOrProvinceName = (5, lit< tt, refl)
is_among_names attribute.StreetAddress = (6, lit< tt, refl)
is_among_names attribute.OrganizationName = (7, lit< tt, refl)
is_among_names attribute.OrganizationalUnitName = (8, lit< tt, refl)
is_among_names attribute.Title = (9, lit< tt, refl)
is_among_names attribute.Name = (10, lit< tt, refl)
is_among_names attribute.GivenName = (11, lit< tt, refl)
is_among_names attribute.Initials = (12, lit< tt, refl)
is_among_names attribute.GenerationQualifier = (13, lit< tt, refl)
is_among_names attribute.DnQualifier = (14, lit< tt, refl)
is_among_names attribute.Pseudonym = (15, lit< tt, refl)
is_among_names attribute.DomainComponent = (16, lit< tt, refl)
is_among_names attribute.UserId = (17, lit< tt, refl)
is_among_names attribute.EmailAddress = (18, lit< tt, refl)
