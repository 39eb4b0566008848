-- The codes that functions return.
use Rattle.std.specs.Prelude.{ℕ}
use Rattle.picky_der_core.specs.declared.error.Asn1DerError.{Asn1DerError}
use Rattle.picky_der_core.specs.declared.error.Asn1DerError.TheVariants as error
use Rattle.der_show.specs.declared.rule.Rule.{Rule}
use Rattle.der_show.specs.declared.rule.Rule.TheVariants as rule

-- yes, or done
abbrev pub ok : ℕ
ok = 0

abbrev pub memory_failed : ℕ
memory_failed = 4

abbrev pub no_room : ℕ
no_room = 6

abbrev pub at_end : ℕ
at_end = 7

abbrev pub no_place : ℕ
no_place = 8

abbrev pub unknown_type : ℕ
unknown_type = 9

abbrev pub no_table : ℕ
no_table = 10

abbrev pub no_value : ℕ
no_value = 11

-- what is asked for is too large
abbrev pub too_large : ℕ
too_large = 3

-- the members of a SET are in no order
abbrev pub out_of_order : ℕ
out_of_order = 128

-- the code of an error: never 0, and 4 for a failed allocation alone
abbrev pub error_code : Asn1DerError → ℕ
error_code error.TruncatedData = 1
error_code error.InvalidData = 2
error_code error.UnsupportedValue = 3
error_code error.OutOfMemory = 4
error_code _ = 5

-- the code of a rule: above 100
abbrev pub rule_code : Rule → ℕ
rule_code rule.CutHeader = 101
rule_code rule.LongTag = 102
rule_code rule.IndefiniteLength = 103
rule_code rule.WideLength = 104
rule_code rule.LongLength = 105
rule_code rule.PastEnd = 106
rule_code rule.EndOfContents = 107
rule_code rule.NotPrimitive = 108
rule_code rule.ConstructedString = 109
rule_code rule.NotConstructed = 110
rule_code rule.PrimitiveExternal = 111
rule_code rule.PrimitiveEmbeddedPdv = 112
rule_code rule.PrimitiveCharacterString = 113
rule_code rule.BooleanSize = 114
rule_code rule.BooleanValue = 115
rule_code rule.EmptyInteger = 116
rule_code rule.PaddedInteger = 117
rule_code rule.UnusedCount = 118
rule_code rule.UnusedBits = 119
rule_code rule.NullContent = 120
rule_code rule.ObjectIdentifier = 121
rule_code rule.RelativeOid = 122
rule_code rule.Utf8 = 123
rule_code rule.UniversalString = 124
rule_code rule.BmpString = 125
rule_code rule.UtcTime = 126
rule_code rule.GeneralizedTime = 127
rule_code rule.SetOrder = 128
