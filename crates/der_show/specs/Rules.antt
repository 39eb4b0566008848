-- Rules of DER.
use Rattle.std.specs.Prelude.{Bool, true, false}
use Rattle.der_show.specs.declared.rule.Rule.{Rule}
use Rattle.der_show.specs.declared.rule.Rule.TheVariants as rule

-- BER doesn't have the rule (X.690, 10 and 11). BER has other forms of times, too, but not each content is one of them.
abbrev pub is_of_der_alone : Rule → Bool
is_of_der_alone rule.IndefiniteLength = true
is_of_der_alone rule.LongLength = true
is_of_der_alone rule.ConstructedString = true
is_of_der_alone rule.BooleanValue = true
is_of_der_alone rule.UnusedBits = true
is_of_der_alone rule.SetOrder = true
is_of_der_alone _ = false
