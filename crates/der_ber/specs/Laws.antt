-- What the relation of elements and their bytes says.
use Rattle.std.specs.Prelude.{◌≡◌, ◌<◌, ◌^◌, List, ℕ, length}
use Rattle.der_ber.specs.Nodes.{Nodes, encoding}
use Rattle.der_ber.specs.LongLengths.{HasLongLengths}
use Rattle.der_ber.specs.declared.strings.Strings.TheVariants.{Whole}
use Rattle.der_ber.specs.ShortLengths.{IsShortened}
use Rattle.der_ber.specs.InDer.{IsInDer}

-- bytes are those of one list of elements only
abbrev pub OneMeaning : Type 0
OneMeaning = (a b : Nodes) (bytes : List ℕ) → HasLongLengths a bytes → HasLongLengths b bytes → a ≡ b

-- elements that have bytes have those of DER, if these aren't more than a slice has
abbrev pub DerIsBer : Type 0
DerIsBer = (nodes : Nodes) (bytes : List ℕ) → HasLongLengths nodes bytes → length (encoding nodes) < 2 ^ 64
    → HasLongLengths nodes (encoding nodes)

-- lengths of DER stay as they are
abbrev pub StaysShort : Type 0
StaysShort =
    (bytes der again : List ℕ) → length der < 2 ^ 64 → IsShortened bytes der → IsShortened der again → again ≡ der

-- bytes are those of elements with whole strings only once
abbrev pub OneWhole : Type 0
OneWhole = (bytes der other : List ℕ) → IsInDer Whole bytes der → IsInDer Whole bytes other → der ≡ other

-- the same elements with whole strings stay as they are
abbrev pub StaysWhole : Type 0
StaysWhole =
    (bytes der again : List ℕ) → length der < 2 ^ 64 → IsInDer Whole bytes der → IsInDer Whole der again → again ≡ der
