use Rattle.std.proofs.Common.{refl, sym, ◌∙◌, arith}
use Rattle.der_ber.specs.Broken.{Breaks}
use Rattle.der_ber.proofs.FrontLemmas.{first_of}
use Rattle.der_ber.proofs.front.front_of.Goals as goal

pub returns-then-number-gt-MAX_NUMBER : goal.returns-then-number-gt-MAX_NUMBER
returns-then-number-gt-MAX_NUMBER c =
    Breaks.long_tag c.from-tag.result _
    (first_of c.args.bytes.now c.from-tag.result c.from-tag.ensures c.in-len1-up.len_at_least)
    (omega (arith, c.number.ensures)) refl

pub returns-then-is_reserved : goal.returns-then-is_reserved
returns-then-is_reserved c =
    Breaks.reserved c.from-tag.result _
    (first_of c.args.bytes.now c.from-tag.result c.from-tag.ensures c.in-len1-up.len_at_least)
    (sym c.is_reserved.ensures ∙ c.if-is_reserved.true) refl
