-- What a code and a position say of bytes, by what was found.
use Rattle.std.proofs.Common.{◌≡◌, ℕ, ◌<◌, List, length, sym, ◌∙◌, arith}
use Rattle.picky_der_core.specs.declared.error.Asn1DerError.{Asn1DerError}
use Rattle.picky_der_core.specs.declared.error.Asn1DerError.TheVariants as error
use Rattle.der_show.specs.declared.rule.Rule.{Rule}
use Rattle.der_show.specs.declared.rule.Rule.TheVariants as rule
use Rattle.der_read.specs.Described.{Description}
use Rattle.der_c.specs.Codes.{error_code, rule_code}
use Rattle.der_c.specs.Verdict.{IsFinding, IsVerdict}

error_above : (e : Asn1DerError) → 0 < error_code e
error_above error.TruncatedData = omega arith
error_above error.InvalidData = omega arith
error_above error.UnsupportedValue = omega arith
error_above error.UnsupportedType = omega arith
error_above error.InvalidSink = omega arith
error_above (error.Message text) = omega arith
error_above (error.Other kind) = omega arith
error_above error.OutOfMemory = omega arith

rule_above : (r : Rule) → 100 < rule_code r
rule_above rule.CutHeader = omega arith
rule_above rule.LongTag = omega arith
rule_above rule.IndefiniteLength = omega arith
rule_above rule.WideLength = omega arith
rule_above rule.LongLength = omega arith
rule_above rule.PastEnd = omega arith
rule_above rule.EndOfContents = omega arith
rule_above rule.NotPrimitive = omega arith
rule_above rule.ConstructedString = omega arith
rule_above rule.NotConstructed = omega arith
rule_above rule.PrimitiveExternal = omega arith
rule_above rule.PrimitiveEmbeddedPdv = omega arith
rule_above rule.PrimitiveCharacterString = omega arith
rule_above rule.BooleanSize = omega arith
rule_above rule.BooleanValue = omega arith
rule_above rule.EmptyInteger = omega arith
rule_above rule.PaddedInteger = omega arith
rule_above rule.UnusedCount = omega arith
rule_above rule.UnusedBits = omega arith
rule_above rule.NullContent = omega arith
rule_above rule.ObjectIdentifier = omega arith
rule_above rule.RelativeOid = omega arith
rule_above rule.Utf8 = omega arith
rule_above rule.UniversalString = omega arith
rule_above rule.BmpString = omega arith
rule_above rule.UtcTime = omega arith
rule_above rule.GeneralizedTime = omega arith
rule_above rule.SetOrder = omega arith

pub verdict : (d : Description) (bytes : List ℕ) (code position : ℕ) → IsFinding d bytes code position
    → IsVerdict d bytes code position
verdict d bytes code position (IsFinding.message m in_der e p) =
    record {
      accepted = λ _. record { message = m; in_der = in_der };
      refused = λ no _ _. no e;
      within =
          omega (arith, p);
      finding = IsFinding.message m in_der e p;
    }
verdict d bytes code position (IsFinding.refused r f e p) = record {
  accepted = λ k. let above = error_above r.error in absurd (omega (arith, e, k, above));
  refused = λ _ _ m. f.none m.message;
  within = omega (arith, p, f.found.within);
  finding = IsFinding.refused r f e p;
}
verdict d bytes code position (IsFinding.broken c m b e p) = record {
  accepted = λ k. let above = rule_above c.rule in absurd (omega (arith, e, k, above));
  refused = λ _ _ m. let listed = m.in_der.1 in b.1.none listed.nodes listed.canonical listed.is;
  within = omega (arith, p, b.1.inside, b.1.within);
  finding = IsFinding.broken c m b e p;
}
verdict d bytes code position (IsFinding.no_memory e p) =
    record {
      accepted = λ k. absurd (omega (arith, e, k));
      refused = λ _ known _. known e;
      within = omega (arith, p);
      finding = IsFinding.no_memory e p;
    }
