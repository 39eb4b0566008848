-- What comes of all bytes.
use Rattle.std.proofs.Common.{◌≡◌, ◌≢◌, ℕ, List, [], ◌++◌, refl, ap, subst, ◌∙◌, arith}
use Rattle.der_ber.specs.declared.short_lengths.TheConstants.{MAX_DEPTH}
use Rattle.der_ber.specs.declared.error.BerError.{BerError}
use Rattle.der_ber.specs.declared.error.BerError.TheVariants.{OutOfMemory, Broken}
use Rattle.der_ber.specs.declared.front.Until.TheVariants as until
use Rattle.der_ber.specs.declared.parts.Part.{Part}
use Rattle.der_ber.specs.declared.strings.Strings.{Strings}
use Rattle.der_ber.specs.declared.strings.Strings.TheVariants.{InParts}
use Rattle.der_ber.specs.Nodes.{encoding}
use Rattle.der_ber.specs.LongLengths.{HasLongLengths}
use Rattle.der_ber.specs.Fronts.{IsRefused}
use Rattle.der_ber.specs.Parts.{written}
use Rattle.der_ber.specs.Reading.{AreRead, FailsWithin}
use Rattle.der_ber.specs.InDer.{IsInDer, IsRefusedWith, AreNoneWith}
use Rattle.der_ber.specs.ShortLengths.{IsShortened, AreNoElements}
use Rattle.der_ber.proofs.ReadingLemmas.{whole_content}
use Rattle.der_ber.proofs.Refusals.{refused_none}
use Rattle.der_ber.proofs.WholeLemmas.{stays, same_whole}

pub in_der : (strings : Strings) (bytes : List ℕ) (old new : List Part) (size : ℕ) (after : List ℕ) → old ≡ []
    → AreRead until.End strings MAX_DEPTH bytes old new size after → (der : List ℕ) → der ≡ written new
    → IsInDer strings bytes der
in_der strings bytes old new size after none h der e = record {
  nodes = h.read.nodes;
  elements = subst (HasLongLengths h.read.nodes) (whole_content bytes h.read.passed h.rest after h.read.is h.end)
      h.read.elements;
  levels = h.read.levels;
  whole = h.read.whole;
  has_parts = h.read.has_parts;
  is = e ∙ ap written (h.read.appended ∙ ap (λ l. l ++ h.read.parts) none) ∙ h.read.writes;
}

pub refused_with : (strings : Strings) (bytes : List ℕ) (e : BerError)
    → FailsWithin until.End strings MAX_DEPTH 0 bytes e → IsRefusedWith strings bytes e
refused_with strings bytes OutOfMemory f = tt
refused_with strings bytes (Broken position r) f =
    let (at, is, refused) = f in
    let same : at ≡ position = omega arith in
    subst (λ n. IsRefused until.End strings MAX_DEPTH bytes n r) same refused

pub no_elements : (strings : Strings) (bytes : List ℕ) (e : BerError) → IsRefusedWith strings bytes e → e ≢ OutOfMemory
    → AreNoneWith strings bytes
no_elements strings bytes OutOfMemory f other = absurd (other refl)
no_elements strings bytes (Broken position r) f other = refused_none strings bytes position r f

-- ---- strings that stay in parts

pub shortened : (bytes der : List ℕ) → IsInDer InParts bytes der → IsShortened bytes der
shortened bytes der h = record {
  nodes = h.nodes;
  elements = h.elements;
  levels = h.levels;
  is = h.is ∙ ap encoding (same_whole InParts h.nodes h.whole h.nodes h.has_parts (stays h.nodes));
}

pub none_shortened : (bytes : List ℕ) → AreNoneWith InParts bytes → AreNoElements bytes
none_shortened bytes none nodes h levels = none nodes nodes h (stays nodes) levels
