-- Which strings are listed together with the DER that they hold.
use Rattle.std.specs.Prelude.{◌≡◌, ℕ, ◌<◌, false, Option, Some, None, List, [], ◌∷◌, ◌==◌, if◌then◌else◌}
use Rattle.picky_der_core.specs.Element.{IsElement}
use Rattle.der_show.specs.declared.options.ShowOptions.{ShowOptions}
use Rattle.der_show.specs.Outlines.{AreElements}

-- the bits of a BIT STRING without unused ones: one byte, the count, is before them
abbrev pub whole_bytes : List ℕ → Option (ℕ × List ℕ)
whole_bytes [] = None
whole_bytes (b ∷ bs) = if b == 0 then Some (1, bs) else None

-- the bytes that an OCTET STRING or a BIT STRING holds, and how many bytes of the content are before them
abbrev pub held : ℕ → List ℕ → Option (ℕ × List ℕ)
held tag content =
    if tag == 0x04 then Some (0, content)
    else (if tag == 0x03 then whole_bytes content
    else None)

-- one element, in DER, and nothing else
pub record IsOneInDer (bytes : List ℕ) : Type 0 where
  pub one : IsElement bytes
  pub in_der : AreElements bytes

-- A string at this depth is listed together with the element that it holds, which is after so many bytes of its
-- content. At a greater depth none is, so that no byte is looked at more often than that.
pub record Opens (o : ShowOptions) (depth tag : ℕ) (content : List ℕ) (skipped : ℕ) : Type 0 where
  pub asked : o.is_flat ≡ false
  pub shallow : depth < 64
  pub bytes : List ℕ
  pub is_held : held tag content ≡ Some (skipped, bytes)
  pub one : IsOneInDer bytes
