-- Contents in BER that have no elements of other types in them, and the same contents in DER.
use Rattle.std.specs.Prelude.{◌≡◌, ◌≢◌, ℕ, ◌≤◌, ◌<◌, ◌==◌, List, [], ◌∷◌, ◌++◌, length, if◌then◌else◌}
use Rattle.picky_der_core.specs.Element.{tlv}

-- the content of a BOOLEAN: 00 for FALSE, and for TRUE any other byte (X.690, 8.2.2) or FF (11.1)
pub data IsTruth : List ℕ → List ℕ → Type 0 where
  false : IsTruth (0x00 ∷ []) (0x00 ∷ [])
  true : (b : ℕ) → b ≢ 0x00 → IsTruth (b ∷ []) (0xFF ∷ [])

-- the first bytes are octet strings one after another, and the others are their contents (8.7.3)
pub data AreParts : List ℕ → List ℕ → Type 0 where
  none : (bytes der : List ℕ) → bytes ≡ [] → der ≡ [] → AreParts bytes der
  more : (content rest others bytes der : List ℕ) → AreParts rest others → bytes ≡ tlv 0x04 content ++ rest
      → der ≡ content ++ others → AreParts bytes der

-- how many bits of the last byte may be unused (8.6.2.2 and 8.6.2.3)
abbrev pub most_unused : List ℕ → ℕ
most_unused bits = if length bits == 0 then 0 else 7

-- a bit string is at the front of bytes (8.6.2)
pub record IsBitPart (bytes : List ℕ) (unused : ℕ) (bits after : List ℕ) : Type 0 where
  pub most : unused ≤ most_unused bits
  pub is : bytes ≡ tlv 0x03 (unused ∷ bits) ++ after

-- They are bit strings one after another with these bits, of which so many are unused. Only the last one has unused
-- bits (8.6.4).
pub data AreBitParts : List ℕ → ℕ → List ℕ → Type 0 where
  none : (bytes : List ℕ) (unused : ℕ) (bits : List ℕ) → bytes ≡ [] → unused ≡ 0 → bits ≡ []
      → AreBitParts bytes unused bits
  last : (bytes : List ℕ) (unused : ℕ) (bits : List ℕ) → 0 < unused → IsBitPart bytes unused bits []
      → AreBitParts bytes unused bits
  more : (first rest others bytes : List ℕ) (unused : ℕ) (bits : List ℕ) → IsBitPart bytes 0 first rest
      → AreBitParts rest unused others → bits ≡ first ++ others → AreBitParts bytes unused bits

-- the content of one bit string with the bits of these
pub record AreJoinedBits (bytes der : List ℕ) : Type 0 where
  pub unused : ℕ
  pub bits : List ℕ
  pub are : AreBitParts bytes unused bits
  pub is : der ≡ unused ∷ bits
