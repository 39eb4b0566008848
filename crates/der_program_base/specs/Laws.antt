-- What holds of the definitions.
use Rattle.std.specs.Prelude.{◌≡◌, ℕ, Bool, List, Option, None}
use Rattle.picky_der_core.specs.Element.{IsElement}
use Rattle.der_program_base.specs.declared.contents.Form.{Form}
use Rattle.der_program_base.specs.declared.contents.Contents.{Contents}
use Rattle.der_program_base.specs.Contents.{IsContentsOf, AreSameContents, IsMessageOf}
use Rattle.std.specs.Str.{IsUtf8}
use Rattle.der_program_base.specs.Texts.{text_or_bytes}
use Rattle.der_program_base.specs.Line.{escaped, IsEscaping, is_special_in_names, is_special_in_quotes}
use Rattle.der_program_base.specs.Text.{IsSplit}
use Rattle.der_program_base.specs.Words.{IsFirstWord}

-- an input has one list of lines, and one last line without an end
abbrev pub OneSplit : Type 0
OneSplit = (input : List ℕ) (lines others : List (List ℕ)) (last other : List ℕ) → IsSplit input lines last
    → IsSplit input others other → (lines ≡ others) × (last ≡ other)

-- a line has one first word, and one rest
abbrev pub OneFirstWord : Type 0
OneFirstWord = (line word other rest left : List ℕ) → IsFirstWord line word rest → IsFirstWord line other left
    → (word ≡ other) × (rest ≡ left)

-- Different texts are different after escaping.
abbrev pub OneText : Type 0
OneText = (special : ℕ → Bool) → IsEscaping special → (text other : List ℕ) → IsUtf8 text → IsUtf8 other
    → escaped special text ≡ escaped special other → text ≡ other

-- Different bytes are different as a text or as bytes.
abbrev pub OneTextOrBytes : Type 0
OneTextOrBytes = (bytes other : List ℕ) → text_or_bytes bytes ≡ text_or_bytes other → bytes ≡ other

-- the two sets of special characters are such
pub record SpecialsEscape : Type 0 where
  pub in_names : IsEscaping is_special_in_names
  pub in_quotes : IsEscaping is_special_in_quotes

-- an input has one list of blocks, or none
abbrev pub OneContents : Type 0
OneContents = (form : Option Form) (input : List ℕ) (one other : Contents) → IsContentsOf form input one
    → IsContentsOf form input other → AreSameContents one other

-- Where no form is asked for, an input that is one element is its only message. Nothing inside it is a message.
abbrev pub ElementIsMessage : Type 0
ElementIsMessage = (input bytes : List ℕ) → IsElement input → IsMessageOf None input bytes → bytes ≡ input
