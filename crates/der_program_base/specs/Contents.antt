-- Which bytes of an input are looked at.
use Rattle.std.specs.Prelude.{◌≡◌, ℕ, ◌<◌, Bool, true, false, ◌||◌, not, ◌==◌, List, length, map, Option, Some, None}
use Rattle.std.specs.Prelude.{Ok, ⊤}
use Rattle.std.specs.Char.{is_control}
use Rattle.std.specs.List.{Contains, list_all}
use Rattle.std.specs.Str.{IsUtf8, chars}
use Rattle.picky_der_core.specs.Element.{IsElement}
use Rattle.der_program_base.specs.declared.blocks.Block.{Block}
use Rattle.der_program_base.specs.declared.contents.Form.{Form}
use Rattle.der_program_base.specs.declared.contents.Form.TheVariants.{Der as AsDer, Pem as AsPem}
use Rattle.der_program_base.specs.declared.contents.Contents.{Contents}
use Rattle.der_program_base.specs.declared.contents.Contents.TheVariants.{Der, Pem, Other}
use Rattle.der_program_base.specs.declared.guess.Guess.{Guess}
use Rattle.der_program_base.specs.declared.guess.Guess.TheVariants.{ByteOrderMark}
use Rattle.der_program_base.specs.Lines.{lines_of, AreOther}
use Rattle.der_program_base.specs.Sections.{AreBlocksOf, items_of, value_of}
use Rattle.der_program_base.specs.Guess.{has_mark, guess_of}

-- no control character but tab, line feed, form feed and carriage return
abbrev pub is_text_character : ℕ → Bool
is_text_character c = not (is_control c) || c == 0x09 || c == 0x0A || c == 0x0C || c == 0x0D

pub record IsText (input : List ℕ) : Type 0 where
  pub utf8 : IsUtf8 input
  pub characters : list_all is_text_character (chars input) ≡ true

-- A form that was asked for decides. Otherwise a whole element isn't read as text, whatever is in it.
abbrev pub IsReadAsText : Option Form → List ℕ → Type 0
IsReadAsText None input = (IsElement input → ⊥) × IsText input
IsReadAsText (Some AsDer) input = ⊥
IsReadAsText (Some AsPem) input = ⊤

-- a byte order mark is named whatever follows it; else there is no block
pub data IsGuessOf (input : List ℕ) (guess : Guess) : Type 0 where
  marked : has_mark input ≡ true → guess ≡ ByteOrderMark → IsGuessOf input guess
  without_blocks : has_mark input ≡ false → AreOther (lines_of input) → guess ≡ guess_of input → IsGuessOf input guess

-- what an input is: DER, blocks of PEM in a text, or a text without blocks or with a byte order mark
abbrev pub IsContentsOf : Option Form → List ℕ → Contents → Type 0
IsContentsOf form input Der = IsReadAsText form input → ⊥
IsContentsOf form input (Pem blocks) = IsReadAsText form input × (has_mark input ≡ false)
    × AreBlocksOf (lines_of input) blocks × (0 < length blocks.blocks.items)
IsContentsOf form input (Other guess) = IsReadAsText form input × IsGuessOf input guess

-- the same contents, with the same blocks
abbrev pub AreSameContents : Contents → Contents → Type 0
AreSameContents Der Der = ⊤
AreSameContents Der (Pem blocks) = ⊥
AreSameContents Der (Other guess) = ⊥
AreSameContents (Pem blocks) Der = ⊥
AreSameContents (Pem blocks) (Pem others) = (map value_of blocks.blocks.items ≡ map value_of others.blocks.items)
    × (blocks.skipped ≡ others.skipped)
AreSameContents (Pem blocks) (Other guess) = ⊥
AreSameContents (Other guess) Der = ⊥
AreSameContents (Other guess) (Pem blocks) = ⊥
AreSameContents (Other guess) (Other other) = guess ≡ other

-- ---- messages

-- the whole input if it is DER, else the bytes of a block
abbrev pub IsMessageIn : Contents → List ℕ → List ℕ → Type 0
IsMessageIn Der input bytes = bytes ≡ input
IsMessageIn (Pem blocks) input bytes = (block : Block) × Contains blocks.blocks.items block
    × (items_of block.bytes ≡ Ok bytes)
IsMessageIn (Other guess) input bytes = ⊥

-- these bytes are a message that is looked at
pub record IsMessageOf (form : Option Form) (input bytes : List ℕ) : Type 0 where
  pub contents : Contents
  pub are_contents : IsContentsOf form input contents
  pub is_message : IsMessageIn contents input bytes
