-- The blocks of PEM in the lines of a text (RFC 7468, 2 and 3).
use Rattle.std.specs.Prelude.{◌≡◌, ℕ, Bool, not, ◌==◌, List, [], ◌∷◌, ◌++◌, map, count_by, Ok, Err, ⊤, if◌then◌else◌}
use Rattle.std.proofs.Common.{Vec, Global, Result}
use Rattle.std.specs.Char.{is_ascii_whitespace}
use Rattle.std.specs.List.{filter, flat_map, list_any}
use Rattle.std.specs.Str.{bytes_eq}
use Rattle.base64.specs.declared.decode.DecodeError.{DecodeError}
use Rattle.base64.specs.Engines.{standard}
use Rattle.base64.specs.GeneralPurpose.{decode_of}
use Rattle.der_program_base.specs.declared.blocks.Block.{Block}
use Rattle.der_program_base.specs.declared.blocks.Blocks.{Blocks}
use Rattle.der_program_base.specs.declared.blocks.BlockFault.{BlockFault}
use Rattle.der_program_base.specs.declared.blocks.BlockFault.TheVariants.{NoBegin, NoEnd, OtherLabel, Headers, NoBase64}
use Rattle.der_program_base.specs.Lines.{IsBegin, IsEnd, AreOther, is_filled}

-- ---- what lines are made of

-- lines outside of blocks, and the block after them
pub data Section : Type 0 where
  -- the begin line and its label, the lines of the body, and the end line and its label
  whole : (outside : List (List ℕ)) (begin label : List ℕ) (body : List (List ℕ)) (end end_label : List ℕ) → Section
  -- a block without an end line
  cut : (outside : List (List ℕ)) (begin label : List ℕ) (body : List (List ℕ)) → Section
  -- an end line without a begin line
  stray : (outside : List (List ℕ)) (end label : List ℕ) → Section

abbrev pub lines_in : Section → List (List ℕ)
lines_in (Section.whole outside begin label body end end_label) = outside ++ (begin ∷ (body ++ (end ∷ [])))
lines_in (Section.cut outside begin label body) = outside ++ (begin ∷ body)
lines_in (Section.stray outside end label) = outside ++ (end ∷ [])

abbrev pub all_lines : List Section → List (List ℕ)
all_lines sections = flat_map lines_in sections

-- each line is what it is said to be
abbrev pub IsSection : Section → Type 0
IsSection (Section.whole outside begin label body end end_label) = AreOther outside × IsBegin begin label
    × AreOther body × IsEnd end end_label
IsSection (Section.cut outside begin label body) = AreOther outside × IsBegin begin label × AreOther body
IsSection (Section.stray outside end label) = AreOther outside × IsEnd end label

-- there is no line, or the first one begins a block
abbrev pub NextBegins : List (List ℕ) → Type 0
NextBegins [] = ⊤
NextBegins (line ∷ lines) = (label : List ℕ) × IsBegin line label

-- a block without an end line goes on until another one begins, or to the last line
abbrev pub MayPrecede : Section → List (List ℕ) → Type 0
MayPrecede (Section.whole outside begin label body end end_label) lines = ⊤
MayPrecede (Section.cut outside begin label body) lines = NextBegins lines
MayPrecede (Section.stray outside end label) lines = ⊤

-- these sections, and then these lines
abbrev pub AreSections : List Section → List (List ℕ) → Type 0
AreSections [] rest = ⊤
AreSections (section ∷ sections) rest = IsSection section × MayPrecede section (all_lines sections ++ rest)
    × AreSections sections rest

-- the lines are these sections, and after the last one there is no block
pub record HasSections (lines : List (List ℕ)) (sections : List Section) (after : List (List ℕ)) : Type 0 where
  pub is : lines ≡ all_lines sections ++ after
  pub sections_are : AreSections sections after
  pub after_is : AreOther after

-- ---- what a block has

-- the text in the lines of a body, without white space
abbrev pub base64_in : List (List ℕ) → List ℕ
base64_in body = filter (λ byte. not (is_ascii_whitespace byte)) (flat_map (λ line. line) body)

abbrev pub has_colon : List (List ℕ) → Bool
has_colon body = list_any (λ line. list_any (λ byte. byte == 0x3A) line) body

abbrev pub or_no_base64 : Result (List ℕ) DecodeError → Result (List ℕ) BlockFault
or_no_base64 (Ok bytes) = Ok bytes
or_no_base64 (Err e) = Err NoBase64

-- the bytes that a body encodes; a colon is part of a header (RFC 1421, 4.6.1)
unfoldable pub bytes_in : List (List ℕ) → Result (List ℕ) BlockFault
bytes_in body = if has_colon body then Err Headers else or_no_base64 (decode_of standard (base64_in body))

pub record BlockValue : Type 0 where
  pub label : List ℕ
  -- how many lines before it are outside of blocks and not blank
  pub skipped : ℕ
  pub bytes : Result (List ℕ) BlockFault

-- the block with this label after these lines
abbrev pub block_after : List (List ℕ) → List ℕ → Result (List ℕ) BlockFault → BlockValue
block_after outside label bytes = record { label = label; skipped = count_by is_filled outside; bytes = bytes }

abbrev pub block_in : Section → BlockValue
block_in (Section.whole outside begin label body end end_label) =
    block_after outside label (if bytes_eq label end_label then bytes_in body else Err OtherLabel)
block_in (Section.cut outside begin label body) = block_after outside label (Err NoEnd)
block_in (Section.stray outside end label) = block_after outside label (Err NoBegin)

-- ---- blocks of the program

abbrev pub items_of : Result (Vec ℕ Global) BlockFault → Result (List ℕ) BlockFault
items_of (Ok bytes) = Ok bytes.items
items_of (Err fault) = Err fault

abbrev pub value_of : Block → BlockValue
value_of block = record { label = block.label.items; skipped = block.skipped; bytes = items_of block.bytes }

-- the blocks in these lines, in order, and how many lines after the last one aren't blank
pub record AreBlocksOf (lines : List (List ℕ)) (blocks : Blocks) : Type 0 where
  pub sections : List Section
  pub after : List (List ℕ)
  pub has_sections : HasSections lines sections after
  pub are : map value_of blocks.blocks.items ≡ map block_in sections
  pub skipped : blocks.skipped ≡ count_by is_filled after
