-- What is read of lines, one boundary of a block after another.
use Rattle.std.specs.Prelude.{◌≡◌, ℕ, List, ◌∷◌, ◌++◌, Option, Some, None, Err, if◌then◌else◌}
use Rattle.std.proofs.Common.{Result}
use Rattle.std.specs.Str.{bytes_eq}
use Rattle.std.specs.Borrow.{Bor}
use Rattle.der_program_base.specs.declared.blocks.Block.{Block}
use Rattle.der_program_base.specs.declared.blocks.BlockFault.{BlockFault}
use Rattle.der_program_base.specs.declared.blocks.BlockFault.TheVariants.{NoEnd, OtherLabel}
use Rattle.der_program_base.specs.declared.blocks.Boundary.{Boundary}
use Rattle.der_program_base.specs.declared.blocks.Boundary.TheVariants.{Begin, End}
use Rattle.der_program_base.specs.Lines.{IsBegin, IsEnd, IsOther, AreOther, texts}
use Rattle.der_program_base.specs.Sections.{Section, lines_in, IsSection, MayPrecede, NextBegins, bytes_in, block_in}
use Rattle.der_program_base.specs.Sections.{value_of}

-- the line is this boundary
abbrev pub IsBoundary : List ℕ → Boundary → Type 0
IsBoundary line (Begin label) = IsBegin line label.now
IsBoundary line (End label) = IsEnd line label.now

abbrev pub IsBoundaryOf : List ℕ → Option Boundary → Type 0
IsBoundaryOf line None = IsOther line
IsBoundaryOf line (Some boundary) = IsBoundary line boundary

-- the lines up to the first boundary, that boundary, and the lines after it
abbrev pub IsSplitAtBoundary : List (List ℕ) → List (List ℕ) → Option (Boundary × Bor (List (Bor (List ℕ)))) → Type 0
IsSplitAtBoundary lines front None = AreOther front × (lines ≡ front)
IsSplitAtBoundary lines front (Some found) = (line : List ℕ) × AreOther front × IsBoundary line found.0
    × (lines ≡ front ++ (line ∷ texts found.1.now))

-- the first block, and the lines after it
pub record IsFirstBlock (lines : List (List ℕ)) (block : Block) (rest : List (List ℕ)) : Type 0 where
  pub section : Section
  pub is : lines ≡ lines_in section ++ rest
  pub is_section : IsSection section
  pub may_precede : MayPrecede section rest
  pub block_is : value_of block ≡ block_in section

-- What comes of the lines after the begin line of a block with this label, and the lines after the block.
pub data IsBody (label : List ℕ) (lines : List (List ℕ)) (bytes : Result (List ℕ) BlockFault)
    (rest : List (List ℕ)) : Type 0 where
  ended : (body : List (List ℕ)) (end end_label : List ℕ) → AreOther body → IsEnd end end_label
      → lines ≡ body ++ (end ∷ rest) → bytes ≡ (if bytes_eq label end_label then bytes_in body else Err OtherLabel)
      → IsBody label lines bytes rest
  not_ended : (body : List (List ℕ)) → AreOther body → NextBegins rest → lines ≡ body ++ rest → bytes ≡ Err NoEnd
      → IsBody label lines bytes rest
