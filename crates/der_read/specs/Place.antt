-- Where a message is: in which file, and in which block of PEM if it is in one.
use Rattle.std.specs.Prelude.{ℕ, List, ◌++◌, Option, None, Some, codes, decimal}
use Rattle.serde_json.specs.Data.{Data, null, number, unsigned}
use Rattle.der_program_base.specs.Line.{shown}

-- how a line names a message
abbrev pub place_name : List ℕ → Option ℕ → List ℕ
place_name file None = shown file
place_name file (Some block) = shown file ++ (codes ", block " ++ decimal block)

-- what a line on the message begins with
abbrev pub place_text : List ℕ → Option ℕ → List ℕ
place_text file block = place_name file block ++ codes ": "

-- the number of the block, in JSON
abbrev pub block_data : Option ℕ → Data
block_data None = null
block_data (Some block) = number (unsigned block)
