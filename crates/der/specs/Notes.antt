-- What is printed of files, besides what is printed of the messages in them.
use Rattle.std.specs.Prelude.{ℕ, List, [], ◌∷◌, ◌++◌, Option, None, Some, codes, decimal, if◌then◌else◌, ◌==◌}
use Rattle.serde_json.specs.Data.{Data, number, unsigned, string, object, member, no_members}
use Rattle.der_program_base.specs.Json.{json_line}
use Rattle.der_program_base.specs.Texts.{text_or_bytes}
use Rattle.der_program_base.specs.declared.printed.Format.{Format}
use Rattle.der_program_base.specs.declared.printed.Format.TheVariants.{Text, Json}
use Rattle.der_read.specs.Place.{place_name, place_text, block_data}

-- the line that a listing begins with
abbrev pub heading_text : List ℕ → Option ℕ → Option (List ℕ) → List ℕ
heading_text file block None = place_name file block ++ (codes ":" ++ (0x0A ∷ []))
heading_text file block (Some label) =
    place_name file block ++ (codes ", " ++ (text_or_bytes label ++ (codes ":" ++ (0x0A ∷ []))))

abbrev pub skipped_data : List ℕ → ℕ → Data
skipped_data file skipped =
    object (member (codes "file") (string file) (member (codes "skippedLines") (number (unsigned skipped)) no_members))

-- the line on lines outside of blocks
abbrev pub skipped_line : Format → List ℕ → ℕ → List ℕ
skipped_line Text file skipped = place_text file None ++ (codes "lines outside of blocks skipped: " ++ decimal skipped)
skipped_line Json file skipped = json_line (skipped_data file skipped)

-- nothing if there are none
abbrev pub skipped_text : Format → List ℕ → ℕ → List ℕ
skipped_text format file skipped = if skipped == 0 then [] else skipped_line format file skipped ++ (0x0A ∷ [])

abbrev pub refused_data : List ℕ → Option ℕ → List ℕ → Data
refused_data file block reason =
    object (member (codes "block") (block_data block)
    (member (codes "file") (string file) (member (codes "refused") (string reason) no_members)))

-- the line that says why something isn't looked at
abbrev pub refused_line : Format → List ℕ → Option ℕ → List ℕ → List ℕ
refused_line Text file block reason = place_text file block ++ (codes "refused: " ++ reason)
refused_line Json file block reason = json_line (refused_data file block reason)

abbrev pub refused_text : Format → List ℕ → Option ℕ → List ℕ → List ℕ
refused_text format file block reason = refused_line format file block reason ++ (0x0A ∷ [])
