-- JSON on one line.
use Rattle.std.specs.Prelude.{ℕ, ◌/◌, ◌%◌, List, [], ◌∷◌, ◌++◌, if◌then◌else◌}
use Rattle.std.specs.Char.{encode_utf8}
use Rattle.std.specs.List.{flat_map}
use Rattle.std.specs.Str.{chars}
use Rattle.serde_json.specs.Data.{Data}
use Rattle.serde_json.specs.Written.{compact_text}
use Rattle.der_program_base.specs.Line.{is_disruptive, hexadecimal}

-- `\u` and the last four hexadecimal digits of a number (RFC 8259, 7)
abbrev pub json_code : ℕ → List ℕ
json_code code = 92 ∷ 117 ∷ hexadecimal (code / 256 % 256 ∷ code % 256 ∷ [])

-- A character that would not stay on the line is part of a string, and each such character is below 0x10000.
abbrev pub json_character : ℕ → List ℕ
json_character c = if is_disruptive c then json_code c else encode_utf8 c

abbrev pub on_one_line : List ℕ → List ℕ
on_one_line text = flat_map json_character (chars text)

abbrev pub json_line : Data → List ℕ
json_line value = on_one_line (compact_text value)
