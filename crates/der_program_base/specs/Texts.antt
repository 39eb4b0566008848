-- Texts and bytes of messages, as they are written on a line.
use Rattle.std.specs.Prelude.{ℕ, List, [], ◌∷◌, ◌++◌, if◌then◌else◌}
use Rattle.std.specs.Str.{is_utf8}
use Rattle.der_program_base.specs.Line.{escaped, hexadecimal, is_special_in_names, is_special_in_quotes}

-- `#` and the digits
abbrev pub marked_bytes : List ℕ → List ℕ
marked_bytes bytes = 35 ∷ hexadecimal bytes

-- as a text if the bytes are UTF-8
abbrev pub text_or_bytes : List ℕ → List ℕ
text_or_bytes bytes = if is_utf8 bytes then escaped is_special_in_names bytes else marked_bytes bytes

-- a text between single quotes
abbrev pub quoted : List ℕ → List ℕ
quoted text = 39 ∷ (escaped is_special_in_quotes text ++ (39 ∷ []))
