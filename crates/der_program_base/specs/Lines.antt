-- The lines of a text, and what each one is to PEM (RFC 7468, 2 and 3).
use Rattle.std.specs.Prelude.{◌≡◌, ℕ, ◌-◌, Bool, ◌||◌, not, ◌==◌, List, [], ◌∷◌, ◌++◌, length, take, drop, map, codes}
use Rattle.std.specs.Prelude.{⊤}
use Rattle.std.specs.Borrow.{Bor}
use Rattle.std.specs.Char.{is_ascii_whitespace}
use Rattle.std.specs.List.{slice_split, prefix_len, suffix_len, list_any}

-- the bytes that end a line
abbrev pub ends_line : ℕ → Bool
ends_line byte = byte == 0x0A || byte == 0x0D

-- what is before the first such byte, between two of them, and after the last one
abbrev pub lines_of : List ℕ → List (List ℕ)
lines_of input = slice_split ends_line input

-- the bytes of lines
abbrev pub texts : List (Bor (List ℕ)) → List (List ℕ)
texts lines = map (λ line. line.now) lines

-- some byte is no white space
abbrev pub is_filled : List ℕ → Bool
is_filled line = list_any (λ byte. not (is_ascii_whitespace byte)) line

abbrev without_front : List ℕ → List ℕ
without_front line = drop (prefix_len is_ascii_whitespace line) line

-- a line without the white space at its ends
unfoldable pub trimmed : List ℕ → List ℕ
trimmed line = let rest = without_front line in take (length rest - suffix_len is_ascii_whitespace rest) rest

-- ---- lines that begin and end blocks

abbrev pub begin_front : List ℕ
begin_front = codes "-----BEGIN "

abbrev pub end_front : List ℕ
end_front = codes "-----END "

abbrev pub dashes : List ℕ
dashes = codes "-----"

-- the line begins a block with this label
pub record IsBegin (line label : List ℕ) : Type 0 where
  pub is : trimmed line ≡ begin_front ++ (label ++ dashes)

-- the line ends a block with this label
pub record IsEnd (line label : List ℕ) : Type 0 where
  pub is : trimmed line ≡ end_front ++ (label ++ dashes)

-- the line does neither
pub record IsOther (line : List ℕ) : Type 0 where
  pub begins_none : (label : List ℕ) → IsBegin line label → ⊥
  pub ends_none : (label : List ℕ) → IsEnd line label → ⊥

abbrev pub AreOther : List (List ℕ) → Type 0
AreOther [] = ⊤
AreOther (line ∷ lines) = IsOther line × AreOther lines
