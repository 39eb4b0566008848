-- The front of a line.
use Rattle.std.specs.Prelude.{ℕ, ◌-◌, ◌*◌, min, List, ◌++◌, length, codes, replicate, if◌then◌else◌}
use Rattle.std.specs.Fmt.{decimal}
use Rattle.picky_der_core.specs.Tag.{is_constructed}
use Rattle.der_show.specs.declared.element.Element.{Element}

abbrev pub spaces : ℕ → List ℕ
spaces n = replicate n 0x20

-- a number in decimal at the right end of a column of this width
abbrev pub at_right : ℕ → ℕ → List ℕ
at_right width n = spaces (width - length (decimal n)) ++ decimal n

-- a number in decimal at its left end
abbrev pub at_left : ℕ → ℕ → List ℕ
at_left width n = decimal n ++ spaces (width - length (decimal n))

-- the offset, the depth, and the lengths of the header and of the content
abbrev pub columns_text : Element → List ℕ
columns_text e = at_right 6 e.offset ++ codes " d=" ++ at_left 2 e.depth ++ codes " hl=" ++ at_left 2 e.header_len
    ++ codes " l=" ++ at_left 6 e.content_len

-- the form of the encoding
abbrev pub form_text : ℕ → List ℕ
form_text tag = if is_constructed tag then codes " cons " else codes " prim "

-- what is before the type of an element; its last spaces are two for each element around it, up to 64
abbrev pub front_text : Element → List ℕ
front_text e = columns_text e ++ form_text e.tag ++ spaces (2 * min e.depth 64)

-- what is before the rule that the bytes at an offset break
abbrev pub complaint_front : ℕ → List ℕ
complaint_front offset = at_right 6 offset ++ codes " not DER: "
