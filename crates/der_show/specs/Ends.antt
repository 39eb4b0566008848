-- Where open elements end, the innermost first.
use Rattle.std.specs.Prelude.{ℕ, ◌+◌, List, [], ◌∷◌, ◌==◌, if◌then◌else◌}
use Rattle.picky_der_core.specs.Tag.{is_constructed}
use Rattle.der_show.specs.declared.header.Header.{Header}

-- the innermost end, or that of all bytes
abbrev pub innermost : ℕ → List ℕ → ℕ
innermost len [] = len
innermost len (end ∷ ends) = end

-- without the first ones, that are at this offset
abbrev pub without_reached : ℕ → List ℕ → List ℕ
without_reached offset [] = []
without_reached offset (end ∷ ends) = if end == offset then without_reached offset ends else end ∷ ends

-- ---- after an element with this header

-- the first element in it, or the one after it
abbrev pub next_offset : Header → ℕ → ℕ
next_offset h offset = if is_constructed h.tag then offset + h.header_len else offset + h.header_len + h.content_len

abbrev pub next_ends : Header → ℕ → List ℕ → List ℕ
next_ends h offset ends =
    if is_constructed h.tag then without_reached (offset + h.header_len) ((offset + h.header_len + h.content_len)
    ∷ ends)
    else without_reached (offset + h.header_len + h.content_len) ends
