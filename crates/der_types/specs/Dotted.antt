-- Arcs in decimal, with points between them.
use Rattle.std.specs.Prelude.{◌≡◌, ◌≢◌, ℕ, ◌^◌, ◌<◌, ◌==◌, Bool, false, not, ◌&&◌, nat_lt, List, [], ◌∷◌, length}
use Rattle.std.specs.Prelude.{slice_index_or, map, Result, Ok, Err, codes, if◌then◌else◌}
use Rattle.std.specs.Char.{is_ascii_digit}
use Rattle.std.specs.List.{join_with_byte, slice_split, list_all, AllByRecursion}
use Rattle.std.specs.Fmt.{decimal}
use Rattle.der_types.specs.declared.oid_error.OidError.{OidError}
use Rattle.der_types.specs.declared.oid_error.OidError.TheVariants.{NotANumber, ArcTooLarge}

-- ---- written

-- 46 is the point
abbrev pub dotted : List ℕ → List ℕ
dotted arcs = join_with_byte 46 (map decimal arcs)

-- an arc, if it fits 64 bits
abbrev pub fitted : ℕ → Result ℕ OidError
fitted arc = if nat_lt arc (2 ^ 64) then Ok arc else Err ArcTooLarge

-- one that doesn't fit is marked
abbrev pub arc_text : Result ℕ OidError → List ℕ
arc_text (Ok arc) = decimal arc
arc_text (Err e) = codes "(above 64 bits)"

abbrev pub dotted_or_marked : List (Result ℕ OidError) → List ℕ
dotted_or_marked arcs = join_with_byte 46 (map arc_text arcs)

-- ---- read

abbrev pub AreFitting : List ℕ → Type 0
AreFitting arcs = AllByRecursion (λ arc. arc < 2 ^ 64) arcs

-- digits, with no leading 0
abbrev pub is_decimal : List ℕ → Bool
is_decimal [] = false
is_decimal (c ∷ []) = is_ascii_digit c
is_decimal (c ∷ d ∷ cs) = not (c == 48) && list_all is_ascii_digit (c ∷ d ∷ cs)

-- no arc that fits is written so
abbrev pub IsNoArc : List ℕ → Type 0
IsNoArc text = (arc : ℕ) → arc < 2 ^ 64 → text ≢ decimal arc

-- which error this is: of digits, that their number is too large
abbrev pub part_error : List ℕ → OidError
part_error text = if is_decimal text then ArcTooLarge else NotANumber

-- the parts between the points
abbrev pub parts_of : List ℕ → List (List ℕ)
parts_of text = slice_split (λ b. b == 46) text

-- no arcs that fit are written so, which a part shows
pub record RefusesText (text : List ℕ) (e : OidError) : Type 0 where
  pub none : (arc : ℕ) (arcs : List ℕ) → AreFitting (arc ∷ arcs) → text ≢ dotted (arc ∷ arcs)
  pub place : ℕ
  pub part : List ℕ
  pub within : place < length (parts_of text)
  pub is_part : part ≡ slice_index_or (parts_of text) place part
  pub no_arc : IsNoArc part
  pub error : e ≡ part_error part
