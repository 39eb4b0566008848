-- Which tags members of later versions don't have, since they are those of known members. A tag is a class and a
-- number: it is the same one on a primitive and on a constructed encoding (X.690, 8.1.2).
use Rattle.std.specs.Prelude.{ℕ, zero, suc, ◌+◌, ◌-◌, ◌/◌, Bool, true, false, ◌&&◌, ◌==◌, nat_le, List, [], ◌∷◌}
use Rattle.std.specs.Prelude.{map, if◌then◌else◌}
use Rattle.picky_der_core.specs.Tag.{is_constructed, number_of}

-- the byte of the same tag on an encoding of the other form
abbrev pub other_form : ℕ → ℕ
other_form b = if is_constructed b then b - 0x20 else b + 0x20

-- the bytes of these tags on encodings of both forms
abbrev pub in_both_forms : List ℕ → List ℕ
in_both_forms [] = []
in_both_forms (b ∷ bs) = b ∷ (other_form b ∷ in_both_forms bs)

-- ---- automatic tags: context tags whose numbers ascend from member to member (X.680, 25.7), where the extension marker
-- is at the end. After known members behind it, numbers of later ones would come before theirs.

-- the bytes of the context tags below this number
abbrev pub numbered_below : ℕ → List ℕ
numbered_below zero = []
numbered_below (suc n) = (0x80 + n) ∷ ((0xA0 + n) ∷ numbered_below n)

-- the byte of a context tag with this number or a greater one
abbrev pub is_numbered_from : ℕ → ℕ → Bool
is_numbered_from least b = (b / 64 == 2) && nat_le least (number_of b)

-- encodings that begin with context tags, of which the first has this number or a greater one, and each other a greater
-- number than the one before it
abbrev pub ascend_from : ℕ → List (List ℕ) → Bool
ascend_from least [] = true
ascend_from least ([] ∷ ss) = false
ascend_from least ((b ∷ bs) ∷ ss) = is_numbered_from least b && ascend_from (number_of b + 1) ss

-- those of elements
abbrev pub are_numbered_from : {E : Type 0} → ℕ → (E → List ℕ) → List E → Bool
are_numbered_from least bytes es = ascend_from least (map bytes es)
