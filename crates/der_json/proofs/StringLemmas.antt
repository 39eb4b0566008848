-- The characters of contents.
use Rattle.std.proofs.Common.{◌≡◌, ℕ, ◌%◌, Bool, true, List, length, subst, eqb-true}
use Rattle.der_types.specs.CharacterStringLaws.{whole-content}
use Rattle.der_types.specs.CharacterStrings.{byte_count, is_string_content}
use Rattle.der_types.specs.declared.width.Width.{Width}
use Rattle.der_json.specs.Contents.{IsWhole}

pub whole_of : (width : Width) (is_character : ℕ → Bool) (s t : List ℕ) → s ≡ t
    → is_string_content width is_character s ≡ true → IsWhole width t
whole_of width p s t e h =
    subst (λ (l : List ℕ). IsWhole width l) e (eqb-true (length s % byte_count width) 0 (whole-content width p s h))
