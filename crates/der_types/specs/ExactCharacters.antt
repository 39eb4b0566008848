-- Characters: each text of one character is the encoding of that character.
use Rattle.std.proofs.Common.{◌≡◌, ℕ, List, [], ◌∷◌, length, refl, sym, ap, ◌∙◌, arith, append-nil, IsUtf8, chars}
use Rattle.std.proofs.Common.{encode_utf8, encode_utf8_all}
use Rattle.std.proofs.lemmas.Str.{encodes-chars}
use Rattle.picky_der_core.specs.Primitive.{Primitive}
use Rattle.picky_der_core.specs.Tree.{Tree}
use Rattle.picky_der_de.specs.InjectiveLaws.{character_has_shape}
use Rattle.der_types.specs.Notation.{Notation}
use Rattle.der_types.specs.Denotes.{Denotes}
use Rattle.der_types.specs.Exact.{IsExact, made_exact}

only_one : (cs : List ℕ) → length cs ≡ 1 → (c : ℕ) × (cs ≡ c ∷ [])
only_one [] e = absurd (omega (arith, e))
only_one (c ∷ []) e = (c, refl)
only_one (c ∷ d ∷ cs) e = absurd (omega (arith, e))

character_made : (s : List ℕ) → IsUtf8 s → length (chars s) ≡ 1 → (c : ℕ) × (encode_utf8 c ≡ s)
character_made s u l =
    let c = only_one (chars s) l in
    (c.0, sym (append-nil (encode_utf8 c.0)) ∙ (ap encode_utf8_all (sym c.1) ∙ encodes-chars s u))

pub character_exact : IsExact (Denotes Notation.character) (λ c. Tree.primitive (Primitive.text (encode_utf8 c)))
character_exact = made_exact (λ s. Tree.primitive (Primitive.text s)) (λ s. length (chars s) ≡ 1) encode_utf8
    (λ c r. (character_has_shape c r).1) (λ s l r short. character_made s r l)
