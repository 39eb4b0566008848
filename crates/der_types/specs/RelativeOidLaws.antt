-- Each list of arcs has one content as a RELATIVE-OID, and each content is one of a list of arcs.
use Rattle.picky_der_core.specs.Element.{AreBytes}
use Rattle.std.proofs.Common.{◌≡◌, ℕ, Bool, true, false, List, [], ◌∷◌, ◌++◌, refl, sym, ap, ◌∙◌}
use Rattle.der_types.specs.Subidentifiers.{subidentifiers, numbers_after}
use Rattle.der_types.specs.SubidentifierLaws.{marked-zero, content-numbers, numbers-content, valid_subidentifiers}
use Rattle.der_types.specs.SubidentifierLaws.{subidentifier-some}
use Rattle.der_types.specs.RelativeOid.{is_relative_oid, relative_oid_content, are_relative_arcs}

-- what is made of arcs is a content
pub valid_relative : (arcs : List ℕ) → are_relative_arcs arcs ≡ true
    → is_relative_oid (relative_oid_content arcs) ≡ true
valid_relative [] e = cc
valid_relative (x ∷ arcs) e = subidentifier-some x (subidentifiers arcs) ∙ valid_subidentifiers (x ∷ arcs)

-- two lists of arcs with one content are one
pub same_relative : (a b : List ℕ) → relative_oid_content a ≡ relative_oid_content b → a ≡ b
same_relative a b e = sym (numbers-content a) ∙ ap (numbers_after 0) e ∙ numbers-content b

-- each content is one of its arcs
pub relative_arcs : (bs : List ℕ) → AreBytes bs → is_relative_oid bs ≡ true
    → relative_oid_content (numbers_after 0 bs) ≡ bs
relative_arcs [] p e = cc
relative_arcs (b ∷ bs) p e = content-numbers false 0 (b ∷ bs) refl p e ∙ ap (λ ds. ds ++ (b ∷ bs)) marked-zero
