-- The content of a list, under its own tag and under another.
use Rattle.std.proofs.Common.{◌≡◌, ℕ, true, false, refl, ap, ◌∙◌}
use Rattle.picky_der_core.specs.declared.asn1.wrapper.Wrapper.TheVariants.{ImplicitList}
use Rattle.picky_der_core.specs.Element.{tlv}
use Rattle.picky_der_core.specs.Tree.{Tree, is_plain, is_absent, IsListTree}
use Rattle.picky_der_core.specs.Encoding.{der, content, plain_tag}
use Rattle.picky_der_core.specs.EncodingLaws.{der-plain, der-wrapped_present, implicit_content-plain}

plain_list : (t : Tree) → IsListTree t → is_plain t ≡ true
plain_list (Tree.list kind ts) h = refl
plain_list _ h = absurd h

present_list : (t : Tree) → IsListTree t → is_absent t ≡ false
present_list (Tree.list kind ts) h = refl
present_list _ h = absurd h

pub der-list_tree : (t : Tree) → IsListTree t → der t ≡ tlv (plain_tag t) (content t)
der-list_tree t h = der-plain t (plain_list t h)

pub der-implicit_list : (tag : ℕ) (t : Tree) → IsListTree t
    → der (Tree.wrapped (ImplicitList tag) t) ≡ tlv tag (content t)
der-implicit_list tag t h = der-wrapped_present (ImplicitList tag) t (present_list t h)
    ∙ ap (tlv tag) (implicit_content-plain t (plain_list t h))
