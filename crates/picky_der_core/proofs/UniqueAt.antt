-- One tree is at the front of a list, whole or directly under an implicit tag.
use Rattle.std.proofs.Common.{◌≡◌, ℕ, Bool, true, false, List, ◌++◌, sym, ap, ◌∙◌}
use Rattle.picky_der_core.specs.Tree.{Tree, is_plain}
use Rattle.picky_der_core.specs.Encoding.{der, implicit_content}
use Rattle.picky_der_core.specs.Readable.{IsReadable}
use Rattle.picky_der_core.specs.Shape.{Shape, IsOf, IsSound}
use Rattle.picky_der_core.specs.Reading.{Place, written_at, FillsTag, MayBeAt}
use Rattle.picky_der_core.specs.ElementLaws.{same_front}
use Rattle.picky_der_core.specs.EncodingLaws.{same_encoding, implicit_content-other}
use Rattle.picky_der_core.specs.ShapeLaws.{is_plain_shape, plain_by_shape}
use Rattle.picky_der_core.proofs.Unique.{known, same_tree}

-- trees that are both plain, or both not, have one inside if both are at the front of the same bytes
same_implicit_content : (plain : Bool) (ahead : ℕ) (t u : Tree) (a b : List ℕ) → is_plain t ≡ plain → is_plain u ≡ plain
    → IsReadable t → IsReadable u
    → FillsTag ahead t → FillsTag ahead u → implicit_content t ++ a ≡ implicit_content u ++ b
    → implicit_content t ≡ implicit_content u
same_implicit_content true ahead t u a b p q r v f g e =
    (same_front (implicit_content t) (implicit_content u) a b (f.filled p ∙ sym (g.filled q)) e).0
same_implicit_content false ahead t u a b p q r v f g e =
    let h : implicit_content t ≡ der t = implicit_content-other t p f.no_choice in
    let k : implicit_content u ≡ der u = implicit_content-other u q g.no_choice in
    let l : der t ++ a ≡ der u ++ b = sym (ap (λ c. c ++ a) h) ∙ e ∙ ap (λ c. c ++ b) k in
    h ∙ (same_encoding t u a b r v l).0 ∙ sym k

pub same_tree_at : (place : Place) (s : Shape) → IsSound s → (t u : Tree) → IsOf s t → IsOf s u → IsReadable t
    → IsReadable u
    → MayBeAt place t → MayBeAt place u → (a b : List ℕ) → written_at place t ++ a ≡ written_at place u ++ b → t ≡ u
unfolding implicit_content
same_tree_at Place.whole s sound t u p q r v f g a b e = (same_tree s sound t u p q r v a b e).0
same_tree_at (Place.under_implicit ahead) s sound t u p q r v f g a b e =
    let j = plain_by_shape s t p r f.no_choice in
    let k = plain_by_shape s u q v g.no_choice in
    known s sound false t u p q r v f.no_choice g.no_choice
    (same_implicit_content (is_plain_shape s) ahead t u a b j k r v f g e)
