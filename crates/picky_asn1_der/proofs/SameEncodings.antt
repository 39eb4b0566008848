-- Readable values are equal exactly if their encodings are.
use Rattle.std.proofs.Common.{◌≡◌, [], Bool, true, sym, ap, ◌∙◌, append-nil}
use Rattle.std.specs.Prelude.{◌↔◌}
use Rattle.picky_der_core.proofs.Unique.{same_tree}
use Rattle.picky_der_core.specs.Encoding.{der}
use Rattle.picky_der_core.specs.Readable.{IsReadable}
use Rattle.picky_der_core.specs.Shape.{Shape}
use Rattle.picky_der_core.specs.Tree.{Tree}
use Rattle.picky_der_de.specs.Facts.{Facts, Proved, is_lawful}

module _ {V : Type 0} {meaning : V → Tree} {eq : V → V → Bool} {s : Shape} (known : Facts V s)
    (proved : Proved known meaning eq) where
  pub equal_encodings : ((x y : V) → eq x y ≡ true → meaning x ≡ meaning y) → (x y : V) → IsReadable (meaning x)
      → IsReadable (meaning y)
      → (eq x y ≡ true) ↔ (der (meaning x) ≡ der (meaning y))
  equal_encodings respects x y r q = (
    λ h. ap der (respects x y h),
    λ e.
        let is = is_lawful known proved in
        let p = is.has_shape x r in
        let o = is.has_shape y q in
        let ends = append-nil (der (meaning x)) ∙ e ∙ sym (append-nil (der (meaning y))) in
        is.injective x y p o r (same_tree s is.sound (meaning x) (meaning y) p o r q [] [] ends).0,
  )
