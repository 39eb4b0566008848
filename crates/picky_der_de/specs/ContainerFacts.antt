-- The facts of values that hold others of one type, made of that type's facts: options, lists, arrays and wrappers.
use Rattle.std.specs.Prelude.{ℕ, List, Bool, Option, map, refl}
use Rattle.std.specs.Option.{option_eq}
use lib.Pointwise.{pointwise}
use Rattle.picky_der_core.specs.Tree.{ListKind, Tree, trees}
use Rattle.picky_der_core.specs.Shape.{Shape}
use Rattle.picky_der_ser.specs.Meaning.{option_meaning, array_meaning}
use Rattle.picky_der_core.specs.declared.asn1.wrapper.Wrapper.{Wrapper}
use Rattle.picky_der_de.specs.Firsts.{option_begun}
use Rattle.picky_der_de.specs.InjectiveLaws.{option_injective, option_has_shape, list_injective, items_of_shape}
use Rattle.picky_der_de.specs.WrappedLaws.{wrapped_injective, wrapped_has_shape}
use Rattle.picky_der_de.specs.ArrayLaws.{array_of, array_sound, array_has_shape, array_injective}
use Rattle.picky_der_de.specs.RefusesBy.{unsaid}
use Rattle.picky_der_de.specs.Rules.{list_of_rule, wrapped_rule}
use Rattle.picky_der_de.specs.Facts.{Facts, facts_by}

module _ {A : Type 0} {s : Shape} (a : Facts A s) (means : A → Tree) (equal : A → A → Bool) where
  abbrev pub option_facts : Facts (Option A) (Shape.optional s)
  option_facts = facts_by a means equal a.rule (option_meaning means) (option_eq equal) (λ is. record {
    has_shape = option_has_shape means s is.has_shape;
    injective = option_injective means s equal is.injective;
    sound = is.sound;
    begun = option_begun means s is.begun;
  })

  abbrev pub list_facts : {V : Type 0} (k : ListKind) (items : V → List A) → Facts V (Shape.list_of k s)
  list_facts k items =
      facts_by a means equal (list_of_rule means s k a.rule) (λ v. Tree.list k (trees (map means (items v))))
      (λ x y. pointwise equal (items x) (items y)) (λ is. record {
        has_shape = λ v r. (refl, items_of_shape means s is.has_shape (items v) r.1);
        injective = λ x y p q r e. list_injective means s equal is.injective (items x) (items y) p.1 q.1 r.1 e;
        sound = is.sound;
        begun = λ v b h. h;
      })

  abbrev pub array_facts : {V : Type 0} (n : ℕ) (items : V → List A) → Facts V (array_of n s)
  array_facts n items =
      facts_by a means equal unsaid (λ v. array_meaning n means (items v)) (λ x y. pointwise equal (items x) (items y))
      (λ is. record {
        has_shape = λ v. array_has_shape means s n is.has_shape (items v);
        injective = λ x y. array_injective means s n equal is.injective (items x) (items y);
        sound = array_sound n s is.sound;
        begun = λ v b h. h;
      })

  abbrev pub wrapped_facts : {V : Type 0} (w : Wrapper) (part : V → A) → Facts V (Shape.wrapped w s)
  wrapped_facts w part = facts_by a means equal (wrapped_rule means s w a.rule) (λ v. Tree.wrapped w (means (part v)))
      (λ x y. equal (part x) (part y))
      (λ is. record {
        has_shape = λ v r. wrapped_has_shape w (λ x. means (part x)) s (λ x. is.has_shape (part x)) v r;
        injective = λ x y. wrapped_injective w means s equal is.injective (part x) (part y);
        sound = is.sound;
        begun = λ v b h. h;
      })
