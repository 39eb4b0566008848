-- A number that was read or refused, by what numbers of its type mean.
use Rattle.std.proofs.Common.{ℕ, sym, subst, Result, Ok, Err, IfErr}
use Rattle.picky_der_core.specs.Primitive.{Primitive, PrimitiveShape}
use Rattle.picky_der_core.specs.declared.error.Asn1DerError.{Asn1DerError}
use Rattle.picky_der_core.specs.Tree.{Tree}
use Rattle.picky_der_core.specs.Shape.{Shape}
use Rattle.picky_der_core.specs.Integer.{unsigned_tree}
use Rattle.picky_der_core.specs.Reading.{IsAtFront}
use Rattle.picky_der_core.specs.UnsignedTreeLaws.{unsigned_tree-within, unsigned_tree-of}
use Rattle.picky_der_de.specs.State.{State}
use Rattle.picky_der_de.specs.Steps.{place_of}
use Rattle.picky_der_de.specs.Reading.{Reads, Refuses, RefusesPrimitive}

module _ {most : ℕ} {a b : State} where
  pub reads_within : {n : ℕ}
      → Reads (Shape.primitive (PrimitiveShape.unsigned most)) a b (Tree.primitive (Primitive.unsigned n))
      → Reads (Shape.primitive (PrimitiveShape.unsigned most)) a b (unsigned_tree most n)
  reads_within {n} h =
      subst (Reads (Shape.primitive (PrimitiveShape.unsigned most)) a b)
      (sym (unsigned_tree-within most n h.of_shape.0)) h

  pub refuses_within : {e : Asn1DerError}
      → Refuses (λ n. Tree.primitive (Primitive.unsigned n)) (Shape.primitive (PrimitiveShape.unsigned most)) a b e
      → Refuses (unsigned_tree most) (Shape.primitive (PrimitiveShape.unsigned most)) a b e
  refuses_within h = record {
    fails = h.fails;
    none = λ j end bs k n st. h.none j end bs k n
        (subst (IsAtFront (place_of a) (Shape.primitive (PrimitiveShape.unsigned most)) bs end)
        (unsigned_tree-of most n st.of_shape) st);
    first = h.first;
  }

pub refused_within : {T : Type 0} (most : ℕ) (a b : State) (r : Result T Asn1DerError)
    → IfErr r (RefusesPrimitive Primitive.unsigned (PrimitiveShape.unsigned most) a b)
    → IfErr r (Refuses (unsigned_tree most) (Shape.primitive (PrimitiveShape.unsigned most)) a b)
refused_within most a b (Ok v) h = tt
refused_within most a b (Err e) h = refuses_within h.refuses

-- all that a number asks for
pub ruleset number = (reads_within, refused_within)
