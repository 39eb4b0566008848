-- A value of the shape that was read, and is none of the type's.
use Rattle.std.proofs.Common.{◌≡◌, ◌≢◌, sym, ◌∙◌, subst}
use Rattle.picky_der_core.specs.declared.error.Asn1DerError.{Asn1DerError}
use Rattle.picky_der_core.specs.declared.error.Asn1DerError.TheVariants.{TruncatedData, OutOfMemory}
use Rattle.picky_der_core.specs.Tree.{Tree}
use Rattle.picky_der_core.specs.Shape.{Shape, IsOf, IsSound}
use Rattle.picky_der_core.proofs.UniqueAt.{same_tree_at}
use Rattle.picky_der_de.specs.State.{State}
use Rattle.picky_der_de.specs.Steps.{Fails, place_of}
use Rattle.picky_der_core.specs.Failure.{IsAnswer}
use Rattle.picky_der_de.specs.Refusing.{FailsAs}
use Rattle.picky_der_de.specs.Reading.{Reads, Refuses, NoValue}
use Rattle.picky_der_de.proofs.Steps.{fails_after}
use Rattle.picky_der_de.proofs.Refusals.{tells_after}

-- It was read, and refused with an error that more bytes can't change. Where an allocation failed nothing is said.
pub other_unless_memory : {V : Type 0} {meaning : V → Tree} {s : Shape} {a b c : State} {t : Tree}
    {kind e : Asn1DerError} → IsSound s → Reads s a b t → FailsAs kind b e c → Fails b c e → kind ≢ TruncatedData
    → (kind ≢ OutOfMemory → (v : V) → IsOf s (meaning v) → meaning v ≢ t) → Refuses meaning s a c e
other_unless_memory {meaning = meaning} {s = s} {a = a} {b = b} {t = t} {kind = kind} {e = e} sound r is f final
    others =
    let same : e ≡ kind = subst (λ o. IsAnswer o kind e) r.consumes.not_failed is.0 in
    record {
      fails = fails_after r.consumes f;
      none = tells_after (NoValue meaning s a) r.consumes f (λ j end left rest nearer concerns v at_front.
          others (λ m. j.memory (same ∙ m)) v at_front.of_shape
          (sym (same_tree_at (place_of a) s sound t (meaning v) r.of_shape at_front.of_shape r.readable
          at_front.readable r.may_be_there at_front.may_be_there rest at_front.front.rest at_front.front.is)));
      first = λ j truncated. absurd (final (sym same ∙ truncated));
    }

pub other_value : {V : Type 0} {meaning : V → Tree} {s : Shape} {a b c : State} {t : Tree} {kind e : Asn1DerError}
    → IsSound s → Reads s a b t → FailsAs kind b e c → Fails b c e → kind ≢ TruncatedData
    → ((v : V) → IsOf s (meaning v) → meaning v ≢ t) → Refuses meaning s a c e
other_value sound r is f final others = other_unless_memory sound r is f final (λ m. others)
