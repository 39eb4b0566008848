-- What a result that `?` passes on holds.
use Rattle.std.proofs.Common.{◌≡◌, IfErr, IsErrAnd, Result, Ok, Err}
use Rattle.picky_der_core.specs.declared.error.Asn1DerError.{Asn1DerError}
use Rattle.picky_der_core.specs.Tree.{Tree}
use Rattle.picky_der_core.specs.Shape.{Shape}
use Rattle.picky_der_de.specs.State.{State}
use Rattle.picky_der_de.specs.RefusesBy.{Rule, unsaid, RefusesBy}
use Rattle.picky_der_de.specs.Reading.{Reads, Refuses}

-- the error that was passed on, and the state in which the last call left the deserializer
pub passed_on : {T : Type 0} {x y : State} {e : Asn1DerError} (P : State → Asn1DerError → Type 0)
    (r : Result T Asn1DerError) → IsErrAnd r (λ error. error ≡ e) → x ≡ y → P y e → IfErr r (P x)
passed_on P (Ok v) h same f = absurd h
passed_on P (Err error) h same f = rw (h, same) f

pub refusal_passed_on : {T V : Type 0} {meaning : V → Tree} {s : Shape} {a x y : State} {e : Asn1DerError}
    (r : Result T Asn1DerError) → IsErrAnd r (λ error. error ≡ e) → x ≡ y → Refuses meaning s a y e
    → IfErr r (Refuses meaning s a x)
refusal_passed_on {meaning = meaning} {s = s} {a = a} r h same f = passed_on (Refuses meaning s a) r h same f

pub reads_at : {s : Shape} {a x y : State} {t : Tree} → Reads s a y t → x ≡ y → Reads s a x t
reads_at h same = rw same h

pub refuses_at : {V : Type 0} {meaning : V → Tree} {s : Shape} {a x y : State} {e : Asn1DerError}
    → Refuses meaning s a y e → x ≡ y → Refuses meaning s a x e
refuses_at h same = rw same h

pub rule_passed_on : {T : Type 0} (rule : Rule) (a : State) {x y : State} {e : Asn1DerError}
    (r : Result T Asn1DerError) → IsErrAnd r (λ error. error ≡ e) → x ≡ y → RefusesBy rule a y e
    → IfErr r (RefusesBy rule a x)
rule_passed_on rule a r h same f = passed_on (RefusesBy rule a) r h same f

-- nothing is said
pub unsaid_refused : {T : Type 0} (a x : State) (r : Result T Asn1DerError) → IfErr r (RefusesBy unsaid a x)
unsaid_refused a x (Ok v) = tt
unsaid_refused a x (Err e) = λ j bs left k l. tt
