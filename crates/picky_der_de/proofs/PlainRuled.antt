-- Plain values and elements are refused by their rules.
use Rattle.std.proofs.Common.{◌≡◌, ℕ, List, take, Option, Some, None, refl, sym, ◌∙◌}
use Rattle.picky_der_core.specs.declared.error.Asn1DerError.{Asn1DerError}
use Rattle.picky_der_core.specs.Refusal.{Refusal, Judge, element_refusal}
use Rattle.picky_der_core.specs.Tree.{Tree}
use Rattle.picky_der_core.specs.Shape.{Shape}
use Rattle.picky_der_de.specs.State.{State}
use Rattle.picky_der_de.specs.Reading.{Refuses, RefusesPlain, refusal_in, refusal_at, AreJustRefused}
use Rattle.picky_der_de.specs.Elements.{raw_refusal, RefusesRaw}
use Rattle.picky_der_de.specs.RefusesBy.{Spot, spot_of, RefusesBy}
use Rattle.picky_der_de.specs.PlainRules.{by_bytes, plain_refusal_in, plain_rule}

-- one input is known
pub same_left : (i : Option (List ℕ)) {x y : List ℕ} → i ≡ Some x → i ≡ Some y → x ≡ y
same_left i {x} {y} p q = let h : Some x ≡ Some y = sym p ∙ q in cc

-- by the bytes before the end
pub bytes_by : (p : List ℕ → Option Refusal) (q : Spot → List ℕ → Option Refusal) {a c : State} {e : Asn1DerError}
    → ((rest : List ℕ) → p rest ≡ q (spot_of a) rest) → AreJustRefused p a c e → RefusesBy (by_bytes q) a c e
bytes_by p q {a} {c} same just j bs left k l =
    let h = just j bs k in
    record { within = h.left; is = sym (same (take a.until_end bs)) ∙ h.refused; left_is = same_left c.input l h.input }

same_plain : (d : Option ℕ) (tag : ℕ) (judge : Judge) (s : State) (rest : List ℕ)
    → refusal_in d tag judge s rest ≡ plain_refusal_in d tag judge (spot_of s) rest
same_plain None tag judge s rest = refl
same_plain (Some number) tag judge s rest = refl

pub plain_by : (tag : ℕ) (judge : Judge) {a c : State} {e : Asn1DerError}
    → AreJustRefused (refusal_at tag judge a) a c e
    → RefusesBy (plain_rule tag judge) a c e
plain_by tag judge {a} just =
    bytes_by (refusal_at tag judge a) (λ at rest. plain_refusal_in at.implicit_tag tag judge at rest)
    (λ rest. same_plain a.implicit_tag tag judge a rest) just

pub plain_refuses : {V : Type 0} {meaning : V → Tree} {tag : ℕ} {judge : Judge} {s : Shape} {a c : State}
    {e : Asn1DerError} → Refuses meaning s a c e → AreJustRefused (refusal_at tag judge a) a c e
    → RefusesPlain meaning tag judge s a c e
plain_refuses {tag = tag} {judge = judge} h just = record { refuses = h; just = just; by = plain_by tag judge just }

-- an element, which keeps its header directly under an implicit tag
pub raw_refuses : {a c : State} {e : Asn1DerError} → Refuses Tree.raw Shape.raw a c e
    → AreJustRefused (raw_refusal a) a c e → RefusesRaw a c e
raw_refuses {a} h just = record {
  refuses = h;
  just = just;
  by = bytes_by (raw_refusal a) (λ at rest. element_refusal at.hard at.ahead rest) (λ rest. refl) just;
}
