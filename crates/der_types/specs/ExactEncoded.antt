-- Values that are kept with their encodings, and elements of several types: they are exactly those that the notation
-- denotes.
use Rattle.std.specs.Prelude.{◌≡◌, ℕ, ◌^◌, ◌<◌, Bool, List, length, refl}
use Rattle.std.proofs.Common.{sym, ap, ◌∙◌, subst}
use Rattle.std.proofs.Math.Logic.{∥∥₁_elim}
use Rattle.picky_der_core.specs.Encoding.{der}
use Rattle.picky_der_core.specs.Readable.{IsReadable}
use Rattle.picky_der_core.specs.Shape.{Shape}
use Rattle.picky_der_core.specs.Tree.{Tree}
use Rattle.picky_der_de.specs.Facts.{Facts, Proved, is_lawful}
use Rattle.picky_der_de.specs.Whole.{IsEncodingOf}
use Rattle.der_types.specs.Denotes.{Denotes, DenoteOneOf, IsEncodedAs}
use Rattle.der_types.specs.EncodedLaws.{bytes-set, readable-prop, short_encoding}
use Rattle.der_types.specs.Exact.{IsExact, Values, ProvedValues, is_exact, made_exact}
use Rattle.der_types.specs.ExactChoices.{ChoiceValues, ProvedChoice, is_exact_choice}
use Rattle.der_types.specs.Notation.{Notation, Alternatives}

raw_bytes : (s t : List ℕ) → Tree.raw s ≡ Tree.raw t → s ≡ t
raw_bytes s t e = cc

module _ {A V : Type 0} (a : Values A) (n : Notation) (means : A → Tree) {s : Shape} (facts : Facts A s) (eq : A → A
    → Bool) (value : V → A) (bytes : V → List ℕ) (kept : (v : V) → ∥ IsEncodingOf means s (bytes v) (value v) ∥₁)
    (whole : (b : List ℕ) (x : A) → length b < 2 ^ 63 → IsEncodingOf means s b x → (v : V) × (bytes v ≡ b)) where
  -- a value with its encoding
  abbrev pub encoded_values : Values V
  encoded_values = record {
    notation = Notation.encoded n;
    meaning = λ v. Tree.raw (bytes v);
    Premise = ProvedValues a n means × Proved facts means eq;
    follows = λ o. made_exact Tree.raw (IsEncodedAs (Denotes n)) bytes
        (λ v r.
        let readable = ∥∥₁_elim (kept v) (readable-prop (means (value v))) (λ e. e.readable) in
        let encoding = ∥∥₁_elim (kept v) (bytes-set (bytes v) (der (means (value v)))) (λ e. e.encoding) in
        (means (value v), encoding, readable, (is_exact a o.0).sound (value v) readable))
        (λ b d r h.
        let short = short_encoding d.0 d.2 (subst (λ (c : List ℕ). length c < 2 ^ 63) d.1 h) in
        let x = (is_exact a o.0).complete d.0 d.3 d.2 short in
        let readable = subst IsReadable (sym x.1) d.2 in
        whole b x.0 h (record {
          of_shape = (is_lawful facts o.1).has_shape x.0 readable;
          readable = readable;
          encoding = d.1 ∙ ap der (sym x.1);
        }));
  }

-- an element of one of several types, each of which is the part of a value
module _ {V R : Type 0} (b : ChoiceValues R) (ts : Alternatives) (chosen : R → Tree) (bytes : V → List ℕ) (parts : V
    → R) (whole : (r : R) → (v : V) × (parts v ≡ r)) (same : (v : V) → Tree.raw (bytes v) ≡ chosen (parts v)) where
  pub element_exact : IsExact (DenoteOneOf ts) chosen
      → IsExact (Denotes (Notation.element-of ts)) (λ v. Tree.raw (bytes v))
  element_exact is =
      made_exact Tree.raw (λ s. DenoteOneOf ts (Tree.raw s)) bytes
      (λ v r. subst (DenoteOneOf ts) (sym (same v)) (is.sound (parts v) (subst IsReadable (same v) r)))
      (λ s d r h.
      let x = is.complete (Tree.raw s) d r h in
      let v = whole x.0 in
      (v.0, raw_bytes (bytes v.0) s (same v.0 ∙ (ap chosen v.1 ∙ x.1))))

  abbrev pub element_values : Values V
  element_values = record {
    notation = Notation.element-of ts;
    meaning = λ v. Tree.raw (bytes v);
    Premise = ProvedChoice b ts chosen;
    follows = λ o. element_exact (is_exact_choice b o);
  }
