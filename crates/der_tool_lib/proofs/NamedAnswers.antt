-- What the reads of the types that lines name imply for the answers.
use Rattle.std.proofs.Common.{◌≡◌, ◌≢◌, ℕ, ◌+◌, ◌-◌, ◌^◌, ◌<◌, ◌≤◌, false, List, [], ◌++◌, length, take, drop, codes}
use Rattle.std.proofs.Common.{decimal, Option, Some, None, refl, sym, ◌∙◌, ap, subst, arith, append-nil}
use Rattle.std.proofs.lemmas.Grind.{common_steps}
use Rattle.std.specs.Io.KnownBytes.{Consumes}
use Rattle.hex.specs.Hex.{encode_lower}
use Rattle.picky_der_core.specs.declared.error.Asn1DerError.{Asn1DerError}
use Rattle.picky_der_core.specs.declared.error.Asn1DerError.TheVariants as error
use Rattle.picky_der_core.specs.Element.{IsPrefix}
use Rattle.picky_der_core.specs.Tree.{Tree}
use Rattle.picky_der_core.specs.Encoding.{der}
use Rattle.picky_der_core.specs.Readable.{IsWritable}
use Rattle.picky_der_core.specs.ReadableLaws.{readable-writable}
use Rattle.picky_der_core.specs.Reading.{Place, IsAtFront}
use Rattle.picky_der_core.specs.Refusal.{plain_refusal, element_refusal, error_of}
use Rattle.picky_der_de.specs.State.{State, fresh}
use Rattle.picky_der_de.specs.Steps.{IsJudged, IsOther, fetched_count}
use Rattle.picky_der_de.specs.Reading.{Refuses, now, ever}
use Rattle.der_tool_lib.specs.declared.value.ValueType.{ValueType}
use Rattle.der_tool_lib.specs.Words.{word_of}
use Rattle.der_tool_lib.specs.Value.{RefusalRule, plain, element, mendable, Description, description_of, IsFirstValue}
use Rattle.der_tool_lib.specs.Value.{BeginsValue, IsErrorBy, AnswersRead, read, refused}
use Rattle.der_tool_lib.specs.Reads.{RefusesAs, ReadsNamed, RefusesNamed}

-- ---- values

known_front : (left : Option (List ℕ)) (bytes front : List ℕ) → Consumes (Some bytes) left front → IsPrefix front bytes
known_front None bytes front c = absurd c
known_front (Some rest) bytes front c = record { rest = rest; is = c }

pub answers_read : {type : ValueType} {old new : State} {bytes answer digits : List ℕ} {consumed : ℕ} {t : Tree}
    (v : (description_of type).Value) → old ≡ fresh (Some bytes) (length bytes) [] [] → ReadsNamed type old new v
    → (description_of type).meaning v ≡ t
    → consumed ≡ new.consumed → digits ≡ encode_lower (der t)
    → answer ≡ codes "ok " ++ (decimal consumed ++ (codes " " ++ digits)) → AnswersRead type bytes answer
answers_read {type} {old} {new} {bytes} {answer} {digits} {consumed} {t} v is r same n d a =
    let u = (description_of type).meaning v in
    let h = subst (λ o. ReadsNamed type o new v) is r in
    let front = known_front new.input bytes (der u) h.consumes.input in
    let at_front : IsAtFront Place.whole (description_of type).shape bytes (length bytes) u =
    record {
      of_shape = h.of_shape;
      readable = h.readable;
      may_be_there = tt;
      within =
          omega (arith, h.consumes.until_end);
      front = front;
    } in
    let size : consumed ≡ length (der u) = n ∙ omega (arith, h.consumes.consumed) in
    let text : digits ≡ encode_lower (der u) = d ∙ ap (λ x. encode_lower (der x)) (sym same) in
    read v at_front (a ∙ ap (λ m. codes "ok " ++ (decimal m ++ (codes " " ++ digits))) size
    ∙ ap (λ x. codes "ok " ++ (decimal (length (der u)) ++ (codes " " ++ x))) text)

-- what was read can be written
pub writable_read : (type : ValueType) {old new : State} {bytes : List ℕ} {consumed : ℕ} {t : Tree}
    (v : (description_of type).Value) → old ≡ fresh (Some bytes) (length bytes) [] [] → ReadsNamed type old new v
    → (description_of type).meaning v ≡ t
    → consumed ≡ new.consumed → consumed < 2 ^ 64 → IsWritable t
writable_read type {new = new} v is r same n small =
    let h = subst (λ o. ReadsNamed type o new v) is r in
    subst IsWritable same (readable-writable ((description_of type).meaning v) h.readable
    (omega (arith, h.consumes.consumed, n, small)))

-- ---- refusals

-- an error that can't be another is `TruncatedData`
truncated_or_not : (e : Asn1DerError) → (e ≢ error.TruncatedData → ⊥) → e ≡ error.TruncatedData
truncated_or_not error.TruncatedData h = refl
truncated_or_not error.InvalidData h = absurd (h (λ q. cc))
truncated_or_not error.UnsupportedValue h = absurd (h (λ q. cc))
truncated_or_not error.UnsupportedType h = absurd (h (λ q. cc))
truncated_or_not error.InvalidSink h = absurd (h (λ q. cc))
truncated_or_not (error.Message text) h = absurd (h (λ q. cc))
truncated_or_not (error.Other kind) h = absurd (h (λ q. cc))
truncated_or_not error.OutOfMemory h = absurd (h (λ q. cc))

abbrev start_state : List ℕ → State
start_state bytes = fresh (Some bytes) (length bytes) [] []

module _ (d : Description) (bytes : List ℕ) {new : State} {e : Asn1DerError}
    (judged : IsJudged (start_state bytes) new e) where
  -- a final refusal came of bytes that begin the encoding of no value
  is_truncated : Refuses d.meaning d.shape (start_state bytes) new e → BeginsValue d bytes → e ≡ error.TruncatedData
  is_truncated h b = truncated_or_not e (λ final.
      let whole = der (d.meaning b.value) in
      let rest = b.begins.rest in
      let n = fetched_count new in
      let there : n ≤ length bytes = omega (arith, h.fails.there refl) in
      let cut : bytes ≡ take n bytes ++ drop n bytes = grind (arith, common_steps) in
      let size : length (take n bytes) + 0 ≡ n = grind (arith, common_steps) in
      let is : whole ≡ take n bytes ++ (drop n bytes ++ rest) = grind (arith, common_steps, b.begins.is) in
      let at_front : IsAtFront Place.whole d.shape whole (2 ^ 64 - 1) (d.meaning b.value) =
      record {
        of_shape = b.of_shape;
        readable = b.readable;
        may_be_there = tt;
        within =
            omega (arith, b.writable.fits);
        front = record { rest = []; is = sym (append-nil whole) };
      } in
      h.none judged (2 ^ 64 - 1) whole (ever final refl (take n bytes) (drop n bytes ++ rest) (drop n bytes)
      (ap Some cut) size is) b.value at_front)

  refused_as : (rule : RefusalRule) → RefusesAs d.meaning d.shape rule (start_state bytes) new e
      → ((v : d.Value) → IsFirstValue d bytes v → ⊥) × IsErrorBy d bytes rule e
  refused_as (plain tag judge) h =
      let all : take (length bytes) bytes ≡ bytes = grind (arith, common_steps) in (
        h.refuses.none judged (length bytes) bytes (now refl refl),
        ap (λ x. error_of (plain_refusal tag judge false (length bytes) x)) (sym all)
            ∙ ap error_of (h.just judged bytes refl).refused,
      )
  refused_as element h =
      let all : take (length bytes) bytes ≡ bytes = grind (arith, common_steps) in (
        h.0.none judged (length bytes) bytes (now refl refl),
        ap (λ x. error_of (element_refusal false (length bytes) x)) (sym all)
            ∙ ap error_of (h.1 judged bytes refl).refused,
      )
  refused_as mendable h =
      let no_other : IsOther e → ⊥ = h.fails.other refl judged.faults in
      (h.none judged (length bytes) bytes (now refl refl), ((no_other, judged.memory), is_truncated h))

pub answers_refused : {type : ValueType} {old : State} (new : State) {bytes answer : List ℕ} {e : Asn1DerError}
    → old ≡ start_state bytes → new.faults ≡ [] → e ≢ error.OutOfMemory → RefusesNamed type old new e
    → answer ≡ codes "refused " ++ word_of e → AnswersRead type bytes answer
answers_refused {type} {old} new {bytes} {answer} {e} is none memory r a =
    let judged : IsJudged (start_state bytes) new e =
    record { had_not_failed = refl; faults = none; memory = memory } in
    let told = refused_as (description_of type) bytes judged (description_of type).rule
    (subst (λ o. RefusesNamed type o new e) is r) in
    refused e told.0 told.1 a
