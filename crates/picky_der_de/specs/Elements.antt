-- Elements that are consumed whole, whatever their tag.
use Rattle.std.specs.Prelude.{◌≡◌, ℕ, ◌^◌, ◌<◌, ◌≤◌, List, ◌∷◌, Option, None}
use Rattle.picky_der_core.specs.declared.error.Asn1DerError.{Asn1DerError}
use Rattle.picky_der_core.specs.Tag.{number_of, IsTagNumber}
use Rattle.picky_der_core.specs.Element.{length_octets}
use Rattle.picky_der_core.specs.Tree.{Tree}
use Rattle.picky_der_core.specs.Shape.{Shape}
use Rattle.picky_der_core.specs.Refusal.{Refusal, element_refusal}
use Rattle.picky_der_de.specs.State.{State}
use Rattle.picky_der_de.specs.Steps.{Consumed, is_hard}
use Rattle.picky_der_de.specs.RefusesBy.{RefusesBy}
use Rattle.picky_der_de.specs.PlainRules.{raw_rule}
use Rattle.picky_der_de.specs.Reading.{Reads, Refuses, AreNotRefused, AreJustRefused}

-- how an element is refused there, if it is; it keeps its header directly under an implicit tag
abbrev pub raw_refusal : State → List ℕ → Option Refusal
raw_refusal s rest = element_refusal (is_hard s.end) s.until_end rest

-- directly under an implicit tag an element is read with its own header
abbrev pub without_implicit_tag : State → State
without_implicit_tag s = record s { implicit_tag = None }

-- the header of an element was consumed, and its content is next, n bytes of it
pub record BeginsElement (old new : State) (tag n : ℕ) : Type 0 where
  pub consumes : Consumed (without_implicit_tag old) new (tag ∷ length_octets n)
  pub number : IsTagNumber (number_of tag)
  pub byte : tag < 256
  pub implicit_tag : new.implicit_tag ≡ None
  pub fits : n ≤ new.until_end
  pub bounded : old.until_end < 2 ^ 64

-- these bytes were consumed, which are one element, and nothing refuses it
pub record ReadsRaw (old new : State) (bytes : List ℕ) : Type 0 where
  pub reads : Reads Shape.raw old new (Tree.raw bytes)
  pub no_refusal : AreNotRefused (raw_refusal old) old

-- no element was consumed, and this is exactly its refusal
pub record RefusesRaw (old new : State) (e : Asn1DerError) : Type 0 where
  pub refuses : Refuses Tree.raw Shape.raw old new e
  pub just : AreJustRefused (raw_refusal old) old new e
  pub by : RefusesBy raw_rule old new e
