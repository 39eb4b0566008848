-- With which error plain values and elements are refused, and which bytes are left then.
use Rattle.std.specs.Prelude.{◌≡◌, ℕ, List, ◌++◌, take, drop, Option, None, Some}
use Rattle.picky_der_core.specs.declared.error.Asn1DerError.{Asn1DerError}
use Rattle.picky_der_core.specs.Primitive.{PrimitiveShape, shape_tag}
use Rattle.picky_der_core.specs.Refusal.{Judge, Refusal, plain_refusal, inside_refusal, element_refusal, content_error}
use Rattle.picky_der_de.specs.RefusesBy.{Spot, Rule}

-- this is the refusal of the bytes before the end, and the bytes past it are left too
pub record IsRefusedAs (refusal : Option Refusal) (past : List ℕ) (e : Asn1DerError) (left : List ℕ) : Type 0 where
  pub within : List ℕ
  pub is : refusal ≡ Some (e, within)
  pub left_is : left ≡ within ++ past

abbrev pub by_bytes : (Spot → List ℕ → Option Refusal) → Rule
by_bytes refusal at bs = IsRefusedAs (refusal at (take at.ahead bs)) (drop at.ahead bs)

abbrev pub plain_refusal_in : Option ℕ → ℕ → Judge → Spot → List ℕ → Option Refusal
plain_refusal_in None tag judge at rest = plain_refusal tag judge at.hard at.ahead rest
plain_refusal_in (Some number) tag judge at rest = inside_refusal tag judge at.ahead rest

-- a plain value under this tag; directly under an implicit tag it has no header
abbrev pub plain_rule : ℕ → Judge → Rule
plain_rule tag judge = by_bytes (λ at rest. plain_refusal_in at.implicit_tag tag judge at rest)

abbrev pub primitive_rule : PrimitiveShape → Rule
primitive_rule k = plain_rule (shape_tag k) (content_error k)

-- any element, whatever its tag
abbrev pub raw_rule : Rule
raw_rule = by_bytes (λ at rest. element_refusal at.hard at.ahead rest)
