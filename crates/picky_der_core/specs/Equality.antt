-- When two values are equal by `==`, and what a copy of one is.
use Rattle.std.specs.Prelude.{◌≡◌, ◌↔◌, ℕ, List, Bool, IsTrue, Option, Some, None}
use Rattle.picky_der_core.specs.declared.error.Asn1DerError.{Asn1DerError}
use Rattle.picky_der_core.specs.declared.error.Asn1DerError.TheVariants as error
use Rattle.picky_der_core.specs.declared.failure.Failure.{Failure}
use Rattle.picky_der_core.specs.Failure.{failure_of}

-- two values are equal exactly if this part of them is the same
abbrev pub IsEqualityOf : {V P : Type 0} → (V → V → Bool) → (V → P) → Type 0
IsEqualityOf {V} eq part = (x y : V) → IsTrue (eq x y) ↔ (part x ≡ part y)

-- what is returned of two values is what is returned of this part of them
abbrev pub IsThatOf : {V P A : Type 0} → (V → V → A) → (V → P) → (P → P → A) → Type 0
IsThatOf {V} answer part own = (x y : V) → answer x y ≡ own (part x) (part y)

-- the text of an error that is a message
abbrev pub message_text : Asn1DerError → Option (List ℕ)
message_text (error.Message text) = Some text.now
message_text other = None

-- what is compared of an error
abbrev pub comparison_of : Asn1DerError → Failure × Option (List ℕ)
comparison_of e = (failure_of e, message_text e)

-- ---- copies

-- this part of a copy is the same
abbrev pub IsKept : {V P : Type 0} → (V → V → Type 0) → (V → P) → Type 0
IsKept {V} is_clone part = (x y : V) → is_clone x y → part y ≡ part x

-- this part of a copy is a copy of it
abbrev pub IsCopied : {V P : Type 0} → (V → V → Type 0) → (V → P) → (P → P → Type 0) → Type 0
IsCopied {V} is_clone part own = (x y : V) → is_clone x y → own (part x) (part y)
