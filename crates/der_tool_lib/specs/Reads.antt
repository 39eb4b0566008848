-- What the reads of the types that lines name do.
use Rattle.picky_der_core.specs.declared.error.Asn1DerError.{Asn1DerError}
use Rattle.picky_der_core.specs.Tree.{Tree}
use Rattle.picky_der_core.specs.Shape.{Shape}
use Rattle.picky_der_de.specs.State.{State}
use Rattle.picky_der_de.specs.Reading.{Reads, Refuses, RefusesPlain, AreJustRefused}
use Rattle.picky_der_de.specs.Elements.{raw_refusal}
use Rattle.der_tool_lib.specs.declared.value.ValueType.{ValueType}
use Rattle.der_tool_lib.specs.Value.{RefusalRule, plain, element, mendable, description_of}

-- a value was refused; if the kind of the error is computed, it is exactly that one
abbrev pub RefusesAs : {V : Type 0} → (V → Tree) → Shape → RefusalRule → State → State → Asn1DerError → Type 0
RefusesAs meaning s (plain tag judge) old new e = RefusesPlain meaning tag judge s old new e
RefusesAs meaning s element old new e = Refuses meaning s old new e × AreJustRefused (raw_refusal old) old new e
RefusesAs meaning s mendable old new e = Refuses meaning s old new e

abbrev pub ReadsNamed : (type : ValueType) → State → State → (description_of type).Value → Type 0
ReadsNamed type old new v = Reads (description_of type).shape old new ((description_of type).meaning v)

abbrev pub RefusesNamed : ValueType → State → State → Asn1DerError → Type 0
RefusesNamed type old new e =
    RefusesAs (description_of type).meaning (description_of type).shape (description_of type).rule old new e
