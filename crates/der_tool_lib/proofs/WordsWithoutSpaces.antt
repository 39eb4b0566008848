-- No word for a type has a space.
use Rattle.std.proofs.Common.{refl}
use Rattle.der_program_base.specs.Words.{HasNo}
use Rattle.der_program_base.proofs.Separated.{none_passes}
use Rattle.der_tool_lib.specs.declared.value.ValueType.{ValueType}
use Rattle.der_tool_lib.specs.declared.value.ValueType.TheVariants as named
use Rattle.der_tool_lib.specs.Line.{word_for}

pub no_space : (type : ValueType) → HasNo 0x20 (word_for type)
no_space named.Bool = none_passes 0x20 (word_for named.Bool) refl
no_space named.U8 = none_passes 0x20 (word_for named.U8) refl
no_space named.U16 = none_passes 0x20 (word_for named.U16) refl
no_space named.U32 = none_passes 0x20 (word_for named.U32) refl
no_space named.U64 = none_passes 0x20 (word_for named.U64) refl
no_space named.U128 = none_passes 0x20 (word_for named.U128) refl
no_space named.Null = none_passes 0x20 (word_for named.Null) refl
no_space named.Char = none_passes 0x20 (word_for named.Char) refl
no_space named.Text = none_passes 0x20 (word_for named.Text) refl
no_space named.Octets = none_passes 0x20 (word_for named.Octets) refl
no_space named.Raw = none_passes 0x20 (word_for named.Raw) refl
no_space named.Test = none_passes 0x20 (word_for named.Test) refl
no_space named.Spki = none_passes 0x20 (word_for named.Spki) refl
