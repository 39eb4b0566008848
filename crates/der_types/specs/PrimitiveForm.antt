-- Tags in place of a primitive value's own.
use Rattle.std.specs.Prelude.{ℕ, if◌then◌else◌}
use Rattle.picky_der_core.specs.Tag.{is_constructed}

-- this identifier byte; in place of one that is constructed, that of the long form, which isn't supported
abbrev pub primitive_form : ℕ → ℕ
primitive_form tag = if is_constructed tag then 0x1F else tag
