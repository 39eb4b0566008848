use Rattle.std.proofs.Common.{◌≡◌, ◌++◌, string_bytes, take}
use Rattle.der_path.specs.Texts.{after_points}
use Rattle.der_path.proofs.text.text_of.Given as goal

abbrev pub invariant-loop-index : goal.invariant-loop-index
invariant-loop-index l = string_bytes l.text ≡ string_bytes l.initial.text ++ after_points (take l.index-index l.others)
