use Rattle.std.proofs.Common.{◌≡◌, map, take}
use Rattle.serde_json.specs.View.{view}
use Rattle.der_read.specs.Printed.{word_data}
use Rattle.der_read.proofs.printed.words_value.Given as goal

abbrev pub invariant-loop-named : goal.invariant-loop-named
invariant-loop-named l = map view l.words.items ≡ map word_data (take l.named-index l.types)
