use Rattle.std.proofs.Common.{◌≡◌, ◌++◌, take, string_bytes}
use Rattle.std.specs.List.{flat_map}
use Rattle.der_read.specs.Printed.{or_word}
use Rattle.der_read.proofs.printed.or_words.Given as goal

abbrev pub invariant-loop-other : goal.invariant-loop-other
invariant-loop-other l = string_bytes l.words ≡ string_bytes l.initial.words
    ++ flat_map or_word (take l.other-index l.others)
