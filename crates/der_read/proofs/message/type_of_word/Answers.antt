use Rattle.std.proofs.Common.{◌≡◌}
use Rattle.der_read.specs.Types.{word_of, all_types}
use Rattle.der_read.proofs.AllTypes.{is_listed}
use Rattle.der_read.proofs.Lists.{found_or_none}
use Rattle.der_read.proofs.message.type_of_word.Goals as goal

pub returns : goal.returns
returns c = found_or_none (λ t. word_of t ≡ c.args.word.now) all_types _ is_listed c.type_with_word.ensures.some
    c.type_with_word.ensures.none
