use Rattle.std.specs.List.{Contains}
use Rattle.der_read.specs.Types.{labels_of, all_types}
use Rattle.der_read.proofs.AllTypes.{is_listed}
use Rattle.der_read.proofs.Lists.{found_or_none}
use Rattle.der_read.proofs.message.type_of_label.Goals as goal

pub returns : goal.returns
returns c = found_or_none (λ t. Contains (labels_of t) c.args.label.now) all_types _ is_listed
    c.type_with_label.ensures.some c.type_with_label.ensures.none
