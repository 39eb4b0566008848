use Rattle.std.proofs.Common.{◌≡◌}
use Rattle.der_read.specs.AttributeNames.{content_of, identifier_of, all_names}
use Rattle.der_read.proofs.AttributeNameLemmas.{is_among_names}
use Rattle.der_read.proofs.Lists.{found_or_none}
use Rattle.der_read.proofs.attribute_name.AttributeName.of.Goals as goal

pub returns : goal.returns
returns c = found_or_none (λ name. identifier_of name ≡ content_of c.args.identifier.now) all_names _ is_among_names
    c.with_identifier.ensures.some c.with_identifier.ensures.none
