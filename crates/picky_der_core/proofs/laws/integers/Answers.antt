use Rattle.picky_der_core.specs.IntegerLaws.{is_integer-content, content-value, same_integer, twos_complement-content}
use Rattle.picky_der_core.proofs.laws.integers.Goals as goal

pub returns-clause-made : goal.returns-clause-made
returns-clause-made c = is_integer-content

pub returns-clause-all : goal.returns-clause-all
returns-clause-all c = content-value

pub returns-clause-one : goal.returns-clause-one
returns-clause-one c = same_integer

pub returns-clause-value : goal.returns-clause-value
returns-clause-value c = twos_complement-content
