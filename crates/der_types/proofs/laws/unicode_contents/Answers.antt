use Rattle.der_types.specs.CharacterStringLaws.{ascii_content, bmp_units}
use Rattle.der_types.proofs.laws.unicode_contents.Goals as goal

pub returns-clause-ascii : goal.returns-clause-ascii
returns-clause-ascii c = ascii_content

pub returns-clause-bmp : goal.returns-clause-bmp
returns-clause-bmp c = bmp_units
