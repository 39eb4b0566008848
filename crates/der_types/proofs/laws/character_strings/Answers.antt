use Rattle.der_types.specs.CharacterStringLaws.{is_string_content-content, content-characters, characters-content}
use Rattle.der_types.specs.CharacterStringLaws.{whole-content, each-character, same_text}
use Rattle.der_types.proofs.laws.character_strings.Goals as goal

pub returns-clause-made : goal.returns-clause-made
returns-clause-made c = is_string_content-content

pub returns-clause-all : goal.returns-clause-all
returns-clause-all c = λ width p bs bytes e. content-characters width bs bytes (whole-content width p bs e)

pub returns-clause-each : goal.returns-clause-each
returns-clause-each c = each-character

pub returns-clause-text : goal.returns-clause-text
returns-clause-text c = characters-content

pub returns-clause-one : goal.returns-clause-one
returns-clause-one c = same_text
