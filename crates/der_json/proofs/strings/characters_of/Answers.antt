use Rattle.der_json.proofs.StringLemmas.{whole_of}
use Rattle.der_json.proofs.strings.characters_of.Goals as goal

pub returns-clause-whole : goal.returns-clause-whole
returns-clause-whole g c = whole_of _ _ _ _ c.in-Ok.ensures.ok c.in-Ok.string.canonical
