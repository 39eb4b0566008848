use Rattle.std.proofs.lemmas.Iterator.{YieldsList-from_chars}
use Rattle.std.proofs.lemmas.Iterator.Consumers.{YieldsList-end}
use Rattle.der_program_base.specs.Json.{json_character}
use Rattle.der_program_base.proofs.Escapes.{each_pushed}
use Rattle.der_program_base.proofs.json.push_json.Goals as goal

pub returns : goal.returns
returns c =
    let road = YieldsList-from_chars c.args.text.now c.utf8.text cc in
    let all = YieldsList-end road c.loop-character.yielded _ c.loop-character.yielded_by _ _ c.in-None.is
    c.next.ensures.steps in
    each_pushed json_character c.args.text.now _ _ c.loop-character.yielded all.0 c.loop-character.invariant
