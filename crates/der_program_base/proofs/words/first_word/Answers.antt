use Rattle.std.proofs.Common.{rules, ◌≡◌, ◌≢◌, ℕ, ◌<◌, length, get_or}
use Rattle.der_program_base.proofs.Separated.{none_at, first_at}
use Rattle.der_program_base.proofs.words.first_word.Goals as goal

pub returns-in_default : goal.returns-in_default
returns-in_default c = none_at 0x20 _ (search (rules, c.in_default.ensures.runs))

pub returns : goal.returns
returns c =
    let line = c.args.line.now in
    let end = c.in-Some.end in
    let before : (i : ℕ) → i < end → get_or line i 0 ≢ 0x20 = search (rules, c.in-Some.ensures.runs) in
    let at : get_or line end 0 ≡ 0x20 = search (rules, c.in-Some.ensures.runs) in
    let fits : end < length line = search (rules, c.in-Some.ensures.runs) in
    let parts = first_at 0x20 line end before fits at in
    record { is_word = parts.0; is = parts.1 }
