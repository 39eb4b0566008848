use Rattle.std.proofs.Common.{◌≡◌, ◌∙◌, codes, map, rules, sym, true}
use Rattle.clap.specs.Words.{found_of}
use Rattle.der.specs.Request.{HasFlag, IsAction, IsFaulty, has_no_type}
use Rattle.der.proofs.request.request_of.Goals as goal

pub returns-then-has_no_type-clause-none : goal.returns-then-has_no_type-clause-none
returns-then-has_no_type-clause-none c few =
    let found = found_of c.args.matches.now in
    let words = map (λ word. word.now) c.args.words.now in
    let named : IsAction c.args.name.now found words c.in-Some.action = search rules in
    let typeless : has_no_type c.in-Some.action ≡ true = sym c.has_no_type.ensures ∙ c.if-has_no_type.true in
    let flag : HasFlag found (codes "ber") true = search rules in
    IsFaulty.no_type c.in-Some.action named typeless flag
