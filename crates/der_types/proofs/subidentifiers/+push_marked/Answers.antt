use Rattle.std.proofs.Common.{◌≡◌, ◌++◌, ◌∷◌, ◌+◌, ◌/◌, ◌%◌, [], ap, sym, ◌∙◌, append_assoc, append-nil, arith}
use Rattle.der_types.specs.Subidentifiers.{marked}
use Rattle.der_types.specs.SubidentifierLaws.{marked-zero, marked-step}
use Rattle.der_types.proofs.subidentifiers.+push_marked.Goals as goal

pub returns-in_ok-push : goal.returns-in_ok-push
returns-in_ok-push t c =
    let n = c.args.number in
    let old = c.args.bytes.now.items in
    let last = (0x80 + n % 128) ∷ [] in
    c.in_ok-push.ensures.items ∙ ap (λ bs. bs ++ last) c.in_ok-push_marked.ensures
    ∙ append_assoc old (marked (n / 128)) last ∙ ap (λ bs. old ++ bs) (sym (marked-step n c.if-number-gt0.true))

pub returns-else-number-gt0 : goal.returns-else-number-gt0
returns-else-number-gt0 t c =
    let old = c.args.bytes.now.items in
    let zero : c.args.number ≡ 0 = omega (arith, c.if-number-gt0.false) in
    sym (ap (λ n. old ++ marked n) zero ∙ ap (λ bs. old ++ bs) marked-zero ∙ append-nil old)
