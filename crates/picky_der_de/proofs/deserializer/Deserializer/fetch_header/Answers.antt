use Rattle.std.proofs.Common.{◌≡◌, ◌≢◌, ◌∷◌, [], sym, subst, ◌∙◌}
use Rattle.picky_der_de.specs.Steps.{Consumed}
use Rattle.std.proofs.lemmas.Result.{err_from_is_err_and, MatchResult-weaker}
use Rattle.picky_der_de.proofs.Steps.{consumes_then}
use Rattle.picky_der_de.proofs.Contents.{kept_input, failed_same, unmoved_consumed, unmoved_peeked}
use Rattle.picky_der_de.proofs.Headers.{header_missing, header_foreign, header_unread}
use Rattle.picky_der_de.proofs.deserializer.Deserializer.fetch_header.Goals as goal

pub returns-in_err-first-clause-err : goal.returns-in_err-first-clause-err
returns-in_err-first-clause-err g c =
    let p = err_from_is_err_and c.from_residual.result c.from_residual.ensures.1 in
    let e = c.in_err-first.ensures in
    let consumed = unmoved_consumed c.args.self.now c.next_byte.new.self _ e.unmoved in
    let peeked = unmoved_peeked c.args.self.now c.next_byte.new.self _ e.unmoved in
    rw (p.1, p.2) (header_missing c.args.tag c.requires.number e.err (λ j. e.missing j.had_not_failed j.faults)
    (kept_input e.err.took consumed) consumed peeked)

pub returns-then-first-inner-clause-err : goal.returns-then-first-inner-clause-err
returns-then-first-inner-clause-err g c =
    let f = c.fail.ensures in
    let other : c.in_ok-first.first ≢ c.args.tag = λ q. c.if-first-inner.true (q ∙ sym c.inner.ensures) in
    header_foreign c.args.tag c.requires.number c.in_ok-first.ensures.ok f.fails other f.error
    (failed_same c.next_byte.new.self f.error f.same)

pub returns-clause-ok : goal.returns-clause-ok
returns-clause-ok g c =
    let same : c.in_ok-first.first ≡ c.args.tag = c.if-first-inner.false ∙ c.inner.ensures in
    let t = subst (λ b. Consumed c.args.self.now c.next_byte.new.self (b ∷ [])) same c.in_ok-first.ensures.ok in
    MatchResult-weaker c.read_content_length.result c.read_content_length.ensures.ok (λ n k. (consumes_then t k.0, k.1))
    (λ e k. tt)

pub returns-clause-err : goal.returns-clause-err
returns-clause-err g c =
    let same : c.in_ok-first.first ≡ c.args.tag = c.if-first-inner.false ∙ c.inner.ensures in
    let t = subst (λ b. Consumed c.args.self.now c.next_byte.new.self (b ∷ [])) same c.in_ok-first.ensures.ok in
    MatchResult-weaker c.read_content_length.result c.read_content_length.ensures.err (λ n k. tt)
    (λ e k. header_unread c.args.tag c.requires.number t k)
