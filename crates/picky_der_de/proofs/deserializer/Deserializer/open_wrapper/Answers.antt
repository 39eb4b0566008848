use Rattle.std.proofs.Common.{◌≡◌, sym, ◌∙◌, ap}
use Rattle.std.proofs.lemmas.Result.{err_from_is_err_and}
use Rattle.picky_der_de.specs.State.{State}
use Rattle.picky_der_de.proofs.WrapperReads.{opening_unused, opens_at_once, opens_after_count}
use Rattle.picky_der_de.proofs.deserializer.Deserializer.open_wrapper.Goals as goal
use Rattle.picky_der_de.proofs.deserializer.Deserializer.open_wrapper.Goals.{then-counts_unused_bits+in_ok-take_unused_bits}
use Rattle.picky_der_de.proofs.deserializer.Deserializer.open_wrapper.Goals.{else-counts_unused_bits}

pub returns-in_err-take_unused_bits-clause-err : goal.returns-in_err-take_unused_bits-clause-err
returns-in_err-take_unused_bits-clause-err g c =
    let p = err_from_is_err_and c.from_residual-in_err-take_unused_bits.result
    c.from_residual-in_err-take_unused_bits.ensures.1 in
    rw (p.1, p.2) (opening_unused c.in_ok-outer.ensures.ok (sym c.counts_unused_bits.ensures
    ∙ c.if-counts_unused_bits.true) c.in_err-take_unused_bits.ensures.err)

pub returns-clause-ok : goal.returns-clause-ok
returns-clause-ok g c =
    let h = c.in_ok-outer.ensures.ok in
    let n = c.implicit_tag-self-inside in
    let counts = sym c.counts_unused_bits.ensures in
    let marked = λ (before : State) (same : c.if-counts_unused_bits.self ≡ before).
    ap (λ (s : State). record s { implicit_tag = n.result }) (c.self.view_is ∙ same)
    ∙ ap (λ tag. record before { implicit_tag = tag }) n.ensures in
    elim c.if-counts_unused_bits.branch [
      | then-counts_unused_bits+in_ok-take_unused_bits w ↦ opens_after_count h (counts ∙ w.if-counts_unused_bits.true)
          w.in_ok-take_unused_bits.ensures.ok (marked w.take_unused_bits.new.self w.self-is)
      | else-counts_unused_bits w ↦ opens_at_once h (counts ∙ w.if-counts_unused_bits.false)
          (marked c.begin_wrapper.new.self w.self-is)
    ]
