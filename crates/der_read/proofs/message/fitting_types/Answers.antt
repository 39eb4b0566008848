use Rattle.std.proofs.Common.{◌≡◌, ap, ◌∙◌, arith, drop, length, not}
use Rattle.std.proofs.lemmas.List.{get_or_default}
use Rattle.std.proofs.Math.Seq.{drop-length}
use Rattle.der_read.proofs.FittingLemmas.{step_fits, step_differs, all_found}
use Rattle.der_read.proofs.message.fitting_types.Goals as goal
use Rattle.der_read.proofs.message.fitting_types.Goals.{then-is_none+in_ok-push, else-is_none}

pub loop-named-preserved : goal.loop-named-preserved
loop-named-preserved c =
    let inside = c.loop-named-test.true in
    elim c.if-is_none.branch [
      | then-is_none+in_ok-push w ↦
          let items = ap (λ v. v.items) w.fitting-is ∙ w.in_ok-push.ensures.items in
          step_fits c.args.bytes.now c.args.tried.now c.loop-named.named-index c.loop-named.fitting.items _ _
          c.in_ok-refusal_of.field-0 items inside
          (get_or_default c.args.tried.now c.loop-named.named-index _ _ inside)
          (c.is_none.ensures ∙ ap not w.if-is_none.true) c.in_ok-refusal_of.ensures c.loop-named.invariant
      | else-is_none w ↦
          let same = ap (λ v. v.items) w.fitting-is in
          step_differs c.args.bytes.now c.args.tried.now c.loop-named.named-index c.loop-named.fitting.items _ _
          c.in_ok-refusal_of.field-0 same inside
          (get_or_default c.args.tried.now c.loop-named.named-index _ _ inside)
          (c.is_none.ensures ∙ ap not w.if-is_none.false) c.in_ok-refusal_of.ensures c.loop-named.invariant
    ]

pub returns : goal.returns
returns c =
    let i = c.loop-named.named-index in
    let tried = c.args.tried.now in
    let end : i ≡ length tried = omega arith in
    all_found c.args.bytes.now tried i c.loop-named.fitting.items (ap (λ n. drop n tried) end ∙ drop-length tried)
    c.loop-named.invariant
