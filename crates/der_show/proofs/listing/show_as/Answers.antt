use Rattle.std.proofs.Common.{◌∙◌, ◌<◌, ◌^◌, length, refl, sym, subst, arith, rules}
use Rattle.std.specs.Prelude.{slice_range}
use Rattle.std.proofs.lemmas.Result.{err_from_is_err_and}
use Rattle.der_show.specs.Entries.{ahead}
use Rattle.der_show.specs.Steps.{IsStep, offset_after}
use Rattle.der_show.specs.Shown.{memory}
use Rattle.der_show.proofs.Places.{place_open, step_place, step_moves}
use Rattle.der_show.proofs.Showing.{comes_first, comes_on, comes_to_end, comes_to_stop, stops_here, stops_in_step}
use Rattle.der_show.proofs.listing.show_as.Goals as goal

pub loop-offset-init : goal.loop-offset-init
loop-offset-init g c = record {
  comes = rw c.new-ends.ensures (comes_first c.args.form.now c.args.options.now c.args.bytes.now _ _
      c.min-offset.ensures);
  faults = refl;
  continues = search rules;
}

pub slice_bounds-ahead-end : goal.slice_bounds-ahead-end
slice_bounds-ahead-end g c =
    let (low, high) =
    place_open c.args.bytes.now c.loop-offset.ends c.loop-offset.offset c.loop-offset.invariant.comes.place
    c.loop-offset-test.true in
    let end = c.innermost-end.ensures in
    omega arith

pub returns-in_err-step-clause-err : goal.returns-in_err-step-clause-err
returns-in_err-step-clause-err g c =
    let p = err_from_is_err_and c.from_residual.result c.from_residual.ensures.1 in
    let i = c.loop-offset.invariant in
    rw p.1 (stops_here g.W.WriteExt c.args.form.now c.args.options.now c.args.bytes.now c.loop-offset.ends
    c.loop-offset.offset c.loop-offset.is_der _ _ i.comes i.faults _ (memory p.2 refl))

pub returns-in_err-write_step-clause-err : goal.returns-in_err-write_step-clause-err
returns-in_err-write_step-clause-err g c =
    let p = err_from_is_err_and c.from_residual-in_err-write_step.result c.from_residual-in_err-write_step.ensures.1 in
    let i = c.loop-offset.invariant in
    let o = c.args.options.now in
    let b = c.args.bytes.now in
    let ends = c.loop-offset.ends in
    let at = c.loop-offset.offset in
    let t = c.in_ok-step.step in
    let is = subst (λ k. IsStep o k (ahead b ends at) t) c.depth-depth.ensures
    (subst (λ k. IsStep o c.depth-depth.result (slice_range b at k) t) c.innermost-end.ensures
    c.in_ok-step.ensures) in
    let stops = rw c.depth-depth.ensures at c.in_err-write_step.ensures.err in
    rw (p.1, p.2) (stops_in_step g.W.WriteExt c.args.form.now o b ends at c.loop-offset.is_der _ _ i.comes i.faults _
    c.loop-offset-test.true t _ is stops)

pub returns-then-not-continues-clause-ok : goal.returns-then-not-continues-clause-ok
returns-then-not-continues-clause-ok g c =
    let small : length c.args.bytes.now < 2 ^ 64 = omega arith in
    let o = c.args.options.now in
    let b = c.args.bytes.now in
    let ends = c.loop-offset.ends in
    let at = c.loop-offset.offset in
    let t = c.in_ok-step.step in
    let is = subst (λ k. IsStep o k (ahead b ends at) t) c.depth-depth.ensures
    (subst (λ k. IsStep o c.depth-depth.result (slice_range b at k) t) c.innermost-end.ensures
    c.in_ok-step.ensures) in
    let written = rw c.depth-depth.ensures at c.in_ok-write_step.ensures.ok in
    rw c.is_element-is_der.ensures (comes_to_stop c.args.form.now o b ends at c.loop-offset.is_der _ _
    c.loop-offset.invariant.comes c.loop-offset-test.true small t (sym c.continues.ensures
    ∙ c.if-not-continues.true) is _ written)

pub move_past-requires : goal.move_past-requires
move_past-requires g c =
    let small : length c.args.bytes.now < 2 ^ 64 = omega arith in
    let o = c.args.options.now in
    let b = c.args.bytes.now in
    let ends = c.loop-offset.ends in
    let at = c.loop-offset.offset in
    let t = c.in_ok-step.step in
    let is = subst (λ k. IsStep o k (ahead b ends at) t) c.depth-depth.ensures
    (subst (λ k. IsStep o c.depth-depth.result (slice_range b at k) t) c.innermost-end.ensures
    c.in_ok-step.ensures) in
    step_moves b ends at c.loop-offset.invariant.comes.place c.loop-offset-test.true o small t is

pub returns-in_err-offset : goal.returns-in_err-offset
returns-in_err-offset g c =
    let p = err_from_is_err_and c.from_residual-in_err-offset.result c.from_residual-in_err-offset.ensures.1 in
    let i = c.loop-offset.invariant in
    let o = c.args.options.now in
    let b = c.args.bytes.now in
    let ends = c.loop-offset.ends in
    let at = c.loop-offset.offset in
    let t = c.in_ok-step.step in
    let is = subst (λ k. IsStep o k (ahead b ends at) t) c.depth-depth.ensures
    (subst (λ k. IsStep o c.depth-depth.result (slice_range b at k) t) c.innermost-end.ensures
    c.in_ok-step.ensures) in
    let written = rw c.depth-depth.ensures at c.in_ok-write_step.ensures.ok in
    let on = sym c.continues.ensures ∙ c.if-not-continues.false in
    let next = comes_on c.args.form.now o b ends at c.loop-offset.is_der _ _ i.comes c.loop-offset-test.true t is _
    written on in
    let same = c.in_ok-write_step.ensures.no_fault ∙ i.faults in
    rw p.1 (record {
      ok = tt;
      err = stops_here g.W.WriteExt c.args.form.now o b _ _ _ _ _ next same _ (memory p.2 refl);
      counted = (omega (arith, same), omega (arith, same));
      no_fault = tt;
      continues = g.met.W.WriteExt.later_trans _ _ _ i.continues c.in_ok-write_step.ensures.continues;
    })

pub loop-offset-smaller : goal.loop-offset-smaller
loop-offset-smaller g c =
    let o = c.args.options.now in
    let b = c.args.bytes.now in
    let ends = c.loop-offset.ends in
    let at = c.loop-offset.offset in
    let t = c.in_ok-step.step in
    let is = subst (λ k. IsStep o k (ahead b ends at) t) c.depth-depth.ensures
    (subst (λ k. IsStep o c.depth-depth.result (slice_range b at k) t) c.innermost-end.ensures
    c.in_ok-step.ensures) in
    let further =
    subst (λ k. at < offset_after k at t) (sym c.innermost-end.ensures)
    (step_place b ends at c.loop-offset.invariant.comes.place c.loop-offset-test.true o t is).1 in
    omega (arith, c.in_ok-offset.ensures.offset, c.loop-offset-test.true, further)

pub loop-offset-preserved : goal.loop-offset-preserved
loop-offset-preserved g c =
    let i = c.loop-offset.invariant in
    let o = c.args.options.now in
    let b = c.args.bytes.now in
    let ends = c.loop-offset.ends in
    let at = c.loop-offset.offset in
    let t = c.in_ok-step.step in
    let is = subst (λ k. IsStep o k (ahead b ends at) t) c.depth-depth.ensures
    (subst (λ k. IsStep o c.depth-depth.result (slice_range b at k) t) c.innermost-end.ensures
    c.in_ok-step.ensures) in
    let written = rw c.depth-depth.ensures at c.in_ok-write_step.ensures.ok in
    let on = sym c.continues.ensures ∙ c.if-not-continues.false in
    rw (
      c.in_ok-offset.ensures.ends,
      c.in_ok-offset.ensures.offset,
      c.innermost-end.ensures,
      c.is_element-is_der.ensures,
    ) (record {
      comes = comes_on c.args.form.now o b ends at c.loop-offset.is_der _ _ i.comes c.loop-offset-test.true t is _
          written on;
      faults = c.in_ok-write_step.ensures.no_fault ∙ i.faults;
      continues = g.met.W.WriteExt.later_trans _ _ _ i.continues c.in_ok-write_step.ensures.continues;
    })

pub returns-clause-ok : goal.returns-clause-ok
returns-clause-ok g c = comes_to_end c.args.form.now c.args.options.now c.args.bytes.now c.loop-offset.ends
    c.loop-offset.offset c.loop-offset.is_der _ _ c.loop-offset.invariant.comes c.loop-offset-test.false
