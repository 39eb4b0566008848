use Rattle.std.proofs.Common.{◌≡◌, ◌++◌, ◌∷◌, map, sym, ap, ◌∙◌, append-nil, true, refl, arith}
use Rattle.std.proofs.lemmas.Grind.{common_steps, put_two}
use Rattle.der_types.specs.Arcs.{arcs_left}
use Rattle.der_types.specs.Dotted.{dotted_or_marked, fitted}
use Rattle.der_types.proofs.DottedLemmas.{dotted_or_marked-cons, after_points-append}
use Rattle.der_types.proofs.arcs.ArcsDisplay.fmt.Goals as goal

pub returns-clause-writes : goal.returns-clause-writes
returns-clause-writes g c = λ plain ok.
    let yielded = c.loop-arc.yielded in
    let left : map fitted (arcs_left c.next.new.self) ≡ yielded =
    ap (λ s. map fitted (arcs_left s)) (sym c.into_iter-arc-iterator.ensures.into_iter_gives)
    ∙ c.loop-arc.invariant.left ∙ ap (λ rs. yielded ++ rs) c.in-None.ensures.steps.0 ∙ append-nil yielded in
    let all : map fitted (arcs_left c.args.self.now) ≡ c.in-Some.first ∷ yielded = c.in-Some.ensures.steps
    ∙ ap (λ rs. c.in-Some.first ∷ rs) left in
    let one = c.in_ok-write.ensures.writes plain (refl {a = true}) in
    put_two _ _ _ _ _ _ _ one (c.loop-arc.invariant.written one.plain)
    (sym (ap dotted_or_marked all ∙ dotted_or_marked-cons c.in-Some.first yielded))

pub loop-arc-preserved : goal.loop-arc-preserved
loop-arc-preserved g c = grind (arith, common_steps, after_points-append)
