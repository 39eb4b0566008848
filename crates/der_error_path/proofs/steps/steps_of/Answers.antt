use Rattle.std.proofs.Common.{◌≡◌, [], ◌∷◌, ◌++◌, length, get_or, sym, ap, subst, arith}
use Rattle.der_error_path.specs.Awaited.{Awaited, awaited}
use Rattle.der_error_path.proofs.Walks.{IsFound, ends, ends_in, leads_on, keeps, deeper}
use Rattle.der_error_path.proofs.Walks.{split_walk, step_at}
use Rattle.der_error_path.proofs.steps.steps_of.Goals.{then-end-position, else-end-position}
use Rattle.der_error_path.proofs.steps.steps_of.Goals as goal

pub returns-in_default-rest : goal.returns-in_default-rest
returns-in_default-rest c =
    let i = c.loop-left.invariant in
    let p = c.pass-passed in
    let w = split_walk c.args.schema.nodes.now _ c.args.bytes.now c.args.numbers.now c.loop-left.steps.items
    (awaited c.loop-left.expected) c.loop-left.around.now c.loop-left.left.now c.in-len1-up.len_at_least i.leads
    i.on_path (awaited p.result.here) p.result.rest.now p.result.count p.ensures.passed p.ensures.most p.ensures.all in
    absurd (omega (arith, w.reached.some, c.in_default-rest.len_below))

pub returns-in-Err : goal.returns-in-Err
returns-in-Err c =
    let i = c.loop-left.invariant in
    let p = c.pass-passed in
    let w = split_walk c.args.schema.nodes.now _ c.args.bytes.now c.args.numbers.now c.loop-left.steps.items
    (awaited c.loop-left.expected) c.loop-left.around.now c.loop-left.left.now c.in-len1-up.len_at_least i.leads
    i.on_path (awaited p.result.here) p.result.rest.now p.result.count p.ensures.passed p.ensures.most p.ensures.all in
    let s = c.step_to-step.result in
    let step = step_at p.result.rest.now c.in-len1-up-rest.len_at_least _ _ _ s c.step_to-step.ensures.step in
    rw c.in_ok-push.ensures.items (ends_in c.args.schema.nodes.now _ c.args.bytes.now c.args.numbers.now
    c.loop-left.steps.items (awaited c.loop-left.expected) c.loop-left.around.now (get_or c.loop-left.left.now 0 0) _
    w.leads (awaited p.result.here) p.result.rest.now s w.reached.passed step c.in-Err.mistake
    (c.in-Err.ensures.err (awaited p.result.here)))

pub loop-left-preserved : goal.loop-left-preserved
loop-left-preserved c =
    let i = c.loop-left.invariant in
    let p = c.pass-passed in
    let nodes = c.args.schema.nodes.now in
    let root = Awaited.value c.args.schema.root in
    let bytes = c.args.bytes.now in
    let numbers = c.args.numbers.now in
    let steps = c.loop-left.steps.items in
    let here = awaited c.loop-left.expected in
    let around = c.loop-left.around.now in
    let now = awaited p.result.here in
    let rest = p.result.rest.now in
    let walk = split_walk nodes root bytes numbers steps here around c.loop-left.left.now c.in-len1-up.len_at_least
    i.leads i.on_path now rest p.result.count p.ensures.passed p.ensures.most p.ensures.all in
    let s = c.step_to-step.result in
    let step = step_at rest c.in-len1-up-rest.len_at_least nodes now _ s c.step_to-step.ensures.step in
    let e = c.in-Ok.within.0 in
    let is = c.in-Ok.ensures.ok in
    let found : IsFound nodes root bytes numbers (steps ++ (s ∷ [])) c.if-end-position.found =
    elim c.if-end-position.branch [
      | then-end-position w ↦
          let depth : w.len.result ≡ length (steps ++ (s ∷ [])) =
          omega (arith, w.len.ensures, c.push.new.self.ok.0, ap length c.in_ok-push.ensures.items) in
          subst (IsFound nodes root bytes numbers (steps ++ (s ∷ []))) (sym w.found-is)
          (deeper nodes root bytes numbers steps here around _ _ walk.leads now rest s walk.reached.passed step
          w.len.result depth c.loop-left.found w.found_in-found.result i.found w.found_in-found.ensures)
      | else-end-position w ↦
          subst (IsFound nodes root bytes numbers (steps ++ (s ∷ []))) (sym w.found-is)
          (keeps nodes root bytes numbers steps here around _ _ walk.leads now rest s walk.reached.passed step
          c.loop-left.found i.found)
    ] in
    rw c.in_ok-push.ensures.items (record {
      leads = leads_on nodes root bytes numbers steps here around _ _ walk.leads now rest s walk.reached.passed step
          e.tag e.content.now e.after.now (awaited c.in-Ok.within.1) is;
      on_path = walk.reached.then e.tag e.content.now e.after.now is.element;
      found = found;
    })

pub returns-in-None : goal.returns-in-None
returns-in-None c =
    ends c.args.schema.nodes.now _ c.args.bytes.now c.args.numbers.now c.loop-left.steps.items
    (awaited c.loop-left.expected) c.loop-left.around.now c.loop-left.left.now (omega (arith, c.in_default.len_below))
    c.loop-left.invariant.leads
