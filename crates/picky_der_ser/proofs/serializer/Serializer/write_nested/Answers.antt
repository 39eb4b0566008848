use Rattle.std.proofs.Common.{◌≡◌, length, rules, refl, sym, ap, ◌∙◌}
use Rattle.std.proofs.lemmas.Result.{err_from_is_err_and}
use Rattle.picky_der_core.specs.Encoding.{der}
use Rattle.picky_der_core.specs.Tree.{Tree}
use Rattle.picky_der_ser.specs.declared.header.Header.TheVariants.{Raw}
use Rattle.picky_der_ser.specs.State.{State, Stack, Writing}
use Rattle.picky_der_ser.proofs.WrapWrites.{one_wrote, one_failed, one_counted, one_continues, one_kept, one_refused}
use Rattle.picky_der_ser.proofs.WrapWrites.{alike_wrapped, there_by, wrapped_part, nested_absent}
use Rattle.picky_der_ser.proofs.LevelWrites.{opened_numbers}
use Rattle.picky_der_ser.proofs.LevelMarks.{state_with}
use Rattle.picky_der_ser.proofs.serializer.Serializer.write_nested.Goals as goal

pub returns-in_err-count : goal.returns-in_err-count
returns-in_err-count g c =
    let w = g.W.WriteExt in
    let t = g.T.Serialize.meaning c.args.value.now in
    let u = Tree.wrapped c.args.wrapper t in
    let o = c.open-mark.ensures.opened in
    let h = c.in_err-count.ensures.err in
    let p = err_from_is_err_and c.from_residual.result c.from_residual.ensures.1 in
    let kept = one_kept w Raw refl u _ _ o _ _ h in
    let refused =
    one_refused w Raw refl u _ _ o u _ c.write_member_in.new.self c.in_err-count.field-0.0 c.in_err-count.field-0.0
    (wrapped_part _ c.args.wrapper t) h refl refl refl in
    record {
      wrote = search rules;
      failed = rw (p.1, p.2) (search (rules, refused));
      counted = search (rules, kept);
      continues = search (rules, kept);
    }

pub returns-then-count-eq0-clause-wrote : goal.returns-then-count-eq0-clause-wrote
returns-then-count-eq0-clause-wrote g c =
    let w = g.W.WriteExt in
    let t = g.T.Serialize.meaning c.args.value.now in
    let i = c.self.inside in
    let k = c.give_up.new.self in
    let new = state_with i.sink i.failed k in
    let o = c.open-mark.ensures.opened in
    let f = ap (λ (s : Writing g.row.W.Denot). s.failed) o.opened ∙ c.requires.had_not_failed in
    let all =
    opened_numbers w Raw c.open-mark.result c.args.self.now c.open-mark.new.self o c.open-mark.ensures.still_open f in
    let zero : 0 ≡ length (der (Tree.wrapped c.args.wrapper t)) =
    sym c.if-count-eq0.true ∙ c.in_ok-count.ensures.count in
    let same = c.self.view_is in
    nested_absent w c.args.wrapper t c.args.self.now new _ _ o all c.in_ok-count.ensures.added zero
    (ap (λ (s : Stack). s.inside) c.give_up.ensures ∙ ap (λ (s : State g.row.W.Denot). s.inside) same)
    (ap (λ (s : State g.row.W.Denot). s.sink) same) (ap (λ (s : State g.row.W.Denot). s.failed) same)
    (ap (λ (s : Stack). s.around) c.give_up.ensures ∙ ap (λ (s : State g.row.W.Denot). s.around) same
    ∙ c.in_ok-count.ensures.bare)

pub returns : goal.returns
returns g c =
    let w = g.W.WriteExt in
    let t = g.T.Serialize.meaning c.args.value.now in
    let u = Tree.wrapped c.args.wrapper t in
    let o = c.open-mark.ensures.opened in
    let a = c.in_ok-count.ensures.added in
    let e = c.close.ensures in
    let there = there_by c.args.wrapper t c.in_ok-count.count c.in_ok-count.ensures.count c.if-count-eq0.false in
    let same = alike_wrapped c.args.wrapper t there a.writable.numbers in
    record {
      wrote = one_wrote w Raw refl u _ _ o u _ _ _ same a e;
      failed = one_failed w Raw refl u _ _ o u _ _ _ same a e;
      counted = one_counted w Raw refl u _ _ o _ _ _ a e;
      continues = one_continues w Raw refl u _ _ o _ _ _ a e;
    }
