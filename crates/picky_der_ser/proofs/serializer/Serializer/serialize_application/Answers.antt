use Rattle.std.proofs.Common.{◌≡◌, None, rules, refl, arith}
use Rattle.std.proofs.lemmas.Result.{err_from_is_err_and}
use Rattle.picky_der_core.specs.declared.asn1.wrapper.Wrapper.TheVariants as wrapper
use Rattle.picky_der_core.specs.Tree.{Tree}
use Rattle.picky_der_ser.specs.declared.header.Header.TheVariants.{Application}
use Rattle.picky_der_ser.proofs.WrapWrites.{one_wrote, one_failed, one_untouched, one_counted, one_continues, one_kept}
use Rattle.picky_der_ser.proofs.WrapWrites.{one_refused, alike_application, application_part}
use Rattle.picky_der_ser.proofs.WrapWrites.{application_past}
use Rattle.picky_der_ser.proofs.serializer.Serializer.serialize_application.Goals as goal

pub returns-in_err-write_member : goal.returns-in_err-write_member
returns-in_err-write_member g c =
    let w = g.W.WriteExt in
    let n = c.args.number in
    let t = g.T.Serialize.meaning c.args.value.now in
    let o = c.open-mark.ensures.opened in
    let h = c.in_err-write_member.ensures.err in
    let p = err_from_is_err_and c.from_residual.result c.from_residual.ensures.1 in
    let kept = one_kept w (Application n) refl t _ _ o _ _ h in
    let refused =
    one_refused w (Application n) refl t _ _ o (Tree.wrapped (wrapper.Application n) t) _ c.write_member.new.self
    c.in_err-write_member.field-0.0 c.in_err-write_member.field-0.0 (application_part _ n t) h refl refl refl in
    record {
      wrote = search rules;
      failed = rw (p.1, p.2) (search (rules, refused));
      untouched = search (rules, kept);
      past = λ past f. absurd (omega (arith, past));
      counted = search (rules, kept);
      continues = search (rules, kept);
    }

pub returns : goal.returns
returns g c =
    let w = g.W.WriteExt in
    let n = c.args.number in
    let t = g.T.Serialize.meaning c.args.value.now in
    let u = Tree.wrapped (wrapper.Application n) t in
    let o = c.open-mark.ensures.opened in
    let a = c.in_ok-write_member.ensures.added in
    let e = c.close.ensures in
    let same = alike_application n t a.writable.numbers in
    record {
      wrote = one_wrote w (Application n) refl t _ _ o u _ _ _ same a e;
      failed = one_failed w (Application n) refl t _ _ o u _ _ _ same a e;
      untouched = one_untouched w (Application n) refl t _ _ o _ _ _ a e;
      past = λ past f. absurd (omega (arith, past));
      counted = one_counted w (Application n) refl t _ _ o _ _ _ a e;
      continues = one_continues w (Application n) refl t _ _ o _ _ _ a e;
    }

pub returns-then-number-gt-MAX_NUMBER-clause-failed :
    goal.returns-then-number-gt-MAX_NUMBER-clause-failed
returns-then-number-gt-MAX_NUMBER-clause-failed g c =
    let f : c.args.self.now.failed ≡ None = search rules in
    rw (c.fail.ensures.same, c.fail.ensures.error) (application_past g.W.WriteExt c.args.number
    (g.T.Serialize.meaning c.args.value.now) c.args.self.now (omega (arith, c.if-number-gt-MAX_NUMBER.true)) f)
