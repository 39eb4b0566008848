use Rattle.std.proofs.Common.{rules, refl, arith}
use Rattle.std.proofs.lemmas.Result.{err_from_is_err_and}
use Rattle.picky_der_core.specs.Tree.{ListKind}
use Rattle.picky_der_ser.proofs.MemberWrites.{list_opened, list_wrote, list_failed, list_untouched}
use Rattle.picky_der_ser.proofs.MembersWrites.{members_gained, members_refused, members_untouched}
use Rattle.picky_der_ser.proofs.members.SerializeMembers.serialize_sequence.Goals as goal

pub returns-in_err-serialize_members : goal.returns-in_err-serialize_members
returns-in_err-serialize_members g c =
    let all = g.Self.SerializeMembers.members c.args.self.now in
    let a = list_opened g.W.WriteExt ListKind.sequence all _ _ c.serialize_lazy-sequence.ensures.opened in
    let p = err_from_is_err_and c.from_residual.result c.from_residual.ensures.1 in
    let refused =
    members_refused g.W.WriteExt ListKind.sequence all all _ _ _ c.serialize_members.new.sequence.ser.now _ _
    c.in_err-serialize_members.ensures.err refl refl refl a in
    let same = members_untouched g.W.WriteExt ListKind.sequence all all _ _ _ _ c.in_err-serialize_members.ensures.err
    a in
    record {
      wrote = search rules;
      failed = rw (p.1, p.2) (search (rules, refused));
      untouched = search (rules, same);
      counted = search (rules, same);
      continues = search (rules, same);
    }

pub returns : goal.returns
returns g c =
    let w = g.W.WriteExt in
    let all = g.Self.SerializeMembers.members c.args.self.now in
    let a = members_gained w ListKind.sequence all all _ _ _ c.in_ok-serialize_members.ensures.added
    (list_opened w ListKind.sequence all _ _ c.serialize_lazy-sequence.ensures.opened) in
    let wrote = list_wrote w ListKind.sequence all _ _ _ c.end.result c.end.ensures a in
    let failed = list_failed w ListKind.sequence all _ _ _ c.end.result c.end.ensures a in
    let untouched = list_untouched w ListKind.sequence all _ _ _ c.end.result c.end.ensures a in
    record {
      wrote = search (rules, wrote);
      failed = search (rules, failed);
      untouched = search (rules, untouched);
      counted = grind (arith, a);
      continues = grind (arith, a);
    }
