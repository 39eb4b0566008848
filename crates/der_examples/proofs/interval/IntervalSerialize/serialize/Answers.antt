use Rattle.std.proofs.Common.{rules, refl, ◌^◌, ◌-◌, [], ◌∷◌}
use Rattle.std.proofs.lemmas.Result.{err_from_is_err_and}
use Rattle.picky_der_core.specs.Tree.{ListKind, Trees, trees}
use Rattle.picky_der_core.specs.Integer.{unsigned_tree}
use Rattle.picky_der_ser.proofs.MemberWrites.{list_opened, list_gained, list_refused, list_wrote, list_failed}
use Rattle.der_examples.specs.declared.interval.Interval.{Interval}
use Rattle.der_examples.proofs.interval.IntervalSerialize.serialize.Goals as goal

abbrev members : Interval → Trees
members it = trees (unsigned_tree (2 ^ 32 - 1) it.first ∷ unsigned_tree (2 ^ 32 - 1) it.last ∷ [])

pub returns-in_err-serialize_field-clause-failed :
    goal.returns-in_err-serialize_field-clause-failed
returns-in_err-serialize_field-clause-failed g c =
    let all = members c.args.self.now in
    let opened = list_opened g.W.WriteExt ListKind.sequence all _ _ c.in_ok-members.ensures.opened in
    let refused = list_refused g.W.WriteExt ListKind.sequence _ all _ _ _ _ c.serialize_field.new.self.ser.now _ _
    c.in_err-serialize_field.ensures.err refl refl refl opened in
    let error =
    err_from_is_err_and c.from_residual-in_err-serialize_field.result
    c.from_residual-in_err-serialize_field.ensures.1 in
    rw (error.1, error.2) (search (rules, refused))

pub returns-in_err-serialize_field-2-clause-failed :
    goal.returns-in_err-serialize_field-2-clause-failed
returns-in_err-serialize_field-2-clause-failed g c =
    let all = members c.args.self.now in
    let opened = list_opened g.W.WriteExt ListKind.sequence all _ _ c.in_ok-members.ensures.opened in
    let gained = list_gained g.W.WriteExt ListKind.sequence _ all _ _ _ _ c.in_ok-serialize_field.ensures.added
    opened in
    let refused = list_refused g.W.WriteExt ListKind.sequence _ all _ _ _ _ c.serialize_field-2.new.self.ser.now _ _
    c.in_err-serialize_field-2.ensures.err refl refl refl gained in
    let error =
    err_from_is_err_and c.from_residual-in_err-serialize_field-2.result
    c.from_residual-in_err-serialize_field-2.ensures.1 in
    rw (error.1, error.2) (search (rules, refused))

pub returns-clause-wrote : goal.returns-clause-wrote
returns-clause-wrote g c =
    let all = members c.args.self.now in
    let opened = list_opened g.W.WriteExt ListKind.sequence all _ _ c.in_ok-members.ensures.opened in
    let gained = list_gained g.W.WriteExt ListKind.sequence _ all _ _ _ _ c.in_ok-serialize_field.ensures.added
    opened in
    let whole = list_gained g.W.WriteExt ListKind.sequence _ all _ _ _ _ c.in_ok-serialize_field-2.ensures.added
    gained in
    let wrote = list_wrote g.W.WriteExt ListKind.sequence all _ _ _ c.end.result c.end.ensures whole in
    search (rules, wrote)

pub returns-clause-failed : goal.returns-clause-failed
returns-clause-failed g c =
    let all = members c.args.self.now in
    let opened = list_opened g.W.WriteExt ListKind.sequence all _ _ c.in_ok-members.ensures.opened in
    let gained = list_gained g.W.WriteExt ListKind.sequence _ all _ _ _ _ c.in_ok-serialize_field.ensures.added
    opened in
    let whole = list_gained g.W.WriteExt ListKind.sequence _ all _ _ _ _ c.in_ok-serialize_field-2.ensures.added
    gained in
    let failed = list_failed g.W.WriteExt ListKind.sequence all _ _ _ c.end.result c.end.ensures whole in
    search (rules, failed)
