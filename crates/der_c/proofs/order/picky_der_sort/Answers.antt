use Rattle.std.proofs.Common.{arith, ◌≡◌, ◌+◌, ◌-◌, ◌≤◌, length, ℕ, List, sym, ap, subst, refl, ◌∙◌}
use Rattle.std.specs.Prelude.{slice_range}
use borrow.Rule.Slice.PartMut.{put_mid}
use Rattle.der_c.specs.Order.{AreArranged, AreInOrder, AreSorted, BreaksMember}
use Rattle.der_c.specs.Writing.{put_over}
use Rattle.der_c.proofs.OrderLemmas.{length-in_order}
use Rattle.der_c.proofs.WritingLemmas.{length_range, mid_put}
use Rattle.der_c.proofs.order.picky_der_sort.Goals as goal

pub copy_from_slice-requires : goal.copy_from_slice-requires
copy_from_slice-requires c =
    let bytes = slice_range c.args.out.now c.args.start c.args.used in
    let o : AreInOrder bytes c.in-Ok-Ok.members.items =
    subst (AreArranged bytes) c.in-Ok-Ok.field-0-is c.in-Ok-Ok.ensures in
    sym (ap length c.deref.ensures.value ∙ length-in_order bytes c.in-Ok-Ok.members.items o)

pub returns-in-Ok-Ok : goal.returns-in-Ok-Ok
returns-in-Ok-Ok c =
    let old = c.args.out.now in
    let start = c.args.start in
    let used = c.args.used in
    let bytes = slice_range old start used in
    let members = c.in-Ok-Ok.members.items in
    let order : start ≤ used = omega (arith, c.if-start-used.false) in
    let fits : used ≤ length old = omega (arith, c.if-used-out.false) in
    let o : AreInOrder bytes members = subst (AreArranged bytes) c.in-Ok-Ok.field-0-is c.in-Ok-Ok.ensures in
    let size : length members ≡ used - start = length-in_order bytes members o
    ∙ length_range old start used order fits in
    let same : c.copy_from_slice.new.self ≡ members = c.copy_from_slice.ensures.after ∙ c.deref.ensures.value in
    let count : used - start ≡ start + length members - start = omega (arith, size, order) in
    let put : put_mid start (used - start) old c.copy_from_slice.new.self ≡ put_over old start members =
    ap (λ (s : List ℕ). put_mid start (used - start) old s) same
    ∙ ap (λ (n : ℕ). put_mid start n old members) count ∙ mid_put old members start in
    AreSorted.sorted members order fits o put refl

pub returns-in-Ok-Err : goal.returns-in-Ok-Err
returns-in-Ok-Err c =
    let bytes = slice_range c.args.out.now c.args.start c.args.used in
    let broken : BreaksMember bytes c.in-Ok-Err.rule =
    subst (AreArranged bytes) c.in-Ok-Err.field-0-is c.in-Ok-Err.ensures in
    AreSorted.broken c.in-Ok-Err.rule (omega (arith, c.if-start-used.false))
    (omega (arith, c.if-used-out.false)) broken refl c.rule_code.ensures
