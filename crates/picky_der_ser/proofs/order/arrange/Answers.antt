use Rattle.std.proofs.Common.{◌≡◌, length, drop, ap, sym, ◌∙◌, arith}
use Rattle.std.specs.List.{between, concat}
use Rattle.std.proofs.lemmas.List.{length-drop}
use Rattle.std.proofs.lemmas.Slice.{between_to_end}
use Rattle.picky_der_core.specs.Order.{in_ascending_order}
use Rattle.picky_der_ser.specs.Seams.{cut_at_seams}
use Rattle.picky_der_ser.proofs.ListBytes.{length-in_order}
use Rattle.picky_der_ser.proofs.order.arrange.Goals as goal

pub copy_from_slice-requires : goal.copy_from_slice-requires
copy_from_slice-requires c =
    let s = c.args.out.now.items in
    let n = c.args.start in
    let ss = c.args.seams.now in
    let to_end : between n (length s) s ≡ drop n s = between_to_end s n (length s) (omega arith) in
    let content = ap (λ r. between n (length r) r) c.deref.ensures.value ∙ to_end in
    let is : c.in_ok-members.members.items ≡ concat (in_ascending_order (cut_at_seams ss (drop n s))) =
    c.in_ok-members.ensures ∙ ap (λ x. concat (in_ascending_order (cut_at_seams ss x))) content in
    let size = length-in_order ss (drop n s) c.requires.ascending (omega (arith, c.requires.within, length-drop n s)) in
    let same : length (between n (length s) s) ≡ length c.in_ok-members.members.items =
    ap length to_end ∙ sym (ap length is ∙ size) in
    ap (λ r. length (between n (length r) r)) c.deref_mut.ensures.value ∙ same ∙ sym (ap length c.deref-2.ensures.value)
