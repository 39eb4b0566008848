use Rattle.std.proofs.Common.{rules, arith, ◌+◌, ◌-◌, ◌∷◌, length, ℕ, List, ap, ◌∙◌}
use Rattle.picky_der_core.specs.Element.{tlv, length_octets}
use Rattle.der_c.specs.Writing.{put_over}
use borrow.Rule.Slice.PartMut.{put_mid}
use Rattle.der_c.proofs.WritingLemmas.{length_tlv, put_put, mid_put}
use Rattle.der_c.proofs.writing.put_at.Goals as goal

pub put_header-start-requires : goal.put_header-start-requires
put_header-start-requires c = let e = length_tlv c.args.tag c.args.content.now in omega (arith, e, c.requires)

pub slice_bounds-copy_from_slice-end : goal.slice_bounds-copy_from_slice-end
slice_bounds-copy_from_slice-end c = let e = length_tlv c.args.tag c.args.content.now in
    search (rules, e, c.requires, c.put_header-start.ensures.next, c.put_header-start.auto.out)

pub returns : goal.returns
unfolding tlv
returns c =
    let old = c.args.out.now in
    let at = c.args.at in
    let content = c.args.content.now in
    let head = c.args.tag ∷ length_octets (length content) in
    let r = c.put_header-start.result in
    let e = length_tlv c.args.tag content in
    ap (λ (s : List ℕ). put_mid r (r + length content - r) c.put_header-start.new.out s) c.copy_from_slice.ensures.after
    ∙ mid_put c.put_header-start.new.out content r
    ∙ ap (λ (o : List ℕ). put_over o r content) c.put_header-start.ensures.put
    ∙ ap (λ (n : ℕ). put_over (put_over old at head) n content) c.put_header-start.ensures.next
    ∙ put_put old head content at (omega (arith, e, c.requires))
