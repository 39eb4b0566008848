use Rattle.std.proofs.Common.{arith, ◌≡◌, ◌+◌, ◌-◌, ◌≤◌, ◌++◌, ◌∷◌, length, take, drop, ℕ, List, sym, ap, refl, ◌∙◌}
use Rattle.std.specs.Prelude.{slice_range}
use Rattle.std.proofs.lemmas.List.{append_assoc}
use Rattle.picky_der_core.specs.ElementLaws.{length-length_octets}
use Rattle.picky_der_core.specs.Element.{tlv, length_octets}
use Rattle.der_c.specs.Writing.{IsWrapped, put_over}
use Rattle.der_c.proofs.WritingLemmas.{length_tlv, length_range, put_before}
use Rattle.der_c.proofs.writing.picky_der_wrap.Goals as goal

pub overflow_add-size : goal.overflow_add-size
overflow_add-size c =
    let most = length-length_octets (c.args.used.now - c.args.start) (omega arith) in
    omega (arith, most, c.encoded_len-size.ensures)

pub returns : goal.returns
unfolding tlv
returns c =
    let old = c.args.out.now in
    let start = c.args.start in
    let before = c.args.used.now in
    let tag = c.args.tag in
    let n = before - start in
    let content = slice_range old start before in
    let head = tag ∷ length_octets n in
    let order : start ≤ before = omega (arith, c.if-start-before.false) in
    let end : c.in-Some.end ≡ before + (1 + c.encoded_len-size.result) = omega (arith, c.in-Some.ensures) in
    let size : 1 + c.encoded_len-size.result ≡ length head = omega (arith, c.encoded_len-size.ensures) in
    let fits : before + length head ≤ length old = omega (arith, end, size, c.if-end-out.false) in
    let lc : length content ≡ n = length_range old start before order (omega (arith, fits)) in
    let copied : c.copy_within.new.self ≡ put_over old (start + length head) content =
    c.copy_within.ensures.after
    ∙ append_assoc (take (start + (1 + c.encoded_len-size.result)) old) content
    (drop (start + (1 + c.encoded_len-size.result) + n) old)
    ∙ ap (λ (s : ℕ). take (start + s) old ++ (content ++ drop (start + s + n) old)) size
    ∙ ap (λ (m : ℕ). take (start + length head) old ++ (content ++ drop (start + length head + m) old)) (sym lc) in
    let whole : c.put_header.new.out ≡ put_over old start (head ++ content) =
    c.put_header.ensures.put ∙ ap (λ (o : List ℕ). put_over o start head) copied
    ∙ put_before old head content start (omega (arith, lc, fits, order)) in
    let same : head ++ content ≡ tlv tag content = ap (λ (m : ℕ). (tag ∷ length_octets m) ++ content) (sym lc) in
    let e = length_tlv tag content in
    let octets : length (length_octets (length content)) ≡ length (length_octets n) =
    ap (λ (m : ℕ). length (length_octets m)) lc in
    IsWrapped.wrapped (omega (arith, c.if-end-out.false)) order
    (omega (arith, e, octets, lc, end, c.encoded_len-size.ensures, order)) c.if-not-is_in_order.ensures
    (whole ∙ ap (put_over old start) same) refl
