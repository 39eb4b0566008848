use Rattle.std.proofs.Common.{◌≡◌, ◌+◌, true, false, [], ◌∷◌, ◌++◌, length, Some, arith, refl, sym, ap, ◌∙◌}
use Rattle.std.proofs.Common.{length-append}
use Rattle.std.proofs.lemmas.Bool.{false≢true}
use Rattle.picky_der_ser.specs.State.{Stack}
use Rattle.picky_der_ser.specs.Marks.{held_of, inside_at, pending_at, around_at}
use Rattle.picky_der_ser.specs.Headers.{is_set, own_tag}
use Rattle.picky_der_ser.proofs.LevelMarks.{grown_all, unset, inside-some, opens_member, tag_there}
use Rattle.picky_der_ser.proofs.levels.Levels.open_short.Goals.{then-has_room, else-has_room}
use Rattle.picky_der_ser.proofs.levels.Levels.open_short.Goals as goal

pub returns-clause-yes : goal.returns-clause-yes
returns-clause-yes c = λ yes.
    let old = c.args.self.now in
    let header = c.args.mark.now.header in
    let o = c.self.inside in
    let b = o.bytes.items in
    let q = o.seams.items in
    let tag = c.in-Some.tag in
    let pad = tag ∷ 0x00 ∷ [] in
    let bytes = c.extend_from_slice.new.self.items in
    let place = c.in-Member.is in
    let v = c.self.view_is in
    let more : bytes ≡ b ++ pad =
    grown_all _ b bytes (c.inner.result ∷ 0x00 ∷ []) (c.extend_from_slice.ensures.succeeds (omega arith))
    c.extend_from_slice.ensures.items ∙ ap (λ x. b ++ (x ∷ 0x00 ∷ [])) c.inner.ensures in
    let at : c.len-at.result ≡ length b = omega arith in
    let start : c.len.result ≡ length bytes = omega arith in
    let no_seams : c.len-first_seam.result ≡ length q = omega arith in
    let room : c.len.result ≡ c.len-at.result + 2 = omega (arith, at, start, ap length more, length-append b pad) in
    let own : own_tag true header ≡ Some tag = sym c.own_tag-own.ensures ∙ c.in-Some.is in
    let ready : c.if-has_room.mark ≡ true → is_set header ≡ false = elim c.if-has_room.branch [
      | then-has_room w ↦ unset w.is_set.result _ _ w.is_set.ensures w.mark-is
      | else-has_room w ↦ λ e. absurd (false≢true (sym w.if-has_room.false ∙ (sym w.mark-is ∙ e)))
    ] in
    let was : old.inside ≡ inside_at o.place o.kept o.kept_seams (held_of b q) = sym (ap (λ (s : Stack). s.inside) v) in
    let around : [] ≡ old.around =
    sym (ap (λ p. around_at p o.wrapper) place) ∙ ap (λ (s : Stack). s.around) v in
    opens_member _ old o.place o.kept o.kept_seams o.wrapper b q pad bytes more at start no_seams
    (ap (λ p. pending_at p (held_of b q)) place) was around tt c.requires ready
    (λ e. tag_there _ b q tag at refl refl room own) (inside-some o.place _ _ _ old.inside place was) refl
