use Rattle.std.proofs.Common.{◌≡◌, ◌≢◌, ℕ, true, false, List, [], ◌++◌, length, None, arith, refl, sym, ap, ◌∙◌}
use Rattle.std.proofs.lemmas.Bool.{false≢true}
use Rattle.std.proofs.lemmas.Bool.Decides.{nat_tests}
use Rattle.picky_der_ser.specs.State.{Stack}
use Rattle.picky_der_ser.specs.Marks.{held_of, inside_at}
use Rattle.picky_der_ser.specs.Headers.{is_set}
use Rattle.picky_der_ser.proofs.LevelMarks.{grown, unset, inside-none, opens_member, opens_outside}
use Rattle.picky_der_ser.proofs.levels.Levels.open_any.Goals.{then-has_room, else-has_room}
use Rattle.picky_der_ser.proofs.levels.Levels.open_any.Goals.{then-has_room-2, else-has_room-2}
use Rattle.picky_der_ser.proofs.levels.Levels.open_any.Goals.{then-is_inside, else-is_inside}
use Rattle.picky_der_ser.proofs.levels.Levels.open_any.Goals as goal

pub returns : goal.returns
returns c =
    let old = c.args.self.now in
    let i = c.if-has_room.self-inside in
    let o = c.self.inside in
    let b = o.bytes.items in
    let q = o.seams.items in
    let v = c.self.view_is ∙ c.give_up.ensures in
    let more : (pad : List ℕ) × (i.bytes.items ≡ b ++ pad) = elim c.if-has_room.branch [
      | then-has_room w ↦
          let e = grown _ b w.extend_from_slice.new.self.items _ w.extend_from_slice.ensures.items in
          (e.0, rw w.self-inside-is e.1)
      | else-has_room w ↦ grown false b i.bytes.items [] (rw w.self-inside-is refl)
    ] in
    let seams : i.seams.items ≡ q = elim c.if-has_room.branch [
      | then-has_room w ↦ rw w.self-inside-is refl
      | else-has_room w ↦ rw w.self-inside-is refl
    ] in
    let place : i.place ≡ o.place = elim c.if-has_room.branch [
      | then-has_room w ↦ rw w.self-inside-is refl
      | else-has_room w ↦ rw w.self-inside-is refl
    ] in
    let ready : c.if-has_room-2.mark ≡ true → is_set c.args.mark.now.header ≡ false = elim c.if-has_room-2.branch [
      | then-has_room-2 w ↦ unset w.is_set.result _ _ w.is_set.ensures w.mark-is
      | else-has_room-2 w ↦ λ e. let test = sym w.mark-is ∙ e in absurd (grind (arith, nat_tests))
    ] in
    let around = c.around-around.ensures.around ∙ ap (λ (s : Stack). s.around) c.give_up.ensures in
    let was : old.inside ≡ inside_at o.place o.kept o.kept_seams (held_of b q) = sym (ap (λ (s : Stack). s.inside) v) in
    let none = ap (λ (s : Stack). s.pending) v in
    let at : c.len-at.result ≡ length b = omega arith in
    let start : c.len.result ≡ length i.bytes.items = omega arith in
    let no_seams : c.len-first_seam.result ≡ length q = omega arith in
    let numbers = c.around-around.ensures.numbers in
    elim c.if-is_inside.branch [
      | then-is_inside w ↦
          let some : old.inside ≢ None = λ e. c.is_inside.ensures.yes w.if-is_inside.true
          (inside-none o.place i.place _ _ _ _ _ _ place (sym was ∙ e)) in
          rw seams (opens_member _ old o.place o.kept o.kept_seams i.wrapper b q more.0 _ more.1 at start no_seams none
          was around numbers c.requires ready (λ e. absurd (false≢true e)) some w.place-is)
      | else-is_inside w ↦
          let empty : old.inside ≡ None = was ∙ inside-none i.place o.place _ _ _ _ _ _ (sym place)
          (c.is_inside.ensures.no w.if-is_inside.false) in
          rw seams (opens_outside _ old o.place o.kept o.kept_seams i.wrapper b q more.0 _ more.1 at start no_seams none
          was around numbers c.requires ready (λ e. absurd (false≢true e)) empty w.place-is)
    ]
