use Rattle.std.proofs.Common.{◌≡◌, ◌-◌, ◌++◌, [], length, take, drop, Some, arith, refl, sym, ap, ◌∙◌}
use Rattle.std.proofs.lemmas.List.{take_all, drop_all, length-drop}
use Rattle.std.specs.List.{concat}
use Rattle.picky_der_core.specs.Order.{in_ascending_order}
use Rattle.picky_der_ser.specs.Seams.{cut_at_seams}
use Rattle.picky_der_ser.specs.State.{Stack, final_content}
use Rattle.picky_der_ser.specs.Marks.{level_at, held_of, enclosed}
use Rattle.picky_der_ser.proofs.LevelMarks.{held_is, opened-by, stack_of}
use Rattle.picky_der_ser.proofs.LevelEnds.{ok_then, arranged_bytes, enclosed_stack}
use Rattle.picky_der_ser.proofs.ListBytes.{final_content-uncut}
use Rattle.picky_der_ser.proofs.levels.Levels.enclose.Goals.{then-mark-len+in_ok-arrange, else-mark-len}
use Rattle.picky_der_ser.proofs.levels.Levels.enclose.Goals as goal

pub returns : goal.returns
returns c =
    let m = c.args.mark.now in
    let o = c.self.inside in
    let b = o.bytes.items in
    let q = o.seams.items in
    let i = c.if-mark-len.self-inside in
    let h = held_of b q in
    let l = level_at m h in
    let was = ap (λ (s : Stack). s.inside) c.self.view_is in
    let pending = ap (λ (s : Stack). s.pending) c.self.view_is in
    let k = opened-by m o.place h _ _ pending c.requires in
    let mark = k.1.0 in
    let place : i.place ≡ o.place = elim c.if-mark-len.branch [
      | then-mark-len+in_ok-arrange w ↦ rw w.self-inside-is refl
      | else-mark-len w ↦ rw w.self-inside-is refl
    ] in
    let seams : i.seams.items ≡ take m.first_seam q = elim c.if-mark-len.branch [
      | then-mark-len+in_ok-arrange w ↦ rw w.self-inside-is w.truncate.ensures.items
      | else-mark-len w ↦ rw w.self-inside-is (sym (take_all m.first_seam q (omega arith)))
    ] in
    let parts : (take m.at i.bytes.items ≡ take m.at b) × (drop m.start i.bytes.items ≡ final_content l) =
    elim c.if-mark-len.branch [
      | then-mark-len+in_ok-arrange w ↦
          let d = w.deref.result.now in
          let own : take (length d - m.first_seam) (drop m.first_seam d) ≡ drop m.first_seam q =
          take_all (length d - m.first_seam) (drop m.first_seam d) (omega (arith, length-drop m.first_seam d))
          ∙ ap (drop m.first_seam) w.deref.ensures.value in
          arranged_bytes m h i.bytes.items (final_content l) mark (rw w.self-inside-is (w.in_ok-arrange.ensures.ok
          ∙ ap (λ s. take m.start b ++ concat (in_ascending_order (cut_at_seams s (drop m.start b)))) own))
      | else-mark-len w ↦
          let same : i.bytes.items ≡ b = rw w.self-inside-is refl in (
            ap (take m.at) same,
            ap (drop m.start) same ∙ sym (final_content-uncut l (drop_all m.first_seam q (omega arith))),
          )
    ] in
    ok_then c.put_headers.result (λ bytes. λ x e. enclosed_stack m h i.bytes.items c.put_headers.new.out.items
    i.seams.items o.place i.place o.kept o.kept_seams i.wrapper _ mark parts bytes seams place was k.1.1 (pending ∙ k.0)
    ∙ ap (λ v. stack_of c.args.self.now.inside (Some (enclosed m v)) [])
    (held_is (sym k.0 ∙ e))) c.put_headers.ensures
