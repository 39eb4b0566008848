use Rattle.std.proofs.Common.{◌≡◌, ◌≤◌, ◌-◌, false, [], ◌++◌, length, drop, arith, refl}
use Rattle.std.proofs.Common.{sym, ap}
use Rattle.std.proofs.Common.{ap₂, ◌∙◌, length-append}
use Rattle.std.proofs.lemmas.List.{drop_all}
use Rattle.picky_der_ser.specs.declared.levels.Mark.{Mark}
use Rattle.picky_der_ser.specs.State.{Stack}
use Rattle.picky_der_ser.specs.Seams.{next_seams}
use Rattle.picky_der_ser.specs.Marks.{held_of}
use Rattle.picky_der_ser.proofs.LevelMarks.{grown, within, unset, opened-by, enters_by}
use Rattle.picky_der_ser.proofs.levels.Levels.enter.Goals.{then-len-mark+in_ok-extend_from_slice, else-len-mark}
use Rattle.picky_der_ser.proofs.levels.Levels.enter.Goals.{then-is_empty+in_ok-reserve, else-is_empty}
use Rattle.picky_der_ser.proofs.levels.Levels.enter.Goals as goal

pub returns : goal.returns
returns c =
    let old = c.args.self.now in
    let m = c.args.mark.now in
    let i = c.if-len-mark.self-inside in
    let n = c.if-len-mark.mark in
    let o = c.self.inside in
    let b = o.bytes.items in
    let q = o.seams.items in
    let p = c.begin_member.new.seams.items in
    let k = opened-by m o.place (held_of b q) _ _ (ap (λ (s : Stack). s.pending) c.self.view_is) c.requires in
    let mark = k.1.0 in
    let fits = within mark in
    let len : c.len-2.result ≡ length i.bytes.items = omega arith in
    let next : p ≡ next_seams n.header i.seams.items (c.len-2.result - n.start) = c.in_ok-begin_member.ensures.ok in
    elim c.if-len-mark.branch [
      | then-len-mark+in_ok-extend_from_slice w ↦
          let s = w.if-is_empty.self-inside in
          let bytes : s.bytes.items ≡ b = elim w.if-is_empty.branch [
            | then-is_empty+in_ok-reserve w' ↦ rw w'.self-inside-is w'.reserve.ensures.items
            | else-is_empty w' ↦ rw w'.self-inside-is refl
          ] in
          let seams : s.seams.items ≡ q = elim w.if-is_empty.branch [
            | then-is_empty+in_ok-reserve w' ↦ rw w'.self-inside-is refl
            | else-is_empty w' ↦ rw w'.self-inside-is refl
          ] in
          let g = grown _ s.bytes.items w.extend_from_slice.new.self.items _ w.extend_from_slice.ensures.items in
          let same_bytes : i.bytes.items ≡ w.extend_from_slice.new.self.items = rw w.self-inside-is refl in
          let more : i.bytes.items ≡ b ++ g.0 = same_bytes ∙ g.1 ∙ ap (λ x. x ++ g.0) bytes in
          let same_start = ap (λ (x : Mark). x.start) w.mark-is in
          let same_seams : i.seams.items ≡ q = rw w.self-inside-is seams in
          let same_header = ap (λ (x : Mark). x.header) w.mark-is in
          let start : n.start ≡ length i.bytes.items = omega (arith, same_start, ap length same_bytes) in
          let last : m.start ≡ length b = omega (arith, mark.room, fits) in
          let longer : length b ≤ length i.bytes.items = omega (arith, ap length more, length-append b g.0) in
          enters_by m n b q g.0 i.bytes.items p old mark
          (w.mark-is ∙ ap (λ (x : Mark). record m { start = x.start; is_ready = x.is_ready }) (sym w.mark-is)) more
          (omega (arith, start, longer, mark.room, fits)) (omega (arith, start))
          (drop_all n.start i.bytes.items (omega (arith, start)) ∙ sym (drop_all m.start b (omega (arith, last))))
          (unset w.is_set.result _ _ w.is_set.ensures (ap (λ (x : Mark). x.is_ready) w.mark-is))
          (λ e. absurd (omega (arith, (mark.has_tag e).room, last)))
          (next ∙ ap (λ h. next_seams h i.seams.items (c.len-2.result - n.start)) same_header
          ∙ ap₂ (λ x l. next_seams m.header x (l - n.start)) same_seams len)
          k.0 k.1.1
      | else-len-mark w ↦
          let same : i.bytes.items ≡ b = rw w.self-inside-is refl in
          let same_seams : i.seams.items ≡ q = rw w.self-inside-is refl in
          let more = grown false b i.bytes.items [] same in
          let same_header = ap (λ (x : Mark). x.header) w.mark-is in
          let start : n.start ≡ m.start = ap (λ (x : Mark). x.start) w.mark-is in
          enters_by m n b q more.0 i.bytes.items p old mark
          (w.mark-is ∙ ap (λ (x : Mark). record m { start = x.start; is_ready = x.is_ready }) (sym w.mark-is)) more.1
          (omega (arith, start, mark.room)) (omega (arith, start, fits, ap length same))
          (ap₂ (λ x y. drop x y) start same)
          (λ e. mark.ready (sym (ap (λ (x : Mark). x.is_ready) w.mark-is) ∙ e))
          (λ e. start)
          (next ∙ ap (λ h. next_seams h i.seams.items (c.len-2.result - n.start)) same_header
          ∙ ap₂ (λ x l. next_seams m.header x (l - n.start)) same_seams len)
          k.0 k.1.1
    ]
