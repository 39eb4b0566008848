use Rattle.std.proofs.Common.{◌≡◌, ◌≤◌, ◌<◌, ◌+◌, ◌-◌, true, [], length, None, Some, arith, rules, tests, sym, ap}
use Rattle.std.proofs.Common.{◌∙◌}
use Rattle.std.proofs.Math.ListN.{set}
use Rattle.picky_der_core.specs.Encoding.{der}
use Rattle.picky_der_core.specs.OpenWrappers.{under}
use Rattle.picky_der_ser.specs.Headers.{tree_of, wrappers}
use Rattle.picky_der_ser.specs.State.{Stack, final_content}
use Rattle.picky_der_ser.specs.Marks.{level_at, held_of, enclosed}
use Rattle.picky_der_ser.proofs.LevelMarks.{held_is, opened-by, stack_of}
use Rattle.picky_der_ser.proofs.LevelEnds.{short_count, short_enclosed}
use Rattle.picky_der_ser.proofs.levels.Levels.merge_short.Goals as goal

pub returns-clause-count : goal.returns-clause-count
returns-clause-count c = λ h e.
    let m = c.args.mark.now in
    let b = c.self.inside.bytes.items in
    let q = c.self.inside.seams.items in
    let k = opened-by m c.self.inside.place (held_of b q) _ _ (ap (λ (s : Stack). s.pending) c.self.view_is)
    c.requires in
    let is = held_is (sym k.0 ∙ e) in
    let tagged : m.has_tag ≡ true = search (rules, tests) in
    let uncut : length q ≤ m.first_seam = omega arith in
    let short : length b - m.start < 0x80 = omega arith in
    let len : c.len.result ≡ length b = omega arith in
    ap (λ n. 2 + (n - m.start)) len ∙ short_count m b q k.1.0 tagged uncut short
    ∙ ap (λ x. length (der (under (wrappers m.around) (tree_of m.header (final_content (level_at m x)))))) is

pub returns-clause-some : goal.returns-clause-some
returns-clause-some c = λ h e.
    let m = c.args.mark.now in
    let b = c.self.inside.bytes.items in
    let q = c.self.inside.seams.items in
    let k = opened-by m c.self.inside.place (held_of b q) _ _ (ap (λ (s : Stack). s.pending) c.self.view_is)
    c.requires in
    let is = held_is (sym k.0 ∙ e) in
    let tagged : m.has_tag ≡ true = search (rules, tests) in
    let uncut : length q ≤ m.first_seam = omega arith in
    let short : length b - m.start < 0x80 = omega arith in
    let len : c.len.result ≡ length b = omega arith in
    ap (λ x. stack_of (Some x) None [])
    (ap (λ n. held_of (set b (m.at + 1) (n - m.start)) q) len ∙ short_enclosed m b q k.1.0 tagged uncut short
    ∙ ap (enclosed m) is)
