use Rattle.std.proofs.Common.{◌≡◌, None, refl, ap, ◌∙◌, subst, rules}
use Rattle.picky_der_ser.specs.Headers.{wrappers}
use Rattle.picky_der_ser.specs.State.{Stack}
use Rattle.picky_der_ser.specs.Calls.{Writes}
use Rattle.picky_der_ser.proofs.LevelMarks.{state_with, bare_state, member_added, member_open, member_bare}
use Rattle.picky_der_ser.proofs.LevelWrites.{open_unless}
use Rattle.picky_der_ser.proofs.serializer.Serializer.write_member_in.Goals.{in-Some, in_default}
use Rattle.picky_der_ser.proofs.serializer.Serializer.write_member_in.Goals as goal

pub returns : goal.returns
returns g c =
    let s = c.enter.new.self in
    let z = c.self-2.inside in
    let t = g.T.Serialize.meaning c.args.value.now in
    let ws = wrappers c.args.around in
    let v = state_with z.sink z.failed z.levels in
    let new = state_with z.sink z.failed c.leave.new.self in
    let count = c.in_ok-count.count in
    let e = c.in_ok-enter.ensures.ok in
    let bare = bare_state s (ap (λ (x : Stack). x.around) e.entered.is) (ap (λ (x : Stack). x.pending) e.entered.is) in
    let same : c.match-around.self
    ≡ record { sink = s.sink; around = ws; failed = s.failed; inside = s.inside; pending = None } =
    elim c.match-around.branch [
      | in-Some w ↦ rw (w.self-is, w.in-Some.is, w.wrap.ensures, ← c.self.view_is) refl
      | in_default w ↦
          let none : c.args.around ≡ None = search rules in
          rw none (w.self-is ∙ bare)
    ] in
    let wrote : Writes g.W.WriteExt t
    (record { sink = s.sink; around = ws; failed = s.failed; inside = s.inside; pending = None }) count v =
    subst (λ x. Writes g.W.WriteExt t x count v) same
    (rw (← c.self-2.view_is) at c.in_ok-count.ensures.wrote) in
    let m = c.args.mark.now in
    let n = c.enter.new.mark in
    let left = c.leave.ensures in
    record {
      added = member_added g.W.WriteExt m n t c.args.self.now s v new ws count e wrote left refl refl;
      count = search rules;
      still_open = open_unless n z.failed new.inside new.pending
          (member_open g.W.WriteExt m n t c.args.self.now s v new ws count e wrote left);
      bare = member_bare g.W.WriteExt m n t c.args.self.now s v new ws count e wrote left;
      err = search rules;
    }
