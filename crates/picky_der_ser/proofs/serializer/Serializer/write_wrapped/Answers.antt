use Rattle.std.proofs.Common.{◌≡◌, [], ◌∷◌, None, refl, rules}
use Rattle.picky_der_ser.specs.State.{State}
use Rattle.picky_der_ser.proofs.WrapWrites.{writes-wrapped, fails-wrapped, fails-past}
use Rattle.picky_der_ser.proofs.LevelMarks.{state_with}
use Rattle.picky_der_ser.proofs.serializer.Serializer.write_wrapped.Goals as goal

pub returns-clause-wrote : goal.returns-clause-wrote
returns-clause-wrote g c =
    let s = c.self.inside in
    let k = c.wrap.new.self in
    let old = state_with s.sink s.failed s.levels in
    let now = state_with s.sink s.failed k in
    let bare : old.around ≡ [] = c.if-not-is_bare.ensures.yes refl in
    let is : now ≡ record old { around = c.args.wrapper ∷ []; pending = None } = rw c.wrap.ensures refl in
    rw (← c.self.view_is) (writes-wrapped g.W.WriteExt c.args.wrapper (g.T.Serialize.meaning c.args.value.now) old now
    c.serialize.new.ser c.serialize.result bare is c.serialize.ensures.wrote)

pub returns-clause-failed : goal.returns-clause-failed
returns-clause-failed g c =
    let s = c.self.inside in
    let k = c.wrap.new.self in
    let old = state_with s.sink s.failed s.levels in
    let now = state_with s.sink s.failed k in
    let bare : old.around ≡ [] = c.if-not-is_bare.ensures.yes refl in
    let is : now ≡ record old { around = c.args.wrapper ∷ []; pending = None } = rw c.wrap.ensures refl in
    rw (← c.self.view_is) (fails-wrapped g.W.WriteExt c.args.wrapper (g.T.Serialize.meaning c.args.value.now) old now
    c.serialize.new.ser c.serialize.result bare is c.serialize.ensures.failed)

pub returns-then-not-has_tag_number-clause-failed :
    goal.returns-then-not-has_tag_number-clause-failed
returns-then-not-has_tag_number-clause-failed g c =
    let f : c.args.self.now.failed ≡ None = search rules in
    rw (c.fail.ensures.same, c.fail.ensures.error) (fails-past g.W.WriteExt c.args.wrapper
    (g.T.Serialize.meaning c.args.value.now) c.args.self.now (c.if-not-has_tag_number.ensures.no refl) f)
