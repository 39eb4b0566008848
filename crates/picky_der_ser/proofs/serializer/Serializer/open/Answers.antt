use Rattle.std.proofs.Common.{refl, ap}
use Rattle.picky_der_ser.specs.State.{Stack}
use Rattle.picky_der_ser.proofs.LevelWrites.{level_opened, level_open, open_unless}
use Rattle.picky_der_ser.proofs.LevelMarks.{state_with}
use Rattle.picky_der_ser.proofs.serializer.Serializer.open.Goals as goal

pub returns : goal.returns
returns g c =
    let s = c.self.inside in
    let l = c.open.new.self in
    let m = c.open.result in
    let old = state_with s.sink s.failed s.levels in
    let new = state_with s.sink s.failed l in
    record {
      opened = rw (← c.self.view_is) (level_opened g.W.WriteExt c.args.header m old new c.open.ensures refl refl);
      still_open = open_unless m s.failed l.inside l.pending
          (level_open g.W.WriteExt c.args.header m old new c.open.ensures);
      bare = ap (λ (x : Stack). x.around) c.open.ensures.is;
    }
