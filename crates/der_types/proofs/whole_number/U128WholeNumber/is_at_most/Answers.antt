use Rattle.std.specs.Int.{w128}
use Rattle.std.proofs.lemmas.Int.{to_z-of_z}
use Rattle.der_types.specs.ConstraintLaws.{negative_ge, unsigned_ge}
use Rattle.der_types.proofs.whole_number.U128WholeNumber.is_at_most.Goals as goal

pub returns-in-Ok : goal.returns-in-Ok
returns-in-Ok c =
    let own = to_z-of_z w128 c.args.most c.ranges.most in
    unsigned_ge c.args.most c.args.self.now c.in-Ok.bound (rw own at c.in-Ok.ensures.0) (rw own at c.in-Ok.ensures.1)

pub returns-in-Err : goal.returns-in-Err
returns-in-Err c =
    let own = to_z-of_z w128 c.args.most c.ranges.most in
    negative_ge c.args.most c.args.self.now (rw own at c.in-Err.ensures)
