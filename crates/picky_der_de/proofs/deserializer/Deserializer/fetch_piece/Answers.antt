use Rattle.std.proofs.Common.{◌≡◌, ◌∙◌, ◌≤◌, ◌<◌, None, length, take, sym, ap, refl, arith, length-take, rules}
use Rattle.picky_der_de.specs.State.{State}
use Rattle.picky_der_de.proofs.Contents.{given_piece}
use Rattle.picky_der_de.proofs.Refusals.{StopsAt, read_fails, read_missing, fault}
use Rattle.picky_der_de.proofs.deserializer.Deserializer.fetch_piece.Goals as goal

pub returns-in-Ok-clause-ok : goal.returns-in-Ok-clause-ok
returns-in-Ok-clause-ok g c =
    let e = c.in-Ok.ensures in
    let was_unpeeked : c.self.inside.reader.peeked ≡ None = ap (λ (s : State). s.peeked) c.self.view_is
    ∙ c.requires.unpeeked in
    let had_not_failed : c.self.inside.failed ≡ None = ap (λ (s : State). s.failed) c.self.view_is
    ∙ c.requires.had_not_failed in
    let size : length (take c.min-most.result c.args.piece.now) ≡ c.min-most.result =
    omega (arith, length-take c.min-most.result c.args.piece.now, c.min-most.ensures) in
    let most : c.in-Ok.count ≤ c.min-most.result = omega (arith, size, e.bound.0, c.read_some.auto.buf) in
    let position : 0 < length (take c.min-most.result c.args.piece.now) =
    omega (
      arith,
      size,
      c.min-most.ensures,
      c.min.ensures,
      c.if-self-eq0.false,
      c.requires.some_left,
      c.requires.some_room,
    ) in
    let fits : c.in-Ok.count ≤ c.self.inside.until_end = omega (arith, most, c.min-most.ensures, c.min.ensures) in
    let some : 0 < c.in-Ok.count = omega (arith, c.in-Ok.count-test.1) in
    rw (← c.self.view_is)
    (given_piece c.read_some.new.buf _
    (record {
      input = e.bytes.0;
      count = sym e.bound.1;
      fits = fits;
      small = c.self.invariant.0;
      consumed =
          e.pos;
      until_end = refl;
      end = refl;
      limit = refl;
      last = refl;
      was_unpeeked = was_unpeeked;
      unpeeked =
          e.unpeeked position;
      had_not_failed = had_not_failed;
      not_failed = had_not_failed;
      faults = e.no_fault;
      references = e.same_references;
    })
    e.bound.0 (λ i. let byte = c.type_inv.piece i in omega arith) some
    (omega (arith, most, c.min-most.ensures, c.min.ensures)))

failed : (g : _) (c : goal.After-fault g) → StopsAt c.args.self.now c.fault.new.self c.fault.result
failed g c =
    let e = c.in-Err.ensures in
    let was_unpeeked : c.self.inside.reader.peeked ≡ None = ap (λ (s : State). s.peeked) c.self.view_is
    ∙ c.requires.unpeeked in
    let had_not_failed : c.self.inside.failed ≡ None = ap (λ (s : State). s.failed) c.self.view_is
    ∙ c.requires.had_not_failed in
    rw (← c.self.view_is) (record {
      had_not_failed = had_not_failed;
      unpeeked = was_unpeeked;
      input =
          rw c.fault.ensures.same e.bytes;
      same = search rules;
      why =
          fault c.in-Err.error c.fault.ensures.error (rw c.fault.ensures.same e.fault);
    })

pub returns-in-Err-clause-err : goal.returns-in-Err-clause-err
returns-in-Err-clause-err g c = read_fails (failed g c)

pub returns-in-Err-clause-missing : goal.returns-in-Err-clause-missing
returns-in-Err-clause-missing g c = λ f same. read_missing (failed g c) (rw (← c.self.view_is) (omega arith)) same
