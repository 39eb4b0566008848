use Rattle.std.proofs.Common.{◌≡◌, ◌+◌, ◌-◌, ◌∙◌, sym, arith}
use Rattle.picky_der_de.proofs.Ahead.{short_bytes, short_there}
use Rattle.picky_der_de.proofs.deserializer.ahead.short_at_front.Goals as goal

pub returns : goal.returns
returns c =
    let n = c.from-end.result in
    let same : n + 2 - 2 ≡ n = omega arith in
    let q = short_there c.args.bytes.now c.args.tag n (omega arith) (c.if-bytes-inner.false ∙ c.inner.ensures)
    (sym c.from-end.ensures) in
    rw same (record {
      is = q.1;
      short = omega (arith, q.0);
      bytes =
          short_bytes c.args.bytes.now n (λ i. omega (arith, c.type_inv.bytes i));
    })
