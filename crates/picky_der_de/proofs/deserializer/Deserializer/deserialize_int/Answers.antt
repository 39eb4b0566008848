use Rattle.std.proofs.lemmas.Result.{MatchResult-weaker}
use Rattle.std.proofs.Common.{subst}
use Rattle.picky_der_core.specs.Primitive.{PrimitiveShape}
use Rattle.picky_der_core.specs.Shape.{Shape}
use Rattle.picky_der_core.specs.Refusal.{int_error}
use Rattle.picky_der_core.specs.IntLaws.{tree-fits, fits-within}
use Rattle.picky_der_de.specs.Reading.{ReadsPlain}
use Rattle.picky_der_de.proofs.deserializer.Deserializer.deserialize_int.Goals as goal

pub returns-clause-ok : goal.returns-clause-ok
returns-clause-ok g c =
    let fits = g.N.Int.fits in
    MatchResult-weaker c.read_plain.result c.read_plain.ensures.ok
    (λ value h. subst (λ t. ReadsPlain 0x02 (int_error fits) (Shape.primitive (PrimitiveShape.bytes 0x02))
    c.args.self.now c.read_plain.new.self t)
    (tree-fits fits (g.N.Int.number value) (fits-within fits (g.N.Int.number value) h.reads.of_shape.1)) h)
    (λ e h. tt)

pub returns-clause-meant : goal.returns-clause-meant
returns-clause-meant g c = MatchResult-weaker c.read_plain.result c.read_plain.ensures.ok (λ value h. h.reads)
    (λ e h. tt)
