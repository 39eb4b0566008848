use Rattle.std.proofs.Common.{◌^◌, ◌<◌, length, subst, arith, IfErr}
use Rattle.picky_der_core.specs.Primitive.{Primitive, PrimitiveShape}
use Rattle.picky_der_core.specs.Tree.{Tree}
use Rattle.picky_der_core.specs.Shape.{Shape}
use Rattle.picky_der_de.specs.Reading.{Refuses}
use Rattle.der_types.specs.ContentTests.{test_error, content_rule}
use Rattle.picky_der_de.specs.RefusesBy.{RefusesBy}
use Rattle.der_types.proofs.ContentReads.{reads_judged, passes}
use Rattle.der_types.proofs.contents.deserialize_contents_under.Goals as goal

pub returns-in-Some-clause-read : goal.returns-in-Some-clause-read
returns-in-Some-clause-read g c =
    let made = c.in-Some.field-0.0 in
    let content = g.T.Contents.content made in
    let read = c.in-Some.ensures.read in
    let small : length content < 2 ^ 64 = omega (arith, c.in-Some.ensures.short) in
    reads_judged (test_error g.T.Contents.is_content) read.reads.readable.0 small
    (passes g.T.Contents.is_content content (g.met.T.Contents.valid made)) read.reads

pub returns-in-None-clause-err : goal.returns-in-None-clause-err
returns-in-None-clause-err g c =
    subst (λ state. IfErr c.read_contents_under.result
    (Refuses (λ it. Tree.primitive (Primitive.bytes c.args.tag (g.T.Contents.content it)))
    (Shape.primitive (PrimitiveShape.bytes c.args.tag)) state c.read_contents_under.new.de)) c.in-None.ensures.none
    c.read_contents_under.ensures.err

pub returns-in-None-clause-refused_by : goal.returns-in-None-clause-refused_by
returns-in-None-clause-refused_by g c =
    subst (λ state. IfErr c.read_contents_under.result
    (RefusesBy (content_rule c.args.tag g.T.Contents.is_content) state
    c.read_contents_under.new.de)) c.in-None.ensures.none c.read_contents_under.ensures.refused_by
