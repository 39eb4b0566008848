use Rattle.std.proofs.Common.{◌^◌, ◌<◌, length, rules, sym, ap, ◌∙◌, subst, arith}
use Rattle.picky_der_core.specs.Primitive.{Primitive, PrimitiveShape}
use Rattle.picky_der_core.specs.declared.error.Asn1DerError.TheVariants.{InvalidData}
use Rattle.picky_der_core.specs.Tree.{Tree}
use Rattle.picky_der_core.specs.Shape.{Shape}
use Rattle.picky_der_de.specs.Reading.{ReadsPlain}
use Rattle.picky_der_de.proofs.PassedOn.{passed_on, refusal_passed_on}
use Rattle.der_types.specs.ContentTests.{test_error, content_rule, RefusesContent}
use Rattle.picky_der_de.specs.RefusesBy.{RefusesBy}
use Rattle.der_types.proofs.ContentReads.{reads_judged, refuses_judged, refuses_before, passes, fails}
use Rattle.der_types.proofs.contents.read_contents_under.Given.{Over}
use Rattle.der_types.proofs.contents.read_contents_under.Goals as goal
use Rattle.der_types.proofs.contents.read_contents_under.Goals.{In_err-bytes, After-refuse}

before : (g : Over) (c : In_err-bytes g) → RefusesContent g.T.Contents.content c.args.tag g.T.Contents.is_content
    c.args.de.now c.deserialize_tagged_bytes.new.self c.in_err-bytes.field-0.0
before g c = refuses_before g.T.Contents.content (test_error g.T.Contents.is_content) c.in_err-bytes.ensures.err

pub returns-in_err-bytes-clause-err : goal.returns-in_err-bytes-clause-err
returns-in_err-bytes-clause-err g c =
    refusal_passed_on _ c.from_residual.ensures.1 (search rules) (before g c.before).refuses

pub returns-in_err-bytes-clause-refused : goal.returns-in_err-bytes-clause-refused
returns-in_err-bytes-clause-refused g c =
    passed_on (λ s e. RefusesContent g.T.Contents.content c.args.tag g.T.Contents.is_content c.args.de.now s e) _
    c.from_residual.ensures.1 (search rules) (before g c.before)

pub returns-in-Some-clause-read : goal.returns-in-Some-clause-read
returns-in-Some-clause-read g c =
    let bytes = c.in_ok-bytes.bytes in
    let is = c.in-Some.ensures.some in
    let small : length bytes.items < 2 ^ 64 = omega (arith, bytes.small, bytes.ok) in
    let read = c.in_ok-bytes.ensures.ok in
    let good = ap g.T.Contents.is_content (sym is) ∙ g.met.T.Contents.valid c.in-Some.value in
    subst (λ x. ReadsPlain c.args.tag (test_error g.T.Contents.is_content)
    (Shape.primitive (PrimitiveShape.bytes c.args.tag)) c.args.de.now c.deserialize_tagged_bytes.new.self
    (Tree.primitive (Primitive.bytes c.args.tag x))) (sym is)
    (reads_judged (test_error g.T.Contents.is_content) read.reads.readable.0 small
    (passes g.T.Contents.is_content bytes.items good) read.reads)

none : (g : Over) (c : After-refuse g) → RefusesContent g.T.Contents.content c.args.tag g.T.Contents.is_content
    c.args.de.now c.refuse.new.self c.refuse.result
none g c =
    let bytes = c.in_ok-bytes.bytes in
    let small : length bytes.items < 2 ^ 64 = omega (arith, bytes.small, bytes.ok) in
    let read = c.in_ok-bytes.ensures.ok in
    refuses_judged g.T.Contents.content (test_error g.T.Contents.is_content) InvalidData read.reads.readable.0 small
    (λ e. cc)
    (λ v. passes g.T.Contents.is_content (g.T.Contents.content v) (g.met.T.Contents.valid v))
    (fails g.T.Contents.is_content bytes.items c.in-None.ensures.none) read.reads c.refuse.ensures.is
    c.refuse.ensures.fails

pub returns-in-None-clause-refused : goal.returns-in-None-clause-refused
returns-in-None-clause-refused g c = none g c

pub returns-in-None-clause-err : goal.returns-in-None-clause-err
returns-in-None-clause-err g c = (none g c).refuses

pub returns-in_err-bytes-clause-refused_by : goal.returns-in_err-bytes-clause-refused_by
returns-in_err-bytes-clause-refused_by g c =
    passed_on (RefusesBy (content_rule c.args.tag g.T.Contents.is_content) c.args.de.now) _
    c.from_residual.ensures.1 (search rules) (before g c.before).by

pub returns-in-None-clause-refused_by : goal.returns-in-None-clause-refused_by
returns-in-None-clause-refused_by g c = (none g c).by
