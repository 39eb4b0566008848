use Rattle.std.proofs.Common.{[], sym, ◌∙◌, arith}
use Rattle.picky_der_de.specs.Facts.{is_lawful}
use Rattle.picky_der_de.proofs.EntryReads.{front_read, consumed_all, is_whole, left_over, no_encoding}
use Rattle.picky_der_de.proofs.WholeRuled.{whole_left_over, whole_refused}
use Rattle.picky_der_de.proofs.whole_input.from_der.Goals as goal

pub returns-then-position-bytes-clause-err : goal.returns-then-position-bytes-clause-err
returns-then-position-bytes-clause-err g c =
    let is = is_lawful g.T.Deserialize.facts g.met.T.Deserialize.proved in
    let slice = c.has_no_faults.ensures in
    let front = front_read g.T.Serialize.meaning g.T.Deserialize.shape slice.left.0 [] c.new_from_reader-de.ensures
    slice.left.1 (sym slice.no_fault) g.T.PartialEq.eq is.sound is.injective _ c.in-Ok.ensures.ok in
    left_over front (c.taken-position.ensures.consumed ∙ consumed_all c.new_from_reader-de.ensures c.in-Ok.ensures.ok)
    is.sound (λ same. omega (arith, same, c.if-position-bytes.true))

pub returns-in-Ok-clause-ok : goal.returns-in-Ok-clause-ok
returns-in-Ok-clause-ok g c =
    let is = is_lawful g.T.Deserialize.facts g.met.T.Deserialize.proved in
    let slice = c.has_no_faults.ensures in
    let front = front_read g.T.Serialize.meaning g.T.Deserialize.shape slice.left.0 [] c.new_from_reader-de.ensures
    slice.left.1 (sym slice.no_fault) g.T.PartialEq.eq is.sound is.injective _ c.in-Ok.ensures.ok in
    let size = c.taken-position.ensures.consumed ∙ consumed_all c.new_from_reader-de.ensures c.in-Ok.ensures.ok in
    is_whole front size (omega (arith, front.reads.within, size, c.if-position-bytes.false))

pub returns-clause-err : goal.returns-clause-err
returns-clause-err g c = no_encoding g.T.Serialize.meaning g.T.Deserialize.shape c.new_from_reader-de.ensures
    c.has_no_faults.ensures.no_fault c.taken-position.ensures.consumed c.in-Err.ensures.err

pub returns-then-position-bytes-clause-refused_by : goal.returns-then-position-bytes-clause-refused_by
returns-then-position-bytes-clause-refused_by g c =
    whole_left_over g.T.Serialize.meaning g.T.Deserialize.shape g.T.Deserialize.facts.rule c.new_from_reader-de.ensures
    c.taken-position.ensures.consumed c.in-Ok.value c.in-Ok.ensures.ok c.if-position-bytes.true

pub returns-clause-refused_by : goal.returns-clause-refused_by
returns-clause-refused_by g c =
    whole_refused g.T.Serialize.meaning g.T.Deserialize.shape g.T.Deserialize.facts.rule c.new_from_reader-de.ensures
    c.taken-position.ensures.consumed c.has_no_faults.ensures.no_fault c.in-Err.ensures.err c.in-Err.ensures.refused_by
