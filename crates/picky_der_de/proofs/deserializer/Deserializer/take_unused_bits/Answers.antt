use Rattle.std.proofs.Common.{◌≡◌, sym, ◌∙◌}
use Rattle.picky_der_core.specs.declared.error.Asn1DerError.TheVariants.{InvalidData, OutOfMemory}
use Rattle.picky_der_de.specs.Wrappers.{count_other}
use Rattle.picky_der_de.proofs.Steps.{fails_after}
use Rattle.picky_der_de.proofs.Contents.{failed_same}
use Rattle.picky_der_de.proofs.deserializer.Deserializer.take_unused_bits.Goals as goal

pub returns-then-branch-ne0-clause-err : goal.returns-then-branch-ne0-clause-err
returns-then-branch-ne0-clause-err g c =
    let f = c.fail.ensures in
    let t = c.in_ok-next_byte.ensures.ok in
    record {
      fails = fails_after t f.fails;
      stops = λ j. count_other c.next_byte.new.self c.in_ok-next_byte.field-0 t c.if-branch-ne0.true f.error
          (failed_same c.next_byte.new.self f.error f.same);
      memory = λ w same m. let q : InvalidData ≡ OutOfMemory = sym f.error ∙ m in cc;
    }
