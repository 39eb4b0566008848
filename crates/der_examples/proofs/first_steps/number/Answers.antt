use Rattle.std.proofs.Common.{◌≡◌, ◌∷◌, [], length, Result, Ok, Err, IfOk, IfErr, refl, ap, subst, arith}
use Rattle.picky_der_core.specs.Primitive.{Primitive}
use Rattle.picky_der_core.specs.declared.error.Asn1DerError.{Asn1DerError}
use Rattle.picky_der_core.specs.declared.error.Asn1DerError.TheVariants.{OutOfMemory}
use Rattle.picky_der_core.specs.Element as element
use Rattle.picky_der_core.specs.Tree.{Tree}
use Rattle.picky_der_core.specs.Encoding.{der}
use Rattle.picky_der_core.specs.Primitive as kinds
use Rattle.picky_der_core.specs.EncodingLaws.{der-primitive}
use Rattle.picky_der_core.specs.Readable.{IsWritable}
use Rattle.picky_der_ser.specs.Calls.{MemoryExcuse, no_room, no_way}
use Rattle.der_examples.proofs.first_steps.number.Goals as goal

of_128 : der (Tree.primitive (Primitive.unsigned 128)) ≡ 0x02 ∷ 0x02 ∷ 0x00 ∷ 0x80 ∷ []
unfolding element.tlv element.length_octets element.big_endian kinds.unsigned_content
of_128 = der-primitive (Primitive.unsigned 128)

-- it can be written, so memory alone can be missing
only_memory : {V : Type 0} (r : Result V Asn1DerError)
    → IfErr r (MemoryExcuse (IsWritable (Tree.primitive (Primitive.unsigned 128)))) → IfErr r (λ e. e ≡ OutOfMemory)
only_memory (Ok v) h = tt
only_memory (Err e) (no_room m) = m
only_memory (Err e) (no_way m n) = absurd (n (record { numbers = refl; fits = omega (arith, ap length of_128) }))

pub returns-clause-ok : goal.returns-clause-ok
returns-clause-ok c = subst (λ bs. IfOk c.to_vec.result (λ bytes. bytes.items ≡ bs)) of_128 c.to_vec.ensures.ok

pub returns-clause-err : goal.returns-clause-err
returns-clause-err c = only_memory c.to_vec.result c.to_vec.ensures.err
