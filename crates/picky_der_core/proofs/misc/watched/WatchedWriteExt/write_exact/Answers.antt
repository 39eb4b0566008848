use Rattle.std.proofs.Common.{◌≡◌, ◌∙◌, [], take, subst, arith}
use Rattle.std.specs.Io.KnownBytes.{Appends}
use Rattle.std.proofs.lemmas.Bool.Decides.{nat_tests}
use Rattle.picky_der_core.specs.Writer.{Appends-keeps, so_far-more, too_few_so_far}
use Rattle.picky_der_core.proofs.misc.watched.WatchedWriteExt.write_exact.Goals as goal

pub loop-rest-preserved : goal.loop-rest-preserved
loop-rest-preserved g c =
    let (same, appended) = c.loop-rest.invariant in
    (c.in-Ok.ensures.no_fault (omega arith) ∙ same, so_far-more c.in-Ok.n appended c.in-Ok.ensures.bytes)

pub returns-in-Ok-eq0-clause-beginning : goal.returns-in-Ok-eq0-clause-beginning
returns-in-Ok-eq0-clause-beginning g c =
    let told = g.T.Write.contents in
    let none : c.in-Ok-eq0.field-0 ≡ 0 = grind (arith, nat_tests) in
    let nothing : Appends (told c.loop-rest.self.inner) (told c.write.new.self.inner) [] =
    subst (λ n. Appends (told c.loop-rest.self.inner) (told c.write.new.self.inner) (take n c.loop-rest.rest.now)) none
    c.in-Ok-eq0.ensures.bytes in
    too_few_so_far _ _ _ _ _ c.loop-rest.invariant.1 (grind (arith, nat_tests)) nothing

pub returns-in-Err-clause-beginning : goal.returns-in-Err-clause-beginning
returns-in-Err-clause-beginning g c = too_few_so_far _ _ _ _ _ c.loop-rest.invariant.1 (grind (arith, nat_tests))
    (Appends-keeps _ _ c.in-Err.ensures.bytes)
