use Rattle.std.proofs.Common.{None, subst}
use Rattle.std.proofs.lemmas.Result.{IfOk-weaker}
use Rattle.der_program_base.specs.declared.contents.Contents.TheVariants.{Der, Pem, Other}
use Rattle.der_program_base.specs.Contents.{IsContentsOf}
use Rattle.der.proofs.write_ber.write_from_ber.Goals as goal

pub returns-in-Der : goal.returns-in-Der
returns-in-Der g c =
    let are = subst (IsContentsOf None c.args.input.now) c.in-Der.is c.in_ok-contents_of.ensures in
    IfOk-weaker c.write_der.result _ _ (λ w h. record { contents = Der; are_contents = are; written = h })
    c.write_der.ensures

pub returns-in-Pem : goal.returns-in-Pem
returns-in-Pem g c =
    let are = subst (IsContentsOf None c.args.input.now) c.in-Pem.is c.in_ok-contents_of.ensures in
    IfOk-weaker c.write_only.result _ _
    (λ w h. record { contents = Pem c.in-Pem.blocks; are_contents = are; written = h })
    (rw c.deref.ensures.value at c.write_only.ensures)

pub returns-in-Other : goal.returns-in-Other
returns-in-Other g c =
    let are = subst (IsContentsOf None c.args.input.now) c.in-Other.is c.in_ok-contents_of.ensures in
    IfOk-weaker c.nothing_written.result _ _
    (λ w h. record { contents = Other c.in-Other.guess; are_contents = are; written = h })
    c.nothing_written.ensures
