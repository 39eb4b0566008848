use Rattle.std.proofs.Common.{sym, subst, ◌∙◌, string_bytes}
use Rattle.der_c.specs.Paths.{IsPathWritten}
use Rattle.der_c.specs.Writing.{IsPut}
use Rattle.der_c.proofs.path.picky_der_path.Goals as goal

pub returns-in-Ok : goal.returns-in-Ok
returns-in-Ok c =
    let put : IsPut (string_bytes c.in-Ok.path) c.args.out.now c.append.new.out c.args.used.now c.append.new.used
    c.append.result =
    subst (λ bytes. IsPut bytes c.args.out.now c.append.new.out c.args.used.now c.append.new.used c.append.result)
    c.as_bytes.ensures.value c.append.ensures in
    rw (sym c.type_of_number.ensures ∙ c.in-Some.is)
    (IsPathWritten.path (string_bytes c.in-Ok.path) c.in-Ok.ensures put)
