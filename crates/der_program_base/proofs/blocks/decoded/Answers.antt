use Rattle.std.proofs.Common.{Ok, Err, sym, ◌∙◌}
use Rattle.der_program_base.specs.Lines.{texts}
use Rattle.der_program_base.proofs.Sectioning.{headers, no_headers}
use Rattle.der_program_base.proofs.blocks.decoded.Goals as goal

pub returns-then-has_colon : goal.returns-then-has_colon
returns-then-has_colon c = headers (texts c.args.body.now) (sym c.has_colon.ensures ∙ c.if-has_colon.true)

pub returns-in-Ok : goal.returns-in-Ok
returns-in-Ok c =
    no_headers (texts c.args.body.now) c.deref.result.now (Ok c.in-Ok.bytes.items) (sym c.has_colon.ensures
    ∙ c.if-has_colon.false) (c.deref.ensures.value ∙ c.in_ok-text.ensures) c.in-Ok.ensures.ok

pub returns-in-Err-DecodeError : goal.returns-in-Err-DecodeError
returns-in-Err-DecodeError c =
    let failed = rw c.in-Err-DecodeError.field-0-is at c.in-Err-DecodeError.ensures.err in
    no_headers (texts c.args.body.now) c.deref.result.now (Err c.in-Err-DecodeError.field-0-0) (sym c.has_colon.ensures
    ∙ c.if-has_colon.false) (c.deref.ensures.value ∙ c.in_ok-text.ensures) failed
