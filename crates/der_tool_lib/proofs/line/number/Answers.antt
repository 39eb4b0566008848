use Rattle.std.proofs.Common.{◌≡◌, Ok, true, subst, sym, ◌∙◌}
use Rattle.std.proofs.lemmas.Bool.Decides.{Decides-eqb}
use Rattle.std.proofs.lemmas.Slice.Eq.{slice_eq-Decides}
use Rattle.std.proofs.lemmas.Fmt.{parse-decimal, IsAscii-decimal}
use Rattle.std.proofs.lemmas.Str.{IsUtf8-from_ascii}
use Rattle.std.specs.Str.{IsUtf8}
use Rattle.der_tool_lib.proofs.line.number.Goals as goal

pub returns-in_default : goal.returns-in_default
returns-in_default c n h =
    c.in_default.ensures.cases.0 (subst IsUtf8 (sym h.1) (IsUtf8-from_ascii _ (IsAscii-decimal n h.0)))

pub returns-in_default-parse : goal.returns-in_default-parse
returns-in_default-parse c n h =
    let read : c.parse.result ≡ Ok n =
    parse-decimal 64 n _ _ h.0 h.0 (c.in-Ok.ensures.cases.0 ∙ h.1) c.parse.ensures.value.0 in
    cc

pub returns-else-eq : goal.returns-else-eq
returns-else-eq c n h =
    let read : c.parse.result ≡ Ok n =
    parse-decimal 64 n _ _ h.0 h.0 (c.in-Ok.ensures.cases.0 ∙ h.1) c.parse.ensures.value.0 in
    let same : c.in-Ok-parse.n ≡ n = cc in
    let printed : c.as_bytes.result.now ≡ c.args.digits.now = cc in
    let equal : c.eq.result ≡ true = (slice_eq-Decides Decides-eqb _ _ _ c.eq.ensures).1 printed in
    cc
