use Rattle.std.proofs.Common.{◌≡◌, ◌≢◌, true, false, sym, ap, ◌∙◌}
use Rattle.der_tool_lib.specs.Value.{is_memory}
use Rattle.picky_der_core.specs.declared.error.Asn1DerError.TheVariants.{OutOfMemory}
use Rattle.std.proofs.lemmas.Result.{MatchResult-weaker}
use Rattle.der_tool_lib.proofs.NamedAnswers.{writable_read, answers_read, answers_refused}
use Rattle.der_tool_lib.proofs.value.answer_as.Goals as goal

pub hexadecimal-requires : goal.hexadecimal-requires
hexadecimal-requires g c =
    writable_read _ _ c.new_from_bytes-de.ensures c.in-Ok.ensures.ok
    (g.met.T.Named.same_meaning _ c.in-Ok.ensures.ok.of_shape) c.taken-taken.ensures.consumed c.taken-taken.type_inv

pub returns-in_ok-hexadecimal-in-Ok-clause-ok : goal.returns-in_ok-hexadecimal-in-Ok-clause-ok
returns-in_ok-hexadecimal-in-Ok-clause-ok g c =
    MatchResult-weaker c.read_text.result c.read_text.ensures.ok
    (λ text h. answers_read _ c.new_from_bytes-de.ensures c.in-Ok.ensures.ok
    (g.met.T.Named.same_meaning _ c.in-Ok.ensures.ok.of_shape) c.taken-taken.ensures.consumed (c.deref.ensures
    ∙ c.in_ok-hexadecimal-in-Ok.ensures.ok) h)
    (λ e h. tt)

pub returns-in-Err-2-clause-ok : goal.returns-in-Err-2-clause-ok
returns-in-Err-2-clause-ok g c =
    let same : c.in-Err.error ≡ c.in-Err-2.error = let e = sym c.in-Err.is ∙ c.in-Err-2.is in cc in
    let told : is_memory c.in-Err.error ≡ false = sym c.is_out_of_memory.ensures ∙ c.if-is_out_of_memory.false in
    let memory : c.in-Err-2.error ≢ OutOfMemory = λ q. let yes : is_memory c.in-Err.error ≡ true =
    ap is_memory (same ∙ q) in let no : true ≡ false = sym yes ∙ told in cc in
    MatchResult-weaker c.refused_text.result c.refused_text.ensures.ok
    (λ text h. answers_refused _ c.new_from_bytes-de.ensures (sym c.into_reader.ensures.faults) memory
    c.in-Err-2.ensures.err h)
    (λ e h. tt)
