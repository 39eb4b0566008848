use Rattle.std.proofs.Common.{arith, rules, ◌≡◌, ap, ◌∙◌, subst, ◌⊎◌, Ok, Err, IfOk, IfErr}
use Rattle.std.proofs.lemmas.Grind.{common_steps}
use Rattle.std.proofs.lemmas.Fn.{filter_same}
use Rattle.hex.specs.Hex.{decode_of}
use Rattle.hex.specs.declared.error.FromHexError.TheVariants.{OutOfMemory}
use Rattle.der_fixtures.specs.Hexadecimal.{without_spaces}
use Rattle.der_fixtures.proofs.hexadecimal.bytes_of.Goals as goal

pub returns-clause-ok : goal.returns-clause-ok
returns-clause-ok c =
    let kept : c.retain.new.self.items ≡ without_spaces c.extend_from_slice.new.self.items =
    filter_same _ _ _ (λ x b f' k. search rules) _ _ c.retain.ensures.filtered in
    let digits : c.retain.new.self.items ≡ without_spaces c.args.text.now =
    let same : c.extend_from_slice.new.self.items ≡ c.args.text.now = grind (arith, common_steps) in
    kept ∙ ap without_spaces same in
    subst (λ ds. IfOk c.decode.result (λ bytes. decode_of ds ≡ Ok bytes.items)) digits c.decode.ensures.ok

pub returns-clause-err : goal.returns-clause-err
returns-clause-err c =
    let kept : c.retain.new.self.items ≡ without_spaces c.extend_from_slice.new.self.items =
    filter_same _ _ _ (λ x b f' k. search rules) _ _ c.retain.ensures.filtered in
    let digits : c.retain.new.self.items ≡ without_spaces c.args.text.now =
    let same : c.extend_from_slice.new.self.items ≡ c.args.text.now = grind (arith, common_steps) in
    kept ∙ ap without_spaces same in
    subst (λ ds. IfErr c.decode.result (λ e. (e ≡ OutOfMemory) ⊎ (decode_of ds ≡ Err e))) digits c.decode.ensures.err
