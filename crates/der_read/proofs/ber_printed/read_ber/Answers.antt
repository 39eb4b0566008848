use Rattle.std.proofs.Common.{◌≡◌, subst, rules}
use Rattle.serde_json.specs.Data.{Data, null}
use Rattle.serde_json.specs.View.{view}
use Rattle.serde_json.specs.declared.value.Value.{Null, the_lemmas}
use Rattle.der_read.specs.BerMessages.{IsInDer}
use Rattle.der_read.specs.BerPrinted.{IsNoBer, IsRefusalOfBer, ber_offset_data, no_der_text, no_table_text}
use Rattle.der_read.proofs.ber_printed.read_ber.Goals as goal

null-view : view Null ≡ null
null-view = search (rules, the_lemmas)

pub message_in_ber-requires : goal.message_in_ber-requires
message_in_ber-requires c = subst (IsInDer c.args.named c.args.bytes.now) c.in-Message.is c.in_ok-der.ensures

pub returns-in_ok-printed-in-NoSchema : goal.returns-in_ok-printed-in-NoSchema
returns-in_ok-printed-in-NoSchema c =
    let printed = c.in_ok-printed-in-NoSchema.printed in
    let said : c.deref.result.now ≡ no_table_text c.args.named = search rules in
    let words : IsRefusalOfBer c.args.format c.args.file.now c.args.block null c.deref.result.now printed =
    subst (λ (d : Data). IsRefusalOfBer c.args.format c.args.file.now c.args.block d c.deref.result.now printed)
    null-view c.in_ok-printed-in-NoSchema.ensures in
    IsNoBer.without_table (subst (IsInDer c.args.named c.args.bytes.now) c.in-NoSchema.is c.in_ok-der.ensures)
    (subst (λ text. IsRefusalOfBer c.args.format c.args.file.now c.args.block null text printed) said words)

pub returns-in_ok-printed-in-Refused : goal.returns-in_ok-printed-in-Refused
returns-in_ok-printed-in-Refused c =
    let e = c.in-Refused.error in
    let printed = c.in_ok-printed-in-Refused.printed in
    let said : c.deref-in-Refused.result.now ≡ no_der_text c.args.named e = search rules in
    let words : IsRefusalOfBer c.args.format c.args.file.now c.args.block (ber_offset_data e)
    c.deref-in-Refused.result.now printed =
    subst (λ d. IsRefusalOfBer c.args.format c.args.file.now c.args.block d c.deref-in-Refused.result.now printed)
    c.refusal_offset.ensures c.in_ok-printed-in-Refused.ensures in
    IsNoBer.refused e (subst (IsInDer c.args.named c.args.bytes.now) c.in-Refused.is c.in_ok-der.ensures)
    (subst (λ text. IsRefusalOfBer c.args.format c.args.file.now c.args.block (ber_offset_data e) text printed) said
    words)
