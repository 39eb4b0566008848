-- What calls refuse has no DER, and is no message.
use Rattle.std.proofs.Common.{◌≡◌, ◌≢◌, ℕ, List, [], ◌++◌, Some, None, sym, ap, ◌∙◌, subst, append-nil, arith}
use Rattle.picky_der_core.specs.Element.{tlv}
use Rattle.picky_der_core.specs.ElementLaws.{tlv_prefix, tlv-same}
use Rattle.der_ber.specs.declared.error.BerError.{BerError}
use Rattle.der_ber.specs.declared.error.BerError.TheVariants as ber
use Rattle.der_ber.specs.WholeStrings.{IsMadeWhole, AreNoneWhole}
use Rattle.der_ber.proofs.LawLemmas.{one_whole}
use Rattle.der_path.specs.Elements.{BeginsWith, BeginsWithNone}
use Rattle.der_schema.specs.declared.node.Node.{Node}
use Rattle.der_schema.specs.declared.node.Schema.{Schema}
use Rattle.der_ber_types.specs.declared.error.ToDerError.{ToDerError}
use Rattle.der_ber_types.specs.declared.error.ToDerError.TheVariants.{OutOfMemory}
use Rattle.der_ber_types.specs.declared.error.TypeError.{TypeError}
use Rattle.der_ber_types.specs.declared.message.ContentType.{ContentType}
use Rattle.der_ber_types.specs.Content.{IsOne}
use Rattle.der_ber_types.specs.Errors.{same_error, type_error}
use Rattle.der_ber_types.specs.Message.{IsMessage, IsNoMessage, IsNoMessageBer, HasNoMessageBytes, IsNoElementWith}
use Rattle.der_ber_types.specs.Message.{message_bytes, schema_in}
use Rattle.der_ber_types.specs.Refusals.{IsRefusal, HasNoOne}
use Rattle.der_ber_types.specs.ToDer.{HasNoDer}
use Rattle.der_ber_types.proofs.Unique.{tlv-fronts}

-- ---- values of a type

pub broken-none : (nodes : List Node) (i : ℕ) (bytes : List ℕ) (e : BerError) (k : ToDerError) → k ≡ same_error e
    → (e ≢ ber.OutOfMemory → AreNoneWhole bytes) → k ≢ OutOfMemory → HasNoDer nodes i bytes
broken-none nodes i bytes e k is none some d b =
    let w = b.has_lengths in
    none (λ f. some (is ∙ ap same_error f)) w.nodes w.whole w.elements w.has_parts w.levels

pub type-none : (nodes : List Node) (i : ℕ) (bytes whole : List ℕ) (e : TypeError) (k : ToDerError)
    → k ≡ type_error e → IsRefusal (HasNoOne nodes i whole) e → IsMadeWhole bytes whole → k ≢ OutOfMemory
    → HasNoDer nodes i bytes
type-none nodes i bytes whole e k is none made some d b =
    let same : b.whole ≡ whole = one_whole bytes b.whole whole b.has_lengths made in
    none (λ f. some (is ∙ ap type_error f)) d (subst (λ w. IsOne nodes i w d) same b.is_one)

-- ---- messages

pub broken-no_message : (types : List ContentType) (bytes : List ℕ) (e : BerError) (k : ToDerError) → k ≡ same_error e
    → (e ≢ ber.OutOfMemory → AreNoneWhole bytes) → k ≢ OutOfMemory → IsNoMessageBer types bytes
broken-no_message types bytes e k is none some d b =
    let w = b.has_lengths in
    none (λ f. some (is ∙ ap same_error f)) w.nodes w.whole w.elements w.has_parts w.levels

pub type-no_message : (types : List ContentType) (bytes whole : List ℕ) (e : TypeError) (k : ToDerError)
    → k ≡ type_error e → IsRefusal (IsNoMessage types whole) e → IsMadeWhole bytes whole → k ≢ OutOfMemory
    → IsNoMessageBer types bytes
type-no_message types bytes whole e k is none made some d b =
    let same : b.whole ≡ whole = one_whole bytes b.whole whole b.has_lengths made in
    none (λ f. some (is ∙ ap type_error f)) d (subst (λ w. IsMessage types w d) same b.is_message)

message-parts : (i j c d : List ℕ) → message_bytes i c ≡ message_bytes j d → (i ≡ j) × (c ≡ d)
message-parts i j c d e =
    let members = (tlv-same 0x30 0x30 (tlv 0x06 i ++ tlv 0xA0 c) (tlv 0x06 j ++ tlv 0xA0 d) e).1 in
    let first = tlv_prefix 0x06 0x06 i j (tlv 0xA0 c) (tlv 0xA0 d) members in
    (first.1, (tlv-same 0xA0 0xA0 c d first.2).1)

pub no_message-bytes : (types : List ContentType) (bytes : List ℕ) → HasNoMessageBytes bytes → IsNoMessage types bytes
no_message-bytes types bytes none der (IsMessage.known i c k schema e f one g) = none i c e
no_message-bytes types bytes none der (IsMessage.other i c e f g) = none i c e

pub no_message-content : (types : List ContentType) (bytes identifier content : List ℕ) (schema : Schema)
    → bytes ≡ message_bytes identifier content → schema_in types identifier ≡ Some schema
    → HasNoOne schema.nodes.now schema.root content → IsNoMessage types bytes
no_message-content types bytes identifier content schema is found none der (IsMessage.known i c k other e f one g) =
    let same = message-parts identifier i content c (sym is ∙ e) in
    let named : Some schema ≡ Some other = sym found ∙ ap (schema_in types) same.0 ∙ f in
    let schemas : other ≡ schema = cc in
    none k (subst (λ b. IsOne schema.nodes.now schema.root b k) (sym same.1)
    (subst (λ s. IsOne s.nodes.now s.root c k) schemas one))
no_message-content types bytes identifier content schema is found none der (IsMessage.other i c e f g) =
    let same = message-parts identifier i content c (sym is ∙ e) in
    let wrong : Some schema ≡ None = sym found ∙ ap (schema_in types) same.0 ∙ f in
    cc

-- ---- what isn't a message

module _ (bytes : List ℕ) where
  pub no_list : IsNoElementWith 0x30 bytes → HasNoMessageBytes bytes
  no_list none i c e = none (omega arith) (tlv 0x06 i ++ tlv 0xA0 c) e

  members-are : (members i c : List ℕ) → bytes ≡ tlv 0x30 members → bytes ≡ message_bytes i c
      → members ≡ tlv 0x06 i ++ tlv 0xA0 c
  members-are members i c is e = (tlv-same 0x30 0x30 members (tlv 0x06 i ++ tlv 0xA0 c) (sym is ∙ e)).1

  pub no_members : (members : List ℕ) → bytes ≡ tlv 0x30 members → BeginsWithNone members → HasNoMessageBytes bytes
  no_members members is none i c e =
      none 0x06 i (tlv 0xA0 c) (record { number = omega arith; is = members-are members i c is e })

  pub no_identifier : (members : List ℕ) (tag : ℕ) (content after : List ℕ) → bytes ≡ tlv 0x30 members
      → BeginsWith members tag content after → (tag ≡ 0x06 → ⊥) → HasNoMessageBytes bytes
  no_identifier members tag content after is begins other i c e =
      other (tlv-fronts members tag 0x06 content i after (tlv 0xA0 c) begins.is (members-are members i c is e)).0

  pub no_explicit : (members : List ℕ) (tag : ℕ) (content after : List ℕ) → bytes ≡ tlv 0x30 members
      → BeginsWith members tag content after → IsNoElementWith 0xA0 after → HasNoMessageBytes bytes
  no_explicit members tag content after is begins none i c e =
      none (omega arith) c
      (tlv-fronts members tag 0x06 content i after (tlv 0xA0 c) begins.is (members-are members i c is e)).2

  pub none-with : (tag : ℕ) → BeginsWithNone bytes → IsNoElementWith tag bytes
  none-with tag none number c e = none tag c [] (record { number = number; is = e ∙ sym (append-nil (tlv tag c)) })

  pub other-with : (tag t : ℕ) (content after : List ℕ) → BeginsWith bytes t content after
      → (t ≡ tag → after ≡ [] → ⊥) → IsNoElementWith tag bytes
  other-with tag t content after begins other number c e =
      let same = tlv-fronts bytes t tag content c after [] begins.is (e ∙ sym (append-nil (tlv tag c))) in
      other same.0 same.2
