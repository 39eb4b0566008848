-- The signed attributes of signed data that was read and the type of its content can be written.
use Rattle.std.proofs.Common.{◌≡◌, ℕ, ◌^◌, ◌<◌, List, length, get_or, ap, arith}
use Rattle.std.specs.Prelude.{All}
use Rattle.picky_der_core.specs.Tree.{ListKind}
use Rattle.der_cms.specs.declared.signed_data.SignerInfo.{SignerInfo}
use Rattle.der_cms.specs.declared.signed_data.SignedData.{SignedData}
use Rattle.picky_der_core.specs.Readable.{IsWritable}
use Rattle.der_types.specs.contracts.generated.object_identifier.ObjectIdentifierSerialize.TheImpl as identifier
use Rattle.der_cms.specs.contracts.signed_data.SignerInfoSerialize.TheImpl as signer
use Rattle.der_cms.specs.contracts.signed_data.SignedDataSerialize.TheImpl as signed_data
use Rattle.der_signers.specs.Attributes.{set_of}
use Rattle.der_signers.specs.Report.{AreWritable, IsWritableSigner}
use Rattle.der_signers.specs.Outcome.{IsSignedData}
use Rattle.der_signers.proofs.Writable.{IsShort, short-writable, list_short, implicit_list_short, first, rest}
use Rattle.der_signers.proofs.Writable.{maybe_first, maybe_rest, items_short, some_mapped}

-- those of a signer
signer_writable : (s : SignerInfo) → IsShort (signer.ghosts.meaning s) → IsWritableSigner s
signer_writable s h =
    let members = list_short ListKind.sequence _ h in
    let attributes = maybe_first _ s.signed_attrs _ (rest _ _ (rest _ _ (rest _ _ members))) in
    some_mapped _ _ _
    (λ a short. short-writable (set_of a.0.value.0.items) (implicit_list_short 0xA0 ListKind.set _ short))
    s.signed_attrs attributes

-- those of each signer
signers_writable : (d : SignedData) → IsShort (signed_data.ghosts.meaning d)
    → All IsWritableSigner d.signer_infos.0.items
signers_writable d h k x inside =
    let members = list_short ListKind.sequence _ h in
    let after_content = rest _ _ (rest _ _ (rest _ _ members)) in
    let signers = first _ _ (maybe_rest _ d.crls _ (maybe_rest _ d.certificates _ after_content)) in
    signer_writable (get_or d.signer_infos.0.items k x)
    (items_short signer.ghosts.meaning d.signer_infos.0.items (list_short ListKind.set _ signers) k x inside)

-- the type of the content
content_type_writable : (d : SignedData) → IsShort (signed_data.ghosts.meaning d)
    → IsWritable (identifier.ghosts.meaning d.encap_content_info.e_content_type)
content_type_writable d h =
    let members = list_short ListKind.sequence _ h in
    let content = first _ _ (rest _ _ (rest _ _ members)) in
    short-writable _ (first _ _ (list_short ListKind.sequence _ content))

pub read_writable : (bytes : List ℕ) (d : SignedData) → IsSignedData bytes d → length bytes < 2 ^ 64 → AreWritable d
read_writable bytes d whole small =
    let size : length bytes ≡ _ = ap length whole.is.encoding in
    let short : IsShort (signed_data.ghosts.meaning d) =
    record { readable = whole.is.readable; short = omega (arith, size, small) } in
    record { signers = signers_writable d short; content_type = content_type_writable d short }
