-- What is printed of blocks, one after another.
use Rattle.std.proofs.Common.{◌≡◌, ℕ, ◌+◌, ◌<◌, List, [], ◌∷◌, ◌++◌, length, take, get_or, Option, None, Some, refl}
use Rattle.std.proofs.Common.{sym, ap, ◌∙◌, subst, string_bytes, arith, length-take-le, MatchOption}
use Rattle.std.specs.Io.KnownBytes.{Appends}
use Rattle.std.proofs.KnownBytes.{Appends-nil, Appends-trans}
use Rattle.std.proofs.lemmas.List.{take_more}
use Rattle.der_program_base.specs.declared.blocks.Block.{Block}
use Rattle.der_program_base.specs.declared.contents.Contents.{Contents}
use Rattle.der_program_base.specs.declared.printed.Format.{Format}
use Rattle.der_program_base.specs.declared.printed.Printed.{Printed}
use Rattle.der_program_base.specs.declared.status.Status.{Status}
use Rattle.der_program_base.specs.declared.status.Status.TheVariants.{Fine}
use Rattle.der_program_base.specs.Contents.{IsContentsOf}
use Rattle.der_program_base.specs.Status.{worse_of}
use Rattle.der_read.specs.Certificates.{IsCertificatePrinted}
use Rattle.der_read.specs.declared.message_type.MessageType.{MessageType}
use Rattle.der_read.specs.BerPrinted.{IsBerMessage, IsNoBer}
use Rattle.der_read.specs.Printed.{IsReadMessage}
use Rattle.der_show.specs.declared.listing.Shown.{Shown}
use Rattle.der_show.specs.declared.options.LineForm.{LineForm}
use Rattle.der_show.specs.declared.options.ShowOptions.{ShowOptions}
use Rattle.der_show.specs.declared.options.Source.{Source}
use Rattle.der_show.specs.Shown.{Shows}
use Rattle.der_signers.specs.declared.request.Request.{Request as Signers}
use Rattle.der_signers.specs.Printed.{IsPrinted}
use Rattle.der.specs.declared.report.View.{View}
use Rattle.der.specs.declared.request.Request.{Request}
use Rattle.der.specs.Notes.{skipped_text}
use Rattle.der.specs.Report.{AreBlocksPrinted, none, next, IsBlockPrinted, IsListingPrinted, IsReadPrinted, read_lines}
use Rattle.der.specs.Report.{IsCmsPrinted, cms_lines, AreCertificatesPrinted, certificate_lines, AreContentsPrinted}
use Rattle.der.specs.Report.{IsBerPrinted, IsDerPrinted, IsMessagePrinted, IsReport, Prints, listing_status}

-- ---- one message

pub listing_printed : (form : LineForm) (o : ShowOptions) (bytes : List ℕ) (shown : Shown) (status : Status)
    (a b : Option (List ℕ)) → Shows form o bytes shown a b → status ≡ listing_status shown
    → Prints (IsListingPrinted form o bytes status) a b
listing_printed form o bytes shown status a b s is =
    let alone : Shows form o bytes shown (Some []) (Some s.text) =
    record {
      entries = s.entries;
      listing = s.listing;
      is_der = s.is_der;
      plain = s.plain;
      text = s.text;
      is_text =
          s.is_text;
      written = refl;
    } in
    (s.text, (shown, alone, is), s.written)

module _ (format : Format) (source : Source) (bytes : List ℕ) (printed : Printed) (status : Status)
    (a b : Option (List ℕ)) where
  pub read_printed : (wanted : Option MessageType) (label : Option (List ℕ))
      → IsReadMessage format source.file.now source.block wanted label bytes printed
      → (status ≡ printed.status) × Appends a b (string_bytes printed.text)
      → Prints (IsReadPrinted format source wanted label bytes status) a b
  read_printed wanted label is h = (string_bytes printed.text, read_lines (printed, is, refl, h.0), h.1)

  pub cms_printed : (signers : Signers) → IsPrinted source.file.now source.block bytes signers format printed
      → (status ≡ printed.status) × Appends a b (string_bytes printed.text)
      → Prints (IsCmsPrinted format source signers bytes status) a b
  cms_printed signers is h = (string_bytes printed.text, cms_lines (printed, is, refl, h.0), h.1)

  pub certificates_printed : IsCertificatePrinted format source.file.now source.block bytes printed
      → (status ≡ printed.status) × Appends a b (string_bytes printed.text)
      → Prints (AreCertificatesPrinted format source bytes status) a b
  certificates_printed is h = (string_bytes printed.text, certificate_lines (printed, is, refl, h.0), h.1)

-- what is printed, by another name
pub prints_as : (Is As : List ℕ → Type 0) (a b : Option (List ℕ)) → ((text : List ℕ) → Is text → As text)
    → Prints Is a b → Prints As a b
prints_as Is As a b f h = (h.0, f h.0 h.1, h.2)

-- a text, and then one of which something holds
pub prints_after : (Is : List ℕ → Type 0) (front : List ℕ) (a b c : Option (List ℕ)) → Appends a b front → Prints Is b c
    → Prints (λ text. (own : List ℕ) × Is own × (text ≡ front ++ own)) a c
prints_after Is front a b c before here =
    (front ++ here.0, (here.0, here.1, refl), Appends-trans a b c front here.0 before here.2)

-- and the same the other way round
pub prints_before : (Is : List ℕ → Type 0) (back : List ℕ) (a b c : Option (List ℕ)) → Prints Is a b → Appends b c back
    → Prints (λ text. (own : List ℕ) × Is own × (text ≡ own ++ back)) a c
prints_before Is back a b c here after =
    (here.0 ++ back, (here.0, here.1, refl), Appends-trans a b c here.0 back here.2 after)

-- ---- a message in BER

module _ (r : Request) (view : View) (source : Source) (label : Option (List ℕ)) (t : MessageType) (bytes : List ℕ)
    (status : Status) where
  pub ber_printed : (line der : List ℕ) (a b c : Option (List ℕ))
      → IsBerMessage r.format source.file.now source.block t bytes line der → Appends a b line
      → Prints (IsDerPrinted r view source label der status) b c
      → Prints (IsBerPrinted r view source label t bytes status) a c
  ber_printed line der a b c is before here = (
    line ++ here.0,
    IsBerPrinted.message line der here.0 is here.1 refl,
    Appends-trans a b c line here.0 before here.2,
  )

  pub no_ber_printed : (printed : Printed) (a b : Option (List ℕ))
      → IsNoBer r.format source.file.now source.block t bytes printed
      → (status ≡ printed.status) × Appends a b (string_bytes printed.text)
      → Prints (IsBerPrinted r view source label t bytes status) a b
  no_ber_printed printed a b is h =
      (string_bytes printed.text, IsBerPrinted.refused (printed, is, refl, h.0), h.1)

-- ---- a message in BER or in DER

module _ (r : Request) (view : View) (source : Source) (label : Option (List ℕ)) (bytes : List ℕ) (status : Status)
    (a b : Option (List ℕ)) where
  as_message : (ber : Option MessageType) (text : List ℕ) → r.ber ≡ ber
      → MatchOption ber (IsDerPrinted r view source label bytes status text)
      (λ t. IsBerPrinted r view source label t bytes status text)
      → IsMessagePrinted r view source label bytes status text
  as_message ber text e h =
      subst
      (λ o. MatchOption o (IsDerPrinted r view source label bytes status text)
      (λ t. IsBerPrinted r view source label t bytes status text))
      (sym e) h

  pub printed_in_der : r.ber ≡ None → Prints (IsDerPrinted r view source label bytes status) a b
      → Prints (IsMessagePrinted r view source label bytes status) a b
  printed_in_der e h = (h.0, as_message None h.0 e h.1, h.2)

  pub printed_in_ber : (t : MessageType) → r.ber ≡ Some t
      → Prints (IsBerPrinted r view source label t bytes status) a b
      → Prints (IsMessagePrinted r view source label bytes status) a b
  printed_in_ber t e h = (h.0, as_message (Some t) h.0 e h.1, h.2)

-- ---- blocks

module _ (r : Request) (view : View) (file : List ℕ) where
  pub prints_none : (a : Option (List ℕ)) → Prints (AreBlocksPrinted r view file [] Fine) a a
  prints_none a = ([], none, Appends-nil a)

  pub prints_more : (blocks : List Block) (i : ℕ) (block : Block) (source : Source) (status own : Status)
      (a b c d : Option (List ℕ)) → i < length blocks → block ≡ get_or blocks i block
      → source.file.now ≡ file → source.block ≡ Some (i + 1)
      → Prints (AreBlocksPrinted r view file (take i blocks) status) a b
      → Appends b c (skipped_text r.format file block.skipped) → Prints (IsBlockPrinted r view source block own) c d
      → Prints (AreBlocksPrinted r view file (take (i + 1) blocks) (worse_of status own)) a d
  prints_more blocks i block source status own a b c d inside is named numbered before skipped here =
      let note = skipped_text r.format file block.skipped in
      let more : take (i + 1) blocks ≡ take i blocks ++ block ∷ [] = take_more blocks i block inside
      ∙ ap (λ z. take i blocks ++ z ∷ []) (sym is) in
      let count : length (take i blocks) ≡ i = length-take-le i blocks (omega (arith, inside)) in
      let block_number : source.block ≡ Some (length (take i blocks) + 1) =
      numbered ∙ ap (λ n. Some (n + 1)) (sym count) in
      let all = next (take i blocks) status before.0 block source own here.0 before.1 named block_number here.1 in (
        before.0 ++ (note ++ here.0),
        subst (λ l. AreBlocksPrinted r view file l (worse_of status own) (before.0 ++ (note ++ here.0))) (sym more) all,
        Appends-trans a b d before.0 (note ++ here.0) before.2 (Appends-trans b c d note here.0 skipped here.2),
      )

-- ---- files

pub reported : (r : Request) (view : View) (source : Source) (file input : List ℕ) (contents : Contents)
    (status : Status) (a b : Option (List ℕ))
    → source.file.now ≡ file → source.block ≡ None → IsContentsOf r.form input contents
    → Prints (AreContentsPrinted r view source input contents status) a b
    → Prints (IsReport r view file input status) a b
reported r view source file input contents status a b named whole are p = (
  p.0,
  record {
    source = source;
    is_source = named;
    whole = whole;
    contents = contents;
    are_contents = are;
    printed =
        p.1;
  },
  p.2,
)
