-- What is printed of the bytes of a file.
use Rattle.std.specs.Prelude.{◌≡◌, ℕ, ◌+◌, ◌<◌, ◌≤◌, Bool, List, [], ◌∷◌, ◌++◌, length, Option, None, Some, Ok, Err}
use Rattle.std.specs.Prelude.{if◌then◌else◌, string_bytes, MatchOption}
use Rattle.std.specs.Io.KnownBytes.{Appends}
use Rattle.der_program_base.specs.declared.blocks.Block.{Block}
use Rattle.der_program_base.specs.declared.contents.Contents.{Contents}
use Rattle.der_program_base.specs.declared.contents.Contents.TheVariants.{Der, Pem, Other}
use Rattle.der_program_base.specs.declared.printed.Format.{Format}
use Rattle.der_program_base.specs.declared.printed.Format.TheVariants.{Text, Json}
use Rattle.der_program_base.specs.declared.printed.Printed.{Printed}
use Rattle.der_program_base.specs.declared.status.Status.{Status}
use Rattle.der_program_base.specs.declared.status.Status.TheVariants.{Fine, Refused}
use Rattle.der_program_base.specs.Contents.{IsContentsOf}
use Rattle.der_program_base.specs.Sections.{items_of}
use Rattle.der_program_base.specs.Status.{worse_of}
use Rattle.der_read.specs.BerPrinted.{IsBerMessage, IsNoBer}
use Rattle.der_read.specs.Certificates.{IsCertificatePrinted}
use Rattle.der_read.specs.declared.message_type.MessageType.{MessageType}
use Rattle.der_read.specs.Printed.{IsReadMessage}
use Rattle.der_show.specs.declared.listing.Shown.{Shown}
use Rattle.der_show.specs.declared.options.LineForm.{LineForm}
use Rattle.der_show.specs.declared.options.LineForm.TheVariants as line_form
use Rattle.der_show.specs.declared.options.ShowOptions.{ShowOptions}
use Rattle.der_show.specs.declared.options.Source.{Source}
use Rattle.der_show.specs.Shown.{Shows}
use Rattle.der_signers.specs.declared.request.Request.{Request as Signers}
use Rattle.der_signers.specs.Printed.{IsPrinted}
use Rattle.der.specs.declared.report.View.{View}
use Rattle.der.specs.declared.request.Action.{Action}
use Rattle.der.specs.declared.request.Action.TheVariants as action
use Rattle.der.specs.declared.request.Request.{Request}
use Rattle.der.specs.Notes.{heading_text, refused_text, skipped_text}

-- a text of which this holds was written
abbrev pub Prints : (List ℕ → Type 0) → Option (List ℕ) → Option (List ℕ) → Type 0
Prints Is old new = (text : List ℕ) × Is text × Appends old new text

-- a line that says why something isn't looked at
abbrev pub IsRefusalPrinted : Format → Source → Status → List ℕ → Type 0
IsRefusalPrinted format source status text = (reason : List ℕ)
    × (text ≡ refused_text format source.file.now source.block reason) × (status ≡ Refused)

-- ---- messages

-- the form of the lines of a listing
abbrev pub form_of : Format → View → Source → LineForm
form_of Text view source = if view.has_colours then line_form.Coloured else line_form.Text
form_of Json view source = line_form.Json source

-- the status for a message with this listing
abbrev pub listing_status : Shown → Status
listing_status shown = if shown.is_der then Fine else Refused

-- the lines of the elements, and the status
abbrev pub IsListingPrinted : LineForm → ShowOptions → List ℕ → Status → List ℕ → Type 0
IsListingPrinted form options bytes status text = (shown : Shown) × Shows form options bytes shown (Some []) (Some text)
    × (status ≡ listing_status shown)

-- the listing begins at one of the bytes; else nothing is listed
pub data IsShowPrinted (format : Format) (view : View) (source : Source) (options : ShowOptions) (bytes : List ℕ)
    (status : Status) (text : List ℕ) : Type 0 where
  listed : options.start < length bytes → IsListingPrinted (form_of format view source) options bytes status text
      → IsShowPrinted format view source options bytes status text
  nothing : length bytes ≤ options.start → IsRefusalPrinted format source status text
      → IsShowPrinted format view source options bytes status text

-- the lines and the status of a command
abbrev pub AreLinesPrinted : (Printed → Type 0) → Status → List ℕ → Type 0
AreLinesPrinted Is status text = (printed : Printed) × Is printed × (text ≡ string_bytes printed.text)
    × (status ≡ printed.status)

-- the lines of `der read`, `der cms` and `der certificate`
pub data IsReadPrinted (format : Format) (source : Source) (wanted : Option MessageType) (label : Option (List ℕ))
    (bytes : List ℕ) (status : Status) (text : List ℕ) : Type 0 where
  read_lines : AreLinesPrinted (IsReadMessage format source.file.now source.block wanted label bytes) status text
      → IsReadPrinted format source wanted label bytes status text

pub data IsCmsPrinted (format : Format) (source : Source) (signers : Signers) (bytes : List ℕ) (status : Status)
    (text : List ℕ) : Type 0 where
  cms_lines : AreLinesPrinted (IsPrinted source.file.now source.block bytes signers format) status text
      → IsCmsPrinted format source signers bytes status text

pub data AreCertificatesPrinted (format : Format) (source : Source) (bytes : List ℕ) (status : Status)
    (text : List ℕ) : Type 0 where
  certificate_lines : AreLinesPrinted (IsCertificatePrinted format source.file.now source.block bytes) status text
      → AreCertificatesPrinted format source bytes status text

-- what the command of a request prints of a message in DER
pub data IsDerPrinted (r : Request) (view : View) (source : Source) (label : Option (List ℕ)) (bytes : List ℕ)
    (status : Status) (text : List ℕ) : Type 0 where
  show : (options : ShowOptions) → r.action ≡ action.Show options
      → IsShowPrinted r.format view source options bytes status text
      → IsDerPrinted r view source label bytes status text
  read : (wanted : Option MessageType) → r.action ≡ action.Read wanted
      → IsReadPrinted r.format source wanted label bytes status text
      → IsDerPrinted r view source label bytes status text
  cms : (signers : Signers) → r.action ≡ action.Cms signers → IsCmsPrinted r.format source signers bytes status text
      → IsDerPrinted r view source label bytes status text
  certificate : r.action ≡ action.Certificate → AreCertificatesPrinted r.format source bytes status text
      → IsDerPrinted r view source label bytes status text

-- Of bytes in BER it prints a line on them, and what it prints of their DER, or why they have none.
pub data IsBerPrinted (r : Request) (view : View) (source : Source) (label : Option (List ℕ)) (t : MessageType)
    (bytes : List ℕ) (status : Status) (text : List ℕ) : Type 0 where
  message : (line der own : List ℕ) → IsBerMessage r.format source.file.now source.block t bytes line der
      → IsDerPrinted r view source label der status own → text ≡ line ++ own
      → IsBerPrinted r view source label t bytes status text
  refused : AreLinesPrinted (IsNoBer r.format source.file.now source.block t bytes) status text
      → IsBerPrinted r view source label t bytes status text

-- what it prints of these bytes, in BER or in DER
abbrev pub IsMessagePrinted : Request → View → Source → Option (List ℕ) → List ℕ → Status → List ℕ → Type 0
IsMessagePrinted r view source label bytes status text = MatchOption r.ber
    (IsDerPrinted r view source label bytes status text)
    (λ t. IsBerPrinted r view source label t bytes status text)

-- the heading of a listing of text
abbrev pub heading_if : Action → Format → Source → Option (List ℕ) → List ℕ
heading_if (action.Show options) Text source label = heading_text source.file.now source.block label
heading_if (action.Show options) Json source label = []
heading_if (action.Read wanted) format source label = []
heading_if (action.Cms signers) format source label = []
heading_if action.Certificate format source label = []

abbrev pub front_text : Request → Source → Option (List ℕ) → List ℕ
front_text r source label = heading_if r.action r.format source label

-- ---- blocks

-- a heading and what is printed of the bytes of a block, or why there are none
abbrev pub IsBlockPrinted : Request → View → Source → Block → Status → List ℕ → Type 0
IsBlockPrinted r view source block status text =
    elim (items_of block.bytes) [
      | Ok bytes ↦ (own : List ℕ) × IsMessagePrinted r view source (Some block.label.items) bytes status own
          × (text ≡ front_text r source (Some block.label.items) ++ own)
      | Err fault ↦ IsRefusalPrinted r.format source status text
    ]

-- of each block, in order, with its number, after a line on the lines before it; the status is the worst
pub data AreBlocksPrinted (r : Request) (view : View) (file : List ℕ) : List Block → Status → List ℕ → Type 0 where
  none : AreBlocksPrinted r view file [] Fine []
  next : (blocks : List Block) (status : Status) (text : List ℕ) (block : Block) (source : Source) (own_status : Status)
      (own : List ℕ) → AreBlocksPrinted r view file blocks status text
      → source.file.now ≡ file → source.block ≡ Some (length blocks + 1)
      → IsBlockPrinted r view source block own_status own
      → AreBlocksPrinted r view file (blocks ++ block ∷ []) (worse_of status own_status)
      (text ++ (skipped_text r.format file block.skipped ++ own))

-- ---- files

abbrev pub AreContentsPrinted : Request → View → Source → List ℕ → Contents → Status → List ℕ → Type 0
AreContentsPrinted r view source input Der status text = (own : List ℕ)
    × IsMessagePrinted r view source None input status own
    × (text ≡ (if view.has_headings then front_text r source None else []) ++ own)
AreContentsPrinted r view source input (Pem blocks) status text = (own : List ℕ)
    × AreBlocksPrinted r view source.file.now blocks.blocks.items status own
    × (text ≡ own ++ skipped_text r.format source.file.now blocks.skipped)
AreContentsPrinted r view source input (Other guess) status text = IsRefusalPrinted r.format source status text

-- what is printed of an input, by what it is
pub record IsReport (r : Request) (view : View) (file : List ℕ) (input : List ℕ) (status : Status)
    (text : List ℕ) : Type 0 where
  pub source : Source
  pub is_source : source.file.now ≡ file
  pub whole : source.block ≡ None
  pub contents : Contents
  pub are_contents : IsContentsOf r.form input contents
  pub printed : AreContentsPrinted r view source input contents status text
