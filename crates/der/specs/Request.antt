-- What the arguments of a command ask for, by the values that were found of its options.
use Rattle.std.specs.Prelude.{◌≡◌, ◌≢◌, ◌<◌, ◌^◌, ℕ, ◌+◌, Bool, true, false, List, [], ◌∷◌, Option, None, Some, codes}
use Rattle.std.specs.Prelude.{MatchOption, is_some, count_by, if◌then◌else◌}
use Rattle.std.specs.Str.{bytes_eq}
use Rattle.std.specs.Str.Parse.{digits_value, without_leading_plus, IsNumeral}
use Rattle.clap.specs.Words.{one_text, first_value}
use Rattle.clap.specs.declared.parser.matches.Found.{Found}
use Rattle.der_program_base.specs.declared.contents.Form.{Form}
use Rattle.der_program_base.specs.declared.contents.Form.TheVariants.{Der, Pem}
use Rattle.der_program_base.specs.declared.printed.Format.{Format}
use Rattle.der_program_base.specs.declared.printed.Format.TheVariants.{Text, Json}
use Rattle.der_signers.specs.declared.line_ends.LineEnds.{LineEnds}
use Rattle.der_signers.specs.declared.line_ends.LineEnds.TheVariants.{AsTheyAre, CrLf}
use Rattle.der_show.specs.declared.options.ShowOptions.{ShowOptions}
use Rattle.der_signers.specs.declared.request.Request.{Request as SignersRequest}
use Rattle.der_read.specs.declared.message_type.MessageType.{MessageType}
use Rattle.der_read.specs.declared.message_type.MessageType.TheVariants.{Cms}
use Rattle.der.specs.declared.request.Action.{Action}
use Rattle.der.specs.declared.request.Action.TheVariants as action
use Rattle.der_read.specs.Types.{word_of}

-- whether a flag is among the arguments
abbrev pub HasFlag : Found → List ℕ → Bool → Type 0
HasFlag found flag is_there = ((one_text found flag ≡ None) → (is_there ≡ false))
    × ((one_text found flag ≡ Some (codes "true")) → (is_there ≡ true))
    × ((one_text found flag ≡ Some (codes "false")) → (is_there ≡ false))

abbrev pub form_by : Bool → Bool → Option Form
form_by true _ = Some Der
form_by false true = Some Pem
form_by false false = None

-- the form of the inputs, by the flags `der` and `pem`
abbrev pub HasForm : Found → Option Form → Type 0
HasForm found form = (der : Bool) × ((pem : Bool)
    × (HasFlag found (codes "der") der × HasFlag found (codes "pem") pem × (form ≡ form_by der pem)))

abbrev pub format_by : Bool → Format
format_by true = Json
format_by false = Text

-- the format of the output, by the flag `json`
abbrev pub HasFormat : Found → Format → Type 0
HasFormat found format = (json : Bool) × (HasFlag found (codes "json") json × (format ≡ format_by json))

-- a number in decimal digits, or 0 where none is given
abbrev pub StartsAt : Option (List ℕ) → ℕ → Type 0
StartsAt None start = start ≡ 0
StartsAt (Some digits) start = start ≡ digits_value 10 (without_leading_plus digits)

-- a text that isn't a number in decimal digits, or is one of over 64 bits
abbrev pub IsNoOffset : Option (List ℕ) → Type 0
IsNoOffset None = ⊥
IsNoOffset (Some text) = IsNumeral 10 (without_leading_plus text)
    → digits_value 10 (without_leading_plus text) < 2 ^ 64 → ⊥

abbrev pub AreShowOptions : Found → ShowOptions → Type 0
AreShowOptions found options = StartsAt (first_value found (codes "at")) options.start
    × HasFlag found (codes "flat") options.is_flat
    × HasFlag found (codes "short") options.is_short
    × HasFlag found (codes "keep-going") options.keeps_going

abbrev pub line_ends_by : Bool → LineEnds
line_ends_by true = CrLf
line_ends_by false = AsTheyAre

-- there is a content if the option `content` is there, and its lines end as the flag `text` says
abbrev pub IsSignersRequest : Found → SignersRequest → Type 0
IsSignersRequest found request = (is_some request.content ≡ is_some (first_value found (codes "content")))
    × ((text : Bool) × (HasFlag found (codes "text") text × (request.line_ends ≡ line_ends_by text)))

-- the type that the first of several words names
abbrev pub IsWanted : List (List ℕ) → Option MessageType → Type 0
IsWanted [] type = type ≡ None
IsWanted (_ ∷ []) type = type ≡ None
IsWanted (word ∷ (_ ∷ _)) type = MatchOption type ((type : MessageType) → word_of type ≢ word)
    (λ type. word_of type ≡ word)

-- what the command with this name and these words is to do
abbrev pub IsAction : List ℕ → Found → List (List ℕ) → Action → Type 0
IsAction name found words (action.Show options) = (name ≡ codes "show") × AreShowOptions found options
IsAction name found words (action.Cms request) = (name ≡ codes "cms") × IsSignersRequest found request
IsAction name found words action.Certificate = name ≡ codes "certificate"
IsAction name found words (action.Read type) = (name ≢ codes "show") × (name ≢ codes "cms")
    × (name ≢ codes "certificate") × IsWanted words type

-- messages are read, and no type is asked for
abbrev pub has_no_type : Action → Bool
has_no_type (action.Read None) = true
has_no_type _ = false

-- the type of the messages, if they are in BER: a message of CMS for `cms`, and else the one that is asked for
abbrev pub type_in_ber : Bool → Action → Option MessageType
type_in_ber true (action.Read wanted) = wanted
type_in_ber true (action.Cms request) = Some Cms
type_in_ber _ _ = None

abbrev pub IsInBer : Found → Action → Option MessageType → Type 0
IsInBer found action ber = (flag : Bool) × (HasFlag found (codes "ber") flag × (ber ≡ type_in_ber flag action))

abbrev pub is_dash : List ℕ → Bool
is_dash word = bytes_eq word (codes "-")

abbrev pub dash_count : Option (List ℕ) → ℕ
dash_count None = 0
dash_count (Some word) = if is_dash word then 1 else 0

-- how many of the inputs are standard input
abbrev pub standard_inputs : List ℕ → Found → List (List ℕ) → ℕ
standard_inputs name found words = count_by is_dash words
    + (if bytes_eq name (codes "cms") then dash_count (first_value found (codes "content")) else 0)

-- what may be wrong with what a command is to do: the offset of `show`, or the content of `cms`, which is a file
abbrev pub IsNoAction : List ℕ → Found → Type 0
IsNoAction name found = (name ≢ codes "show" → name ≢ codes "cms" → ⊥)
    × (name ≡ codes "show" → IsNoOffset (first_value found (codes "at")))
    × (name ≡ codes "cms" → is_some (first_value found (codes "content")) ≡ true)

-- and with the arguments: messages in BER are to be read, and no type is asked for
pub data IsFaulty (name : List ℕ) (found : Found) (words : List (List ℕ)) : Type 0 where
  no_action : IsNoAction name found → IsFaulty name found words
  no_type : (act : Action) → IsAction name found words act → has_no_type act ≡ true → HasFlag found (codes "ber") true
      → IsFaulty name found words
