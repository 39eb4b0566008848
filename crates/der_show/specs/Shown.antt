-- What is written of a listing.
use Rattle.std.specs.Prelude.{◌≡◌, ℕ, true, false, Option, List, [], ◌∷◌, ◌++◌, map, codes, ⊤}
use Rattle.std.specs.List.{list_all}
use Rattle.std.specs.Io.KnownBytes.{Appends}
use Rattle.picky_der_core.specs.declared.error.Asn1DerError.{Asn1DerError}
use Rattle.picky_der_core.specs.declared.error.Asn1DerError.TheVariants.{OutOfMemory}
use Rattle.picky_der_core.specs.declared.misc.writer.WriteExt.{Ghosts}
use Rattle.picky_der_core.specs.Writer.{AppendsBeginning}
use Rattle.picky_der_core.specs.WriterFaults.{WriterFails}
use Rattle.der_program_base.specs.Json.{json_line}
use Rattle.der_program_base.specs.Line.{IsOneLine}
use Rattle.der_program_base.specs.Text.{text_of_lines}
use Rattle.der_show.specs.declared.element.Element.{Element}
use Rattle.der_show.specs.declared.entry.Entry.{Entry}
use Rattle.der_show.specs.declared.entry.Entry.TheVariants as entry
use Rattle.der_show.specs.declared.options.LineForm.{LineForm}
use Rattle.der_show.specs.declared.options.LineForm.TheVariants as line_form
use Rattle.der_show.specs.declared.options.ShowOptions.{ShowOptions}
use Rattle.der_show.specs.declared.options.Source.{Source}
use Rattle.der_show.specs.declared.outline.Complaint.{Complaint}
use Rattle.der_show.specs.declared.listing.Shown.{Shown}
use Rattle.der_show.specs.Json.{element_data, complaint_data}
use Rattle.der_show.specs.Lines.{front_text, complaint_front}
use Rattle.der_show.specs.Outlines.{IsListed, IsRefused}
use Rattle.der_show.specs.Entries.{IsSoFar, IsListing, is_element}

-- ---- lines

-- what is before the type of an element, or before the rule that is broken
abbrev pub entry_front : Entry → List ℕ
entry_front (entry.Element e) = front_text e
entry_front (entry.Complaint c) = complaint_front c.offset

-- a line of text about an entry: its columns, and then words without a control character
pub record IsTextLine (e : Entry) (line : List ℕ) : Type 0 where
  pub words : List ℕ
  pub one_line : IsOneLine words
  pub is : line ≡ entry_front e ++ words

-- the colour of these columns on a terminal: faint, or red (ECMA-48, 8.3.117)
abbrev pub colour_of : Entry → List ℕ
colour_of (entry.Element _) = 0x1B ∷ codes "[2m"
colour_of (entry.Complaint _) = 0x1B ∷ codes "[31m"

-- the same line for a terminal: what begins and ends the colour is before and after the columns
pub record IsColouredLine (e : Entry) (line : List ℕ) : Type 0 where
  pub words : List ℕ
  pub one_line : IsOneLine words
  pub is : line ≡ colour_of e ++ (entry_front e ++ ((0x1B ∷ codes "[0m") ++ words))

-- a line of JSON: the object of the element, with its type and its value in words, or that of the rule in words
pub data IsJsonLine (s : Source) : Entry → List ℕ → Type 0 where
  element : (e : Element) (type_name : List ℕ) (value : Option (List ℕ)) (line : List ℕ)
      → line ≡ json_line (element_data s e type_name value) → IsJsonLine s (entry.Element e) line
  complaint : (c : Complaint) (rule clause : List ℕ) (line : List ℕ)
      → line ≡ json_line (complaint_data s c.offset rule clause) → IsJsonLine s (entry.Complaint c) line

abbrev pub IsLineOf : LineForm → Entry → List ℕ → Type 0
IsLineOf line_form.Text e line = IsTextLine e line
IsLineOf line_form.Coloured e line = IsColouredLine e line
IsLineOf (line_form.Json s) e line = IsJsonLine s e line

abbrev pub AreLinesOf : LineForm → List Entry → List (List ℕ) → Type 0
AreLinesOf form [] [] = ⊤
AreLinesOf form [] (line ∷ lines) = ⊥
AreLinesOf form (e ∷ es) [] = ⊥
AreLinesOf form (e ∷ es) (line ∷ lines) = IsLineOf form e line × AreLinesOf form es lines

-- a line about each, ended by the byte 0A
pub record IsTextOf (form : LineForm) (es : List Entry) (text : List ℕ) : Type 0 where
  pub lines : List (List ℕ)
  pub are_lines : AreLinesOf form es lines
  pub is : text ≡ text_of_lines lines

-- none of some entries, the first, or all
pub data IsBeginning (es : List Entry) (front : List Entry) : Type 0 where
  none : front ≡ [] → IsBeginning es front
  first : (e : Entry) (rest : List Entry) → es ≡ e ∷ rest → front ≡ e ∷ [] → IsBeginning es front
  all : front ≡ es → IsBeginning es front

-- the text of these entries was written
pub record WritesEntries (form : LineForm) (es : List Entry) (old new : Option (List ℕ)) : Type 0 where
  pub text : List ℕ
  pub is_text : IsTextOf form es text
  pub written : Appends old new text

-- ---- outlines

-- nothing is left out, no string is opened, and the first broken rule ends the listing
pub record IsPlain (o : ShowOptions) : Type 0 where
  pub from_the_first : o.start ≡ 0
  pub flat : o.is_flat ≡ true
  pub stops : o.keeps_going ≡ false

-- the elements of the bytes, or those before one that isn't in DER and the rule that it breaks
pub data AreOfOutline (bytes : List ℕ) (es : List Entry) : Type 0 where
  listed : (elements : List Element) → IsListed bytes elements → es ≡ map entry.Element elements → AreOfOutline bytes es
  refused : (elements : List Element) (c : Complaint) → IsRefused bytes elements c
      → es ≡ map entry.Element elements ++ (entry.Complaint c ∷ []) → AreOfOutline bytes es

-- ---- what was written

-- the text of all that is listed
pub record Shows (form : LineForm) (o : ShowOptions) (bytes : List ℕ) (shown : Shown) (old new : Option (List ℕ)) : Type
    0 where
  pub entries : List Entry
  pub listing : IsListing o bytes entries
  pub is_der : shown.is_der ≡ list_all is_element entries
  pub plain : IsPlain o → AreOfOutline bytes entries
  pub text : List ℕ
  pub is_text : IsTextOf form entries text
  pub written : Appends old new text

module _ {W : Type 0} (g : Ghosts W) where
  -- an allocation failed, or the writer did
  pub data IsFailure (old : W) (e : Asn1DerError) (new : W) : Type 0 where
    memory : e ≡ OutOfMemory → g.faults new ≡ g.faults old → IsFailure old e new
    writer : WriterFails g old e new → IsFailure old e new

  -- of the text of some entries a beginning was written
  pub record StopsAmong (form : LineForm) (es : List Entry) (old : W) (e : Asn1DerError) (new : W) : Type 0 where
    pub failure : IsFailure old e new
    pub front : List Entry
    pub begins : IsBeginning es front
    pub text : List ℕ
    pub is_text : IsTextOf form front text
    pub written : AppendsBeginning (g.written old) (g.written new) text

  -- a beginning of the text of a beginning of the listing
  pub record Stops (form : LineForm) (o : ShowOptions) (bytes : List ℕ) (old : W) (e : Asn1DerError) (new : W) : Type 0
    where
      pub failure : IsFailure old e new
      pub entries : List Entry
      pub so_far : IsSoFar o bytes entries
      pub text : List ℕ
      pub is_text : IsTextOf form entries text
      pub written : AppendsBeginning (g.written old) (g.written new) text
