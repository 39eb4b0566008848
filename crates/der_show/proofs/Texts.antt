-- Texts of entries.
use Rattle.std.proofs.Common.{◌≡◌, ℕ, List, [], ◌∷◌, ◌++◌, Option, Result, Ok, Err, OnOk, IfOk, IfErr, refl, sym, ap}
use Rattle.std.proofs.Common.{subst, ◌∙◌, append_assoc}
use Rattle.std.proofs.KnownBytes.{Appends-trans}
use Rattle.picky_der_core.specs.declared.error.Asn1DerError.{Asn1DerError}
use Rattle.picky_der_core.specs.declared.misc.writer.WriteExt.{Ghosts}
use Rattle.picky_der_core.specs.Writer.{AppendsBeginning, beginning_none, beginning_after}
use Rattle.picky_der_core.specs.WriterFaults.{fails_since}
use Rattle.der_program_base.specs.Text.{text_of_lines}
use Rattle.der_show.specs.declared.entry.Entry.{Entry}
use Rattle.der_show.specs.declared.options.LineForm.{LineForm}
use Rattle.der_show.specs.Shown.{IsLineOf, AreLinesOf, IsTextOf, IsBeginning, none, first, all, WritesEntries}
use Rattle.der_show.specs.Shown.{IsFailure, memory, writer, StopsAmong}

are_joined : (form : LineForm) (es fs : List Entry) (ls ms : List (List ℕ)) → AreLinesOf form es ls
    → AreLinesOf form fs ms → AreLinesOf form (es ++ fs) (ls ++ ms)
are_joined form [] fs [] ms a b = b
are_joined form [] fs (l ∷ ls) ms a b = absurd a
are_joined form (e ∷ es) fs [] ms a b = absurd a
are_joined form (e ∷ es) fs (l ∷ ls) ms a b = (a.0, are_joined form es fs ls ms a.1 b)

text_joined : (ls ms : List (List ℕ)) → text_of_lines (ls ++ ms) ≡ text_of_lines ls ++ text_of_lines ms
text_joined [] ms = refl
text_joined (l ∷ ls) ms = ap (λ t. l ++ (0x0A ∷ t)) (text_joined ls ms)
    ∙ sym (append_assoc l (0x0A ∷ text_of_lines ls) (text_of_lines ms))

pub no_text : (form : LineForm) → IsTextOf form [] []
no_text form = record { lines = []; are_lines = tt; is = refl }

pub one_text : (form : LineForm) (e : Entry) (line : List ℕ) → IsLineOf form e line
    → IsTextOf form (e ∷ []) (line ++ (0x0A ∷ []))
one_text form e line is = record { lines = line ∷ []; are_lines = (is, tt); is = refl }

pub joined : (form : LineForm) (es fs : List Entry) (t u : List ℕ) → IsTextOf form es t → IsTextOf form fs u
    → IsTextOf form (es ++ fs) (t ++ u)
joined form es fs t u a b = record {
  lines = a.lines ++ b.lines;
  are_lines = are_joined form es fs a.lines b.lines a.are_lines b.are_lines;
  is = ap (λ x. x ++ u) a.is ∙ ap (λ y. text_of_lines a.lines ++ y) b.is ∙ sym (text_joined a.lines b.lines);
}

-- what follows of a result, where a fact is known of its value or its error
pub on_ok : {A E P Q : Type 0} (r : Result A E) → (P → Q) → OnOk r P → OnOk r Q
on_ok (Ok v) f p = f p
on_ok (Err e) f p = tt

pub if_err : {A E : Type 0} {P Q : E → Type 0} (r : Result A E) → ((e : E) → P e → Q e) → IfErr r P → IfErr r Q
if_err (Ok v) f p = tt
if_err (Err e) f p = f e p

pub if_ok : {A E : Type 0} {P Q : A → Type 0} (r : Result A E) → ((v : A) → P v → Q v) → IfOk r P → IfOk r Q
if_ok (Ok v) f p = f v p
if_ok (Err e) f p = tt

-- two writes, one after the other
pub writes_both : (form : LineForm) (es fs : List Entry) (a b c : Option (List ℕ)) → WritesEntries form es a b
    → WritesEntries form fs b c → WritesEntries form (es ++ fs) a c
writes_both form es fs a b c w v =
    record {
      text = w.text ++ v.text;
      is_text = joined form es fs w.text v.text w.is_text v.is_text;
      written =
          Appends-trans a b c w.text v.text w.written v.written;
    }

module _ {W : Type 0} (g : Ghosts W) where
  pub failure_since : (old mid new : W) (e : Asn1DerError) → g.faults mid ≡ g.faults old → IsFailure g mid e new
      → IsFailure g old e new
  failure_since old mid new e same (memory is kept) = memory is (kept ∙ same)
  failure_since old mid new e same (writer f) = writer (fails_since g old mid new e same f)

  -- nothing was written
  pub stops_before : (form : LineForm) (es : List Entry) (old new : W) (e : Asn1DerError) → IsFailure g old e new
      → new ≡ old → StopsAmong g form es old e new
  stops_before form es old new e f same = record {
    failure = f;
    front = [];
    begins = none refl;
    text = [];
    is_text = no_text form;
    written = subst (λ w. AppendsBeginning (g.written old) (g.written w) []) (sym same)
        (beginning_none (g.written old) []);
  }

  -- the line wasn't written, or not all of it
  pub stops_in_line : (form : LineForm) (entry : Entry) (line : List ℕ) (old new : W) (e : Asn1DerError)
      → IsLineOf form entry line → IsFailure g old e new
      → AppendsBeginning (g.written old) (g.written new) (line ++ (0x0A ∷ []))
      → StopsAmong g form (entry ∷ []) old e new
  stops_in_line form entry line old new e is f begun =
      record {
        failure = f;
        front = entry ∷ [];
        begins = all refl;
        text = line ++ (0x0A ∷ []);
        is_text =
            one_text form entry line is;
        written = begun;
      }

  -- the first of two lines, and not the second
  pub stops_in_first : (form : LineForm) (x y : Entry) (old new : W) (e : Asn1DerError)
      → StopsAmong g form (x ∷ []) old e new → StopsAmong g form (x ∷ y ∷ []) old e new
  stops_in_first form x y old new e s = record {
    failure = s.failure;
    front = s.front;
    begins = by s.begins;
    text =
        s.text;
    is_text = s.is_text;
    written = s.written;
  }
    where
      by : IsBeginning (x ∷ []) s.front → IsBeginning (x ∷ y ∷ []) s.front
      by (none is) = none is
      by (first a rest is are) = let same : x ≡ a = cc in first x (y ∷ []) refl (are ∙ ap (λ z. z ∷ []) (sym same))
      by (all are) = first x (y ∷ []) refl are

  pub stops_in_second : (form : LineForm) (x y : Entry) (old mid new : W) (e : Asn1DerError)
      → WritesEntries form (x ∷ []) (g.written old) (g.written mid) → g.faults mid ≡ g.faults old
      → StopsAmong g form (y ∷ []) mid e new → StopsAmong g form (x ∷ y ∷ []) old e new
  stops_in_second form x y old mid new e w same s = record {
    failure = failure_since old mid new e same s.failure;
    front = (x ∷ []) ++ s.front;
    begins = by s.begins;
    text = w.text ++ s.text;
    is_text = joined form (x ∷ []) s.front w.text s.text w.is_text s.is_text;
    written = beginning_after (g.written old) (g.written mid) (g.written new) w.text s.text w.written s.written;
  }
    where
      by : IsBeginning (y ∷ []) s.front → IsBeginning (x ∷ y ∷ []) ((x ∷ []) ++ s.front)
      by (none is) = first x (y ∷ []) refl (ap (λ f. (x ∷ []) ++ f) is)
      by (first a rest is are) = let same : y ≡ a = cc in
          all (ap (λ f. (x ∷ []) ++ f) (are ∙ ap (λ z. z ∷ []) (sym same)))
      by (all are) = all (ap (λ f. (x ∷ []) ++ f) are)
