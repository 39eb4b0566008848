-- The steps of a run.
use Rattle.std.proofs.Common.{◌≡◌, ◌≢◌, ℕ, ◌+◌, ◌-◌, ◌^◌, ◌<◌, List, [], ◌∷◌, ◌++◌, length, length-append, Option, Some}
use Rattle.std.proofs.Common.{None, refl, sym, ap, ◌∙◌, subst, arith, append_assoc, append-nil}
use Rattle.std.specs.Io.KnownBytes.{Appends, Consumes, Keeps, IsAtEnd}
use Rattle.std.proofs.KnownBytes.{Appends-nil, Appends-trans, Consumes-nil, Consumes-trans, Consumes-kept}
use Rattle.std.proofs.KnownBytes.{Consumes-whole}
use Rattle.picky_der_core.specs.Writer.{AppendsBeginning, beginning_after}
use Rattle.der_program_base.specs.Text.{IsLine, AreLines, AreAnswers, text_of_lines, unless_empty, IsSplit, IsAnswersOf}
use Rattle.der_program_base.specs.Text.{WritesAnswers}
use Rattle.der_program_base.specs.Run.{AnswersLine, WroteWhole, WroteBeginning, IsTooLong}

-- ---- one more

pub line_push : (line : List ℕ) (b : ℕ) → IsLine line → b ≢ 0x0A → IsLine (line ++ (b ∷ []))
line_push [] b h n = (n, tt)
line_push (x ∷ xs) b h n = (h.0, line_push xs b h.1 n)

pub lines_push : (lines : List (List ℕ)) (line : List ℕ) → AreLines lines → IsLine line
    → AreLines (lines ++ (line ∷ []))
lines_push [] line h k = (k, tt)
lines_push (l ∷ ls) line h k = (h.0, lines_push ls line h.1 k)

pub text_of_lines-push : (lines : List (List ℕ)) (line : List ℕ)
    → text_of_lines (lines ++ (line ∷ [])) ≡ text_of_lines lines ++ (line ++ (0x0A ∷ []))
text_of_lines-push [] line = refl
text_of_lines-push (l ∷ ls) line = ap (λ t. l ++ (0x0A ∷ t)) (text_of_lines-push ls line)
    ∙ sym (append_assoc l (0x0A ∷ text_of_lines ls) (line ++ (0x0A ∷ [])))

-- a line that isn't empty is a last line
last_of : (line : List ℕ) → 0 < length line → unless_empty line ≡ line ∷ []
last_of [] n = absurd (omega (arith, n))
last_of (x ∷ xs) n = refl

none_last : (line : List ℕ) → length line ≡ 0 → unless_empty line ≡ []
none_last [] n = refl
none_last (x ∷ xs) n = absurd (omega (arith, n))

-- more was read than an input within the limit has
pub longer : (a b : Option (List ℕ)) (bytes : List ℕ) → Consumes a b bytes → length bytes ≡ 2 ^ 64 - 1 → IsTooLong a
longer None b bytes k n = tt
longer (Some xs) None bytes k n = absurd k
longer (Some xs) (Some ys) bytes k n = omega (arith, n, ap length k, length-append bytes ys)

module _ (IsAnswer : List ℕ → List ℕ → Type 0) where
  answers_push : (lines answers : List (List ℕ)) (line answer : List ℕ) → AreAnswers IsAnswer lines answers
      → IsAnswer line answer → AreAnswers IsAnswer (lines ++ (line ∷ [])) (answers ++ (answer ∷ []))
  answers_push [] [] line answer h k = (k, tt)
  answers_push [] (a ∷ as') line answer h k = absurd h
  answers_push (l ∷ ls) [] line answer h k = absurd h
  answers_push (l ∷ ls) (a ∷ as') line answer h k = (h.0, answers_push ls as' line answer h.1 k)

  -- ---- what holds while the input is read

  -- this many bytes were read, of which `line` has no end yet; the answers to the lines before it were written
  pub record RunsOn (a b c d : Option (List ℕ)) (line : List ℕ) (count : ℕ) : Type 0 where
    pub whole : WroteWhole IsAnswer a b c d line
    pub is_line : IsLine line
    pub counted : length (text_of_lines whole.lines ++ line) ≡ count

module _ {IsAnswer : List ℕ → List ℕ → Type 0} where
  -- all of the input was read
  whole_text : {bytes text : List ℕ} (a b c d : Option (List ℕ)) → Consumes a b bytes → IsAtEnd b
      → IsAnswersOf IsAnswer bytes text → Appends c d text → WritesAnswers IsAnswer a c d
  whole_text {bytes} {text} a b c d k e t w =
      Consumes-whole a b bytes (λ input. (text : List ℕ) × IsAnswersOf IsAnswer input text × Appends c d text) k e
      (text, t, w)

  pub run_starts : (a c : Option (List ℕ)) → RunsOn IsAnswer a a c c [] 0
  run_starts a c = record {
    whole = record {
      lines = [];
      answers = [];
      are_lines = tt;
      consumed = Consumes-nil a;
      answered = tt;
      written =
          Appends-nil c;
    };
    is_line = tt;
    counted = refl;
  }

  module _ {a b c d : Option (List ℕ)} {line : List ℕ} {count : ℕ} (h : RunsOn IsAnswer a b c d line count) where
    consumed_more : (b' : Option (List ℕ)) (x : ℕ) → Consumes b b' (x ∷ [])
        → Consumes a b' (text_of_lines h.whole.lines ++ (line ++ (x ∷ [])))
    consumed_more b' x k =
        subst (Consumes a b') (append_assoc (text_of_lines h.whole.lines) line (x ∷ []))
        (Consumes-trans a b b' (text_of_lines h.whole.lines ++ line) (x ∷ []) h.whole.consumed k)

    -- one byte more was read
    pub reads_byte : (b' : Option (List ℕ)) (x : ℕ) → Consumes b b' (x ∷ [])
        → WroteWhole IsAnswer a b' c d (line ++ (x ∷ []))
    reads_byte b' x k = record {
      lines = h.whole.lines;
      answers = h.whole.answers;
      are_lines = h.whole.are_lines;
      consumed = consumed_more b' x k;
      answered = h.whole.answered;
      written = h.whole.written;
    }

    more : (x : ℕ) → length (text_of_lines h.whole.lines ++ (line ++ (x ∷ []))) ≡ count + 1
    more x =
        omega (
          arith,
          h.counted,
          length-append (text_of_lines h.whole.lines) line,
          length-append (text_of_lines h.whole.lines) (line ++ (x ∷ [])),
          length-append line (x ∷ []),
        )

    pub byte_read : (b' : Option (List ℕ)) (x : ℕ) → Consumes b b' (x ∷ []) → x ≢ 0x0A
        → RunsOn IsAnswer a b' c d (line ++ (x ∷ [])) (count + 1)
    unfolding reads_byte
    byte_read b' x k n = record { whole = reads_byte b' x k; is_line = line_push line x h.is_line n; counted = more x }

    consumed_still : (b' : Option (List ℕ)) → Keeps b b' → Consumes a b' (text_of_lines h.whole.lines ++ line)
    consumed_still b' k = Consumes-kept a b b' _ h.whole.consumed k

    -- nothing more was read
    pub reads_nothing : (b' : Option (List ℕ)) → Keeps b b' → WroteWhole IsAnswer a b' c d line
    reads_nothing b' k = record {
      lines = h.whole.lines;
      answers = h.whole.answers;
      are_lines = h.whole.are_lines;
      consumed = consumed_still b' k;
      answered = h.whole.answered;
      written = h.whole.written;
    }

    -- the answer to the line was written
    answered_bytes : (b' : Option (List ℕ)) → Consumes b b' (0x0A ∷ [])
        → Consumes a b' (text_of_lines (h.whole.lines ++ (line ∷ [])) ++ [])
    answered_bytes b' k = subst (Consumes a b') (sym (append-nil _ ∙ text_of_lines-push h.whole.lines line))
        (consumed_more b' 0x0A k)

    answered_text : (d' : Option (List ℕ)) (k : AnswersLine IsAnswer line d d')
        → Appends c d' (text_of_lines (h.whole.answers ++ (k.answer ∷ [])))
    answered_text d' k = subst (Appends c d') (sym (text_of_lines-push h.whole.answers k.answer))
        (Appends-trans c d d' _ _ h.whole.written k.written)

    begun_text : (d' : Option (List ℕ)) (answer : List ℕ) → AppendsBeginning d d' (answer ++ (0x0A ∷ []))
        → AppendsBeginning c d' (text_of_lines (h.whole.answers ++ (answer ∷ [])))
    begun_text d' answer k = subst (AppendsBeginning c d') (sym (text_of_lines-push h.whole.answers answer))
        (beginning_after c d d' _ _ h.whole.written k)

    pub line_answered : (b' d' : Option (List ℕ)) → Consumes b b' (0x0A ∷ []) → AnswersLine IsAnswer line d d'
        → RunsOn IsAnswer a b' c d' [] (count + 1)
    line_answered b' d' k w = record {
      whole = record {
        lines = h.whole.lines ++ (line ∷ []);
        answers = h.whole.answers ++ (w.answer ∷ []);
        are_lines = lines_push _ _ h.whole.are_lines h.is_line;
        consumed = answered_bytes b' k;
        answered = answers_push IsAnswer _ _ _ _ h.whole.answered w.is_answer;
        written = answered_text d' w;
      };
      is_line = tt;
      counted = ap length (append-nil _ ∙ text_of_lines-push h.whole.lines line) ∙ more 0x0A;
    }

    -- ---- the text of what was read

    text_of_answers : (answer : List ℕ) → IsAnswer line answer
        → IsAnswersOf IsAnswer (text_of_lines (h.whole.lines ++ (line ∷ [])) ++ [])
        (text_of_lines (h.whole.answers ++ (answer ∷ [])))
    text_of_answers answer k = record {
      lines = h.whole.lines ++ (line ∷ []);
      last = [];
      split = record { are_lines = lines_push _ _ h.whole.are_lines h.is_line; is_line = tt; is = refl };
      answers = h.whole.answers ++ (answer ∷ []);
      answered = subst (λ ls. AreAnswers IsAnswer ls (h.whole.answers ++ (answer ∷ []))) (sym (append-nil _))
          (answers_push IsAnswer _ _ _ _ h.whole.answered k);
      is = refl;
    }

    -- the writer failed in the answer to the line, whose end was read
    pub begins : (b' d' : Option (List ℕ)) → Consumes b b' (0x0A ∷ []) → (answer : List ℕ) → IsAnswer line answer
        → AppendsBeginning d d' (answer ++ (0x0A ∷ [])) → WroteBeginning IsAnswer a b' c d'
    unfolding text_of_answers
    begins b' d' k answer n w = record {
      bytes = _;
      consumed = answered_bytes b' k;
      text = _;
      is_text = text_of_answers answer n;
      at_end = λ l. absurd (omega (arith, l));
      written = begun_text d' answer w;
    }

    split_of : IsSplit (text_of_lines h.whole.lines ++ line) h.whole.lines line
    split_of = record { are_lines = h.whole.are_lines; is_line = h.is_line; is = refl }

    text_of_last : (answer : List ℕ) → 0 < length line → IsAnswer line answer
        → IsAnswersOf IsAnswer (text_of_lines h.whole.lines ++ line) (text_of_lines (h.whole.answers ++ (answer ∷ [])))
    text_of_last answer some k = record {
      lines = h.whole.lines;
      last = line;
      split = split_of;
      answers = h.whole.answers ++ (answer ∷ []);
      answered = subst (λ ls. AreAnswers IsAnswer (h.whole.lines ++ ls) (h.whole.answers ++ (answer ∷ [])))
          (sym (last_of line some)) (answers_push IsAnswer _ _ _ _ h.whole.answered k);
      is = refl;
    }

    -- the same with the end of the input in place of the line's
    pub begins_last : (b' d' : Option (List ℕ)) → Keeps b b' → IsAtEnd b' → 0 < length line → (answer : List ℕ)
        → IsAnswer line answer → AppendsBeginning d d' (answer ++ (0x0A ∷ [])) → WroteBeginning IsAnswer a b' c d'
    begins_last b' d' k e some answer n w = record {
      bytes = _;
      consumed = consumed_still b' k;
      text = _;
      is_text = text_of_last answer some n;
      at_end = λ _. e;
      written = begun_text d' answer w;
    }

    -- ---- the end of the input

    text_of_none : length line ≡ 0
        → IsAnswersOf IsAnswer (text_of_lines h.whole.lines ++ line) (text_of_lines h.whole.answers)
    text_of_none none = record {
      lines = h.whole.lines;
      last = line;
      split = split_of;
      answers = h.whole.answers;
      answered = subst (λ ls. AreAnswers IsAnswer ls h.whole.answers)
          (sym (ap (λ ls. h.whole.lines ++ ls) (none_last line none) ∙ append-nil _)) h.whole.answered;
      is = refl;
    }

    pub ends : (b' : Option (List ℕ)) → Keeps b b' → IsAtEnd b' → length line ≡ 0 → WritesAnswers IsAnswer a c d
    ends b' k e none = whole_text a b' c d (consumed_still b' k) e (text_of_none none) h.whole.written

    pub ends_answered : (b' d' : Option (List ℕ)) → Keeps b b' → IsAtEnd b' → 0 < length line
        → AnswersLine IsAnswer line d d' → WritesAnswers IsAnswer a c d'
    ends_answered b' d' k e some w =
        whole_text a b' c d' (consumed_still b' k) e (text_of_last w.answer some w.is_answer) (answered_text d' w)

    -- ---- too long an input

    pub too_many : count ≡ 2 ^ 64 - 1 → IsTooLong a
    too_many all = longer a b _ h.whole.consumed (h.counted ∙ all)
