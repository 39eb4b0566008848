-- An input has one list of sections, and so one list of blocks.
use mathlib.Core.Bool.{true≢false}
use Rattle.std.proofs.Common.{◌≡◌, ℕ, suc, ◌<◌, false, List, [], ◌∷◌, ◌++◌, length, get_or, map, Option, None, refl}
use Rattle.std.proofs.Common.{sym, ap, ◌∙◌, subst, arith, append_assoc, append-nil}
use Rattle.picky_der_core.specs.Element.{IsElement}
use Rattle.std.specs.Prelude.{count_by}
use Rattle.std.proofs.lemmas.List.{append_cancel_left, append_cancel_right}
use Rattle.der_program_base.specs.declared.blocks.Blocks.{Blocks}
use Rattle.der_program_base.specs.declared.contents.Form.{Form}
use Rattle.der_program_base.specs.declared.contents.Contents.{Contents}
use Rattle.der_program_base.specs.declared.contents.Contents.TheVariants.{Der, Pem, Other}
use Rattle.der_program_base.specs.Lines.{lines_of, trimmed, begin_front, end_front, dashes, is_filled, IsBegin, IsEnd}
use Rattle.der_program_base.specs.Lines.{IsOther, AreOther}
use Rattle.der_program_base.specs.Sections.{Section, lines_in, all_lines, IsSection, NextBegins, MayPrecede}
use Rattle.der_program_base.specs.Sections.{AreSections, HasSections, block_in, value_of, AreBlocksOf}
use Rattle.der_program_base.specs.declared.guess.Guess.{Guess}
use Rattle.der_program_base.specs.Guess.{has_mark}
use Rattle.der_program_base.specs.Contents.{IsGuessOf, marked, without_blocks, IsContentsOf, AreSameContents}
use Rattle.der_program_base.specs.Contents.{IsMessageIn, IsMessageOf}

-- ---- boundaries

begin_not_end : (line label other : List ℕ) → IsBegin line label → IsEnd line other → ⊥
begin_not_end line label other h k =
    let same : 66 ≡ 69 = ap (λ l. get_or l 5 0) (sym h.is ∙ k.is) in
    omega (arith, same)

one_begin_label : (line label other : List ℕ) → IsBegin line label → IsBegin line other → label ≡ other
one_begin_label line label other h k =
    append_cancel_right label other dashes (append_cancel_left begin_front (label ++ dashes) (other ++ dashes) (sym h.is
    ∙ k.is))

one_end_label : (line label other : List ℕ) → IsEnd line label → IsEnd line other → label ≡ other
one_end_label line label other h k =
    append_cancel_right label other dashes (append_cancel_left end_front (label ++ dashes) (other ++ dashes) (sym h.is
    ∙ k.is))

-- a line that isn't other
abbrev IsMark : List ℕ → Type 0
IsMark line = IsOther line → ⊥

begin_mark : {line label : List ℕ} → IsBegin line label → IsMark line
begin_mark {line} {label} h other = other.begins_none label h

end_mark : {line label : List ℕ} → IsEnd line label → IsMark line
end_mark {line} {label} h other = other.ends_none label h

-- ---- the first boundary

same_begin : {line other label : List ℕ} → line ≡ other → IsBegin other label → IsBegin line label
same_begin {line} {other} {label} e h = record { is = ap (λ l. trimmed l) e ∙ h.is }

same_end : {line other label : List ℕ} → line ≡ other → IsEnd other label → IsEnd line label
same_end {line} {other} {label} e h = record { is = ap (λ l. trimmed l) e ∙ h.is }

one_mark : (o p : List (List ℕ)) (m n : List ℕ) (x y : List (List ℕ)) → AreOther o → AreOther p → IsMark m → IsMark n
    → o ++ (m ∷ x) ≡ p ++ (n ∷ y) → (o ≡ p) × (m ≡ n) × (x ≡ y)
one_mark [] [] m n x y h k f g e = (refl, cc, cc)
one_mark [] (d ∷ ds) m n x y h k f g e = let same : m ≡ d = cc in absurd (f (subst IsOther (sym same) k.0))
one_mark (c ∷ cs) [] m n x y h k f g e = let same : n ≡ c = cc in absurd (g (subst IsOther (sym same) h.0))
one_mark (c ∷ cs) (d ∷ ds) m n x y h k f g e =
    let tails : cs ++ (m ∷ x) ≡ ds ++ (n ∷ y) = cc in
    let first : c ≡ d = cc in
    let rest = one_mark cs ds m n x y h.1 k.1 f g tails in
    ((λ i. first i ∷ rest.0 i), rest.1, rest.2)

no_mark : (o x : List (List ℕ)) (m : List ℕ) → IsMark m → AreOther (o ++ (m ∷ x)) → ⊥
no_mark [] x m f h = f h.0
no_mark (c ∷ cs) x m f h = no_mark cs x m f h.1

-- ---- one section

section_no_others : (section : Section) (rest : List (List ℕ)) → IsSection section
    → AreOther (lines_in section ++ rest) → ⊥
section_no_others (Section.whole o b l body e m) rest h k =
    no_mark o _ b (begin_mark h.1) (subst AreOther (append_assoc o (b ∷ (body ++ (e ∷ []))) rest) k)
section_no_others (Section.cut o b l body) rest h k =
    no_mark o _ b (begin_mark h.1) (subst AreOther (append_assoc o (b ∷ body) rest) k)
section_no_others (Section.stray o e l) rest h k =
    no_mark o _ e (end_mark h.1) (subst AreOther (append_assoc o (e ∷ []) rest) k)

-- a body up to the next begin line isn't one up to an end line
bodies_differ : (body other : List (List ℕ)) (end label : List ℕ) (rest left : List (List ℕ)) → AreOther body
    → AreOther other → IsEnd end label → NextBegins left → body ++ (end ∷ rest) ≡ other ++ left → ⊥
bodies_differ body other end label rest [] h k f g e =
    no_mark body rest end (end_mark f) (subst AreOther (sym (e ∙ append-nil other)) k)
bodies_differ body other end label rest (line ∷ left) h k f g e =
    let same = one_mark body other end line rest left h k (end_mark f) (begin_mark g.1) e in
    begin_not_end line g.0 label g.1 (same_end (sym same.1) f)

one_body : (body other rest left : List (List ℕ)) → AreOther body → AreOther other → NextBegins rest → NextBegins left
    → body ++ rest ≡ other ++ left → (body ≡ other) × (rest ≡ left)
one_body body other [] [] h k f g e = (sym (append-nil body) ∙ e ∙ append-nil other, refl)
one_body body other [] (line ∷ left) h k f g e =
    absurd (no_mark other left line (begin_mark g.1) (subst AreOther (sym (append-nil body) ∙ e) h))
one_body body other (line ∷ rest) [] h k f g e =
    absurd (no_mark body rest line (begin_mark f.1) (subst AreOther (sym (e ∙ append-nil other)) k))
one_body body other (line ∷ rest) (next ∷ left) h k f g e =
    let same = one_mark body other line next rest left h k (begin_mark f.1) (begin_mark g.1) e in
    (same.0, (λ i. same.1 i ∷ same.2 i))

one_section : (s t : Section) (rest left : List (List ℕ)) → IsSection s → IsSection t → MayPrecede s rest
    → MayPrecede t left → lines_in s ++ rest ≡ lines_in t ++ left → (s ≡ t) × (rest ≡ left)
one_section (Section.whole o b l body e m) (Section.whole p c k other f n) rest left h g u v is =
    let all = sym (append_assoc o (b ∷ (body ++ (e ∷ []))) rest) ∙ is ∙ append_assoc p (c ∷ (other ++ (f ∷ []))) left in
    let first = one_mark o p b c _ _ h.0 g.0 (begin_mark h.1) (begin_mark g.1) all in
    let second =
    one_mark body other e f rest left h.2 g.2 (end_mark h.3) (end_mark g.3) (sym (append_assoc body (e ∷ []) rest)
    ∙ first.2 ∙ append_assoc other (f ∷ []) left) in
    let label = one_begin_label b l k h.1 (same_begin first.1 g.1) in
    let end_label = one_end_label e m n h.3 (same_end second.1 g.3) in
    ((λ i. Section.whole (first.0 i) (first.1 i) (label i) (second.0 i) (second.1 i) (end_label i)), second.2)
one_section (Section.whole o b l body e m) (Section.cut p c k other) rest left h g u v is =
    let all = sym (append_assoc o (b ∷ (body ++ (e ∷ []))) rest) ∙ is ∙ append_assoc p (c ∷ other) left in
    let first = one_mark o p b c _ _ h.0 g.0 (begin_mark h.1) (begin_mark g.1) all in
    absurd (bodies_differ body other e m rest left h.2 g.2 h.3 v (sym (append_assoc body (e ∷ []) rest) ∙ first.2))
one_section (Section.whole o b l body e m) (Section.stray p f n) rest left h g u v is =
    let all = sym (append_assoc o (b ∷ (body ++ (e ∷ []))) rest) ∙ is ∙ append_assoc p (f ∷ []) left in
    let first = one_mark o p b f _ _ h.0 g.0 (begin_mark h.1) (end_mark g.1) all in
    absurd (begin_not_end b l n h.1 (same_end first.1 g.1))
one_section (Section.cut o b l body) (Section.whole p c k other f n) rest left h g u v is =
    let all = sym (append_assoc o (b ∷ body) rest) ∙ is ∙ append_assoc p (c ∷ (other ++ (f ∷ []))) left in
    let first = one_mark o p b c _ _ h.0 g.0 (begin_mark h.1) (begin_mark g.1) all in
    absurd (bodies_differ other body f n left rest g.2 h.2 g.3 u (sym (first.2 ∙ append_assoc other (f ∷ []) left)))
one_section (Section.cut o b l body) (Section.cut p c k other) rest left h g u v is =
    let all = sym (append_assoc o (b ∷ body) rest) ∙ is ∙ append_assoc p (c ∷ other) left in
    let first = one_mark o p b c _ _ h.0 g.0 (begin_mark h.1) (begin_mark g.1) all in
    let second = one_body body other rest left h.2 g.2 u v first.2 in
    let label = one_begin_label b l k h.1 (same_begin first.1 g.1) in
    ((λ i. Section.cut (first.0 i) (first.1 i) (label i) (second.0 i)), second.1)
one_section (Section.cut o b l body) (Section.stray p f n) rest left h g u v is =
    let all = sym (append_assoc o (b ∷ body) rest) ∙ is ∙ append_assoc p (f ∷ []) left in
    let first = one_mark o p b f _ _ h.0 g.0 (begin_mark h.1) (end_mark g.1) all in
    absurd (begin_not_end b l n h.1 (same_end first.1 g.1))
one_section (Section.stray o e m) (Section.whole p c k other f n) rest left h g u v is =
    let all = sym (append_assoc o (e ∷ []) rest) ∙ is ∙ append_assoc p (c ∷ (other ++ (f ∷ []))) left in
    let first = one_mark o p e c _ _ h.0 g.0 (end_mark h.1) (begin_mark g.1) all in
    absurd (begin_not_end e k m (same_begin first.1 g.1) h.1)
one_section (Section.stray o e m) (Section.cut p c k other) rest left h g u v is =
    let all = sym (append_assoc o (e ∷ []) rest) ∙ is ∙ append_assoc p (c ∷ other) left in
    let first = one_mark o p e c _ _ h.0 g.0 (end_mark h.1) (begin_mark g.1) all in
    absurd (begin_not_end e k m (same_begin first.1 g.1) h.1)
one_section (Section.stray o e m) (Section.stray p f n) rest left h g u v is =
    let all = sym (append_assoc o (e ∷ []) rest) ∙ is ∙ append_assoc p (f ∷ []) left in
    let first = one_mark o p e f rest left h.0 g.0 (end_mark h.1) (end_mark g.1) all in
    let label = one_end_label e m n h.1 (same_end first.1 g.1) in
    ((λ i. Section.stray (first.0 i) (first.1 i) (label i)), first.2)

-- ---- all sections

one_list : (xs ys : List Section) (a b : List (List ℕ)) → AreSections xs a → AreSections ys b → AreOther a
    → AreOther b → all_lines xs ++ a ≡ all_lines ys ++ b → (xs ≡ ys) × (a ≡ b)
one_list [] [] a b h k f g e = (refl, e)
one_list [] (t ∷ ts) a b h k f g e =
    absurd (section_no_others t (all_lines ts ++ b) k.0 (subst AreOther (e ∙ append_assoc (lines_in t) (all_lines ts) b)
    f))
one_list (s ∷ ss) [] a b h k f g e =
    absurd (section_no_others s (all_lines ss ++ a) h.0
    (subst AreOther (sym e ∙ append_assoc (lines_in s) (all_lines ss) a) g))
one_list (s ∷ ss) (t ∷ ts) a b h k f g e =
    let first =
    one_section s t (all_lines ss ++ a) (all_lines ts ++ b) h.0 k.0 h.1 k.1
    (sym (append_assoc (lines_in s) (all_lines ss) a) ∙ e ∙ append_assoc (lines_in t) (all_lines ts) b) in
    let rest = one_list ss ts a b h.2 k.2 f g first.1 in
    ((λ i. first.0 i ∷ rest.0 i), rest.1)

same_blocks : (lines : List (List ℕ)) (x y : Blocks) → AreBlocksOf lines x → AreBlocksOf lines y
    → (map value_of x.blocks.items ≡ map value_of y.blocks.items) × (x.skipped ≡ y.skipped)
same_blocks lines x y h k =
    let same = one_list h.sections k.sections h.after k.after h.has_sections.sections_are k.has_sections.sections_are
    h.has_sections.after_is k.has_sections.after_is (sym h.has_sections.is ∙ k.has_sections.is) in
    (h.are ∙ ap (map block_in) same.0 ∙ sym k.are, h.skipped ∙ ap (count_by is_filled) same.1 ∙ sym k.skipped)

-- ---- blocks or none

length-map : {A B : Type 0} (f : A → B) (xs : List A) → length (map f xs) ≡ length xs
length-map f [] = refl
length-map f (x ∷ xs) = ap suc (length-map f xs)

without_sections : (lines : List (List ℕ)) (sections : List Section) (after : List (List ℕ))
    → HasSections lines sections after → length sections ≡ 0 → AreOther lines
without_sections lines [] after h e = subst AreOther (sym h.is) h.after_is
without_sections lines (s ∷ ss) after h e = absurd (omega (arith, e))

with_sections : (lines : List (List ℕ)) (sections : List Section) (after : List (List ℕ))
    → HasSections lines sections after → AreOther lines → length sections ≡ 0
with_sections lines [] after h k = refl
with_sections lines (s ∷ ss) after h k =
    absurd (section_no_others s (all_lines ss ++ after) h.sections_are.0
    (subst AreOther (h.is ∙ append_assoc (lines_in s) (all_lines ss) after) k))

as_many : (lines : List (List ℕ)) (blocks : Blocks) (h : AreBlocksOf lines blocks)
    → length blocks.blocks.items ≡ length h.sections
as_many lines blocks h = sym (length-map value_of blocks.blocks.items) ∙ ap length h.are
    ∙ length-map block_in h.sections

pub no_blocks : (lines : List (List ℕ)) (blocks : Blocks) → AreBlocksOf lines blocks → length blocks.blocks.items ≡ 0
    → AreOther lines
no_blocks lines blocks h none = without_sections lines h.sections h.after h.has_sections (sym (as_many lines blocks h)
    ∙ none)

some_blocks : (lines : List (List ℕ)) (blocks : Blocks) → AreBlocksOf lines blocks → 0 < length blocks.blocks.items
    → AreOther lines → ⊥
some_blocks lines blocks h some others =
    omega (arith, some, as_many lines blocks h, with_sections lines h.sections h.after h.has_sections others)

pem_or_other : (input : List ℕ) (blocks : Blocks) (guess : Guess) → has_mark input ≡ false
    → AreBlocksOf (lines_of input) blocks → 0 < length blocks.blocks.items → IsGuessOf input guess → ⊥
pem_or_other input blocks guess h k some (marked mark is) = true≢false (sym mark ∙ h)
pem_or_other input blocks guess h k some (without_blocks mark others is) =
    some_blocks (lines_of input) blocks k some others

one_guess : (input : List ℕ) (one other : Guess) → IsGuessOf input one → IsGuessOf input other → one ≡ other
one_guess input one other (marked mark is) (marked m e) = is ∙ sym e
one_guess input one other (marked mark is) (without_blocks m others e) = absurd (true≢false (sym mark ∙ m))
one_guess input one other (without_blocks mark others is) (marked m e) = absurd (true≢false (sym m ∙ mark))
one_guess input one other (without_blocks mark others is) (without_blocks m o e) = is ∙ sym e

pub one_contents : (form : Option Form) (input : List ℕ) (a b : Contents) → IsContentsOf form input a
    → IsContentsOf form input b → AreSameContents a b
one_contents form input Der Der h k = tt
one_contents form input Der (Pem y) h k = h k.0
one_contents form input Der (Other g) h k = h k.0
one_contents form input (Pem x) Der h k = k h.0
one_contents form input (Pem x) (Pem y) h k = same_blocks (lines_of input) x y h.2 k.2
one_contents form input (Pem x) (Other g) h k = pem_or_other input x g h.1 h.2 h.3 k.1
one_contents form input (Other g) Der h k = k h.0
one_contents form input (Other g) (Pem y) h k = pem_or_other input y g k.1 k.2 k.3 h.1
one_contents form input (Other g) (Other f) h k = one_guess input g f h.1 k.1

-- ---- an element

message_in : (input bytes : List ℕ) (contents : Contents) → IsElement input → IsContentsOf None input contents
    → IsMessageIn contents input bytes → bytes ≡ input
message_in input bytes Der h k m = m
message_in input bytes (Pem blocks) h k m = absurd (k.0.0 h)
message_in input bytes (Other guess) h k m = absurd m

pub element_is_message : (input bytes : List ℕ) → IsElement input → IsMessageOf None input bytes → bytes ≡ input
element_is_message input bytes h m = message_in input bytes m.contents h m.are_contents m.is_message
