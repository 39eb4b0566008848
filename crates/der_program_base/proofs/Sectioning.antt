-- Lines that are read up to a boundary, and blocks that are read one after another.
use Rattle.std.proofs.Common.{◌≡◌, ℕ, suc, ◌+◌, ◌-◌, ◌<◌, ◌≤◌, Bool, true, false, cond, List, [], ◌∷◌, ◌++◌, length}
use Rattle.std.proofs.Common.{take, drop, get_or, map, Err, Result, refl, sym, ap, ◌∙◌, subst, arith, append_assoc}
use Rattle.std.proofs.Common.{length-append, length-drop, take_all}
use Rattle.std.specs.Borrow.{Bor}
use Rattle.std.specs.List.{list_any, fold, drop-map}
use Rattle.std.specs.Prelude.{count_by}
use Rattle.std.proofs.lemmas.List.{take_more, drop_more, take-append-drop, map-append}
use Rattle.std.proofs.Math.Seq.{drop-append_seam, drop-drop}
use Rattle.base64.specs.declared.decode.DecodeError.{DecodeError}
use Rattle.base64.specs.Engines.{standard}
use Rattle.base64.specs.GeneralPurpose.{decode_of}
use Rattle.der_program_base.specs.declared.blocks.Block.{Block}
use Rattle.der_program_base.specs.declared.blocks.BlockFault.TheVariants.{NoBegin, NoEnd, Headers}
use Rattle.der_program_base.specs.Lines.{texts, is_filled, IsBegin, IsEnd, IsOther, AreOther}
use Rattle.der_program_base.specs.Sections.{Section, lines_in, all_lines, IsSection, NextBegins, MayPrecede}
use Rattle.der_program_base.specs.Sections.{AreSections, HasSections, has_colon, base64_in, or_no_base64, bytes_in}
use Rattle.der_program_base.specs.Sections.{block_in, items_of, value_of}
use Rattle.der_program_base.specs.Boundaries.{IsBoundary, IsFirstBlock, IsBody, ended, not_ended}
use Rattle.der_program_base.specs.declared.blocks.Boundary.{Boundary}
use Rattle.der_program_base.proofs.Escapes.{flat_map_push}

-- ---- tests of lines

fold-map : {A B C : Type 0} (step : C → B → C) (f : A → B) (start : C) (xs : List A)
    → fold step start (map f xs) ≡ fold (λ a x. step a (f x)) start xs
fold-map step f start [] = refl
fold-map step f start (x ∷ xs) = fold-map step f (step start (f x)) xs

pub count_by-map : {A B : Type 0} (p : B → Bool) (f : A → B) (xs : List A)
    → count_by p (map f xs) ≡ count_by (λ x. p (f x)) xs
count_by-map p f xs = fold-map (λ n x. n + cond (p x) 1 0) f 0 xs

pub list_any-map : {A B : Type 0} (p : B → Bool) (f : A → B) (xs : List A)
    → list_any p (map f xs) ≡ list_any (λ x. p (f x)) xs
list_any-map p f [] = refl
list_any-map p f (x ∷ xs) = rw (list_any-map p f xs) refl

-- ---- lines before a boundary

others_push : (front : List (List ℕ)) (line : List ℕ) → AreOther front → IsOther line → AreOther (front ++ (line ∷ []))
others_push [] line h k = (k, tt)
others_push (l ∷ ls) line h k = (h.0, others_push ls line h.1 k)

texts_more : (lines : List (Bor (List ℕ))) (i : ℕ) (d : Bor (List ℕ)) → i < length lines
    → texts (take (i + 1) lines) ≡ texts (take i lines) ++ ((get_or lines i d).now ∷ [])
texts_more lines i d h = ap texts (take_more lines i d h)
    ∙ map-append (λ line. line.now) (take i lines) (get_or lines i d ∷ [])

pub others_more : (lines : List (Bor (List ℕ))) (i : ℕ) (d : Bor (List ℕ)) → i < length lines
    → AreOther (texts (take i lines)) → IsOther (get_or lines i d).now → AreOther (texts (take (i + 1) lines))
others_more lines i d h before here =
    subst AreOther (sym (texts_more lines i d h)) (others_push (texts (take i lines)) (get_or lines i d).now before
    here)

rest_of : (lines : List (Bor (List ℕ))) (i : ℕ) → texts (take (length lines - i) (drop i lines)) ≡ texts (drop i lines)
rest_of lines i = ap texts (take_all (length lines - i) (drop i lines) (omega (arith, length-drop i lines)))

split_line : (lines : List (Bor (List ℕ))) (i : ℕ) (d : Bor (List ℕ)) → i < length lines
    → texts lines ≡ texts (take i lines)
    ++ ((get_or lines i d).now ∷ texts (take (length lines - (i + 1)) (drop (i + 1) lines)))
split_line lines i d h =
    ap texts (sym (take-append-drop i lines)) ∙ map-append (λ line. line.now) (take i lines) (drop i lines)
    ∙ ap (λ l. texts (take i lines) ++ l) (ap texts (drop_more lines i d h)
    ∙ ap (λ l. (get_or lines i d).now ∷ l) (sym (rest_of lines (i + 1))))

pub found_line : (lines : List (Bor (List ℕ))) (i : ℕ) (d : Bor (List ℕ)) (boundary : Boundary) → i < length lines
    → AreOther (texts (take i lines)) → IsBoundary (get_or lines i d).now boundary
    → (line : List ℕ) × AreOther (texts (take i lines)) × IsBoundary line boundary
    × (texts lines ≡ texts (take i lines) ++ (line ∷ texts (take (length lines - (i + 1)) (drop (i + 1) lines))))
found_line lines i d boundary h others is = ((get_or lines i d).now, others, is, split_line lines i d h)

-- ---- the lines after others

length-texts : (lines : List (Bor (List ℕ))) → length (texts lines) ≡ length lines
length-texts [] = refl
length-texts (l ∷ ls) = ap suc (length-texts ls)

dropped : (n : ℕ) (front rest : List (List ℕ)) → n ≡ length front → drop n (front ++ rest) ≡ rest
dropped n front rest e = ap (λ k. drop k (front ++ rest)) e ∙ drop-append_seam front rest

texts_after : (lines front : List (Bor (List ℕ))) (rest : List (List ℕ)) → texts lines ≡ texts front ++ rest
    → texts (take (length lines - length front) (drop (length front) lines)) ≡ rest
texts_after lines front rest e =
    rest_of lines (length front) ∙ sym (drop-map (λ line. line.now) (length front) lines)
    ∙ ap (λ l. drop (length front) l) e ∙ dropped (length front) (texts front) rest (sym (length-texts front))

-- a body ends where another block begins
pub begins_after : (lines front : List (Bor (List ℕ))) (label line begin : List ℕ) (rest : List (List ℕ))
    → AreOther (texts front) → IsBegin line begin → texts lines ≡ texts front ++ (line ∷ rest)
    → IsBody label (texts lines) (Err NoEnd) (texts (take (length lines - length front) (drop (length front) lines)))
begins_after lines front label line begin rest others h e =
    let left = texts_after lines front (line ∷ rest) e in
    not_ended (texts front) others (subst NextBegins (sym left) (begin, h)) (e ∙ ap (λ l. texts front ++ l) (sym left))
    refl

-- ---- the bytes of a block

pub headers : (body : List (List ℕ)) → has_colon body ≡ true → Err Headers ≡ bytes_in body
unfolding bytes_in
headers body h = rw h refl

pub no_headers : (body : List (List ℕ)) (text : List ℕ) (outcome : Result (List ℕ) DecodeError)
    → has_colon body ≡ false → text ≡ base64_in body → decode_of standard text ≡ outcome
    → or_no_base64 outcome ≡ bytes_in body
unfolding bytes_in
no_headers body text outcome h e d = rw h (sym (ap or_no_base64 (ap (decode_of standard) (sym e) ∙ d)))

-- ---- one block

some_lines : (section : Section) → 0 < length (lines_in section)
some_lines (Section.whole outside begin label body end end_label) =
    omega (arith, length-append outside (begin ∷ (body ++ (end ∷ []))))
some_lines (Section.cut outside begin label body) = omega (arith, length-append outside (begin ∷ body))
some_lines (Section.stray outside end label) = omega (arith, length-append outside (end ∷ []))

module _ {lines rest : List (List ℕ)} (outside : List (List ℕ)) (block : Block) (others : AreOther outside)
    (skipped : block.skipped ≡ count_by is_filled outside) where
  pub stray_first : (end label : List ℕ) → IsEnd end label → lines ≡ outside ++ (end ∷ rest)
      → block.label.items ≡ label → items_of block.bytes ≡ Err NoBegin → IsFirstBlock lines block rest
  stray_first end label h is same bytes = record {
    section = Section.stray outside end label;
    is = is ∙ sym (append_assoc outside (end ∷ []) rest);
    is_section = (others, h);
    may_precede = tt;
    block_is = λ i. record { label = same i; skipped = skipped i; bytes = bytes i };
  }

  pub begin_first : (begin label : List ℕ) (after : List (List ℕ)) → IsBegin begin label
      → lines ≡ outside ++ (begin ∷ after) → block.label.items ≡ label
      → IsBody label after (items_of block.bytes) rest → IsFirstBlock lines block rest
  begin_first begin label after h is same (ended body end end_label o e after_is bytes) = record {
    section = Section.whole outside begin label body end end_label;
    is = is ∙ ap (λ l. outside ++ (begin ∷ l)) (after_is ∙ sym (append_assoc body (end ∷ []) rest))
        ∙ sym (append_assoc outside (begin ∷ (body ++ (end ∷ []))) rest);
    is_section = (others, h, o, e);
    may_precede = tt;
    block_is = λ i. record { label = same i; skipped = skipped i; bytes = bytes i };
  }
  begin_first begin label after h is same (not_ended body o next after_is bytes) = record {
    section = Section.cut outside begin label body;
    is = is ∙ ap (λ l. outside ++ (begin ∷ l)) after_is ∙ sym (append_assoc outside (begin ∷ body) rest);
    is_section = (others, h, o);
    may_precede = next;
    block_is = λ i. record { label = same i; skipped = skipped i; bytes = bytes i };
  }

-- ---- one block after another

all_push : (sections : List Section) (section : Section) (rest : List (List ℕ))
    → all_lines (sections ++ (section ∷ [])) ++ rest ≡ all_lines sections ++ (lines_in section ++ rest)
all_push sections section rest = ap (λ l. l ++ rest) (flat_map_push lines_in sections section)
    ∙ append_assoc (all_lines sections) (lines_in section) rest

sections_push : (sections : List Section) (section : Section) (rest : List (List ℕ))
    → AreSections sections (lines_in section ++ rest) → IsSection section → MayPrecede section rest
    → AreSections (sections ++ (section ∷ [])) rest
sections_push [] section rest h is next = (is, next, tt)
sections_push (s ∷ ss) section rest h is next =
    (h.0, subst (MayPrecede s) (sym (all_push ss section rest)) h.1, sections_push ss section rest h.2 is next)

-- the blocks of the lines before `start` were read
pub record ReadsOn (lines : List (Bor (List ℕ))) (blocks : List Block) (start : ℕ) : Type 0 where
  pub within : start ≤ length lines
  pub sections : List Section
  pub are : map value_of blocks ≡ map block_in sections
  pub is : texts lines ≡ all_lines sections ++ texts (drop start lines)
  pub sections_are : AreSections sections (texts (drop start lines))

pub reads_none : (lines : List (Bor (List ℕ))) → ReadsOn lines [] 0
reads_none lines = record { within = omega arith; sections = []; are = refl; is = refl; sections_are = tt }

module _ (lines : List (Bor (List ℕ))) (start : ℕ) (block : Block) (rest : List (Bor (List ℕ)))
    (first : IsFirstBlock (texts (take (length lines - start) (drop start lines))) block (texts rest))
    (within : start ≤ length lines) where
  left_is : texts (drop start lines) ≡ lines_in first.section ++ texts rest
  left_is = sym (rest_of lines start) ∙ first.is

  counted : length lines - start ≡ length (lines_in first.section) + length rest
  counted = sym (length-drop start lines) ∙ sym (length-texts (drop start lines)) ∙ ap length left_is
      ∙ length-append (lines_in first.section) (texts rest)
      ∙ ap (λ n. length (lines_in first.section) + n) (length-texts rest)

  pub continues : (length rest ≤ length lines) × (start < length lines - length rest)
  continues = (omega (arith, counted, within), omega (arith, counted, within, some_lines first.section))

  left_after : texts (drop (length lines - length rest) lines) ≡ texts rest
  left_after =
      let more : length lines - length rest ≡ start + length (lines_in first.section) =
      omega (arith, counted, within) in
      ap (λ n. texts (drop n lines)) more
      ∙ sym (drop-map (λ line. line.now) (start + length (lines_in first.section)) lines)
      ∙ sym (drop-drop (length (lines_in first.section)) start (texts lines))
      ∙ ap (λ l. drop (length (lines_in first.section)) l) (drop-map (λ line. line.now) start lines ∙ left_is)
      ∙ drop-append_seam (lines_in first.section) (texts rest)

  pub reads_more : (blocks : List Block) → ReadsOn lines blocks start
      → ReadsOn lines (blocks ++ (block ∷ [])) (length lines - length rest)
  reads_more blocks h = record {
    within = omega arith;
    sections = h.sections ++ (first.section ∷ []);
    are = map-append value_of blocks (block ∷ []) ∙ ap (λ l. l ++ (value_of block ∷ [])) h.are
        ∙ ap (λ v. map block_in h.sections ++ (v ∷ [])) first.block_is
        ∙ sym (map-append block_in h.sections (first.section ∷ []));
    is = rw left_after (h.is ∙ ap (λ l. all_lines h.sections ++ l) left_is
        ∙ sym (all_push h.sections first.section (texts rest)));
    sections_are =
        rw left_after
        (sections_push h.sections first.section (texts rest) (subst (AreSections h.sections) left_is h.sections_are)
        first.is_section first.may_precede);
  }

-- all were read
pub reads_all : (lines : List (Bor (List ℕ))) (blocks : List Block) (start : ℕ) (h : ReadsOn lines blocks start)
    → AreOther (texts (take (length lines - start) (drop start lines)))
    → HasSections (texts lines) h.sections (texts (take (length lines - start) (drop start lines)))
reads_all lines blocks start h others =
    record {
      is = rw (rest_of lines start) h.is;
      sections_are = rw (rest_of lines start) h.sections_are;
      after_is =
          others;
    }
