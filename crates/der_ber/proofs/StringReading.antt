-- Reading a string in parts, which becomes primitive.
use Rattle.std.proofs.Common.{◌≡◌, ℕ, ◌+◌, ◌≤◌, true, false, List, [], ◌∷◌, ◌++◌, length, take, drop, set, refl}
use Rattle.std.proofs.Common.{sym, ap}
use Rattle.std.proofs.Common.{ap₂, subst, ◌∙◌, arith, append_assoc, append-nil, length-append}
use Rattle.std.specs.Prelude.{Some, None}
use Rattle.std.proofs.lemmas.List.{set_at, take_at, drop_at}
use Rattle.picky_der_core.specs.Tag.{number_of, is_constructed}
use Rattle.picky_der_core.specs.Element.{tlv, length_octets}
use Rattle.der_ber.specs.declared.error.BerError.{BerError}
use Rattle.der_ber.specs.declared.error.BerError.TheVariants.{OutOfMemory, Broken}
use Rattle.der_ber.specs.declared.error.BerRule.{BerRule}
use Rattle.der_ber.specs.declared.parts.Part.{Part}
use Rattle.der_ber.specs.declared.parts.Part.TheVariants as part
use Rattle.der_ber.specs.declared.strings.Strings.{Strings}
use Rattle.der_ber.specs.declared.strings.Strings.TheVariants.{InParts}
use Rattle.der_ber.specs.declared.strings.WholeString.{WholeString}
use Rattle.der_ber.specs.Nodes.{Nodes, encoding, depth}
use Rattle.der_ber.specs.LongLengths.{HasLongLengths}
use Rattle.der_ber.specs.Strings.{segment_of, IsStringAt, are_segments, segments, IsJoined}
use Rattle.der_ber.specs.Strings.{BeginsWhole}
use Rattle.der_ber.specs.Fronts.{AreInside, BreaksString, IsBroken}
use Rattle.der_ber.specs.Parts.{part_bytes, contents, are_in, ArePartsOf}
use Rattle.der_ber.specs.Joining.{AreNoBits, IsContentPushed, BreaksParts, FailsContent}
use Rattle.der_ber.specs.Reading.{IsSingle, IsElementRead, IsFrontRead, FailsAt}
use Rattle.der_ber.proofs.Firsts.{HasTag, primitive_tag, constructed_tag, opens_tag}
use Rattle.der_ber.proofs.StringTags.{parts_is_constructed}
use Rattle.der_ber.proofs.PartLemmas.{segments_of, tags_of}
use Rattle.der_ber.proofs.ReadingLemmas.{length-element}

-- the element is constructed, and these are its header and the parts of what is in it
record IsInParts (first : ℕ) (room : ℕ) (bytes : List ℕ) (old now : List Part) (rest : List ℕ) : Type 0 where
  pub tag : ℕ
  pub same : tag ≡ first
  pub inside : Nodes
  pub passed : List ℕ
  pub elements : HasLongLengths (Nodes.constructed tag inside Nodes.none) passed
  pub levels : depth (Nodes.constructed tag inside Nodes.none) ≤ room
  pub is : bytes ≡ passed ++ rest
  pub content_len : ℕ
  pub within : List Part
  pub appended : now ≡ (old ++ (part.Header tag content_len ∷ [])) ++ within
  pub are_parts : ArePartsOf inside within

-- it is
in_parts : (first : ℕ) (bytes others : List ℕ) (room : ℕ) (old now : List Part) (size : ℕ) (rest : List ℕ)
    → bytes ≡ first ∷ others → is_constructed first ≡ true → (nodes : Nodes) (passed : List ℕ)
    → HasLongLengths nodes passed → depth nodes ≤ room → bytes ≡ passed ++ rest → IsSingle nodes → (ps : List Part)
    → now ≡ old ++ ps → ArePartsOf nodes ps → IsInParts first room bytes old now rest
in_parts first bytes others room old now size rest is set Nodes.none passed h levels e single ps f parts = absurd single
in_parts first bytes others room old now size rest is set (Nodes.primitive tag c a) passed h levels e single ps f
    parts =
    let begins : HasTag tag false passed = primitive_tag tag c (HasLongLengths a) passed h in
    let same : first ∷ others ≡ tag ∷ (begins.rest ++ rest) = sym is ∙ e ∙ ap (λ l. l ++ rest) begins.is in
    let tags : first ≡ tag = cc in
    let clear : is_constructed first ≡ false = ap is_constructed tags ∙ begins.is_tag.form in
    let bad : true ≡ false = sym set ∙ clear in
    absurd (cc)
in_parts first bytes others room old now size rest is set (Nodes.constructed tag i a) passed h levels e single ps f
    parts =
    let begins : HasTag tag true passed = constructed_tag tag (HasLongLengths i) (HasLongLengths a) passed h in
    let same : first ∷ others ≡ tag ∷ (begins.rest ++ rest) = sym is ∙ e ∙ ap (λ l. l ++ rest) begins.is in
    let no_more : parts.others ≡ [] = subst (λ n. ArePartsOf n parts.others) single parts.after in
    record {
      tag = tag;
      same = cc;
      inside = i;
      passed = passed;
      elements = subst (λ n. HasLongLengths (Nodes.constructed tag i n) passed) single h;
      levels = subst (λ n. depth (Nodes.constructed tag i n) ≤ room) single levels;
      is = e;
      content_len = parts.content_len;
      within = parts.within;
      appended = f ∙ ap (λ l. old ++ l) parts.is
          ∙ ap (λ l. old ++ (part.Header tag parts.content_len ∷ l))
          (ap (λ l. parts.within ++ l) no_more ∙ append-nil parts.within)
          ∙ sym (append_assoc old (part.Header tag parts.content_len ∷ []) parts.within);
      are_parts = parts.inside;
    }

module _ (bytes : List ℕ) (string : WholeString) (strings : Strings) (s : IsStringAt strings bytes string) (room : ℕ)
    (old now : List Part) (size : ℕ) (rest : List ℕ) (f : IsFrontRead InParts room bytes old now size rest) where
  it : IsInParts s.first room bytes old now rest
  it =
      in_parts s.first bytes s.rest room old now size rest s.is
      (parts_is_constructed strings s.first string.segment s.is_string) f.read.nodes f.read.passed f.read.elements
      f.read.levels f.read.is f.single f.read.parts f.read.appended (f.read.are_parts refl)

  -- a header was appended at least
  pub some_part : length old + 1 ≤ length now
  some_part =
      let i = it in
      omega (
        arith,
        ap length i.appended,
        length-append (old ++ (part.Header i.tag i.content_len ∷ [])) i.within,
        length-append old (part.Header i.tag i.content_len ∷ []),
      )

  is_string : (i : IsInParts s.first room bytes old now rest) → segment_of strings i.tag ≡ Some string.segment
  is_string i = ap (segment_of strings) i.same ∙ s.is_string

  module _ (head inside : List Part) (n : ℕ) (as_many : n ≡ length old + 1) (front : head ≡ take n now)
      (back : inside ≡ drop n now) where
    length_head : (i : IsInParts s.first room bytes old now rest)
        → length (old ++ (part.Header i.tag i.content_len ∷ [])) ≡ n
    length_head i = omega (arith, length-append old (part.Header i.tag i.content_len ∷ []))

    head_is : (i : IsInParts s.first room bytes old now rest) → head ≡ old ++ (part.Header i.tag i.content_len ∷ [])
    head_is i =
        front ∙ ap (take n) i.appended
        ∙ take_at (old ++ (part.Header i.tag i.content_len ∷ [])) i.within n (length_head i)

    inside_is : (i : IsInParts s.first room bytes old now rest) → inside ≡ i.within
    inside_is i =
        back ∙ ap (drop n) i.appended
        ∙ drop_at (old ++ (part.Header i.tag i.content_len ∷ [])) i.within n (length_head i)

    contents_are : (i : IsInParts s.first room bytes old now rest) → contents inside ≡ segments i.inside
    contents_are i = ap contents (inside_is i) ∙ segments_of i.inside i.within i.are_parts

    tags_are : (i : IsInParts s.first room bytes old now rest)
        → are_in string.segment inside ≡ are_segments string.segment i.inside
    tags_are i = ap (are_in string.segment) (inside_is i) ∙ tags_of string.segment i.inside i.within i.are_parts

    not_kept : (i : IsInParts s.first room bytes old now rest) → strings ≡ InParts → ⊥
    not_kept i kept =
        let bad : None ≡ Some string.segment =
        subst (λ m. segment_of m i.tag ≡ Some string.segment) kept (is_string i) in
        cc

    module _ (later new : List Part) (last : Part) (len total : ℕ)
        (h : IsContentPushed string.segment inside head later len) (g : new ≡ set later (length old) last)
        (header : last ≡ part.Header string.tag len) (sizes : total ≡ 1 + length (length_octets len) + len) where
      string_read : (i : IsInParts s.first room bytes old now rest)
          → IsElementRead strings room bytes old new total rest
      unfolding encoding tlv
      string_read i =
          let ps = h.pushed.parts in
          let first = part.Header i.tag i.content_len in
          let tag : string.tag ≡ number_of i.tag = s.tag ∙ ap number_of (sym i.same) in
          let laters : later ≡ old ++ (first ∷ ps) =
          h.pushed.appended ∙ ap (λ l. l ++ ps) (head_is i) ∙ append_assoc old (first ∷ []) ps in
          record {
            nodes = Nodes.constructed i.tag i.inside Nodes.none;
            passed = i.passed;
            elements = i.elements;
            levels = i.levels;
            is = i.is;
            whole = Nodes.primitive (number_of i.tag) h.content Nodes.none;
            has_parts = BeginsWhole.string string.segment h.content Nodes.none (is_string i)
                (record {
                  parts = sym (tags_are i) ∙ h.parts;
                  joined = subst (λ l. IsJoined string.segment l h.content) (contents_are i) h.joined;
                })
                refl refl;
            parts = last ∷ ps;
            appended = g ∙ ap (λ l. set l (length old) last) laters ∙ set_at old first ps last (length old) refl;
            writes = ap₂ (λ p t. part_bytes p ++ t) header h.pushed.writes
                ∙ ap₂ (λ t n. t ∷ (length_octets n ++ h.content)) tag h.pushed.counted
                ∙ sym (append-nil (tlv (number_of i.tag) h.content));
            counted = sizes ∙ ap (λ n. 1 + length (length_octets n) + n) h.pushed.counted
                ∙ sym (length-element (number_of i.tag) h.content)
                ∙ ap length (sym (append-nil (tlv (number_of i.tag) h.content)));
            are_parts = λ kept. absurd (not_kept i kept);
          }

      pub read_string : IsElementRead strings room bytes old new total rest
      read_string = string_read it

    pub fails_string : (offset : ℕ) (error : BerError) → FailsContent string.segment offset inside error
        → FailsAt strings room offset bytes error
    fails_string offset OutOfMemory b = tt
    fails_string offset (Broken position r) b =
        let i = it in (
          0,
          omega (arith, b.0),
          IsBroken.string strings room bytes r (record {
            tag = i.tag;
            segment = string.segment;
            inside = i.inside;
            passed = i.passed;
            rest = rest;
            is_string = is_string i;
            elements = i.elements;
            is = i.is;
            breaks = breaks i b.1;
          }),
        )
      where
        breaks : (i : IsInParts s.first room bytes old now rest) → BreaksParts string.segment inside r
            → BreaksString string.segment i.inside r
        breaks i (BreaksParts.part e rules) = BreaksString.part (sym (tags_are i) ∙ e) rules
        breaks i (BreaksParts.bits e none rules) =
            BreaksString.bits e (subst AreNoBits (contents_are i) none) rules

-- ---- an element in it breaks a rule

kept_inner : (kept inner : Strings) (tag : ℕ) → AreInside kept tag inner → kept ≡ InParts → inner ≡ InParts
kept_inner kept inner tag (AreInside.same e f) same = f ∙ same
kept_inner kept inner tag (AreInside.string segment e f) same = f

no_string : (kept : Strings) (tag segment : ℕ) → segment_of kept tag ≡ Some segment → kept ≡ InParts → ⊥
no_string kept tag segment e same =
    let bad : None ≡ Some segment = subst (λ m. segment_of m tag ≡ Some segment) same e in
    cc

broken_inside : (first segment : ℕ) (strings : Strings) → segment_of strings first ≡ Some segment
    → (kept : Strings) (n : ℕ) (b : List ℕ) (at : ℕ) (r : BerRule) → IsBroken kept n b at r → kept ≡ InParts
    → (rest : List ℕ) → b ≡ first ∷ rest → IsBroken strings n b at r
broken_inside first segment strings k _ _ _ _ _ (IsBroken.here kept n b r broken) same rest e =
    IsBroken.here strings n b r broken
broken_inside first segment strings k _ _ _ _ _ (IsBroken.string kept n b r wrong) same rest e =
    absurd (no_string kept wrong.tag wrong.segment wrong.is_string same)
broken_inside first segment strings k _ _ _ _ _
    (IsBroken.inside kept inner n b u tag start content passed after at r opens i before broken) same rest e =
    let begins : HasTag tag true b = opens_tag u tag b start content opens in
    let firsts : first ∷ rest ≡ tag ∷ begins.rest = sym e ∙ begins.is in
    let tags : tag ≡ first = cc in
    IsBroken.inside strings inner n b u tag start content passed after at r opens
    (AreInside.string segment (ap (segment_of strings) tags ∙ k) (kept_inner kept inner tag i same)) before broken

pub fails_inside : (strings : Strings) (string : WholeString) (room offset : ℕ) (bytes : List ℕ) (error : BerError)
    → IsStringAt strings bytes string → FailsAt InParts room offset bytes error
    → FailsAt strings room offset bytes error
fails_inside strings string room offset bytes OutOfMemory s f = tt
fails_inside strings string room offset bytes (Broken position r) s f =
    let (at, is, broken) = f in (
      at,
      is,
      broken_inside s.first string.segment strings s.is_string InParts room bytes at r broken refl s.rest s.is,
    )
