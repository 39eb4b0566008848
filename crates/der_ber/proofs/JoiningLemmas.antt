-- The content of a string that becomes primitive.
use Rattle.std.proofs.Common.{◌≡◌, ◌≢◌, ℕ, ◌+◌, ◌<◌, ◌≤◌, true, false, ◌&&◌, List, [], ◌∷◌, ◌++◌, length, take}
use Rattle.std.proofs.Common.{drop}
use Rattle.std.proofs.Common.{get_or, set, refl, sym, ap, ap₂, subst, ◌∙◌, arith, append_assoc, append-nil}
use Rattle.std.proofs.Common.{length-append}
use Rattle.std.proofs.Common.{take-append-drop, take_all, drop-cons, add-one}
use Rattle.std.proofs.lemmas.List.{set_at, take_more}
use Rattle.std.specs.List.{concat}
use Rattle.der_ber.specs.declared.error.BerError.{BerError}
use Rattle.der_ber.specs.declared.error.BerError.TheVariants.{OutOfMemory, Broken}
use Rattle.der_ber.specs.declared.error.BerRule.TheVariants as rule
use Rattle.der_ber.specs.declared.parts.Part.{Part}
use Rattle.der_ber.specs.Strings.{most_unused, AreBits, IsBitString, IsJoined}
use Rattle.der_ber.specs.Parts.{part_bytes, content_in, contents, is_in, are_in, IsAppended}
use Rattle.der_ber.specs.Joining.{IsContentPushed, AreBitsPushed, AreSegmentsPushed, IsSegmentPushed}
use Rattle.der_ber.specs.Joining.{IsBadSegment, FailsSegment, FailsBits, BreaksParts, FailsContent}
use Rattle.der_ber.proofs.BitLemmas.{concat-append, bits_after, bits_ended, bits_good}
use Rattle.der_ber.proofs.PartLemmas.{written-append, contents-append, are_in-append}

-- ---- appended parts

pub appended_none : (old : List Part) → IsAppended old old [] 0
appended_none old = record { parts = []; appended = sym (append-nil old); writes = refl; counted = refl }

pub appended_one : (old new : List Part) (p : Part) (bytes : List ℕ) (size : ℕ) → new ≡ old ++ (p ∷ [])
    → part_bytes p ≡ bytes → size ≡ length bytes → IsAppended old new bytes size
appended_one old new p bytes size e f g =
    record { parts = p ∷ []; appended = e; writes = append-nil (part_bytes p) ∙ f; counted = g }

pub appended_more : (old now new : List Part) (b c : List ℕ) (m n sum : ℕ) → IsAppended old now b m
    → IsAppended now new c n → sum ≡ m + n → IsAppended old new (b ++ c) sum
appended_more old now new b c m n sum h k e = record {
  parts = h.parts ++ k.parts;
  appended = k.appended ∙ ap (λ l. l ++ k.parts) h.appended ∙ append_assoc old h.parts k.parts;
  writes = written-append h.parts k.parts ∙ ap₂ (λ s t. s ++ t) h.writes k.writes;
  counted = omega (arith, h.counted, k.counted, length-append b c);
}

-- ---- one part of a string

module _ (p : Part) (c : List ℕ) (h : content_in p ≡ c ∷ []) where
  contents_are : contents (p ∷ []) ≡ c ∷ []
  contents_are = ap (λ l. l ++ []) h

  pub octets_pushed : (old new : List Part) (q : Part) (size : ℕ) → new ≡ old ++ (q ∷ []) → part_bytes q ≡ c
      → size ≡ length c → IsAppended old new (concat (contents (p ∷ []))) size
  octets_pushed old new q size e f g =
      subst (λ l. IsAppended old new l size) (sym (ap concat contents_are ∙ append-nil c))
      (appended_one old new q c size e f g)

  pub segment_pushed : (old new : List Part) (q : Part) (unused later : ℕ) (bits : List ℕ) (size : ℕ)
      → c ≡ later ∷ bits → later ≤ most_unused bits → unused ≡ 0 → new ≡ old ++ (q ∷ []) → part_bytes q ≡ bits
      → size ≡ length bits → IsSegmentPushed (contents (p ∷ [])) unused later old new size
  segment_pushed old new q unused later bits size is few none e f g =
      IsSegmentPushed.one bits (contents_are ∙ ap (λ l. l ∷ []) is) none few (appended_one old new q bits size e f g)

  pub fails_bad : (at unused : ℕ) → IsBadSegment c unused
      → FailsSegment at (contents (p ∷ [])) unused (Broken at rule.UnusedBits)
  fails_bad at unused bad = (refl, refl, record { segment = c; is = contents_are; bad = bad })

module _ (p : Part) (h : content_in p ≡ []) (old : List Part) where
  nothing : contents (p ∷ []) ≡ []
  nothing = ap (λ l. l ++ []) h

  pub no_octets : IsAppended old old (concat (contents (p ∷ []))) 0
  no_octets = subst (λ l. IsAppended old old l 0) (sym (ap concat nothing)) (appended_none old)

  pub no_segment : (unused : ℕ) → IsSegmentPushed (contents (p ∷ [])) unused unused old old 0
  no_segment unused = IsSegmentPushed.none nothing refl (appended_none old)

-- ---- the parts in a string

-- one of them, and those after it
pub parts_at : (inside : List Part) (i : ℕ) (p : Part) → i < length inside → p ≡ get_or inside i p
    → inside ≡ take i inside ++ (p ∷ drop (i + 1) inside)
parts_at inside i p h e =
    sym (take-append-drop i inside)
    ∙ ap (λ l. take i inside ++ l)
    (drop-cons inside i p h
    ∙ ap₂ (λ q l. q ∷ l) (sym e) (ap (λ n. drop n inside) (sym (add-one i))))

take_next : (inside : List Part) (i : ℕ) (p : Part) → i < length inside → p ≡ get_or inside i p
    → take (i + 1) inside ≡ take i inside ++ (p ∷ [])
take_next inside i p h e = take_more inside i p h ∙ ap (λ q. take i inside ++ (q ∷ [])) (sym e)

module _ (s : ℕ) (inside : List Part) (i : ℕ) (p : Part) (h : i < length inside) (e : p ≡ get_or inside i p)
    (before : are_in s (take i inside) ≡ true) where
  pub in_more : is_in s p ≡ true → are_in s (take (i + 1) inside) ≡ true
  in_more k =
      ap (are_in s) (take_next inside i p h e) ∙ are_in-append s (take i inside) (p ∷ [])
      ∙ ap₂ (λ b c. b && (c && true)) before k

  pub not_in : is_in s p ≡ false → are_in s inside ≡ false
  not_in k =
      ap (are_in s) (parts_at inside i p h e) ∙ are_in-append s (take i inside) (p ∷ drop (i + 1) inside)
      ∙ ap₂ (λ b c. b && (c && are_in s (drop (i + 1) inside))) before k

pub octets_more : (inside : List Part) (i : ℕ) (p : Part) (old now new : List Part) (m n sum : ℕ) → i < length inside
    → p ≡ get_or inside i p → IsAppended old now (concat (contents (take i inside))) m
    → IsAppended now new (concat (contents (p ∷ []))) n → sum ≡ m + n
    → IsAppended old new (concat (contents (take (i + 1) inside))) sum
octets_more inside i p old now new m n sum h e first second total =
    let whole : concat (contents (take i inside)) ++ concat (contents (p ∷ []))
    ≡ concat (contents (take (i + 1) inside)) =
    sym (ap (λ l. concat (contents l)) (take_next inside i p h e)
    ∙ ap concat (contents-append (take i inside) (p ∷ []))
    ∙ concat-append (contents (take i inside)) (contents (p ∷ []))) in
    subst (λ l. IsAppended old new l sum) whole (appended_more old now new _ _ m n sum first second total)

-- ---- bits

segments_after : (xs ss : List (List ℕ)) (unused later : ℕ) (old now new : List Part) (m n sum : ℕ)
    → AreSegmentsPushed xs unused old now m → IsSegmentPushed ss unused later now new n → sum ≡ m + n
    → AreSegmentsPushed (xs ++ ss) later old new sum
segments_after xs ss unused later old now new m n sum h (IsSegmentPushed.none e f pushed) total = record {
  bits = h.bits ++ [];
  are_bits = subst (λ l. AreBits (xs ++ l) later (h.bits ++ [])) (sym e)
      (subst (λ l. AreBits l later (h.bits ++ [])) (sym (append-nil xs))
      (subst (AreBits xs later) (sym (append-nil h.bits)) (subst (λ u. AreBits xs u h.bits) (sym f) h.are_bits)));
  pushed = appended_more old now new h.bits [] m n sum h.pushed pushed total;
}
segments_after xs ss unused later old now new m n sum h (IsSegmentPushed.one bits e none few pushed) total = record {
  bits = h.bits ++ bits;
  are_bits = subst (λ l. AreBits (xs ++ l) later (h.bits ++ bits)) (sym e)
      (bits_after xs h.bits bits later (subst (λ u. AreBits xs u h.bits) none h.are_bits) few);
  pushed = appended_more old now new h.bits bits m n sum h.pushed pushed total;
}

module _ (inside : List Part) (i : ℕ) (p : Part) (h : i < length inside) (e : p ≡ get_or inside i p) where
  pub segments_more : (unused later : ℕ) (old now new : List Part) (m n sum : ℕ)
      → AreSegmentsPushed (contents (take i inside)) unused old now m
      → IsSegmentPushed (contents (p ∷ [])) unused later now new n → sum ≡ m + n
      → AreSegmentsPushed (contents (take (i + 1) inside)) later old new sum
  segments_more unused later old now new m n sum first second total =
      subst (λ l. AreSegmentsPushed l later old new sum)
      (sym (ap contents (take_next inside i p h e) ∙ contents-append (take i inside) (p ∷ [])))
      (segments_after _ _ unused later old now new m n sum first second total)

  no_bits : (unused : ℕ) (old now : List Part) (m : ℕ) (segment : List ℕ)
      → AreSegmentsPushed (contents (take i inside)) unused old now m → contents (p ∷ []) ≡ segment ∷ []
      → IsBadSegment segment unused → {content : List ℕ} → IsBitString (contents inside) content → ⊥
  no_bits unused old now m segment first is bad k =
      let xs = contents (take i inside) in
      let ys = contents (drop (i + 1) inside) in
      let whole : contents inside ≡ xs ++ (segment ∷ ys) =
      ap contents (parts_at inside i p h e)
      ∙ contents-append (take i inside) (p ∷ drop (i + 1) inside)
      ∙ ap (λ l. xs ++ l) (contents-append (p ∷ []) (drop (i + 1) inside) ∙ ap (λ l. l ++ ys) is) in
      let bits : AreBits (xs ++ (segment ∷ ys)) k.unused k.bits =
      subst (λ l. AreBits l k.unused k.bits) whole k.are_bits in
      let good = bits_good xs ys segment k.unused k.bits bits in
      bits_ended xs ys segment unused k.unused first.bits k.bits first.are_bits
      (λ none. bad none good.unused good.bits good.is good.few) bits

  pub bits_fail : (unused at : ℕ) (old now : List Part) (m : ℕ) (error : BerError)
      → AreSegmentsPushed (contents (take i inside)) unused old now m
      → FailsSegment at (contents (p ∷ [])) unused error → FailsBits at (contents inside) error
  bits_fail unused at old now m OutOfMemory first f = tt
  bits_fail unused at old now m (Broken position r) first f =
      let (same, rules, one) = f in
      (same, rules, λ content k. no_bits unused old now m one.segment first one.is one.bad k)

pub bits_begin : (old : List Part) → AreSegmentsPushed [] 0 old old 0
bits_begin old = record { bits = []; are_bits = (refl, refl); pushed = appended_none old }

pub bits_pushed : (segments : List (List ℕ)) (old now later new : List Part) (unused n size : ℕ) (first last : Part)
    → now ≡ old ++ (first ∷ []) → AreSegmentsPushed segments unused now later n → new ≡ set later (length old) last
    → part_bytes last ≡ unused ∷ [] → size ≡ 1 + n → AreBitsPushed segments old new size
bits_pushed segments old now later new unused n size first last e h f g total =
    let ps = h.pushed.parts in
    let laters : later ≡ old ++ (first ∷ ps) =
    h.pushed.appended ∙ ap (λ l. l ++ ps) e ∙ append_assoc old (first ∷ []) ps in
    record {
      content = unused ∷ h.bits;
      is = record { unused = unused; bits = h.bits; are_bits = h.are_bits; is = refl };
      pushed = record {
        parts = last ∷ ps;
        appended = f ∙ ap (λ l. set l (length old) last) laters ∙ set_at old first ps last (length old) refl;
        writes = ap₂ (λ s t. s ++ t) g h.pushed.writes;
        counted = omega (arith, total, h.pushed.counted);
      };
    }

-- the loop has gone through all of them
pub all_octets : (inside : List Part) (i : ℕ) (old new : List Part) (size : ℕ) → length inside ≤ i
    → IsAppended old new (concat (contents (take i inside))) size
    → IsAppended old new (concat (contents inside)) size
all_octets inside i old new size h k =
    subst (λ l. IsAppended old new (concat (contents l)) size) (take_all i inside h) k

pub all_bits : (inside : List Part) (i unused : ℕ) (old new : List Part) (size : ℕ) → length inside ≤ i
    → AreSegmentsPushed (contents (take i inside)) unused old new size
    → AreSegmentsPushed (contents inside) unused old new size
all_bits inside i unused old new size h k =
    subst (λ l. AreSegmentsPushed (contents l) unused old new size) (take_all i inside h) k

-- ---- both

module _ (segment : ℕ) (inside old new : List Part) (size : ℕ) (parts : are_in segment inside ≡ true) where
  pub pushed_bits : segment ≡ 0x03 → AreBitsPushed (contents inside) old new size
      → IsContentPushed segment inside old new size
  pushed_bits e h =
      record { content = h.content; parts = parts; joined = IsJoined.bits e h.is; pushed = h.pushed }

  pub pushed_octets : segment ≢ 0x03 → IsAppended old new (concat (contents inside)) size
      → IsContentPushed segment inside old new size
  pushed_octets other h = record {
    content = concat (contents inside);
    parts = parts;
    joined = IsJoined.octets other refl;
    pushed = h;
  }

pub fails_bits : (segment at : ℕ) (inside : List Part) (error : BerError) → segment ≡ 0x03
    → FailsBits at (contents inside) error → FailsContent segment at inside error
fails_bits segment at inside OutOfMemory e f = tt
fails_bits segment at inside (Broken position r) e f =
    let (same, rules, none) = f in
    (same, BreaksParts.bits e none rules)

pub fails_octets : (segment at : ℕ) (inside : List Part) (error : BerError) → error ≡ OutOfMemory
    → FailsContent segment at inside error
fails_octets segment at inside error e = subst (FailsContent segment at inside) (sym e) tt
