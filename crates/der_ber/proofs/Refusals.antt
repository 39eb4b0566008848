-- No elements have bytes in which one breaks a rule.
use Rattle.std.proofs.Common.{◌≡◌, ℕ, suc, ◌+◌, ◌<◌, ◌≤◌, Bool, true, false, List, [], ◌∷◌, ◌++◌, length, refl}
use Rattle.std.proofs.Common.{sym, ap, subst, ◌∙◌, arith, append-nil, length-append}
use Rattle.picky_der_core.specs.Tag.{number_of, is_constructed}
use Rattle.der_ber.specs.declared.short_lengths.TheConstants.{MAX_DEPTH}
use Rattle.der_ber.specs.declared.error.BerRule.{BerRule}
use Rattle.std.specs.Prelude.{Some, None}
use Rattle.der_ber.specs.declared.strings.Strings.{Strings}
use Rattle.der_ber.specs.declared.front.Until.{Until}
use Rattle.der_ber.specs.declared.front.Until.TheVariants as until
use Rattle.der_ber.specs.Nodes.{Nodes, depth}
use Rattle.der_ber.specs.Lengths.{IsLength}
use Rattle.der_ber.specs.LongLengths.{is_reserved, IsTag, IsDefinite, BeginsConstructed}
use Rattle.der_ber.specs.LongLengths.{HasLongLengths}
use Rattle.der_ber.specs.Broken.{BreaksLength, Breaks}
use Rattle.der_ber.specs.Strings.{segment_of, segments, IsJoined, IsWholeContent, BeginsWhole, HasParts}
use Rattle.der_ber.specs.Fronts.{IsEnd, Opens, BreaksString}
use Rattle.der_ber.specs.Fronts.{AreInside, IsBroken, IsRefused}
use Rattle.der_ber.specs.InDer.{AreNoneWith}
use Rattle.der_ber.proofs.LengthLemmas.{same_length, not_indefinite, some_octets, not_cut, not_reserved}
use Rattle.der_ber.proofs.Firsts.{definite_then, same_definite, one_form, indefinite_bytes, indefinite_then, HasTag}
use Rattle.der_ber.proofs.Firsts.{primitive_tag, constructed_tag, opens_tag, other_form}
use Rattle.der_ber.proofs.Joined.{depth-join_second}
use Rattle.der_ber.proofs.Splits.{split}
use Rattle.der_ber.proofs.WholeLemmas.{stays, CanBeWhole, whole_second}

-- ---- the first element breaks no rule

-- what is after its tag
data IsAfterTag (form : Bool) (rest : List ℕ) : Type 0 where
  definite : (c o more : List ℕ) → IsLength (length c) o → rest ≡ o ++ (c ++ more) → IsAfterTag form rest
  indefinite : (more : List ℕ) → form ≡ true → rest ≡ 0x80 ∷ more → IsAfterTag form rest

-- an element that has so many levels of constructed ones is at the front
record IsWhole (room : ℕ) (bytes : List ℕ) : Type 0 where
  pub tag : ℕ
  pub form : Bool
  pub is_tag : IsTag tag form
  pub rest : List ℕ
  pub is : bytes ≡ tag ∷ rest
  pub after_tag : IsAfterTag form rest
  pub deep : form ≡ true → 0 < room

definite_whole : (room : ℕ) (tag : ℕ) (form : Bool) (c s after x : List ℕ) → IsTag tag form → IsDefinite tag c s after
    → (form ≡ true → 0 < room) → IsWhole room (s ++ x)
definite_whole room tag form c s after x is_tag d levels = record {
  tag = tag;
  form = form;
  is_tag = is_tag;
  rest = d.octets ++ (c ++ (after ++ x));
  is = definite_then tag c s after x d;
  after_tag = IsAfterTag.definite c d.octets (after ++ x) d.is_length refl;
  deep = levels;
}

constructed_whole : (room tag : ℕ) (I O : List ℕ → Type 0) (s x : List ℕ) → 0 < room → BeginsConstructed tag I O s
    → IsWhole room (s ++ x)
constructed_whole room tag I O s x some (BeginsConstructed.definite c after is_tag d i o) =
    definite_whole room tag true c s after x is_tag d (λ _. some)
constructed_whole room tag I O s x some (BeginsConstructed.indefinite c after is_tag e i o) = record {
  tag = tag;
  form = true;
  is_tag = is_tag;
  rest = 0x80 ∷ (c ++ (0x00 ∷ (0x00 ∷ (after ++ x))));
  is = indefinite_then tag c s after x e;
  after_tag = IsAfterTag.indefinite (c ++ (0x00 ∷ (0x00 ∷ (after ++ x)))) refl refl;
  deep = λ _. some;
}

-- a length that breaks a rule isn't after its tag
no_broken_length : (form : Bool) (rest : List ℕ) (r : BerRule) → IsAfterTag form rest → BreaksLength rest r → ⊥
no_broken_length form rest r (IsAfterTag.definite c o more n e) (BreaksLength.none f p) =
    omega (arith, some_octets (length c) o n, ap length (sym e ∙ f), length-append o (c ++ more))
no_broken_length form rest r (IsAfterTag.definite c o more n e) (BreaksLength.cut count b some most f few p) =
    not_cut (length c) count o (c ++ more) b n some (sym e ∙ f) few
no_broken_length form rest r (IsAfterTag.definite c o more n e) (BreaksLength.reserved b f p) =
    not_reserved (length c) o (c ++ more) b n (sym e ∙ f)
no_broken_length form rest r (IsAfterTag.definite c o more n e) (BreaksLength.past_end m q b k f few p) =
    let (sizes, octets, contents) = same_length (length c) m o q (c ++ more) b n k (sym e ∙ f) in
    omega (arith, ap length contents, length-append c more)
no_broken_length form rest r (IsAfterTag.indefinite more t e) (BreaksLength.none f p) =
    let bad : 0x80 ∷ more ≡ [] = sym e ∙ f in cc
no_broken_length form rest r (IsAfterTag.indefinite more t e) (BreaksLength.cut count b some most f few p) =
    let same : 0x80 ∷ more ≡ (0x80 + count) ∷ b = sym e ∙ f in
    let bad : 0x80 ≡ 0x80 + count = cc in
    omega arith
no_broken_length form rest r (IsAfterTag.indefinite more t e) (BreaksLength.reserved b f p) =
    let same : 0x80 ∷ more ≡ 0xFF ∷ b = sym e ∙ f in
    let bad : ◌≡◌ {A = ℕ} 0x80 0xFF = cc in
    omega arith
no_broken_length form rest r (IsAfterTag.indefinite more t e) (BreaksLength.past_end m q b k f few p) =
    not_indefinite m q b more k (sym f ∙ e)

-- nor does an element that breaks one
no_broken : (room : ℕ) (bytes : List ℕ) (r : BerRule) → IsWhole room bytes → Breaks room bytes r → ⊥
no_broken room bytes r w (Breaks.none e p) =
    let bad : w.tag ∷ w.rest ≡ [] = sym w.is ∙ e in cc
no_broken room bytes r w (Breaks.long_tag tag rest e long p) =
    let same : w.tag ∷ w.rest ≡ tag ∷ rest = sym w.is ∙ e in
    let tags : w.tag ≡ tag = cc in
    omega (arith, w.is_tag.number, subst (λ t. 30 < number_of t) (sym tags) long)
no_broken room bytes r w (Breaks.reserved tag rest e kept p) =
    let same : w.tag ∷ w.rest ≡ tag ∷ rest = sym w.is ∙ e in
    let tags : w.tag ≡ tag = cc in
    let bad : true ≡ false = sym kept ∙ (ap is_reserved (sym tags) ∙ w.is_tag.free) in
    cc
no_broken room bytes r w (Breaks.no_length tag rest e broken) =
    let same : w.tag ∷ w.rest ≡ tag ∷ rest = sym w.is ∙ e in
    let rests : rest ≡ w.rest = cc in
    no_broken_length w.form w.rest r w.after_tag (subst (λ l. BreaksLength l r) rests broken)
no_broken room bytes r w (Breaks.primitive tag rest e clear p) =
    let same : w.tag ∷ w.rest ≡ tag ∷ (0x80 ∷ rest) = sym w.is ∙ e in
    let tags : w.tag ≡ tag = cc in
    let rests : w.rest ≡ 0x80 ∷ rest = cc in
    by w.after_tag (sym w.is_tag.form ∙ (ap is_constructed tags ∙ clear)) rests
  where
    by : IsAfterTag w.form w.rest → w.form ≡ false → w.rest ≡ 0x80 ∷ rest → ⊥
    by (IsAfterTag.definite c o more n f) form is = not_indefinite (length c) o (c ++ more) rest n (sym f ∙ is)
    by (IsAfterTag.indefinite more t f) form is = let bad : true ≡ false = sym t ∙ form in cc
no_broken room bytes r w (Breaks.too_deep tag rest e set none p) =
    let same : w.tag ∷ w.rest ≡ tag ∷ rest = sym w.is ∙ e in
    let tags : w.tag ≡ tag = cc in
    let some = w.deep (sym w.is_tag.form ∙ (ap is_constructed tags ∙ set)) in
    omega arith

-- ---- what is in the first element

-- elements that begin the content, up to its end, whose strings become primitive as said
record AreWithin (u : Until) (inner : Strings) (room : ℕ) (content : List ℕ) : Type 0 where
  pub nodes : Nodes
  pub bytes : List ℕ
  pub elements : HasLongLengths nodes bytes
  pub after : List ℕ
  pub is : content ≡ bytes ++ after
  pub rest : List ℕ
  pub end : IsEnd u after rest
  pub levels : depth nodes ≤ room
  pub whole : CanBeWhole inner nodes

-- the elements in a constructed one
whole_inside : (strings inner : Strings) (tag : ℕ) (inside after w : Nodes) → AreInside strings tag inner
    → HasParts strings (Nodes.constructed tag inside after) w → CanBeWhole inner inside
whole_inside strings inner tag inside after w (AreInside.same e f)
    (BeginsWhole.string part content others g s is k) =
    let bad : None ≡ Some part = sym e ∙ g in absurd (cc)
whole_inside strings inner tag inside after w (AreInside.same e f) (BeginsWhole.other within others g h is k) =
    record { whole = within; has_parts = subst (λ m. HasParts m inside within) (sym f) h }
whole_inside strings inner tag inside after w (AreInside.string segment e f)
    (BeginsWhole.string part content others g s is k) =
    record { whole = inside; has_parts = subst (λ m. HasParts m inside inside) (sym f) (stays inside) }
whole_inside strings inner tag inside after w (AreInside.string segment e f)
    (BeginsWhole.other within others g h is k) =
    let bad : None ≡ Some segment = sym g ∙ e in absurd (cc)

inside_of : (u : Until) (inner : Strings) (room : ℕ) (bytes : List ℕ) (first start : ℕ) (content : List ℕ)
    → Opens u first bytes start content → (tag : ℕ) (inside after : Nodes) (s y : List ℕ) → depth inside ≤ room
    → BeginsConstructed tag (HasLongLengths inside) (HasLongLengths after) s → bytes ≡ s ++ y
    → CanBeWhole inner inside → AreWithin u inner room content
inside_of until.End inner room bytes first start content o tag inside after s y levels
    (BeginsConstructed.definite c others is_tag d i k) e w =
    let whole : bytes ++ [] ≡ s ++ y = append-nil bytes ∙ e in
    let (tags, contents, rests) = same_definite first tag content c bytes s o.after others [] y o.definite d whole in
    record {
      nodes = inside;
      bytes = c;
      elements = i;
      after = [];
      is = contents ∙ sym (append-nil c);
      rest = [];
      end = (refl, refl);
      levels = levels;
      whole = w;
    }
inside_of until.End inner room bytes first start content o tag inside after s y levels
    (BeginsConstructed.indefinite c others is_tag f i k) e w =
    let whole : bytes ++ [] ≡ indefinite_bytes tag c (others ++ y) =
    append-nil bytes ∙ e ∙ indefinite_then tag c s others y f in
    absurd (one_form first tag content bytes o.after [] _ o.definite whole)
inside_of until.EndOfContents inner room bytes first start content o tag inside after s y levels
    (BeginsConstructed.definite c others is_tag d i k) e w =
    absurd (one_form tag first c s others y content d (sym e ∙ o.definite))
inside_of until.EndOfContents inner room bytes first start content o tag inside after s y levels
    (BeginsConstructed.indefinite c others is_tag f i k) e w =
    let same : first ∷ (0x80 ∷ content) ≡ indefinite_bytes tag c (others ++ y) =
    sym o.definite ∙ e ∙ indefinite_then tag c s others y f in
    let contents : content ≡ c ++ (0x00 ∷ (0x00 ∷ (others ++ y))) = cc in
    record {
      nodes = inside;
      bytes = c;
      elements = i;
      after = 0x00 ∷ (0x00 ∷ (others ++ y));
      is = contents;
      rest = others ++ y;
      end = refl;
      levels = levels;
      whole = w;
    }

inside_first : (u : Until) (strings inner : Strings) (room : ℕ) (bytes : List ℕ) (first start : ℕ) (content : List ℕ)
    → Opens u first bytes start content → AreInside strings first inner → (v : Until) (nodes : Nodes) (s y z : List ℕ)
    → HasLongLengths nodes s → bytes ≡ s ++ y → IsEnd v y z → ((w : List ℕ) → IsEnd v bytes w → ⊥)
    → depth nodes ≤ suc room → CanBeWhole strings nodes → AreWithin u inner room content
inside_first u strings inner room bytes first start content o in_it v Nodes.none s y z h e end goes levels w =
    let same : bytes ≡ y = e ∙ ap (λ l. l ++ y) h in
    absurd (goes z (subst (λ l. IsEnd v l z) (sym same) end))
inside_first u strings inner room bytes first start content o in_it v (Nodes.primitive tag c a) s y z h e end goes
    levels w =
    absurd (other_form tag first s bytes y [] (primitive_tag tag c (HasLongLengths a) s h)
    (opens_tag u first bytes start content o) (sym e ∙ sym (append-nil bytes)))
inside_first u strings inner room bytes first start content o in_it v (Nodes.constructed tag i a) s y z h e end goes
    levels w =
    let begins : HasTag tag true s = constructed_tag tag (HasLongLengths i) (HasLongLengths a) s h in
    let opens : HasTag first true bytes = opens_tag u first bytes start content o in
    let same : first ∷ opens.rest ≡ tag ∷ (begins.rest ++ y) = sym opens.is ∙ e ∙ ap (λ l. l ++ y) begins.is in
    let tags : first ≡ tag = cc in
    inside_of u inner room bytes first start content o tag i a s y (omega arith) h e
    (whole_inside strings inner tag i a w.whole (subst (λ t. AreInside strings t inner) tags in_it) w.has_parts)

-- ---- no elements have these bytes

none_here : (room : ℕ) (bytes : List ℕ) (r : BerRule) → Breaks room bytes r → (v : Until) (nodes : Nodes)
    (s y z : List ℕ) → HasLongLengths nodes s → bytes ≡ s ++ y → IsEnd v y z → ((w : List ℕ) → IsEnd v bytes w → ⊥)
    → depth nodes ≤ room → ⊥
none_here room bytes r b v Nodes.none s y z h e end goes levels =
    let same : bytes ≡ y = e ∙ ap (λ l. l ++ y) h in
    goes z (subst (λ l. IsEnd v l z) (sym same) end)
none_here room bytes r b v (Nodes.primitive tag c a) s y z h e end goes levels =
    no_broken room (s ++ y) r
    (definite_whole room tag false c s h.after y h.is_tag h.definite (λ t. absurd (cc)))
    (subst (λ l. Breaks room l r) e b)
none_here room bytes r b v (Nodes.constructed tag i a) s y z h e end goes levels =
    no_broken room (s ++ y) r
    (constructed_whole room tag (HasLongLengths i) (HasLongLengths a) s y (omega arith) h)
    (subst (λ l. Breaks room l r) e b)

-- the elements in a string aren't its parts
no_content : (segment : ℕ) (inside : Nodes) (r : BerRule) (content : List ℕ) → BreaksString segment inside r
    → IsWholeContent segment inside content → ⊥
no_content segment inside r content (BreaksString.part e rules) h =
    let bad : false ≡ true = sym e ∙ h.parts in cc
no_content segment inside r content (BreaksString.bits e none rules) h = by h.joined
  where
    by : IsJoined segment (segments inside) content → ⊥
    by (IsJoined.bits f is) = none content is
    by (IsJoined.octets other is) = other e

no_string : (strings : Strings) (tag segment : ℕ) (inside after w : Nodes) (r : BerRule)
    → segment_of strings tag ≡ Some segment → BreaksString segment inside r
    → HasParts strings (Nodes.constructed tag inside after) w → ⊥
no_string strings tag segment inside after w r e b (BeginsWhole.string part content others g s is k) =
    let same : Some part ≡ Some segment = sym g ∙ e in
    let parts : part ≡ segment = cc in
    no_content segment inside r content b (subst (λ p. IsWholeContent p inside content) parts s)
no_string strings tag segment inside after w r e b (BeginsWhole.other within others g h is k) =
    let bad : None ≡ Some segment = sym g ∙ e in cc

none_broken : (strings : Strings) (room : ℕ) (bytes : List ℕ) (at : ℕ) (r : BerRule) → IsBroken strings room bytes at r
    → (v : Until) (nodes : Nodes) (s y z : List ℕ) → HasLongLengths nodes s → bytes ≡ s ++ y → IsEnd v y z
    → ((w : List ℕ) → IsEnd v bytes w → ⊥) → depth nodes ≤ room → CanBeWhole strings nodes → ⊥
none_broken _ _ _ _ _ (IsBroken.here strings room bytes r b) v nodes s y z h e end goes levels w =
    none_here room bytes r b v nodes s y z h e end goes levels
none_broken _ _ _ _ _ (IsBroken.string strings room bytes r b) v nodes s y z h e end goes levels w =
    let p =
    split (Nodes.constructed b.tag b.inside Nodes.none) b.passed b.rest b.elements nodes s y h (sym b.is ∙ e) v z end in
    no_string strings b.tag b.segment b.inside p.nodes w.whole r b.is_string b.breaks
    (subst (λ n. HasParts strings n w.whole) p.whole w.has_parts)
none_broken _ _ _ _ _
    (IsBroken.inside strings inner room bytes u tag start content passed rest at r opens in_it before broken) v nodes s
    y z h e end goes levels w =
    let i = inside_first u strings inner room bytes tag start content opens in_it v nodes s y z h e end goes levels w in
    let p =
    split before.nodes passed rest before.elements i.nodes i.bytes i.after i.elements (sym before.is ∙ i.is) u i.rest
    i.end in
    let second = depth-join_second before.nodes p.nodes in
    let within : depth p.nodes ≤ room = omega (arith, i.levels, ap depth p.whole) in
    none_broken inner room rest at r broken u p.nodes p.bytes i.after i.rest p.elements p.is i.end before.goes_on within
    (whole_second inner before.nodes p.nodes i.whole.whole
    (subst (λ n. HasParts inner n i.whole.whole) p.whole i.whole.has_parts))

pub refused_none : (strings : Strings) (bytes : List ℕ) (position : ℕ) (r : BerRule)
    → IsRefused until.End strings MAX_DEPTH bytes position r → AreNoneWith strings bytes
refused_none strings bytes position r f nodes whole h parts levels =
    let p =
    split f.before.nodes f.passed f.rest f.before.elements nodes bytes [] h
    (sym f.before.is ∙ sym (append-nil bytes)) until.End [] (refl, refl) in
    let second = depth-join_second f.before.nodes p.nodes in
    let within : depth p.nodes ≤ MAX_DEPTH = omega (arith, ap depth p.whole) in
    none_broken strings MAX_DEPTH f.rest f.at r f.broken until.End p.nodes p.bytes [] [] p.elements p.is (refl, refl)
    f.before.goes_on within
    (whole_second strings f.before.nodes p.nodes whole (subst (λ n. HasParts strings n whole) p.whole parts))
