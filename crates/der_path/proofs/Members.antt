-- Elements that were passed.
use Rattle.std.proofs.Common.{◌≡◌, ℕ, ◌+◌, ◌-◌, ◌<◌, ◌≤◌, true, false, List, [], ◌∷◌, ◌++◌, length, refl, sym, ap, ◌∙◌}
use Rattle.std.proofs.Common.{arith, append_assoc, append-nil, length-append}
use Rattle.std.specs.List.{AllByRecursion, concat}
use Rattle.std.proofs.lemmas.List.Folds.{concat-append}
use Rattle.picky_der_core.specs.Tag.{is_constructed}
use Rattle.picky_der_core.specs.Element.{tlv, IsElement}
use Rattle.der_path.specs.Elements.{BeginsWith, BeginsWithNone}
use Rattle.der_path.specs.Members.{ArePassed, IsWithin, IsSkipped, IsMemberAt, IsInside}
use Rattle.der_path.proofs.Elements.{one_element}

each_then : (ms : List (List ℕ)) (m : List ℕ) → AllByRecursion IsElement ms → IsElement m
    → AllByRecursion IsElement (ms ++ (m ∷ []))
each_then [] m h k = (k, tt)
each_then (x ∷ xs) m h k = (h.0, each_then xs m h.1 k)

concat_then : (ms : List (List ℕ)) (m : List ℕ) → concat (ms ++ (m ∷ [])) ≡ concat ms ++ m
concat_then ms m = concat-append ms (m ∷ []) ∙ ap (λ l. concat ms ++ l) (append-nil m)

pub none_passed : (bytes : List ℕ) → ArePassed bytes 0 0 bytes
none_passed bytes = record { members = []; each = tt; count = refl; size = refl; is = refl }

pub left_length : (bytes : List ℕ) (index offset : ℕ) (rest : List ℕ) → ArePassed bytes index offset rest
    → length bytes ≡ offset + length rest
left_length bytes index offset rest p = omega (arith, p.size, ap length p.is, length-append (concat p.members) rest)

-- one more
pub passed : (bytes : List ℕ) (index offset : ℕ) (rest : List ℕ) (tag : ℕ) (content after : List ℕ)
    → ArePassed bytes index offset rest → BeginsWith rest tag content after
    → ArePassed bytes (index + 1) (length bytes - length after) after
passed bytes index offset rest tag content after p b =
    let m = tlv tag content in
    let left = left_length bytes index offset rest p in
    let whole : length rest ≡ length m + length after = ap length b.is ∙ length-append m after in
    record {
      members = p.members ++ (m ∷ []);
      each = each_then p.members m p.each (record { tag = tag; content = content; number = b.number; is = refl });
      count = length-append p.members (m ∷ []) ∙ ap (λ n. n + 1) p.count;
      size = ap length (concat_then p.members m)
          ∙ omega (arith, length-append (concat p.members) m, p.size, left, whole);
      is = p.is ∙ ap (λ l. concat p.members ++ l) b.is ∙ sym (append_assoc (concat p.members) m after)
          ∙ ap (λ l. l ++ after) (sym (concat_then p.members m));
    }

-- each has a byte
fewer : (ms : List (List ℕ)) → AllByRecursion IsElement ms → length ms ≤ length (concat ms)
unfolding tlv
fewer [] h = omega arith
fewer (m ∷ ms) h = omega (arith, length-append m (concat ms), ap length h.0.is, fewer ms h.1)

pub few : (bytes : List ℕ) (index offset : ℕ) (rest : List ℕ) → ArePassed bytes index offset rest → index ≤ offset
few bytes index offset rest p = omega (arith, p.count, p.size, fewer p.members p.each)

pub is_member : (bytes : List ℕ) (place index offset : ℕ) (rest : List ℕ) → ArePassed bytes index offset rest
    → offset ≤ place → place < length bytes → IsWithin rest (place - offset)
    → IsMemberAt bytes place index offset rest
is_member bytes place index offset rest p at there inside =
    record { passed = p; at = at; there = there; inside = inside }

-- ---- nothing is in the content of an element that isn't there

pub nothing_inside : (bytes : List ℕ) (place : ℕ) → BeginsWithNone bytes → (content : List ℕ) (inner : ℕ)
    → IsInside bytes place content inner → ⊥
nothing_inside bytes place none content inner i = none i.tag content i.after i.element

-- ---- the element at the front

module _ (bytes : List ℕ) (tag : ℕ) (content after : List ℕ) (b : BeginsWith bytes tag content after) (place : ℕ) where
  pub within : place + length after < length bytes → IsWithin bytes place
  within before t c a x = let same = one_element bytes tag t content c after a b x in omega (arith, ap length same.2)

  pub skipped : length bytes ≤ place + length after → IsSkipped bytes place after
  skipped past = record { tag = tag; content = content; element = b; past = past }

  pub primitive_inside : is_constructed tag ≡ false → (c : List ℕ) (inner : ℕ) → IsInside bytes place c inner → ⊥
  primitive_inside primitive c inner i =
      let same = one_element bytes tag i.tag content c after i.after b i.element in
      let is : is_constructed i.tag ≡ false = ap is_constructed (sym same.0) ∙ primitive in
      let bad : true ≡ false = sym i.constructed ∙ is in
      cc

  pub before_inside : place + length content + length after < length bytes → (c : List ℕ) (inner : ℕ)
      → IsInside bytes place c inner → ⊥
  before_inside before c inner i =
      let same = one_element bytes tag i.tag content c after i.after b i.element in
      absurd (omega (arith, ap length same.1, ap length same.2, i.at))

  pub past_inside : length bytes ≤ place + length after → (c : List ℕ) (inner : ℕ) → IsInside bytes place c inner → ⊥
  past_inside past c inner i =
      let same = one_element bytes tag i.tag content c after i.after b i.element in
      absurd (omega (arith, ap length same.1, ap length same.2, i.at, i.there))

  pub is_inside : (inner : ℕ) → is_constructed tag ≡ true
      → place + length content + length after ≡ length bytes + inner → inner < length content
      → IsInside bytes place content inner
  is_inside inner constructed at there =
      record { tag = tag; after = after; element = b; constructed = constructed; at = at; there = there }
