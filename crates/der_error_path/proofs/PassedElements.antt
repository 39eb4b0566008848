-- Elements that were passed in two ways: by what is awaited, and by a path.
use Rattle.std.proofs.Common.{◌≡◌, ℕ, ◌+◌, ◌-◌, ◌<◌, ◌≤◌, ◌⊎◌, inl, inr, List, [], ◌∷◌, ◌++◌, length}
use Rattle.std.proofs.Common.{refl, sym, ap, ◌∙◌, subst, arith, append_assoc, length-append}
use Rattle.std.specs.List.{AllByRecursion, concat}
use Rattle.picky_der_core.specs.Element.{IsElement}
use Rattle.picky_der_core.specs.ElementLaws.{tlv_prefix}
use Rattle.der_path.specs.Elements.{BeginsWith, BeginsWithNone}
use Rattle.der_path.specs.Members.{ArePassed, IsMemberAt}
use Rattle.der_path.specs.Paths.{IsPath}
use Rattle.der_schema.specs.declared.node.Node.{Node}
use Rattle.der_error_path.specs.Awaited.{Awaited}
use Rattle.der_error_path.specs.Passed.{ArePassedAs}

-- only one element is there
same_element : (bytes : List ℕ) (t u : ℕ) (c d a b : List ℕ) → BeginsWith bytes t c a → BeginsWith bytes u d b
    → (t ≡ u) × (c ≡ d) × (a ≡ b)
same_element bytes t u c d a b x y = tlv_prefix t u c d a b (sym x.is ∙ y.is)

-- so many elements are still to come before the end
record AreLeft (bytes : List ℕ) (count : ℕ) (end : List ℕ) : Type 0 where
  members : List (List ℕ)
  each : AllByRecursion IsElement members
  number : length members ≡ count
  is : bytes ≡ concat members ++ end

module _ (bytes end : List ℕ) where
  -- the first of them
  begins : (m : List ℕ) (ms : List (List ℕ)) (e : IsElement m) → bytes ≡ (m ++ concat ms) ++ end
      → BeginsWith bytes e.tag e.content (concat ms ++ end)
  begins m ms e is = record {
    number = e.number;
    is = is ∙ append_assoc m (concat ms) end ∙ ap (λ l. l ++ (concat ms ++ end)) e.is;
  }

  one_less : (count tag : ℕ) (content after : List ℕ) → BeginsWith bytes tag content after → (ms : List (List ℕ))
      → AllByRecursion IsElement ms → length ms ≡ count + 1 → bytes ≡ concat ms ++ end → AreLeft after count end
  one_less count tag content after b [] each number is = absurd (omega arith)
  one_less count tag content after b (m ∷ ms) each number is =
      let e : IsElement m = each.0 in
      let same = same_element bytes tag e.tag content e.content after (concat ms ++ end) b (begins m ms e is) in
      record { members = ms; each = each.1; number = omega arith; is = same.2 }

  none_more : BeginsWithNone bytes → (ms : List (List ℕ)) → AllByRecursion IsElement ms → bytes ≡ concat ms ++ end
      → length ms ≡ 0
  none_more none [] each is = refl
  none_more none (m ∷ ms) each is =
      let e : IsElement m = each.0 in
      absurd (none e.tag e.content (concat ms ++ end) (begins m ms e is))

  at_end : (ms : List (List ℕ)) → length ms ≡ 0 → bytes ≡ concat ms ++ end → bytes ≡ end
  at_end [] number is = is
  at_end (m ∷ ms) number is = absurd (omega arith)

module _ (nodes : List Node) (first : Awaited) (content : List ℕ) where
  left_of : (k : ℕ) (here : Awaited) (rest : List ℕ) → ArePassedAs nodes first content k here rest
      → (n offset : ℕ) (end : List ℕ) (j : ℕ) → ArePassed content n offset end → k + j ≡ n → AreLeft rest j end
  left_of _ _ _ ArePassedAs.none n offset end j p e =
      record { members = p.members; each = p.each; number = p.count ∙ omega arith; is = p.is }
  left_of _ _ _ (ArePassedAs.more k here rest tag inner after passed b) n offset end j p e =
      let l = left_of k here rest passed n offset end (j + 1) p (omega arith) in
      one_less rest end j tag inner after b l.members l.each l.number l.is

  module _ (k : ℕ) (here : Awaited) (rest : List ℕ) (n offset : ℕ) (end : List ℕ)
      (passed : ArePassedAs nodes first content k here rest) (p : ArePassed content n offset end) (few : k ≤ n)
    where
      -- all that the path passes were passed
      pub reached : (k ≡ n) ⊎ BeginsWithNone rest → (k ≡ n) × (rest ≡ end)
      reached (inl e) =
          let l = left_of k here rest passed n offset end 0 p (omega arith) in
          (e, at_end rest end l.members l.number l.is)
      reached (inr none) =
          let l = left_of k here rest passed n offset end (n - k) p (omega arith) in
          let zero_left = none_more rest end none l.members l.each l.is in
          (omega (arith, l.number), at_end rest end l.members zero_left l.is)

-- ---- a path

-- the element with this number has the byte, and the others are the path in its content
pub record GoesBy (bytes : List ℕ) (place number : ℕ) (others : List ℕ) : Type 0 where
  pub offset : ℕ
  pub rest : List ℕ
  pub member : IsMemberAt bytes place number offset rest
  pub then : (content : List ℕ) (tag : ℕ) (after : List ℕ) → BeginsWith rest tag content after
      → (inner : ℕ) × IsPath content inner others

abbrev GoesOn : List ℕ → ℕ → List ℕ → Type 0
GoesOn bytes place [] = Unit {0}
GoesOn bytes place (number ∷ others) = GoesBy bytes place number others

goes_on : (bytes : List ℕ) (place : ℕ) (path : List ℕ) → IsPath bytes place path → GoesOn bytes place path
goes_on _ _ _ (IsPath.none bytes place past) = tt
goes_on _ _ _ (IsPath.last bytes place index offset rest m none) = record {
  offset = offset;
  rest = rest;
  member = m;
  then = λ content tag after b. (length content, IsPath.none content (length content) (omega arith));
}
goes_on _ _ _ (IsPath.more bytes place index offset rest content inner others m i path) = record {
  offset = offset;
  rest = rest;
  member = m;
  then = λ c tag after b.
      let same = same_element rest tag i.tag c content after i.after b i.element in
      (inner, subst (λ l. IsPath l inner others) (sym same.1) path);
}

pub goes_by : (bytes : List ℕ) (place number : ℕ) (others : List ℕ) → IsPath bytes place (number ∷ others)
    → GoesBy bytes place number others
goes_by bytes place number others path = goes_on bytes place (number ∷ others) path

-- the byte is there
pub some_left : (bytes : List ℕ) (place number offset : ℕ) (rest : List ℕ)
    → IsMemberAt bytes place number offset rest → 0 < length rest
some_left bytes place number offset rest m =
    let p = m.passed in
    omega (arith, m.at, m.there, p.size, ap length p.is, length-append (concat p.members) rest)
