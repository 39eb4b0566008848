-- What was found of a path by names.
use Rattle.std.proofs.Common.{◌≡◌, ℕ, ◌+◌, ◌<◌, ◌≤◌, ◌⊎◌, inl, inr, List, [], ◌∷◌, ◌++◌, length, take}
use Rattle.std.proofs.Common.{Option, None, Some, sym, subst, arith, append_assoc, append-nil}
use Rattle.std.proofs.Common.{length-append}
use Rattle.std.proofs.Common.{get_or}
use Rattle.std.proofs.lemmas.List.{take-append-le, take_all}
use Rattle.std.proofs.lemmas.Slice.{first_rest}
use Rattle.std.specs.Prelude.{IsSomeAnd, slice_range}
use Rattle.der_path.specs.Elements.{BeginsWith, BeginsWithNone}
use Rattle.der_path.specs.Paths.{IsPath}
use Rattle.der_schema.specs.declared.node.Node.{Node}
use Rattle.der_error_path.specs.declared.path.Mistake.{Mistake}
use Rattle.der_error_path.specs.declared.path.Mistake.TheVariants as mistake
use Rattle.der_error_path.specs.declared.steps.Step.{Step}
use Rattle.der_error_path.specs.Awaited.{Awaited}
use Rattle.der_error_path.specs.Passed.{ArePassedAs}
use Rattle.der_error_path.specs.Steps.{AreSteps, IsElementOf, IsMistake, IsStep}
use Rattle.der_error_path.proofs.PassedElements.{goes_by, reached, some_left}

module _ (nodes : List Node) (first : Awaited) (bytes numbers : List ℕ) where
  -- the steps go on as those in this content
  pub record LeadsTo (steps : List Step) (here : Awaited) (around left : List ℕ) : Type 0 where
    pub on : (others : List Step) (m : Mistake) → AreSteps nodes here around left others m
        → AreSteps nodes first bytes numbers (steps ++ others) m

  -- the first steps, so many of these, have this mistake
  abbrev pub IsFound : List Step → Option (ℕ × Mistake) → Type 0
  IsFound steps None = Unit {0}
  IsFound steps (Some p) = (p.0 ≤ length steps) × AreSteps nodes first bytes numbers (take p.0 steps) p.1

  pub starts : LeadsTo [] first bytes numbers
  starts = record { on = λ others m h. h }

  module _ (steps : List Step) (here : Awaited) (around : List ℕ) where
    ends_here : LeadsTo steps here around [] → AreSteps nodes first bytes numbers steps mistake.Content
    ends_here l = subst (λ all. AreSteps nodes first bytes numbers all mistake.Content) (append-nil steps)
        (l.on [] mistake.Content (AreSteps.all here around))

    pub ends : (left : List ℕ) → length left ≤ 0 → LeadsTo steps here around left
        → AreSteps nodes first bytes numbers steps mistake.Content
    ends [] none l = ends_here l
    ends (number ∷ left) none l = absurd (omega arith)

    module _ (number : ℕ) (left : List ℕ) (l : LeadsTo steps here around (number ∷ left)) (now : Awaited)
        (rest : List ℕ) (s : Step) (passed : ArePassedAs nodes here around number now rest)
        (step : IsStep nodes now rest number s)
      where
        pub ends_in : (m : Mistake) → IsMistake nodes now rest s m
            → AreSteps nodes first bytes numbers (steps ++ (s ∷ [])) m
        ends_in m i = l.on (s ∷ []) m (AreSteps.last here around number left now rest s m passed step i)

        pub leads_on : (tag : ℕ) (content after : List ℕ) (inner : Awaited)
            → IsElementOf nodes s rest tag content after inner → LeadsTo (steps ++ (s ∷ [])) inner content left
        leads_on tag content after inner e = record {
          on = λ others m h. subst (λ all. AreSteps nodes first bytes numbers all m)
              (sym (append_assoc steps (s ∷ []) others))
              (l.on (s ∷ others) m
              (AreSteps.more here around number left now rest s tag content after inner others m passed step e h));
        }

        pub keeps : (found : Option (ℕ × Mistake)) → IsFound steps found → IsFound (steps ++ (s ∷ [])) found
        keeps None f = tt
        keeps (Some p) f = (
          omega (arith, f.0, length-append steps (s ∷ [])),
          subst (λ all. AreSteps nodes first bytes numbers all p.1)
              (sym (take-append-le p.0 steps (s ∷ []) f.0)) f.1,
        )

        module _ (depth : ℕ) (all : depth ≡ length (steps ++ (s ∷ []))) where
          here_found : (result : Option (ℕ × Mistake)) → IsSomeAnd result (λ p. (p.0 ≡ depth)
              × IsMistake nodes now rest s p.1) → IsFound (steps ++ (s ∷ [])) result
          here_found None i = absurd i
          here_found (Some p) i = (
            omega (arith, i.0),
            subst (λ all. AreSteps nodes first bytes numbers all p.1)
                (sym (take_all p.0 (steps ++ (s ∷ [])) (omega (arith, i.0)))) (ends_in p.1 i.1),
          )

          pub deeper : (found result : Option (ℕ × Mistake)) → IsFound steps found → (result ≡ found)
              ⊎ IsSomeAnd result (λ p. (p.0 ≡ depth) × IsMistake nodes now rest s p.1)
              → IsFound (steps ++ (s ∷ [])) result
          deeper found result f (inl same) = subst (IsFound (steps ++ (s ∷ []))) (sym same) (keeps found f)
          deeper found result f (inr i) = here_found result i

-- the element with this number, after the elements that were passed
pub record IsReached (nodes : List Node) (here : Awaited) (around : List ℕ) (number : ℕ) (left : List ℕ) (now : Awaited)
    (rest : List ℕ) : Type 0 where
  pub passed : ArePassedAs nodes here around number now rest
  pub some : 0 < length rest
  pub then : (tag : ℕ) (content after : List ℕ) → BeginsWith rest tag content after
      → (inner : ℕ) × IsPath content inner left

pub reached_by : (nodes : List Node) (here : Awaited) (around : List ℕ) (number : ℕ) (left : List ℕ) (now : Awaited)
    (rest : List ℕ) (place count : ℕ) → IsPath around place (number ∷ left)
    → ArePassedAs nodes here around count now rest
    → count ≤ number → (count ≡ number) ⊎ BeginsWithNone rest → IsReached nodes here around number left now rest
reached_by nodes here around number left now rest place count path passed few all =
    let g = goes_by around place number left path in
    let r = reached nodes here around count now rest number g.offset g.rest passed g.member.passed few all in
    record {
      passed = subst (λ k. ArePassedAs nodes here around k now rest) r.0 passed;
      some = subst (λ l. 0 < length l) (sym r.1) (some_left around place number g.offset g.rest g.member);
      then = λ tag content after b. g.then content tag after (subst (λ l. BeginsWith l tag content after) r.1 b);
    }

-- the first number that is left, and the others
pub record Splits (nodes : List Node) (first : Awaited) (bytes numbers : List ℕ) (steps : List Step) (here : Awaited)
    (around : List ℕ) (left : List ℕ) (now : Awaited) (rest : List ℕ) : Type 0 where
  pub leads : LeadsTo nodes first bytes numbers steps here around (get_or left 0 0 ∷ slice_range left 1 (length left))
  pub reached : IsReached nodes here around (get_or left 0 0) (slice_range left 1 (length left)) now rest

pub split_walk : (nodes : List Node) (first : Awaited) (bytes numbers : List ℕ) (steps : List Step) (here : Awaited)
    (around left : List ℕ) → 1 ≤ length left → LeadsTo nodes first bytes numbers steps here around left
    → ((place : ℕ) × IsPath around place left) → (now : Awaited) (rest : List ℕ) (count : ℕ)
    → ArePassedAs nodes here around count now rest → count ≤ get_or left 0 0
    → (count ≡ get_or left 0 0) ⊎ BeginsWithNone rest
    → Splits nodes first bytes numbers steps here around left now rest
split_walk nodes first bytes numbers steps here around left some leads path now rest count passed few all =
    let others : List ℕ = slice_range left 1 (length left) in
    let split : left ≡ get_or left 0 0 ∷ others = first_rest left 0 some in
    record {
      leads = subst (LeadsTo nodes first bytes numbers steps here around) split leads;
      reached = reached_by nodes here around (get_or left 0 0) others now rest path.0 count
          (subst (IsPath around path.0) split path.1) passed few all;
    }

pub step_at : (rest : List ℕ) → 1 ≤ length rest → (nodes : List Node) (now : Awaited) (number : ℕ) (s : Step)
    → ((others : List ℕ) → IsStep nodes now (get_or rest 0 0 ∷ others) number s) → IsStep nodes now rest number s
step_at rest some nodes now number s step =
    subst (λ l. IsStep nodes now l number s) (sym (first_rest rest 0 some)) (step (slice_range rest 1 (length rest)))
