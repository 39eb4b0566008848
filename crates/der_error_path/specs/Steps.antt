-- The steps of a path, by the nodes of a schema.
use Rattle.std.specs.Prelude.{◌≡◌, ℕ, List, [], ◌∷◌, Option, None, Some, true, false, if◌then◌else◌}
use Rattle.der_path.specs.Elements.{BeginsWith, BeginsWithNone}
use Rattle.der_schema.specs.declared.node.DefaultValue.{DefaultValue}
use Rattle.der_schema.specs.declared.node.Member.{Member}
use Rattle.der_schema.specs.declared.node.Node.{Node}
use Rattle.der_error_path.specs.declared.expected.Part.{Part}
use Rattle.der_error_path.specs.declared.expected.Part.TheVariants as part
use Rattle.der_error_path.specs.declared.path.Mistake.{Mistake}
use Rattle.der_error_path.specs.declared.path.Mistake.TheVariants as mistake
use Rattle.der_error_path.specs.declared.steps.Step.{Step}
use Rattle.der_error_path.specs.Awaited.{Awaited, are_sorted, part_of, default_in}
use Rattle.der_schema.specs.Begins.{can_begin}
use Rattle.der_error_path.specs.Contents.{node_can_have}
use Rattle.der_error_path.specs.Inside.{AwaitsInNode}
use Rattle.der_error_path.specs.Passed.{ArePassedAs, IsMissing}

-- The step to the element at the front of these bytes, before which are so many others, where this is awaited: what it
-- is and its node are those for its tag.
pub record IsStep (nodes : List Node) (here : Awaited) (rest : List ℕ) (number : ℕ) (s : Step) : Type 0 where
  pub index : s.index ≡ number
  pub others : List ℕ
  pub is : rest ≡ s.identifier ∷ others
  pub part : (s.part, s.node) ≡ part_of nodes s.identifier here

-- what is wrong with an element by its tag alone
abbrev pub tag_mistake : List Node → Part → Option ℕ → ℕ → Option Mistake
tag_mistake nodes p (Some node) tag = if can_begin nodes node tag then None else Some mistake.OtherTag
tag_mistake nodes part.Unknown None tag = None
tag_mistake nodes p None tag = Some mistake.Extra

abbrev pub mistake_of : List Node → Step → Option Mistake
mistake_of nodes s = tag_mistake nodes s.part s.node s.identifier

-- The element of this step is the one with this tag and content, before these other bytes. Its tag is one of its type,
-- and that may come in its content.
pub record IsElementOf (nodes : List Node) (s : Step) (rest : List ℕ) (tag : ℕ) (content after : List ℕ)
    (inner : Awaited) : Type 0 where
  pub fits : mistake_of nodes s ≡ None
  pub element : BeginsWith rest tag content after
  pub inside : AwaitsInNode nodes tag s.node inner

-- the element of this step has the mistake, and begins these bytes
pub data IsMistake (nodes : List Node) (here : Awaited) (rest : List ℕ) (s : Step) : Mistake → Type 0 where
  -- its tag isn't one of its type, or it has none
  by_tag : (m : Mistake) → mistake_of nodes s ≡ Some m → IsMistake nodes here rest s m
  broken : mistake_of nodes s ≡ None → BeginsWithNone rest → IsMistake nodes here rest s mistake.NoElement
  -- a member has to come at the end of its content
  missing : (tag : ℕ) (content after : List ℕ) (inner : Awaited) (m : Member)
      → IsElementOf nodes s rest tag content after inner → IsMissing nodes inner content m
      → IsMistake nodes here rest s (mistake.Missing m.name)
  -- its content is that of no value of its type
  content : (tag : ℕ) (content after : List ℕ) (inner : Awaited) → IsElementOf nodes s rest tag content after inner
      → node_can_have nodes s.node content ≡ false → IsMistake nodes here rest s mistake.Content
  -- it is a member that has a default
  default : (value : DefaultValue) → default_in nodes s.identifier here ≡ Some value
      → IsMistake nodes here rest s mistake.Default
  -- it is in a SET OF
  order : are_sorted here ≡ true → IsMistake nodes here rest s mistake.Order

-- The steps of a path by numbers, in a content in which this is awaited first. Each is the one to the element with its
-- number in the content of the element before. The last one is the one with the mistake; or they are all, and the
-- mistake is in the content of the last element.
pub data AreSteps (nodes : List Node) : Awaited → List ℕ → List ℕ → List Step → Mistake → Type 0 where
  all : (first : Awaited) (content : List ℕ) → AreSteps nodes first content [] [] mistake.Content
  last : (first : Awaited) (content : List ℕ) (number : ℕ) (numbers : List ℕ) (here : Awaited) (rest : List ℕ)
      (s : Step) (m : Mistake) → ArePassedAs nodes first content number here rest → IsStep nodes here rest number s
      → IsMistake nodes here rest s m → AreSteps nodes first content (number ∷ numbers) (s ∷ []) m
  more : (first : Awaited) (content : List ℕ) (number : ℕ) (numbers : List ℕ) (here : Awaited) (rest : List ℕ)
      (s : Step) (tag : ℕ) (within after : List ℕ) (inner : Awaited) (steps : List Step) (m : Mistake)
      → ArePassedAs nodes first content number here rest → IsStep nodes here rest number s
      → IsElementOf nodes s rest tag within after inner → AreSteps nodes inner within numbers steps m
      → AreSteps nodes first content (number ∷ numbers) (s ∷ steps) m
