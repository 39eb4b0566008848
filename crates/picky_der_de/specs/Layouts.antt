-- What reading the members of a layout does, of which some may be missing.
use Rattle.std.specs.Prelude.{◌≡◌, ◌<◌, ℕ, List, Option, None, Bool, ⊤, IsTrue}
use Rattle.picky_der_core.specs.declared.error.Asn1DerError.{Asn1DerError}
use Rattle.picky_der_core.specs.declared.error.Asn1DerError.TheVariants.{InvalidData}
use Rattle.picky_der_core.specs.Tree.{Tree, Trees}
use Rattle.picky_der_core.specs.Encoding.{encodings}
use Rattle.picky_der_core.specs.Readable.{IsReadable, AreReadable}
use Rattle.picky_der_core.specs.FirstLaws.{BeginsIn}
use Rattle.picky_der_core.specs.Shape.{Shape, Layout, IsFirst, AreMembersOf, AreMembersDistinct}
use Rattle.picky_der_de.specs.State.{State}
use Rattle.picky_der_de.specs.Steps.{Consumed, Fails}
use Rattle.picky_der_de.specs.Order.{AreInOrder, without_order}
use Rattle.picky_der_de.specs.Refusing.{FailsAs}
use Rattle.picky_der_de.specs.LookAhead.{Peeks, Identifies, RefusesIdentifier}
use Rattle.picky_der_de.specs.RefusesBy.{Rule}
use Rattle.picky_der_de.specs.Members.{ReadsMember, RefusesMember, HasNoMore, members_encoding, AreUpToEnd, RefusesRest}

-- ---- one member that may be missing

-- None of this shape comes next: the end is here, or another byte is next, and at most was looked at.
pub data Lacks (s : Shape) (old new : State) : Type 0 where
  no_more : HasNoMore old new → Lacks s old new
  begins_otherwise : (tag : ℕ) → Identifies old new tag → (IsFirst s tag → ⊥) → Lacks s old new

-- No tag could be peeked, though the end isn't here; or a value begins there as values of the type do, and was refused.
pub data RefusesOptional {V : Type 0} (meaning : V → Tree) (s : Shape) (rule : Rule) (old new : State)
    (e : Asn1DerError) : Type 0 where
  no_tag : RefusesIdentifier old new e → (old.failed ≡ None → 0 < old.until_end)
      → RefusesOptional meaning s rule old new e
  no_member : (mid : State) (tag : ℕ) → Identifies old mid tag → IsFirst s tag → RefusesMember meaning s rule mid new e
      → RefusesOptional meaning s rule old new e

-- It was refused as a member that may be missing is. Or the default is there and was read, which is `InvalidData`: no
-- default is written out. This is the last member then.
pub data RefusesDefault {V : Type 0} (meaning : V → Tree) (left_out : V → Bool) (s : Shape) (rule : Rule)
    (old new : State) (last : Option (List ℕ)) (e : Asn1DerError) : Type 0 where
  as_optional : RefusesOptional meaning s rule old new e → last ≡ old.last
      → RefusesDefault meaning left_out s rule old new last e
  written_out : (mid : State) (v : V) → IsTrue (left_out v) → ReadsMember s old mid (meaning v)
      → FailsAs InvalidData mid e (record new { last = last }) → Fails mid new e
      → RefusesDefault meaning left_out s rule old new last e

-- ---- one member, always there or not

pub data Presence : Type 0 where
  always : Presence
  perhaps : Presence

-- a member before others
abbrev pub layout_with : Presence → Shape → Layout → Layout
layout_with always = Layout.required
layout_with perhaps = Layout.maybe

-- why it wasn't read, and which is the last member then: one that is always there is no default
abbrev pub RefusesLayoutMember : {V : Type 0} → Presence → (V → Tree) → (V → Bool) → Shape → Rule → State → State
    → Option (List ℕ) → Asn1DerError → Type 0
RefusesLayoutMember always meaning left_out s rule old new last e =
    RefusesMember meaning s rule old new e × (last ≡ old.last)
RefusesLayoutMember perhaps meaning left_out s rule old new last e =
    RefusesDefault meaning left_out s rule old new last e

-- ---- all members of a layout

-- at most the next byte was peeked
pub data PeeksAtMost (old new : State) : Type 0 where
  same : new ≡ old → old.failed ≡ None → old.peeked ≡ None → PeeksAtMost old new
  looked : (x : ℕ) → old.peeked ≡ None → Peeks old new x → PeeksAtMost old new

-- these bytes were consumed, and at most a peek at the byte after them
pub record Passes (old new : State) (bytes : List ℕ) : Type 0 where
  pub mid : State
  pub consumes : Consumed (without_order old) (without_order mid) bytes
  pub peeks_at_most : PeeksAtMost mid new

-- These members were read. Where something is left after them, no members are there that reach up to the end.
pub record ReadsLayout (l : Layout) (old new : State) (ts : Trees) : Type 0 where
  pub are : AreMembersOf l ts
  pub readable : AreReadable ts
  pub order : AreInOrder old.last (encodings ts)
  -- whether the first byte was looked at or not
  pub passes : (a : State) → PeeksAtMost a old → Passes a new (members_encoding ts)
  pub implicit_tag : new.implicit_tag ≡ None
  -- what fails after them has failed from before them
  pub fails : (last : State) (e : Asn1DerError) → Fails new last e → Fails old last e
  pub full : AreMembersDistinct l → (last : State) (e : Asn1DerError) → Fails new last e → 0 < new.until_end
      → (us : Trees) → AreMembersOf l us → AreReadable us → AreUpToEnd old last e (members_encoding us) → ⊥

-- no values are there as members up to the end, where the first byte distinguishes missing members
pub record RefusesLayout {V : Type 0} (members : V → Trees) (l : Layout) (old new : State) (e : Asn1DerError) : Type 0
  where
    pub rest : RefusesRest (λ v. AreMembersDistinct l × AreMembersOf l (members v)) members old new e

-- ---- laws

-- the first of the trees, if there is one and it is readable, begins with one of these bytes
abbrev pub AreBegunBy : List ℕ → Trees → Type 0
AreBegunBy fs Trees.none = ⊤
AreBegunBy fs (Trees.more t ts) = IsReadable t → BeginsIn fs t
