-- What reading the members of a sequence or set does.
use Rattle.std.specs.Prelude.{◌≡◌, ◌≤◌, ◌+◌, ℕ, List, [], ◌∷◌, ◌++◌, length, map, Some, None, IfSome}
use Rattle.std.specs.List.{concat}
use Rattle.picky_der_core.specs.declared.error.Asn1DerError.{Asn1DerError}
use Rattle.picky_der_core.specs.declared.error.Asn1DerError.TheVariants.{InvalidData}
use Rattle.picky_der_core.specs.Order.{IsAscending}
use Rattle.picky_der_core.specs.Tree.{Tree, Trees, trees}
use Rattle.picky_der_core.specs.Encoding.{der, encodings}
use Rattle.picky_der_core.specs.Readable.{AreReadable}
use Rattle.picky_der_core.specs.Shape.{Shape, Layout, IsOf, AreMembersOf, EachIs}
use Rattle.picky_der_de.specs.declared.end.End.TheVariants.{Soft}
use Rattle.picky_der_de.specs.State.{State}
use Rattle.picky_der_de.specs.Steps.{Consumed, Fails, IsJudged, failed_with}
use Rattle.picky_der_de.specs.Headers.{header_bytes}
use Rattle.picky_der_de.specs.Order.{AreInOrder, without_order, Follows, RefusesTest}
use Rattle.picky_der_de.specs.Reading.{Reads, Refuses, Concerns}
use Rattle.picky_der_de.specs.RefusesBy.{Rule, RefusesBy}

-- ---- one member

-- A member was read, and it may come next: in a set its encoding isn't less than the last one.
pub record ReadsMember (s : Shape) (old new : State) (t : Tree) : Type 0 where
  pub mid : State
  pub reads : Reads s old mid t
  pub implicit_tag : old.implicit_tag ≡ None
  pub follows : Follows (der t) mid new

-- why none may come next: no value of the type is there, and its rule says so, or one is there that was read and then
-- refused
pub data RefusesNext {V : Type 0} (meaning : V → Tree) (s : Shape) (rule : Rule) (old new : State)
    (e : Asn1DerError) : Type 0 where
  no_value : Refuses meaning s old new e → RefusesBy rule old new e → RefusesNext meaning s rule old new e
  after_value : (mid : State) (v : V) → Reads s old mid (meaning v) → RefusesTest (der (meaning v)) mid new e
      → RefusesNext meaning s rule old new e

-- No member was read, and none is there that may come next.
pub record RefusesMember {V : Type 0} (meaning : V → Tree) (s : Shape) (rule : Rule) (old new : State)
    (e : Asn1DerError) : Type 0
  where
    pub fails : Fails old new e
    pub refuses : RefusesNext meaning s rule old new e
    pub implicit_tag : old.failed ≡ None → old.implicit_tag ≡ None

-- the end is here, and nothing was done
pub record HasNoMore (old new : State) : Type 0 where
  pub reached : old.until_end ≡ 0
  pub had_not_failed : old.failed ≡ None
  pub same : new ≡ old

-- ---- members up to the end

-- the encodings of members, one after another
abbrev pub members_encoding : Trees → List ℕ
members_encoding ts = concat (encodings ts)

-- bytes to which a refusal applies begin with these, which don't reach past the end
pub record AreBefore (old new : State) (e : Asn1DerError) (bytes : List ℕ) : Type 0 where
  pub soft : old.end ≡ Soft
  pub seen : List ℕ
  pub concerns : Concerns old new e old.until_end seen
  pub rest : List ℕ
  pub begins : seen ≡ bytes ++ rest
  pub within : length bytes ≤ old.until_end

-- they reach up to the end
pub record AreUpToEnd (old new : State) (e : Asn1DerError) (bytes : List ℕ) : Type 0 where
  pub are_before : AreBefore old new e bytes
  pub fills : length bytes ≡ old.until_end

-- these members were read, and the one after them wasn't looked at
pub record ReadsMembers (l : Layout) (old new : State) (ts : Trees) : Type 0 where
  pub of_shape : AreMembersOf l ts
  pub readable : AreReadable ts
  pub order : AreInOrder old.last (encodings ts)
  pub consumes : Consumed (without_order old) (without_order new) (members_encoding ts)
  pub implicit_tag : new.implicit_tag ≡ None

-- no value of which P holds is there by its members, which would be all up to the end
pub record RefusesRest {V : Type 0} (P : V → Type 0) (members : V → Trees) (old new : State) (e : Asn1DerError) : Type 0
  where
    pub fails : Fails old new e
    pub none : IsJudged old new e → (v : V) → P v → AreReadable (members v)
        → AreInOrder old.last (encodings (members v))
        → AreUpToEnd old new e (members_encoding (members v)) → ⊥

-- the encodings of members were consumed; without any, nothing was done
abbrev pub ConsumesMembers : State → State → Trees → Type 0
ConsumesMembers old new Trees.none = new ≡ old
ConsumesMembers old new (Trees.more t ts) =
    Consumed (without_order old) (without_order new) (members_encoding (Trees.more t ts))

-- all members up to the end were read
pub record ReadsAll {V : Type 0} (meaning : V → Tree) (s : Shape) (old new : State) (vs : List V) : Type 0 where
  pub of_shape : EachIs (IsOf s) (trees (map meaning vs))
  pub readable : AreReadable (trees (map meaning vs))
  pub order : AreInOrder old.last (encodings (trees (map meaning vs)))
  pub consumes : ConsumesMembers old new (trees (map meaning vs))
  pub not_failed : new.failed ≡ None
  pub implicit_tag : new.implicit_tag ≡ None
  pub reached : new.until_end ≡ 0

-- these values are in this order, and with one more they aren't: its encoding is less than that of the one before it
pub record BreaksOrder {V : Type 0} (meaning : V → Tree) (s : Shape) (order : List (List ℕ) → Type 0) (vs : List V)
    (v : V) : Type 0 where
  pub of_shape : EachIs (IsOf s) (trees (map meaning (vs ++ v ∷ [])))
  pub readable : AreReadable (trees (map meaning (vs ++ v ∷ [])))
  pub in_order : order (encodings (trees (map meaning vs)))
  pub broken : order (encodings (trees (map meaning (vs ++ v ∷ [])))) → ⊥

-- these bytes were consumed, and a member in them was refused for its order
pub record RefusesConsumed (old new : State) (e : Asn1DerError) (bytes : List ℕ) : Type 0 where
  pub mid : State
  pub consumes : Consumed (without_order old) (without_order mid) bytes
  pub error : e ≡ InvalidData
  pub same : new ≡ failed_with mid e

-- No values are there as members up to the end, however many there may be. If one breaks the order of the earlier ones,
-- it was refused for that as soon as it was read.
pub record RefusesAll {V : Type 0} (meaning : V → Tree) (s : Shape) (old new : State) (e : Asn1DerError) : Type 0 where
  pub rest : RefusesRest (λ vs. EachIs (IsOf s) (trees (map meaning vs))) (λ vs. trees (map meaning vs)) old new e
  pub lesser : IsJudged old new e → (vs : List V) (v : V) → BreaksOrder meaning s (AreInOrder old.last) vs v
      → AreBefore old new e (members_encoding (trees (map meaning (vs ++ v ∷ []))))
      → RefusesConsumed old new e (members_encoding (trees (map meaning (vs ++ v ∷ []))))

-- ---- sets out of order

-- Known bytes begin with the header of a set, which directly under an implicit tag was that tag's, and after it with
-- these bytes of its content.
pub record BeginsSet (old : State) (bs members rest : List ℕ) : Type 0 where
  pub size : ℕ
  pub begins : bs ≡ header_bytes old.implicit_tag 0x31 size ++ (members ++ rest)
  pub all : IfSome old.implicit_tag (λ number. size ≡ old.until_end)
  pub fits : length (header_bytes old.implicit_tag 0x31 size) + size ≤ old.until_end
  pub within : length members ≤ size

-- it was refused with `InvalidData`, and this is left after what was consumed
pub record IsRefusedBefore (rest : List ℕ) (new : State) (e : Asn1DerError) : Type 0 where
  pub error : e ≡ InvalidData
  pub input : new.input ≡ Some rest
  pub unpeeked : new.peeked ≡ None

-- the first member of a set whose encoding is less than that of the one before it is refused, and no byte after it is
-- consumed
abbrev pub RefusesUnordered : {V : Type 0} → (V → Tree) → Shape → State → State → Asn1DerError → Type 0
RefusesUnordered {V} meaning s old new e =
    IsJudged old new e → (vs : List V) (v : V) → BreaksOrder meaning s IsAscending vs v
    → (bs rest : List ℕ) → old.input ≡ Some bs
    → BeginsSet old bs (members_encoding (trees (map meaning (vs ++ v ∷ [])))) rest → IsRefusedBefore rest new e
