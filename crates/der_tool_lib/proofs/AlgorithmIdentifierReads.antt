-- Algorithm identifiers, read and refused.
use Rattle.std.proofs.Common.{◌≡◌, ℕ, ◌^◌, ◌<◌, List, ◌∷◌, length, map, Option, None, Some, IfSome, IfNone, refl, sym}
use Rattle.std.proofs.Common.{◌∙◌, arith}
use Rattle.picky_der_core.specs.Primitive.{Primitive, PrimitiveShape}
use Rattle.picky_der_core.specs.declared.error.Asn1DerError.{Asn1DerError}
use Rattle.picky_der_core.specs.declared.asn1.tagged_bytes.TaggedBytes.{TaggedBytes}
use Rattle.picky_der_core.specs.Element.{tlv}
use Rattle.picky_der_core.specs.ElementLaws.{element_bytes, content_bytes}
use Rattle.picky_der_core.specs.EncodingLaws.{der-raw, der-primitive}
use Rattle.picky_der_core.specs.Tree.{ListKind, Tree, Trees, trees}
use Rattle.picky_der_core.specs.Encoding.{der}
use Rattle.picky_der_core.specs.Readable.{AreReadable}
use Rattle.picky_der_core.specs.Shape.{Shape, IsOf, EachIs}
use Rattle.picky_der_de.specs.State.{State}
use Rattle.picky_der_de.specs.RefusesBy.{Rule}
use Rattle.picky_der_de.specs.Reading.{Reads, Refuses}
use Rattle.picky_der_de.specs.Ends.{EnclosingEnd, Closes, RefusesClose, OpensList, RefusesList}
use Rattle.picky_der_de.specs.Members.{ReadsMember, RefusesMember, HasNoMore, RefusesRest}
use Rattle.picky_der_de.proofs.Rests.{after_first, FirstIsUnread, nothing, first, IsAhead, rest_unopened, rest_refused}
use Rattle.picky_der_de.proofs.Rests.{rest_head, rest_next, rest_left, rest_closed, member_as, members_read}
use Rattle.picky_der_de.proofs.Rests.{reads_members, members_last, members_ended, reads_as}
use Rattle.picky_der_ser.specs.Meaning.{list_meaning}
use Rattle.picky_asn1_der.specs.declared.raw_der.Asn1RawDer.{Asn1RawDer}
use Rattle.der_tool_lib.specs.declared.algorithm_identifier.AlgorithmIdentifier.{AlgorithmIdentifier}
use Rattle.der_tool_lib.specs.AlgorithmIdentifier.{of_parameters, elements}

abbrev shape : Shape
shape = Shape.list_of ListKind.sequence Shape.raw

abbrev members : AlgorithmIdentifier → Trees
members a = trees (map Tree.raw (elements a))

-- the elements of the identifier are made of bytes
abbrev AreElements : AlgorithmIdentifier → Type 0
AreElements a = EachIs (IsOf Shape.raw) (members a)

abbrev RefusesAlgorithm : State → State → Asn1DerError → Type 0
RefusesAlgorithm = Refuses (λ a. list_meaning ListKind.sequence Tree.raw (elements a)) shape

-- an object identifier, as the element that it is
same_element : (x : List ℕ) → der (Tree.raw (tlv 0x06 x)) ≡ der (Tree.primitive (Primitive.bytes 0x06 x))
same_element x = der-raw (tlv 0x06 x) ∙ sym (der-primitive (Primitive.bytes 0x06 x))

-- ---- refused

pub algorithm_unopened : {a c : State} {e : Asn1DerError} → RefusesList 0x30 a c e → RefusesAlgorithm a c e
algorithm_unopened h = rest_unopened {members = members} {kind = ListKind.sequence} refl h

module _ {a b : State} {outer : EnclosingEnd} (opened : OpensList 0x30 a b outer) where
  refused : {c : State} {e : Asn1DerError} → RefusesRest AreElements members b c e → RefusesAlgorithm a c e
  refused r = rest_refused {kind = ListKind.sequence} refl (λ v of_shape. of_shape.1) opened r

  -- the first member is no object identifier
  pub no_algorithm : {rule : Rule} {c : State} {e : Asn1DerError}
      → RefusesMember (λ (x : TaggedBytes 0x06). Tree.primitive (Primitive.bytes 0x06 x.0.items))
      (Shape.primitive (PrimitiveShape.bytes 0x06)) rule b c e → RefusesAlgorithm a c e
  no_algorithm r =
      refused (rest_head (λ v bytes readable. let content = content_bytes 0x06 v.algorithm.0.items bytes.0 in
      first v.algorithm _ _ (refl, content) (omega arith, content) (same_element v.algorithm.0.items)) r)

  module _ {s : Shape} {c : State} {t : Tree} (algorithm : ReadsMember s b c t) where
    -- the parameters are no element
    pub no_parameters : {rule : Rule} {d : State} {e : Asn1DerError}
        → RefusesMember (λ (p : Asn1RawDer). Tree.raw p.0.items) Shape.raw rule c d e → IsAhead c
        → RefusesAlgorithm a d e
    no_parameters r ahead =
        refused (rest_next algorithm (rest_head (λ v bytes readable. unread v.parameters bytes.1 readable) r))
      where
        unread : (p : Option Asn1RawDer) → EachIs (IsOf Shape.raw) (trees (map Tree.raw (of_parameters p)))
            → AreReadable (trees (map Tree.raw (of_parameters p)))
            → FirstIsUnread (λ (p : Asn1RawDer). Tree.raw p.0.items) Shape.raw (IsAhead c)
            (trees (map Tree.raw (of_parameters p)))
        unread None bytes readable = nothing ahead
        unread (Some p) bytes readable = first p _ _ bytes.0 readable.0 refl

    -- there is a third member
    pub left_over : {d f : State} {e : Asn1DerError} (p : Option Asn1RawDer)
        → IfSome p (λ v. ReadsMember Shape.raw c d (Tree.raw v.0.items)) → IfNone p (HasNoMore c d) → RefusesClose d f e
        → RefusesAlgorithm a f e
    left_over None read n k = absurd (rest_closed n k)
    left_over (Some p) read n k = refused (rest_next algorithm (rest_left (λ v. last v.parameters) read k))
      where
        last : (q : Option Asn1RawDer) → after_first (trees (map Tree.raw (of_parameters q))) ≡ Trees.none
        last None = refl
        last (Some q) = refl

-- ---- read

-- the object identifier was read as its element
algorithm_read : {b c : State} (x : List ℕ) → length x < 2 ^ 64
    → ReadsMember (Shape.primitive (PrimitiveShape.bytes 0x06)) b c (Tree.primitive (Primitive.bytes 0x06 x))
    → ReadsMember Shape.raw b c (Tree.raw (tlv 0x06 x))
algorithm_read x small r =
    let bytes = element_bytes 0x06 x (omega arith) small r.reads.of_shape.1 in
    member_as (Tree.raw (tlv 0x06 x)) bytes (record { tag = 0x06; content = x; number = omega arith; is = refl }, bytes)
    (sym (same_element x)) r

pub reads_algorithm : {a b c d f : State} {outer closed : EnclosingEnd} (x : List ℕ) (p : Option Asn1RawDer)
    → length x < 2 ^ 64 → OpensList 0x30 a b outer
    → ReadsMember (Shape.primitive (PrimitiveShape.bytes 0x06)) b c (Tree.primitive (Primitive.bytes 0x06 x))
    → IfSome p (λ v. ReadsMember Shape.raw c d (Tree.raw v.0.items)) → IfNone p (HasNoMore c d) → Closes closed d f
    → closed ≡ outer → Reads shape a f (list_meaning ListKind.sequence Tree.raw (tlv 0x06 x ∷ of_parameters p))
reads_algorithm x None small opened algorithm read n k same =
    let row = members_ended (algorithm_read x small algorithm) n in
    reads_as (refl, row.of_shape) (reads_members {kind = ListKind.sequence} opened row k same)
reads_algorithm x (Some p) small opened algorithm read n k same =
    let row = members_read (algorithm_read x small algorithm) (members_last read) in
    reads_as (refl, row.of_shape) (reads_members {kind = ListKind.sequence} opened row k same)
