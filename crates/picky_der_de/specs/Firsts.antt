-- With which bytes the encodings of a tree's kind begin.
use Rattle.std.specs.Prelude.{ℕ, Bool, true, false, not, nat_lt, Option, Some, None, List, [], ◌∷◌, IsTrue, refl}
use Rattle.std.proofs.Common.{subst}
use Rattle.picky_der_core.specs.WrapperLaws.{wrapper_number-small}
use Rattle.picky_der_core.specs.Wrapper.{wrapper_number, wrapper_tag}
use Rattle.picky_der_core.specs.PrimitiveLaws.{primitive_tag_number}
use Rattle.picky_der_core.specs.Primitive.{Primitive, primitive_tag}
use Rattle.picky_der_core.specs.Tag.{number_of}
use Rattle.picky_der_core.specs.Element.{tlv, AreBytes}
use Rattle.picky_der_core.specs.Tree.{Tree}
use Rattle.picky_der_core.specs.Encoding.{tree_bytes, der, list_tag}
use Rattle.picky_der_core.specs.EncodingLaws.{is_absent-readable, der-wrapped_present}
use Rattle.picky_der_core.specs.Readable.{IsReadable}
use Rattle.picky_der_core.specs.Integer.{within, unsigned_tree}
use Rattle.picky_der_core.specs.Shape.{Shape, firsts, contains, tags_below, tag_with_number}
use Rattle.picky_der_core.specs.FirstLaws.{BeginsIn, contains_itself, contains_numbered, contains-tags_below}
use Rattle.picky_der_core.specs.FirstLaws.{begins_plain_encoding, begins_tlv}
use Rattle.picky_der_ser.specs.Meaning.{option_meaning}

-- the bytes with which an encoding of a tree of this kind, and with these tags, can begin
abbrev pub firsts_in : Tree → List ℕ
firsts_in (Tree.primitive p) = tag_with_number (number_of (primitive_tag p)) (primitive_tag p)
firsts_in (Tree.list kind ts) = list_tag kind ∷ []
firsts_in (Tree.wrapped w t) = tag_with_number (wrapper_number w) (wrapper_tag w)
firsts_in (Tree.raw s) = tags_below 256
firsts_in (Tree.choice t) = firsts_in t
firsts_in Tree.absent = []

-- each byte with which a tree of its kind can begin is one of these
abbrev pub IsBegunBy : List ℕ → Tree → Type 0
IsBegunBy fs t = (b : ℕ) → IsTrue (contains (firsts_in t) b) → IsTrue (contains fs b)

-- ---- a readable tree begins so

pub begins_in_own : (t : Tree) → IsReadable t → BeginsIn (firsts_in t) t
unfolding der tree_bytes tlv
begins_in_own (Tree.primitive p) r =
    begins_plain_encoding _ _ _ (Tree.primitive p) refl
    (contains_numbered (number_of (primitive_tag p)) (primitive_tag p) (primitive_tag_number p r))
begins_in_own (Tree.list kind ts) r =
    begins_plain_encoding _ _ _ (Tree.list kind ts) refl (contains_itself (list_tag kind) [])
begins_in_own (Tree.wrapped w t) r =
    begins_tlv _ _ _ (Tree.wrapped w t) (der-wrapped_present w t (is_absent-readable t r.2))
    (contains_numbered (wrapper_number w) (wrapper_tag w) (wrapper_number-small w r.0))
begins_in_own (Tree.raw s) r =
    let element = r.0 in
    let bytes : AreBytes (tlv element.tag element.content) = subst AreBytes element.is r.1 in
    begins_tlv _ _ _ (Tree.raw s) element.is (contains-tags_below element.tag 256 bytes.0 element.number)
begins_in_own (Tree.choice t) r = let b = begins_in_own t r in
    record { first = b.first; others = b.others; is = b.is; listed = b.listed }
begins_in_own Tree.absent r = absurd r

-- so it does with bytes among which these are
pub begins_among : (fs : List ℕ) (t : Tree) → IsBegunBy fs t → IsReadable t → BeginsIn fs t
begins_among fs t f r = let b = begins_in_own t r in record {
  first = b.first;
  others = b.others;
  is = b.is;
  listed =
      f b.first b.listed;
}

-- ---- of numbers

pub unsigned_begun : (most n : ℕ) → IsBegunBy (0x02 ∷ []) (unsigned_tree most n)
unsigned_begun most n = by_test (not (nat_lt most n))
  where
    by_test : (t : Bool) → IsBegunBy (0x02 ∷ []) (within t (Tree.primitive (Primitive.unsigned n)))
    by_test true b h = h
    by_test false b h = cc

-- ---- of values that may be missing

pub option_begun : {V : Type 0} (meaning : V → Tree) (s : Shape) → ((v : V) → IsBegunBy (firsts s) (meaning v))
    → (v : Option V) → IsBegunBy (firsts s) (option_meaning meaning v)
option_begun meaning s f None b h = cc
option_begun meaning s f (Some v) b h = f v b h
