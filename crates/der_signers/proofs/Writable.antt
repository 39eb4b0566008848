-- Parts of what was read can be written.
use Rattle.std.proofs.Common.{◌≡◌, true, ℕ, zero, suc, ◌^◌, ◌<◌, ◌≤◌, List, [], ◌∷◌, length, map, Option, Some, None}
use Rattle.std.proofs.Common.{refl, ap, ◌∙◌, arith, length-append}
use Rattle.std.specs.Prelude.{All, IfSome, option_map, ⊤}
use Rattle.std.specs.List.{concat}
use Rattle.picky_der_core.specs.declared.asn1.wrapper.Wrapper.TheVariants.{ImplicitList}
use Rattle.picky_der_core.specs.Element.{tlv, length_octets}
use Rattle.picky_der_core.specs.ElementLaws.{length-tlv}
use Rattle.picky_der_core.specs.Primitive.{Primitive}
use Rattle.picky_der_core.specs.Tree.{ListKind, Tree, Trees, trees}
use Rattle.picky_der_core.specs.Encoding.{list_content, list_tag, tree_bytes, encodings, der, content}
use Rattle.picky_der_core.specs.EncodingLaws.{der-plain, der-primitive, der-wrapped_present, implicit_content-plain}
use Rattle.picky_der_core.specs.EncodingLaws.{length-list_content}
use Rattle.picky_der_core.specs.Readable.{IsReadable, AreReadable, IsWritable}
use Rattle.picky_der_core.specs.ReadableLaws.{readable-writable}
use Rattle.picky_der_ser.specs.Meaning.{maybe_more}

-- it is read back, and its encoding isn't too long
pub record IsShort (t : Tree) : Type 0 where
  pub readable : IsReadable t
  pub short : length (der t) < 2 ^ 64

unfoldable pub AreShort : Trees → Type 0
AreShort Trees.none = ⊤
AreShort (Trees.more t ts) = IsShort t × AreShort ts

pub short-writable : (t : Tree) → IsShort t → IsWritable t
short-writable t h = readable-writable t h.readable h.short

-- ---- members

tlv_longer : (tag : ℕ) (c : List ℕ) → length c ≤ length (tlv tag c)
unfolding tlv
tlv_longer tag c = omega (arith, length-append (length_octets (length c)) c)

same_length : (x y : ℕ) (c : List ℕ) → length (tlv x c) ≡ length (tlv y c)
unfolding tlv
same_length x y c = refl

members_short : (ts : Trees) → AreReadable ts → length (concat (encodings ts)) < 2 ^ 64 → AreShort ts
unfolding AreShort der tree_bytes
members_short Trees.none r small = tt
members_short (Trees.more t ts) r small =
    let parts = length-append (tree_bytes true t) (concat (encodings ts)) in
    (record { readable = r.0; short = omega (arith, small, parts) }, members_short ts r.1 (omega (arith, small, parts)))

-- those of a list
pub list_short : (kind : ListKind) (ts : Trees) → IsShort (Tree.list kind ts) → AreShort ts
list_short kind ts h =
    let size = ap length (der-plain (Tree.list kind ts) refl) in
    members_short ts h.readable.1
    (omega (
      arith,
      h.short,
      size,
      tlv_longer (list_tag kind) (list_content kind (encodings ts)),
      length-list_content kind (encodings ts),
    ))

-- a list under a tag in place of its own
pub implicit_list_short : (tag : ℕ) (kind : ListKind) (ts : Trees)
    → IsShort (Tree.wrapped (ImplicitList tag) (Tree.list kind ts)) → IsShort (Tree.list kind ts)
implicit_list_short tag kind ts h =
    let list = Tree.list kind ts in
    let outer =
    ap length (der-wrapped_present (ImplicitList tag) list refl
    ∙ ap (tlv tag) (implicit_content-plain list refl)) in
    let own = ap length (der-plain list refl) in
    record {
      readable = h.readable.2;
      short =
          omega (arith, h.short, outer, own, same_length tag (list_tag kind) (content list));
    }

pub first : (t : Tree) (ts : Trees) → AreShort (Trees.more t ts) → IsShort t
unfolding AreShort
first t ts h = h.0

pub rest : (t : Tree) (ts : Trees) → AreShort (Trees.more t ts) → AreShort ts
unfolding AreShort
rest t ts h = h.1

module _ {A : Type 0} (meaning : A → Tree) where
  -- a member that may be missing
  pub maybe_first : (o : Option A) (ts : Trees) → AreShort (maybe_more meaning o ts)
      → IfSome o (λ x. IsShort (meaning x))
  maybe_first None ts h = tt
  maybe_first (Some x) ts h = first (meaning x) ts h

  pub maybe_rest : (o : Option A) (ts : Trees) → AreShort (maybe_more meaning o ts) → AreShort ts
  maybe_rest None ts h = h
  maybe_rest (Some x) ts h = rest (meaning x) ts h

  -- the values of a list
  pub items_short : (items : List A) → AreShort (trees (map meaning items)) → All (λ x. IsShort (meaning x)) items
  items_short [] h k d low = absurd (omega arith)
  items_short (x ∷ xs) h zero d low = first (meaning x) (trees (map meaning xs)) h
  items_short (x ∷ xs) h (suc k) d low = items_short xs (rest (meaning x) (trees (map meaning xs)) h) k d (omega arith)

pub some_mapped : {A B : Type 0} (f : A → B) (P : A → Type 0) (Q : B → Type 0) → ((x : A) → P x → Q (f x))
    → (o : Option A) → IfSome o P → IfSome (option_map f o) Q
some_mapped f P Q step None h = tt
some_mapped f P Q step (Some x) h = step x h

-- an OCTET STRING
pub octets_writable : (s : List ℕ) → length s ≤ 64 → IsWritable (Tree.primitive (Primitive.bytes 0x04 s))
octets_writable s small =
    let size = ap length (der-primitive (Primitive.bytes 0x04 s)) in
    let bound : length s < 2 ^ 64 = omega (arith, small) in
    let most = length-tlv 0x04 s bound in
    record { numbers = refl; fits = omega (arith, small, size, most) }
