-- A readable tree can be written, if its encoding isn't too long.
use Rattle.std.proofs.Common.{◌≡◌, ℕ, ◌^◌, ◌<◌, true, length, refl, le-leb}
use Rattle.std.specs.Prelude.{IsTrue}
use Rattle.picky_der_core.specs.Tag.{number_of}
use Rattle.picky_der_core.specs.Primitive.{primitive_tag}
use Rattle.picky_der_core.specs.PrimitiveLaws.{primitive_tag_number}
use Rattle.picky_der_core.specs.Wrapper.{has_tag_number}
use Rattle.picky_der_core.specs.WrapperLaws.{has_tag_number-true}
use Rattle.picky_der_core.specs.Tree.{Tree, Trees}
use Rattle.picky_der_core.specs.Encoding.{der}
use Rattle.picky_der_core.specs.Readable.{IsReadable, AreReadable, IsWritable, has_tag_numbers, have_tag_numbers}

mutual
  tag_numbers : (t : Tree) → IsReadable t → IsTrue (has_tag_numbers t)
  tag_numbers (Tree.primitive p) r = le-leb (number_of (primitive_tag p)) 30 (primitive_tag_number p r)
  tag_numbers (Tree.list kind ts) r = all_numbers ts r.1
  tag_numbers (Tree.wrapped w t) r = let e : has_tag_number w ≡ true = has_tag_number-true w r.0 in
      rw e (tag_numbers t r.2)
  tag_numbers (Tree.raw s) r = refl
  tag_numbers (Tree.choice t) r = tag_numbers t r
  tag_numbers Tree.absent r = absurd r

  all_numbers : (ts : Trees) → AreReadable ts → IsTrue (have_tag_numbers ts)
  all_numbers Trees.none r = refl
  all_numbers (Trees.more t ts) r = let e : has_tag_numbers t ≡ true = tag_numbers t r.0 in rw e (all_numbers ts r.1)

pub readable-writable : (t : Tree) → IsReadable t → length (der t) < 2 ^ 64 → IsWritable t
readable-writable t r small = record { numbers = tag_numbers t r; fits = small }
