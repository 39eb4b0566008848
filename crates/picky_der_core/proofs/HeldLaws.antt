-- A readable tree holds less than twice its encoding.
use Rattle.std.specs.Prelude.{◌≡◌, ℕ, ◌+◌, ◌*◌, ◌≤◌, List, [], ◌∷◌, ◌++◌, Bool, true, false, length, nat_lt, refl}
use Rattle.std.specs.List.{concat}
use Rattle.std.proofs.Common.{subst, arith, length-append}
use Rattle.picky_der_core.specs.Element.{tlv, length_octets}
use Rattle.picky_der_core.specs.Wrapper.{wrapper_front, keeps_header, wrapper_tag}
use Rattle.picky_der_core.specs.Tree.{Tree, Trees, is_plain}
use Rattle.picky_der_core.specs.Encoding.{der, implicit_content, tree_bytes, encodings, content, plain_tag, with_header}
use Rattle.picky_der_core.specs.EncodingLaws.{der-plain, der-raw, der-choice, der-wrapped_present}
use Rattle.picky_der_core.specs.EncodingLaws.{implicit_content-plain}
use Rattle.picky_der_core.specs.EncodingLaws.{implicit_content-other, is_absent-readable, length-list_content}
use Rattle.picky_der_core.specs.EncodingLaws.{length-der}
use Rattle.picky_der_core.specs.OpenWrappers.{wrapped_content}
use Rattle.picky_der_core.specs.Readable.{IsReadable, AreReadable, IsNoChoice}
use Rattle.picky_der_core.specs.Held.{held, all_held}
use Rattle.picky_der_core.specs.Laws.{NoAmplification}

some_octets : (n : ℕ) → 1 ≤ length (length_octets n)
unfolding length_octets
some_octets n = by_form (nat_lt n 0x80) refl
  where
    by_form : (b : Bool) → nat_lt n 0x80 ≡ b → 1 ≤ length (length_octets n)
    by_form true e = rw e (omega arith)
    by_form false e = rw e (omega arith)

-- a header has at least two bytes
tlv_longer : (x : ℕ) (c : List ℕ) → length c + 2 ≤ length (tlv x c)
unfolding tlv
tlv_longer x c = omega (arith, some_octets (length c), length-append (length_octets (length c)) c)

plain_bound : (t : Tree) (n : ℕ) → is_plain t ≡ true → n ≤ 2 * length (content t) → n + 1 ≤ 2 * length (der t)
plain_bound t n p h = rw (der-plain t p) (omega (arith, tlv_longer (plain_tag t) (content t)))

encodings_none : encodings Trees.none ≡ []
unfolding tree_bytes
encodings_none = refl

encodings_more : (t : Tree) (ts : Trees) → encodings (Trees.more t ts) ≡ der t ∷ encodings ts
unfolding der tree_bytes
encodings_more t ts = refl

implicit_content-choice : (t : Tree) → implicit_content (Tree.choice t) ≡ implicit_content t
unfolding implicit_content tree_bytes
implicit_content-choice t = refl

-- what it holds is bounded by its encoding, and by what is directly under an implicit tag
abbrev IsBounded : Tree → Type 0
IsBounded t = (held t + 1 ≤ 2 * length (der t)) × (held t ≤ 2 * length (implicit_content t))

inside : (header : Bool) (t : Tree) → IsBounded t → held t ≤ 2 * length (with_header header t)
inside true t b = omega (arith, b.0)
inside false t b = b.1

of_plain : (t : Tree) → is_plain t ≡ true → held t ≤ 2 * length (content t) → IsBounded t
of_plain t p h = (plain_bound t (held t) p h, rw (implicit_content-plain t p) h)

of_other : (t : Tree) → is_plain t ≡ false → IsNoChoice t → held t + 1 ≤ 2 * length (der t) → IsBounded t
of_other t p n h = (h, rw (implicit_content-other t p n) (omega (arith, h)))

mutual
  is_bounded : (t : Tree) → IsReadable t → IsBounded t
  is_bounded (Tree.primitive p) r = of_plain (Tree.primitive p) refl (omega arith)
  is_bounded (Tree.list kind ts) r =
      of_plain (Tree.list kind ts) refl (rw (length-list_content kind (encodings ts)) (are_bounded ts r.1))
  is_bounded (Tree.wrapped w t) r =
      let header = tlv_longer (wrapper_tag w) (wrapped_content w t) in
      let front = length-append (wrapper_front w) (with_header (keeps_header w) t) in
      let part = inside (keeps_header w) t (is_bounded t r.2) in
      of_other (Tree.wrapped w t) refl tt
      (rw (der-wrapped_present w t (is_absent-readable t r.2)) (omega (arith, header, front, part)))
  is_bounded (Tree.raw s) r =
      let some = subst (λ b. 1 ≤ length b) (der-raw s) (length-der (Tree.raw s) r) in
      of_other (Tree.raw s) refl tt (rw (der-raw s) (omega (arith, some)))
  is_bounded (Tree.choice t) r =
      let b = is_bounded t r in
      (rw (der-choice t) b.0, rw (implicit_content-choice t) b.1)
  is_bounded Tree.absent r = absurd r

  are_bounded : (ts : Trees) → AreReadable ts → all_held ts ≤ 2 * length (concat (encodings ts))
  are_bounded Trees.none r = rw encodings_none (omega arith)
  are_bounded (Trees.more t ts) r =
      let first = (is_bounded t r.0).0 in
      rw (encodings_more t ts) (omega (arith, first, are_bounded ts r.1, length-append (der t) (concat (encodings ts))))

pub no_amplification : NoAmplification
no_amplification t r = (is_bounded t r).0
