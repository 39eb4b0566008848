-- What is written into a buffer.
use Rattle.std.specs.Prelude.{◌≡◌, ℕ, ◌+◌, ◌-◌, ◌^◌, ◌<◌, ◌≤◌, List, ◌++◌, length, take, drop, slice_range}
use Rattle.picky_der_core.specs.Element.{tlv, length_octets}
use Rattle.der_show.specs.Members.{IsSetContent, IsNoSetContent}
use Rattle.der_c.specs.Codes.{ok, no_room, no_place, too_large, out_of_order}

-- a buffer after bytes were written at an index
abbrev pub put_over : List ℕ → ℕ → List ℕ → List ℕ
put_over old at bytes = take at old ++ (bytes ++ drop (at + length bytes) old)

-- The bytes were appended to the first ones, of which there are `before` before and `after` after the call. Without
-- room for them the buffer is as it was, and only the count grows.
pub data IsPut (bytes old new : List ℕ) (before after code : ℕ) : Type 0 where
  put : after ≤ length old → after ≡ before + length bytes → new ≡ put_over old before bytes → code ≡ ok
      → IsPut bytes old new before after code
  short : length old < after → after ≡ before + length bytes → new ≡ old → code ≡ no_room
      → IsPut bytes old new before after code
  uncountable : 2 ^ 64 ≤ before + length bytes → after ≡ before → new ≡ old → code ≡ too_large
      → IsPut bytes old new before after code

-- What was written from `start` on became the content of an element, whose members are in order if it is a SET. Without
-- room for its header the buffer is as it was, and only the count grows.
pub data IsWrapped (tag start : ℕ) (old new : List ℕ) (before after code : ℕ) : Type 0 where
  wrapped : after ≤ length old → start ≤ before → after ≡ start + length (tlv tag (slice_range old start before))
      → (tag ≡ 0x31 → IsSetContent (slice_range old start before))
      → new ≡ put_over old start (tlv tag (slice_range old start before)) → code ≡ ok
      → IsWrapped tag start old new before after code
  short : length old < after → start ≤ before → after ≡ before + 1 + length (length_octets (before - start)) → new ≡ old
      → code ≡ no_room → IsWrapped tag start old new before after code
  unordered : tag ≡ 0x31 → start ≤ before → before ≤ length old → IsNoSetContent (slice_range old start before)
      → after ≡ before → new ≡ old → code ≡ out_of_order → IsWrapped tag start old new before after code
  past : before < start → after ≡ before → new ≡ old → code ≡ no_place → IsWrapped tag start old new before after code
  uncountable : start ≤ before → 2 ^ 64 ≤ before + 1 + length (length_octets (before - start)) → after ≡ before
      → new ≡ old → code ≡ too_large → IsWrapped tag start old new before after code
