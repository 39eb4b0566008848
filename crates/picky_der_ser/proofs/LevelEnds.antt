-- A level that ends: its headers come before its content.
use Rattle.std.proofs.Common.{◌≡◌, ℕ, ◌≤◌, ◌<◌, ◌+◌, ◌-◌, true, false, List, [], ◌∷◌, ◌++◌, length, take, drop, Option}
use Rattle.std.proofs.Common.{None, Some, refl, sym, ap, ap₂, ◌∙◌, arith, length-append, append_assoc, Result, Ok, Err}
use Rattle.std.proofs.Common.{OnOk}
use Rattle.std.proofs.Math.ListN.{set}
use Rattle.std.proofs.Math.Seq.{take-add, drop-append_seam}
use Rattle.std.specs.Option.{is_some}
use Rattle.std.proofs.lemmas.List.{take-take, take-append-le}
use Rattle.std.proofs.lemmas.List.{take_all, drop_all, length-drop, length-take-le, take-append-drop, take-set}
use Rattle.std.proofs.lemmas.List.{drop-set}
use Rattle.picky_der_core.specs.declared.asn1.wrapper.Wrapper.{Wrapper}
use Rattle.picky_der_core.specs.Encoding.{der}
use Rattle.picky_der_core.specs.OpenWrappers.{under}
use Rattle.picky_der_ser.specs.declared.levels.Mark.{Mark}
use Rattle.picky_der_ser.specs.declared.levels.Place.{Place}
use Rattle.picky_der_ser.specs.Headers.{tree_of, wrappers, keeps_headers, own_tag, headed, wrapped_in}
use Rattle.picky_der_ser.specs.State.{Held, Stack, final_content}
use Rattle.picky_der_ser.specs.Marks.{level_at, held_of, inside_at, pending_at, around_at, outside, tags}
use Rattle.picky_der_ser.specs.Marks.{IsMark}
use Rattle.picky_der_ser.specs.Marks.{enclosed}
use Rattle.picky_der_ser.proofs.HeaderBytes.{der-headed, tlv-short}
use Rattle.picky_der_ser.proofs.LevelMarks.{within, changed_stack, stack_of}
use Rattle.picky_der_ser.proofs.ListBytes.{final_content-uncut}

headed_short : (o : Option ℕ) (c s : List ℕ) → tags o ≡ take 1 s → 1 ≤ length s → length c < 0x80
    → headed o c ≡ take 1 s ++ (length c ∷ c)
headed_short None c [] e some short = absurd (omega arith)
headed_short None c (x ∷ s) e some short = absurd (cc)
headed_short (Some tag) c [] e some short = absurd (omega arith)
headed_short (Some tag) c (x ∷ s) e some short =
    let same : tag ∷ [] ≡ x ∷ [] = e in
    tlv-short tag c short ∙ ap (λ y. y ++ (length c ∷ c)) same

bare_short : (o : Option Wrapper) (bs : List ℕ) → is_some o ≡ false → wrapped_in o bs ≡ bs
bare_short None bs e = refl
bare_short (Some w) bs e = absurd (cc)

bare_keeps : (o : Option Wrapper) → is_some o ≡ false → keeps_headers o ≡ true
bare_keeps None e = refl
bare_keeps (Some w) e = absurd (cc)

-- A short level without seams whose tag is already there.
module _ (m : Mark) (b q : List ℕ) (k : IsMark m (held_of b q)) (tagged : m.has_tag ≡ true)
    (uncut : length q ≤ m.first_seam) (short : length b - m.start < 0x80) where
  abbrev content : List ℕ
  content = drop m.start b

  abbrev whole : List ℕ
  whole = der (under (wrappers m.around) (tree_of m.header (final_content (level_at m (held_of b q)))))

  room : m.start ≡ m.at + 2
  room = (k.has_tag tagged).room

  fits : m.start ≤ length b
  fits = within k

  size : length content ≡ length b - m.start
  size = length-drop m.start b

  whole_is : whole ≡ take 1 (drop m.at b) ++ (length content ∷ content)
  whole_is =
      let t = k.has_tag tagged in
      let o = m.around in
      let same : final_content (level_at m (held_of b q)) ≡ content =
      final_content-uncut (level_at m (held_of b q)) (drop_all m.first_seam q uncut) in
      let one : 1 ≤ length (drop m.at b) = omega (arith, room, fits, length-drop m.at b) in
      ap (λ c. der (under (wrappers o) (tree_of m.header c))) same ∙ der-headed o m.header content
      ∙ bare_short o (headed (own_tag (keeps_headers o) m.header) content) t.bare
      ∙ ap (λ keeps. headed (own_tag keeps m.header) content) (bare_keeps o t.bare)
      ∙ headed_short (own_tag true m.header) content (drop m.at b) t.tag one (omega (arith, size, short))

  pub short_count : 2 + (length b - m.start) ≡ length whole
  short_count =
      let one : length (take 1 (drop m.at b)) ≡ 1 =
      length-take-le 1 (drop m.at b) (omega (arith, room, fits, length-drop m.at b)) in
      omega (arith, ap length whole_is, length-append (take 1 (drop m.at b)) (length content ∷ content), one, size)

  -- its length, after its tag
  pub short_enclosed : held_of (set b (m.at + 1) (length b - m.start)) q ≡ enclosed m (held_of b q)
  short_enclosed =
      let i = m.at + 1 in
      let n = length b - m.start in
      let front : take i b ≡ take m.at b ++ take 1 (drop m.at b) = take-add m.at 1 b in
      let set_is : set b i n ≡ take i b ++ (n ∷ drop (i + 1) b) =
      sym (take-append-drop i (set b i n)) ∙ ap₂ (λ x y. x ++ y) (take-set b i n)
      (drop-set b i n (omega (arith, room, fits))) in
      let next : i + 1 ≡ m.start = omega (arith, room) in
      let back : n ∷ drop (i + 1) b ≡ length content ∷ content = ap₂ (λ x y. x ∷ drop y b) (sym size) next in
      let bytes : set b i n ≡ take m.at b ++ whole =
      set_is ∙ ap₂ (λ x y. x ++ y) front back
      ∙ append_assoc (take m.at b) (take 1 (drop m.at b)) (length content ∷ content)
      ∙ ap (λ x. take m.at b ++ x) (sym whole_is) in
      ap₂ held_of bytes (sym (take_all m.first_seam q uncut))

-- Any level, whose content is in order.
pub ok_then : {A E P Q : Type 0} (r : Result A E) → (P → Q) → OnOk r P → OnOk r Q
ok_then (Ok v) f h = f h
ok_then (Err e) f h = tt

-- with its content in place of what is there
pub arranged_bytes : (m : Mark) (h : Held) (a c : List ℕ) → IsMark m h → a ≡ take m.start h.bytes ++ c
    → (take m.at a ≡ take m.at h.bytes) × (drop m.start a ≡ c)
arranged_bytes m h a c k e =
    let size : length (take m.start h.bytes) ≡ m.start = length-take-le m.start h.bytes (within k) in (
      ap (take m.at) e ∙ take-append-le m.at (take m.start h.bytes) c (omega (arith, size, k.room))
          ∙ take-take m.at m.start h.bytes k.room,
      ap (drop m.start) e ∙ ap (λ n. drop n (take m.start h.bytes ++ c)) (sym size)
          ∙ drop-append_seam (take m.start h.bytes) c,
    )

pub enclosed_stack : (m : Mark) (h : Held) (a u s : List ℕ) (p r : Place) (n f : ℕ) (w : Wrapper) (inside : Option Held)
    → IsMark m h → (take m.at a ≡ take m.at h.bytes) × (drop m.start a ≡ final_content (level_at m h))
    → u ≡ take m.at a ++ der (under (wrappers m.around) (tree_of m.header (drop m.start a)))
    → s ≡ take m.first_seam h.seams → r ≡ p → inside_at p n f h ≡ inside → inside ≡ outside m h
    → pending_at p h ≡ Some h
    → ◌≡◌ {A = Stack}
    (record {
      inside = inside_at r m.at m.first_seam (held_of u s);
      pending = pending_at r (held_of u s);
      around = around_at r w;
    })
    (record { inside = inside; pending = Some (enclosed m h); around = [] })
enclosed_stack m h a u s p r n f w inside k parts bytes seams place was outer opened =
    let whole : u ≡ (enclosed m h).bytes =
    bytes ∙ ap₂ (λ x y. x ++ der (under (wrappers m.around) (tree_of m.header y))) parts.0 parts.1 in
    let same : held_of u s ≡ enclosed m h = ap₂ held_of whole seams in
    ap₂ (λ v x. stack_of (inside_at v m.at m.first_seam x) (pending_at v x) (around_at v w)) place same
    ∙ changed_stack m h k (der (under (wrappers m.around) (tree_of m.header (final_content (level_at m h))))) p n f w
    inside was outer opened
