-- What a mark says of a level, where the bytes that are held are known.
use Rattle.std.specs.Prelude.{◌≡◌, ℕ, ◌+◌, ◌≤◌, Bool, true, false, List, [], ◌∷◌, ◌++◌, length, take, drop, Option}
use Rattle.std.specs.Prelude.{None}
use Rattle.std.specs.Prelude.{Some}
use Rattle.std.specs.Option.{is_some}
use Rattle.picky_der_ser.specs.declared.header.Header.{Header}
use Rattle.picky_der_core.specs.declared.asn1.wrapper.Wrapper.{Wrapper}
use Rattle.picky_der_core.specs.Encoding.{der}
use Rattle.picky_der_core.specs.OpenWrappers.{under}
use Rattle.picky_der_ser.specs.declared.levels.Mark.{Mark}
use Rattle.picky_der_ser.specs.declared.levels.Place.{Place}
use Rattle.picky_der_ser.specs.declared.levels.Place.TheVariants.{Member, WrappedMember, OpenMember, Sink, WrappedSink}
use Rattle.picky_der_ser.specs.declared.levels.Place.TheVariants.{OpenSink}
use Rattle.picky_der_ser.specs.Headers.{tree_of, is_set, wrappers, own_tag, HasNumber, CanAllBeOpen}
use Rattle.picky_der_ser.specs.Seams.{AreSeams, last_seam}
use Rattle.picky_der_ser.specs.State.{Level, Held, extended, Stack, State, Writing, at_next_member, final_content}

-- the level of a mark, which is the innermost one
abbrev pub level_at : Mark → Held → Level
level_at m h = record {
  header = m.header;
  around = wrappers m.around;
  content = drop m.start h.bytes;
  seams = drop m.first_seam h.seams;
}

abbrev pub held_of : List ℕ → List ℕ → Held
held_of bytes seams = record { bytes = bytes; seams = seams }

-- so many of the first bytes and seams
abbrev pub first : ℕ → ℕ → Held → Held
first bytes seams h = record { bytes = take bytes h.bytes; seams = take seams h.seams }

-- ---- the places where the next value goes

-- what is held before it; so many bytes and seams stay of a level that it replaces
abbrev pub inside_at : Place → ℕ → ℕ → Held → Option Held
inside_at Member bytes seams h = Some h
inside_at WrappedMember bytes seams h = Some h
inside_at OpenMember bytes seams h = Some (first bytes seams h)
inside_at Sink bytes seams h = None
inside_at WrappedSink bytes seams h = None
inside_at OpenSink bytes seams h = None

-- the same with that level
abbrev pub pending_at : Place → Held → Option Held
pending_at Member h = None
pending_at WrappedMember h = None
pending_at OpenMember h = Some h
pending_at Sink h = None
pending_at WrappedSink h = None
pending_at OpenSink h = Some h

abbrev pub around_at : Place → Wrapper → List Wrapper
around_at Member w = []
around_at WrappedMember w = w ∷ []
around_at OpenMember w = []
around_at Sink w = []
around_at WrappedSink w = w ∷ []
around_at OpenSink w = []

-- a level was opened there
abbrev pub is_open : Place → Bool
is_open Member = false
is_open WrappedMember = false
is_open OpenMember = true
is_open Sink = false
is_open WrappedSink = false
is_open OpenSink = true

-- it is in a level
abbrev pub is_inside : Place → Bool
is_inside Member = true
is_inside WrappedMember = true
is_inside OpenMember = true
is_inside Sink = false
is_inside WrappedSink = false
is_inside OpenSink = false

-- ---- marks

abbrev pub tags : Option ℕ → List ℕ
tags None = []
tags (Some tag) = tag ∷ []

-- what is held around the level
abbrev pub outside : Mark → Held → Option Held
outside m h = inside_at m.place m.at m.first_seam h

-- it is in another level and in no wrapper, and its tag is there, before a byte for the length
pub record HasTag (m : Mark) (h : Held) : Type 0 where
  pub inside : is_inside m.place ≡ true
  pub bare : is_some m.around ≡ false
  pub room : m.start ≡ m.at + 2
  pub tag : tags (own_tag true m.header) ≡ take 1 (drop m.at h.bytes)

-- the room for the headers is before the content, and its members begin in it
pub record IsMark (m : Mark) (h : Held) : Type 0 where
  pub opened : is_open m.place ≡ true
  pub numbers : CanAllBeOpen (wrappers m.around)
  pub number : HasNumber m.header
  pub room : m.at ≤ m.start
  pub within_seams : m.first_seam ≤ length h.seams
  pub within : m.start + last_seam 0 (drop m.first_seam h.seams) ≤ length h.bytes
  pub ascending : AreSeams 0 (drop m.first_seam h.seams)
  pub ready : m.is_ready ≡ true → is_set m.header ≡ false
  pub has_tag : m.has_tag ≡ true → HasTag m h

-- it is that of the level that was opened last
abbrev pub IsOpen : Mark → Option Held → Option Held → Type 0
IsOpen m inside None = ⊥
IsOpen m inside (Some h) = IsMark m h × (inside ≡ outside m h)

-- a member of its level is being written
abbrev pub IsEntered : Mark → Option Held → Type 0
IsEntered m None = ⊥
IsEntered m (Some h) = IsMark m h

-- ---- what becomes of levels

-- a level was opened under this header
pub record Opens (header : Header) (old : Stack) (m : Mark) (new : Stack) : Type 0 where
  pub held : Held
  pub is : new ≡ record { inside = old.inside; pending = Some held; around = [] }
  pub outer : old.inside ≡ outside m held
  pub mark : IsMark m held
  pub level : level_at m held ≡ record { header = header; around = old.around; content = []; seams = [] }

-- another member of the level is being written from here on
pub record Enters (m : Mark) (old : Stack) (n : Mark) (new : Stack) : Type 0 where
  pub before : Held
  pub was : old.pending ≡ Some before
  pub held : Held
  pub is : new ≡ record { inside = Some held; pending = None; around = [] }
  pub outer : old.inside ≡ outside n held
  pub mark : IsMark n held
  pub level : level_at n held ≡ at_next_member (level_at m before)

-- once its level has its headers, and a set is in order
abbrev pub enclosed : Mark → Held → Held
enclosed m h = record {
  bytes = take m.at h.bytes ++ der (under (wrappers m.around) (tree_of m.header (final_content (level_at m h))));
  seams = take m.first_seam h.seams;
}

-- the bytes that are added to what is held
pub record Gains (bs : List ℕ) (old new : Stack) : Type 0 where
  pub held : Held
  pub was : old ≡ record { inside = Some held; pending = None; around = [] }
  pub is : new ≡ record { inside = Some (extended held bs); pending = None; around = [] }

-- ---- a sequence

abbrev pub level_in : Mark → Option Held → Level
level_in m None = level_at m (record { bytes = []; seams = [] })
level_in m (Some h) = level_at m h

-- the level of this mark is being written with a serializer
abbrev pub writing : {W : Type 0} → Mark → State W → Writing W
writing m s = record { sink = s.sink; failed = s.failed; inside = s.inside; level = level_in m s.pending }
