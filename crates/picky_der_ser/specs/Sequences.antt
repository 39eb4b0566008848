-- Sequences and sets that are being written, and their tags.
use Rattle.std.specs.Prelude.{◌≡◌, ℕ, ◌⊎◌, nat_eq, if◌then◌else◌, Option, IfNone}
use Rattle.picky_der_core.specs.declared.failure.Failure.{Failure}
use Rattle.picky_der_core.specs.Tree.{ListKind}
use Rattle.picky_der_ser.specs.State.{Held}
use Rattle.picky_der_ser.specs.Marks.{IsOpen}
use Rattle.picky_der_ser.specs.declared.levels.Mark.{Mark}

-- the tags that a sequence and a set have
abbrev pub IsListTag : ℕ → Type 0
IsListTag tag = (tag ≡ 0x30) ⊎ (tag ≡ 0x31)

-- the list that has this tag
abbrev pub list_kind : ℕ → ListKind
list_kind tag = if nat_eq tag 0x31 then ListKind.set else ListKind.sequence

-- unless the serializer has failed, the level of this mark is the one that was opened last
abbrev pub HasOpenLevel : Mark → Option Failure → Option Held → Option Held → Type 0
HasOpenLevel m failed inside pending = IfNone failed (IsOpen m inside pending)
