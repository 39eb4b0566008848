-- What contracts see of a slice as a sink.
use Rattle.std.proofs.Common.{◌≡◌, ℕ, ◌-◌, ◌<◌, ◌≤◌, MutBor, List, ◌++◌, length, take, drop}
use Rattle.picky_der_core.specs.Faults.{count_of}
use Rattle.picky_der_core.specs.declared.misc.slice_sink.SliceSink.{SliceSink}

-- the slice that is filled
abbrev pub slice_of : SliceSink → MutBor (List ℕ)
slice_of s = s.buf

-- how many bytes were written
abbrev pub filled_of : SliceSink → ℕ
filled_of s = s.at

-- how many more there is room for
abbrev pub room_of : SliceSink → ℕ
room_of s = length (slice_of s).now - filled_of s

-- the bytes that were written
abbrev pub written_of : SliceSink → List ℕ
written_of s = take (filled_of s) (slice_of s).now

-- how often a write was cut short
abbrev pub faults_of : SliceSink → ℕ
faults_of s = count_of s.faults

-- it fills the same slice, of the same length, and what lies past its bytes stays
abbrev pub IsLater : SliceSink → SliceSink → Type 0
IsLater s t =
    ((slice_of t).ghost_name ≡ (slice_of s).ghost_name)
    × (length (slice_of t).now ≡ length (slice_of s).now)
    × (filled_of s ≤ filled_of t)
    × (drop (filled_of t) (slice_of t).now ≡ drop (filled_of t) (slice_of s).now)

pub is_within : (s : SliceSink) → filled_of s ≤ length (slice_of s).now
is_within s = s.within

-- only the end of the slice cuts a write short
pub is_full : (s : SliceSink) → 0 < faults_of s → filled_of s ≡ length (slice_of s).now
is_full s = s.full

-- a slice holds a beginning of these bytes, and after it what was there before
pub record HoldsBeginning (old new bs : List ℕ) : Type 0 where
  pub front : List ℕ
  pub rest : List ℕ
  pub is : bs ≡ front ++ rest
  pub fits : length front ≤ length old
  pub holds : new ≡ front ++ drop (length front) old
