-- What contracts see of a vector as a sink.
use Rattle.std.proofs.Common.{◌≡◌, ℕ, ◌≤◌, MutBor, Vec, Global, List, take, drop}
use Rattle.picky_der_core.specs.Faults.{count_of}
use Rattle.picky_der_core.specs.declared.misc.buf_sink.BufSink.{BufSink}

-- the vector that is written to
abbrev pub vector_of : BufSink → MutBor (Vec ℕ Global)
vector_of s = s.buf

-- how many bytes were written
abbrev pub position_of : BufSink → ℕ
position_of s = s.at

-- the bytes that were written
abbrev pub written_of : BufSink → List ℕ
written_of s = take (position_of s) (vector_of s).now.items

-- how often an allocation failed
abbrev pub faults_of : BufSink → ℕ
faults_of s = count_of s.faults

-- it writes to the same vector, and what lies past its bytes stays
abbrev pub IsLater : BufSink → BufSink → Type 0
IsLater s t =
    ((vector_of t).ghost_name ≡ (vector_of s).ghost_name) × (position_of s ≤ position_of t)
    × (drop (position_of t) (vector_of t).now.items ≡ drop (position_of t) (vector_of s).now.items)
