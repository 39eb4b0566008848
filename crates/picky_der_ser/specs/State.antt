-- What a serializer is to its callers.
use Rattle.std.specs.Prelude.{ℕ, List, [], ◌∷◌, ◌++◌, length, Option, None, refl}
use Rattle.std.specs.List.{concat}
use Rattle.std.specs.Coded.{Coded, code_by, coded×, coded_list, coded_option, coded_ℕ}
use Rattle.picky_der_core.specs.Order.{in_ascending_order}
use Rattle.picky_der_core.specs.declared.failure.Failure.{Failure}
use Rattle.picky_der_core.specs.contracts.failure.Failure as failure
use Rattle.picky_der_core.specs.declared.asn1.wrapper.Wrapper.{Wrapper}
use Rattle.picky_der_core.specs.contracts.asn1.wrapper.Wrapper as wrapper
use Rattle.picky_der_ser.specs.declared.header.Header.{Header}
use Rattle.picky_der_ser.specs.Seams.{cut_at_seams, next_seams}

-- a level: a sequence, set or application tag that is open
pub record Level : Type 0 where
  pub header : Header
  -- the wrappers around it, outermost first
  pub around : List Wrapper
  -- the encodings of its members so far, as they were given
  pub content : List ℕ
  -- for a set, how many bytes of the content are before each member but the first
  pub seams : List ℕ

-- a level whose innermost member grew by these bytes
abbrev pub with_bytes : Level → List ℕ → Level
with_bytes l bs = record l { content = l.content ++ bs }

-- a level of which another member begins
abbrev pub at_next_member : Level → Level
at_next_member l = record l { seams = next_seams l.header l.seams (length l.content) }

-- a level with one member more, by its encoding
abbrev pub with_member : Level → List ℕ → Level
with_member l bs = with_bytes (at_next_member l) bs

-- a level with more members, by their encodings
abbrev pub with_members : Level → List (List ℕ) → Level
with_members l [] = l
with_members l (b ∷ members) = with_members (with_member l b) members

-- what is written of a level: its content, of a set with the members in ascending order (X.690, 11.6)
abbrev pub final_content : Level → List ℕ
final_content l = concat (in_ascending_order (cut_at_seams l.seams l.content))

-- the bytes of all levels that are open, and their seams
pub record Held : Type 0 where
  pub bytes : List ℕ
  pub seams : List ℕ

abbrev pub held_code : Coded Held
held_code =
    code_by (List ℕ × List ℕ) (coded× (coded_list coded_ℕ) (coded_list coded_ℕ)) (λ h. (h.bytes, h.seams))
    (λ p. record { bytes = p.0; seams = p.1 }) (λ _. refl)

-- the same, and more bytes
abbrev pub extended : Held → List ℕ → Held
extended h bs = record h { bytes = h.bytes ++ bs }

-- What is held in memory before the next value, if a member of a level is being written; the same with the level that
-- was opened last, until that ends or another value is written; and the open wrapper.
pub record Stack : Type 0 where
  pub inside : Option Held
  pub pending : Option Held
  pub around : List Wrapper

abbrev pub stack_code : Coded Stack
stack_code =
    code_by (Option Held × (Option Held × List Wrapper))
    (coded× (coded_option held_code) (coded× (coded_option held_code) (coded_list wrapper.the_row.coded)))
    (λ s. (s.inside, (s.pending, s.around)))
    (λ p. record { inside = p.0; pending = p.1.0; around = p.1.1 })
    (λ _. refl)

pub record State (W : Type 0) : Type 0 where
  pub sink : W
  -- the open wrappers, outermost first
  pub around : List Wrapper
  -- the kind of the error that it has failed with
  pub failed : Option Failure
  -- what is held in memory, if a member of a level is being written
  pub inside : Option Held
  -- the same with the level that was opened last, until that ends or another value is written
  pub pending : Option Held

abbrev pub state_code : {W : Type 0} → Coded W → Coded (State W)
state_code {W} sink =
    code_by (W × (List Wrapper × (Option Failure × (Option Held × Option Held))))
    (coded× sink
    (coded× (coded_list wrapper.the_row.coded)
    (coded× (coded_option failure.the_row.coded) (coded× (coded_option held_code) (coded_option held_code)))))
    (λ s. (s.sink, (s.around, (s.failed, (s.inside, s.pending)))))
    (λ p. record { sink = p.0; around = p.1.0; failed = p.1.1.0; inside = p.1.1.1.0; pending = p.1.1.1.1 })
    (λ _. refl)

-- what is open
abbrev pub stack : {W : Type 0} → State W → Stack
stack s = record { inside = s.inside; pending = s.pending; around = s.around }

-- what a sequence is to its callers: its level, and the serializer that it writes to
pub record Writing (W : Type 0) : Type 0 where
  pub sink : W
  -- the kind of the error that the serializer has failed with
  pub failed : Option Failure
  -- what is held in memory around the level
  pub inside : Option Held
  pub level : Level

-- the serializer without the level, in whose wrappers it is
abbrev pub beneath : {W : Type 0} → Writing W → State W
beneath w = record { sink = w.sink; around = w.level.around; failed = w.failed; inside = w.inside; pending = None }
