-- What contracts see of a deserializer.
use Rattle.std.specs.Prelude.{ℕ, List, [], Option, None}
use Rattle.picky_der_core.specs.declared.failure.Failure.{Failure}
use Rattle.picky_der_core.specs.Faults.{Fault}
use Rattle.picky_der_de.specs.declared.end.End.{End}
use Rattle.picky_der_de.specs.declared.end.End.TheVariants.{Limit}

pub record State : Type 0 where
  -- the known bytes that are left in the reader, with a peeked byte in front
  pub input : Option (List ℕ)
  -- the byte that was peeked
  pub peeked : Option ℕ
  -- how many bytes were consumed, a peeked one not counted
  pub consumed : ℕ
  -- this many bytes may be consumed in all
  pub limit : ℕ
  -- how far ahead the innermost end is, and what it is
  pub until_end : ℕ
  pub end : End
  -- of a set whose members are read one by one: the encoding of the last one, and no bytes before the first one
  pub last : Option (List ℕ)
  -- the member of a set that was shown last, before it was read; where another value is read, nothing is said of it
  pub seen : List ℕ
  -- the one that was kept last, of which the same holds
  pub kept : List ℕ
  -- the number of the implicit tag directly under which it is
  pub implicit_tag : Option ℕ
  -- the kind of the error that it has failed with
  pub failed : Option Failure
  -- how the reader failed so far, the last I/O error first
  pub faults : List Fault
  -- the references that it reads through, outermost first
  pub references : List ℕ

-- a deserializer that has consumed nothing
abbrev pub fresh : Option (List ℕ) → ℕ → List Fault → List ℕ → State
fresh input limit faults references = record {
  input = input;
  peeked = None;
  consumed = 0;
  limit = limit;
  until_end = limit;
  end = Limit;
  last = None;
  seen = [];
  kept = [];
  implicit_tag = None;
  failed = None;
  faults = faults;
  references = references;
}
