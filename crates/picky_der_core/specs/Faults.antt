-- The I/O errors of a reader.
use Rattle.std.specs.Prelude.{ℕ, List, [], ◌∷◌, length, Option, map, refl}
use Rattle.std.specs.Coded.{Coded, code_by, coded×, coded_list}
use Rattle.std.specs.declared.io.ErrorKind.{ErrorKind}
use Rattle.std.specs.contracts.io.ErrorKind as error_kind
use Rattle.picky_der_core.specs.declared.misc.faults.Faults.{Faults}
use Rattle.picky_der_core.specs.declared.misc.faults.Faults.TheVariants.{Fresh, More'}

-- an I/O error: its kind, and the bytes of the reader after it, as far as they are known
pub record Fault : Type 0 where
  pub kind : ErrorKind
  pub left : Option (List ℕ)

-- an I/O error: its kind, and the reader after it
pub record FaultOf (T : Type 0) : Type 0 where
  pub kind : ErrorKind
  pub device : T

abbrev pub fault_of_code : {T : Type 0} → Coded T → Coded (FaultOf T)
fault_of_code {T} device =
    code_by (ErrorKind × T) (coded× error_kind.the_row.coded device) (λ f. (f.kind, f.device))
    (λ p. record { kind = p.0; device = p.1 }) (λ _. refl)

-- the last first
abbrev pub faults_in : {T : Type 0} → Faults T → List (FaultOf T)
faults_in Fresh = []
faults_in (More' kind device before others) = record { kind = kind; device = device.value } ∷ faults_in others

abbrev pub count_of : {T : Type 0} → Faults T → ℕ
count_of faults = length (faults_in faults)

-- the bytes of a reader, as far as they are known, at each of its I/O errors
abbrev pub faults_reported : {T : Type 0} → (T → Option (List ℕ)) → List (FaultOf T) → List Fault
faults_reported bytes faults = map (λ f. record { kind = f.kind; left = bytes f.device }) faults

-- ---- what contracts see of a watched reader or writer

pub record WatchedState (T : Type 0) : Type 0 where
  pub inner : T
  -- how it failed so far, the last I/O error first
  pub faults : List (FaultOf T)

abbrev pub watching_code : {T : Type 0} → Coded T → Coded (WatchedState T)
watching_code {T} inner =
    code_by (T × List (FaultOf T)) (coded× inner (coded_list (fault_of_code inner))) (λ w. (w.inner, w.faults))
    (λ p. record { inner = p.0; faults = p.1 }) (λ _. refl)
