-- What reading and writing a length does.
use Rattle.std.specs.Prelude.{◌≡◌, ℕ, ◌+◌, ◌<◌, ◌≤◌, List, Option, Some, None, Ok, Err, ⊤}
use Rattle.picky_der_core.specs.declared.error.Asn1DerError.{Asn1DerError}
use Rattle.picky_der_core.specs.declared.error.Asn1DerError.TheVariants.{InvalidData, UnsupportedValue, Other}
use Rattle.picky_der_core.specs.declared.error.Asn1DerError.TheVariants.{OutOfMemory}
use Rattle.picky_der_core.specs.Refusal.{ReadOutcome}

-- known bytes were read as the outcome says, and what it leaves is left
abbrev pub IsReadAs : {A : Type 0} → (List ℕ → ReadOutcome A) → Option (List ℕ) → Option (List ℕ) → A → Type 0
IsReadAs read None new a = ⊤
IsReadAs read (Some bs) None a = ⊥
IsReadAs read (Some bs) (Some left) a = read bs ≡ Ok (a, left)

-- known bytes were refused as the outcome says, and what it leaves is left
abbrev pub IsRefusedAs : {A : Type 0} → (List ℕ → ReadOutcome A) → Option (List ℕ) → Option (List ℕ) → Asn1DerError
    → Type 0
IsRefusedAs read None new e = ⊤
IsRefusedAs read (Some bs) None e = ⊥
IsRefusedAs read (Some bs) (Some left) e = read bs ≡ Err (e, left)

-- an error that only a reader gives where nothing is allocated
abbrev pub IsOfDevice : Asn1DerError → Type 0
IsOfDevice (Other kind) = ⊤
IsOfDevice OutOfMemory = ⊤
IsOfDevice _ = ⊥

-- ---- the first byte of the long form

pub record IsLongCount (first count : ℕ) : Type 0 where
  pub is : first ≡ 0x80 + count
  pub some : 0 < count
  pub most : count ≤ 8

pub data IsNoLongCount (first : ℕ) (e : Asn1DerError) : Type 0 where
  none : first ≡ 0x80 → e ≡ InvalidData → IsNoLongCount first e
  too_many : 0x88 < first → e ≡ UnsupportedValue → IsNoLongCount first e
