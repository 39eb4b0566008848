-- The order of the members of a set that is read (X.690, 11.6).
use Rattle.std.specs.Prelude.{◌≡◌, ◌≢◌, ℕ, Bool, true, false, List, [], ◌∷◌, ◌==◌}
use Rattle.std.specs.Prelude.{Option, None, Some, option_map, ⊤, if◌then◌else◌}
use Rattle.picky_der_core.specs.declared.error.Asn1DerError.{Asn1DerError}
use Rattle.picky_der_core.specs.declared.error.Asn1DerError.TheVariants.{InvalidData, OutOfMemory}
use Rattle.picky_der_core.specs.Order.{is_less, IsAscending}
use Rattle.picky_der_de.specs.State.{State}
use Rattle.picky_der_de.specs.Steps.{Fails, failed_with}

-- before the first member of a list with this tag: of a set no bytes, than which nothing is less
abbrev pub order_of : ℕ → Option (List ℕ)
order_of tag = if tag == 0x31 then Some [] else None

-- the known bytes
abbrev pub known_bytes : Option (List ℕ) → List ℕ
known_bytes None = []
known_bytes (Some bytes) = bytes

-- ---- members

-- whether an encoding is less than the last one, where the order is tested
abbrev pub is_out_of_order : Option (List ℕ) → List ℕ → Bool
is_out_of_order None member = false
is_out_of_order (Some last) member = is_less member last

-- the last one after a member with this encoding
abbrev pub with_last : Option (List ℕ) → List ℕ → Option (List ℕ)
with_last l member = option_map (λ last. member) l

-- these encodings are in order after the last one, where the order is tested
abbrev pub AreInOrder : Option (List ℕ) → List (List ℕ) → Type 0
AreInOrder None members = ⊤
AreInOrder (Some last) members = IsAscending (last ∷ members)

-- the same, but no order is tested
abbrev pub without_order : State → State
without_order s = record s { last = None }

-- a member with this encoding may come next, and is the last one from here on
pub record Follows (member : List ℕ) (old new : State) : Type 0 where
  pub in_order : is_out_of_order old.last member ≡ false
  pub same : new ≡ record old { last = with_last old.last member }

-- it has failed with this error, and nothing else changed; of the last member nothing is said
abbrev pub HasFailedWith : State → Asn1DerError → State → Type 0
HasFailedWith old e new = new ≡ record (failed_with old e) { last = new.last }

-- it is less than the last one, and the deserializer has failed
pub record RefusesOrder (member : List ℕ) (old new : State) (e : Asn1DerError) : Type 0 where
  pub fails : Fails old new e
  pub less : is_out_of_order old.last member ≡ true
  pub error : e ≡ InvalidData
  pub same : HasFailedWith old e new

-- why it doesn't come next: it is less than the last one, or the allocation for that test failed
pub data RefusesTest (member : List ℕ) (old new : State) (e : Asn1DerError) : Type 0 where
  out_of_order : RefusesOrder member old new e → RefusesTest member old new e
  without_memory : old.last ≢ None → Fails old new e → e ≡ OutOfMemory → HasFailedWith old e new
      → RefusesTest member old new e
