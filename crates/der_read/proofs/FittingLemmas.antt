-- The types of which bytes are a message, found one after another.
use Rattle.std.proofs.Common.{◌≡◌, ℕ, suc, ◌+◌, ◌<◌, true, false, Option, Some, None, is_some, List, [], ◌∷◌, ◌++◌}
use Rattle.std.proofs.Common.{length, get_or, drop, append_assoc, append-nil, add-one, drop-cons, subst, sym, ap, ◌∙◌}
use Rattle.der_read.specs.declared.message_type.MessageType.{MessageType}
use Rattle.picky_der_de.specs.declared.whole_input.DecodeError.{DecodeError}
use Rattle.der_read.specs.contracts.message_type.MessageTypeDescribed.TheImpl as known
use Rattle.der_read.specs.Described.{Description}
use Rattle.der_read.specs.Message.{IsMessageOf, IsRefusalOf}
use Rattle.der_read.specs.Fitting.{IsMessage, AreFitting, none, fits, differs}

-- with what is found of the types from a place on, these are all that fit
abbrev pub ComesTo : List ℕ → List MessageType → ℕ → List MessageType → Type 0
ComesTo bytes tried i found = (more : List MessageType) → AreFitting bytes (drop i tried) more
    → AreFitting bytes tried (found ++ more)

module _ (bytes : List ℕ) (tried : List MessageType) (i : ℕ) (type : MessageType) (inside : i < length tried) (is : type
    ≡ get_or tried i type) where
  front : drop i tried ≡ type ∷ drop (i + 1) tried
  front = drop-cons tried i type inside ∙ ap (λ t. t ∷ drop (suc i) tried) (sym is)
      ∙ ap (λ n. type ∷ drop n tried) (sym (add-one i))

  pub one_fits : (found : List MessageType) → IsMessage type bytes → ComesTo bytes tried i found
      → ComesTo bytes tried (i + 1) (found ++ type ∷ [])
  one_fits found message h = λ more rest.
      let here : AreFitting bytes (drop i tried) (type ∷ more) =
      subst (λ l. AreFitting bytes l (type ∷ more)) (sym front) (fits type _ _ message rest) in
      subst (λ l. AreFitting bytes tried l) (sym (append_assoc found (type ∷ []) more)) (h (type ∷ more) here)

  pub one_differs : (found : List MessageType) → (IsMessage type bytes → ⊥) → ComesTo bytes tried i found
      → ComesTo bytes tried (i + 1) found
  one_differs found other h =
      λ more rest. h more (subst (λ l. AreFitting bytes l more) (sym front) (differs type _ _ other rest))

-- at the end
pub all_found : (bytes : List ℕ) (tried : List MessageType) (i : ℕ) (found : List MessageType) → drop i tried ≡ []
    → ComesTo bytes tried i found → AreFitting bytes tried found
all_found bytes tried i found ended h =
    subst (λ l. AreFitting bytes tried l) (append-nil found)
    (h [] (subst (λ l. AreFitting bytes l []) (sym ended) none))

-- ---- by a refusal that is there or isn't

pub message_if_none : (d : Description) (bytes : List ℕ) (r : Option DecodeError) → is_some r ≡ false
    → IsRefusalOf d bytes r → IsMessageOf d bytes
message_if_none d bytes None e h = h
message_if_none d bytes (Some refusal) e h = cc

pub other_if_some : (d : Description) (bytes : List ℕ) (r : Option DecodeError) → is_some r ≡ true
    → IsRefusalOf d bytes r → IsMessageOf d bytes → ⊥
other_if_some d bytes None e h = cc
other_if_some d bytes (Some refusal) e h = h.none

-- ---- one more is tried

module _ (bytes : List ℕ) (tried : List MessageType) (i : ℕ) (found new : List MessageType) (type : MessageType)
    (r : Option DecodeError) where
  pub step_fits : new ≡ found ++ type ∷ [] → i < length tried → type ≡ get_or tried i type → is_some r ≡ false
      → IsRefusalOf (known.ghosts.description type) bytes r → ComesTo bytes tried i found
      → ComesTo bytes tried (i + 1) new
  step_fits more inside is empty refusal h =
      subst (ComesTo bytes tried (i + 1)) (sym more)
      (one_fits bytes tried i type inside is found
      (message_if_none (known.ghosts.description type) bytes r empty refusal) h)

  pub step_differs : new ≡ found → i < length tried → type ≡ get_or tried i type → is_some r ≡ true
      → IsRefusalOf (known.ghosts.description type) bytes r → ComesTo bytes tried i found
      → ComesTo bytes tried (i + 1) new
  step_differs same inside is other refusal h =
      subst (ComesTo bytes tried (i + 1)) (sym same)
      (one_differs bytes tried i type inside is found
      (other_if_some (known.ghosts.description type) bytes r other refusal) h)
