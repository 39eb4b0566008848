use Rattle.std.proofs.Common.{◌≡◌, ℕ, refl, sym, ap, true≢false}
use Rattle.std.specs.Cmp.{unsigned_Decides}
use Rattle.picky_der_core.specs.declared.asn1.newtype.Newtype.TheVariants as newtype
use Rattle.picky_der_core.specs.declared.asn1.wrapper.Wrapper.TheVariants as wrapper
use Rattle.picky_der_core.proofs.laws.equality.newtypes.Goals as goal

-- two of one kind are equal exactly if their numbers are
numbered : {T Test : Type 0} (kind : ℕ → T) (n k : ℕ) → (Test → n ≡ k) × (n ≡ k → Test) → (kind n ≡ kind k → n ≡ k)
    → (Test → kind n ≡ kind k) × (kind n ≡ kind k → Test)
numbered kind n k decides same = (λ h. ap kind (decides.0 h), λ e. decides.1 (same e))

pub returns-clause-newtype : goal.returns-clause-newtype
returns-clause-newtype c newtype.Plain newtype.Plain = (λ h. refl, λ e. refl)
returns-clause-newtype c newtype.OctetContainer newtype.OctetContainer = (λ h. refl, λ e. refl)
returns-clause-newtype c newtype.BitContainer newtype.BitContainer = (λ h. refl, λ e. refl)
returns-clause-newtype c (newtype.Explicit n) (newtype.Explicit k) =
    numbered newtype.Explicit n k (unsigned_Decides n k) (λ e. cc)
returns-clause-newtype c (newtype.Implicit n) (newtype.Implicit k) =
    numbered newtype.Implicit n k (unsigned_Decides n k) (λ e. cc)
returns-clause-newtype c _ _ = (λ h. absurd (true≢false (sym h)), λ e. cc)

pub returns-clause-wrapper : goal.returns-clause-wrapper
returns-clause-wrapper c wrapper.OctetContainer wrapper.OctetContainer = (λ h. refl, λ e. refl)
returns-clause-wrapper c wrapper.BitContainer wrapper.BitContainer = (λ h. refl, λ e. refl)
returns-clause-wrapper c (wrapper.Explicit n) (wrapper.Explicit k) =
    numbered wrapper.Explicit n k (unsigned_Decides n k) (λ e. cc)
returns-clause-wrapper c (wrapper.Implicit n) (wrapper.Implicit k) =
    numbered wrapper.Implicit n k (unsigned_Decides n k) (λ e. cc)
returns-clause-wrapper c (wrapper.Application n) (wrapper.Application k) =
    numbered wrapper.Application n k (unsigned_Decides n k) (λ e. cc)
returns-clause-wrapper c (wrapper.ImplicitList n) (wrapper.ImplicitList k) =
    numbered wrapper.ImplicitList n k (unsigned_Decides n k) (λ e. cc)
returns-clause-wrapper c _ _ = (λ h. absurd (true≢false (sym h)), λ e. cc)
