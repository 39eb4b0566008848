use Rattle.std.proofs.Common.{◌≡◌, refl, sym, ap, true≢false, Some, None}
use Rattle.std.specs.Cmp.Lexicographic.{bytes_decides}
use Rattle.std.specs.contracts.io.ErrorKind.{the_type}
use denote.Enum.Bare.{same_true, true_same}
use Rattle.picky_der_core.specs.declared.error.Asn1DerError.TheVariants as error
use Rattle.picky_der_core.specs.declared.failure.Failure.TheVariants as failure
use Rattle.picky_der_core.specs.Failure.{failure_of}
use Rattle.picky_der_core.proofs.laws.equality.errors.Goals as goal

pub returns-clause-error : goal.returns-clause-error
unfolding failure_of
returns-clause-error c error.TruncatedData error.TruncatedData = (λ h. refl, λ e. refl)
returns-clause-error c error.InvalidData error.InvalidData = (λ h. refl, λ e. refl)
returns-clause-error c error.UnsupportedValue error.UnsupportedValue = (λ h. refl, λ e. refl)
returns-clause-error c error.UnsupportedType error.UnsupportedType = (λ h. refl, λ e. refl)
returns-clause-error c error.InvalidSink error.InvalidSink = (λ h. refl, λ e. refl)
returns-clause-error c (error.Message a) (error.Message b) = (
  λ h. let same = (bytes_decides a.now b.now).0 h in λ i. (failure.Message, Some (same i)),
  λ e. let texts : Some a.now ≡ Some b.now = ap (λ t. t.1) e in let same : a.now ≡ b.now = cc in
      (bytes_decides a.now b.now).1 same,
)
returns-clause-error c (error.Other a) (error.Other b) = (
  λ h. let same = same_true the_type tt a b h in λ i. (failure.Other (same i), None),
  λ e. let kinds : failure.Other a ≡ failure.Other b = ap (λ t. t.0) e in let same : a ≡ b = cc in
      true_same the_type a b same,
)
returns-clause-error c error.OutOfMemory error.OutOfMemory = (λ h. refl, λ e. refl)
returns-clause-error c _ _ = (λ h. absurd (true≢false (sym h)), λ e. let kinds = ap (λ t. t.0) e in cc)

pub returns-clause-failure : goal.returns-clause-failure
returns-clause-failure c failure.TruncatedData failure.TruncatedData = (λ h. refl, λ e. refl)
returns-clause-failure c failure.InvalidData failure.InvalidData = (λ h. refl, λ e. refl)
returns-clause-failure c failure.UnsupportedValue failure.UnsupportedValue = (λ h. refl, λ e. refl)
returns-clause-failure c failure.UnsupportedType failure.UnsupportedType = (λ h. refl, λ e. refl)
returns-clause-failure c failure.InvalidSink failure.InvalidSink = (λ h. refl, λ e. refl)
returns-clause-failure c failure.Message failure.Message = (λ h. refl, λ e. refl)
returns-clause-failure c (failure.Other a) (failure.Other b) = (
  λ h. ap failure.Other (same_true the_type tt a b h),
  λ e. let same : a ≡ b = cc in true_same the_type a b same,
)
returns-clause-failure c failure.OutOfMemory failure.OutOfMemory = (λ h. refl, λ e. refl)
returns-clause-failure c _ _ = (λ h. absurd (true≢false (sym h)), λ e. cc)
