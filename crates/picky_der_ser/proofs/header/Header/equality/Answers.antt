use Rattle.std.proofs.Common.{◌≡◌, refl, sym, ap, true≢false}
use Rattle.std.specs.Cmp.{unsigned_Decides}
use Rattle.picky_der_ser.specs.declared.header.Header.TheVariants as header
use Rattle.picky_der_ser.proofs.header.Header.equality.Goals as goal

pub returns : goal.returns
returns c (header.Tagged n) (header.Tagged k) = (
  λ h. ap header.Tagged ((unsigned_Decides n k).0 h),
  λ e. let same : n ≡ k = cc in (unsigned_Decides n k).1 same,
)
returns c (header.Application n) (header.Application k) = (
  λ h. ap header.Application ((unsigned_Decides n k).0 h),
  λ e. let same : n ≡ k = cc in (unsigned_Decides n k).1 same,
)
returns c header.Raw header.Raw = (λ h. refl, λ e. refl)
returns c _ _ = (λ h. absurd (true≢false (sym h)), λ e. cc)
