-- I/O errors of a reader, as errors report them.
use Rattle.std.proofs.Common.{◌≡◌, ℕ, List, ◌∷◌, length, Option, refl, ap, ◌∙◌, arith}
use Rattle.std.specs.IoError.{error_kind}
use Rattle.std.specs.declared.io.Error.{Error}
use Rattle.picky_der_core.specs.Error.{error_of_kind}
use Rattle.picky_der_core.specs.Faults.{Fault}
use Rattle.picky_der_core.specs.Reader.{IsFaultOrEnd, fault, end, ReportsFault}

-- one more is another list
pub not_more : {A : Type 0} {x : A} {xs : List A} → x ∷ xs ≡ xs → ⊥
not_more same = let e = ap length same in omega (arith, e)

-- the end of the input is no I/O error, and any other error is exactly the I/O error
pub reports_fault : {before left : Option (List ℕ)} {first old new : List Fault} {e : Error} → old ≡ first
    → IsFaultOrEnd before left old new e → ReportsFault first new left (error_of_kind (error_kind e))
reports_fault {left = left} {e = e} since (fault once) =
    ReportsFault.fault (error_kind e) (once ∙ ap (λ l. record { kind = error_kind e; left = left } ∷ l) since) refl
reports_fault since (end stays kind none) = ReportsFault.no_fault (stays ∙ since)
