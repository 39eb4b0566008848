-- An I/O error of a writer, and the error that it becomes.
use Rattle.std.proofs.Common.{◌≡◌, ◌≤◌, ℕ, suc, Result, Ok, Err, OnOk, IfErr, subst, arith}
use Rattle.std.specs.declared.io.ErrorKind.{ErrorKind}
use Rattle.picky_der_core.specs.declared.error.Asn1DerError.{Asn1DerError}
use Rattle.picky_der_core.specs.declared.misc.writer.WriteExt.{Ghosts}
use Rattle.picky_der_core.specs.Error.{error_of_kind}

-- the later of two counts of I/O errors is the same or one more
abbrev pub IsOnceAtMost : ℕ → ℕ → Type 0
IsOnceAtMost old new = (old ≤ new) × (new ≤ suc old)

module _ {W : Type 0} (g : Ghosts W) where
  -- the writer failed once, and e says how
  pub record WriterFails (old : W) (e : Asn1DerError) (new : W) : Type 0 where
    pub rose : g.faults new ≡ suc (g.faults old)
    pub kind : ErrorKind
    pub answered : g.answers kind
    pub is : e ≡ error_of_kind kind

  -- it failed once since an earlier state too, if it didn't fail between
  pub fails_since : (old mid new : W) (e : Asn1DerError) → g.faults mid ≡ g.faults old → WriterFails mid e new
      → WriterFails old e new
  fails_since old mid new e same f = record {
    rose = subst (λ n. g.faults new ≡ suc n) same f.rose;
    kind =
        f.kind;
    answered = f.answered;
    is = f.is;
  }

  -- a result that reports each I/O error
  pub once_at_most : {A : Type 0} (old new : W) (r : Result A Asn1DerError) → OnOk r (g.faults new ≡ g.faults old)
      → IfErr r (λ e. WriterFails old e new) → IsOnceAtMost (g.faults old) (g.faults new)
  once_at_most old new (Ok v) same f = (omega (arith, same), omega (arith, same))
  once_at_most old new (Err e) same f = (omega (arith, f.rose), omega (arith, f.rose))
