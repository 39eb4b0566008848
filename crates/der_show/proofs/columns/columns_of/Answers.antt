use Rattle.std.proofs.Common.{◌≡◌, IfOk, string_bytes, ℕ, List, [], ◌∷◌, ◌++◌, append_assoc}
use Rattle.der_show.specs.Lines.{columns_text, front_text}
use Rattle.der_show.proofs.Padding.{padded_right, padded_left}
use Rattle.der_show.proofs.columns.columns_of.Goals as goal

pub returns : goal.returns
returns c =
    let h = rw (c.laid_out.ensures, c.laid_out-2.ensures, c.laid_out-3.ensures, c.laid_out-4.ensures) at
    c.format.ensures.ok in
    let k = simp (padded_right, padded_left, append_assoc) at h in
    simp append_assoc k
