-- The ways in which a run ends with an error.
use Rattle.std.proofs.Common.{◌≡◌, ℕ, ◌-◌, ◌^◌, ◌<◌, List, [], ◌∷◌, ◌++◌, length, Option, refl, sym, ap, subst, ◌∙◌}
use Rattle.std.specs.Io.KnownBytes.{Consumes, Keeps, IsAtEnd}
use Rattle.std.specs.declared.io.ErrorKind.{ErrorKind}
use Rattle.picky_der_core.specs.declared.error.Asn1DerError.{Asn1DerError}
use Rattle.picky_der_core.specs.declared.error.Asn1DerError.TheVariants.{UnsupportedValue, OutOfMemory}
use Rattle.picky_der_core.specs.declared.misc.writer.WriteExt.{Ghosts}
use Rattle.picky_der_core.specs.Error.{error_of_kind}
use Rattle.picky_der_core.specs.Faults.{Fault}
use Rattle.picky_der_core.specs.Reader.{ReportsFault}
use Rattle.picky_der_core.specs.WriterFaults.{fails_since}
use Rattle.der_program_base.specs.Text.{IsLine}
use Rattle.der_program_base.specs.Run.{StopsLine, no_memory, no_sink, not_ended, just_ended, WroteWhole, Stops, memory}
use Rattle.der_program_base.specs.Run.{reader, writer, too_long}
use Rattle.der_program_base.proofs.RunSteps.{RunsOn, reads_byte, reads_nothing, begins, begins_last, too_many}

-- the reader failed once since then
pub fault_reported : {before between after : List Fault} {left : Option (List ℕ)} {e : Asn1DerError} {k : ErrorKind}
    → between ≡ before → after ≡ record { kind = k; left = left } ∷ between → e ≡ error_of_kind k
    → ReportsFault before after left e
fault_reported {left = left} {k = k} kept once is =
    ReportsFault.fault k (once ∙ ap (λ l. record { kind = k; left = left } ∷ l) kept) is

module _ {IsAnswer : List ℕ → List ℕ → Type 0} {W : Type 0} (g : Ghosts W) {a b : Option (List ℕ)} {w v : W}
    {line : List ℕ} {count : ℕ} (h : RunsOn IsAnswer a b (g.written w) (g.written v) line count) (i j : List Fault)
  where
    -- the reader failed
    pub reader_stops : (b' : Option (List ℕ)) (e : Asn1DerError) (k : ErrorKind) → Keeps b b' → {m : List Fault} → m ≡ i
        → j ≡ record { kind = k; left = b' } ∷ m → e ≡ error_of_kind k → Stops IsAnswer g a b' i j w v e
    reader_stops b' e k same kept once is =
        reader (record { kind = k; once = once ∙ ap (λ l. record { kind = k; left = b' } ∷ l) kept; is = is }) line
        h.is_line (reads_nothing h b' same)

    -- an allocation failed for a byte of the line
    pub byte_stops : (b' : Option (List ℕ)) (x : ℕ) → Consumes b b' (x ∷ []) → IsLine (line ++ (x ∷ []))
        → Stops IsAnswer g a b' i j w v OutOfMemory
    byte_stops b' x k is_line = memory refl _ (not_ended is_line) (reads_byte h b' x k)

    -- the answer to the line that was ended wasn't written
    pub line_stops : (b' : Option (List ℕ)) (v' : W) (e : Asn1DerError) → Consumes b b' (0x0A ∷ [])
        → g.faults v ≡ g.faults w → StopsLine IsAnswer g line v v' e → Stops IsAnswer g a b' i j w v' e
    line_stops b' v' e k same (no_memory is kept) =
        memory is _ (just_ended line h.is_line refl)
        (subst (λ o. WroteWhole IsAnswer a b' (g.written w) (g.written o) (line ++ (0x0A ∷ []))) (sym kept)
        (reads_byte h b' 0x0A k))
    line_stops b' v' e k same (no_sink f answer is begun) =
        writer (fails_since g w v v' e same f) (begins h b' (g.written v') k answer is begun)

    -- the answer to the last line, which had no end, wasn't written
    pub last_stops : (b' : Option (List ℕ)) (v' : W) (e : Asn1DerError) → Keeps b b' → IsAtEnd b' → 0 < length line
        → g.faults v ≡ g.faults w → StopsLine IsAnswer g line v v' e → Stops IsAnswer g a b' i j w v' e
    last_stops b' v' e k end some same (no_memory is kept) =
        memory is _ (not_ended h.is_line) (subst (λ o. WroteWhole IsAnswer a b' (g.written w) (g.written o) line)
        (sym kept) (reads_nothing h b' k))
    last_stops b' v' e k end some same (no_sink f answer is begun) =
        writer (fails_since g w v v' e same f) (begins_last h b' (g.written v') k end some answer is begun)

    -- the input goes on past the limit
    pub limit_stops : count ≡ 2 ^ 64 - 1 → Stops IsAnswer g a b i j w v UnsupportedValue
    limit_stops all = too_long refl (too_many h all) line h.is_line h.whole
