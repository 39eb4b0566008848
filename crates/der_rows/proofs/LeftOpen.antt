-- A value that leaves a sequence open after what it wrote.
use Rattle.std.proofs.Common.{arith, ◌≡◌, ◌<◌, ◌^◌, ℕ, [], ◌∷◌, length, Option, Result, Ok, Err, None, Some, IfErr}
use Rattle.std.proofs.Common.{IsErrAnd}
use Rattle.std.proofs.Common.{refl, sym, ap, ◌∙◌, subst, append-nil}
use Rattle.std.specs.Prelude.{IfNone}
use Rattle.std.specs.Io.KnownBytes.{Appends}
use Rattle.picky_der_core.specs.Primitive.{Primitive}
use Rattle.picky_der_core.specs.OpenWrappers.{under}
use Rattle.picky_der_core.specs.declared.misc.writer.WriteExt.{Ghosts}
use Rattle.picky_der_core.specs.declared.error.Asn1DerError.{Asn1DerError}
use Rattle.picky_der_core.specs.declared.error.Asn1DerError.TheVariants.{OutOfMemory}
use Rattle.picky_der_core.specs.Tree.{Tree}
use Rattle.picky_der_core.specs.Encoding.{der}
use Rattle.picky_der_core.specs.Readable.{IsWritable}
use Rattle.picky_der_core.proofs.OnLiterals.{der_on_literals}
use Rattle.picky_der_ser.specs.declared.header.Header.{Header}
use Rattle.picky_der_ser.specs.State.{State, Held, Writing}
use Rattle.picky_der_ser.specs.Calls.{AddsIn, RefusesIn, MemoryExcuse, no_memory, no_room, no_way, Writes, RefusesWrite}
use Rattle.picky_der_ser.specs.Calls.{OpensLevel, RefusesToAdd}

one : der (Tree.primitive (Primitive.unsigned 1)) ≡ 0x02 ∷ 0x01 ∷ 0x01 ∷ []
unfolding der_on_literals
one = refl

one_is_writable : IsWritable (Tree.primitive (Primitive.unsigned 1))
one_is_writable = record { numbers = refl; fits = subst (λ bs. length bs < 2 ^ 64) (sym one) (omega arith) }

-- the number 1 is refused only if an allocation fails
only_memory : {e : Asn1DerError} → MemoryExcuse (IsWritable (Tree.primitive (Primitive.unsigned 1))) e → e ≡ OutOfMemory
only_memory (no_room m) = m
only_memory (no_way m n) = absurd (n one_is_writable)

module _ {W : Type 0} (g : Ghosts W) where
  -- an allocation failed after the encoding
  refused_after : (inside now : Option Held) (t : Tree) (old mid new : W) {e : Asn1DerError} → e ≡ OutOfMemory
      → AddsIn g inside now old mid (der t) → new ≡ mid → RefusesIn g inside t old e new
  refused_after None now t old mid new none a same =
      record {
        begins = record {
          front = der t;
          rest = [];
          is = sym (append-nil (der t));
          appends =
              subst (λ s. Appends (g.written old) (g.written s) (der t)) (sym same) a.1;
        };
        excuse = no_memory none;
      }
  refused_after (Some h) now t old mid new none a same = (no_room none, same ∙ a.1)

  -- the tree was written, a sequence was begun after it, and the sequence's member was refused
  left_open : (t : Tree) (header : Header) {old mid new : State W} {lazy last : Writing W} {n : ℕ} {e : Asn1DerError}
      → Writes g t old n mid → OpensLevel g header mid lazy
      → RefusesToAdd g (Tree.primitive (Primitive.unsigned 1)) lazy e last → new.sink ≡ last.sink
      → new.failed ≡ last.failed → RefusesWrite g t old e new
  left_open t header {old} {mid} {new} {lazy} {last} {n} {e} h o r same_sink same_failed =
      let failed : lazy.failed ≡ None = ap (λ (s : Writing W). s.failed) o.opened ∙ h.not_failed in
      let sink : lazy.sink ≡ mid.sink = ap (λ (s : Writing W). s.sink) o.opened in
      let excuse : MemoryExcuse (IsWritable (Tree.primitive (Primitive.unsigned 1))) e =
      subst (λ f. IfNone f (MemoryExcuse (IsWritable (Tree.primitive (Primitive.unsigned 1))) e)) failed r.reason in
      record {
        failed = same_failed ∙ r.failed;
        again = rw h.had_not_failed tt;
        reason = rw h.had_not_failed (refused_after old.inside mid.inside (under old.around t) old.sink mid.sink
            new.sink (only_memory excuse) h.adds (same_sink ∙ r.same ∙ sink));
      }

  -- the same for the result that passes the error on
  pub left_open_at : (t : Tree) (header : Header) {T : Type 0} {old mid : State W} {lazy last : Writing W} {n : ℕ}
      {e : Asn1DerError} (new : State W) (r : Result T Asn1DerError) → IsErrAnd r (λ error. error ≡ e)
      → new.sink ≡ last.sink
      → new.failed ≡ last.failed
      → Writes g t old n mid → OpensLevel g header mid lazy
      → RefusesToAdd g (Tree.primitive (Primitive.unsigned 1)) lazy e last → IfErr r (λ e. RefusesWrite g t old e new)
  left_open_at t header new (Ok v) h sink failed w o f = absurd h
  left_open_at t header new (Err error) h sink failed w o f = rw h (left_open t header w o f sink failed)
