-- The steps of reading a length: the bytes consumed so far, and what the end of the input and the last byte mean.
use Rattle.std.proofs.Common.{◌≡◌, ◌≢◌, ℕ, ◌+◌, ◌*◌, ◌^◌, ◌<◌, ◌≤◌, List, [], ◌∷◌, ◌++◌, length, Option, Some, None}
use Rattle.std.proofs.Common.{Result, Ok, Err, IfSome, IfErr, OnErr, refl, sym, ap, ◌∙◌, arith, append-nil}
use Rattle.std.proofs.Common.{length-append}
use Rattle.std.specs.Int.Digits.{number_from_digits}
use Rattle.std.specs.Io.KnownBytes.{Consumes, Keeps, IsAtEnd}
use Rattle.std.specs.IoError.{error_kind}
use Rattle.std.specs.declared.io.Error.{Error}
use Rattle.std.proofs.KnownBytes.{Consumes-trans}
use Rattle.std.proofs.lemmas.Int.Digits.{number_push, number_lt}
use Rattle.std.proofs.Math.Nat.{pow-le-pow_right}
use Rattle.picky_der_core.specs.declared.error.Asn1DerError.{Asn1DerError}
use Rattle.picky_der_core.specs.declared.error.Asn1DerError.TheVariants.{TruncatedData, InvalidData}
use Rattle.picky_der_core.specs.Element.{length_octets, IsPrefix, AreBytes}
use Rattle.picky_der_core.specs.ElementLaws.{bytes_then}
use Rattle.picky_der_core.specs.Error.{error_of_kind}
use Rattle.picky_der_core.specs.Faults.{Fault}
use Rattle.picky_der_core.specs.Reader.{IsFaultOrEnd}
use Rattle.picky_der_core.specs.ReaderLaws.{not_more}
use Rattle.picky_der_core.specs.Refusal.{length_of}
use Rattle.picky_der_core.specs.Lengths.{IsReadAs, IsRefusedAs, IsOfDevice, IsLongCount, IsNoLongCount}
use Rattle.picky_der_core.specs.LengthLaws.{length_of-length_octets, length_of-none, length_of-too_many, length_of-cut}
use Rattle.picky_der_core.specs.LengthLaws.{length_of-longer, length_octets-number, no_length_begins}

-- ---- known bytes

-- these bytes were consumed, and determine the result whatever follows them
read_after : (a b : Option (List ℕ)) (bs : List ℕ) (n : ℕ) → Consumes a b bs
    → ((rest : List ℕ) → length_of TruncatedData (bs ++ rest) ≡ Ok (n, rest)) → IsReadAs (length_of TruncatedData) a b n
read_after None b bs n h is = tt
read_after (Some xs) None bs n h is = h
read_after (Some xs) (Some ys) bs n h is = ap (length_of TruncatedData) h ∙ is ys

refused_after : (a b : Option (List ℕ)) (bs : List ℕ) (e : Asn1DerError) → Consumes a b bs
    → ((rest : List ℕ) → length_of TruncatedData (bs ++ rest) ≡ Err (e, rest))
    → IsRefusedAs (length_of TruncatedData) a b e
refused_after None b bs e h is = tt
refused_after (Some xs) None bs e h is = h
refused_after (Some xs) (Some ys) bs e h is = ap (length_of TruncatedData) h ∙ is ys

-- the input ended after these bytes
refused_at_end : (a b c : Option (List ℕ)) (bs : List ℕ) → Consumes a b bs → IsAtEnd b → Keeps b c
    → length_of TruncatedData bs ≡ Err (TruncatedData, []) → IsRefusedAs (length_of TruncatedData) a c TruncatedData
refused_at_end None b c bs h end kept is = tt
refused_at_end (Some xs) None c bs h end kept is = absurd h
refused_at_end (Some xs) (Some ys) None bs h end kept is = kept
refused_at_end (Some xs) (Some ys) (Some zs) bs h end kept is =
    ap (length_of TruncatedData) (h ∙ ap (λ l. bs ++ l) end ∙ append-nil bs) ∙ is
    ∙ ap (λ l. Err (TruncatedData, l)) (sym (kept ∙ end))

-- no length is there
abbrev pub IsNoLength : Option (List ℕ) → Type 0
IsNoLength known = IfSome known (λ bs. (n : ℕ) → n < 2 ^ 64 → IsPrefix (length_octets n) bs → ⊥)

IsNoLength-from_refused : (a b : Option (List ℕ)) (e : Asn1DerError) → IsRefusedAs (length_of TruncatedData) a b e
    → IsNoLength a
IsNoLength-from_refused None b e h = tt
IsNoLength-from_refused (Some xs) None e h = absurd h
IsNoLength-from_refused (Some xs) (Some ys) e h = no_length_begins TruncatedData xs (e, ys) h

pub none_from_refused : (r : Result ℕ Asn1DerError) (P : Type 0) (a b : Option (List ℕ))
    → IfErr r (λ e. P → IsRefusedAs (length_of TruncatedData) a b e) → OnErr r (P → IsNoLength a)
none_from_refused (Ok n) P a b h = tt
none_from_refused (Err e) P a b h = λ p. IsNoLength-from_refused a b e (h p)

-- ---- a byte that isn't given

module _ {before left : Option (List ℕ)} {old new : List Fault} {e : Error} where
  -- it is missing, unless the reader failed
  pub refused_missing : (a c : Option (List ℕ)) (bs : List ℕ) → length_of TruncatedData bs ≡ Err (TruncatedData, [])
      → Consumes a before bs → Keeps before c → IsFaultOrEnd before left old new e → new ≡ old
      → IsRefusedAs (length_of TruncatedData) a c (error_of_kind (error_kind e))
  unfolding error_of_kind
  refused_missing a c bs is h kept (IsFaultOrEnd.fault once) same = absurd (not_more (sym once ∙ same))
  refused_missing a c bs is h kept (IsFaultOrEnd.end stays kind end) same =
      rw kind (refused_at_end a before c bs h end kept is)

  pub no_device : IsFaultOrEnd before left old new e → new ≡ old → IsOfDevice (error_of_kind (error_kind e)) → ⊥
  unfolding error_of_kind
  no_device (IsFaultOrEnd.fault once) same device = not_more (sym once ∙ same)
  no_device (IsFaultOrEnd.end stays kind end) same device = absurd (rw kind at device)

-- ---- the long form

-- the first byte gives no count
pub refused_count : (a b : Option (List ℕ)) {first : ℕ} {e : Asn1DerError} → Consumes a b (first ∷ [])
    → IsNoLongCount first e → IsRefusedAs (length_of TruncatedData) a b e
refused_count a b {first} {e} h (IsNoLongCount.none is error) =
    refused_after a b (first ∷ []) e h (λ rest. length_of-none TruncatedData first rest is
    ∙ ap (λ x. Err (x, rest)) (sym error))
refused_count a b {first} {e} h (IsNoLongCount.too_many more error) =
    refused_after a b (first ∷ []) e h (λ rest. length_of-too_many TruncatedData first rest more
    ∙ ap (λ x. Err (x, rest)) (sym error))

-- a first byte and so many length bytes were consumed, of this number
pub record ConsumesLength (old new : Option (List ℕ)) (first count number : ℕ) : Type 0 where
  pub digits : List ℕ
  pub consumed : Consumes old new (first ∷ digits)
  pub size : length digits ≡ count
  pub bytes : AreBytes digits
  pub is : number ≡ number_from_digits 256 digits

pub length_first : {a b : Option (List ℕ)} {first : ℕ} → Consumes a b (first ∷ []) → ConsumesLength a b first 0 0
length_first h = record { digits = []; consumed = h; size = refl; bytes = tt; is = refl }

pub length_more : {a b c : Option (List ℕ)} {first count number d : ℕ} → ConsumesLength a b first count number
    → Consumes b c (d ∷ []) → d < 256 → ConsumesLength a c first (count + 1) (number * 256 + d)
length_more {a} {b} {c} {first} {count} {number} {d} t h below = record {
  digits = t.digits ++ (d ∷ []);
  consumed = Consumes-trans a b c (first ∷ t.digits) (d ∷ []) t.consumed h;
  size = length-append t.digits (d ∷ []) ∙ ap (λ n. n + 1) t.size;
  bytes = bytes_then t.digits (d ∷ []) t.bytes (below, tt);
  is = ap (λ n. n * 256 + d) t.is ∙ sym (number_push 256 t.digits d);
}

module _ {a b : Option (List ℕ)} {first k count number : ℕ} (t : ConsumesLength a b first k number)
    (long : IsLongCount first count) where
  -- where a byte more is to come, the number has seven bytes at most
  pub length_below : k < count → number < 2 ^ 56
  length_below fewer =
      let most : 256 ^ length t.digits ≤ 256 ^ 7 = pow-le-pow_right {n = 256} (omega arith) {i = length t.digits} {j =
      7} (omega (arith, t.size)) in
      omega (arith, t.is, number_lt 256 t.digits t.bytes)

  -- and it isn't given
  pub refused_cut : (c : Option (List ℕ)) {left : Option (List ℕ)} {old new : List Fault} {e : Error} → k < count
      → Keeps b c → IsFaultOrEnd b left old new e → new ≡ old
      → IsRefusedAs (length_of TruncatedData) a c (error_of_kind (error_kind e))
  refused_cut c fewer =
      refused_missing a c (first ∷ t.digits)
      (length_of-cut TruncatedData first count t.digits long (omega (arith, t.size))) t.consumed

  -- all came, and are as few as can be
  pub Consumes-shortest : k ≡ count → length (length_octets number) ≡ 1 + count → Consumes a b (length_octets number)
  Consumes-shortest whole size =
      let same : length_octets number ≡ first ∷ t.digits = ap length_octets t.is
      ∙ length_octets-number first count t.digits long (t.size ∙ whole) t.bytes
      (ap (λ n. length (length_octets n)) (sym t.is) ∙ size) in
      rw same t.consumed

  -- or too many
  pub refused_longer : k ≡ count → length (length_octets number) ≢ 1 + count
      → IsRefusedAs (length_of TruncatedData) a b InvalidData
  refused_longer whole size =
      refused_after a b (first ∷ t.digits) InvalidData t.consumed
      (λ rest. length_of-longer TruncatedData first count t.digits rest long (t.size ∙ whole) t.bytes
      (λ same. size (ap (λ n. length (length_octets n)) t.is ∙ same)))

-- a length was consumed
pub read_length_octets : (a b : Option (List ℕ)) (n : ℕ) → n < 2 ^ 64 → Consumes a b (length_octets n)
    → IsReadAs (length_of TruncatedData) a b n
read_length_octets a b n small h =
    read_after a b (length_octets n) n h (λ rest. length_of-length_octets TruncatedData n rest small)
