-- Known bytes before the innermost end, and how they are refused.
use Rattle.std.proofs.Common.{◌≡◌, ℕ, ◌+◌, ◌<◌, true, List, [], ◌++◌, length, take, drop, Option, Some, None, ◌==◌}
use Rattle.std.proofs.Common.{refl, sym, ◌∙◌, ap, arith, append-nil, ne_eqb}
use Rattle.std.proofs.lemmas.Bool.Decides.{nat_tests}
use Rattle.std.proofs.lemmas.Grind.{common_steps}
use Rattle.std.specs.Io.KnownBytes.{Consumes, Keeps}
use Rattle.std.proofs.KnownBytes.{Consumes-nil}
use Rattle.std.proofs.lemmas.List.{take-append-drop}
use Rattle.std.proofs.Math.Seq.{take-append-add, drop-append-add}
use Rattle.picky_der_core.specs.declared.error.Asn1DerError.{Asn1DerError}
use Rattle.picky_der_core.specs.declared.error.Asn1DerError.TheVariants.{TruncatedData}
use Rattle.picky_der_core.specs.Refusal.{missing_byte, Refusal}
use Rattle.picky_der_de.specs.declared.end.End.{End}
use Rattle.picky_der_de.specs.declared.end.End.TheVariants.{Limit, Soft, Hard}
use Rattle.picky_der_core.specs.Peeking.{count_of_any}
use Rattle.picky_der_de.specs.State.{State}
use Rattle.picky_der_de.specs.Steps.{Consumed, IsMissing, end_is_here, input_ended, IsCut, failed_with, is_hard}
use Rattle.picky_der_de.specs.Steps.{error_at_end}
use Rattle.picky_der_de.specs.Reading.{IsJustRefused}
use Rattle.picky_der_de.proofs.Refusals.{front_consumed, at_end_of}

-- ---- what is before the end

-- known bytes, of which h were consumed: r ahead is the end, and q after h
pub record ConsumedFront (left : Option (List ℕ)) (r q : ℕ) (h bs : List ℕ) : Type 0 where
  pub rest : List ℕ
  pub known : left ≡ Some rest
  pub before : take r bs ≡ h ++ take q rest
  pub past : drop r bs ≡ drop q rest

pub front : (i j : Option (List ℕ)) {r q : ℕ} {h bs : List ℕ} → Consumes i j h → r ≡ length h + q → i ≡ Some bs
    → ConsumedFront j r q h bs
front i j {r} {q} {h} {bs} c e k =
    let p = front_consumed i j h bs c k in
    record {
      rest = p.0;
      known = p.1;
      before = ap (take r) p.2 ∙ ap (λ n. take n (h ++ p.0)) e ∙ take-append-add h p.0 q;
      past = ap (drop r) p.2 ∙ ap (λ n. drop n (h ++ p.0)) e ∙ drop-append-add h p.0 q;
    }

pub front_of : {a b : State} {h bs : List ℕ} → Consumed a b h → a.input ≡ Some bs
    → ConsumedFront b.input a.until_end b.until_end h bs
front_of {a} {b} t k = front a.input b.input t.input t.until_end k

-- ---- where a byte is missing

-- all that is before the end was consumed, and the missing byte is refused so
pub record AllConsumed (end : End) (left : Option (List ℕ)) (r : ℕ) (h bs : List ℕ) (e : Asn1DerError) : Type 0 where
  pub is : missing_byte (is_hard end) r h ≡ e
  pub before : take r bs ≡ h
  pub known : left ≡ Some (drop r bs)

missing_at_end : (end : End) (r : ℕ) (h : List ℕ) → r ≡ length h → missing_byte (is_hard end) r h ≡ error_at_end end
missing_at_end Limit r h e = refl
missing_at_end Soft r h e = refl
missing_at_end Hard r h e = let here : (length h == r) ≡ true = grind (arith, nat_tests) in rw here refl

pub missing_before : (end : End) (r : ℕ) (h : List ℕ) → length h < r → missing_byte (is_hard end) r h ≡ TruncatedData
missing_before Limit r h l = refl
missing_before Soft r h l = refl
missing_before Hard r h l = rw (ne_eqb (length h) r (λ e. omega arith)) refl

pub missing_of : {mid : State} {e : Asn1DerError} (r : ℕ) (h bs : List ℕ) → IsMissing mid e
    → r ≡ length h + mid.until_end → ConsumedFront mid.input r mid.until_end h bs
    → AllConsumed mid.end mid.input r h bs e
missing_of {mid} {e} r h bs (end_is_here z is) l f =
    let none : take mid.until_end f.rest ≡ [] = ap (λ n. take n f.rest) z in
    let all : drop mid.until_end f.rest ≡ f.rest = ap (λ n. drop n f.rest) z in
    record {
      is = missing_at_end mid.end r h (omega arith) ∙ sym is;
      before = f.before ∙ ap (λ x. h ++ x) none ∙ append-nil h;
      known = f.known ∙ ap (λ x. Some x) (sym (f.past ∙ all));
    }
missing_of {mid} {e} r h bs (input_ended some ended is) l f =
    let nothing : f.rest ≡ [] = at_end_of mid.input f.rest ended f.known in
    let none : take mid.until_end f.rest ≡ [] = ap (λ x. take mid.until_end x) nothing ∙ take_nothing mid.until_end in
    let all : drop mid.until_end f.rest ≡ f.rest = ap (λ x. drop mid.until_end x) nothing ∙ drop_nothing mid.until_end
    ∙ sym nothing in
    record {
      is = missing_before mid.end r h (omega arith) ∙ sym is;
      before = f.before ∙ ap (λ x. h ++ x) none ∙ append-nil h;
      known = f.known ∙ ap (λ x. Some x) (sym (f.past ∙ all));
    }
  where
    take_nothing : (n : ℕ) → take {A = ℕ} n [] ≡ []
    take_nothing n = grind (arith, common_steps)

    drop_nothing : (n : ℕ) → drop {A = ℕ} n [] ≡ []
    drop_nothing n = grind (arith, common_steps)

-- what is known is kept
pub kept_known : (i j : Option (List ℕ)) (bs : List ℕ) → Keeps i j → i ≡ Some bs → j ≡ Some bs
kept_known None j bs k e = absurd (let q : None ≡ Some bs = e in cc)
kept_known (Some xs) None bs k e = absurd k
kept_known (Some xs) (Some ys) bs k e = cc

-- ---- exactly this refusal

none_peeked : (p : Option ℕ) → count_of_any p ≡ 0 → p ≡ None
none_peeked None e = refl
none_peeked (Some b) e = absurd (omega arith)

-- a peeked byte is still there if none was consumed
pub peeked_kept : {a b : State} (c : State) {h : List ℕ} → Consumed a b h → c.consumed ≡ b.consumed
    → c.peeked ≡ b.peeked → c.consumed ≡ a.consumed → c.peeked ≡ a.peeked
peeked_kept {a} {b} c t n p same = p ∙ t.unpeeked ∙ sym (none_peeked a.peeked (omega (arith, t.fetched, n)))

-- a byte was missing after the consumed ones
pub just_cut : (refusal : List ℕ → Option Refusal) {a c : State} {n : ℕ} {bs : List ℕ} {e : Asn1DerError}
    → (m : IsCut a c n e) → a.input ≡ Some bs
    → (missing_byte (is_hard a.end) a.until_end m.bytes ≡ e → refusal m.bytes ≡ Some (e, []))
    → IsJustRefused refusal a c e bs
just_cut refusal {a} {c} {n} {bs} {e} m k w =
    let q = missing_of a.until_end m.bytes bs m.missing m.consumes.until_end (front_of m.consumes k) in
    let hard : missing_byte (is_hard m.mid.end) a.until_end m.bytes ≡ missing_byte (is_hard a.end) a.until_end m.bytes =
    ap (λ (z : End). missing_byte (is_hard z) a.until_end m.bytes) m.consumes.end in
    record {
      left = [];
      refused = ap refusal q.before ∙ w (sym hard ∙ q.is);
      input = kept_known m.mid.input c.input (drop a.until_end bs) m.input q.known;
      kept = peeked_kept c m.consumes m.consumed m.peeked;
      used = λ more. m.peeked ∙ m.consumes.unpeeked;
    }

-- what was consumed was refused
pub just_consumed : (refusal : List ℕ → Option Refusal) {a b c : State} {h bs : List ℕ} {e : Asn1DerError}
    → Consumed a b h → c ≡ failed_with b e → a.input ≡ Some bs
    → ((y : List ℕ) → refusal (h ++ y) ≡ Some (e, y)) → IsJustRefused refusal a c e bs
just_consumed refusal {a} {b} {c} {h} {bs} {e} t same k w =
    let f = front_of t k in
    let both : f.rest ≡ take b.until_end f.rest ++ drop a.until_end bs = sym (take-append-drop b.until_end f.rest)
    ∙ ap (λ x. take b.until_end f.rest ++ x) (sym f.past) in
    record {
      left = take b.until_end f.rest;
      refused = ap refusal f.before ∙ w (take b.until_end f.rest);
      input = ap (λ (s : State). s.input) same ∙ f.known ∙ ap (λ x. Some x) both;
      kept = peeked_kept c t (ap (λ (s : State). s.consumed) same) (ap (λ (s : State). s.peeked) same);
      used = λ more. ap (λ (s : State). s.peeked) same ∙ t.unpeeked;
    }

-- nothing was consumed, and nothing but the failure changed
pub just_unconsumed : (refusal : List ℕ → Option Refusal) {a c : State} {bs : List ℕ} {e : Asn1DerError}
    → c ≡ failed_with a e → a.input ≡ Some bs → ((rest : List ℕ) → refusal rest ≡ Some (e, rest))
    → IsJustRefused refusal a c e bs
just_unconsumed refusal {a} {bs = bs} same k w = record {
  left = take a.until_end bs;
  refused = w (take a.until_end bs);
  input = ap (λ (s : State). s.input) same ∙ k ∙ ap (λ x. Some x) (sym (take-append-drop a.until_end bs));
  kept = λ q. ap (λ (s : State). s.peeked) same;
  used = λ more. absurd (omega (arith, ap (λ (s : State). s.consumed) same));
}

-- a byte was missing, and none was consumed
pub just_missing : (refusal : List ℕ → Option Refusal) {a c : State} {bs : List ℕ} {e : Asn1DerError} → IsMissing a e
    → Keeps a.input c.input → c.consumed ≡ a.consumed → c.peeked ≡ a.peeked → a.input ≡ Some bs
    → (missing_byte (is_hard a.end) a.until_end [] ≡ e → refusal [] ≡ Some (e, [])) → IsJustRefused refusal a c e bs
just_missing refusal {a} {c} {bs} {e} m i n p k w =
    let r : a.until_end ≡ length {A = ℕ} [] + a.until_end = omega arith in
    let q = missing_of a.until_end [] bs m r (front a.input a.input (Consumes-nil a.input) r k) in
    record {
      left = [];
      refused = ap refusal q.before ∙ w q.is;
      input = kept_known a.input c.input (drop a.until_end bs) i q.known;
      kept = λ same. p;
      used = λ more. absurd (omega arith);
    }
