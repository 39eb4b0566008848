-- What a call does to a deserializer whose next value is a member, whichever the last member is.
use Rattle.std.proofs.Common.{◌≡◌, ℕ, List, [], ◌∷◌, Option, Some, None, take, refl, ◌∙◌, ap, subst}
use Rattle.std.proofs.Common.{Result, Ok, Err, IfOk, IfErr}
use Rattle.picky_der_core.specs.declared.error.Asn1DerError.{Asn1DerError}
use Rattle.picky_der_core.specs.Shape.{Shape}
use Rattle.picky_der_core.specs.Tree.{Tree}
use Rattle.picky_der_de.specs.declared.sequence.order.Next.{Next}
use Rattle.picky_der_de.specs.State.{State}
use Rattle.picky_der_de.specs.Steps.{Consumed, Fails, IsJudged, IsMissing, end_is_here, input_ended}
use Rattle.picky_der_de.specs.Steps.{failed_with}
use Rattle.picky_der_de.specs.Order.{HasFailedWith}
use Rattle.picky_der_de.specs.Refusing.{FailsAs}
use Rattle.picky_der_de.specs.Ends.{RefusesClose}
use Rattle.picky_der_de.specs.RefusesBy.{Rule, RefusesBy}
use Rattle.picky_der_de.specs.Reading.{Concerns, now, ever, Reads, Refuses}
use Rattle.picky_der_de.specs.SetOrder.{in_order}
use Rattle.picky_der_de.specs.LookAhead.{Peeks, Identifies, IdentifiesIn, RefusesIdentifier, RefusesPeek}
use Rattle.picky_der_de.specs.LookAhead.{identifier_refusal, identifier_refusal_in}

-- the same with other members of sets
abbrev pub with_members : Option (List ℕ) → List ℕ → List ℕ → State → State
with_members last seen kept s = record s { last = last; seen = seen; kept = kept }

module _ {l m : Option (List ℕ)} {x y u w : List ℕ} {a c : State} where
  pub fails_in : {e : Asn1DerError} → Fails a c e → Fails (with_members l x u a) (with_members m y w c) e
  fails_in f = record {
    failed = f.failed;
    again = λ k is. let q = f.again k is in
        (q.0, record { input = q.1.input; consumed = q.1.consumed; peeked = q.1.peeked; faults = q.1.faults });
    faults = f.faults;
    unpeeked = f.unpeeked;
    other = f.other;
    took = record { bytes = f.took.bytes; input = f.took.input; count = f.took.count };
    grows = f.grows;
    end = f.end;
    limit = f.limit;
    within = λ i. let q = f.within (record { end = i.end; fetched = i.fetched }) in
        record { end = q.end; fetched = q.fetched };
    there = f.there;
    references = f.references;
  }

  pub judged_in : {e : Asn1DerError} → IsJudged (with_members l x u a) (with_members m y w c) e → IsJudged a c e
  judged_in j = record { had_not_failed = j.had_not_failed; faults = j.faults; memory = j.memory }

  concerns_in : {e : Asn1DerError} {end : ℕ} {bs : List ℕ}
      → Concerns (with_members l x u a) (with_members m y w c) e end bs → Concerns a c e end bs
  concerns_in (now i r) = now i r
  concerns_in (ever n r d z left i q f) = ever n r d z left i q f

  pub consumes_in : {bs : List ℕ} → m ≡ l → Consumed a c bs → Consumed (with_members l x u a) (with_members m y w c) bs
  consumes_in same t = record {
    input = t.input;
    consumed = t.consumed;
    until_end = t.until_end;
    end = t.end;
    limit = t.limit;
    last = same;
    unpeeked = t.unpeeked;
    fetched = t.fetched;
    had_not_failed = t.had_not_failed;
    not_failed = t.not_failed;
    faults = t.faults;
    references = t.references;
  }

  pub reads_in : {s : Shape} {t : Tree} → m ≡ l → Reads s a c t
      → Reads s (with_members l x u a) (with_members m y w c) t
  reads_in same r = record {
    of_shape = r.of_shape;
    readable = r.readable;
    may_be_there = r.may_be_there;
    consumes = consumes_in same r.consumes;
    implicit_tag = r.implicit_tag;
  }

  pub refuses_in : {V : Type 0} {meaning : V → Tree} {s : Shape} {e : Asn1DerError} → Refuses meaning s a c e
      → Refuses meaning s (with_members l x u a) (with_members m y w c) e
  refuses_in r = record {
    fails = fails_in r.fails;
    none = λ j end bs k v st. r.none (judged_in j) end bs (concerns_in k) v st;
    first = λ j. r.first (judged_in j);
  }

  pub refused_in : (rule : Rule) {e : Asn1DerError} → RefusesBy rule a c e
      → RefusesBy rule (with_members l x u a) (with_members m y w c) e
  refused_in rule by j = by (judged_in j)

-- a value that was read while other members were there
module _ {A : Type 0} (a c : State) {b d : State} (r : Result A Asn1DerError) {x u y w : List ℕ}
    (before : b ≡ record a { seen = x; kept = u }) (after : d ≡ record c { seen = y; kept = w }) where
  pub reads_aside : (s : Shape) (meaning : A → Tree) → IfOk r (λ v. Reads s b c (meaning v))
      → IfOk r (λ v. Reads s a d (meaning v))
  reads_aside s meaning h = rw after (aside r (subst (λ z. IfOk r (λ v. Reads s z c (meaning v))) before h))
    where
      aside : (q : Result A Asn1DerError) → IfOk q (λ v. Reads s (record a { seen = x; kept = u }) c (meaning v))
          → IfOk q (λ v. Reads s a (record c { seen = y; kept = w }) (meaning v))
      aside (Ok v) k = reads_in k.consumes.last k
      aside (Err e) k = tt

  pub refuses_aside : {V : Type 0} (s : Shape) (meaning : V → Tree) → IfErr r (Refuses meaning s b c)
      → IfErr r (Refuses meaning s a d)
  refuses_aside s meaning h = rw after (aside r (subst (λ z. IfErr r (Refuses meaning s z c)) before h))
    where
      aside : (q : Result A Asn1DerError) → IfErr q (Refuses meaning s (record a { seen = x; kept = u }) c)
          → IfErr q (Refuses meaning s a (record c { seen = y; kept = w }))
      aside (Ok v) k = tt
      aside (Err e) k = refuses_in k

  pub refused_aside : (rule : Rule) → IfErr r (RefusesBy rule b c) → IfErr r (RefusesBy rule a d)
  refused_aside rule h = rw after (aside r (subst (λ z. IfErr r (RefusesBy rule z c)) before h))
    where
      aside : (q : Result A Asn1DerError) → IfErr q (RefusesBy rule (record a { seen = x; kept = u }) c)
          → IfErr q (RefusesBy rule a (record c { seen = y; kept = w }))
      aside (Ok v) k = tt
      aside (Err e) k = refused_in rule k

-- ---- failures

pub failed_in : (a : State) {c : State} (e : Asn1DerError) (o : Next) → c ≡ failed_with a e
    → HasFailedWith (in_order a o) e c
failed_in a {c} e o same = ap (λ (z : State). record z { last = c.last }) same

-- nothing changed but that it has failed
pub fails_as_in : (a c : State) (kind e : Asn1DerError) (o : Next) → FailsAs kind a e c
    → FailsAs kind (in_order a o) e (in_order c o)
fails_as_in a c kind e o h = (h.0, ap (λ (z : State). in_order z o) h.1)

-- the end wasn't reached
pub close_refused_in : {A : Type 0} (a c : State) (o : Next) (r : Result A Asn1DerError) → IfErr r (RefusesClose a c)
    → IfErr r (RefusesClose (in_order a o) c)
close_refused_in a c o (Ok v) k = tt
close_refused_in a c o (Err e) k = record {
  fails = fails_in k.fails;
  left = λ w. let q = k.left w in (q.0, q.1, q.2);
}

-- ---- the next byte

peeks_in : {a c : State} {b : ℕ} (o : Next) → Peeks a c b → Peeks (in_order a o) (in_order c o) b
peeks_in o p = record {
  had_not_failed = p.had_not_failed;
  implicit_tag = p.implicit_tag;
  ahead = p.ahead;
  byte = p.byte;
  next = p.next;
  again = p.again;
  input = p.input;
  same = ap (λ (z : State). in_order z o) p.same;
}

is_in : (d : Option ℕ) (a c : State) (tag : ℕ) (o : Next) → IdentifiesIn d a c tag
    → IdentifiesIn d (in_order a o) (in_order c o) tag
is_in None a c tag o p = peeks_in o p
is_in (Some awaited) a c tag o p = (p.0, p.1, ap (λ (z : State). in_order z o) p.2)

refusal_in : (d : Option ℕ) (a : State) (o : Next) (rest : List ℕ)
    → identifier_refusal_in d (in_order a o) rest ≡ identifier_refusal_in d a rest
refusal_in None a o [] = refl
refusal_in None a o (b ∷ rest) = refl
refusal_in (Some number) a o rest = refl

pub identifies_in : {a c : State} {tag : ℕ} (o : Next) → Identifies a c tag
    → Identifies (in_order a o) (in_order c o) tag
identifies_in {a} {c} {tag} o h = record {
  is = is_in a.implicit_tag a c tag o h.is;
  no_refusal = λ bs k. refusal_in a.implicit_tag a o (take a.until_end bs) ∙ h.no_refusal bs k;
}

missing_in : {a : State} {e : Asn1DerError} (o : Next) → IsMissing a e → IsMissing (in_order a o) e
missing_in o (end_is_here z is) = end_is_here z is
missing_in o (input_ended some ended is) = input_ended some ended is

peek_refused_in : {a c : State} {e : Asn1DerError} (o : Next) → RefusesPeek identifier_refusal c.last a c e
    → RefusesPeek identifier_refusal c.last (in_order a o) c e
peek_refused_in {a} o r = record {
  fails = fails_in r.fails;
  just = λ j bs k. let q = r.just (judged_in j) bs k in
      record {
        left = q.left;
        refused = refusal_in a.implicit_tag a o (take a.until_end bs) ∙ q.refused;
        input = q.input;
        kept = q.kept;
        used = q.used;
      };
  memory = r.memory;
  same = r.same;
}

pub identifier_refused_in : {a c : State} {e : Asn1DerError} (o : Next) → RefusesIdentifier a c e
    → RefusesIdentifier (in_order a o) c e
identifier_refused_in o r = record {
  refuses = peek_refused_in o r.refuses;
  missing = λ j. let q = r.missing (judged_in j) in (q.0, missing_in o q.1);
}
