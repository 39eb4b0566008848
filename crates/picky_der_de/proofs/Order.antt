-- What isn't concerned with the order of the members before, and members in order, from left to right.
use Rattle.std.proofs.Common.{◌≡◌, ℕ, false, List, [], ◌∷◌, Option, Some, None, refl, arith}
use Rattle.picky_der_core.specs.declared.error.Asn1DerError.{Asn1DerError}
use Rattle.picky_der_core.specs.Encoding.{list_tag}
use Rattle.picky_der_core.specs.Order.{is_less}
use Rattle.picky_der_core.specs.OrderLaws.{IsSortedBy-one, IsSortedBy-first, IsSortedBy-tail, IsSortedBy-cons}
use Rattle.picky_der_core.specs.OrderLaws.{ascending_after_nothing}
use Rattle.picky_der_core.specs.Readable.{IsInOrder}
use Rattle.picky_der_core.specs.Tree.{ListKind}
use Rattle.picky_der_de.specs.State.{State}
use Rattle.picky_der_de.specs.Steps.{Consumed, Fails, IsJudged}
use Rattle.picky_der_de.specs.Order.{order_of, is_out_of_order, with_last, AreInOrder, without_order}
use Rattle.picky_der_de.specs.Reading.{Concerns, now, ever}
use Rattle.picky_der_de.proofs.Steps.{consumes_beside, fails_beside, fails_after, judged_after}

-- ---- whichever the last member is

pub concerns_alike : {b c : State} {e : Asn1DerError} {end : ℕ} {bs : List ℕ} (s : Option (List ℕ))
    → Concerns b c e end bs
    → Concerns (record b { last = s }) c e end bs
concerns_alike s (now i r) = now i r
concerns_alike s (ever w r d y left i q f) = ever w r d y left i q f

pub judged_alike : {b c : State} {e : Asn1DerError} (s : Option (List ℕ)) → IsJudged b c e
    → IsJudged (record b { last = s }) c e
judged_alike s j = record { had_not_failed = j.had_not_failed; faults = j.faults; memory = j.memory }

pub fails_alike : {b c : State} {e : Asn1DerError} (s : Option (List ℕ)) → Fails b c e
    → Fails (record b { last = s }) c e
fails_alike s f = fails_beside (omega arith) f

pub concerns_without_order : {b c : State} {e : Asn1DerError} {end : ℕ} {bs : List ℕ} → Concerns b c e end bs
    → Concerns (without_order b) c e end bs
concerns_without_order h = concerns_alike None h

pub consumes_without_order : {a b : State} {x : List ℕ} → Consumed a b x
    → Consumed (without_order a) (without_order b) x
consumes_without_order t = consumes_beside t.until_end t.end refl t

-- a call failed after bytes that were consumed
pub fails_after_any_order : {a b c : State} {x : List ℕ} {e : Asn1DerError}
    → Consumed (without_order a) (without_order b) x → Fails b c e → Fails a c e
fails_after_any_order {a = a} {b = b} t f =
    fails_alike a.last (fails_after t (fails_alike None f))

pub judged_after_any_order : {a b c : State} {x : List ℕ} {e : Asn1DerError}
    → Consumed (without_order a) (without_order b) x → IsJudged a c e → IsJudged b c e
judged_after_any_order {a = a} {b = b} t j =
    judged_alike b.last (judged_after t (judged_alike None j))

-- ---- members in order

pub order_none : (l : Option (List ℕ)) → AreInOrder l []
order_none None = tt
order_none (Some x) = IsSortedBy-one is_less x

-- the first isn't less than the last one before it
pub order_first : (l : Option (List ℕ)) (a : List ℕ) (ms : List (List ℕ)) → AreInOrder l (a ∷ ms)
    → is_out_of_order l a ≡ false
order_first None a ms h = refl
order_first (Some x) a ms h = IsSortedBy-first is_less x a ms h

-- the others are in order after it
pub order_next : (l : Option (List ℕ)) (a : List ℕ) (ms : List (List ℕ)) → AreInOrder l (a ∷ ms)
    → AreInOrder (with_last l a) ms
order_next None a ms h = tt
order_next (Some x) a ms h = IsSortedBy-tail is_less x (a ∷ ms) h

pub order_more : (l : Option (List ℕ)) (a : List ℕ) (ms : List (List ℕ)) → is_out_of_order l a ≡ false
    → AreInOrder (with_last l a) ms → AreInOrder l (a ∷ ms)
order_more None a ms f h = tt
order_more (Some x) a ms f h = IsSortedBy-cons is_less x a ms f h

-- the members of a list in order, from its first one on
pub order_begins : (kind : ListKind) (ms : List (List ℕ)) → IsInOrder kind ms
    → AreInOrder (order_of (list_tag kind)) ms
order_begins ListKind.sequence ms h = tt
order_begins ListKind.set ms h = ascending_after_nothing ms h

pub order_whole : (kind : ListKind) (ms : List (List ℕ)) → AreInOrder (order_of (list_tag kind)) ms
    → IsInOrder kind ms
order_whole ListKind.sequence ms h = tt
order_whole ListKind.set ms h = IsSortedBy-tail is_less [] ms h
