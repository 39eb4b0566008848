-- Members of lists are refused by their rules.
use Rattle.std.proofs.Common.{◌≡◌, ℕ, ◌+◌, ◌<◌, Bool, true, false, List, [], ◌∷◌, ◌++◌, length, map, Option, Some}
use Rattle.std.proofs.Common.{None}
use Rattle.std.proofs.Common.{IfSome, IfNone, refl, sym, ◌∙◌, ap, subst, arith, append_assoc, length-append, true≢false}
use Rattle.std.proofs.Common.{append-nil}
use Rattle.std.specs.Prelude.{option_map}
use Rattle.picky_der_core.specs.Element.{IsPrefix}
use Rattle.picky_der_core.specs.declared.error.Asn1DerError.{Asn1DerError}
use Rattle.picky_der_core.specs.declared.error.Asn1DerError.TheVariants.{InvalidData, OutOfMemory}
use Rattle.picky_der_core.specs.Failure.{IsAnswer}
use Rattle.picky_der_core.specs.Tree.{ListKind, Tree, Trees, trees}
use Rattle.picky_der_core.specs.Encoding.{der, list_tag}
use Rattle.picky_der_core.specs.Readable.{IsInOrder}
use Rattle.picky_der_core.specs.Shape.{Shape}
use Rattle.picky_der_de.specs.State.{State}
use Rattle.picky_der_de.specs.Steps.{Consumed, IsJudged, is_hard}
use Rattle.picky_der_de.specs.Order.{is_out_of_order, with_last, AreInOrder, without_order, RefusesTest, out_of_order}
use Rattle.picky_der_de.specs.Order.{without_memory, is_out_of_order}
use Rattle.picky_der_de.specs.LookAhead.{Peeks, Identifies, RefusesIdentifier, identifier_refusal}
use Rattle.picky_der_de.specs.LookAhead.{identifier_refusal_in}
use Rattle.picky_der_de.specs.Ends.{EnclosingEnd, RefusesClose, OpensList, RefusesList}
use Rattle.picky_der_ser.specs.Sequences.{IsListTag, list_kind}
use Rattle.picky_der_de.specs.Members.{ReadsMember, RefusesMember, RefusesNext, no_value, after_value, HasNoMore}
use Rattle.picky_der_de.specs.Members.{members_encoding}
use Rattle.picky_der_de.specs.Layouts.{Presence, always, perhaps, Lacks, no_more, begins_otherwise, RefusesOptional}
use Rattle.picky_der_de.specs.Layouts.{no_tag, no_member, RefusesDefault, as_optional, written_out, RefusesLayoutMember}
use Rattle.picky_der_de.specs.LayoutLaws.{IsThere}
use Rattle.picky_der_de.specs.RefusesBy.{Spot, Rule, spot_of, RefusesBy}
use Rattle.picky_der_de.specs.PlainRules.{by_bytes}
use Rattle.picky_der_de.specs.Rules.{IsNext, spot_before, AreNext, each_rule, at_member, after_member}
use Rattle.picky_der_de.specs.Rules.{RefusesEachBy, list_of_rule, field_rule, always_rule, at_field, after_field}
use Rattle.picky_der_de.specs.Rules.{perhaps_rule, cut, there, is_default, after_there, at_end, absent, layout_rule}
use Rattle.picky_der_de.specs.Rules.{missing, refused, next_byte_refusal, fields_rule, LeadsTo, RefusesBefore}
use Rattle.picky_der_de.specs.Rules.{added_rule, at_cut, at_members, end_rule}
use Rattle.picky_der_de.proofs.Refusals.{front_consumed}
use Rattle.picky_der_de.proofs.Order.{judged_after_any_order}
use Rattle.picky_der_de.proofs.KnownBytes.{kept_known}
use Rattle.picky_der_de.proofs.Peeked.{peeks_judged}
use Rattle.picky_der_de.proofs.LayoutReads.{as_look}
use Rattle.picky_der_de.proofs.MemberReads.{members_encoding-more, members_encoding-none, no_members_in_order}
use Rattle.picky_der_de.proofs.MemberReads.{consumes_whole, consumes_member, member_not_implicit, members_lead}
use Rattle.picky_der_de.proofs.MemberReads.{order_after}
use Rattle.picky_der_de.proofs.MemberReads.{opened_in_order, whole_in_order, first_in_order}
use Rattle.picky_der_de.proofs.PlainRuled.{same_left, bytes_by}
use Rattle.picky_der_de.proofs.ListReads.{list_tagged}
use Rattle.picky_der_de.proofs.WrapperRuled.{next_of, header_by, content_by, end_by}

-- ---- members of one type

whole_spot : (a : State) → a.implicit_tag ≡ None → spot_of a ≡ spot_before (is_hard a.end) a.until_end
whole_spot a d = rw d refl

-- after what was read of a list
after_spot : (a b : State) {bytes : List ℕ} → Consumed (without_order a) (without_order b) bytes → b.implicit_tag ≡ None
    → spot_of b ≡ spot_before (is_hard a.end) b.until_end
after_spot a b t d = rw (t.end, d) refl

none_next : {V : Type 0} (meaning : V → Tree) {s : Shape} (at : Spot) (bs : List ℕ)
    → AreNext meaning s at bs [] at.ahead bs
none_next meaning at bs = record {
  of_shape = tt;
  readable = tt;
  is = ap (λ x. x ++ bs) (sym members_encoding-none);
  ahead = omega (arith, ap length members_encoding-none);
}

module _ {V : Type 0} (meaning : V → Tree) {s : Shape} {rule : Rule} where
  -- the next member was refused
  pub each_head : {c d : State} {e : Asn1DerError} → RefusesMember meaning s rule c d e → 0 < c.until_end
      → RefusesEachBy meaning s rule c d e
  each_head {c} {d} {e} r ahead whole j bs left k l = by r.refuses
    where
      by : RefusesNext meaning s rule c d e → each_rule meaning s (AreInOrder c.last) rule (spot_of c) bs e left
      by (no_value h refuses) =
          at_member [] c.until_end bs (none_next meaning (spot_of c) bs) (no_members_in_order c.last) ahead
          (subst (λ at. rule at bs e left) (whole_spot c whole) (refuses j bs left k l))
      by (after_value mid v h (without_memory n f is same)) = absurd (j.memory is)
      by (after_value mid v h (out_of_order o)) =
          let t = consumes_whole h whole in
          let p = front_consumed c.input mid.input (der (meaning v)) bs t.input k in
          let one : members_encoding (Trees.more (meaning v) Trees.none) ≡ der (meaning v) =
          members_encoding-more (meaning v) Trees.none ∙ ap (λ x. der (meaning v) ++ x) members_encoding-none
          ∙ append-nil (der (meaning v)) in
          let less : is_out_of_order c.last (der (meaning v)) ≡ true =
          ap (λ x. is_out_of_order x (der (meaning v))) (sym t.last) ∙ o.less in
          let same : p.0 ≡ left = same_left mid.input p.1 (sym (ap (λ (z : State). z.input) o.same) ∙ l) in
          after_member [] v mid.until_end (record {
            of_shape = (h.of_shape, tt);
            readable = (h.readable, tt);
            is = p.2 ∙ ap (λ x. der (meaning v) ++ x) same ∙ ap (λ x. x ++ left) (sym one);
            ahead = t.until_end ∙ ap (λ x. length x + mid.until_end) (sym one);
          }) (no_members_in_order c.last)
          (λ in_order. true≢false (sym less ∙ first_in_order c.last (meaning v) Trees.none in_order)) o.error

  -- a member was read, and one after it was refused
  pub each_next : {b c d : State} {e : Asn1DerError} (v : V) → ReadsMember s b c (meaning v)
      → RefusesEachBy meaning s rule c d e → RefusesEachBy meaning s rule b d e
  each_next {b} {c} {d} {e} v r by whole j bs left k l =
      let t = consumes_member r in
      let p = front_consumed b.input c.input (der (meaning v)) bs t.input k in
      leads p.0 p.2 (by (member_not_implicit r) (judged_after_any_order t j) p.0 left p.1 l)
    where
      more : (rest : List ℕ) → bs ≡ der (meaning v) ++ rest → (vs : List V) (after : ℕ) (last : List ℕ)
          → AreNext meaning s (spot_of c) rest vs after last → AreNext meaning s (spot_of b) bs (v ∷ vs) after last
      more rest is vs after last n =
          let t = consumes_member r in
          let others = members_encoding (trees (map meaning vs)) in
          let parts = members_encoding-more (meaning v) (trees (map meaning vs)) in
          record {
            of_shape = (r.reads.of_shape, n.of_shape);
            readable = (r.reads.readable, n.readable);
            is = is ∙ ap (λ x. der (meaning v) ++ x) n.is ∙ sym (append_assoc (der (meaning v)) others last)
                ∙ ap (λ x. x ++ last) (sym parts);
            ahead = omega (
              arith,
              t.until_end,
              n.ahead,
              ap length parts,
              length-append (der (meaning v)) others,
            );
          }

      leads : (rest : List ℕ) → bs ≡ der (meaning v) ++ rest
          → each_rule meaning s (AreInOrder c.last) rule (spot_of c) rest e left
          → each_rule meaning s (AreInOrder b.last) rule (spot_of b) bs e left
      leads rest is (at_member vs after last n order ahead h) =
          at_member (v ∷ vs) after last (more rest is vs after last n) (members_lead (trees (map meaning vs)) r order)
          ahead (subst (λ hard. rule (spot_before hard after) last e left)
          (ap is_hard (consumes_member r).end) h)
      leads rest is (after_member vs w after n order broken error) =
          after_member (v ∷ vs) w after (more rest is (vs ++ w ∷ []) after left n)
          (members_lead (trees (map meaning vs)) r order)
          (λ o. broken (order_after (meaning v) (trees (map meaning (vs ++ w ∷ []))) refl r o)) error

  -- an allocation failed
  pub each_for_memory : {c d : State} {e : Asn1DerError} → e ≡ OutOfMemory → RefusesEachBy meaning s rule c d e
  each_for_memory is whole j = absurd (j.memory is)

  -- it had failed before
  pub each_again : {c d : State} {e : Asn1DerError} → (c.failed ≡ None → ⊥) → RefusesEachBy meaning s rule c d e
  each_again had_failed whole j = absurd (had_failed j.had_not_failed)

-- in the order of the whole list
pub each_whole : {V : Type 0} {meaning : V → Tree} {s : Shape} {rule : Rule} (kind : ListKind) {a b d : State}
    {outer : EnclosingEnd} {e : Asn1DerError} → OpensList (list_tag kind) a b outer → RefusesEachBy meaning s rule b d e
    → RefusesBy (each_rule meaning s (IsInOrder kind) rule) b d e
each_whole {V} {meaning} {s} {rule} kind {a} {b} {d} {outer} {e} o by j bs left k l =
    let whole = ap (λ (z : State). z.implicit_tag) o.opened ∙ o.begins.implicit_tag in
    in_order (by whole j bs left k l)
  where
    in_order : each_rule meaning s (AreInOrder b.last) rule (spot_of b) bs e left
        → each_rule meaning s (IsInOrder kind) rule (spot_of b) bs e left
    in_order (at_member vs after rest n order ahead h) =
        at_member vs after rest n (whole_in_order kind (trees (map meaning vs)) o order) ahead h
    in_order (after_member vs w after n order broken error) =
        after_member vs w after n (whole_in_order kind (trees (map meaning vs)) o order)
        (λ i. broken (opened_in_order kind (trees (map meaning (vs ++ w ∷ []))) o i)) error

-- ---- members of several types

-- no order is tested after a member either
pub still_unordered : {s : Shape} {b c : State} {t : Tree} → ReadsMember s b c t → b.last ≡ None
    → c.last ≡ None
still_unordered {b = b} {t = t} r none =
    let same = ap (λ (z : State). z.last) r.follows.same ∙ ap (λ l. with_last l (der t)) r.reads.consumes.last in
    same ∙ without b.last none
  where
    without : (o : Option (List ℕ)) → o ≡ None → option_map (λ last. der t) o ≡ None
    without None e = refl
    without (Some x) e = absurd (let q : Some x ≡ None = e in cc)

-- a look at the next byte isn't seen
looked_by : (R Q : Rule) {b c d : State} {x : ℕ} {e : Asn1DerError} → Peeks b c x
    → ((bs rest left : List ℕ) → bs ≡ x ∷ rest → R (spot_of b) bs e left → Q (spot_of b) bs e left)
    → RefusesBy R c d e → RefusesBy Q b d e
looked_by R Q {b} {c} {d} {x} {e} p lead by j bs left k l =
    let q = by (peeks_judged p j) bs left (kept_known b.input c.input bs p.input k) l in
    let f = known_next b.input bs p.next k in
    lead bs f.0 left f.1 (subst (λ at. R at bs e left) (ap spot_of p.same) q)
  where
    known_next : (i : Option (List ℕ)) (bs : List ℕ) → IfSome i (IsPrefix (x ∷ [])) → i ≡ Some bs
        → (rest : List ℕ) × (bs ≡ x ∷ rest)
    known_next None bs h e = absurd (let q : None ≡ Some bs = e in cc)
    known_next (Some xs) bs h e = let same : xs ≡ bs = cc in (h.rest, sym same ∙ h.is)

-- no byte is there
no_byte_by : (d : Option ℕ) (a : State) (rest : List ℕ) → d ≡ None
    → identifier_refusal_in d a rest ≡ next_byte_refusal (spot_of a) rest
no_byte_by None a [] e = refl
no_byte_by None a (b ∷ rest) e = refl
no_byte_by (Some number) a rest e = absurd (let q : Some number ≡ None = e in cc)

unseen_by : {b d : State} {e : Asn1DerError} → b.implicit_tag ≡ None → RefusesIdentifier b d e
    → RefusesBy (by_bytes next_byte_refusal) b d e
unseen_by {b} whole h = λ j bs left k l.
    bytes_by (identifier_refusal b) next_byte_refusal (λ rest. no_byte_by b.implicit_tag b rest whole) h.refuses.just j
    bs left k l

module _ {W : Type 0} (meaning : W → Tree) (left_out : W → Bool) (s : Shape) (member others : Rule) where
  unfoldable member_is_next : {b c : State} {bs rest : List ℕ} (w : W) → ReadsMember s b c (meaning w)
      → b.input ≡ Some bs
      → c.input ≡ Some rest → IsNext meaning s (spot_of b) bs c.until_end rest
  member_is_next w r k l = next_of w r.reads k (sym (ap (λ (z : State). z.input) r.follows.same) ∙ l)
      (sym (ap (λ (z : State). z.until_end) r.follows.same))

  -- what follows a member that was read
  follows_by : (R : Rule) {b c d : State} {e : Asn1DerError} (w : W) → ReadsMember s b c (meaning w)
      → ((bs rest left : List ℕ) (there : IsNext meaning s (spot_of b) bs c.until_end rest) → there.value ≡ w
      → others (spot_before (is_hard b.end) c.until_end) rest e left → R (spot_of b) bs e left)
      → RefusesBy others c d e → RefusesBy R b d e
  unfolding next_of member_is_next
  follows_by R {b} {c} {d} {e} w r lead by j bs left k l =
      let t = consumes_member r in
      let p = front_consumed b.input c.input (der (meaning w)) bs t.input k in
      let q = by (judged_after_any_order t j) p.0 left p.1 l in
      lead bs p.0 left (member_is_next w r k p.1) refl
      (subst (λ at. others at p.0 e left) (after_spot b c t (member_not_implicit r)) q)

  -- a member was read whose order isn't tested
  not_tested : {m : List ℕ} {a b c : State} {e : Asn1DerError} → b.last ≡ a.last → a.last ≡ None
      → RefusesTest m b c e → IsJudged a c e → ⊥
  not_tested {m} {a} {b} same none (out_of_order h) j =
      let less : is_out_of_order a.last m ≡ true = ap (λ x. is_out_of_order x m) (sym same) ∙ h.less in
      let never : false ≡ true = ap (λ o. is_out_of_order o m) (sym none) ∙ less in
      cc
  not_tested same none (without_memory n f is failed) j = j.memory is

  member_by : {b d : State} {e : Asn1DerError} → b.last ≡ None → b.implicit_tag ≡ None
      → RefusesMember meaning s (field_rule member) b d e → RefusesBy (field_rule member) b d e
  member_by {b} {d} {e} none whole h j = by h.refuses j
    where
      by : RefusesNext meaning s (field_rule member) b d e → RefusesBy (field_rule member) b d e
      by (no_value r refuses) = refuses
      by (after_value mid v r t) = λ i. absurd (not_tested (consumes_whole r whole).last none t i)

  -- ---- one that is always there

  always_head : {b d : State} {e : Asn1DerError} → b.last ≡ None → b.implicit_tag ≡ None
      → RefusesMember meaning s (field_rule member) b d e → RefusesBy (always_rule meaning s member others) b d e
  always_head none whole h j bs left k l = at_field (member_by none whole h j bs left k l)

  always_next : {b c d : State} {e : Asn1DerError} (w : W) → ReadsMember s b c (meaning w) → RefusesBy others c d e
      → RefusesBy (always_rule meaning s member others) b d e
  always_next {c = c} w r by =
      follows_by (always_rule meaning s member others) w r (λ bs rest left n is h. after_field c.until_end rest n h) by

  -- ---- one that may be missing

  optional_head : {b d : State} {e : Asn1DerError} → b.last ≡ None → b.implicit_tag ≡ None
      → RefusesOptional meaning s (field_rule member) b d e
      → RefusesBy (perhaps_rule meaning left_out s member others) b d e
  optional_head none whole (no_tag h ahead) = λ j bs left k l.
      cut (ahead j.had_not_failed) (unseen_by whole h j bs left k l)
  optional_head {b} {d} {e} none whole (no_member mid tag i own r) =
      let p = as_look whole i in
      let unordered : mid.last ≡ None = ap (λ (z : State). z.last) p.same ∙ none in
      let still : mid.implicit_tag ≡ None = ap (λ (z : State). z.implicit_tag) p.same ∙ whole in
      looked_by (field_rule member) (perhaps_rule meaning left_out s member others) p
      (λ bs rest left is h. begun p.ahead bs rest left is h) (member_by unordered still r)
    where
      begun : 0 < b.until_end → (bs rest left : List ℕ) → bs ≡ tag ∷ rest → field_rule member (spot_of b) bs e left
          → perhaps_rule meaning left_out s member others (spot_of b) bs e left
      begun ahead bs rest left is (missing z error all) = absurd (omega (arith, ahead, z))
      begun ahead bs rest left is (refused more h) = there ahead tag rest is own h

  perhaps_head : {b d : State} {last : Option (List ℕ)} {e : Asn1DerError} → b.last ≡ None → b.implicit_tag ≡ None
      → RefusesDefault meaning left_out s (field_rule member) b d last e
      → RefusesBy (perhaps_rule meaning left_out s member others) b d e
  unfolding next_of member_is_next
  perhaps_head none whole (as_optional h still) = optional_head none whole h
  perhaps_head {b} {d} {e = e} none whole (written_out mid w out r failed f) = λ j bs left k l.
      let error : e ≡ InvalidData = subst (λ o. IsAnswer o InvalidData e) (consumes_member r).not_failed failed.0 in
      is_default mid.until_end (member_is_next w r k (sym (ap (λ (z : State). z.input) failed.1) ∙ l)) out error

  perhaps_next : {b c d : State} {e : Asn1DerError} (o : Option W) → b.implicit_tag ≡ None
      → IfSome o (λ w. left_out w ≡ false) → IfSome o (λ w. ReadsMember s b c (meaning w)) → IfNone o (Lacks s b c)
      → RefusesBy others c d e
      → RefusesBy (perhaps_rule meaning left_out s member others) b d e
  perhaps_next {c = c} (Some w) whole written r l by =
      follows_by (perhaps_rule meaning left_out s member others) w r
      (λ bs rest left n is h. after_there c.until_end rest n (ap left_out is ∙ written) h) by
  perhaps_next {b} {c} {d} {e} None whole written r (no_more n) by = λ j bs left k l.
      at_end n.reached (subst (λ z. RefusesBy others z d e) n.same by j bs left k l)
  perhaps_next None whole written r (begins_otherwise tag i other) by =
      let p = as_look whole i in
      looked_by others (perhaps_rule meaning left_out s member others) p
      (λ bs rest left is h. absent p.ahead tag rest is other h) by

-- ---- by its presence

module _ {W : Type 0} (meaning : W → Tree) (left_out : W → Bool) (s : Shape) (member others : Rule) {b : State}
    (none : b.last ≡ None) (whole : b.implicit_tag ≡ None)
  where
    pub layout_head_by : {d : State} {e : Asn1DerError} (last : Option (List ℕ)) (presence : Presence)
        → RefusesLayoutMember presence meaning left_out s (field_rule member) b d last e
        → RefusesBy (layout_rule presence meaning left_out s member others) b d e
    layout_head_by last always h = always_head meaning left_out s member others none whole h.0
    layout_head_by last perhaps h = perhaps_head meaning left_out s member others none whole h

    pub layout_next_by : {c d : State} {e : Asn1DerError} (presence : Presence) (o : Option W) → IsThere presence o
        → IfSome o (λ w. left_out w ≡ false) → IfSome o (λ w. ReadsMember s b c (meaning w)) → IfNone o (Lacks s b c)
        → RefusesBy others c d e → RefusesBy (layout_rule presence meaning left_out s member others) b d e
    layout_next_by always None t written r l by = absurd t
    layout_next_by always (Some w) t written r l by = always_next meaning left_out s member others w r by
    layout_next_by perhaps o t written r l by =
        perhaps_next meaning left_out s member others o whole written r l by

-- nor is an order tested after it
pub still_none : {W : Type 0} (meaning : W → Tree) (s : Shape) (b c : State) → b.last ≡ None
    → b.implicit_tag ≡ None
    → (o : Option W) → IfSome o (λ w. ReadsMember s b c (meaning w)) → IfNone o (Lacks s b c) → c.last ≡ None
still_none meaning s b c none whole (Some w) r l = still_unordered r none
still_none meaning s b c none whole None r (no_more n) = ap (λ (z : State). z.last) n.same ∙ none
still_none meaning s b c none whole None r (begins_otherwise tag i other) =
    ap (λ (z : State). z.last) (as_look whole i).same ∙ none

-- ---- members that an extension added

module _ (members : Rule) where
  -- no byte is there, though the end isn't here
  pub added_cut_by : {b d : State} {e : Asn1DerError} → b.implicit_tag ≡ None → RefusesIdentifier b d e
      → (b.failed ≡ None → 0 < b.until_end) → RefusesBefore (added_rule members) b d e
  added_cut_by whole h ahead = λ none j bs left k l.
      at_cut (ahead j.had_not_failed) (unseen_by whole h j bs left k l)

  -- a byte is there, and they were refused
  pub added_there_by : {b c d : State} {tag : ℕ} {e : Asn1DerError} → b.implicit_tag ≡ None → Identifies b c tag
      → RefusesBefore members c d e → RefusesBefore (added_rule members) b d e
  added_there_by {tag = tag} whole i by none =
      let p = as_look whole i in
      looked_by members (added_rule members) p (λ bs rest left is h. at_members p.ahead tag rest is h)
      (by (ap (λ (z : State). z.last) p.same ∙ none))

  -- they were read
  pub added_leads : {b c d : State} {tag : ℕ} → b.implicit_tag ≡ None → Identifies b c tag → LeadsTo members c d
      → LeadsTo (added_rule members) b d
  added_leads whole i leads none last e by = added_there_by whole i (λ still. leads still last e by) none

  -- the end is here, so that nothing is left over after it
  pub added_ends : {b c : State} → HasNoMore b c → LeadsTo (added_rule members) b c
  added_ends n none last e by j bs left k l =
      let h = subst (λ z. RefusesBy end_rule z last e) n.same by j bs left k l in
      absurd (omega (arith, h.more, n.reached))

-- ---- whole lists of one type

module _ {V : Type 0} (meaning : V → Tree) (s : Shape) (rule : Rule) {tag : ℕ} (is : IsListTag tag) where
  -- there is no header
  pub list_header_by : {a c : State} {e : Asn1DerError} → RefusesList tag a c e
      → RefusesBy (list_of_rule meaning s (list_kind tag) rule) a c e
  list_header_by {a} {c} {e} h = header_by (each_rule meaning s (IsInOrder (list_kind tag)) rule)
      (subst (λ t. RefusesList t a c e) (sym (list_tagged is)) h)

  -- a member was refused
  pub list_member_by : {a b c : State} {outer : EnclosingEnd} {e : Asn1DerError} → OpensList tag a b outer
      → RefusesEachBy meaning s rule b c e → RefusesBy (list_of_rule meaning s (list_kind tag) rule) a c e
  list_member_by {a} {b} {c} {outer} {e} h by =
      let o = subst (λ t. OpensList t a b outer) (sym (list_tagged is)) h in
      content_by (each_rule meaning s (IsInOrder (list_kind tag)) rule) o (each_whole (list_kind tag) o by)

-- ---- structs

module _ (members : Rule) where
  none_before : {a b : State} {outer : EnclosingEnd} → OpensList 0x30 a b outer → b.last ≡ None
  none_before o = ap (λ (z : State). z.last) o.opened

  pub struct_member_by : {a b c : State} {outer : EnclosingEnd} {e : Asn1DerError} → OpensList 0x30 a b outer
      → RefusesBefore members b c e → RefusesBy (fields_rule ListKind.sequence members) a c e
  struct_member_by o by = content_by members o (by (none_before o))

  pub struct_end_by : {a b c d : State} {outer : EnclosingEnd} {e : Asn1DerError} → OpensList 0x30 a b outer
      → LeadsTo members b c → RefusesClose c d e → RefusesBy (fields_rule ListKind.sequence members) a d e
  struct_end_by {d = d} {e = e} o leads h = content_by members o (leads (none_before o) d e (end_by h))
