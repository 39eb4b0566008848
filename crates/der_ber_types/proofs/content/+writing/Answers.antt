use Rattle.std.proofs.Common.{◌≡◌, sym, ap, ◌∙◌, subst, refl, arith, length, length-append, drop}
use Rattle.std.proofs.Common.{slice_range}
use Rattle.der_ber_types.specs.Content.{IsContent, AreEach, AreMembers}
use Rattle.der_ber_types.specs.Contents.{AreJoinedBits}
use Rattle.der_ber_types.proofs.Writing.{pushed-shorter, each-none, each-more, each-end}
use Rattle.der_ber_types.proofs.Writing.{member-fewer, members-none, member-next, members-end}
use Rattle.der_ber_types.proofs.Writing.{nothing_left, something_left, appended-is, content-copied, content-of}
use Rattle.der_ber_types.proofs.Writing.{appended-slice, content-appended, content-sorted}
use Rattle.der_ber_types.proofs.Writing.{pushed, pushed-only, not_ahead-tag}
use Rattle.der_ber_types.proofs.Writing.{member-kept, member-cut, member-same, range-end}
use Rattle.std.proofs.lemmas.Bool.{false≢true}
use Rattle.der_ber_types.specs.Reordered.{AreReordered}
use Rattle.der_ber_types.proofs.content.+writing.Goals.{push_member-then-is_default, push_member-else-is_default}
use Rattle.der_ber_types.proofs.SetLemmas.{reordered-length}
use Rattle.der_ber_types.proofs.Cutting.{smaller_content}
use Rattle.der_ber_types.specs.Pushed.{IsPushed, IsNonePushed}
use Rattle.der_ber_types.specs.Refusals.{AreNotInOrder}
use Rattle.std.proofs.lemmas.Result.{err_from_is_err_and}
use Rattle.der_ber_types.proofs.Refusals.{no_each-front, no_each-tag, no_members-at, no_members-past, no_one-front}
use Rattle.der_ber_types.proofs.Refusals.{no_one-tag, no_one-more, no_front, no_member-front, no_member-tag}
use Rattle.der_ber_types.proofs.Refusals.{content-refused, no_content-parts, no_content-truth, no_content-members}
use Rattle.der_ber_types.proofs.Refusals.{no_content-each, no_content-bits, no_content-one, no_content-order}
use Rattle.der_ber_types.proofs.Refusals.{no_content-sorted, some-next, members-next}
use Rattle.der_ber_types.proofs.content.+writing.Goals as goal

-- ---- push_content

pub push_content-returns-in_ok-extend_from_slice-in-Same-clause-ok
    : goal.push_content-returns-in_ok-extend_from_slice-in-Same-clause-ok
push_content-returns-in_ok-extend_from_slice-in-Same-clause-ok t c =
    content-copied c.args.nodes.now c.args.inside c.args.content.now c.args.der.now.items
    c.extend_from_slice.new.self.items c.in-Same.is c.in_ok-extend_from_slice-in-Same.ensures.items

pub push_content-returns-in-Parts-clause-ok : goal.push_content-returns-in-Parts-clause-ok
push_content-returns-in-Parts-clause-ok t c =
    content-of c.args.nodes.now c.args.inside _ c.args.content.now c.args.der.now.items c.push_joined.new.der.items
    c.push_joined.result _ c.in-Parts.is (IsContent.parts c.args.content.now) c.push_joined.ensures.ok

pub push_content-returns-in-Parts-clause-none : goal.push_content-returns-in-Parts-clause-none
push_content-returns-in-Parts-clause-none t c =
    content-refused c.args.nodes.now c.args.inside _ c.args.content.now c.push_joined.result _ c.in-Parts.is
    (no_content-parts c.args.nodes.now c.args.content.now) c.push_joined.ensures.none

pub push_content-returns-in-Boolean-clause-ok : goal.push_content-returns-in-Boolean-clause-ok
push_content-returns-in-Boolean-clause-ok t c =
    content-of c.args.nodes.now c.args.inside _ c.args.content.now c.args.der.now.items c.push_truth.new.der.items
    c.push_truth.result _ c.in-Boolean.is (IsContent.boolean c.args.content.now) c.push_truth.ensures.ok

pub push_content-returns-in-Boolean-clause-none : goal.push_content-returns-in-Boolean-clause-none
push_content-returns-in-Boolean-clause-none t c =
    content-refused c.args.nodes.now c.args.inside _ c.args.content.now c.push_truth.result _ c.in-Boolean.is
    (no_content-truth c.args.nodes.now c.args.content.now) c.push_truth.ensures.none

pub push_content-returns-in-Members-clause-ok : goal.push_content-returns-in-Members-clause-ok
push_content-returns-in-Members-clause-ok t c =
    content-of c.args.nodes.now c.args.inside _ c.args.content.now c.args.der.now.items c.push_members.new.der.items
    c.push_members.result _ c.in-Members.is (IsContent.members c.in-Members.members c.args.content.now)
    c.push_members.ensures.ok

pub push_content-returns-in-Members-clause-none : goal.push_content-returns-in-Members-clause-none
push_content-returns-in-Members-clause-none t c =
    content-refused c.args.nodes.now c.args.inside _ c.args.content.now c.push_members.result _ c.in-Members.is
    (no_content-members c.args.nodes.now c.in-Members.members c.args.content.now) c.push_members.ensures.none

pub push_content-returns-in-Each-clause-ok : goal.push_content-returns-in-Each-clause-ok
push_content-returns-in-Each-clause-ok t c =
    content-of c.args.nodes.now c.args.inside _ c.args.content.now c.args.der.now.items c.push_each.new.der.items
    c.push_each.result _ c.in-Each.is (IsContent.each c.in-Each.index c.args.content.now) c.push_each.ensures.ok

pub push_content-returns-in-Each-clause-none : goal.push_content-returns-in-Each-clause-none
push_content-returns-in-Each-clause-none t c =
    content-refused c.args.nodes.now c.args.inside _ c.args.content.now c.push_each.result _ c.in-Each.is
    (no_content-each c.args.nodes.now c.in-Each.index c.args.content.now) c.push_each.ensures.none

pub push_content-returns-in-One-clause-ok : goal.push_content-returns-in-One-clause-ok
push_content-returns-in-One-clause-ok t c =
    content-of c.args.nodes.now c.args.inside _ c.args.content.now c.args.der.now.items c.push_one.new.der.items
    c.push_one.result _ c.in-One.is (IsContent.explicit c.in-One.index c.args.content.now) c.push_one.ensures.ok

pub push_content-returns-in-One-clause-none : goal.push_content-returns-in-One-clause-none
push_content-returns-in-One-clause-none t c =
    content-refused c.args.nodes.now c.args.inside _ c.args.content.now c.push_one.result _ c.in-One.is
    (no_content-one c.args.nodes.now c.in-One.index c.args.content.now) c.push_one.ensures.none

pub push_content-returns-in_ok-extend_from_slice-in-BitParts-clause-ok
    : goal.push_content-returns-in_ok-extend_from_slice-in-BitParts-clause-ok
push_content-returns-in_ok-extend_from_slice-in-BitParts-clause-ok t c =
    let content = c.args.content.now in
    let bits = c.in_ok-bits-in-BitParts in
    let old = c.args.der.now.items in
    let new = c.extend_from_slice-in-BitParts.new.self.items in
    content-appended c.args.nodes.now c.args.inside _ content old new (AreJoinedBits content) c.in-BitParts.is
    (IsContent.bit_parts content)
    (appended-slice (AreJoinedBits content) old new c.deref.result.now bits.bits.items bits.ensures.ok
    c.in_ok-extend_from_slice-in-BitParts.ensures.items c.deref.ensures.value)

pub push_content-returns-in_err-bits-in-BitParts-clause-none
    : goal.push_content-returns-in_err-bits-in-BitParts-clause-none
push_content-returns-in_err-bits-in-BitParts-clause-none t c =
    let residual = c.from_residual-in_err-bits-in-BitParts in
    let p = err_from_is_err_and residual.result residual.ensures.1 in
    let nodes = c.args.nodes.now in
    let content = c.args.content.now in
    rw (p.1, p.2) (λ some der is. no_content-bits nodes content (c.in_err-bits-in-BitParts.ensures.none some) der
    (subst (λ x. IsContent nodes x content der) c.in-BitParts.is is))

pub push_content-push_members-requires-in-AnyOrder : goal.push_content-push_members-requires-in-AnyOrder
push_content-push_members-requires-in-AnyOrder t c =
    let nodes = c.args.nodes.now in
    let same = reordered-length nodes c.in-AnyOrder.members.now c.args.content.now
    c.in_ok-ordered-in-AnyOrder.ordered.items c.in_ok-ordered-in-AnyOrder.ensures in
    (omega (arith, c.decreases, same, ap length c.deref-in-AnyOrder.ensures.value), tt)

pub push_content-returns-in_ok-ordered-in-AnyOrder-clause-ok
    : goal.push_content-returns-in_ok-ordered-in-AnyOrder-clause-ok
push_content-returns-in_ok-ordered-in-AnyOrder-clause-ok t c =
    let nodes = c.args.nodes.now in
    let content = c.args.content.now in
    let members = c.in-AnyOrder.members in
    let ordered = c.deref-in-AnyOrder.result.now in
    let order : AreReordered nodes members.now content ordered =
    subst (AreReordered nodes members.now content) (sym c.deref-in-AnyOrder.ensures.value)
    c.in_ok-ordered-in-AnyOrder.ensures in
    content-of nodes c.args.inside _ content c.args.der.now.items c.push_members-in-AnyOrder.new.der.items
    c.push_members-in-AnyOrder.result (AreMembers nodes members.now ordered) c.in-AnyOrder.is
    (λ der. IsContent.any_order members content ordered der order) c.push_members-in-AnyOrder.ensures.ok

pub push_content-returns-in_ok-ordered-in-AnyOrder-clause-none
    : goal.push_content-returns-in_ok-ordered-in-AnyOrder-clause-none
push_content-returns-in_ok-ordered-in-AnyOrder-clause-none t c =
    let nodes = c.args.nodes.now in
    let content = c.args.content.now in
    let members = c.in-AnyOrder.members in
    let ordered = c.deref-in-AnyOrder.result.now in
    let order : AreReordered nodes members.now content ordered =
    subst (AreReordered nodes members.now content) (sym c.deref-in-AnyOrder.ensures.value)
    c.in_ok-ordered-in-AnyOrder.ensures in
    content-refused nodes c.args.inside _ content c.push_members-in-AnyOrder.result _ c.in-AnyOrder.is
    (no_content-order nodes members content ordered order) c.push_members-in-AnyOrder.ensures.none

pub push_content-put_in_order-requires : goal.push_content-put_in_order-requires
push_content-put_in_order-requires t c =
    let old = c.args.der.now in
    let made = c.in_ok-push_each-in-Set.ensures.ok in
    omega (
      arith,
      c.len-place.ensures,
      old.ok.0,
      ap length made.appended ∙ length-append old.items made.in_der,
      c.push_each-in-Set.new.der.ok.0,
    )

pub push_content-returns-in_ok-push_each-in-Set-clause-ok : goal.push_content-returns-in_ok-push_each-in-Set-clause-ok
push_content-returns-in_ok-push_each-in-Set-clause-ok t c =
    let size : c.len-place.result ≡ length c.args.der.now.items =
    omega (arith, c.len-place.ensures, c.args.der.now.ok.0) in
    content-sorted c.args.nodes.now c.args.inside c.in-Set.index c.args.content.now c.args.der.now.items
    c.push_each-in-Set.new.der.items c.put_in_order.new.der.items c.len-place.result c.put_in_order.result c.in-Set.is
    size c.in_ok-push_each-in-Set.ensures.ok c.put_in_order.ensures.ok

pub push_content-returns-in_ok-push_each-in-Set-clause-none
    : goal.push_content-returns-in_ok-push_each-in-Set-clause-none
push_content-returns-in_ok-push_each-in-Set-clause-none t c =
    let nodes = c.args.nodes.now in
    let content = c.args.content.now in
    let i = c.in-Set.index in
    let old = c.args.der.now.items in
    let mid = c.push_each-in-Set.new.der.items in
    let place = c.len-place.result in
    let size : place ≡ length old = omega (arith, c.len-place.ensures, c.args.der.now.ok.0) in
    let made = c.in_ok-push_each-in-Set.ensures.ok in
    let elements = appended-is (AreEach nodes i content) old mid place made size in
    content-refused nodes c.args.inside _ content c.put_in_order.result (AreNotInOrder (drop place mid)) c.in-Set.is
    (λ none. no_content-sorted nodes i content made.in_der made.is (subst (λ s. AreNotInOrder s) elements none))
    c.put_in_order.ensures.none

-- ---- push_each

pub push_each-loop-rest-init : goal.push_each-loop-rest-init
push_each-loop-rest-init t c = record {
  fewer = omega arith;
  so_far = each-none c.args.nodes.now c.args.index c.args.bytes.now c.args.der.now.items;
  left = λ some. some;
}

pub push_each-loop-rest-smaller : goal.push_each-loop-rest-smaller
push_each-loop-rest-smaller t c =
    let nodes = c.args.nodes.now in
    let rest = c.loop-rest.rest.now in
    let after = c.in-Some.after.now in
    let pushed : IsPushed nodes c.args.index rest after c.loop-rest.der.items c.push_element.new.der.items =
    rw c.in-Some.is at c.in_ok-after.ensures.ok in
    pushed-shorter nodes c.args.index rest after c.loop-rest.der.items c.push_element.new.der.items pushed

pub push_each-loop-rest-preserved : goal.push_each-loop-rest-preserved
push_each-loop-rest-preserved t c =
    let nodes = c.args.nodes.now in
    let rest = c.loop-rest.rest.now in
    let after = c.in-Some.after.now in
    let pushed : IsPushed nodes c.args.index rest after c.loop-rest.der.items c.push_element.new.der.items =
    rw c.in-Some.is at c.in_ok-after.ensures.ok in
    record {
      fewer = omega (
        arith,
        pushed-shorter nodes c.args.index rest after c.loop-rest.der.items c.push_element.new.der.items pushed,
        c.loop-rest.invariant.fewer,
      );
      so_far = each-more nodes c.args.index c.args.bytes.now rest after c.args.der.now.items c.loop-rest.der.items
          c.push_element.new.der.items c.loop-rest.invariant.so_far pushed;
      left = λ some. some-next nodes c.args.index rest after c.loop-rest.der.items c.push_element.new.der.items pushed
          (c.loop-rest.invariant.left some);
    }

pub push_each-returns-clause-ok : goal.push_each-returns-clause-ok
push_each-returns-clause-ok t c =
    each-end c.args.nodes.now c.args.index c.args.bytes.now c.loop-rest.rest.now c.args.der.now.items
    c.loop-rest.der.items
    (nothing_left c.loop-rest.rest.now c.is_empty.result c.is_empty.ensures c.loop-rest-test.false)
    c.loop-rest.invariant.so_far

-- ---- push_members

pub push_members-loop-member-init : goal.push_members-loop-member-init
push_members-loop-member-init t c = record {
  fewer = omega arith;
  so_far = members-none c.args.nodes.now c.args.members.now c.args.bytes.now c.args.der.now.items;
  left = λ some. some;
}

pub push_members-loop-member-preserved : goal.push_members-loop-member-preserved
push_members-loop-member-preserved t c =
    let nodes = c.args.nodes.now in
    let rest = c.loop-member.rest.now in
    let after = c.in_ok-rest.rest.now in
    record {
      fewer = omega (arith, member-fewer nodes _ rest after _ _ c.in_ok-rest.ensures.ok, c.loop-member.invariant.fewer);
      so_far = member-next nodes c.args.members.now c.loop-member.member-index _ c.args.bytes.now rest after
          c.args.der.now.items c.loop-member.der.items c.push_member.new.der.items c.loop-member-test.true
          c.loop-member.invariant.so_far c.in_ok-rest.ensures.ok;
      left = λ some. members-next nodes c.args.members.now c.loop-member.member-index _ rest after
          c.loop-member.der.items c.push_member.new.der.items c.loop-member-test.true c.in_ok-rest.ensures.ok
          (c.loop-member.invariant.left some);
    }

pub push_members-returns-then-is_empty-clause-ok : goal.push_members-returns-then-is_empty-clause-ok
push_members-returns-then-is_empty-clause-ok t c =
    members-end c.args.nodes.now c.args.members.now c.loop-member.member-index c.args.bytes.now c.loop-member.rest.now
    c.args.der.now.items c.loop-member.der.items c.loop-member-test.false
    (nothing_left c.loop-member.rest.now c.is_empty.result c.is_empty.ensures c.if-is_empty.true)
    c.loop-member.invariant.so_far

-- ---- push_one

pub push_one-returns-then-is_empty-clause-ok : goal.push_one-returns-then-is_empty-clause-ok
push_one-returns-then-is_empty-clause-ok t c =
    let nodes = c.args.nodes.now in
    let bytes = c.args.bytes.now in
    let after = c.in-Some.after.now in
    let old = c.args.der.now.items in
    let new = c.push_element.new.der.items in
    let pushed : IsPushed nodes c.args.index bytes after old new = rw c.in-Some.is at c.in_ok-after.ensures.ok in
    pushed-only nodes c.args.index bytes after old new pushed
    (nothing_left after c.is_empty.result c.is_empty.ensures c.if-is_empty.true)

-- ---- push_element

pub push_element-push_content-requires : goal.push_element-push_content-requires
push_element-push_content-requires t c =
    let element = c.in-Some.element in
    let smaller =
    smaller_content c.args.bytes.now element.after.now element.tag element.content.now c.in-Some.ensures in
    (omega (arith, c.decreases, smaller), tt)

pub push_element-returns-in_default-inside_of : goal.push_element-returns-in_default-inside_of
push_element-returns-in_default-inside_of t c =
    let element = c.in-Some.element in
    record {
      ok = record {
        none = not_ahead-tag c.args.nodes.now c.args.index element.tag c.args.bytes.now element.content.now
            element.after.now c.in-Some.ensures c.in_default-inside_of.ensures.none;
        same = refl;
      };
      none = tt;
    }

pub push_member-returns : goal.push_member-returns
push_member-returns t c =
    let nodes = c.args.nodes.now in
    let m = c.args.member.now in
    let bytes = c.args.bytes.now in
    let after = c.in-Some.after.now in
    let old = c.args.der.now.items in
    let new = c.push_element.new.der.items in
    let place = c.len-place.result in
    let slice = slice_range c.deref.result.now place (length c.deref.result.now) in
    let pushed : IsPushed nodes m.node bytes after old new = rw c.in-Some.is at c.in_ok-after.ensures.ok in
    let size : place ≡ length old = omega (arith, c.len-place.ensures, c.args.der.now.ok.0) in
    let whole : slice ≡ drop place new = range-end c.deref.result.now new place c.deref.ensures.value in
    elim c.if-is_default.branch [
      | push_member-then-is_default w ↦ record {
        ok = member-cut nodes m bytes after old new slice c.if-is_default.der.items place pushed size whole
            (c.is_default.ensures.0 w.if-is_default.true)
            (ap (λ d. d.items) w.der-is ∙ w.truncate.ensures.items);
        none = tt;
      }
      | push_member-else-is_default w ↦ record {
        ok = member-same nodes m bytes after old new c.if-is_default.der.items (ap (λ d. d.items) w.der-is)
            (member-kept nodes m bytes after old new slice place pushed size whole
            (λ h. false≢true (sym w.if-is_default.false ∙ c.is_default.ensures.1 h)));
        none = tt;
      }
    ]

pub push_element-end_element-requires : goal.push_element-end_element-requires
push_element-end_element-requires t c =
    let old = c.args.der.now in
    let first = c.push_header.new.bytes.items in
    let made = c.in_ok-push_content.ensures.ok in
    let size : c.len-place.result ≡ length old.items = omega (arith, c.len-place.ensures, old.ok.0) in
    omega (
      arith,
      size,
      ap length c.in_ok-push_header.ensures ∙ length-append old.items _,
      ap length made.appended ∙ length-append first made.in_der,
      c.push_content.new.der.ok.0,
    )

pub push_element-returns : goal.push_element-returns
push_element-returns t c =
    let element = c.in-Some.element in
    let size : c.len-place.result ≡ length c.args.der.now.items =
    omega (arith, c.len-place.ensures, c.args.der.now.ok.0) in
    record {
      ok = pushed c.args.nodes.now c.args.index element.tag c.in-Some-inside_of.inside element.content.now
          c.args.bytes.now element.after.now c.args.der.now.items c.push_header.new.bytes.items
          c.push_content.new.der.items c.end_element.new.bytes.items c.tag_in_der.result (length element.content.now)
          c.in-Some.ensures c.in-Some-inside_of.ensures.some c.tag_in_der.ensures c.in_ok-push_header.ensures
          c.in_ok-push_content.ensures.ok
          (λ front content tag len. c.in_ok-end_element.ensures front content tag (len ∙ sym size));
      none = tt;
    }

-- ---- refusals

pub push_each-returns-in_err-after-clause-none : goal.push_each-returns-in_err-after-clause-none
push_each-returns-in_err-after-clause-none t c =
    let p = err_from_is_err_and c.from_residual.result c.from_residual.ensures.1 in
    let rest = c.loop-rest.rest.now in
    let more = something_left rest c.is_empty.result c.is_empty.ensures c.loop-rest-test.true in
    rw (p.1, p.2) (λ some der are. no_each-front c.args.nodes.now c.args.index rest more
    (c.in_err-after.ensures.none some) (c.loop-rest.invariant.left (record { der = der; are = are })))

pub push_each-returns-in_default-clause-none : goal.push_each-returns-in_default-clause-none
push_each-returns-in_default-clause-none t c =
    let nodes = c.args.nodes.now in
    let rest = c.loop-rest.rest.now in
    let more = something_left rest c.is_empty.result c.is_empty.ensures c.loop-rest-test.true in
    let none : IsNonePushed nodes c.args.index rest c.loop-rest.der.items c.push_element.new.der.items =
    rw c.in_default.is at c.in_ok-after.ensures.ok in
    λ wrong der are. no_each-tag nodes c.args.index rest more none.none
    (c.loop-rest.invariant.left (record { der = der; are = are }))

pub push_members-returns-in_err-rest-clause-none : goal.push_members-returns-in_err-rest-clause-none
push_members-returns-in_err-rest-clause-none t c =
    let p = err_from_is_err_and c.from_residual.result c.from_residual.ensures.1 in
    rw (p.1, p.2) (λ some der are. no_members-at c.args.nodes.now c.args.members.now c.loop-member.member-index _
    c.loop-member.rest.now c.loop-member-test.true (c.in_err-rest.ensures.none some)
    (c.loop-member.invariant.left (record { der = der; are = are })))

pub push_members-returns-else-is_empty-clause-none : goal.push_members-returns-else-is_empty-clause-none
push_members-returns-else-is_empty-clause-none t c =
    let rest = c.loop-member.rest.now in
    let more = something_left rest c.is_empty.result c.is_empty.ensures c.if-is_empty.false in
    λ wrong der are. no_members-past c.args.nodes.now c.args.members.now c.loop-member.member-index rest
    c.loop-member-test.false more (c.loop-member.invariant.left (record { der = der; are = are }))

pub push_one-returns-in_err-after-clause-none : goal.push_one-returns-in_err-after-clause-none
push_one-returns-in_err-after-clause-none t c =
    let p = err_from_is_err_and c.from_residual.result c.from_residual.ensures.1 in
    rw (p.1, p.2) (λ some. no_one-front c.args.nodes.now c.args.index c.args.bytes.now
    (c.in_err-after.ensures.none some))

pub push_one-returns-in_default-clause-none : goal.push_one-returns-in_default-clause-none
push_one-returns-in_default-clause-none t c =
    let nodes = c.args.nodes.now in
    let bytes = c.args.bytes.now in
    let none : IsNonePushed nodes c.args.index bytes c.args.der.now.items c.push_element.new.der.items =
    rw c.in_default.is at c.in_ok-after.ensures.ok in
    λ wrong. no_one-tag nodes c.args.index bytes none.none

pub push_one-returns-else-is_empty-clause-none : goal.push_one-returns-else-is_empty-clause-none
push_one-returns-else-is_empty-clause-none t c =
    let nodes = c.args.nodes.now in
    let bytes = c.args.bytes.now in
    let after = c.in-Some.after.now in
    let old = c.args.der.now.items in
    let new = c.push_element.new.der.items in
    let pushed : IsPushed nodes c.args.index bytes after old new = rw c.in-Some.is at c.in_ok-after.ensures.ok in
    λ wrong. no_one-more nodes c.args.index bytes after old new pushed
    (something_left after c.is_empty.result c.is_empty.ensures c.if-is_empty.false)

pub push_element-returns-in_err-push_content-clause-none : goal.push_element-returns-in_err-push_content-clause-none
push_element-returns-in_err-push_content-clause-none t c =
    let p = err_from_is_err_and c.from_residual-in_err-push_content.result
    c.from_residual-in_err-push_content.ensures.1 in
    let element = c.in-Some.element in
    rw (p.1, p.2) (λ some. no_front c.args.nodes.now c.args.index element.tag c.in-Some-inside_of.inside
    c.args.bytes.now element.content.now element.after.now c.in-Some.ensures c.in-Some-inside_of.ensures.some
    (c.in_err-push_content.ensures.none some))

pub push_member-returns-in_err-after-clause-none : goal.push_member-returns-in_err-after-clause-none
push_member-returns-in_err-after-clause-none t c =
    let p = err_from_is_err_and c.from_residual.result c.from_residual.ensures.1 in
    rw (p.1, p.2) (λ some. no_member-front c.args.nodes.now c.args.member.now c.args.bytes.now
    (c.in_err-after.ensures.none some))

pub push_member-returns-in-Required-clause-none : goal.push_member-returns-in-Required-clause-none
push_member-returns-in-Required-clause-none t c =
    let nodes = c.args.nodes.now in
    let m = c.args.member.now in
    let bytes = c.args.bytes.now in
    let none : IsNonePushed nodes m.node bytes c.args.der.now.items c.push_element.new.der.items =
    rw c.in_default.is at c.in_ok-after.ensures.ok in
    λ wrong. no_member-tag nodes m bytes none.none c.in-Required.is
