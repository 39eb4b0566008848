use Rattle.std.proofs.Common.{◌≡◌, ◌++◌, length, drop, slice_range, sym, ap, ◌∙◌, subst}
use Rattle.std.proofs.lemmas.Result.{err_from_is_err_and}
use Rattle.der_ber_types.specs.Order.{AreInOrder}
use Rattle.der_ber_types.proofs.Cutting.{one_from, ordered_from}
use Rattle.der_ber_types.proofs.Writing.{range-end}
use Rattle.der_ber_types.proofs.order.put_in_order.Goals as goal

pub returns-then-is_element : goal.returns-then-is_element
returns-then-is_element c =
    let bytes = c.args.der.now.items in
    let place = c.args.place in
    let slice = slice_range c.deref.result.now place (length c.deref.result.now) in
    let is : slice ≡ drop place bytes = range-end c.deref.result.now bytes place c.deref.ensures.value in
    record { ok = one_from bytes slice place is (c.is_element.ensures c.if-is_element.true); none = tt }

pub returns : goal.returns
returns c =
    let bytes = c.args.der.now.items in
    let place = c.args.place in
    let slice = slice_range c.deref.result.now place (length c.deref.result.now) in
    let is : slice ≡ drop place bytes = range-end c.deref.result.now bytes place c.deref.ensures.value in
    let cut = c.truncate.new.self.items in
    record {
      ok = ordered_from bytes slice cut c.in_ok-ordered.ordered.items c.extend_from_slice.new.self.items place is
          c.in_ok-ordered.ensures.ok c.truncate.ensures.items
          (c.in_ok-extend_from_slice.ensures.items ∙ ap (λ s. cut ++ s) c.deref-2.ensures.value);
      none = tt;
    }

pub returns-in_err-ordered-clause-none : goal.returns-in_err-ordered-clause-none
returns-in_err-ordered-clause-none c =
    let p = err_from_is_err_and c.from_residual.result c.from_residual.ensures.1 in
    let place = c.args.place in
    let slice = slice_range c.deref.result.now place (length c.deref.result.now) in
    let is : slice ≡ drop place c.args.der.now.items =
    range-end c.deref.result.now c.args.der.now.items place c.deref.ensures.value in
    rw (p.1, p.2) (λ some der order. c.in_err-ordered.ensures.none some der
    (subst (λ s. AreInOrder s der) (sym is) order))
