use Rattle.std.proofs.Common.{rules, arith, ◌≡◌, ◌<◌, ◌^◌, true, length, refl, subst}
use Rattle.std.specs.Prelude.{slice_range}
use Rattle.picky_der_core.specs.Tag.{is_constructed}
use Rattle.der_show.specs.declared.walk.Next.TheVariants as next
use Rattle.der_show.specs.Ends.{innermost}
use Rattle.der_show.specs.Outlines.{Breaks, IsFound, listed_at}
use Rattle.der_show.specs.Walks.{open_ends, AreKept, IsNext, ahead_of}
use Rattle.der_show.proofs.WalkLemmas.{comes_next, found_fits}
use Rattle.der_show.proofs.walk.next_element.Goals.{else-at-eq0-via-then-at-eq0+else-at-bytes}
use Rattle.der_show.proofs.walk.next_element.Goals.{else-at-eq0-via-else-at-eq0}
use Rattle.der_show.proofs.walk.next_element.Goals as goal

pub returns-then-at-bytes : goal.returns-then-at-bytes
returns-then-at-bytes c =
    let bytes = c.args.bytes.now in
    let at = c.args.at in
    let ends = c.args.ends.now in
    let small : length bytes < 2 ^ 64 = omega arith in
    let kept : AreKept at ends at ends = record { place = refl; ends = refl } in
    let is : IsNext bytes at ends at ends next.End =
    IsNext.end (record { depth = omega (arith, c.if-at-eq0.true); offset = omega (arith, c.if-at-bytes.true) }) kept
    refl in
    record { next = is; walk = λ es w. comes_next bytes small at ends at ends es w next.End is }

pub returns-in_default : goal.returns-in_default
returns-in_default c =
    let bytes = c.args.bytes.now in
    let at = c.args.at in
    let ends = c.args.ends.now in
    let small : length bytes < 2 ^ 64 = omega arith in
    let kept : AreKept at ends at ends = record { place = refl; ends = refl } in
    let is : IsNext bytes at ends at ends next.NoPlace = IsNext.no_place
    (λ e. elim c.else-at-eq0.branch [
      | else-at-eq0-via-then-at-eq0+else-at-bytes w ↦ omega (arith, e.offset, w.if-at-bytes.false)
      | else-at-eq0-via-else-at-eq0 w ↦ omega (arith, e.depth, w.if-at-eq0.false)
    ]) c.in_default.ensures kept refl in
    record { next = is; walk = λ es w. comes_next bytes small at ends at ends es w next.NoPlace is }

pub returns-in-Broken : goal.returns-in-Broken
returns-in-Broken c =
    let bytes = c.args.bytes.now in
    let at = c.args.at in
    let ends = c.args.ends.now in
    let small : length bytes < 2 ^ 64 = omega arith in
    let kept : AreKept at ends at ends = record { place = refl; ends = refl } in
    let breaks : Breaks (ahead_of bytes at ends) c.in-Broken.rule =
    subst (λ k. Breaks (slice_range bytes at.offset k) c.in-Broken.rule) c.in-Some.ensures.0
    (rw c.in-Broken.is at c.front_of.ensures) in
    let is : IsNext bytes at ends at ends (next.Broken c.in-Broken.rule) =
    IsNext.broken c.in-Broken.rule c.in-Some.ensures.1 breaks kept refl in
    record { next = is; walk = λ es w. comes_next bytes small at ends at ends es w (next.Broken c.in-Broken.rule) is }

pub returns-then-at-ends-clause-next : goal.returns-then-at-ends-clause-next
returns-then-at-ends-clause-next c =
    let bytes = c.args.bytes.now in
    let at = c.args.at in
    let ends = c.args.ends.now in
    let kept : AreKept at ends at ends = record { place = refl; ends = refl } in
    let found : IsFound (ahead_of bytes at ends) c.in-Element.header =
    subst (λ k. IsFound (slice_range bytes at.offset k) c.in-Element.header) c.in-Some.ensures.0
    (rw c.in-Element.is at c.front_of.ensures) in
    let bit : is_constructed c.in-Element.header.tag ≡ true =
    search (rules, c.is_constructed.ensures.bit, c.if-is_constructed.true) in
    IsNext.no_room c.in-Element.header found bit (omega (arith, c.if-at-ends.true)) kept refl

pub go_past-after-requires-clause-fits : goal.go_past-after-requires-clause-fits
go_past-after-requires-clause-fits c =
    let bytes = c.args.bytes.now in
    let small : length bytes < 2 ^ 64 = omega arith in
    let (same, inside) = c.in-Some.ensures in
    let fits = found_fits bytes c.args.at.offset c.in-Some.end c.in-Element.header (omega (arith, same, inside.low))
    (omega (arith, same, inside.high)) (rw c.in-Element.is at c.front_of.ensures) in
    omega (arith, fits, small)

pub returns : goal.returns
returns c =
    let bytes = c.args.bytes.now in
    let at = c.args.at in
    let ends = c.args.ends.now in
    let new = c.go_past-after.result in
    let news = c.go_past-after.new.ends in
    let header = c.in-Element.header in
    let small : length bytes < 2 ^ 64 = omega arith in
    let found : IsFound (ahead_of bytes at ends) header =
    subst (λ k. IsFound (slice_range bytes at.offset k) header) c.in-Some.ensures.0
    (rw c.in-Element.is at c.front_of.ensures) in
    let is : IsNext bytes at ends new news (next.Element (listed_at at.depth at.offset header)) = IsNext.element header
    (record {
      inside = c.in-Some.ensures.1;
      found = found;
      offset = c.go_past-after.ensures.offset;
      ends =
          c.go_past-after.ensures.ends;
      size = c.go_past-after.ensures.size;
    }) refl in
    record {
      next = is;
      walk =
          λ es w. comes_next bytes small at ends new news es w (next.Element (listed_at at.depth at.offset header)) is;
    }
