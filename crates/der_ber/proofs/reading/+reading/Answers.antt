use Rattle.std.proofs.Common.{◌≡◌, ◌+◌, ◌-◌, length, refl, ap, ◌∙◌, set, arith}
use Rattle.std.proofs.lemmas.Result.{err_from_is_err_and, IfOk-weaker, IfErr-weaker}
use Rattle.der_ber.specs.declared.parts.Part.{Part}
use Rattle.der_ber.specs.declared.parts.Part.TheVariants as part
use Rattle.der_ber.proofs.ReadingLemmas.{read_nothing, read_more, rest_within, fails_after, read_primitive}
use Rattle.der_ber.proofs.ReadingLemmas.{read_definite, read_indefinite, fails_here, fails_definite, fails_indefinite}
use Rattle.der_ber.proofs.ReadingLemmas.{read_inside}
use Rattle.der_ber.proofs.StringReading.{read_string, fails_string, fails_inside}
use Rattle.der_ber.proofs.reading.+reading.Goals as goal

-- ---- read_elements

pub read_elements-loop-after-init : goal.read_elements-loop-after-init
read_elements-loop-after-init t c = read_nothing c.args.strings c.args.room c.args.bytes.now c.args.parts.now.items

pub read_elements-returns-in-Some-clause-ok : goal.read_elements-returns-in-Some-clause-ok
read_elements-returns-in-Some-clause-ok t c =
    record { rest = c.loop-after.rest.now; read = c.loop-after.invariant; end = c.in-Some.ensures }

pub read_elements-overflow_sub-place : goal.read_elements-overflow_sub-place
read_elements-overflow_sub-place t c =
    omega (
      arith,
      rest_within c.args.strings c.args.room c.args.bytes.now c.args.parts.now.items c.loop-after.parts.items
          c.loop-after.size c.loop-after.rest.now c.loop-after.invariant,
    )

pub read_elements-overflow_add-place : goal.read_elements-overflow_add-place
read_elements-overflow_add-place t c =
    omega (
      arith,
      rest_within c.args.strings c.args.room c.args.bytes.now c.args.parts.now.items c.loop-after.parts.items
          c.loop-after.size c.loop-after.rest.now c.loop-after.invariant,
      c.requires,
    )

pub read_elements-read_element-requires : goal.read_elements-read_element-requires
read_elements-read_element-requires t c =
    let within =
    rest_within c.args.strings c.args.room c.args.bytes.now c.args.parts.now.items c.loop-after.parts.items
    c.loop-after.size c.loop-after.rest.now c.loop-after.invariant in (
      omega (arith, c.decreases),
      omega (arith, c.requires),
    )

pub read_elements-returns-in_err-added-clause-err : goal.read_elements-returns-in_err-added-clause-err
read_elements-returns-in_err-added-clause-err t c =
    let p = err_from_is_err_and c.from_residual.result c.from_residual.ensures.1 in
    rw (p.1, p.2) (fails_after c.args.until c.args.strings c.args.room c.args.offset _ c.args.bytes.now
    c.args.parts.now.items c.loop-after.parts.items c.loop-after.size c.loop-after.rest.now _ c.loop-after.invariant
    c.in_default.ensures refl c.in_err-added.ensures.err)

pub read_elements-loop-after-preserved : goal.read_elements-loop-after-preserved
read_elements-loop-after-preserved t c =
    read_more c.args.strings c.args.room c.args.bytes.now c.loop-after.rest.now c.args.parts.now.items
    c.loop-after.parts.items c.loop-after.size c.loop-after.invariant _ c.in_ok-added.added _ c.in_ok-added.after.now
    c.in_ok-added.ensures.ok c.in_ok-size.ensures.ok

-- ---- read_element

pub read_element-returns-in_err-after-clause-err : goal.read_element-returns-in_err-after-clause-err
read_element-returns-in_err-after-clause-err t c =
    let p = err_from_is_err_and c.from_residual.result c.from_residual.ensures.1 in
    rw (p.1, p.2) (fails_inside c.args.strings c.in-Some.string c.args.room c.args.offset c.args.bytes.now _
    c.in-Some.ensures c.in_err-after.ensures.err)

pub read_element-returns-in_err-content_len-clause-err : goal.read_element-returns-in_err-content_len-clause-err
read_element-returns-in_err-content_len-clause-err t c =
    let p =
    err_from_is_err_and c.from_residual-in_err-content_len.result c.from_residual-in_err-content_len.ensures.1 in
    let as_many : c.len-place.result + 1 ≡ length c.args.parts.now.items + 1 =
    omega (arith, c.len-place.ensures, c.args.parts.now.ok.0) in
    rw (p.1, p.2) (fails_string c.args.bytes.now c.in-Some.string c.args.strings c.in-Some.ensures c.args.room
    c.args.parts.now.items c.read_front-2.new.parts.items _ c.in_ok-after.after.now c.in_ok-after.ensures.ok
    c.split_off.new.self.items c.deref.result.now (c.len-place.result + 1) as_many c.in_ok-inside.ensures.items
    (c.deref.ensures.value ∙ c.in_ok-inside.ensures.tail) c.args.offset _ c.in_err-content_len.ensures.err)

pub read_element-returns-clause-ok : goal.read_element-returns-clause-ok
read_element-returns-clause-ok t c =
    let place : c.len-place.result ≡ length c.args.parts.now.items =
    omega (arith, c.len-place.ensures, c.args.parts.now.ok.0) in
    let as_many : c.len-place.result + 1 ≡ length c.args.parts.now.items + 1 = omega arith in
    let last : Part = part.Header c.in-Some.string.tag c.in_ok-content_len.content_len in
    read_string c.args.bytes.now c.in-Some.string c.args.strings c.in-Some.ensures c.args.room c.args.parts.now.items
    c.read_front-2.new.parts.items _ c.in_ok-after.after.now c.in_ok-after.ensures.ok c.split_off.new.self.items
    c.deref.result.now (c.len-place.result + 1) as_many c.in_ok-inside.ensures.items
    (c.deref.ensures.value ∙ c.in_ok-inside.ensures.tail) c.push_content.new.parts.items _ last
    c.in_ok-content_len.content_len _ c.in_ok-content_len.ensures.ok
    (ap (λ n. set c.push_content.new.parts.items n last) place) refl c.in_ok-element_size.ensures.ok

-- ---- read_front

pub read_front-returns-in-Broken-clause-err : goal.read_front-returns-in-Broken-clause-err
read_front-returns-in-Broken-clause-err t c =
    fails_here c.args.strings c.args.room c.args.offset c.args.bytes.now c.in-Broken.rule c.in-Broken.ensures

pub read_front-returns-in_ok-element_size-in-Primitive-clause-ok :
    goal.read_front-returns-in_ok-element_size-in-Primitive-clause-ok
read_front-returns-in_ok-element_size-in-Primitive-clause-ok t c =
    let d = c.in-Primitive in
    read_primitive c.args.strings c.args.room d.tag d.content.now c.args.bytes.now d.after.now c.args.parts.now.items
    _ _ _ _ d.ensures.0 d.ensures.1 c.in_ok-extend_from_slice-in-Primitive.ensures.items refl refl refl (λ _. refl)
    c.in_ok-element_size-in-Primitive.ensures.ok

pub read_front-returns-in_err-size-in-Definite-clause-err : goal.read_front-returns-in_err-size-in-Definite-clause-err
read_front-returns-in_err-size-in-Definite-clause-err t c =
    let p =
    err_from_is_err_and c.from_residual-in_err-size-in-Definite.result
    c.from_residual-in_err-size-in-Definite.ensures.1 in
    let d = c.in-Definite in
    rw (p.1, p.2) (fails_definite c.args.strings c.args.room c.args.offset _ c.args.bytes.now d.content.now _
    d.ensures.0 c.requires.stays d.tag _ d.after.now d.ensures.1 d.ensures.2 refl refl
    c.in_err-size-in-Definite.ensures.err)

pub read_front-returns-in_ok-size-in-Definite-clause-ok : goal.read_front-returns-in_ok-size-in-Definite-clause-ok
read_front-returns-in_ok-size-in-Definite-clause-ok t c =
    let d = c.in-Definite in
    read_definite c.args.strings c.args.room d.tag d.content.now c.args.bytes.now d.after.now c.args.parts.now.items _
    _ _ d.ensures.1 d.ensures.2 c.requires.stays c.in_ok-size-in-Definite.ensures.ok

pub read_front-returns-in-Indefinite-clause-ok : goal.read_front-returns-in-Indefinite-clause-ok
read_front-returns-in-Indefinite-clause-ok t c =
    let d = c.in-Indefinite in
    IfOk-weaker c.read_inside-in-Indefinite.result _ _
    (λ it h. read_indefinite c.args.strings c.args.room d.tag d.inside.now c.args.bytes.now _ c.args.parts.now.items _ _
    d.ensures.1 d.ensures.2 c.requires.stays h) c.read_inside-in-Indefinite.ensures.ok

pub read_front-returns-in-Indefinite-clause-err : goal.read_front-returns-in-Indefinite-clause-err
read_front-returns-in-Indefinite-clause-err t c =
    let d = c.in-Indefinite in
    IfErr-weaker c.read_inside-in-Indefinite.result _ _
    (λ e f. fails_indefinite c.args.strings c.args.room c.args.offset _ c.args.bytes.now d.inside.now e d.ensures.0
    c.requires.stays d.tag d.ensures.1 d.ensures.2 refl f) c.read_inside-in-Indefinite.ensures.err

-- ---- read_inside

pub read_inside-returns-clause-ok : goal.read_inside-returns-clause-ok
read_inside-returns-clause-ok t c =
    let place : c.len-place.result ≡ length c.args.parts.now.items =
    omega (arith, c.len-place.ensures, c.args.parts.now.ok.0) in
    let last : Part = part.Header c.args.tag c.in_ok-content_len.content_len in
    read_inside c.args.tag c.args.until c.args.strings c.args.room (c.args.room - 1) c.args.bytes.now
    c.args.parts.now.items c.extend_from_slice.new.self.items c.read_elements.new.parts.items _ _ last
    c.in_ok-content_len.content_len _ c.in_ok-content_len.after.now (omega (arith, c.requires.room))
    c.in_ok-extend_from_slice.ensures.items c.in_ok-content_len.ensures.ok
    (ap (λ n. set c.read_elements.new.parts.items n last) place) refl c.in_ok-element_size.ensures.ok
