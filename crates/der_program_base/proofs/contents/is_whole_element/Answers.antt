use mathlib.Core.Bool.{true≢false}
use Rattle.std.proofs.Common.{refl, sym, arith, eq-eqb}
use Rattle.std.proofs.lemmas.Bool.Decides.{Decides-eqb}
use Rattle.der_program_base.proofs.Elements.{element_of, tag_of_element, length_of_element, no_length_no_element}
use Rattle.der_program_base.proofs.contents.is_whole_element.Goals as goal

pub returns-then-number-gt-MAX_NUMBER : goal.returns-then-number-gt-MAX_NUMBER
returns-then-number-gt-MAX_NUMBER c = (
  λ t. absurd (true≢false (sym t)),
  λ h. absurd (omega (
    arith,
    tag_of_element c.args.tag c.args.after.now h,
    c.number.ensures,
    c.if-number-gt-MAX_NUMBER.true,
  )),
)

pub returns-in-Ok : goal.returns-in-Ok
returns-in-Ok c =
    let read = c.in-Ok.ensures.ok in
    let content = c.deserialized.new.reader.now in (
      λ t. element_of c.args.tag c.in-Ok.length c.args.after.now content
          (omega (arith, c.number.ensures, c.if-number-gt-MAX_NUMBER.false)) read ((Decides-eqb _ _).0 t),
      λ h. eq-eqb _ _ (length_of_element c.args.tag c.in-Ok.length c.args.after.now content (omega arith)
          c.in-Ok.ensures.read h),
    )

pub returns-in-Err : goal.returns-in-Err
returns-in-Err c = (
  λ t. absurd (true≢false (sym t)),
  λ h. absurd (no_length_no_element c.args.tag c.args.after.now (omega arith) (c.in-Err.ensures.none refl) h),
)
