use Rattle.std.proofs.Common.{refl, sym, ap, ◌∙◌}
use Rattle.std.specs.List.{list_any}
use Rattle.der_program_base.specs.Guess.{guess_of, is_mail_field, has_hyphens}
use Rattle.der_program_base.proofs.guess.guess_of.Goals as goal

pub returns-then-is_blank : goal.returns-then-is_blank
unfolding guess_of
returns-then-is_blank c =
    rw (sym c.is_blank.ensures ∙ c.if-is_blank.true) refl

pub returns-then-is_hexadecimal : goal.returns-then-is_hexadecimal
unfolding guess_of
returns-then-is_hexadecimal c =
    rw (
      sym c.is_blank.ensures ∙ c.if-is_blank.false,
      sym c.is_hexadecimal.ensures ∙ c.if-is_hexadecimal.true,
    ) refl

pub returns-then-branch : goal.returns-then-branch
unfolding guess_of
returns-then-branch c =
    rw (
      sym c.is_blank.ensures ∙ c.if-is_blank.false,
      sym c.is_hexadecimal.ensures ∙ c.if-is_hexadecimal.false,
      sym c.in_ok-is_base64.ensures ∙ c.if-branch.true,
    ) refl

pub returns-then-some_mail_field : goal.returns-then-some_mail_field
unfolding guess_of
returns-then-some_mail_field c =
    rw (
      sym c.is_blank.ensures ∙ c.if-is_blank.false,
      sym c.is_hexadecimal.ensures ∙ c.if-is_hexadecimal.false,
      sym c.in_ok-is_base64.ensures ∙ c.if-branch.false,
      sym (c.some_mail_field.ensures ∙ ap (list_any is_mail_field) c.requires) ∙ c.if-some_mail_field.true,
    ) refl

pub returns-then-some_hyphens : goal.returns-then-some_hyphens
unfolding guess_of
returns-then-some_hyphens c =
    rw (
      sym c.is_blank.ensures ∙ c.if-is_blank.false,
      sym c.is_hexadecimal.ensures ∙ c.if-is_hexadecimal.false,
      sym c.in_ok-is_base64.ensures ∙ c.if-branch.false,
      sym (c.some_mail_field.ensures ∙ ap (list_any is_mail_field) c.requires) ∙ c.if-some_mail_field.false,
      sym (c.some_hyphens.ensures ∙ ap (list_any has_hyphens) c.requires) ∙ c.if-some_hyphens.true,
    ) refl

pub returns : goal.returns
unfolding guess_of
returns c =
    rw (
      sym c.is_blank.ensures ∙ c.if-is_blank.false,
      sym c.is_hexadecimal.ensures ∙ c.if-is_hexadecimal.false,
      sym c.in_ok-is_base64.ensures ∙ c.if-branch.false,
      sym (c.some_mail_field.ensures ∙ ap (list_any is_mail_field) c.requires) ∙ c.if-some_mail_field.false,
      sym (c.some_hyphens.ensures ∙ ap (list_any has_hyphens) c.requires) ∙ c.if-some_hyphens.false,
    ) refl
