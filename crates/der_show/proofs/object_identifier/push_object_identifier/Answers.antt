use Rattle.std.proofs.Common.{ap, subst, sym, rules, ◌≡◌, ◌∙◌, ◌++◌, OnOk, option_map, ℕ, Bool, false, List, Option}
use Rattle.std.proofs.Common.{None, Some, if◌then◌else◌}
use Rattle.der_program_base.specs.Line.{shown}
use Rattle.der_program_base.specs.Texts.{marked_bytes}
use Rattle.der_types.specs.declared.object_identifier.ObjectIdentifier.{ObjectIdentifier}
use Rattle.der_types.specs.Dotted.{dotted_or_marked}
use Rattle.der_show.specs.ObjectIdentifiers.{content_of, has_wide_arc, identifier_text, known_name_of, named_text}
use Rattle.der_show.specs.ObjectIdentifiers.{fitted_arcs}
use Rattle.der_show.proofs.object_identifier.push_object_identifier.Goals as goal

-- the text, by what was found of the identifier
abbrev text_by : (id : ObjectIdentifier) (wide : Bool) (name : Option (List ℕ)) → List ℕ
text_by id wide name = if wide then marked_bytes (content_of id) else shown
    (named_text name (dotted_or_marked (fitted_arcs id)))

text_is : (id : ObjectIdentifier) (wide : Bool) (name : Option (List ℕ)) → wide ≡ has_wide_arc id
    → name ≡ known_name_of (content_of id) → text_by id wide name ≡ identifier_text id
text_is id wide name w n = ap (λ b. text_by id b name) w ∙ ap (text_by id (has_wide_arc id)) n

pub returns-in-Some : goal.returns-in-Some
returns-in-Some c =
    subst (λ t. OnOk c.write.result (c.write.new.self ≡ c.args.line.now ++ t))
    (text_is c.args.identifier.now false (Some c.in-Some.name.now) (search rules)
    (sym (ap (option_map (λ name. name.now)) c.in-Some.is)
    ∙ (c.known_name_of.ensures ∙ ap known_name_of c.content-2.ensures))) c.write.ensures

pub returns-in-None : goal.returns-in-None
returns-in-None c =
    subst (λ t. OnOk c.write-in-None.result (c.write-in-None.new.self ≡ c.args.line.now ++ t))
    (text_is c.args.identifier.now false None (search rules)
    (sym (ap (option_map (λ name. name.now)) c.in-None.is)
    ∙ (c.known_name_of.ensures ∙ ap known_name_of c.content-2.ensures))) c.write-in-None.ensures
