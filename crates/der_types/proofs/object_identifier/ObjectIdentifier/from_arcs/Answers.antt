use Rattle.std.proofs.Common.{◌∙◌, ap, sym}
use Rattle.der_types.specs.ObjectIdentifier.{is_object_identifier}
use Rattle.der_types.specs.ObjectIdentifierLaws.{valid-content}
use Rattle.der_types.proofs.OidTexts.{are_arcs-none}
use Rattle.der_types.proofs.object_identifier.ObjectIdentifier.from_arcs.Goals as goal

pub invariant_of-result : goal.invariant_of-result
invariant_of-result c =
    record {
      canonical = ap is_object_identifier (c.from_vec-content.ensures.items ∙ c.in_ok-content_of-in-None.ensures)
          ∙ valid-content c.args.arcs.now (are_arcs-none c.args.arcs.now (sym c.arcs_error.ensures ∙ c.in-None.is));
    }
