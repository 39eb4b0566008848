-- What comes of bytes with the JSON of a text.
use Rattle.std.proofs.Common.{◌≡◌, ℕ, List, Some, sym, subst}
use Rattle.serde_json.specs.Data.{Data}
use Rattle.serde_json.specs.Read.{read}
use Rattle.der_show.specs.Outlines.{AreElements}
use Rattle.der_read.specs.declared.from_json.FromJson.{FromJson}
use Rattle.der_read.specs.declared.from_json.FromJson.TheVariants as from_json
use Rattle.der_read.specs.declared.message_type.MessageType.{MessageType}
use Rattle.der_read.specs.Fitting.{IsMessage}
use Rattle.der_read.specs.JsonMessages.{IsAccepted, IsFromJson, IsJsonOf}

pub from_accepted : (t : MessageType) (text bytes : List ℕ) (d : Data) → read text ≡ Some d → IsJsonOf t bytes d
    → (it : FromJson) → IsAccepted t bytes it → IsFromJson t text it
from_accepted t text bytes d is json (from_json.Message v) h = record {
  value = d;
  is = is;
  json = subst (λ b. IsJsonOf t b d) (sym h.same) json;
  message = subst (IsMessage t) (sym h.same) h.message;
  in_der = subst AreElements (sym h.same) h.in_der;
}
from_accepted t text bytes d is json from_json.NoSchema h = absurd h
from_accepted t text bytes d is json (from_json.Refused reason) h = tt
