-- Why JSON isn't that of a value, and where.
use Rattle.std.specs.Prelude.{◌≡◌, List, [], ◌∷◌, Option, Some, None, option_and_then, string_bytes, ⊤}
use Rattle.serde_json.specs.Data.{Data}
use Rattle.serde_json.specs.Find.{as_array, as_bool, as_null, as_object, as_str, at, get}
use Rattle.der_json.specs.declared.refusal.FromJsonError.{FromJsonError}
use Rattle.der_json.specs.declared.refusal.FromJsonError.TheVariants as error
use Rattle.der_json.specs.declared.refusal.JsonForm.{JsonForm}
use Rattle.der_json.specs.declared.refusal.JsonForm.TheVariants as form
use Rattle.der_json.specs.declared.refusal.JsonMistake.{JsonMistake}
use Rattle.der_json.specs.declared.refusal.JsonMistake.TheVariants as mistake
use Rattle.der_json.specs.declared.refusal.JsonRefusal.{JsonRefusal}
use Rattle.der_json.specs.declared.refusal.JsonStep.{JsonStep}
use Rattle.der_json.specs.declared.refusal.JsonStep.TheVariants as step

-- what a step leads to
abbrev pub step_in : JsonStep → Data → Option Data
step_in (step.Member name) d = get (string_bytes name) d
step_in (step.Item index) d = at index d

-- what a path leads to
abbrev pub at_path : List JsonStep → Data → Option Data
at_path [] d = Some d
at_path (s ∷ path) d = option_and_then (at_path path) (step_in s d)

-- JSON isn't of a form
abbrev pub IsOtherForm : JsonForm → Data → Type 0
IsOtherForm form.Boolean d = as_bool d ≡ None
IsOtherForm form.Text d = as_str d ≡ None
IsOtherForm form.Null d = as_null d ≡ None
IsOtherForm form.Object d = as_object d ≡ None
IsOtherForm form.Array d = as_array d ≡ None
IsOtherForm _ d = ⊤

-- What a mistake says of the JSON at its place. Of most it says nothing.
abbrev pub IsMistake : JsonMistake → Data → Type 0
IsMistake (mistake.Form f) d = IsOtherForm f d
IsMistake (mistake.Missing name) d = get name.now d ≡ None
IsMistake _ d = ⊤

-- the path of a refusal leads to what has the mistake
pub record IsRefused (whole : Data) (refusal : JsonRefusal) : Type 0 where
  pub place : Data
  pub there : at_path refusal.path.items whole ≡ Some place
  pub mistaken : IsMistake refusal.mistake place

-- an error that isn't memory is such a refusal
abbrev pub IsRefusal : Data → FromJsonError → Type 0
IsRefusal whole (error.Text e) = ⊥
IsRefusal whole (error.Refused refusal) = IsRefused whole refusal
IsRefusal whole error.OutOfMemory = ⊤
