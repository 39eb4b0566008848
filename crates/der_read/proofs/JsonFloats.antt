-- The JSON of a message has no float.
use Rattle.std.proofs.Common.{◌≡◌, ◌++◌, ℕ, Bool, true, false, ◌||◌, inl, inr, ℤ, pos, negsuc, List, [], ◌∷◌, refl}
use Rattle.std.proofs.Common.{if◌then◌else◌}
use Rattle.std.specs.Cmp.Lexicographic.{slice_cmp}
use Rattle.std.specs.declared.cmp.Ordering.TheVariants.{Less, Equal, Greater}
use Rattle.std.specs.Ordering.{nat_cmp, match_ordering}
use Rattle.serde_json.specs.Data.{Data, object, string, number, Members, no_members, member, put}
use Rattle.serde_json.specs.Find.{of_integer}
use Rattle.serde_json.specs.View.{items_of}
use Rattle.serde_json.specs.Written.{has_float, items_have_float, members_have_float}
use Rattle.picky_der_core.specs.declared.asn1.wrapper.Wrapper.{Wrapper}
use Rattle.picky_der_core.specs.declared.asn1.wrapper.Wrapper.TheVariants as wrapper
use Rattle.picky_der_core.specs.Integer.{fits_signed, fits_unsigned, integer_value}
use Rattle.picky_der_core.specs.Wrapper.{keeps_header}
use Rattle.der_schema.specs.declared.node.Kind.{Kind}
use Rattle.der_schema.specs.declared.node.Kind.TheVariants as kind
use Rattle.der_schema.specs.declared.node.Member.{Member}
use Rattle.der_schema.specs.declared.node.Node.{Node}
use Rattle.der_json.specs.Contents.{IsContentJson}
use Rattle.der_json.specs.Json.{IsJson, AreItems, AreMembers, wrapped_data}
use Rattle.der_json.specs.Numbers.{IsNumberJson, integer_data, integer_text}

-- ---- neither of two is true

left_false : (a b : Bool) → (a || b) ≡ false → a ≡ false
left_false false b e = refl
left_false true b e = cc

right_false : (a b : Bool) → (a || b) ≡ false → b ≡ false
right_false false b e = e
right_false true b e = cc

both_false : (a b : Bool) → a ≡ false → b ≡ false → (a || b) ≡ false
both_false a b p q = rw (p, q) refl

-- ---- contents

integer_no_float : (z : ℤ) → has_float (number (of_integer z)) ≡ false
integer_no_float (pos n) = refl
integer_no_float (negsuc n) = refl

number_no_float : (s : List ℕ) (d : Data) → IsNumberJson s d → has_float d ≡ false
number_no_float s d h =
    let z = integer_value s in
    rw h.is (elim (fits_unsigned 64 z || fits_signed 64 z) as (λ b. has_float (if b then number (of_integer z)
    else string (integer_text z)) ≡ false) [
      | true ↦ integer_no_float z
      | false ↦ refl
    ])

content_no_float : (k : Kind) (s : List ℕ) (d : Data) → IsContentJson k s d → has_float d ≡ false
content_no_float kind.Boolean s d h = rw h.2 refl
content_no_float kind.Integer s d h = number_no_float s d h
content_no_float (kind.NamedInteger items) s d h = number_no_float s d h
content_no_float (kind.Unsigned bits) s d h = number_no_float s d h
content_no_float (kind.Signed bits) s d h = number_no_float s d h
content_no_float (kind.Enumerated items) s d h = rw h.is refl
content_no_float (kind.ExtensibleEnumerated items) s d (inl h) = rw h.is refl
content_no_float (kind.ExtensibleEnumerated items) s d (inr h) = number_no_float s d h
content_no_float kind.BitString s d h = rw h.is refl
content_no_float (kind.NamedBits items) s d h = rw h.is refl
content_no_float kind.OctetString s d h = rw h refl
content_no_float kind.Null s d h = rw h.1 refl
content_no_float kind.ObjectIdentifier s d h = rw h.is refl
content_no_float kind.RelativeOid s d h = rw h.is refl
content_no_float kind.Utf8String s d h = rw h.is refl
content_no_float kind.Character s d h = rw h.is refl
content_no_float (kind.RestrictedString tag) s d h = rw h.is refl
content_no_float kind.GeneralizedTime s d h = rw h.1.is refl
content_no_float kind.LaterTime s d h = rw h.1.is refl
content_no_float kind.UtcTime s d h = rw h.1.is refl
content_no_float (kind.AnyContent tag) s d h = rw h refl
content_no_float _ s d h = absurd h

-- ---- members

put_no_float : (k : List ℕ) (d : Data) (ms : Members) → has_float d ≡ false → members_have_float ms ≡ false
    → members_have_float (put k d ms) ≡ false
put_no_float k d no_members p q = rw p refl
put_no_float k d (member l e ms) p q =
    let here = left_false (has_float e) (members_have_float ms) q in
    let later = right_false (has_float e) (members_have_float ms) q in
    elim (slice_cmp nat_cmp k l) as (λ o. members_have_float (match_ordering o (member k d (member l e ms))
    (member l d ms) (member l e (put k d ms))) ≡ false) [
      | Less ↦ both_false (has_float d) (has_float e || members_have_float ms) p q
      | Equal ↦ both_false (has_float d) (members_have_float ms) p later
      | Greater ↦ both_false (has_float e) (members_have_float (put k d ms)) here (put_no_float k d ms p later)
    ]

one_member_no_float : (k : List ℕ) (d : Data) → has_float d ≡ false → has_float (object (member k d no_members)) ≡ false
one_member_no_float k d p = rw p refl

wrapped_no_float : (w : Wrapper) (d : Data) → has_float d ≡ false → has_float (wrapped_data w d) ≡ false
wrapped_no_float wrapper.OctetContainer d p = rw p refl
wrapped_no_float wrapper.BitContainer d p = rw p refl
wrapped_no_float _ d p = p

-- ---- values

mutual
  pub json_no_float : (nodes : List Node) (i : ℕ) (header : Bool) (bytes : List ℕ) (d : Data)
      → IsJson nodes i header bytes d → has_float d ≡ false
  json_no_float _ _ _ _ _ (IsJson.plain nodes i header k bytes d of h) = content_no_float k h.content d h.json
  json_no_float _ _ _ _ _ (IsJson.same nodes i j header k bytes d of same h) = json_no_float nodes j header bytes d h
  json_no_float _ _ _ _ _ (IsJson.sequence nodes i header k members content bytes d of is encoded h) =
      members_no_float nodes members content no_members d h refl
  json_no_float _ _ _ _ _ (IsJson.list nodes i j tag header k content bytes ds of is encoded h) =
      items_no_float nodes j content ds h
  json_no_float _ _ _ _ _ (IsJson.choice nodes i place header k alternatives a bytes d of is there h) =
      one_member_no_float a.name.now d (json_no_float nodes a.node header bytes d h)
  json_no_float _ _ _ _ _ (IsJson.wrapped nodes i j header w inner bytes d of encoded h) =
      wrapped_no_float w d (json_no_float nodes j (keeps_header w) inner d h)
  json_no_float _ _ _ _ _ (IsJson.content-under nodes i j tag header content bytes d of encoded h) =
      json_no_float nodes j false content d h
  json_no_float _ _ _ _ _ (IsJson.any nodes i header k bytes d of is h) = rw h.is refl

  members_no_float : (nodes : List Node) (members : List Member) (content : List ℕ) (before : Members) (d : Data)
      → AreMembers nodes members content before d → members_have_float before ≡ false → has_float d ≡ false
  members_no_float _ _ _ _ _ (AreMembers.end-of-members nodes ms) p = p
  members_no_float _ _ _ _ _ (AreMembers.there nodes m others first rest d before whole here later) p =
      members_no_float nodes others rest (put m.name.now d before) whole later
      (put_no_float m.name.now d before (json_no_float nodes m.node true first d here) p)
  members_no_float _ _ _ _ _ (AreMembers.absent nodes m others bytes before whole absent later) p =
      members_no_float nodes others bytes before whole later p

  items_no_float : (nodes : List Node) (i : ℕ) (content : List ℕ) (ds : List Data) → AreItems nodes i content ds
      → items_have_float (items_of ds) ≡ false
  items_no_float _ _ _ _ (AreItems.end-of-items nodes i) = refl
  items_no_float _ _ _ _ (AreItems.item nodes i first rest d ds here later) =
      both_false (has_float d) (items_have_float (items_of ds)) (json_no_float nodes i true first d here)
      (items_no_float nodes i rest ds later)
