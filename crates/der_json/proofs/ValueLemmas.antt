-- What the JSON of a value is, from that of its parts.
use Rattle.std.proofs.Common.{◌≡◌, ℕ, Bool, true, false, List, [], ◌∷◌, ◌++◌, Option, Some, Result, IfOk, sym, ap, ◌∙◌}
use Rattle.std.proofs.Common.{refl, subst}
use Rattle.std.proofs.Common.{suc, ◌+◌, ◌<◌, ◌≤◌, add-one, append_assoc, append-nil, arith, drop, drop-cons, get_or}
use Rattle.std.proofs.Common.{drop_of_length-le, length, map}
use Rattle.std.proofs.lemmas.List.{map-append}
use Rattle.std.proofs.lemmas.Bool.{eqb-true}
use Rattle.std.specs.Prelude.{slice_get, ◌==◌}
use Rattle.std.proofs.lemmas.Result.{IfOk-weaker}
use Rattle.serde_json.specs.Data.{Data, Members, array, no_members, object, put}
use Rattle.serde_json.specs.View.{items_of, view}
use Rattle.serde_json.specs.declared.value.Value.{Value}
use Rattle.picky_der_core.specs.Element.{tlv}
use Rattle.picky_der_core.specs.Encoding.{plain_encoding}
use Rattle.picky_der_core.specs.Wrapper.{wrapper_tag, wrapper_front, keeps_header}
use Rattle.picky_der_core.specs.declared.asn1.wrapper.Wrapper.{Wrapper}
use Rattle.der_schema.specs.declared.node.Alternative.{Alternative}
use Rattle.der_schema.specs.declared.node.Kind.{Kind}
use Rattle.der_schema.specs.declared.node.Kind.TheVariants as kind
use Rattle.der_schema.specs.declared.node.Member.{Member}
use Rattle.der_schema.specs.declared.node.Node.{Node}
use Rattle.der_json.specs.Contents.{IsPlain}
use Rattle.der_json.specs.Json.{AreItems, AreMembers, IsAlternative, IsAny, IsArray, IsJson, IsOfKind, alternatives_in}
use Rattle.der_json.specs.Json.{can_be_absent, is_any, list_of, members_in, same_as, wrapped_data}

module _ {E : Type 0} (r : Result Value E) (nodes : List Node) (i : ℕ) (header : Bool) (bytes : List ℕ) where
  abbrev IsGiven : Type 0
  IsGiven = IfOk r (λ v. IsJson nodes i header bytes (view v))

  module _ (k : Kind) (of : IsOfKind nodes i k) where
    pub of_plain : IfOk r (λ v. IsPlain k header bytes (view v)) → IsGiven
    of_plain = IfOk-weaker r (λ v. IsPlain k header bytes (view v)) (λ v. IsJson nodes i header bytes (view v))
        (λ v h. IsJson.plain nodes i header k bytes (view v) of h)

    pub of_same : (j : ℕ) → same_as k ≡ Some j → IfOk r (λ v. IsJson nodes j header bytes (view v)) → IsGiven
    of_same j is = IfOk-weaker r (λ v. IsJson nodes j header bytes (view v)) (λ v. IsJson nodes i header bytes (view v))
        (λ v h. IsJson.same nodes i j header k bytes (view v) of is h)

    pub of_sequence : (members : List Member) (content : List ℕ) → members_in k ≡ Some members
        → bytes ≡ plain_encoding header 0x30 content
        → IfOk r (λ v. AreMembers nodes members content no_members (view v))
        → IsGiven
    of_sequence members content is encoded =
        IfOk-weaker r (λ v. AreMembers nodes members content no_members (view v))
        (λ v. IsJson nodes i header bytes (view v))
        (λ v h. IsJson.sequence nodes i header k members content bytes (view v) of is encoded h)

    pub of_list : (j tag : ℕ) (content : List ℕ) → list_of k ≡ Some (tag, j) → bytes ≡ plain_encoding header tag content
        → IfOk r (λ v. IsArray nodes j content (view v)) → IsGiven
    of_list j tag content is encoded =
        IfOk-weaker r (λ v. IsArray nodes j content (view v)) (λ v. IsJson nodes i header bytes (view v))
        (λ v h. subst (λ d. IsJson nodes i header bytes d) (sym h.is)
        (IsJson.list nodes i j tag header k content bytes h.items of is encoded h.each))

    pub of_choice : (alternatives : List Alternative) → alternatives_in k ≡ Some alternatives
        → IfOk r (λ v. IsAlternative nodes alternatives header bytes (view v)) → IsGiven
    of_choice alternatives is =
        IfOk-weaker r (λ v. IsAlternative nodes alternatives header bytes (view v))
        (λ v. IsJson nodes i header bytes (view v))
        (λ v h. subst (λ d. IsJson nodes i header bytes d) (sym h.is)
        (IsJson.choice nodes i h.place header k alternatives h.alternative bytes h.inside of is h.there h.json))

    pub of_any : is_any k ≡ true → IfOk r (λ v. IsAny bytes (view v)) → IsGiven
    of_any is = IfOk-weaker r (λ v. IsAny bytes (view v)) (λ v. IsJson nodes i header bytes (view v))
        (λ v h. IsJson.any nodes i header k bytes (view v) of is h)

  pub of_wrapped : (w : Wrapper) (j : ℕ) (inner : List ℕ) (d : Data) → IsOfKind nodes i (kind.Wrapped w j)
      → bytes ≡ tlv (wrapper_tag w) (wrapper_front w ++ inner) → IsJson nodes j (keeps_header w) inner d
      → IfOk r (λ v. view v ≡ wrapped_data w d) → IsGiven
  of_wrapped w j inner d of encoded json =
      IfOk-weaker r (λ v. view v ≡ wrapped_data w d) (λ v. IsJson nodes i header bytes (view v))
      (λ v e. subst (λ it. IsJson nodes i header bytes it) (sym e)
      (IsJson.wrapped nodes i j header w inner bytes d of encoded json))

  pub of_content_under : (tag j : ℕ) (content : List ℕ) → IsOfKind nodes i (kind.ContentUnder tag j)
      → bytes ≡ plain_encoding header tag content → IfOk r (λ v. IsJson nodes j false content (view v)) → IsGiven
  of_content_under tag j content of encoded =
      IfOk-weaker r (λ v. IsJson nodes j false content (view v)) (λ v. IsJson nodes i header bytes (view v))
      (λ v h. IsJson.content-under nodes i j tag header content bytes (view v) of encoded h)

-- ---- items

pub one_more_item : (nodes : List Node) (i : ℕ) (first after rest content : List ℕ) (v : Value) (list more : List Value)
    → rest ≡ first ++ after → IsJson nodes i true first (view v) → more ≡ list ++ (v ∷ [])
    → ((later : List Data) → AreItems nodes i rest later → AreItems nodes i content (map view list ++ later))
    → (later : List Data) → AreItems nodes i after later → AreItems nodes i content (map view more ++ later)
one_more_item nodes i first after rest content v list more parts json is before later items =
    let here : AreItems nodes i rest (view v ∷ later) =
    subst (λ bytes. AreItems nodes i bytes (view v ∷ later)) (sym parts)
    (AreItems.item nodes i first after (view v) later json items) in
    let same : map view list ++ (view v ∷ later) ≡ map view more ++ later =
    sym (ap (λ l. map view l ++ later) is ∙ ap (λ l. l ++ later) (map-append view list (v ∷ []))
    ∙ append_assoc (map view list) (view v ∷ []) later) in
    subst (AreItems nodes i content) same (before (view v ∷ later) here)

pub all_items : (nodes : List Node) (i : ℕ) (rest content : List ℕ) (list : List Value) → rest ≡ []
    → ((later : List Data) → AreItems nodes i rest later → AreItems nodes i content (map view list ++ later))
    → IsArray nodes i content (array (items_of (map view list)))
all_items nodes i rest content list none before =
    let items = before [] (subst (λ bytes. AreItems nodes i bytes []) (sym none) (AreItems.end-of-items nodes i)) in
    record {
      items = map view list;
      each = subst (AreItems nodes i content) (append-nil (map view list)) items;
      is = refl;
    }

-- ---- members

-- what the object with the members that are left is, it is that of all members
abbrev pub LeadsOn : List Node → List Member → List ℕ → List Member → List ℕ → Members → Type 0
LeadsOn nodes members content left rest now =
    (whole : Data) → AreMembers nodes left rest now whole → AreMembers nodes members content no_members whole

-- the member at an index, and those after it: `other` is what is past the end
members_at : (members : List Member) (i : ℕ) (other : Member) → i < length members
    → drop i members ≡ get_or members i other ∷ drop (i + 1) members
members_at members i other h =
    drop-cons members i other h ∙ ap (λ (k : ℕ). get_or members i other ∷ drop k members) (sym (add-one i))

pub one_more_member : (nodes : List Node) (members : List Member) (i : ℕ) (other : Member)
    (first after rest content : List ℕ) (d : Data) (before now : Members) → i < length members → rest ≡ first ++ after
    → IsJson nodes (get_or members i other).node true first d → now ≡ put (get_or members i other).name.now d before
    → LeadsOn nodes members content (drop i members) rest before
    → LeadsOn nodes members content (drop (i + 1) members) after now
one_more_member nodes members i other first after rest content d before now h parts json is goes whole others =
    let m : Member = get_or members i other in
    let these : AreMembers nodes (m ∷ drop (i + 1) members) (first ++ after) before whole =
    AreMembers.there nodes m (drop (i + 1) members) first after d before whole json
    (subst (λ (ms : Members). AreMembers nodes (drop (i + 1) members) after ms whole) is others) in
    goes whole (subst (λ (ms : List Member). AreMembers nodes ms rest before whole) (sym (members_at members i other h))
    (subst (λ (bytes : List ℕ). AreMembers nodes (m ∷ drop (i + 1) members) bytes before whole) (sym parts) these))

pub one_absent_member : (nodes : List Node) (members : List Member) (i : ℕ) (other : Member)
    (rest after content : List ℕ)
    (before now : Members) → i < length members → can_be_absent (get_or members i other).presence ≡ true → after ≡ rest
    → now ≡ before → LeadsOn nodes members content (drop i members) rest before
    → LeadsOn nodes members content (drop (i + 1) members) after now
one_absent_member nodes members i other rest after content before now h absent same is goes whole others =
    let m : Member = get_or members i other in
    let here : AreMembers nodes (drop (i + 1) members) rest before whole =
    subst (λ (bytes : List ℕ). AreMembers nodes (drop (i + 1) members) bytes before whole) same
    (subst (λ (ms : Members). AreMembers nodes (drop (i + 1) members) after ms whole) is others) in
    goes whole (subst (λ (ms : List Member). AreMembers nodes ms rest before whole) (sym (members_at members i other h))
    (AreMembers.absent nodes m (drop (i + 1) members) rest before whole absent here))

pub all_members : (nodes : List Node) (members : List Member) (i : ℕ) (rest content : List ℕ) (now : Members)
    → length members ≤ i → rest ≡ [] → LeadsOn nodes members content (drop i members) rest now
    → AreMembers nodes members content no_members (object now)
all_members nodes members i rest content now end none goes =
    goes (object now) (subst (λ ms. AreMembers nodes ms rest now (object now)) (sym (drop_of_length-le members end))
    (subst (λ bytes. AreMembers nodes [] bytes now (object now)) (sym none) (AreMembers.end-of-members nodes now)))

nil_of : (s : List ℕ) → length s ≡ 0 → s ≡ []
nil_of [] e = refl
nil_of (b ∷ bs) e = absurd (omega arith)

pub empty_of : (s : List ℕ) → true ≡ (length s == 0) → s ≡ []
empty_of s e = nil_of s (eqb-true (length s) 0 (sym e))
