-- Structs whose readable values mean exactly the trees that their members denote.
use Rattle.std.specs.Prelude.{◌≡◌, ◌≢◌, ℕ, ◌+◌, ◌^◌, ◌<◌, Bool, true, false, Option, Some, None, IsTrue, ⊤, refl}
use Rattle.std.specs.Prelude.{if◌then◌else◌}
use Rattle.std.proofs.Common.{sym, ap, ◌∙◌, subst, inl, inr, arith}
use Rattle.picky_der_core.specs.Readable.{IsReadable, AreReadable}
use Rattle.picky_der_core.specs.Shape.{FirstAndRest, FirstOrNone}
use Rattle.picky_der_core.specs.Tree.{ListKind, Tree, Trees}
use Rattle.picky_der_ser.specs.Defaults.{IsByTree}
use Rattle.picky_der_ser.specs.Meaning.{maybe_more, unless_default}
use Rattle.der_types.specs.Constraints.{member_count}
use Rattle.der_types.specs.Notation.{Notation, Member, Members}
use Rattle.der_types.specs.Denotes.{Denotes, DenoteMembers, DenoteFirst, IsShort, AreShort}
use Rattle.der_types.specs.Exact.{IsExact, Values, ProvedValues, is_exact, made_exact}

one_less : (n k : ℕ) → 1 + n < k → n < k
one_less n k h = omega (arith, h)

-- a vector that holds members holds those after the first
rest_short : (t : Tree) (ts : Trees) → AreShort (Trees.more t ts) → AreShort ts
rest_short t ts s = (one_less (member_count ts) (2 ^ 63) s.0, s.1.1)

-- ---- one member

-- a member as it is before others
pub record IsExactMember {V : Type 0} (m : Member) (prepend : V → Trees → Trees) : Type 1 where
  -- what it makes of readable others that are so
  pub sound : (Q : Trees → Type 0) (v : V) (ts : Trees) → (AreReadable ts → Q ts) → AreReadable (prepend v ts)
      → DenoteFirst m Q (prepend v ts)
  -- and what is denoted is made so
  pub complete : (Q : Trees → Type 0) (ts : Trees) → DenoteFirst m Q ts → AreReadable ts → AreShort ts
      → (v : V) × (us : Trees) × Q us × AreReadable us × AreShort us × (prepend v us ≡ ts)

pub record MemberValues (V : Type 0) : Type 1 where
  pub member : Member
  pub prepend : V → Trees → Trees
  pub Premise : Type 0
  pub follows : Premise → IsExactMember member prepend

pub record ProvedMember {V : Type 0} (values : MemberValues V) (member : Member) (prepend : V → Trees → Trees) : Type 0
  where
    pub premise : values.Premise
    pub notated : values.member ≡ member
    pub prepends : values.prepend ≡ prepend

module _ {V : Type 0} (values : MemberValues V) {member : Member} {prepend : V → Trees
    → Trees} (t : ProvedMember values member prepend) where
  pub is_exact_member : IsExactMember member prepend
  is_exact_member =
      let of_own : IsExactMember member values.prepend =
      subst (λ m. IsExactMember m values.prepend) t.notated (values.follows t.premise) in
      subst (λ (f : V → Trees → Trees). IsExactMember member f) t.prepends of_own

pub record AreExact {V : Type 0} (ms : Members) (members : V → Trees) : Type 0 where
  pub sound : (v : V) → AreReadable (members v) → DenoteMembers ms (members v)
  pub complete : (ts : Trees) → DenoteMembers ms ts → AreReadable ts → AreShort ts → (v : V) × (members v ≡ ts)

pub record MembersValues (V : Type 0) : Type 1 where
  pub notation : Members
  pub members : V → Trees
  pub Premise : Type 0
  pub follows : Premise → AreExact notation members

pub record ProvedMembers {V : Type 0} (values : MembersValues V) (notation : Members) (members : V → Trees) : Type 0
  where
    pub premise : values.Premise
    pub notated : values.notation ≡ notation
    pub mean : values.members ≡ members

module _ {V : Type 0} (values : MembersValues V) {notation : Members} {members : V
    → Trees} (t : ProvedMembers values notation members) where
  pub are_exact : AreExact notation members
  are_exact =
      let of_own : AreExact notation values.members =
      subst (λ ms. AreExact ms values.members) t.notated (values.follows t.premise) in
      subst (λ (f : V → Trees). AreExact notation f) t.mean of_own

module _ {V : Type 0} (v : V) where
  none_complete : (ts : Trees) → DenoteMembers Members.end ts → AreReadable ts → AreShort ts
      → (w : V) × (Trees.none ≡ ts)
  none_complete Trees.none d r s = (v, refl)
  none_complete (Trees.more t ts) d r s = absurd d

  pub none_exact : AreExact Members.end (λ (w : V). Trees.none)
  none_exact = record { sound = λ w r. tt; complete = none_complete }

abbrev pub none_values : {V : Type 0} → V → MembersValues V
none_values v = record { notation = Members.end; members = λ w. Trees.none; Premise = ⊤; follows = λ o. none_exact v }

-- a member and those after it, where they make the value
module _ {V X R : Type 0} {m : Member} {prepend : X → Trees → Trees} {ms : Members} {members : R → Trees} (first : V
    → X) (rest : V → R) (whole : (x : X) (r : R) → (v : V) × (first v ≡ x) × (rest v ≡ r)) (a : IsExactMember m prepend)
    (b : AreExact ms members) where
  led_sound : (v : V) → AreReadable (prepend (first v) (members (rest v)))
      → DenoteMembers (Members.member m ms) (prepend (first v) (members (rest v)))
  led_sound v r = a.sound (DenoteMembers ms) (first v) (members (rest v)) (b.sound (rest v)) r

  led_complete : (ts : Trees) → DenoteMembers (Members.member m ms) ts → AreReadable ts → AreShort ts
      → (v : V) × (prepend (first v) (members (rest v)) ≡ ts)
  led_complete ts d r s =
      let x = a.complete (DenoteMembers ms) ts d r s in
      let y = b.complete x.1 x.2 x.3 x.4 in
      let v = whole x.0 y.0 in
      (v.0, ap (λ z. prepend z (members (rest v.0))) v.1 ∙ (ap (prepend x.0) (ap members v.2 ∙ y.1) ∙ x.5))

  pub led_exact : AreExact (Members.member m ms) (λ v. prepend (first v) (members (rest v)))
  led_exact = record { sound = led_sound; complete = led_complete }

abbrev pub members_values : {V X R : Type 0} (a : MemberValues X) (m : Member) (prepend : X → Trees
    → Trees) (b : MembersValues R) (ms : Members) (members : R → Trees) (first : V → X) (rest : V → R)
    → ((x : X) (r : R) → (v : V) × (first v ≡ x) × (rest v ≡ r)) → MembersValues V
members_values a m prepend b ms members first rest whole = record {
  notation = Members.member m ms;
  members = λ v. prepend (first v) (members (rest v));
  Premise = ProvedMember a m prepend × ProvedMembers b ms members;
  follows = λ o. led_exact first rest whole (is_exact_member a o.0) (are_exact b o.1);
}

-- a struct of them
abbrev pub struct_values : {S R : Type 0} (b : MembersValues R) (ms : Members) (members : R → Trees) (parts : S → R)
    → ((r : R) → (s : S) × (parts s ≡ r)) → Values S
struct_values b ms members parts whole = record {
  notation = Notation.sequence ms;
  meaning = λ s. Tree.list ListKind.sequence (members (parts s));
  Premise = ProvedMembers b ms members;
  follows = λ o.
      let are = are_exact b o in
      made_exact (Tree.list ListKind.sequence) (DenoteMembers ms) (λ s. members (parts s))
      (λ s r. are.sound (parts s) r.1) (λ ts d r short.
      let row = are.complete ts d r.1 short in
      let s = whole row.0 in
      (s.0, ap members s.1 ∙ row.1));
}

module _ {A : Type 0} (n : Notation) (means : A → Tree) (is : IsExact (Denotes n) means) where
  required_complete : (Q : Trees → Type 0) (ts : Trees) → DenoteFirst (Member.required n) Q ts → AreReadable ts
      → AreShort ts → (v : A) × (us : Trees) × Q us × AreReadable us × AreShort us × (Trees.more (means v) us ≡ ts)
  required_complete Q Trees.none d r s = absurd d
  required_complete Q (Trees.more t ts) d r s = let x = is.complete t d.0 r.0 s.1.0 in
      (x.0, ts, d.1, r.1, rest_short t ts s, ap (λ u. Trees.more u ts) x.1)

  pub required_exact : IsExactMember (Member.required n) (λ v. Trees.more (means v))
  required_exact = record { sound = λ Q v ts so r. (is.sound v r.0, so r.1); complete = required_complete }

-- one that may be absent: what is there is so, and it may be so or absent
pub record MayBe {A V : Type 0} (P : Tree → Type 0) (means : A → Tree) (item : V → Option A) : Type 0 where
  pub present : (v : V) (x : A) → item v ≡ Some x → IsReadable (means x) → P (means x)
  pub made : (t : Tree) → P t → IsReadable t → IsShort t → (v : V) × (x : A) × (item v ≡ Some x) × (means x ≡ t)
  pub missing : (v : V) × (item v ≡ None)

module _ {A V : Type 0} (P : Tree → Type 0) (means : A → Tree) (item : V → Option A) (is : MayBe P means item)
    (Q : Trees → Type 0) where
  by_item : (v : V) (ts : Trees) → (AreReadable ts → Q ts) → (o : Option A) → item v ≡ o
      → AreReadable (maybe_more means o ts) → FirstOrNone P Q (maybe_more means o ts)
  by_item v ts so (Some x) e r = inl (is.present v x e r.0, so r.1)
  by_item v ts so None e r = inr (so r)

  pub maybe_sound : (v : V) (ts : Trees) → (AreReadable ts → Q ts) → AreReadable (maybe_more means (item v) ts)
      → FirstOrNone P Q (maybe_more means (item v) ts)
  maybe_sound v ts so r = by_item v ts so (item v) refl r

  abbrev Led : Trees → Type 0
  Led ts = (v : V) × (us : Trees) × Q us × AreReadable us × AreShort us × (maybe_more means (item v) us ≡ ts)

  led_by : (ts : Trees) → FirstAndRest P Q ts → AreReadable ts → AreShort ts → Led ts
  led_by Trees.none d r s = absurd d
  led_by (Trees.more t ts) d r s =
      let x = is.made t d.0 r.0 s.1.0 in
      (x.0, ts, d.1, r.1, rest_short t ts s, ap (λ o. maybe_more means o ts) x.2 ∙ ap (λ u. Trees.more u ts) x.3)

  pub maybe_complete : (ts : Trees) → FirstOrNone P Q ts → AreReadable ts → AreShort ts → Led ts
  maybe_complete ts (inl d) r s = led_by ts d r s
  maybe_complete ts (inr q) r s = (is.missing.0, ts, q, r, s, ap (λ o. maybe_more means o ts) is.missing.1)

module _ {A V : Type 0} (n : Notation) (means : A → Tree) (is : IsExact (Denotes n) means) (part : V → Option A)
    (whole : (o : Option A) → (v : V) × (part v ≡ o)) where
  may_be : MayBe (Denotes n) means part
  may_be = record {
    present = λ v x e r. is.sound x r;
    made = λ t p r s. let x = is.complete t p r s in let v = whole (Some x.0) in (v.0, x.0, v.1, x.1);
    missing = whole None;
  }

  pub optional_exact : IsExactMember (Member.optional n) (λ v. maybe_more means (part v))
  optional_exact = record {
    sound = λ Q. maybe_sound (Denotes n) means part may_be Q;
    complete =
        λ Q. maybe_complete (Denotes n) means part may_be Q;
  }

-- The premise of a default: it is known by its tree, it means this one, and there is such a value.
pub record IsDefault {A : Type 0} (means : A → Tree) (left_out : A → Bool) (value : Tree) (one : A) : Type 0 where
  pub by_tree : IsByTree means left_out
  pub is_value : (it : A) → IsTrue (left_out it) → means it ≡ value
  pub is_one : IsTrue (left_out one)

module _ {A V : Type 0} (n : Notation) (means : A → Tree) (is : IsExact (Denotes n) means) (left_out : A
    → Bool) (value : Tree) (one : A) (d : IsDefault means left_out value one) (part : V → A) (whole : (x : A)
    → (v : V) × (part v ≡ x)) where
  abbrev Other : Tree → Type 0
  Other x = Denotes n x × (x ≢ value)

  -- what means the default is left out
  left : (x : A) → means x ≡ value → left_out x ≡ true
  left x e = (d.by_tree one x d.is_one).1 (d.is_value one d.is_one ∙ sym e)

  kept : (x : A) (b : Bool) → left_out x ≡ b → means x ≢ value → left_out x ≡ false
  kept x true e ne = absurd (ne (d.is_value x e))
  kept x false e ne = e

  other : (x : A) (b : Bool) → left_out x ≡ b → (y : A) → (if b then None else Some x) ≡ Some y → IsReadable (means y)
      → Other (means y)
  other x true e y f r = cc
  other x false e y f r =
      let same : x ≡ y = cc in
      let out : left_out y ≡ false = subst (λ z. left_out z ≡ false) same e in
      (is.sound y r, λ g. let in_ = left y g in cc)

  default_may_be : MayBe Other means (λ v. unless_default left_out (part v))
  default_may_be = record {
    present = λ v. other (part v) (left_out (part v)) refl;
    made = λ t p r s.
        let x = is.complete t p.0 r s in
        let v = whole x.0 in
        let out : left_out x.0 ≡ false = kept x.0 (left_out x.0) refl (λ e. p.1 (sym x.1 ∙ e)) in
        (v.0, x.0, ap (unless_default left_out) v.1 ∙ ap (λ b. if b then None else Some x.0) out, x.1);
    missing = let v = whole one in
        (v.0, ap (unless_default left_out) v.1 ∙ ap (λ b. if b then None else Some one) d.is_one);
  }

  pub defaulted_exact : IsExactMember (Member.defaulted value n)
      (λ v. maybe_more means (unless_default left_out (part v)))
  defaulted_exact =
      record {
        sound = λ Q. maybe_sound Other means (λ v. unless_default left_out (part v)) default_may_be Q;
        complete =
            λ Q. maybe_complete Other means (λ v. unless_default left_out (part v)) default_may_be Q;
      }

-- ---- what a member says of itself

-- What a default says of itself: it is known by its tree, it means this one, and there is such a value.
pub record Default (A : Type 0) : Type 0 where
  pub meaning : A → Tree
  pub left_out : A → Bool
  pub value : Tree
  pub one : A
  pub is : IsDefault meaning left_out value one

pub record ProvedDefault {A : Type 0} (d : Default A) (meaning : A → Tree) (left_out : A → Bool) (value : Tree) : Type 0
  where
    pub means : d.meaning ≡ meaning
    pub leaves_out : d.left_out ≡ left_out
    pub is_value : d.value ≡ value

pub default_of : {A : Type 0} (d : Default A) {meaning : A → Tree} {left_out : A → Bool} {value : Tree}
    → ProvedDefault d meaning left_out value → IsDefault meaning left_out value d.one
default_of {A} d {meaning} {left_out} t =
    let a : IsDefault meaning d.left_out d.value d.one =
    subst (λ (m : A → Tree). IsDefault m d.left_out d.value d.one) t.means d.is in
    let b : IsDefault meaning left_out d.value d.one =
    subst (λ (l : A → Bool). IsDefault meaning l d.value d.one) t.leaves_out a in
    subst (λ v. IsDefault meaning left_out v d.one) t.is_value b

module _ {A : Type 0} (a : Values A) (n : Notation) (means : A → Tree) where
  abbrev pub required_values : MemberValues A
  required_values = record {
    member = Member.required n;
    prepend = λ v. Trees.more (means v);
    Premise = ProvedValues a n means;
    follows = λ o. required_exact n means (is_exact a o);
  }

  abbrev pub optional_values : {V : Type 0} (part : V → Option A) → ((o : Option A) → (v : V) × (part v ≡ o))
      → MemberValues V
  optional_values part whole = record {
    member = Member.optional n;
    prepend = λ v. maybe_more means (part v);
    Premise = ProvedValues a n means;
    follows = λ o. optional_exact n means (is_exact a o) part whole;
  }

  abbrev pub defaulted_values : {V : Type 0} (d : Default A) (left_out : A → Bool) (value : Tree) (part : V → A)
      → ((x : A) → (v : V) × (part v ≡ x)) → MemberValues V
  defaulted_values d left_out value part whole = record {
    member = Member.defaulted value n;
    prepend = λ v. maybe_more means (unless_default left_out (part v));
    Premise = ProvedValues a n means × ProvedDefault d means left_out value;
    follows = λ o. defaulted_exact n means (is_exact a o.0) left_out value d.one (default_of d o.1) part whole;
  }
