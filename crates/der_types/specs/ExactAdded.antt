-- Members that an extension added: their values are exactly all of the members, or none.
use Rattle.std.specs.Prelude.{◌≡◌, Option, Some, None, refl}
use Rattle.std.proofs.Common.{ap, ◌∙◌, inl, inr}
use Rattle.picky_der_core.specs.Readable.{AreReadable}
use Rattle.picky_der_core.specs.Shape.{AllOrNone}
use Rattle.picky_der_core.specs.Tree.{Trees}
use Rattle.picky_asn1_der.specs.AddedLaws.{added_members}
use Rattle.der_types.specs.Notation.{Members}
use Rattle.der_types.specs.Denotes.{DenoteMembers, AreShort}
use Rattle.der_types.specs.ExactMembers.{AreExact, MembersValues, ProvedMembers, are_exact}

module _ {V P : Type 0} (ms : Members) (members : P → Trees) (are : AreExact ms members) (item : V → Option P)
    (whole : (o : Option P) → (v : V) × (item v ≡ o)) where
  sound_by : (o : Option P) → AreReadable (added_members members o)
      → AllOrNone (DenoteMembers ms) (added_members members o)
  sound_by None r = inr tt
  sound_by (Some p) r = inl (are.sound p r)

  made : (o : Option P) (ts : Trees) → added_members members o ≡ ts → (v : V) × (added_members members (item v) ≡ ts)
  made o ts e = let v = whole o in (v.0, ap (added_members members) v.1 ∙ e)

  complete_by : (ts : Trees) → AllOrNone (DenoteMembers ms) ts → AreReadable ts → AreShort ts
      → (v : V) × (added_members members (item v) ≡ ts)
  complete_by ts (inl d) r s = let p = are.complete ts d r s in made (Some p.0) ts p.1
  complete_by Trees.none (inr d) r s = made None Trees.none refl
  complete_by (Trees.more t ts) (inr d) r s = absurd d

  pub added_exact : AreExact (Members.added ms) (λ v. added_members members (item v))
  added_exact = record { sound = λ v r. sound_by (item v) r; complete = complete_by }

-- values that have these members as parts
module _ {S R : Type 0} {ms : Members} {members : R → Trees} (parts : S → R)
    (whole : (r : R) → (s : S) × (parts s ≡ r)) where
  pub fields_exact : AreExact ms members → AreExact ms (λ s. members (parts s))
  fields_exact are = record {
    sound = λ s r. are.sound (parts s) r;
    complete = λ ts d r short.
        let row = are.complete ts d r short in
        let s = whole row.0 in
        (s.0, ap members s.1 ∙ row.1);
  }

abbrev pub fields_values : {S R : Type 0} (b : MembersValues R) (ms : Members) (members : R → Trees) (parts : S → R)
    → ((r : R) → (s : S) × (parts s ≡ r)) → MembersValues S
fields_values b ms members parts whole = record {
  notation = ms;
  members = λ s. members (parts s);
  Premise = ProvedMembers b ms members;
  follows = λ o. fields_exact parts whole (are_exact b o);
}

abbrev pub added_values : {V P : Type 0} (b : MembersValues P) (ms : Members) (members : P → Trees) (item : V
    → Option P) → ((o : Option P) → (v : V) × (item v ≡ o)) → MembersValues V
added_values b ms members item whole = record {
  notation = Members.added ms;
  members = λ v. added_members members (item v);
  Premise = ProvedMembers b ms members;
  follows = λ o. added_exact ms members (are_exact b o) item whole;
}
