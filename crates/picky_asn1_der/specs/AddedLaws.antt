-- Members that an extension added, of which a value has all or none: those that are always there, and what may be
-- absent among them.
use Rattle.std.specs.Prelude.{◌≡◌, Bool, true, false, Option, Some, None, [], ◌∷◌, List, refl}
use Rattle.std.specs.Option.{option_eq}
use Rattle.std.proofs.Common.{sym, subst, inl, inr}
use Rattle.std.proofs.lemmas.Bool.{and_parts}
use Rattle.picky_der_core.specs.Tree.{Trees}
use Rattle.picky_der_core.specs.Readable.{AreReadable}
use Rattle.picky_der_core.specs.Shape.{Layout, AllOrNone, AreMembersOf, AreMembersDistinct, next_firsts}
use Rattle.picky_der_de.specs.Faithful.{MembersSameness, ProvedMembersSameness, RespectMembers, respect_of}
use Rattle.picky_der_de.specs.Layouts.{AreBegunBy}
use Rattle.picky_der_de.specs.LayoutLaws.{AreLayoutMembers}
use Rattle.picky_der_de.specs.MembersFacts.{AreTrue, conjunction, conjunction_true, MembersFacts, ProvedMembers}
use Rattle.picky_der_de.specs.MembersFacts.{layout_members}
use Rattle.picky_der_de.specs.Rules.{added_rule}

-- what they mean, if they are there
abbrev pub added_members : {P : Type 0} → (P → Trees) → Option P → Trees
added_members members None = Trees.none
added_members members (Some p) = members p

-- a member is always there, so that members of the layout aren't taken for none
abbrev pub has_required : Layout → Bool
has_required Layout.empty = false
has_required (Layout.required s l) = true
has_required (Layout.maybe s l) = has_required l
has_required (Layout.added l) = false
has_required (Layout.others excluded) = false

never_none : (l : Layout) → has_required l ≡ true → AreMembersOf l Trees.none → ⊥
never_none Layout.empty h p = cc
never_none (Layout.required s l) h p = p
never_none (Layout.maybe s l) h (inl p) = p
never_none (Layout.maybe s l) h (inr p) = never_none l h p
never_none (Layout.added l) h p = cc
never_none (Layout.others excluded) h p = cc

module _ {P : Type 0} {members : P → Trees} {l : Layout} {AreEqual : P → P → Type 0}
    (c : AreLayoutMembers members l AreEqual) (present : has_required l ≡ true) (eq : P → P → Bool)
    (equal : (x y : P) → AreEqual x y → eq x y ≡ true) where
  begun : (o : Option P) → AreBegunBy (next_firsts l) (added_members members o)
  begun None = tt
  begun (Some p) = c.begins p

  all_or_none : (o : Option P) → AreReadable (added_members members o)
      → AllOrNone (AreMembersOf l) (added_members members o)
  all_or_none None r = inr tt
  all_or_none (Some p) r = inl (c.has_layout p r)

  not_none : (p : P) → AreReadable (members p) → members p ≡ Trees.none → ⊥
  not_none p r e = never_none l present (subst (AreMembersOf l) e (c.has_layout p r))

  same : AreMembersDistinct l → (x y : Option P) → AreReadable (added_members members x)
      → added_members members x ≡ added_members members y → option_eq eq x y ≡ true
  same distinct None None r e = refl
  same distinct None (Some y) r e = absurd (not_none y (subst AreReadable e r) (sym e))
  same distinct (Some x) None r e = absurd (not_none x r e)
  same distinct (Some x) (Some y) r e =
      equal x y (c.injective distinct x y (c.has_layout x r) (c.has_layout y (subst AreReadable e r)) r e)

  -- all or none of them as part of a value
  pub added_are : {V : Type 0} (item : V → Option P)
      → AreLayoutMembers (λ v. added_members members (item v)) (Layout.added l)
      (λ x y. AreTrue (option_eq eq (item x) (item y) ∷ []))
  added_are item = record {
    begins = λ v. begun (item v);
    has_layout = λ v r. all_or_none (item v) r;
    injective = λ distinct x y p q r e. (same distinct (item x) (item y) r e, tt);
    sound = c.sound;
  }

abbrev pub added_facts : {P V : Type 0} {l : Layout} (facts : MembersFacts P l) (members : P → Trees) (item : V
    → Option P) → MembersFacts V (Layout.added l)
added_facts {l = l} facts members item = record {
  members = λ v. added_members members (item v);
  tests = λ x y. option_eq (λ p q. conjunction (facts.tests p q)) (item x) (item y) ∷ [];
  there = facts.there;
  rule = added_rule facts.rule;
  Premise = ProvedMembers facts members × (has_required l ≡ true);
  follows = λ t. added_are (layout_members facts t.0) t.1 (λ p q. conjunction (facts.tests p q))
      (λ x y h. conjunction_true (facts.tests x y) h) item;
}

-- ---- equal ones mean the same

all_true : (bs : List Bool) → conjunction bs ≡ true → AreTrue bs
all_true [] h = tt
all_true (b ∷ []) h = (h, tt)
all_true (b ∷ (c ∷ bs)) h = let p = and_parts b (conjunction (c ∷ bs)) h in (p.0, all_true (c ∷ bs) p.1)

module _ {P : Type 0} {tests : P → P → List Bool} {members : P → Trees} (respect : RespectMembers tests members) where
  alike : (x y : Option P) → option_eq (λ p q. conjunction (tests p q)) x y ≡ true
      → added_members members x ≡ added_members members y
  alike None None h = refl
  alike None (Some y) h = cc
  alike (Some x) None h = cc
  alike (Some x) (Some y) h = respect.same x y (all_true (tests x y) h)

  pub added_respect : {V : Type 0} (item : V → Option P)
      → RespectMembers (λ x y. option_eq (λ p q. conjunction (tests p q)) (item x) (item y) ∷ [])
      (λ v. added_members members (item v))
  added_respect item = record { same = λ x y h. alike (item x) (item y) h.0 }

abbrev pub added_sameness : {P V : Type 0} (a : MembersSameness P) (tests : P → P → List Bool) (members : P
    → Trees) (item : V → Option P) → MembersSameness V
added_sameness a tests members item = record {
  tests = λ x y. option_eq (λ p q. conjunction (tests p q)) (item x) (item y) ∷ [];
  members = λ v. added_members members (item v);
  Premise = ProvedMembersSameness a tests members;
  follows = λ o. added_respect (respect_of a o) item;
}
