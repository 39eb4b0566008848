-- The first byte distinguishes the members of which some may be missing.
use Rattle.std.proofs.Common.{◌≡◌, ℕ, Bool, true, false, refl, if◌then◌else◌, List, ◌++◌, Option, None, Some, IfSome}
use Rattle.std.proofs.Common.{IfNone, inl, inr, sym, ◌∙◌, subst}
use Rattle.std.specs.Prelude.{⊤}
use Rattle.std.specs.Option.{option_eq}
use Rattle.picky_der_core.specs.Tree.{Tree, Trees}
use Rattle.picky_der_core.specs.Readable.{IsReadable, AreReadable}
use Rattle.picky_der_core.specs.Shape.{Shape, Layout, IsOf, AreMembersOf, AreMembersDistinct, AreMembersSound}
use Rattle.picky_der_core.specs.Shape.{FirstAndRest, FirstOrNone, firsts, next_firsts, are_disjoint}
use Rattle.picky_der_core.specs.FirstLaws.{begins_in, begins_next, disjoint_differ, contains-append_left}
use Rattle.picky_der_core.specs.FirstLaws.{contains-append_right}
use Rattle.picky_der_ser.specs.Meaning.{maybe_more, unless_default}
use Rattle.picky_der_ser.specs.Defaults.{IsByTree, IsOne}
use Rattle.picky_der_de.specs.Firsts.{IsBegunBy, begins_among}
use Rattle.picky_der_de.specs.InjectiveLaws.{IsInjective, first_member, other_members}
use Rattle.picky_der_de.specs.Facts.{IsLawful}
use Rattle.picky_der_de.specs.Layouts.{Presence, always, perhaps, layout_with, AreBegunBy}

module _ (s : Shape) (l : Layout) (disjoint : are_disjoint (firsts s) (next_firsts l) ≡ true) where
  -- a member that begins as the one that may be missing is that one
  pub first_is_present : (t : Tree) (ts : Trees) → IsBegunBy (firsts s) t → IsReadable t
      → FirstOrNone (IsOf s) (AreMembersOf l) (Trees.more t ts) → IsOf s t × AreMembersOf l ts
  first_is_present t ts f r (inl p) = p
  first_is_present t ts f r (inr q) =
      absurd (disjoint_differ (firsts s) (next_firsts l) t t disjoint (begins_among (firsts s) t f r)
      (begins_next l t ts q r) refl)

  not_first : (ts : Trees) → AreBegunBy (next_firsts l) ts → AreReadable ts → FirstAndRest (IsOf s) (AreMembersOf l) ts
      → ⊥
  not_first Trees.none f r p = absurd p
  not_first (Trees.more t ts) f r p = disjoint_differ (firsts s) (next_firsts l) t t disjoint (begins_in s t p.0 r.0)
      (f r.0) refl

  -- members that begin like the members after it are these
  pub first_is_absent : (ts : Trees) → AreBegunBy (next_firsts l) ts → AreReadable ts
      → FirstOrNone (IsOf s) (AreMembersOf l) ts → AreMembersOf l ts
  first_is_absent ts f r (inl p) = absurd (not_first ts f r p)
  first_is_absent ts f r (inr q) = q

-- ---- with which bytes members begin

wider : (fs gs : List ℕ) (ts : Trees) → AreBegunBy gs ts → AreBegunBy (fs ++ gs) ts
wider fs gs Trees.none f = tt
wider fs gs (Trees.more t ts) f = λ r. let b = f r in record {
  first = b.first;
  others = b.others;
  is = b.is;
  listed =
      contains-append_right b.first fs gs b.listed;
}

maybe_begun : {V : Type 0} (meaning : V → Tree) (s : Shape) (l : Layout) → ((v : V) → IsBegunBy (firsts s) (meaning v))
    → (o : Option V) (ts : Trees) → AreBegunBy (next_firsts l) ts
    → AreBegunBy (firsts s ++ next_firsts l) (maybe_more meaning o ts)
maybe_begun meaning s l f None ts g = wider (firsts s) (next_firsts l) ts g
maybe_begun meaning s l f (Some v) ts g =
    λ r. begins_among (firsts s ++ next_firsts l) (meaning v)
    (λ b h. contains-append_left b (firsts s) (next_firsts l) (f v b h)) r

-- ---- members are known by their trees

module _ {V : Type 0} (meaning : V → Tree) (s : Shape) (l : Layout) (begins : (v : V)
    → IsBegunBy (firsts s) (meaning v)) (distinct : AreMembersDistinct (Layout.maybe s l)) where
  -- a member that is there isn't what comes if it is missing
  present_and_absent : (v : V) (ts us : Trees) → AreBegunBy (next_firsts l) us
      → AreMembersOf (Layout.maybe s l) (Trees.more (meaning v) ts) → AreMembersOf (Layout.maybe s l) us
      → AreReadable (Trees.more (meaning v) ts) → Trees.more (meaning v) ts ≡ us → ⊥
  present_and_absent v ts us f p q r e =
      let there = first_is_present s l distinct.0 (meaning v) ts (begins v) r.0 p in
      let after = first_is_absent s l distinct.0 us f (subst AreReadable e r) q in
      disjoint_differ (firsts s) (next_firsts l) (meaning v) (meaning v) distinct.0
      (begins_in s (meaning v) there.0 r.0) (begins_next l (meaning v) ts (subst (AreMembersOf l) (sym e) after)
      r.0) refl

  -- the first may be missing, and `Others` holds of the members after it if they are the same
  maybe_distinct : (eq : V → V → Bool) (Others : Type 0) → IsInjective meaning s eq → (ts us : Trees)
      → AreBegunBy (next_firsts l) ts → AreBegunBy (next_firsts l) us
      → (AreMembersOf l ts → AreMembersOf l us → AreReadable ts → ts ≡ us → Others)
      → (x y : Option V) → AreMembersOf (Layout.maybe s l) (maybe_more meaning x ts)
      → AreMembersOf (Layout.maybe s l) (maybe_more meaning y us) → AreReadable (maybe_more meaning x ts)
      → maybe_more meaning x ts ≡ maybe_more meaning y us → (option_eq eq x y ≡ true) × Others
  maybe_distinct eq Others injective ts us f g k None None p q r e = (
    refl,
    k (first_is_absent s l distinct.0 ts f r p) (first_is_absent s l distinct.0 us g (subst AreReadable e r) q)
        r e,
  )
  maybe_distinct eq Others injective ts us f g k None (Some y) p q r e =
      absurd (present_and_absent y us ts f q p (subst AreReadable e r) (sym e))
  maybe_distinct eq Others injective ts us f g k (Some x) None p q r e = absurd (present_and_absent x ts us g p q r e)
  maybe_distinct eq Others injective ts us f g k (Some x) (Some y) p q r e =
      let a = first_is_present s l distinct.0 (meaning x) ts (begins x) r.0 p in
      let b = first_is_present s l distinct.0 (meaning y) us (begins y) (subst AreReadable e r).0 q in
      (injective x y a.0 b.0 r.0 (first_member e), k a.1 b.1 r.1 (other_members e))

-- ---- members with a default

-- two values are the same where what isn't left out of them is equal, or where both are the default
module _ {V : Type 0} (eq : V → V → Bool) (left_out : V → Bool) (one : IsOne eq left_out) where
  by_left_out : (x y : V) (p q : Bool) → left_out x ≡ p → left_out y ≡ q
      → option_eq eq (if p then None else Some x) (if q then None else Some y) ≡ true → eq x y ≡ true
  by_left_out x y true true p q h = one x y p q
  by_left_out x y true false p q h = cc
  by_left_out x y false true p q h = cc
  by_left_out x y false false p q h = h

  pub same_unless_default : (x y : V) → option_eq eq (unless_default left_out x) (unless_default left_out y) ≡ true
      → eq x y ≡ true
  same_unless_default x y h = by_left_out x y (left_out x) (left_out y) refl refl h

-- ---- one member

-- what is always there is there
abbrev pub IsThere : {W : Type 0} → Presence → Option W → Type 0
IsThere always o = IfNone o ⊥
IsThere perhaps o = ⊤

-- What a member owes, always there or not: the value that is before the others, if one is there.
pub record IsLayoutMember {V W : Type 0} (presence : Presence) (prepend : V → Trees → Trees) (eq : V → V
    → Bool) (meaning : W → Tree) (s : Shape) (eq_item : W → W → Bool) (item : V → Option W) : Type 0 where
  pub prepends : (v : V) (ts : Trees) → prepend v ts ≡ maybe_more meaning (item v) ts
  pub there : (v : V) → IsThere presence (item v)
  pub equal : (x y : V) → option_eq eq_item (item x) (item y) ≡ true → eq x y ≡ true
  pub is : IsLawful s meaning eq_item

-- the tree distinguishes a value that is left out, and no value that is there is left out
pub record IsLeftOut {V W : Type 0} (meaning : W → Tree) (item : V → Option W) (left_out : W → Bool) : Type 0 where
  pub by_tree : IsByTree meaning left_out
  pub written : (v : V) → IfSome (item v) (λ w. left_out w ≡ false)

module _ {V W : Type 0} {meaning : W → Tree} where
  pub none_left_out : (item : V → Option W) → IsLeftOut meaning item (λ w. false)
  none_left_out item = record { by_tree = λ x y h. cc; written = λ v. none_out (item v) } where
    none_out : (o : Option W) → IfSome o (λ w. false ≡ false)
    none_out None = tt
    none_out (Some w) = refl

  pub default_left_out : (left_out : W → Bool) → IsByTree meaning left_out → (value : V → W)
      → IsLeftOut meaning (λ v. unless_default left_out (value v)) left_out
  default_left_out left_out by_tree value =
      record { by_tree = by_tree; written = λ v. not_out (value v) (left_out (value v)) refl } where
        not_out : (w : W) (out : Bool) → left_out w ≡ out
            → IfSome (if out then None else Some w) (λ x. left_out x ≡ false)
        not_out w true e = tt
        not_out w false e = e

-- ---- members, one after another

pub record AreLayoutMembers {V : Type 0} (members : V → Trees) (l : Layout) (AreEqual : V → V → Type 0) : Type 0 where
  -- the first that is there, if it is readable, begins with such a byte
  pub begins : (v : V) → AreBegunBy (next_firsts l) (members v)
  -- readable members are of the layout
  pub has_layout : (v : V) → AreReadable (members v) → AreMembersOf l (members v)
  -- two lists of readable members with the same trees are equal, where missing members are distinguished by the first
  -- byte
  pub injective : AreMembersDistinct l → (x y : V) → AreMembersOf l (members x) → AreMembersOf l (members y)
      → AreReadable (members x) → members x ≡ members y → AreEqual x y
  -- the choices in the shapes are distinguished by their first byte
  pub sound : AreMembersSound l

pub no_layout_members : {V : Type 0} → AreLayoutMembers (λ (v : V). Trees.none) Layout.empty (λ x y. ⊤)
no_layout_members = record {
  begins = λ v. tt;
  has_layout = λ v r. tt;
  injective = λ distinct x y p q r e. tt;
  sound =
      tt;
}

-- as part of others
pub after : {V U : Type 0} {members : U → Trees} {l : Layout} {AreEqual : U → U → Type 0} (part : V → U)
    → AreLayoutMembers members l AreEqual
    → AreLayoutMembers (λ v. members (part v)) l (λ x y. AreEqual (part x) (part y))
after part c = record {
  begins = λ v. c.begins (part v);
  has_layout = λ v. c.has_layout (part v);
  injective =
      λ distinct x y. c.injective distinct (part x) (part y);
  sound = c.sound;
}

-- a member before the others
module _ {V W X : Type 0} {presence : Presence} {prepend : X → Trees → Trees} {eq : X → X → Bool} {meaning : W
    → Tree} {s : Shape} {eq_item : W → W → Bool} {item : X → Option W} {others : V → Trees} {l : Layout} {AreEqual : V
    → V → Type 0} (first : V → X)
    (c : IsLayoutMember presence prepend eq meaning s eq_item item) (cs : AreLayoutMembers others l AreEqual) where
  prepended : (v : V) → prepend (first v) (others v) ≡ maybe_more meaning (item (first v)) (others v)
  prepended v = c.prepends (first v) (others v)

  begun_by : (p : Presence) (o : Option W) (v : V) → IsThere p o
      → AreBegunBy (next_firsts (layout_with p s l)) (maybe_more meaning o (others v))
  begun_by always None v t = absurd t
  begun_by always (Some w) v t = begins_among (firsts s) (meaning w) (c.is.begun w)
  begun_by perhaps o v t = maybe_begun meaning s l c.is.begun o (others v) (cs.begins v)

  injective_by : (p : Presence) (a b : Option W) (x y : V) → IsThere p a → IsThere p b
      → AreMembersDistinct (layout_with p s l) → AreMembersOf (layout_with p s l) (maybe_more meaning a (others x))
      → AreMembersOf (layout_with p s l) (maybe_more meaning b (others y))
      → AreReadable (maybe_more meaning a (others x))
      → maybe_more meaning a (others x) ≡ maybe_more meaning b (others y)
      → (option_eq eq_item a b ≡ true) × AreEqual x y
  injective_by always None b x y t k distinct p q r e = absurd t
  injective_by always (Some v) None x y t k distinct p q r e = absurd k
  injective_by always (Some v) (Some w) x y t k distinct p q r e =
      (c.is.injective v w p.0 q.0 r.0 (first_member e), cs.injective distinct x y p.1 q.1 r.1 (other_members e))
  injective_by perhaps a b x y t k distinct p q r e =
      maybe_distinct meaning s l c.is.begun distinct eq_item (AreEqual x y) c.is.injective (others x) (others y)
      (cs.begins x) (cs.begins y) (cs.injective distinct.1 x y) a b p q r e

  layout_by : (p : Presence) (o : Option W) (v : V) → IsThere p o → AreReadable (maybe_more meaning o (others v))
      → AreMembersOf (layout_with p s l) (maybe_more meaning o (others v))
  layout_by always None v t r = absurd t
  layout_by always (Some w) v t r = (c.is.has_shape w r.0, cs.has_layout v r.1)
  layout_by perhaps None v t r = inr (cs.has_layout v r)
  layout_by perhaps (Some w) v t r = inl (c.is.has_shape w r.0, cs.has_layout v r.1)

  sound_by : (p : Presence) → AreMembersSound (layout_with p s l)
  sound_by always = (c.is.sound, cs.sound)
  sound_by perhaps = (c.is.sound, cs.sound)

  pub lead : AreLayoutMembers (λ v. prepend (first v) (others v)) (layout_with presence s l)
      (λ x y. (eq (first x) (first y) ≡ true) × AreEqual x y)
  lead = record {
    begins = λ v. subst (AreBegunBy (next_firsts (layout_with presence s l))) (sym (prepended v))
        (begun_by presence (item (first v)) v (c.there (first v)));
    has_layout = λ v r. subst (AreMembersOf (layout_with presence s l)) (sym (prepended v))
        (layout_by presence (item (first v)) v (c.there (first v)) (subst AreReadable (prepended v) r));
    injective = λ distinct x y p q r e.
        let same = injective_by presence (item (first x)) (item (first y)) x y (c.there (first x)) (c.there (first y))
        distinct (subst (AreMembersOf (layout_with presence s l)) (prepended x) p)
        (subst (AreMembersOf (layout_with presence s l)) (prepended y) q) (subst AreReadable (prepended x) r)
        (sym (prepended x) ∙ e ∙ prepended y) in
        (c.equal (first x) (first y) same.0, same.1);
    sound = sound_by presence;
  }
