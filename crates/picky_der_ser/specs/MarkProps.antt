-- What a mark says has one proof.
use Rattle.std.specs.Prelude.{◌≡◌, ℕ, ◌+◌, ◌≤◌, true, false, List, [], ◌∷◌, length, take, drop, Option, None, Some}
use Rattle.std.specs.Prelude.{IsTrue}
use Rattle.std.specs.Option.{is_some}
use Rattle.std.specs.Coded.{Unit-prop, Coded-set, coded_list, coded_option, coded_ℕ, ×_prop, →_prop}
use denote.Struct.Props.{props}
use Rattle.picky_der_core.specs.declared.failure.Failure.{Failure}
use Rattle.picky_der_core.specs.declared.asn1.wrapper.Wrapper.{Wrapper}
use Rattle.picky_der_core.specs.declared.asn1.wrapper.Wrapper.TheVariants as wrapper
use Rattle.picky_der_core.specs.Wrapper.{can_vanish, HasTagNumber}
use Rattle.picky_der_ser.specs.declared.header.Header.{Header}
use Rattle.picky_der_ser.specs.declared.header.Header.TheVariants.{Tagged, Application, Raw}
use Rattle.picky_der_ser.specs.declared.levels.Mark.{Mark}
use Rattle.picky_der_ser.specs.Headers.{is_set, own_tag, wrappers, HasNumber, CanAllBeOpen}
use Rattle.picky_der_ser.specs.Marks.{is_open, is_inside, tags, outside, HasTag, IsMark, IsOpen}
use Rattle.picky_der_ser.specs.Seams.{AreSeams, last_seam}
use Rattle.picky_der_ser.specs.Sequences.{HasOpenLevel}
use Rattle.picky_der_ser.specs.State.{Held, held_code}

HasTagNumber-prop : (w : Wrapper) → IsProp (HasTagNumber w)
HasTagNumber-prop wrapper.OctetContainer = Unit-prop
HasTagNumber-prop wrapper.BitContainer = Unit-prop
HasTagNumber-prop (wrapper.Explicit n) = hlevel props
HasTagNumber-prop (wrapper.Implicit n) = hlevel props
HasTagNumber-prop (wrapper.Application n) = hlevel props
HasTagNumber-prop (wrapper.ImplicitList tag) = hlevel props

CanAllBeOpen-prop : (ws : List Wrapper) → IsProp (CanAllBeOpen ws)
CanAllBeOpen-prop [] = Unit-prop
CanAllBeOpen-prop (w ∷ ws) =
    let vanishes : IsProp (IsTrue (can_vanish w)) = hlevel props in
    ×_prop (×_prop (HasTagNumber-prop w) vanishes) (CanAllBeOpen-prop ws)

HasNumber-prop : (h : Header) → IsProp (HasNumber h)
HasNumber-prop (Tagged tag) = hlevel props
HasNumber-prop (Application k) = hlevel props
HasNumber-prop Raw = Unit-prop

AreSeams-prop : (start : ℕ) (ss : List ℕ) → IsProp (AreSeams start ss)
AreSeams-prop start [] = Unit-prop
AreSeams-prop start (s ∷ ss) = let first : IsProp (start ≤ s) = hlevel props in ×_prop first (AreSeams-prop s ss)

HasTag-prop : (m : Mark) (h : Held) → IsProp (HasTag m h)
HasTag-prop m h x y =
    let inside_prop : IsProp (is_inside m.place ≡ true) = hlevel props in
    let bare_prop : IsProp (is_some m.around ≡ false) = hlevel props in
    let room_prop : IsProp (m.start ≡ m.at + 2) = hlevel props in
    let tag_prop : IsProp (tags (own_tag true m.header) ≡ take 1 (drop m.at h.bytes)) =
    Coded-set (coded_list coded_ℕ) _ _ in
    λ i. record {
      inside = inside_prop x.inside y.inside i;
      bare = bare_prop x.bare y.bare i;
      room = room_prop x.room y.room i;
      tag = tag_prop x.tag y.tag i;
    }

IsMark-prop : (m : Mark) (h : Held) → IsProp (IsMark m h)
IsMark-prop m h x y =
    let opened_prop : IsProp (is_open m.place ≡ true) = hlevel props in
    let room_prop : IsProp (m.at ≤ m.start) = hlevel props in
    let seams_prop : IsProp (m.first_seam ≤ length h.seams) = hlevel props in
    let within_prop : IsProp (m.start + last_seam 0 (drop m.first_seam h.seams) ≤ length h.bytes) = hlevel props in
    let ready_prop : IsProp (m.is_ready ≡ true → is_set m.header ≡ false) = hlevel props in
    let tag_prop : IsProp (m.has_tag ≡ true → HasTag m h) = →_prop (HasTag-prop m h) in
    λ i. record {
      opened = opened_prop x.opened y.opened i;
      numbers = CanAllBeOpen-prop (wrappers m.around) x.numbers y.numbers i;
      number = HasNumber-prop m.header x.number y.number i;
      room = room_prop x.room y.room i;
      within_seams = seams_prop x.within_seams y.within_seams i;
      within = within_prop x.within y.within i;
      ascending = AreSeams-prop 0 (drop m.first_seam h.seams) x.ascending y.ascending i;
      ready = ready_prop x.ready y.ready i;
      has_tag = tag_prop x.has_tag y.has_tag i;
    }

IsOpen-prop : (m : Mark) (inside pending : Option Held) → IsProp (IsOpen m inside pending)
IsOpen-prop m inside None = λ x y. absurd x
IsOpen-prop m inside (Some h) =
    ×_prop (IsMark-prop m h) (Coded-set (coded_option held_code) inside (outside m h))

pub HasOpenLevel-prop : (m : Mark) (failed : Option Failure) (inside pending : Option Held)
    → IsProp (HasOpenLevel m failed inside pending)
HasOpenLevel-prop m None inside pending = IsOpen-prop m inside pending
HasOpenLevel-prop m (Some failure) inside pending = Unit-prop
