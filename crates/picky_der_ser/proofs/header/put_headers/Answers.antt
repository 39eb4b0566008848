use Rattle.std.proofs.Common.{◌≡◌, ◌+◌, ◌++◌, ◌≤◌, List, ℕ, length, take, drop, Result, Ok, Err, OnOk, None, Some, Vec}
use Rattle.std.proofs.Common.{Global, sym, ap, ap₂, ◌∙◌, arith, add-zero, take-append-drop, length-take-le}
use Rattle.std.proofs.Math.Seq.{drop-append_seam}
use Rattle.std.proofs.lemmas.List.{take-append-le, take-take}
use Rattle.picky_der_core.specs.Element.{tlv}
use Rattle.picky_der_core.specs.Encoding.{der}
use Rattle.picky_der_core.specs.OpenWrappers.{under}
use Rattle.picky_der_ser.specs.Headers.{tree_of, wrappers, headed}
use Rattle.picky_der_ser.proofs.HeaderBytes.{der-known}
use Rattle.picky_der_ser.proofs.header.put_headers.Goals as goal
use Rattle.picky_der_ser.proofs.header.put_headers.Goals.{in-Some-own-2+in_ok-put_header, in_default-own}

-- without headers
fitted : {A E : Type 0} (r : Result A E) (at start : ℕ) (s u : List ℕ) → OnOk r (take at u ≡ take at s)
    → OnOk r (drop (at + 0) u ≡ drop start s) → OnOk r (u ≡ take at s ++ drop start s)
fitted (Ok v) at start s u front back =
    sym (take-append-drop at u) ∙ ap₂ (λ x y. x ++ y) front (ap (λ k. drop k u) (sym (add-zero at)) ∙ back)
fitted (Err e) at start s u front back = tt

-- the own header in its part of the room
own_put : (s u : List ℕ) (at own_at start tag : ℕ) → at ≤ own_at → own_at ≤ start → start ≤ length s
    → u ≡ take own_at s ++ tlv tag (drop start s) → (take at u ≡ take at s) × (drop own_at u ≡ tlv tag (drop start s))
own_put s u at own_at start tag before room within is =
    let size : length (take own_at s) ≡ own_at = length-take-le own_at s (omega arith) in
    let bs = tlv tag (drop start s) in (
      ap (take at) is ∙ take-append-le at (take own_at s) bs (omega (arith, size)) ∙ take-take at own_at s before,
      ap (drop own_at) is ∙ ap (λ k. drop k (take own_at s ++ bs)) (sym size) ∙ drop-append_seam (take own_at s) bs,
    )

pub returns-in-Some-own : goal.returns-in-Some-own
returns-in-Some-own c =
    let b = drop c.args.start c.args.out.now.items in
    let is : der (under (wrappers c.args.around) (tree_of c.args.header b)) ≡ tlv c.in-Some-own.tag b =
    der-known c.args.around None c.args.header (Some c.in-Some-own.tag) b c.in_default.is
    (sym c.own_tag-own.ensures ∙ c.in-Some-own.is) in
    rw is c.put_header.ensures

pub returns-in-None : goal.returns-in-None
returns-in-None c =
    let s = c.args.out.now.items in
    let b = drop c.args.start s in
    let is : der (under (wrappers c.args.around) (tree_of c.args.header b)) ≡ b =
    der-known c.args.around None c.args.header None b c.in_default.is (sym c.own_tag-own.ensures ∙ c.in-None.is) in
    rw is (fitted c.fit_room.result c.args.at c.args.start s c.fit_room.new.out.items c.fit_room.ensures.before
    c.fit_room.ensures.after)

pub returns : goal.returns
returns c =
    let s = c.args.out.now.items in
    let at = c.args.at in
    let b = drop c.args.start s in
    let own = c.own_tag-own.result in
    let u = c.match-own-2.out.items in
    let put : (take at u ≡ take at s) × (drop c.match-own-2.own_at u ≡ headed own b) =
    elim c.match-own-2.branch [
      | in-Some-own-2+in_ok-put_header w ↦
          let k = own_put s w.put_header-in-Some-own-2.new.out.items at w.max-own_at.result c.args.start
          w.in-Some-own-2.tag (omega arith) (omega arith) (omega arith) w.in_ok-put_header.ensures in (
            ap (λ (o : Vec ℕ Global). take at o.items) w.out-is ∙ k.0,
            ap₂ (λ (n : ℕ) (o : Vec ℕ Global). drop n o.items) w.own_at-is w.out-is ∙ k.1
                ∙ ap (λ t. headed t b) (sym w.in-Some-own-2.is),
          )
      | in_default-own w ↦ (
        ap (λ (o : Vec ℕ Global). take at o.items) w.out-is,
        ap₂ (λ (n : ℕ) (o : Vec ℕ Global). drop n o.items) w.own_at-is w.out-is
            ∙ ap (λ t. headed t b) (sym w.in_default-own.is),
      )
    ] in
    rw (der-known c.args.around (Some c.in-Some.wrapper) c.args.header own b c.in-Some.is (sym c.own_tag-own.ensures))
    (rw (put.0, put.1, c.tag.ensures, c.counts_unused_bits.ensures) at c.put_header-2.ensures)
