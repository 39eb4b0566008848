use Rattle.std.proofs.Common.{◌≡◌, ℕ, ◌+◌, Bool, cond, List, ◌++◌, length, Option, None, Some}
use Rattle.std.proofs.Common.{Vec, Global, refl, sym, ap, ap₂, ◌∙◌, arith}
use Rattle.std.specs.Option.{is_some}
use Rattle.picky_der_core.specs.declared.asn1.wrapper.Wrapper.{Wrapper}
use Rattle.picky_der_core.specs.Element.{length_octets, tlv}
use Rattle.picky_der_core.specs.ElementLaws.{length-length_octets}
use Rattle.picky_der_core.specs.Wrapper.{wrapper_tag, counts_unused_bits}
use Rattle.picky_der_ser.specs.Headers.{headed, wrapped_in, front}
use Rattle.picky_der_ser.proofs.HeaderBytes.{der-known, length-opened}
use Rattle.picky_der_ser.proofs.header.push_headers.Goals as goal
use Rattle.picky_der_ser.proofs.header.push_headers.Goals.{in-Some+in_ok-push_header, in_default}
use Rattle.picky_der_ser.proofs.header.push_headers.Goals.{then-is_some, else-is_some}

-- how long a content with its own header is
headed_size : (own : Option ℕ) (b : Bool) (k : ℕ) (c : List ℕ) → b ≡ is_some own
    → k ≡ cond b (1 + length (length_octets (length c))) 0 → length (headed own c) ≡ k + length c
headed_size None b k c e f =
    let none : k ≡ 0 = f ∙ ap (λ v. cond v (1 + length (length_octets (length c))) 0) e in
    omega (arith, none)
headed_size (Some tag) b k c e f =
    let some : k ≡ 1 + length (length_octets (length c)) =
    f ∙ ap (λ v. cond v (1 + length (length_octets (length c))) 0) e in
    omega (arith, some, length-opened tag c)

-- the header of the wrapper, before the content with its own header
wrapped_first : (s u c : List ℕ) (w : Wrapper) (o : Option Wrapper) (own : Option ℕ) (some counts : Bool)
    (k tag n : ℕ) → o ≡ Some w → tag ≡ wrapper_tag w → counts ≡ counts_unused_bits w
    → some ≡ is_some own → length c ≡ n → k ≡ cond some (1 + length (length_octets n)) 0
    → ((d : List ℕ) → length d ≡ k + n → u ++ d ≡ s ++ tlv tag (front counts ++ d))
    → u ++ headed own c ≡ s ++ wrapped_in o (headed own c)
wrapped_first s u c w o own some counts k tag n around tagged counted owned size extra whole =
    let bs = headed own c in
    let extra_at : k ≡ cond some (1 + length (length_octets (length c))) 0 =
    extra ∙ ap (λ m. cond some (1 + length (length_octets m)) 0) (sym size) in
    let fits : length bs ≡ k + n = headed_size own some k c owned extra_at ∙ ap (λ m. k + m) size in
    whole bs fits ∙ ap₂ (λ x y. s ++ tlv x (front y ++ bs)) tagged counted
    ∙ ap (λ p. s ++ wrapped_in p bs) (sym around)

pub overflow_add-own_len : goal.overflow_add-own_len
overflow_add-own_len c =
    let most = length-length_octets c.args.len (omega (arith, c.requires.fits)) in
    omega (arith, most, c.encoded_len.ensures)

pub overflow_add-own_len-in-Some : goal.overflow_add-own_len-in-Some
overflow_add-own_len-in-Some c =
    let most = length-length_octets c.args.len (omega (arith, c.requires.fits)) in
    elim c.if-is_some.branch [
      | then-is_some w ↦ omega (arith, c.requires.fits, most, w.encoded_len.ensures, w.own_len-is)
      | else-is_some w ↦ omega (arith, c.requires.fits, w.own_len-is)
    ]

pub push_header-requires : goal.push_header-requires
push_header-requires c =
    let most = length-length_octets c.args.len (omega (arith, c.requires.fits)) in
    elim c.if-is_some.branch [
      | then-is_some w ↦ omega (arith, c.requires.fits, most, w.encoded_len.ensures, w.own_len-is)
      | else-is_some w ↦ omega (arith, c.requires.fits, w.own_len-is)
    ]

pub returns-in_ok-push_header-2-clause-ok : goal.returns-in_ok-push_header-2-clause-ok
returns-in_ok-push_header-2-clause-ok c = λ d e.
    let s = c.args.out.now.items in
    let n = c.args.len in
    let own = c.own_tag-own.result in
    let u = c.match-around.out.items in
    let first : u ++ headed own d ≡ s ++ wrapped_in c.args.around (headed own d) =
    elim c.match-around.branch [
      | in-Some+in_ok-push_header w ↦
          let extra : w.if-is_some.own_len ≡ cond w.is_some.result (1 + length (length_octets n)) 0 =
          elim w.if-is_some.branch [
            | then-is_some v ↦ v.own_len-is ∙ ap (λ m. 1 + m) v.encoded_len.ensures
                ∙ ap (λ b. cond b (1 + length (length_octets n)) 0) (sym v.if-is_some.true)
            | else-is_some v ↦ v.own_len-is
                ∙ ap (λ b. cond b (1 + length (length_octets n)) 0) (sym v.if-is_some.false)
          ] in
          wrapped_first s u d w.in-Some.wrapper c.args.around own w.is_some.result w.counts_unused_bits.result
          w.if-is_some.own_len w.tag.result n w.in-Some.is w.tag.ensures w.counts_unused_bits.ensures
          w.is_some.ensures e extra
          (λ x y. ap (λ (o : Vec ℕ Global). o.items ++ x) w.out-is ∙ w.in_ok-push_header.ensures.ok x y)
      | in_default w ↦ ap (λ (o : Vec ℕ Global). o.items ++ headed own d) w.out-is
          ∙ ap (λ o. s ++ wrapped_in o (headed own d)) (sym w.in_default.is)
    ] in
    c.in_ok-push_header-2.ensures.ok d e ∙ ap (λ t. u ++ headed t d) (sym c.in-Some-own.is) ∙ first
    ∙ ap (λ x. s ++ x) (sym (der-known c.args.around c.args.around c.args.header own d refl
    (sym c.own_tag-own.ensures)))

pub returns-in_default-own-clause-ok : goal.returns-in_default-own-clause-ok
returns-in_default-own-clause-ok c = λ d e.
    let s = c.args.out.now.items in
    let n = c.args.len in
    let own = c.own_tag-own.result in
    let u = c.match-around.out.items in
    let first : u ++ headed own d ≡ s ++ wrapped_in c.args.around (headed own d) =
    elim c.match-around.branch [
      | in-Some+in_ok-push_header w ↦
          let extra : w.if-is_some.own_len ≡ cond w.is_some.result (1 + length (length_octets n)) 0 =
          elim w.if-is_some.branch [
            | then-is_some v ↦ v.own_len-is ∙ ap (λ m. 1 + m) v.encoded_len.ensures
                ∙ ap (λ b. cond b (1 + length (length_octets n)) 0) (sym v.if-is_some.true)
            | else-is_some v ↦ v.own_len-is
                ∙ ap (λ b. cond b (1 + length (length_octets n)) 0) (sym v.if-is_some.false)
          ] in
          wrapped_first s u d w.in-Some.wrapper c.args.around own w.is_some.result w.counts_unused_bits.result
          w.if-is_some.own_len w.tag.result n w.in-Some.is w.tag.ensures w.counts_unused_bits.ensures
          w.is_some.ensures e extra
          (λ x y. ap (λ (o : Vec ℕ Global). o.items ++ x) w.out-is ∙ w.in_ok-push_header.ensures.ok x y)
      | in_default w ↦ ap (λ (o : Vec ℕ Global). o.items ++ headed own d) w.out-is
          ∙ ap (λ o. s ++ wrapped_in o (headed own d)) (sym w.in_default.is)
    ] in
    ap (λ t. u ++ headed t d) (sym c.in_default-own.is) ∙ first
    ∙ ap (λ x. s ++ x) (sym (der-known c.args.around c.args.around c.args.header own d refl
    (sym c.own_tag-own.ensures)))
